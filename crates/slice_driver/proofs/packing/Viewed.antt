-- What is said of a compacted heap is said of it without its delayed cells.
use Rattle.std.proofs.Common.{◌≡◌, ℕ, List, ap, sym}
use Rattle.gz_names.specs.declared.moves.Move.{Move}
use Rattle.mark_stack.specs.Stack.{Piles, no_places}
use Rattle.compact.specs.Packing.{IsCompacted}
use Rattle.compact.specs.declared.Compacted.{Compacted}
use Rattle.heap_core.specs.Heap.{HeapState, without_delayed}
use Rattle.heap_core.specs.Moving.{MayRelocate, Relocates}
use Rattle.heap_core.proofs.Resolved.{shows_coloured}
use Rattle.barriers.specs.Pending.{pending}
use Rattle.slice_driver.proofs.commanding.Viewed.{sound_plain}

pub may_plain : (m : HeapState) → MayRelocate (without_delayed m) → MayRelocate m
may_plain m may = record {
  sound = sound_plain m may.sound;
  whole = may.whole;
  kept = may.kept;
  made = may.made;
  across = may.across;
  delegates = may.delegates;
  slots_held = may.slots_held;
  watched_held = may.watched_held;
}

relocates_viewed : (m new : HeapState) (zone first : ℕ) (moves : List Move) → Relocates m zone first moves new
    → Relocates (without_delayed m) zone first moves (without_delayed new)
relocates_viewed m new zone first moves re = record {
  rest = ap without_delayed re.rest;
  cells = re.cells;
  back = re.back;
  zones = re.zones;
  colours = re.colours;
  clear = re.clear;
  owners = re.owners;
  outs = re.outs;
  whole = re.whole;
  sized = re.sized;
  shows = λ g shown. shows_coloured new new.colours no_places g
      (re.shows g (shows_coloured (without_delayed m) m.colours m.delayed g shown));
}

pub compacted_viewed : (m new : HeapState) (zone : ℕ) (done : Compacted) → IsCompacted m zone done new
    → IsCompacted (without_delayed m) zone done (without_delayed new)
compacted_viewed m new zone done is = record {
  first = is.first;
  moves = is.moves;
  packs = is.packs;
  moved_is = is.moved_is;
  given_up_is = is.given_up_is;
  relocates = relocates_viewed m new zone is.first is.moves is.relocates;
}

-- and what is pending is as it was
pub compacted_pending : (m new : HeapState) (zone : ℕ) (done : Compacted) → IsCompacted m zone done new → (s : Piles)
    → pending m s ≡ pending new s
compacted_pending m new zone done is s = sym (ap (λ (k : HeapState). pending k s) is.relocates.rest)
