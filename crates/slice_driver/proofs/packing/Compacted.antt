-- A compaction in each world that an idle collector stands for.
use Rattle.std.proofs.Common.{◌≡◌, ◌<◌, ◌≤◌, ℕ, suc, List, [], ◌∷◌, length, map, Option, None, Ok, Err, IsSome, is_some}
use Rattle.std.proofs.Common.{refl, sym, ap}
use Rattle.std.proofs.Common.{subst, ◌∙◌, arith}
use Rattle.gz_names.specs.declared.moves.Move.{Move}
use Rattle.gz_names.specs.declared.zone_sets.ZoneSet.{ZoneSet}
use Rattle.cell_bits.specs.declared.bits.Bits.{Bits}
use Rattle.weak_maps.specs.Moving.{entry_forwarded}
use Rattle.weak_maps.specs.WeakMaps.{IsSound as AreEntries}
use Rattle.weak_maps.specs.declared.entries.WeakEntry.{WeakEntry}
use Rattle.zone_edges.specs.Noted.{Noted}
use Rattle.colour_defs.specs.Compaction.{Compacts}
use Rattle.colour_defs.specs.World.{Collection, IsSettled, World}
use Rattle.colour_defs.proofs.ValidCompaction.{compact_valid}
use Rattle.compact.specs.Packing.{IsCompacted}
use Rattle.compact.specs.declared.Compacted.{Compacted}
use Rattle.heap_core.specs.Heap.{HeapState}
use Rattle.heap_core.specs.Shape.{Shape}
use Rattle.slice_driver.specs.Collector.{CollectorState, IsKept, RunState, heap_with, run_of}
use Rattle.slice_driver.specs.Closures.{AreBlack}
use Rattle.slice_driver.specs.Compacting.{CompactDone, CompactsIn}
use Rattle.slice_driver.specs.Represents.{IsColoured, IsIdle, IsInPhase, RepresentsMarking, RunsAs, going}
use Rattle.slice_driver.specs.Units.{KeepsFreedWords}
use Rattle.slice_driver.specs.declared.collector.Phase.{Phase}
use Rattle.slice_driver.specs.declared.collector.Phase.TheVariants as phase
use Rattle.slice_driver.specs.declared.compacting.CompactFault.TheVariants as fault
use Rattle.slice_driver.proofs.abstraction.Phases.{marking_of, none_idle}
use Rattle.slice_driver.proofs.abstraction.SoundAfter.{none_words}
use Rattle.slice_driver.proofs.beginning.Begun.{none_runs}
use Rattle.slice_driver.proofs.dumping.Reading.{joined_own}
use Rattle.slice_driver.proofs.packing.Coloured.{IsAtRest, coloured_after}
use Rattle.slice_driver.proofs.packing.InWorld.{compacts, world_after}
use Rattle.slice_driver.proofs.packing.Lies.{lies_after}
use Rattle.slice_driver.proofs.packing.Packed.{Packed}
use Rattle.slice_driver.proofs.packing.Phase.{black_after, idle_after}
use Rattle.slice_driver.proofs.packing.Standing.{homes_after, swept_after}

-- as many entries
entries_many : (moves : List Move) (entries : List WeakEntry)
    → length (map (entry_forwarded moves) entries) ≡ length entries
entries_many moves [] = refl
entries_many moves (e ∷ entries) = ap suc (entries_many moves entries)

-- a collector in which none runs, over a heap of which a zone is compacted
pub record IsCompacting (c : CollectorState) (zone : ℕ) (done : Compacted) (new : HeapState) : Type 0 where
  pub idle : c.run ≡ None
  pub small : zone < 64
  pub made : zone < length c.heap.shape.states
  pub entries : AreEntries c.heap.shape.weak
  pub compacted : IsCompacted c.heap zone done new

module _ (c : CollectorState) (zone : ℕ) (done : Compacted) (new : HeapState) (at : IsCompacting c zone done new)
    (flown : ℕ → Option Bits) (w : World) (rep : RepresentsMarking c flown w) where
  abbrev d : CollectorState
  d = record c { heap = new }

  none_running : w.collection ≡ None
  none_running = none_runs c flown w at.idle rep

  idle_now : IsIdle c
  idle_now = subst (λ (k : Option Collection). RunsAs (heap_with c flown) c w None k) none_running
      (subst (λ (r : Option RunState). RunsAs (heap_with c flown) c w r w.collection) at.idle rep.phase.runs)

  own : heap_with c flown ≡ c.heap
  own = joined_own c.heap flown rep.swept.flies.covers idle_now.kept rep.placed.delayed

  pub packed : Packed c.heap new w
  packed = record {
    lies = rep.placed.lies;
    idle = record { none_running = none_running; none_preparing = rep.phase.calm };
    kept = idle_now.kept;
    shape = rep.coloured.marks.holds.colours.shape;
    entries = at.entries;
    zone = zone;
    small = at.small;
    made = at.made;
    first = at.compacted.first;
    moves = at.compacted.moves;
    packs = at.compacted.packs;
    relocates = at.compacted.relocates;
  }

  pub after : World
  after = world_after c.heap new w packed

  delayed_after : new.delayed ≡ c.heap.delayed
  delayed_after = ap (λ (k : HeapState). k.delayed) at.compacted.relocates.rest

  own_after : heap_with d flown ≡ new
  unfolding packed
  own_after = joined_own new flown (swept_after c.heap new w packed flown rep.swept).flies.covers
      at.compacted.relocates.outs (delayed_after ∙ rep.placed.delayed)

  in_world : Compacts w zone done.moved done.given_up after
  unfolding packed after
  in_world = subst (λ (n : ℕ). Compacts w zone n done.given_up after) (sym at.compacted.moved_is)
      (subst (λ (n : ℕ). Compacts w zone (length at.compacted.moves) n after) (sym at.compacted.given_up_is)
      (compacts c.heap new w packed))

  at_rest : IsAtRest c.heap c.stack c.lists
  at_rest = record {
    coloured = subst (λ (k : HeapState). IsColoured k c.stack c.lists) own rep.coloured;
    states = idle_now.states;
    black = idle_now.black;
    gray = idle_now.gray;
  }

  black_here : IsSettled after → AreBlack new after
  unfolding packed after
  black_here settled = black_after c.heap new w packed after refl
      (subst (λ (k : HeapState). AreBlack k w) own
      (rep.phase.black (record { none_marking = settled.none_marking; none_preparing = settled.none_preparing })))

  runs_after : RunsAs new d after d.run after.collection
  unfolding packed after
  runs_after = subst (λ (k : Option Collection). RunsAs new d after d.run k) (sym none_running)
      (subst (λ (r : Option RunState). RunsAs new d after r None) (sym at.idle)
      (idle_after c new w packed idle_now))

  phase_after : IsInPhase new d after
  unfolding packed after
  phase_after = record { calm = rep.phase.calm; black = black_here; runs = runs_after }

  represents_after : RepresentsMarking d flown after
  unfolding packed after
  represents_after = record {
    placed = record {
      delayed = delayed_after ∙ rep.placed.delayed;
      lies = lies_after c.heap new w packed;
      homes = homes_after c.heap new w packed rep.placed.homes;
    };
    swept = swept_after c.heap new w packed flown rep.swept;
    coloured = subst (λ (k : HeapState). IsColoured k c.stack c.lists) (sym own_after)
        (coloured_after c.heap new w packed c.stack c.lists at_rest);
    phase = subst (λ (k : HeapState). IsInPhase k d after) (sym own_after) phase_after;
  }

compacts_in : (c : CollectorState) (zone : ℕ) (done : Compacted) (new : HeapState) → IsCompacting c zone done new
    → CompactsIn c zone done (record c { heap = new })
compacts_in c zone done new at flown w ok r =
    let rep = marking_of c flown w (none_idle c flown w at.idle) r in
    let does = in_world c zone done new at flown w rep in (
      after c zone done new at flown w rep,
      does,
      compact_valid w zone done.moved done.given_up (after c zone done new at flown w rep) ok does,
      going (represents_after c zone done new at flown w rep),
    )

pub compact_done : (c : CollectorState) (zone : ℕ) (done : Compacted) (new : HeapState) → IsCompacting c zone done new
    → CompactDone c zone (Ok done) (record c { heap = new })
compact_done c zone done new at =
    let does = compacts_in c zone done new at in
    let rest = at.compacted.relocates.rest in
    record {
      done = does;
      running = (λ e. absurd (cc e), λ some. absurd (let none = ap is_some at.idle in cc (none, some)));
      no_zone = (
        λ e. absurd (cc e),
        λ both. absurd (let far = both.1 in let made = at.made in omega
            (arith, far, made)),
      );
      err = tt;
      sound = λ flown s. (let b = does flown s.world s.valid s.represents in
          record { world = b.0; valid = b.2; represents = b.3 });
      words = none_words c.heap.shape new.shape at.compacted.relocates.outs;
      run = refl;
      made = ap (λ (k : HeapState). k.made) rest;
      ledger = ap (λ (k : HeapState). k.ledger) rest;
      entries = ap (λ (k : HeapState). length k.shape.weak.entries) rest
          ∙ entries_many at.compacted.moves c.heap.shape.weak.entries;
    }

-- where it was not done, all is as it was
module _ (c : CollectorState) (zone : ℕ) where
  same_words : KeepsFreedWords c.heap.shape c.heap.shape
  same_words a freed was = was

  pub refused_running : IsSome c.run → CompactDone c zone (Err fault.Running) c
  refused_running some = record {
    done = tt;
    running = (λ e. some, λ is. refl);
    no_zone = (λ e. absurd (cc e), λ both. absurd (let none = ap is_some both.0 in cc (none, some)));
    err = refl;
    sound = λ flown s. s;
    words = same_words;
    run = refl;
    made = refl;
    ledger = refl;
    entries = refl;
  }

  pub refused_zone : c.run ≡ None → length c.heap.shape.states ≤ zone → CompactDone c zone (Err fault.NoZone) c
  refused_zone idle far = record {
    done = tt;
    running = (λ e. absurd (cc e), λ some. absurd (let none = ap is_some idle in cc (none, some)));
    no_zone = (λ e. (idle, far), λ both. refl);
    err = refl;
    sound = λ flown s. s;
    words = same_words;
    run = refl;
    made = refl;
    ledger = refl;
    entries = refl;
  }

  pub refused_memory : c.run ≡ None → zone < length c.heap.shape.states → CompactDone c zone (Err fault.NoMemory) c
  refused_memory idle made = record {
    done = tt;
    running = (λ e. absurd (cc e), λ some. absurd (let none = ap is_some idle in cc (none, some)));
    no_zone = (λ e. absurd (cc e), λ both. absurd (let far = both.1 in omega (arith, far, made)));
    err = refl;
    sound = λ flown s. s;
    words = same_words;
    run = refl;
    made = refl;
    ledger = refl;
    entries = refl;
  }

-- where none runs nothing is kept besides
pub kept_idle : (s : Shape) (edges : Noted) (groups : List ZoneSet) (p : Phase) → run_of p ≡ None
    → IsKept s edges groups p
kept_idle s edges groups phase.Idle none = tt
kept_idle s edges groups (phase.Preparing zones uncleared) none = absurd (cc none)
kept_idle s edges groups (phase.Grouping zones ungrouped) none = absurd (cc none)
kept_idle s edges groups (phase.Grouped zones) none = absurd (cc none)
