-- What is said of a heap is said of it without its delayed cells, as the collector is seen; and a command leaves these.
use Rattle.std.proofs.Common.{◌≡◌, ℕ, Option, Result, Ok, Err, IfOk, OnErr, ap, ◌∙◌}
use Rattle.gz_names.specs.declared.commands.GraphCmd.{GraphCmd}
use Rattle.gz_names.specs.declared.commands.Kind.{Kind}
use Rattle.gz_names.specs.declared.numbers.CompNo.{CompNo}
use Rattle.gz_names.specs.declared.numbers.Place.{Place}
use Rattle.gz_names.specs.declared.replies.Reply.{Reply}
use Rattle.gz_names.specs.declared.replies.Refusal.{Refusal}
use Rattle.mark_stack.specs.Stack.{Piles}
use Rattle.arena_table.specs.Cells.{CellState}
use Rattle.weak_refs.specs.WeakNames.{WeakNamesState}
use Rattle.heap_core.specs.declared.plans.Change.{Change}
use Rattle.heap_core.specs.declared.plans.Change.TheVariants as change
use Rattle.heap_core.specs.Answers.{IsSound}
use Rattle.heap_core.specs.Heap.{HeapState, without_delayed}
use Rattle.heap_core.specs.Changes.{Makes, MakesWrapper, Writes}
use Rattle.heap_core.specs.Effects.{HoldsWrapper, MakesHeld}
use Rattle.heap_core.specs.Lookups.{IsRefused}
use Rattle.heap_core.specs.Plans.{ChangesBy}
use Rattle.heap_core.proofs.Resolved.{shows_coloured}

-- what the heap asks and says before a command
pub sound_plain : (h : HeapState) → IsSound (without_delayed h) → IsSound h
sound_plain h s = (s.0, shows_coloured (without_delayed h) h.colours h.delayed s.0 s.1)

pub refused_viewed : (h : HeapState) (c : GraphCmd) (why : Refusal) → IsRefused h c why
    → IsRefused (without_delayed h) c why
refused_viewed h c why is g shows = is g (shows_coloured (without_delayed h) h.colours h.delayed g shows)

abbrev delayed_of : HeapState → Piles
delayed_of h = h.delayed

abbrev ledger_of : HeapState → Option ℕ
ledger_of h = h.ledger

abbrev weak_names_of : HeapState → WeakNamesState
weak_names_of h = h.weak_names

-- a change
module _ (old new : HeapState) where
  writes_viewed : (p : Place) (f : ℕ) (v : Option Place) → Writes old p f v new
      → Writes (without_delayed old) p f v (without_delayed new)
  writes_viewed p f v w = record {
    rest = ap without_delayed w.rest;
    sized = w.sized;
    zones = w.zones;
    outs = w.outs;
    cells = w.cells;
    stored = w.stored;
    whole = w.whole;
  }

  makes_viewed : (zone : ℕ) (p : Place) (cell : CellState) → Makes old zone p cell new
      → Makes (without_delayed old) zone p cell (without_delayed new)
  makes_viewed zone p cell m = record {
    rest = ap without_delayed m.rest;
    place_is = m.place_is;
    free = m.free;
    grown = m.grown;
    coloured = m.coloured;
    zone_is = m.zone_is;
    below = m.below;
    zones = m.zones;
    outs = m.outs;
    in_place = m.in_place;
    cells = m.cells;
    stored = m.stored;
    whole = m.whole;
    born = m.born;
    colours = m.colours;
  }

held_viewed : (old new : HeapState) (r : ℕ) (k : Kind) (c : CompNo) → MakesHeld old r k c new
    → MakesHeld (without_delayed old) r k c (without_delayed new)
held_viewed old new r k c m = record {
  zone = m.zone;
  place = m.place;
  made = without_delayed m.made;
  home = m.home;
  makes = makes_viewed old m.made m.zone m.place _ m.makes;
  rest = ap without_delayed m.rest;
}

wrapper_viewed : (old new : HeapState) (zone : ℕ) (comp : CompNo) (number : ℕ) (target p : Place)
    → MakesWrapper old zone comp number target p new
    → MakesWrapper (without_delayed old) zone comp number target p (without_delayed new)
wrapper_viewed old new zone comp number target p m = record {
  made = without_delayed m.made;
  makes = makes_viewed old m.made zone p _ m.makes;
  rest = ap without_delayed m.rest;
  found = m.found;
  listed = m.listed;
  others = m.others;
}

holds_viewed : (old new : HeapState) (r : ℕ) (c : CompNo) (t : Place) → HoldsWrapper old r c t new
    → HoldsWrapper (without_delayed old) r c t (without_delayed new)
holds_viewed old new r c t m = record {
  zone = m.zone;
  wrapper = m.wrapper;
  between = without_delayed m.between;
  home = m.home;
  makes = wrapper_viewed old m.between m.zone c _ t m.wrapper m.makes;
  rest = ap without_delayed m.rest;
}

module _ (old new : HeapState) where
  changes_viewed : (ch : Change) (answer : Reply) → ChangesBy old ch answer new
      → ChangesBy (without_delayed old) ch answer (without_delayed new)
  changes_viewed change.Zone answer by = (ap without_delayed by.0, by.1)
  changes_viewed (change.Comp z) answer by = (ap without_delayed by.0, by.1)
  changes_viewed (change.Cell r z c k) answer by = (held_viewed old new r k c by.0, by.1)
  changes_viewed (change.Wrapper r z c t) answer by = (holds_viewed old new r c t by.0, by.1)
  changes_viewed (change.Register r v named) answer by = (ap without_delayed by.0, by.1)
  changes_viewed (change.Slot g v) answer by = (ap without_delayed by.0, by.1)
  changes_viewed (change.Field p f v) answer by = (writes_viewed old new p f v by.0, by.1)
  changes_viewed (change.Put m k v) answer by = (
    record {
      rest = ap without_delayed by.0.rest;
      values = by.0.values;
      count = by.0.count;
      entries = by.0.entries;
      rows = by.0.rows;
      delegates = by.0.delegates;
      left = by.0.left;
      parallel = by.0.parallel;
    },
    by.1,
  )
  changes_viewed (change.Del m k) answer by = (
    record {
      rest = ap without_delayed by.0.rest;
      values = by.0.values;
      count = by.0.count;
      rows = by.0.rows;
      carries = by.0.carries;
      sound = by.0.sound;
      parallel = by.0.parallel;
    },
    by.1,
  )

  -- it leaves the delayed cells as they are
  pub delayed_kept : (ch : Change) (answer : Reply) → ChangesBy old ch answer new → new.delayed ≡ old.delayed
  delayed_kept change.Zone answer by = ap delayed_of by.0
  delayed_kept (change.Comp z) answer by = ap delayed_of by.0
  delayed_kept (change.Cell r z c k) answer by = ap delayed_of by.0.rest ∙ ap delayed_of by.0.makes.rest
  delayed_kept (change.Wrapper r z c t) answer by = ap delayed_of by.0.rest
      ∙ (ap delayed_of by.0.makes.rest ∙ ap delayed_of by.0.makes.makes.rest)
  delayed_kept (change.Register r v named) answer by = ap delayed_of by.0
  delayed_kept (change.Slot g v) answer by = ap delayed_of by.0
  delayed_kept (change.Field p f v) answer by = ap delayed_of by.0.rest
  delayed_kept (change.Put m k v) answer by = ap delayed_of by.0.rest
  delayed_kept (change.Del m k) answer by = ap delayed_of by.0.rest

  -- what is named weakly
  pub weak_names_kept : (ch : Change) (answer : Reply) → ChangesBy old ch answer new → new.weak_names ≡ old.weak_names
  weak_names_kept change.Zone answer by = ap weak_names_of by.0
  weak_names_kept (change.Comp z) answer by = ap weak_names_of by.0
  weak_names_kept (change.Cell r z c k) answer by = ap weak_names_of by.0.rest ∙ ap weak_names_of by.0.makes.rest
  weak_names_kept (change.Wrapper r z c t) answer by = ap weak_names_of by.0.rest
      ∙ (ap weak_names_of by.0.makes.rest ∙ ap weak_names_of by.0.makes.makes.rest)
  weak_names_kept (change.Register r v named) answer by = ap weak_names_of by.0
  weak_names_kept (change.Slot g v) answer by = ap weak_names_of by.0
  weak_names_kept (change.Field p f v) answer by = ap weak_names_of by.0.rest
  weak_names_kept (change.Put m k v) answer by = ap weak_names_of by.0.rest
  weak_names_kept (change.Del m k) answer by = ap weak_names_of by.0.rest

  -- and the ledger in which edges are counted
  pub ledger_kept : (ch : Change) (answer : Reply) → ChangesBy old ch answer new → new.ledger ≡ old.ledger
  ledger_kept change.Zone answer by = ap ledger_of by.0
  ledger_kept (change.Comp z) answer by = ap ledger_of by.0
  ledger_kept (change.Cell r z c k) answer by = ap ledger_of by.0.rest ∙ ap ledger_of by.0.makes.rest
  ledger_kept (change.Wrapper r z c t) answer by = ap ledger_of by.0.rest
      ∙ (ap ledger_of by.0.makes.rest ∙ ap ledger_of by.0.makes.makes.rest)
  ledger_kept (change.Register r v named) answer by = ap ledger_of by.0
  ledger_kept (change.Slot g v) answer by = ap ledger_of by.0
  ledger_kept (change.Field p f v) answer by = ap ledger_of by.0.rest
  ledger_kept (change.Put m k v) answer by = ap ledger_of by.0.rest
  ledger_kept (change.Del m k) answer by = ap ledger_of by.0.rest

  -- what the heap answers to a plan
  pub committed_viewed : {E : Type 0} (ch : Change) (r : Result Reply E)
      → IfOk r (λ answer. ChangesBy old ch answer new)
      → IfOk r (λ answer. ChangesBy (without_delayed old) ch answer (without_delayed new))
  committed_viewed ch (Ok answer) by = changes_viewed ch answer by
  committed_viewed ch (Err why) by = tt

  pub uncommitted_viewed : {E : Type 0} (r : Result Reply E) → OnErr r (new ≡ old)
      → OnErr r (without_delayed new ≡ without_delayed old)
  uncommitted_viewed (Ok answer) same = tt
  uncommitted_viewed (Err why) same = ap without_delayed same

  pub committed_delayed : {E : Type 0} (ch : Change) (r : Result Reply E)
      → IfOk r (λ answer. ChangesBy old ch answer new)
      → OnErr r (new ≡ old) → new.delayed ≡ old.delayed
  committed_delayed ch (Ok answer) by same = delayed_kept ch answer by
  committed_delayed ch (Err why) by same = ap delayed_of same
