-- The current group, as a collector has it, and what holds of the heap where no arena is out.
use Rattle.std.proofs.Common.{◌≡◌, ℕ, Option, None, Some, List, length, drop, slice_get, is_some, sym, ap, subst, ◌∙◌}
use Rattle.std.proofs.Common.{inl, inr}
use Rattle.gz_names.specs.Zones.{zones_in}
use Rattle.gz_names.specs.declared.numbers.Place.{Place}
use Rattle.gz_names.specs.declared.zone_sets.ZoneSet.{ZoneSet}
use Rattle.cell_bits.specs.declared.bits.Bits.{Bits}
use Rattle.colour_defs.specs.Ends.{zones_without}
use Rattle.colour_defs.specs.Laws.{IsValid}
use Rattle.colour_defs.specs.World.{Collection, World}
use Rattle.arena_table.specs.Indexed.{in_zones}
use Rattle.heap_core.specs.Shape.{IsPresent, out_of, zone_of}
use Rattle.heap_core.specs.Heap.{HeapState}
use Rattle.barriers.specs.Colours.{IsGray}
use Rattle.barriers.specs.Invariant.{MarkingInvariant}
use Rattle.slice_driver.specs.Collector.{CollectorState, heap_with}
use Rattle.slice_driver.specs.GroupEnd.{AreColoured, DieWithOwners, IsReady}
use Rattle.slice_driver.specs.Represents.{Represents}
use Rattle.slice_driver.proofs.abstraction.Phases.{marking_of, none_formed}
use Rattle.slice_driver.specs.Units.{IsSoundMarking}
use Rattle.slice_driver.proofs.group_end.Cells.{in_zones_has}
use Rattle.slice_driver.proofs.group_end.Colours.{coloured, colours_are}
use Rattle.slice_driver.proofs.group_end.Ready.{joined_none, no_some}
use Rattle.slice_driver.proofs.abstraction.Named.{some_one}

pub record IsReadyHere (v : CollectorState) (g : ZoneSet) : Type 0 where
  pub rest : List ZoneSet
  pub ready : IsReady v g rest
  pub behind : drop 1 v.groups ≡ rest

pub ready_here : (v now : CollectorState) → v ≡ now → (g : ZoneSet) (rest : List ZoneSet) → IsReady now g rest
    → (group : ZoneSet) → slice_get v.groups 0 ≡ Some group → IsReadyHere v group
ready_here v now is g rest ready group at =
    let here : IsReady v g rest = subst (λ x. IsReady x g rest) (sym is) ready in
    let same : g ≡ group = some_one _ _ (sym (ap (λ (gs : List ZoneSet). slice_get gs 0) here.groups_are) ∙ at) in
    record {
      rest = rest;
      ready = subst (λ x. IsReady v x rest) same here;
      behind = ap (λ (gs : List ZoneSet). drop 1 gs) here.groups_are;
    }

-- at the end of a group each present cell has the colour that the end asks
pub ends_coloured : (v : CollectorState) (flown : ℕ → Option Bits) (g : ZoneSet) (rest : List ZoneSet)
    → IsReady v g rest → (w : World) (k : Collection) → IsValid w → Represents v flown w → w.collection ≡ Some k
    → AreColoured v.heap w.graph k (zones_without k.marking (zones_in g))
ends_coloured v flown g rest ready w k ok r is =
    let rep = marking_of v flown w (none_formed v flown w (ready.run, ready.running, ready.formed)) r in
    let own : heap_with v flown ≡ v.heap = joined_none v.heap flown rep.placed.delayed
    (λ a. no_some (flown a) (rep.swept.flies.covers a ∙ ap is_some (ready.kept a))) in
    subst (λ h. AreColoured h w.graph k (zones_without k.marking (zones_in g))) own
    (coloured v flown w k g rest (record { valid = ok; represents = rep; ready = ready; running = is }))

module _ (v : CollectorState) (flown : ℕ → Option Bits) (kept : (a : ℕ) → out_of v.heap.shape a ≡ None)
    (s : IsSoundMarking v flown) where
  own : heap_with v flown ≡ v.heap
  own = joined_none v.heap flown s.represents.placed.delayed
      (λ a. no_some (flown a) (s.represents.swept.flies.covers a ∙ ap is_some (kept a)))

  marks : MarkingInvariant v.heap v.stack
  marks = subst (λ (h : HeapState). MarkingInvariant h v.stack) own s.represents.coloured.marks

  pub sized_here : length v.heap.colours ≡ length v.heap.shape.arenas
  sized_here = marks.holds.colours.sized

  -- an entry whose value is white has a white map or key: else its value would have been marked
  pub die_with_owners : (g : ZoneSet) (rest : List ZoneSet) → IsReady v g rest → DieWithOwners v.heap g
  die_with_owners g rest ready = record {
    present = marks.holds.colours.shape.entries;
    owned = λ m k q has here. (
        let zones = marks.holds.colours.shape.one_zone m k q has in
        elim (colours_are v.heap m) [
          | inl white ↦ inl (ap (in_zones g.bits) zones.0 ∙ here.0, white)
          | inr seen ↦ elim (colours_are v.heap k) [
            | inl white ↦ inr (ap (in_zones g.bits) zones.1 ∙ here.0, white)
            | inr too ↦ absurd (elim (ready.marked.gray_fixed m k q has seen too
                (in_zones_has g ready.small (zone_of v.heap.shape q) here.0)) [
                  | inl gray ↦ cc (here.1, gray)
                  | inr black ↦ cc (here.1, black)
                ])
          ]
        ]);
  }

  pub gray_present : (p : Place) → IsGray v.heap p → IsPresent v.heap.shape p
  gray_present p gray = marks.holds.colours.seen_present p (inl gray)
