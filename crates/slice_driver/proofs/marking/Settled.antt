-- Where no zone is marking, no unit is left that reports nothing.
use Rattle.std.proofs.Common.{◌≡◌, ◌≢◌, [], ℕ, Option, Some, true, false, inl, inr, ap, slice_get, subst}
use Rattle.gz_names.specs.Zones.{HasZone}
use Rattle.gz_names.specs.declared.zone_sets.ZoneSet.{ZoneSet}
use Rattle.cell_bits.specs.declared.bits.Bits.{Bits}
use Rattle.zones.specs.declared.states.State.TheVariants as state
use Rattle.gray_lists.specs.Incoming.{list_of}
use Rattle.zone_edges.specs.Looks.{AreAllLookedAt}
use Rattle.colour_defs.specs.World.{Collection}
use Rattle.colour_defs.proofs.Lists.{contains_at}
use Rattle.heap_core.specs.Shape.{is_marking_state, state_in, zone_of}
use Rattle.slice_driver.specs.Collector.{CollectorState, RunState, heap_with}
use Rattle.slice_driver.specs.Quiet.{IsFormed, IsStarted}
use Rattle.slice_driver.specs.Represents.{Runs}
use Rattle.slice_driver.specs.Units.{IsSoundMarking}
use Rattle.slice_driver.specs.Working.{IsGrouping, IsQuietDone}
use Rattle.slice_driver.proofs.abstraction.Phases.{none_to_clear}
use Rattle.slice_driver.proofs.abstraction.Waits.{none_in_it, none_piled}
use Rattle.slice_driver.proofs.group_end.Ready.{collection_of, runs_of}

module _ (c : CollectorState) (flown : ℕ → Option Bits) (s : IsSoundMarking c flown)
    (started : IsStarted c)
    (rests : (z : ℕ) → is_marking_state (state_in c.heap.shape z) ≡ false) where
  not_marking : (z : ℕ) → is_marking_state (state_in c.heap.shape z) ≡ true → ⊥
  not_marking z on = (let off = rests z in cc (on, off))

  no_gray : (z : ℕ) → state_in c.heap.shape z ≢ state.MarkBlackAndGray
  no_gray z is = not_marking z (ap is_marking_state is)

  no_black : (z : ℕ) → state_in c.heap.shape z ≢ state.MarkBlackOnly
  no_black z is = not_marking z (ap is_marking_state is)

  -- the collection that runs
  the_runs : (r : RunState) → c.run ≡ Some r → (k : Collection) × Runs (heap_with c flown) c s.world r k
  the_runs r running =
      let at = collection_of c (heap_with c flown) s.world r running s.represents.phase.runs in
      (at.0, runs_of c (heap_with c flown) s.world r at.0 running at.1 s.represents.phase.runs)

  -- the zones of a collection whose groups are not formed are marking, so it has none
  all_looked : IsGrouping c → AreAllLookedAt c.heap.shape c.edges
  all_looked g z has =
      let runs = (the_runs g.0 g.1).1 in
      let in_run = subst (λ (zones : ZoneSet). HasZone zones.bits z) (runs.early g.2).zones_are has in
      absurd (no_black z (runs.states.early g.2 z in_run))

  -- nor has the current group
  none_current : IsFormed c → (g : ZoneSet) → slice_get c.groups 0 ≡ Some g → (z : ℕ) → HasZone g.bits z → ⊥
  none_current formed g first z has =
      let runs = (the_runs formed.0 formed.1).1 in
      elim (runs.states.later formed.2 z (g, contains_at c.groups 0 g first, has)) [
        | inl black ↦ no_black z black
        | inr gray ↦ no_gray z gray.1
      ]

  none_incoming : (n : ℕ) → list_of c.lists n ≡ []
  none_incoming n = none_in_it (list_of c.lists n) (λ p has.
      let zone = s.represents.coloured.waits.incoming n p has in not_marking zone.0 zone.2)

  pub settled_quiet : IsQuietDone c flown
  settled_quiet = record {
    cleared = none_to_clear c started;
    black = record {
      pile = none_in_it c.stack.black (λ x has.
          not_marking (zone_of c.heap.shape x) (s.represents.coloured.marks.holds.piles.black x has).1);
      looked = (s.represents.coloured.waits.looks rests).1;
    };
    looked = all_looked;
    begun = λ formed g first z. (λ has. absurd (none_current formed g first z has), λ is. absurd (no_gray z is));
    group = λ formed g first. record {
      idle = record {
        pile = none_piled (heap_with c flown) c.stack c.lists s.represents.coloured.waits no_gray;
        buffers = λ z has. s.represents.coloured.waits.buffered z (rests z);
        incoming = λ z n has at. none_incoming n;
      };
      looked = (s.represents.coloured.waits.looks rests).0;
    };
  }
