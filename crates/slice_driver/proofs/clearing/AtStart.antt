-- Where marking is to begin, nothing else is left to do.
use Rattle.std.proofs.Common.{◌≡◌, ◌∙◌, ℕ, Option, None, Some, IsSome, false, true, refl, sym, ap}
use Rattle.gz_names.specs.declared.zone_sets.ZoneSet.{ZoneSet}
use Rattle.cell_bits.specs.declared.bits.Bits.{Bits}
use Rattle.mark_stack.specs.Stack.{Piles}
use Rattle.slice_driver.specs.declared.collector.Phase.{Phase}
use Rattle.slice_driver.specs.declared.collector.Phase.TheVariants as phase
use Rattle.slice_driver.specs.declared.collector.Uncleared.{Uncleared}
use Rattle.slice_driver.specs.Collector.{CollectorState, RunState, run_of}
use Rattle.slice_driver.specs.Quiet.{IsStarted}
use Rattle.slice_driver.specs.Remaining.{clearing_left}
use Rattle.slice_driver.specs.Units.{IsSound}
use Rattle.slice_driver.specs.Working.{IsAtStart, IsGrouping, IsQuietDone}
use Rattle.slice_driver.proofs.abstraction.Named.{some_one}
use Rattle.slice_driver.proofs.abstraction.Phases.{none_formed}
use Rattle.slice_driver.proofs.clearing.ClearingUnits.{preparing_of}

not_grouping : (c : CollectorState) → IsAtStart c → IsGrouping c → ⊥
not_grouping c at g =
    (let same : g.0 ≡ at.run = some_one _ _ (sym g.1 ∙ at.run_is) in
    let clearing = ap (λ (r : RunState). r.clearing) same in
    let some = at.clearing in
    cc (g.3, clearing, some))

pub start_done : (c : CollectorState) (flown : ℕ → Option Bits) → IsSound c flown → IsAtStart c → IsQuietDone c flown
start_done c flown s at =
    let rep = preparing_of c flown s.world at.uncleared (at.run, at.run_is, at.clearing) s.represents in
    record {
      cleared = at.cleared;
      black = record {
        pile = ap (λ (p : Piles). p.black) rep.cleared.waits.pending;
        looked = rep.cleared.waits.looks.1;
      };
      looked = λ g. absurd (not_grouping c at g);
      begun = λ formed. absurd (none_formed c flown s.world formed rep);
      group = λ formed. absurd (none_formed c flown s.world formed rep);
    }

-- a collection that runs and is not being prepared has begun its marking
pub started_by : (c : CollectorState) (p : Phase) → c.run ≡ run_of p → IsSome c.run
    → ((zones : ZoneSet) (uncleared : Uncleared) → p ≡ phase.Preparing zones uncleared → ⊥) → IsStarted c
started_by c phase.Idle e some none = absurd (cc (e, some))
started_by c (phase.Preparing zones uncleared) e some none = absurd (none zones uncleared refl)
started_by c (phase.Grouping zones ungrouped) e some none =
    (record { zones = zones; formed = false; clearing = None }, e, refl)
started_by c (phase.Grouped zones) e some none = (record { zones = zones; formed = true; clearing = None }, e, refl)

-- marking is to begin where no arena is left to be cleared
abbrev pub start_at : (c : CollectorState) (zones : ZoneSet) (u : Uncleared)
    → c.run ≡ Some (record { zones = zones; formed = false; clearing = Some u })
    → clearing_left c.heap.shape c.run ≡ 0 → IsAtStart c
start_at c zones u at cleared = record {
  run = record { zones = zones; formed = false; clearing = Some u };
  run_is = at;
  uncleared = u;
  clearing = refl;
  cleared = cleared;
}

-- none runs where none is kept
pub none_runs : (o : Option RunState) → o ≡ None → IsSome o → ⊥
none_runs None e some = cc some
none_runs (Some r) e some = cc e
