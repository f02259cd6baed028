use Rattle.std.proofs.Common.{◌≡◌, ◌<◌, ℕ, sym, subst, ◌∙◌}
use Rattle.std.specs.Int.{bit_at}
use Rattle.gz_names.specs.declared.zone_sets.ZoneSet.{ZoneSet}
use Rattle.slice_driver.specs.Collector.{CollectorState}
use Rattle.slice_driver.specs.Quiet.{IsFormed}
use Rattle.slice_driver.specs.Working.{HasGroups}
use Rattle.slice_driver.specs.contracts.collector.Collector.{the_view}
use Rattle.slice_driver.proofs.abstraction.Named.{some_one}
use Rattle.slice_driver.proofs.marking.AtGroupEnd.{more_of}
use Rattle.slice_driver.proofs.collector.Collector.groups_law.Goals as goal

pub returns-in_default : goal.returns-in_default
returns-in_default c =
    let v : CollectorState = the_view c.self.inside in
    subst (λ (x : CollectorState). HasGroups x) c.self.view_is (record {
      small = λ g e. absurd (let first = c.current.ensures in let none = c.in_default.is in cc (first, none, e));
      more = λ (f : IsFormed v). more_of v.heap.shape v.edges v.groups c.self.inside.phase f.0 f.1 f.2 c.self.invariant;
    })

pub returns : goal.returns
returns c =
    let v : CollectorState = the_view c.self.inside in
    let at = sym c.current.ensures ∙ c.in-Some.is in
    subst (λ (x : CollectorState). HasGroups x) c.self.view_is (record {
      small = λ g e. subst (λ (y : ZoneSet). (z : ℕ) → bit_at y.bits z ≡ 1 → z < 64) (some_one _ _ (sym at ∙ e))
          c.word_law.ensures;
      more = λ (f : IsFormed v). more_of v.heap.shape v.edges v.groups c.self.inside.phase f.0 f.1 f.2 c.self.invariant;
    })
