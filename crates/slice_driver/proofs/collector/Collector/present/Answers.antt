use Rattle.std.proofs.Common.{IsSome, ap, sym, subst, ◌∙◌}
use Rattle.heap_core.specs.Shape.{out_of}
use Rattle.heap_core.specs.Sweeping.{held_in_all}
use Rattle.slice_driver.specs.Collector.{CollectorState}
use Rattle.slice_driver.proofs.abstraction.Phases.{placed_in}
use Rattle.slice_driver.proofs.taking_in.PresentCells.{none_lost_at_all, out_made}
use Rattle.slice_driver.proofs.collector.Collector.present.Goals as goal

pub returns-in_default : goal.returns-in_default
returns-in_default c =
    c.count.ensures ∙ (ap (λ (s : CollectorState). held_in_all s.heap.shape.arenas) c.self.view_is
    ∙ none_lost_at_all c.args.self.now.heap.shape.arenas
    (placed_in c.args.self.now c.requires.0 c.requires.1.world c.requires.1.represents).lies.whole
    c.in_default.ensures.none)

pub lost_from-requires-clause-first : goal.lost_from-requires-clause-first
lost_from-requires-clause-first c =
    let out = subst (λ (s : CollectorState). IsSome (out_of s.heap.shape c.in-Some.first))
    (sym c.self.view_is) c.in-Some.ensures.some.out in
    out_made c.self.inside.heap.shape.arenas c.in-Some.first out
