use Rattle.std.proofs.Common.{ap, refl, subst}
use Rattle.colour_defs.specs.Graph.{GraphState}
use Rattle.judge.specs.Stages.{IsFirstGroup, Stage, stage_of}
use Rattle.judge.specs.Walks.{CatchesUp, walks_in, walks_of}
use Rattle.judge.proofs.Results.{none_is}
use Rattle.judge.proofs.world.World.group_end.Goals as goal

pub returns-clause-colours : goal.returns-clause-colours
returns-clause-colours c =
    let before = walks_in c.in-Collecting.collection in
    let after = walks_in c.catch_up.new.self in (
      before,
      after,
      ap walks_of c.in-Collecting.is,
      refl,
      subst (λ (g : GraphState). CatchesUp g before after) c.graph.ensures c.in_ok-catch_up.ensures.walks,
      c.in_ok-end.ensures.colours,
    )

pub returns-in_default-next_group-clause-none : goal.returns-in_default-next_group-clause-none
returns-in_default-next_group-clause-none c = λ group first.
    none_is c.next_group.result c.in_default-next_group.is c.next_group.ensures.none group
    (subst (λ (s : Stage). IsFirstGroup s group) (ap stage_of c.in-Collecting.is) first)
