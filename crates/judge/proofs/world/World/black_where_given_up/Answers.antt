use Rattle.std.proofs.Common.{List, subst}
use Rattle.std.proofs.lemmas.Result.{IfOk-weaker}
use Rattle.gz_names.specs.Zones.{zones_in}
use Rattle.gz_names.specs.declared.names.Name.{Name}
use Rattle.gz_names.specs.declared.zone_sets.ZoneSet.{ZoneSet}
use Rattle.plain_graph.specs.Reach.{IsDone}
use Rattle.judge.specs.Cells.{HasCell}
use Rattle.judge.specs.Starts.{IsListOf}
use Rattle.judge.specs.Walks.{TurnsBlack}
use Rattle.judge.proofs.world.World.black_where_given_up.Goals as goal

pub returns : goal.returns
returns c =
    let world = c.args.self.now in
    IfOk-weaker c.walk_from.result _ _ (λ black done. (
      c.in_ok-starts.starts.items,
      subst (λ (z : ZoneSet). IsListOf c.in_ok-starts.starts.items (λ x. HasCell world.places x
          × TurnsBlack c.args.graph.now (zones_in z) world.phase world.black x)) c.unfinished.ensures
          c.in_ok-starts.ensures,
      subst (λ (ns : List Name). IsDone c.args.graph.now ns black) c.as_slice.ensures.value done,
    )) c.walk_from.ensures
