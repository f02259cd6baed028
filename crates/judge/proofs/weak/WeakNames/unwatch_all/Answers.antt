use Rattle.std.proofs.Common.{◌∙◌, refl, arith}
use Rattle.judge.proofs.Watching.{unwatched_all, unwatched_more, unwatched_none}
use Rattle.judge.proofs.weak.WeakNames.unwatch_all.Goals as goal

pub loop-name-init : goal.loop-name-init
loop-name-init c = record { slots = refl; watched = unwatched_none c.args.self.now }

pub loop-name-preserved : goal.loop-name-preserved
loop-name-preserved c = record {
  slots = c.unwatch.ensures.slots_are ∙ c.loop-name.invariant.slots;
  watched = unwatched_more c.args.self.now c.loop-name.self c.unwatch.new.self c.args.names.now c.loop-name.name-index _
      c.loop-name-test.true c.loop-name.invariant.watched c.unwatch.ensures;
}

pub returns-clause-watched : goal.returns-clause-watched
returns-clause-watched c =
    unwatched_all c.args.self.now c.loop-name.self c.args.names.now c.loop-name.name-index (omega arith)
    c.loop-name.invariant.watched
