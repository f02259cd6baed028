use Rattle.std.proofs.Common.{◌∙◌}
use Rattle.spec_replay.proofs.Written.{name_written}
use Rattle.spec_replay.proofs.answer.write_names.Goals as goal

pub loop-name-preserved : goal.loop-name-preserved
loop-name-preserved g c = (
  name_written _ _ _ _ c.args.names.now c.loop-name.name-index _ c.loop-name-test.true c.loop-name.invariant.0
      c.in_ok-write_all.ensures.ok c.in_ok-write_name.ensures.ok,
  c.in_ok-write_name.ensures.cause.same ∙ (c.in_ok-write_all.ensures.cause.same ∙ c.loop-name.invariant.1),
)
