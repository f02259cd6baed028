use Rattle.judge.proofs.Starts.{put_more}
use Rattle.judge.proofs.preparation.set_of.Goals as goal

pub loop-name-preserved : goal.loop-name-preserved
loop-name-preserved c =
    put_more c.loop-name.set c.insert.new.self c.args.names.now c.loop-name.name-index _ c.loop-name-test.true
    c.loop-name.invariant c.in_ok-insert.ensures.updates
