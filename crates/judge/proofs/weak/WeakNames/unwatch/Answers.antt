use Rattle.std.proofs.Common.{refl}
use Rattle.judge.proofs.Watching.{unwatches_of}
use Rattle.judge.proofs.weak.WeakNames.unwatch.Goals as goal

pub returns : goal.returns
returns c = unwatches_of c.args.self.now _ c.args.name refl c.remove.ensures.updates
