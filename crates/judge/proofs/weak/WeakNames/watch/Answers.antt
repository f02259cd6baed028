use Rattle.std.proofs.Common.{refl}
use Rattle.judge.proofs.Watching.{watches_of}
use Rattle.judge.proofs.weak.WeakNames.watch.Goals as goal

pub returns : goal.returns
returns c = watches_of c.args.self.now _ c.args.name refl c.in_ok-insert.ensures.updates
