use Rattle.std.proofs.Common.{◌∙◌, refl, sym}
use Rattle.judge.proofs.Watching.{unwatched_as}
use Rattle.judge.proofs.weak.WeakNames.lose.Goals as goal

pub returns-clause-watched : goal.returns-clause-watched
returns-clause-watched c =
    unwatched_as c.args.self.now c.unwatch_all.new.self
    (record c.unwatch_all.new.self { slots = c.lose_absent.new.slots }) c.as_slice.result.now c.from_vec.result refl
    (c.from_vec.ensures ∙ sym c.as_slice.ensures.value) c.unwatch_all.ensures.watched
