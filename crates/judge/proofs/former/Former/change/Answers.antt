use Rattle.std.proofs.Common.{refl}
use Rattle.std.proofs.lemmas.Result.{on_ok_weaker}
use Rattle.judge.proofs.Formers.{takes_kept, takes_now}
use Rattle.judge.proofs.former.Former.change.Goals as goal

pub returns-then-self : goal.returns-then-self
returns-then-self c =
    on_ok_weaker c.keep_change.result
    (λ more. takes_kept c.args.self.now _ c.args.change.now c.if-self.true refl refl more) c.keep_change.ensures

pub returns : goal.returns
returns c =
    on_ok_weaker c.do_one.result
    (λ done. takes_now c.args.self.now _ c.args.change.now c.if-self.false refl done refl) c.do_one.ensures
