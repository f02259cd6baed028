use Rattle.std.proofs.Common.{inl, inr, refl}
use Rattle.std.proofs.lemmas.Result.{IfOk-weaker}
use Rattle.judge.specs.Stages.{stage_of}
use Rattle.judge.proofs.Packing.{only_made, only_refused}
use Rattle.judge.proofs.answers.compact.Goals as goal

pub returns-in-Some : goal.returns-in-Some
returns-in-Some c =
    let stage = stage_of c.args.world.now.phase in
    let refused = only_refused c.args.graph.now c.only.result c.args.zone stage c.in-Some.why c.only.ensures
    c.in-Some.ensures.some in
    IfOk-weaker c.only-in-Some.result _ _ (λ a e. inl (c.in-Some.why, refused, e, refl)) c.only-in-Some.ensures

pub compact-requires-clause-made : goal.compact-requires-clause-made
compact-requires-clause-made c =
    only_made c.args.graph.now c.only.result c.args.zone c.only.ensures c.in_default.ensures.made

pub returns : goal.returns
returns c =
    let none = c.in_default.ensures in
    let made = only_made c.args.graph.now c.only.result c.args.zone c.only.ensures none.made in
    let done = c.in_ok-compacted.compacted in
    IfOk-weaker c.only-2.result _ _
    (λ a e. inr (none.idle, made, done.moved, done.given_up, e, c.in_ok-compacted.ensures)) c.only-2.ensures
