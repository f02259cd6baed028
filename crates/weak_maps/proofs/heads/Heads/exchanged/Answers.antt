use Rattle.std.proofs.Common.{◌≡◌, ◌∙◌, take, get_or, sym, ap, arith}
use Rattle.std.proofs.lemmas.List.{take_more}
use Rattle.gz_names.specs.declared.moves.Move.{Move}
use Rattle.weak_maps.specs.Heads.{head_of}
use Rattle.weak_maps.specs.Moving.{exchanged, other_of}
use Rattle.weak_maps.proofs.Exchanging.{exchanged-push}
use Rattle.weak_maps.proofs.heads.Heads.exchanged.Goals as goal

pub loop-step-preserved : goal.loop-step-preserved
loop-step-preserved c = λ q.
    (let moves = c.as_slice-step-items.result.now in
    let i = c.loop-step.step-index in
    let step = c.step-item.result in
    c.in_ok-exchange.ensures q ∙ c.loop-step.invariant (other_of step q)
    ∙ ap (head_of c.in_ok-heads.heads)
    (ap (λ (m : Move). exchanged (take i moves) (other_of m q)) c.step-item.is
    ∙ sym (exchanged-push (take i moves) (get_or moves i step) q)
    ∙ ap (λ l. exchanged l q) (sym (take_more moves i step (omega arith)))))
