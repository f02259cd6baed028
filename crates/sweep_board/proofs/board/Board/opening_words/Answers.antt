use Rattle.std.proofs.Common.{◌≡◌, ◌∷◌, ◌++◌, [], ℕ, ◌≤◌, List, length, take, sym, ap, ◌∙◌, arith}
use Rattle.std.proofs.lemmas.Grind.{common_steps}
use Rattle.cell_bits.specs.declared.jobs.Job.{Job}
use Rattle.sweep_board.specs.Rule.{opening_words}
use Rattle.sweep_board.proofs.Opening.{one_more, opening_words-rest, opens}
use Rattle.sweep_board.proofs.board.Board.opening_words.Goals as goal

take-all : (js : List Job) (n : ℕ) → length js ≤ n → take n js ≡ js
take-all js n le = grind (arith, common_steps)

pub loop-job-preserved : goal.loop-job-preserved
loop-job-preserved c = c.in_ok-extend_from_slice.ensures.items
    ∙ one_more c.args.jobs.now c.loop-job.job-index c.loop-job.words.items (omega arith) c.loop-job.invariant

pub returns : goal.returns
returns c = opens c.args.jobs.now _
    (c.in_ok-push.ensures.items ∙ ap (λ (l : List ℕ). l ++ 0 ∷ [])
    (c.loop-job.invariant ∙ ap (λ (l : List Job). opening_words l [])
    (take-all c.args.jobs.now c.loop-job.job-index (omega arith))) ∙ sym
    (opening_words-rest c.args.jobs.now (0 ∷ [])))
