use Rattle.std.proofs.Common.{◌≡◌, ◌∙◌, ℕ, inl, inr, List, Option, subst, sym}
use Rattle.std.specs.Io.KnownBytes.{Appends}
use Rattle.judge.specs.Endings.{EndsBy, wrong_text}
use Rattle.judge.specs.Verdicts.{IsFirstWrong}
use Rattle.judge.specs.declared.judging.JudgeEnd.{JudgeEnd}
use Rattle.judge.specs.declared.judging.JudgeEnd.TheVariants as end
use Rattle.judge.proofs.Concluding.{wrong_first}
use Rattle.judge.proofs.Ends.{Wrote, fault_rose, no_read_fault}
use Rattle.judge.proofs.judging.tell_wrong.Goals as goal

wrong_written : (input : List ℕ) (result : JudgeEnd) (old new : Option (List ℕ)) (before after line : ℕ)
    (kind text : List ℕ) → IsFirstWrong input line → text ≡ wrong_text line kind
    → Wrote result (end.Unlawful line) old new text before after → EndsBy input old new result
wrong_written input result old new before after line kind text w same (inl (is, done)) =
    subst (λ r. EndsBy input old new r) (sym is)
    (wrong_first input line w, kind, subst (λ t. Appends old new t) same done)
wrong_written input result old new before after line kind text w same (inr (is, front, rose)) =
    subst (λ r. EndsBy input old new r) (sym is)
    (text, inr (line, kind, wrong_first input line w, same), front)

pub returns-in-Ok-clause-verdict : goal.returns-in-Ok-clause-verdict
returns-in-Ok-clause-verdict g c = λ input w.
    wrong_written input c.write.result _ _ _ _ c.args.line c.args.kind.now _ w
    (c.as_slice.ensures.value ∙ c.in-Ok.ensures) c.write.ensures

pub returns-in-Ok-clause-read : goal.returns-in-Ok-clause-read
returns-in-Ok-clause-read g c = λ e. no_read_fault c.write.result _ _ _ _ _ _ (λ q. cc q) c.write.ensures e

pub returns-in-Ok-clause-write : goal.returns-in-Ok-clause-write
returns-in-Ok-clause-write g c = λ e. fault_rose c.write.result _ _ _ _ _ _ (λ q. cc q) c.write.ensures e
