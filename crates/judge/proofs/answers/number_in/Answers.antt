use Rattle.std.proofs.Common.{◌≡◌, ◌∙◌, ℕ, ◌<◌, ◌^◌, List, ap, subst, sym}
use Rattle.std.specs.Fmt.{decimal}
use Rattle.std.specs.Result.{result_ok}
use Rattle.std.specs.Str.{IsUtf8}
use Rattle.std.proofs.lemmas.Fmt.{IsAscii-decimal, parse-decimal}
use Rattle.std.proofs.lemmas.Str.{IsUtf8-from_ascii}
use Rattle.judge.proofs.answers.number_in.Goals as goal

is_utf8 : (text : List ℕ) (k : ℕ) → k < 2 ^ 64 → text ≡ decimal k → IsUtf8 text
is_utf8 text k small e =
    subst (λ (bs : List ℕ). IsUtf8 bs) (sym e) (IsUtf8-from_ascii (decimal k) (IsAscii-decimal k small))

pub returns-in-Err : goal.returns-in-Err
returns-in-Err c = λ k small e. absurd (c.in-Err.ensures.cases.0 (is_utf8 c.args.text.now k small e))

pub returns-in-Ok : goal.returns-in-Ok
returns-in-Ok c = λ k small e.
    let text = c.in-Ok.ensures.cases.0 ∙ e in
    c.ok.ensures.value ∙ ap result_ok (parse-decimal 64 k _ _ small small text c.parse.ensures.value.0)
