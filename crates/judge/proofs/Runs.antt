-- Lines that are judged, one more behind the others.
use Rattle.std.proofs.Common.{◌≡◌, ℕ, ◌+◌, List, [], Option, Some, None, drop, refl, subst, sym}
use Rattle.std.specs.Io.KnownBytes.{prepend_known}
use Rattle.gz_io.specs.Lines.{EndsLine}
use Rattle.colour_defs.specs.Graph.{GraphState, empty_graph}
use Rattle.judge.specs.Lines.{GivesKnownLine, GivesLine, IsOneLine}
use Rattle.judge.specs.Stages.{Shown, IsFirst}
use Rattle.judge.specs.Replies.{Due, nothing, reply, dump, units, resets, Judged, none, due_as}
use Rattle.judge.specs.Verdicts.{HasJudged, IsBadLine, IsCut, IsFirstBad, IsFirstWrong, IsJudgedWhole, IsNext}
use Rattle.judge.specs.Verdicts.{IsWrongLine}
use Rattle.judge.specs.declared.answers.Awaited.{Awaited}
use Rattle.judge.specs.declared.answers.Awaited.TheVariants as awaited
use Rattle.judge.specs.declared.lines.NextLine.{NextLine}
use Rattle.judge.specs.declared.lines.NextLine.TheVariants as next

-- what a reader gave of known bytes
pub gives_of : (o n : Option (List ℕ)) (r : NextLine) (line rest : List ℕ) → GivesKnownLine o n r line → o ≡ Some rest
    → (more : List ℕ) × (n ≡ Some more) × GivesLine rest more r line
gives_of None n r line rest h e = absurd (cc e)
gives_of (Some xs) None r line rest h e = absurd h
gives_of (Some xs) (Some ys) r line rest h e = let p : xs ≡ rest = cc e in
    (ys, refl, subst (λ t. GivesLine t ys r line) p h)

-- a reader that holds nothing
pub none_held : (held : List ℕ) (left : Option (List ℕ)) (input : List ℕ) → held ≡ [] → left ≡ Some input
    → prepend_known held left ≡ Some input
none_held held left input e f =
    subst (λ h. prepend_known h left ≡ Some input) (sym e) (subst (λ o. prepend_known [] o ≡ Some input) (sym f) refl)

-- nothing was read yet
pub start_judged : (input : List ℕ) (g : GraphState) (s : Shown) (due : Due) → g ≡ empty_graph → IsFirst s
    → due ≡ nothing → Judged input 0 input g s due
start_judged input g s due e first f =
    subst (λ h. Judged input 0 input h s due) (sym e)
    (subst (λ d. Judged input 0 input empty_graph s d) (sym f) (none first))

-- something is due where something is awaited
pub some_due : (a : Awaited) → (a ≡ awaited.Nothing → ⊥) → due_as a ≡ nothing → ⊥
some_due awaited.Nothing n e = n refl
some_due (awaited.Reply text) n e = let q : reply text.items ≡ nothing = e in cc q
some_due (awaited.Dump lines next) n e = let q : dump (drop next lines.items) ≡ nothing = e in cc q
some_due (awaited.Units running) n e = let q : units running.most running.collects running.reports ≡ nothing = e in cc q
some_due awaited.Reset n e = let q : resets ≡ nothing = e in cc q

-- how a transcript ends, or goes wrong
pub whole_judged : (input rest : List ℕ) (n : ℕ) (a : Awaited) → HasJudged input n rest (due_as a) → rest ≡ []
    → a ≡ awaited.Nothing → IsJudgedWhole input
whole_judged input rest n a j over whole =
    (n, subst (λ ys. HasJudged input n ys nothing) over (subst (λ b. HasJudged input n rest (due_as b)) whole j))

pub cut_judged : (input rest : List ℕ) (n : ℕ) (a : Awaited) → HasJudged input n rest (due_as a) → rest ≡ []
    → (a ≡ awaited.Nothing → ⊥) → IsCut input
cut_judged input rest n a j over some =
    (n, due_as a, subst (λ ys. HasJudged input n ys (due_as a)) over j, some_due a some)

abbrev next_of : (input rest more line : List ℕ) (n : ℕ) (due : Due) → HasJudged input n rest due → IsOneLine line
    → EndsLine rest more line → IsNext input n due line
next_of input rest more line n due j one e =
    record { rest = rest; more = more; before = j; one = one; ends = e }

pub bad_judged : (input rest more line : List ℕ) (n : ℕ) (due : Due) → HasJudged input n rest due
    → GivesLine rest more next.Line line → IsBadLine line → IsFirstBad input (n + 1)
bad_judged input rest more line n due j gives bad =
    (n, due, line, refl, next_of input rest more line n due j gives.0 gives.1, bad)

pub wrong_judged : (input rest more line : List ℕ) (n : ℕ) (due : Due) (j : HasJudged input n rest due)
    → GivesLine rest more next.Line line → IsWrongLine j.graph j.shows due line → IsFirstWrong input (n + 1)
wrong_judged input rest more line n due j gives wrong =
    (n, due, line, refl, next_of input rest more line n due j gives.0 gives.1, wrong)
