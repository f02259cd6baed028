-- What a reader of lines gives.
use Rattle.std.proofs.Common.{◌≡◌, ℕ, ◌<◌, true, false, inl, inr, List, [], ◌∷◌, ◌++◌, length, Option, Some, None}
use Rattle.std.proofs.Common.{refl, sym, ap, subst, ◌∙◌, append_assoc, arith}
use Rattle.std.proofs.lemmas.List.{append-nil}
use Rattle.std.specs.Io.KnownBytes.{Consumes, IsAtEnd, Keeps, prepend_known}
use Rattle.judge.specs.Lines.{GivesKnownLine, IsOneLine, TakesHeld}
use Rattle.judge.specs.declared.lines.NextLine.TheVariants as next
use Rattle.judge.proofs.Bytes.{lacks_both}

-- the bytes to come are those of the line, those that are held, and those that are left
abbrev pub HasTaken : Option (List ℕ) → List ℕ → List ℕ → Option (List ℕ) → Type 0
HasTaken all line held left = Keeps all (prepend_known (line ++ held) left)

pub whole_line : (all left : Option (List ℕ)) (line held new_line new_held : List ℕ) → HasTaken all line held left
    → IsOneLine line → TakesHeld true held new_held line new_line
    → GivesKnownLine all (prepend_known new_held left) next.Line new_line
whole_line None left line held new_line new_held k one t = tt
whole_line (Some xs) None line held new_line new_held k one t = absurd k
whole_line (Some xs) (Some ys) line held new_line new_held k one t = (
  subst IsOneLine (sym t.3) (lacks_both 10 line t.0 one t.1),
  inl (sym k
      ∙ ap (λ h. (line ++ h) ++ ys) t.2
      ∙ ap (λ h. h ++ ys) (sym (append_assoc line t.0 (10 ∷ new_held)))
      ∙ append_assoc (line ++ t.0) (10 ∷ new_held) ys
      ∙ ap (λ l. l ++ 10 ∷ (new_held ++ ys)) (sym t.3)),
)

pub more_held : (all left : Option (List ℕ)) (line held new_line new_held : List ℕ) → HasTaken all line held left
    → TakesHeld false held new_held line new_line → HasTaken all new_line new_held left
more_held all left line held new_line new_held k t =
    subst (λ l. Keeps all (prepend_known l left)) (sym (ap (λ h. new_line ++ h) t.1 ∙ append-nil new_line ∙ t.2)) k

pub still_one : (line held new_line new_held : List ℕ) → IsOneLine line → TakesHeld false held new_held line new_line
    → IsOneLine new_line
still_one line held new_line new_held one t = subst IsOneLine (sym t.2) (lacks_both 10 line held one t.0)

-- a piece was taken where nothing was held
pub more_taken : (all left rest : Option (List ℕ)) (line held new_held : List ℕ) → HasTaken all line held left
    → held ≡ [] → Consumes left rest new_held → HasTaken all line new_held rest
more_taken None left rest line held new_held k e c = tt
more_taken (Some xs) None rest line held new_held k e c = absurd k
more_taken (Some xs) (Some ys) None line held new_held k e c = absurd c
more_taken (Some xs) (Some ys) (Some zs) line held new_held k e c =
    append_assoc line new_held zs ∙ ap (λ t. line ++ t) (sym c)
    ∙ ap (λ t. t ++ ys) (sym (ap (λ h. line ++ h) e ∙ append-nil line)) ∙ k

pub no_length : {X : Type 0} (xs : List X) → length xs ≡ 0 → xs ≡ []
no_length [] e = refl
no_length (x ∷ xs) e = absurd (omega arith)

-- the source failed
pub failed_line : (all left rest : Option (List ℕ)) (line held new_held : List ℕ) → HasTaken all line held left
    → Keeps left rest → GivesKnownLine all (prepend_known new_held rest) next.ReadFault line
failed_line None left rest line held new_held k same = tt
failed_line (Some xs) None rest line held new_held k same = absurd k
failed_line (Some xs) (Some ys) None line held new_held k same = absurd same
failed_line (Some xs) (Some ys) (Some zs) line held new_held k same = tt

-- the input is over, and the last line has no line feed
pub last_line : (all left : Option (List ℕ)) (line held : List ℕ) → HasTaken all line held left → length held ≡ 0
    → IsAtEnd left → 0 < length line → IsOneLine line → GivesKnownLine all (prepend_known held left) next.Line line
last_line None left line held h none end some one = tt
last_line (Some xs) None line held h none end some one = absurd h
last_line (Some xs) (Some ys) line held h none end some one =
    let e : held ≡ [] = no_length held none in (
      one,
      inr (
        sym h ∙ ap (λ t. (line ++ t) ++ ys) e ∙ ap (λ t. (line ++ []) ++ t) end ∙ append-nil (line ++ [])
            ∙ append-nil line,
        some,
        ap (λ t. t ++ ys) e ∙ end,
      ),
    )
