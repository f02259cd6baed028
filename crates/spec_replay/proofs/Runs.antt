-- Lines that were answered, one more behind the others.
use Rattle.std.proofs.Common.{◌≡◌, ℕ, ◌+◌, ◌⊎◌, inl, inr, List, [], ◌++◌, Option, Some, None, refl, subst, sym}
use Rattle.std.specs.Io.KnownBytes.{Appends, prepend_known}
use Rattle.std.proofs.KnownBytes.{Appends-trans}
use Rattle.std.proofs.lemmas.List.{append-nil}
use Rattle.gz_io.specs.Lines.{EndsLine, Gives, GivesKnown, IsNotAscii, IsTooLong}
use Rattle.gz_io.specs.declared.reader.Next.{Next}
use Rattle.gz_io.specs.declared.reader.Next.TheVariants as reader
use Rattle.colour_defs.specs.Graph.{GraphState}
use Rattle.spec_replay.specs.Answers.{Answers, AnswersLine, next}

-- what the reader gave of known bytes
pub gives_of : (o n : Option (List ℕ)) (r : Next) (line rest : List ℕ) → GivesKnown o n r line → o ≡ Some rest
    → (more : List ℕ) × (n ≡ Some more) × Gives rest more r line
gives_of None n r line rest h e = absurd (cc e)
gives_of (Some xs) None r line rest h e = absurd h
gives_of (Some xs) (Some ys) r line rest h e = let p : xs ≡ rest = cc e in
    (ys, refl, subst (λ t. Gives t ys r line) p h)

pub bad_of : (rest more line : List ℕ) (r : Next) → Gives rest more r line
    → (r ≡ reader.TooLong) ⊎ (r ≡ reader.NotAscii) → IsTooLong rest ⊎ IsNotAscii rest
bad_of rest more line r g (inl p) = let h : Gives rest more reader.TooLong line =
    subst (λ t. Gives rest more t line) p g in inl h.1
bad_of rest more line r g (inr p) = let h : Gives rest more reader.NotAscii line =
    subst (λ t. Gives rest more t line) p g in inr h.1

-- a line more
pub more_answered : (input rest more line given text answer : List ℕ) (n : ℕ) (g h k : GraphState)
    (o p q : Option (List ℕ)) → Answers g input n rest text h → Appends o p text → EndsLine rest more line
    → given ≡ line → AnswersLine h given answer k → Appends p q answer
    → (all : List ℕ) × Answers g input (n + 1) more all k × Appends o q all
more_answered input rest more line given text answer n g h k o p q so w e same a v = (
  text ++ answer,
  next so e (subst (λ t. AnswersLine h t answer k) same a),
  Appends-trans o p q text answer w v,
)

-- nothing more was written
pub none_more : (text : List ℕ) (o p q : Option (List ℕ)) → Appends o p text → Appends p q [] → Appends o q text
none_more text o p q w v = subst (λ t. Appends o q t) (append-nil text) (Appends-trans o p q text [] w v)

-- a reader that holds nothing
pub none_held : (held : List ℕ) (left : Option (List ℕ)) (input : List ℕ) → held ≡ [] → left ≡ Some input
    → prepend_known held left ≡ Some input
none_held held left input e f =
    subst (λ h. prepend_known h left ≡ Some input) (sym e) (subst (λ o. prepend_known [] o ≡ Some input) (sym f) refl)
