-- Bytes have their lines in one way.
use Rattle.std.proofs.Common.{◌≡◌, ◌∙◌, inl, inr, ℕ, List, [], ◌∷◌, ◌++◌, length, refl, sym, subst, arith}
use Rattle.gz_io.specs.Lines.{EndsLine}
use Rattle.judge.specs.Lines.{IsOneLine, Lacks}
use Rattle.judge.specs.Transcripts.{HasLines}
use Rattle.judge.proofs.Bytes.{lacks_not, one_place}

ends_once : (xs ys zs l m : List ℕ) → IsOneLine l → IsOneLine m → EndsLine xs ys l → EndsLine xs zs m
    → (l ≡ m) × (ys ≡ zs)
ends_once xs ys zs l m a b (inl e) (inl f) = one_place 10 l ys m zs a b (sym e ∙ f)
ends_once xs ys zs l m a b (inl e) (inr f) =
    absurd (lacks_not 10 l ys (subst (λ t. Lacks 10 t) (sym f.0 ∙ e) b))
ends_once xs ys zs l m a b (inr e) (inl f) =
    absurd (lacks_not 10 m zs (subst (λ t. Lacks 10 t) (sym e.0 ∙ f) a))
ends_once xs ys zs l m a b (inr e) (inr f) = (sym e.0 ∙ f.0, e.2 ∙ sym f.2)

pub never_ends : (ys l : List ℕ) → EndsLine [] ys l → ⊥
never_ends ys [] (inl e) = cc e
never_ends ys (x ∷ l) (inl e) = cc e
never_ends ys [] (inr e) = let some = e.1 in omega (arith, some)
never_ends ys (x ∷ l) (inr e) = cc e.0

-- all lines begin with the first ones
pub lines_begin : (input : List ℕ) (xs ys : List (List ℕ)) (rest : List ℕ) → HasLines input xs rest
    → HasLines input ys [] → (zs : List (List ℕ)) × (ys ≡ xs ++ zs) × HasLines rest zs []
lines_begin input [] ys rest e has = (ys, refl, subst (λ r. HasLines r ys []) (sym e) has)
lines_begin input (x ∷ xs) [] rest (more, one, ends, tail) e =
    absurd (never_ends more x (subst (λ i. EndsLine i more x) (sym e) ends))
lines_begin input (x ∷ xs) (y ∷ ys) rest (more, one, ends, tail) (left, other, stops, all) =
    let same = ends_once input more left x y one other ends stops in
    let r = lines_begin more xs ys rest tail (subst (λ t. HasLines t ys []) (sym same.1) all) in (
      r.0,
      (λ i. sym same.0 i ∷ r.1 i),
      r.2,
    )

-- as many lines are the same ones
pub lines_same : (input : List ℕ) (xs ys : List (List ℕ)) (rest last : List ℕ) → HasLines input xs rest
    → HasLines input ys last → length xs ≡ length ys → (xs ≡ ys) × (rest ≡ last)
lines_same input [] [] rest last a b e = (refl, a ∙ sym b)
lines_same input [] (y ∷ ys) rest last a b e = absurd (omega (arith, e))
lines_same input (x ∷ xs) [] rest last a b e = absurd (omega (arith, e))
lines_same input (x ∷ xs) (y ∷ ys) rest last (more, one, ends, tail) (left, other, stops, all) e =
    let same = ends_once input more left x y one other ends stops in
    let r = lines_same more xs ys rest last tail (subst (λ t. HasLines t ys last) (sym same.1) all)
    (omega (arith, e)) in
    ((λ i. same.0 i ∷ r.0 i), r.1)
