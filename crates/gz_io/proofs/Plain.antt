-- Bytes that a line may have, and what bytes show of the next line.
use Rattle.std.proofs.Common.{◌≡◌, ◌≢◌, ℕ, ◌+◌, ◌<◌, ◌≤◌, zero, suc, take, drop, List, [], ◌∷◌, ◌++◌, length, get_or}
use Rattle.std.proofs.Common.{refl, ap, sym, subst, ◌∙◌, arith, add-one, inl, inr, take-append-drop, length-append}
use Rattle.std.specs.Prelude.{Contains}
use Rattle.std.proofs.Math.Seq.{drop-cons, get_or-append_seam}
use Rattle.std.proofs.lemmas.List.{get_or-take, get_or_append_left, length-take-le}
use Rattle.std.proofs.lemmas.Bool.{cases_lt, cases_order}
use Rattle.gz_io.specs.Lines.{IsPlain, IsTooLong, IsNotAscii}
use Rattle.gz_io.specs.Finding.{Finds}
use Rattle.gz_io.specs.declared.find.Found.{Found}
use Rattle.gz_io.specs.declared.find.Found.TheVariants as found

pub plain_more : (xs : List ℕ) (i : ℕ) → i < length xs → IsPlain (take i xs) → get_or xs i 0 < 128 → get_or xs i 0 ≢ 10
    → IsPlain (take (i + 1) xs)
plain_more [] i h p low other = absurd (omega arith)
plain_more (x ∷ xs) zero h p low other = (low, other, tt)
plain_more (x ∷ xs) (suc i) h p low other =
    rw add-one (p.0, p.1, rw add-one at (plain_more xs i (omega arith) p.2 low other))

pub plain_get : (xs : List ℕ) (i d : ℕ) → IsPlain xs → i < length xs → (get_or xs i d < 128) × (get_or xs i d ≢ 10)
plain_get [] i d p h = absurd (omega arith)
plain_get (x ∷ xs) zero d p h = (p.0, p.1)
plain_get (x ∷ xs) (suc i) d p h = plain_get xs i d p.2 (omega arith)

plain_get_taken : (xs : List ℕ) (n i : ℕ) → IsPlain (take n xs) → n ≤ length xs → i < n
    → (get_or xs i 0 < 128) × (get_or xs i 0 ≢ 10)
plain_get_taken xs n i p fits h =
    let same : get_or (take n xs) i 0 ≡ get_or xs i 0 = get_or-take n xs i 0 h in
    let P : ℕ → Type 0 = λ b. (b < 128) × (b ≢ 10) in
    subst P same (plain_get (take n xs) i 0 p (rw length-take-le h))

-- a list in two parts round one of its places
pub parted : (xs : List ℕ) (n : ℕ) → n < length xs → xs ≡ take n xs ++ (get_or xs n 0 ∷ drop (n + 1) xs)
parted xs n h = sym (take-append-drop n xs) ∙ ap (λ t. take n xs ++ t) (rw add-one (drop-cons xs n 0 h))

pub too_long : (xs : List ℕ) → Finds xs found.TooLong → IsTooLong xs
too_long xs h =
    record {
      line = take 255 xs;
      byte = get_or xs 255 0;
      rest = drop 256 xs;
      bytes = parted xs 255 h.0;
      plain = h.1;
      size = length-take-le 255 xs (omega arith);
      goes_on = h.2;
    }

pub not_ascii : (xs : List ℕ) → Finds xs found.NotAscii → IsNotAscii xs
not_ascii xs h =
    record {
      line = take h.0 xs;
      byte = get_or xs h.0 0;
      rest = drop (h.0 + 1) xs;
      bytes = parted xs h.0 h.2;
      plain
          = h.3;
      size = (let l : length (take h.0 xs) ≡ h.0 = length-take-le h.0 xs (omega arith) in omega (arith, h.1));
      high = h.4;
    }

-- what is known of a place behind a plain prefix
pub at_seam : (xs line rest : List ℕ) (b : ℕ) → xs ≡ line ++ (b ∷ rest) → get_or xs (length line) 0 ≡ b
at_seam xs line rest b e = ap (λ t. get_or t (length line) 0) e ∙ get_or-append_seam line b rest 0

pub before_seam : (xs line rest : List ℕ) (b i : ℕ) → xs ≡ line ++ (b ∷ rest) → IsPlain line → i < length line
    → (get_or xs i 0 < 128) × (get_or xs i 0 ≢ 10)
before_seam xs line rest b i e p h =
    let same : get_or xs i 0 ≡ get_or line i 0 = ap (λ t. get_or t i 0) e ∙ get_or_append_left line (b ∷ rest) 0 i h in
    let P : ℕ → Type 0 = λ b. (b < 128) × (b ≢ 10) in
    subst P (sym same) (plain_get line i 0 p h)

pub seam_fits : (xs line rest : List ℕ) (b : ℕ) → xs ≡ line ++ (b ∷ rest) → length line < length xs
seam_fits xs line rest b e =
    let l : length xs ≡ length (line ++ (b ∷ rest)) = ap length e in omega (arith, length-append line (b ∷ rest))

pub plain_no_feed : (xs : List ℕ) → Contains xs 10 → Finds xs found.More → ⊥
plain_no_feed xs h p = (plain_get xs h.0 10 p.1 h.1).1 h.2

pub too_long_shows : (xs : List ℕ) → IsTooLong xs → Finds xs found.More → ⊥
too_long_shows xs h p = absurd (omega (arith, seam_fits xs h.line h.rest h.byte h.bytes, h.size, p.0))

pub not_ascii_shows : (xs : List ℕ) → IsNotAscii xs → Finds xs found.More → ⊥
not_ascii_shows xs h p =
    absurd (omega (
      arith,
      (plain_get xs (length h.line) 0 p.1 (seam_fits xs h.line h.rest h.byte h.bytes)).0,
      at_seam xs
          h.line h.rest h.byte h.bytes,
      h.high,
    ))

pub only_too_long : (xs : List ℕ) (f : Found) → Finds xs f → IsTooLong xs → f ≡ found.TooLong
only_too_long xs found.TooLong h t = refl
only_too_long xs found.More h t = absurd (too_long_shows xs t h)
only_too_long xs found.NotAscii h t =
    absurd (omega (
      arith,
      (before_seam xs t.line t.rest t.byte h.0 t.bytes t.plain (omega (arith, t.size, h.1))).0,
      h.4,
    ))
only_too_long xs (found.Line n) h t = absurd (elim (cases_lt n 255) [
  | inl lt ↦ (before_seam xs t.line t.rest t.byte n t.bytes t.plain (omega (arith, t.size, lt))).1 h.3
  | inr ge ↦ (let e : n ≡ length t.line = omega (arith, t.size, h.0) in t.goes_on
      (sym (at_seam xs t.line t.rest t.byte t.bytes) ∙ ap (λ k. get_or xs k 0) (sym e) ∙ h.3))
])

pub only_not_ascii : (xs : List ℕ) (f : Found) → Finds xs f → IsNotAscii xs → f ≡ found.NotAscii
only_not_ascii xs found.NotAscii h t = refl
only_not_ascii xs found.More h t = absurd (not_ascii_shows xs t h)
only_not_ascii xs found.TooLong h t =
    absurd (omega (
      arith,
      (plain_get_taken xs 255 (length t.line) h.1 (omega (arith, h.0)) t.size).0,
      at_seam xs t.line
          t.rest t.byte t.bytes,
      t.high,
    ))
only_not_ascii xs (found.Line n) h t = absurd (elim (cases_order n (length t.line)) [
  | inl e ↦ omega (arith, t.high, sym (at_seam xs t.line t.rest t.byte t.bytes) ∙ ap (λ k. get_or xs k 0) (sym e) ∙ h.3)
  | inr o ↦ elim o [
    | inl lt ↦ (before_seam xs t.line t.rest t.byte n t.bytes t.plain lt).1 h.3
    | inr gt ↦ omega (
      arith,
      (plain_get_taken xs n (length t.line) h.2 (omega (arith, h.1)) gt).0,
      at_seam xs t.line
          t.rest t.byte t.bytes,
      t.high,
    )
  ]
])
