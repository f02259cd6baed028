-- Lines of a dump are short, and of bytes that a line may have.
use Rattle.std.proofs.Common.{◌≡◌, ◌≢◌, ℕ, ◌+◌, ◌^◌, ◌<◌, ◌≤◌, List, [], ◌∷◌, ◌++◌, length, sym, subst, arith, Bool}
use Rattle.std.proofs.Common.{true, false, ◌&&◌, refl, rules}
use Rattle.std.specs.Prelude.{codes}
use Rattle.std.specs.Fmt.{decimal}
use Rattle.std.specs.Str.{all_ascii_digits}
use Rattle.std.proofs.Math.Dec.{leb}
use Rattle.std.proofs.lemmas.Bool.{leb-true}
use Rattle.std.proofs.lemmas.List.{length-append}
use Rattle.std.proofs.lemmas.Str.Parse.{IsNumeralModel, numerals_by_fold, tells_all_ascii_digits}
use Rattle.std.proofs.lemmas.Fmt.{digits_decimal, length-decimal-le}
use Rattle.gz_io.specs.Lines.{IsPlain}
use Rattle.gz_names.specs.declared.names.Name.{Name}
use Rattle.gz_names.specs.declared.names.Name.TheVariants.{Cell, Wrap}
use Rattle.gz_names.specs.declared.dumps.DumpLine.{DumpLine}
use Rattle.gz_names.specs.declared.dumps.DumpLine.TheVariants as line
use Rattle.gz_names.specs.declared.dumps.DumpColour.{DumpColour}
use Rattle.gz_names.specs.declared.dumps.DumpColour.TheVariants.{Black, Gray}
use Rattle.gz_names.specs.DumpTexts.{FitsName, SpellsLine, colour_text, dump_text, name_text}
use Rattle.dump_check.specs.Digits.{read_on}

-- at most this number of bytes that a line may have
pub record IsFine (n : ℕ) (xs : List ℕ) : Type 0 where
  pub short : length xs ≤ n
  pub plain : IsPlain xs

plain_append : (xs ys : List ℕ) → IsPlain xs → IsPlain ys → IsPlain (xs ++ ys)
plain_append [] ys h k = k
plain_append (x ∷ xs) ys h k = (h.0, h.1, plain_append xs ys h.2 k)

fine_append : (m n : ℕ) (xs ys : List ℕ) → IsFine m xs → IsFine n ys → IsFine (m + n) (xs ++ ys)
fine_append m n xs ys h k =
    record { short = omega (arith, length-append xs ys, h.short, k.short); plain = plain_append xs ys h.plain k.plain }

fine_more : (m n : ℕ) (xs : List ℕ) → m ≤ n → IsFine m xs → IsFine n xs
fine_more m n xs l h = record { short = omega (arith, h.short, l); plain = h.plain }

fine_cons : (n b : ℕ) (xs : List ℕ) → b < 128 → b ≢ 10 → IsFine n xs → IsFine (n + 1) (b ∷ xs)
fine_cons n b xs l o h = record { short = omega (arith, h.short); plain = (l, o, h.plain) }

numerals : IsNumeralModel (λ ds. all_ascii_digits ds ≡ true) (read_on 0)
numerals = numerals_by_fold _ (search rules) read_on (search rules)

digits_plain : (xs : List ℕ) → all_ascii_digits xs ≡ true → IsPlain xs
digits_plain [] h = tt
digits_plain (x ∷ xs) h =
    let p = tells_all_ascii_digits.parts x xs h in
    let low : x < 128 = omega (arith, p.0.1) in
    let other : x ≢ 10 = omega (arith, p.0.0) in (low, other, digits_plain xs p.1)

-- numbers of cells, and of compartments
decimal_fine : (k n : ℕ) → n < 2 ^ 32 → length (decimal n) ≤ k → IsFine k (decimal n)
decimal_fine k n h l = record { short = l; plain = digits_plain (decimal n) (digits_decimal numerals n (omega arith)) }

three_digits : (n : ℕ) → n < 1000 → IsFine 3 (decimal n)
three_digits n h = decimal_fine 3 n (omega arith) (length-decimal-le 3 n (omega arith) (omega arith) (omega arith))

ten_digits : (n : ℕ) → n < 2 ^ 32 → IsFine 10 (decimal n)
ten_digits n h = decimal_fine 10 n h (length-decimal-le 10 n (omega arith) (omega arith) (omega arith))

name_fine : (x : Name) → FitsName x → IsFine 14 (name_text x)
name_fine (Cell n) h = fine_more 10 14 _ (omega arith) (ten_digits n h)
name_fine (Wrap c n) h = fine_append 3 11 (decimal c.0) (58 ∷ decimal n) (three_digits c.0 (omega (arith, h.0)))
    (fine_cons 10 58 (decimal n) (omega arith) (omega arith) (ten_digits n h.1))

spaced_fine : (k : ℕ) (xs : List ℕ) → IsFine k xs → IsFine (k + 1) (32 ∷ xs)
spaced_fine k xs h = fine_cons k 32 xs (omega arith) (omega arith) h

-- fixed words, by a test that computes
abbrev is_plain : List ℕ → Bool
is_plain [] = true
is_plain (b ∷ bs) = leb 11 b && (leb b 127 && is_plain bs)

both : (x y : Bool) → (x && y) ≡ true → (x ≡ true) × (y ≡ true)
both true y h = (refl, h)
both false y h = absurd (cc h)

plain_by : (xs : List ℕ) → is_plain xs ≡ true → IsPlain xs
plain_by [] h = tt
plain_by (b ∷ bs) h =
    let p = both (leb 11 b) (leb b 127 && is_plain bs) h in
    let q = both (leb b 127) (is_plain bs) p.1 in
    let low : b < 128 = omega (arith, leb-true b 127 q.0) in
    let other : b ≢ 10 = omega (arith, leb-true 11 b p.0) in (low, other, plain_by bs q.1)

fixed : (n : ℕ) (xs : List ℕ) → length xs ≡ n → is_plain xs ≡ true → IsFine n xs
fixed n xs l p = record { short = omega (arith, l); plain = plain_by xs p }

colour_fine : (c : DumpColour) → IsFine 1 (colour_text c)
colour_fine Black = fixed 1 (codes "b") refl refl
colour_fine Gray = fixed 1 (codes "g") refl refl

text_fine : (text : List ℕ) (l : DumpLine) → SpellsLine text l → IsFine 45 (dump_text l)
text_fine text (line.Cell x c) s =
    fine_more 21 45 _ (omega arith) (fine_append 5 16 (codes "cell ") _ (fixed 5 (codes "cell ") refl refl)
    (fine_append 14 2 (name_text x) _ (name_fine x s.1) (spaced_fine 1 (colour_text c) (colour_fine c))))
text_fine text (line.Edge n y) s =
    fine_more 30 45 _ (omega arith) (fine_append 5 25 (codes "edge ") _ (fixed 5 (codes "edge ") refl refl)
    (fine_append 10 15 (decimal n) _ (ten_digits n s.1.0) (spaced_fine 14 (name_text y) (name_fine y s.1.1))))
text_fine text (line.Weak m k v) s =
    let map_key : IsFine 25 (decimal m ++ (32 ∷ name_text k)) =
    fine_append 10 15 (decimal m) _ (ten_digits m s.1.0) (spaced_fine 14 (name_text k) (name_fine k s.1.1)) in
    fine_more 45 45 _ (omega arith) (fine_append 5 40 (codes "weak ") _ (fixed 5 (codes "weak ") refl refl)
    (fine_append 25 15 (decimal m ++ (32 ∷ name_text k)) _ map_key
    (spaced_fine 14 (name_text v) (name_fine v s.1.2))))
text_fine text line.End s = fine_more 3 45 _ (omega arith) (fixed 3 (codes "end") refl refl)

-- the longest line is that of a weak entry
pub line_fine : (text : List ℕ) (l : DumpLine) → SpellsLine text l → IsFine 45 text
line_fine text l s = subst (IsFine 45) (sym s.0) (text_fine text l s)
