-- Lines of the grammar are short, and of bytes that a line may have.
use Rattle.std.proofs.Common.{◌≡◌, ◌≢◌, ℕ, zero, suc, ◌+◌, ◌^◌, ◌<◌, ◌≤◌, inl, inr, List, [], ◌∷◌, ◌++◌, length, refl}
use Rattle.std.proofs.Common.{ap, sym, subst, ◌∙◌, arith, Bool, true, false, Option, Some, None, ◌&&◌}
use Rattle.std.specs.Prelude.{codes}
use Rattle.std.proofs.Math.Dec.{leb}
use Rattle.std.proofs.lemmas.Bool.{leb-true}
use Rattle.std.specs.Fmt.{decimal}
use Rattle.std.specs.Str.{all_ascii_digits}
use Rattle.std.proofs.lemmas.List.{length-append}
use Rattle.std.proofs.lemmas.Str.Parse.{tells_all_ascii_digits}
use Rattle.std.proofs.lemmas.Fmt.{digits_decimal, length-decimal-le}
use Rattle.gz_io.specs.Lines.{IsPlain}
use Rattle.gz_names.specs.Zones.{zones_from, zones_in}
use Rattle.gz_names.specs.declared.commands.Cmd.{Cmd}
use Rattle.gz_names.specs.declared.zone_sets.ZoneSet.{ZoneSet}
use Rattle.trace_lang.specs.declared.words.Word.{Word}
use Rattle.trace_lang.specs.declared.words.Word.TheVariants as word
use Rattle.trace_lang.specs.Words.{word_text, number_word, reg_word, gray_word, weak_word, target_word, FitsTarget}
use Rattle.trace_lang.specs.Words.{number_words}
use Rattle.trace_lang.specs.Grammar.{Spells, SpellsRest, SpellsZones}
use Rattle.trace_lang.proofs.Decimals.{own}
use Rattle.trace_lang.proofs.ZoneLists.{has_or_not, zones_from-has, zones_from-lacks, zones_from-nil, zones_from-split}
use Rattle.trace_lang.proofs.ZoneLists.{number_words-append}

-- at most this number of bytes that a line may have
pub record IsFine (n : ℕ) (xs : List ℕ) : Type 0 where
  pub short : length xs ≤ n
  pub plain : IsPlain xs

plain_append : (xs ys : List ℕ) → IsPlain xs → IsPlain ys → IsPlain (xs ++ ys)
plain_append [] ys h k = k
plain_append (x ∷ xs) ys h k = (h.0, h.1, plain_append xs ys h.2 k)

fine_nil : IsFine 0 []
fine_nil = record { short = omega arith; plain = tt }

fine_append : (m n : ℕ) (xs ys : List ℕ) → IsFine m xs → IsFine n ys → IsFine (m + n) (xs ++ ys)
fine_append m n xs ys h k =
    record { short = omega (arith, length-append xs ys, h.short, k.short); plain = plain_append xs ys h.plain k.plain }

fine_more : (m n : ℕ) (xs : List ℕ) → m ≤ n → IsFine m xs → IsFine n xs
fine_more m n xs l h = record { short = omega (arith, h.short, l); plain = h.plain }

fine_cons : (n b : ℕ) (xs : List ℕ) → b < 128 → b ≢ 10 → IsFine n xs → IsFine (n + 1) (b ∷ xs)
fine_cons n b xs l o h = record { short = omega (arith, h.short); plain = (l, o, h.plain) }

digits_plain : (xs : List ℕ) → all_ascii_digits xs ≡ true → IsPlain xs
digits_plain [] h = tt
digits_plain (x ∷ xs) h =
    let p = tells_all_ascii_digits.parts x xs h in
    let low : x < 128 = omega (arith, p.0.1) in
    let other : x ≢ 10 = omega (arith, p.0.0) in (low, other, digits_plain xs p.1)

-- numbers below a power of ten
decimal_fine : (k n : ℕ) → n < 2 ^ 32 → length (decimal n) ≤ k → IsFine k (decimal n)
decimal_fine k n h l = record { short = l; plain = digits_plain (decimal n) (digits_decimal own n (omega arith)) }

one_digit : (n : ℕ) → n < 10 → IsFine 1 (decimal n)
one_digit n h = decimal_fine 1 n (omega arith) (length-decimal-le 1 n (omega arith) (omega arith) (omega arith))

two_digits : (n : ℕ) → n < 100 → IsFine 2 (decimal n)
two_digits n h = decimal_fine 2 n (omega arith) (length-decimal-le 2 n (omega arith) (omega arith) (omega arith))

three_digits : (n : ℕ) → n < 1000 → IsFine 3 (decimal n)
three_digits n h = decimal_fine 3 n (omega arith) (length-decimal-le 3 n (omega arith) (omega arith) (omega arith))

ten_digits : (n : ℕ) → n < 2 ^ 32 → IsFine 10 (decimal n)
ten_digits n h = decimal_fine 10 n h (length-decimal-le 10 n (omega arith) (omega arith) (omega arith))

-- words behind their spaces
spaced_fine : (k : ℕ) (xs : List ℕ) → IsFine k xs → IsFine (k + 1) (32 ∷ xs)
spaced_fine k xs h = fine_cons k 32 xs (omega arith) (omega arith) h

number_fine : (n : ℕ) → n < 256 → IsFine 4 (number_word n)
number_fine n h = spaced_fine 3 (decimal n) (three_digits n (omega arith))

units_fine : (n : ℕ) → n < 2 ^ 32 → IsFine 11 (number_word n)
units_fine n h = spaced_fine 10 (decimal n) (ten_digits n h)

reg_fine : (r : ℕ) → r < 16 → IsFine 4 (reg_word r)
reg_fine r h =
    spaced_fine 3 (114 ∷ decimal r) (fine_cons 2 114 (decimal r) (omega arith) (omega arith)
    (two_digits r (omega arith)))

gray_fine : (g : ℕ) → g < 64 → IsFine 4 (gray_word g)
gray_fine g h =
    spaced_fine 3 (103 ∷ decimal g) (fine_cons 2 103 (decimal g) (omega arith) (omega arith)
    (two_digits g (omega arith)))

weak_fine : (q : ℕ) → q < 64 → IsFine 4 (weak_word q)
weak_fine q h =
    spaced_fine 3 (113 ∷ decimal q) (fine_cons 2 113 (decimal q) (omega arith) (omega arith)
    (two_digits q (omega arith)))

target_fine : (t : Option ℕ) → FitsTarget t → IsFine 4 (target_word t)
target_fine None h =
    fine_more 2 4 (codes " -") (omega arith)
    (spaced_fine 1 (45 ∷ []) (fine_cons 0 45 [] (omega arith) (omega arith) fine_nil))
target_fine (Some r) h = reg_fine r h

two_fine : (xs ys : List ℕ) → IsFine 4 xs → IsFine 4 ys → IsFine 182 (xs ++ ys)
two_fine xs ys h k = fine_more 8 182 (xs ++ ys) (omega arith) (fine_append 4 4 xs ys h k)

three_fine : (xs ys zs : List ℕ) → IsFine 4 xs → IsFine 4 ys → IsFine 4 zs → IsFine 182 (xs ++ ys ++ zs)
three_fine xs ys zs h k l =
    fine_more 12 182 (xs ++ ys ++ zs) (omega arith) (fine_append 8 4 (xs ++ ys) zs (fine_append 4 4 xs ys h k) l)

-- lists of zones: this number of bytes for each
abbrev bytes : ℕ → ℕ → ℕ
bytes m zero = 0
bytes m (suc count) = m + bytes m count

zones_fine : (m w n count : ℕ) → n + count ≤ 64 → ((z : ℕ) → z < n + count → IsFine m (number_word z))
    → IsFine (bytes m count) (number_words (zones_from w n count))
zones_fine m w n zero l each = subst (λ t. IsFine 0 (number_words t)) (sym (zones_from-nil w n)) fine_nil
zones_fine m w n (suc count) l each =
    let rest = zones_fine m w (n + 1) count (omega arith) (λ z h. each z (omega arith)) in
    elim (has_or_not w n (omega arith)) [
      | inl h ↦ subst (λ t. IsFine (m + bytes m count) (number_words t)) (sym (zones_from-has w n count h))
          (fine_append m (bytes m count) (number_word n) _ (each n (omega arith)) rest)
      | inr h ↦ subst (λ t. IsFine (m + bytes m count) (number_words t))
          (sym (zones_from-lacks w n count (omega arith) h)) (fine_more (bytes m count) (m + bytes m count) _
          (omega arith) rest)
    ]

-- zones below ten take two bytes, the others three
all_zones_fine : (w : ℕ) → IsFine 182 (number_words (zones_from w 0 64))
all_zones_fine w =
    let low = zones_fine 2 w 0 10 (omega arith) (λ z h. spaced_fine 1 (decimal z) (one_digit z (omega arith))) in
    let high = zones_fine 3 w 10 54 (omega arith) (λ z h. spaced_fine 2 (decimal z) (two_digits z (omega arith))) in
    let parts : number_words (zones_from w 0 64) ≡ number_words (zones_from w 0 10) ++ number_words (zones_from w 10 54)
    = ap number_words (zones_from-split w 0 10 54 64 10 refl refl (omega arith))
    ∙ number_words-append (zones_from w 0 10) (zones_from w 10 54) in
    subst (IsFine 182) (sym parts) (fine_append 20 162 _ _ low high)

list_fine : (zones : ZoneSet) (rest : List ℕ) → SpellsZones zones rest → IsFine 182 rest
unfolding zones_in
list_fine zones rest s = subst (IsFine 182) (sym s.2) (all_zones_fine zones.bits)

at_text : (n : ℕ) (rest text : List ℕ) → rest ≡ text → n ≤ 182 → IsFine n text → IsFine 182 rest
at_text n rest text e l h = subst (IsFine 182) (sym e) (fine_more n 182 text l h)

rest_fine : (w : Word) (rest : List ℕ) (c : Cmd) → SpellsRest w rest c → IsFine 182 rest
rest_fine word.Zone rest c s = at_text 0 rest [] s.1 (omega arith) fine_nil
rest_fine word.Comp rest c s = at_text 4 rest _ s.3 (omega arith) (number_fine s.0 (omega (arith, s.2)))
rest_fine word.New rest c s =
    at_text 182 rest _ s.7 (omega arith) (three_fine _ _ _ (reg_fine s.0 s.4) (number_fine s.1.0 s.5)
    (number_fine s.2 (omega (arith, s.6))))
rest_fine word.Map rest c s =
    at_text 182 rest _ s.5 (omega arith) (two_fine _ _ (reg_fine s.0 s.3) (number_fine s.1.0 s.4))
rest_fine word.Get rest c s =
    at_text 182 rest _ s.7 (omega arith) (three_fine _ _ _ (reg_fine s.0 s.4) (reg_fine s.1 s.5)
    (number_fine s.2 (omega (arith, s.6))))
rest_fine word.Set rest c s =
    at_text 182 rest _ s.7 (omega arith) (three_fine _ _ _ (reg_fine s.0 s.4) (number_fine s.1 (omega (arith, s.5)))
    (target_fine s.2 s.6))
rest_fine word.Wrap rest c s =
    at_text 182 rest _ s.7 (omega arith) (three_fine _ _ _ (reg_fine s.0 s.4) (reg_fine s.1 s.5)
    (number_fine s.2.0 s.6))
rest_fine word.Unwrap rest c s =
    at_text 182 rest _ s.5 (omega arith) (two_fine _ _ (reg_fine s.0 s.3) (reg_fine s.1 s.4))
rest_fine word.Copy rest c s = at_text 182 rest _ s.5 (omega arith) (two_fine _ _ (reg_fine s.0 s.3) (reg_fine s.1 s.4))
rest_fine word.Drop rest c s = at_text 4 rest _ s.3 (omega arith) (reg_fine s.0 s.2)
rest_fine word.Hold rest c s =
    at_text 182 rest _ s.5 (omega arith) (two_fine _ _ (gray_fine s.0 s.3) (reg_fine s.1 s.4))
rest_fine word.Release rest c s = at_text 4 rest _ s.3 (omega arith) (gray_fine s.0 s.2)
rest_fine word.Expose rest c s =
    at_text 182 rest _ s.5 (omega arith) (two_fine _ _ (reg_fine s.0 s.3) (gray_fine s.1 s.4))
rest_fine word.Put rest c s =
    at_text 182 rest _ s.7 (omega arith) (three_fine _ _ _ (reg_fine s.0 s.4) (reg_fine s.1 s.5) (reg_fine s.2 s.6))
rest_fine word.Del rest c s = at_text 182 rest _ s.5 (omega arith) (two_fine _ _ (reg_fine s.0 s.3) (reg_fine s.1 s.4))
rest_fine word.Find rest c s =
    at_text 182 rest _ s.7 (omega arith) (three_fine _ _ _ (reg_fine s.0 s.4) (reg_fine s.1 s.5) (reg_fine s.2 s.6))
rest_fine word.Gc rest c s = list_fine s.0 rest s.2
rest_fine word.Slice rest c s = at_text 11 rest _ s.3 (omega arith) (units_fine s.0 s.2)
rest_fine word.Finish rest c s = at_text 0 rest [] s.1 (omega arith) fine_nil
rest_fine word.Collect rest c s = list_fine s.0 rest s.2
rest_fine word.Colours rest c s = at_text 0 rest [] s.1 (omega arith) fine_nil
rest_fine word.Dump rest c s = at_text 0 rest [] s.1 (omega arith) fine_nil
rest_fine word.Reset rest c s = at_text 0 rest [] s.1 (omega arith) fine_nil
rest_fine word.Weaken rest c s =
    at_text 182 rest _ s.5 (omega arith) (two_fine _ _ (weak_fine s.0 s.3) (reg_fine s.1 s.4))
rest_fine word.Deref rest c s =
    at_text 182 rest _ s.5 (omega arith) (two_fine _ _ (reg_fine s.0 s.3) (weak_fine s.1 s.4))
rest_fine word.Watch rest c s = at_text 4 rest _ s.3 (omega arith) (reg_fine s.0 s.2)
rest_fine word.Unwatch rest c s = at_text 4 rest _ s.3 (omega arith) (reg_fine s.0 s.2)
rest_fine word.Compact rest c s = at_text 4 rest _ s.3 (omega arith) (number_fine s.0 (omega (arith, s.2)))

-- first words, by a test that computes
abbrev is_plain : List ℕ → Bool
is_plain [] = true
is_plain (b ∷ bs) = leb 11 b && (leb b 127 && is_plain bs)

both : (x y : Bool) → (x && y) ≡ true → (x ≡ true) × (y ≡ true)
both true y h = (refl, h)
both false y h = absurd (cc h)

plain_by : (xs : List ℕ) → is_plain xs ≡ true → IsPlain xs
plain_by [] h = tt
plain_by (b ∷ bs) h =
    let p = both (leb 11 b) (leb b 127 && is_plain bs) h in
    let q = both (leb b 127) (is_plain bs) p.1 in
    let low : b < 128 = omega (arith, leb-true b 127 q.0) in
    let other : b ≢ 10 = omega (arith, leb-true 11 b p.0) in (low, other, plain_by bs q.1)

word_plain : (w : Word) → is_plain (word_text w) ≡ true
word_plain word.Zone = refl
word_plain word.Comp = refl
word_plain word.New = refl
word_plain word.Map = refl
word_plain word.Get = refl
word_plain word.Set = refl
word_plain word.Wrap = refl
word_plain word.Unwrap = refl
word_plain word.Copy = refl
word_plain word.Drop = refl
word_plain word.Hold = refl
word_plain word.Release = refl
word_plain word.Expose = refl
word_plain word.Put = refl
word_plain word.Del = refl
word_plain word.Find = refl
word_plain word.Gc = refl
word_plain word.Slice = refl
word_plain word.Finish = refl
word_plain word.Collect = refl
word_plain word.Colours = refl
word_plain word.Dump = refl
word_plain word.Reset = refl
word_plain word.Weaken = refl
word_plain word.Deref = refl
word_plain word.Watch = refl
word_plain word.Unwatch = refl
word_plain word.Compact = refl

word_short : (w : Word) → length (word_text w) ≤ 7
word_short word.Zone = omega arith
word_short word.Comp = omega arith
word_short word.New = omega arith
word_short word.Map = omega arith
word_short word.Get = omega arith
word_short word.Set = omega arith
word_short word.Wrap = omega arith
word_short word.Unwrap = omega arith
word_short word.Copy = omega arith
word_short word.Drop = omega arith
word_short word.Hold = omega arith
word_short word.Release = omega arith
word_short word.Expose = omega arith
word_short word.Put = omega arith
word_short word.Del = omega arith
word_short word.Find = omega arith
word_short word.Gc = omega arith
word_short word.Slice = omega arith
word_short word.Finish = omega arith
word_short word.Collect = omega arith
word_short word.Colours = omega arith
word_short word.Dump = omega arith
word_short word.Reset = omega arith
word_short word.Weaken = omega arith
word_short word.Deref = omega arith
word_short word.Watch = omega arith
word_short word.Unwatch = omega arith
word_short word.Compact = omega arith

-- `collect` with all 64 zones has 189 bytes
pub spells_fine : (line : List ℕ) (c : Cmd) → Spells line c → IsFine 189 line
spells_fine line c s =
    subst (IsFine 189) (sym s.2) (fine_append 7 182 (word_text s.0) s.1
    (record { short = word_short s.0; plain = plain_by (word_text s.0) (word_plain s.0) })
    (rest_fine s.0 s.1 c s.3))
