-- Numbers in decimal at the front of a text.
use Rattle.std.proofs.Common.{◌≡◌, ◌≢◌, ℕ, ◌+◌, ◌-◌, ◌*◌, ◌^◌, ◌<◌, ◌≤◌, zero, suc, drop, List, [], ◌∷◌, ◌++◌, length}
use Rattle.std.proofs.Common.{get_or, refl, ap, sym, subst, ◌∙◌, arith, add-one, true, false, Bool, rules}
use Rattle.std.proofs.Common.{if◌then◌else◌, ltb, eqb, ne_eqb, eq-eqb}
use Rattle.std.specs.Char.{is_ascii_digit}
use Rattle.std.specs.Str.{all_ascii_digits}
use Rattle.std.specs.Fmt.{decimal}
use Rattle.std.proofs.Math.Seq.{drop-cons}
use Rattle.std.proofs.lemmas.List.{length-append}
use Rattle.std.proofs.lemmas.Bool.{agree_below_at, ltb-true, ltb-false}
use native.Mathlib.Decide.{ℕ_discrete}
use mathlib.Core.Logic.{dite}
use mathlib.Core.Bool.{◌&&◌}
use Rattle.std.proofs.lemmas.Str.Parse.{IsNumeralModel, numerals_by_fold}
use Rattle.std.proofs.lemmas.Fmt.{decimal_digit, digits_decimal, digits_value-decimal, decimal-digits_value}
use Rattle.std.proofs.lemmas.Fmt.{decimal_nonempty, first_decimal}
use Rattle.trace_lang.specs.Words.{IsBreak}
use Rattle.trace_lang.specs.Numbers.{front_digits, after_digits, read_on}

pub own : IsNumeralModel (λ ds. all_ascii_digits ds ≡ true) (read_on 0)
own = numerals_by_fold _ (search rules) read_on (search rules)

-- reading on never makes a number less
pub read_on-ge : (n : ℕ) (ds : List ℕ) → n ≤ read_on n ds
read_on-ge n [] = omega arith
read_on-ge n (d ∷ ds) = omega (arith, read_on-ge (10 * n + (d - 48)) ds)

-- a digit that comes next
pub next_digit : (xs : List ℕ) (i n : ℕ) → i < length xs → is_ascii_digit (get_or xs i 0) ≡ true
    → read_on n (front_digits (drop i xs)) ≡ read_on (10 * n + (get_or xs i 0 - 48)) (front_digits (drop (i + 1) xs))
next_digit xs i n h d = rw (drop-cons xs i 0 h) (rw d (rw add-one refl))

-- another byte ends the number
pub last_digit : (xs : List ℕ) (i n : ℕ) → i < length xs → is_ascii_digit (get_or xs i 0) ≡ false
    → read_on n (front_digits (drop i xs)) ≡ n
last_digit xs i n h d = rw (drop-cons xs i 0 h) (rw d refl)

pub last_after : (xs : List ℕ) (i : ℕ) → i < length xs → is_ascii_digit (get_or xs i 0) ≡ false
    → after_digits (drop i xs) ≡ drop i xs
last_after xs i h d = rw (drop-cons xs i 0 h) (rw d refl)

-- a text is its first digits and what follows them
parts_by : (b : ℕ) (bs : List ℕ) (t : Bool) → bs ≡ front_digits bs ++ after_digits bs
    → b ∷ bs ≡ (if t then b ∷ front_digits bs else []) ++ (if t then after_digits bs else b ∷ bs)
parts_by b bs true h = ap (λ t. b ∷ t) h
parts_by b bs false h = refl

pub digits_parts : (xs : List ℕ) → xs ≡ front_digits xs ++ after_digits xs
digits_parts [] = refl
digits_parts (b ∷ bs) = parts_by b bs (is_ascii_digit b) (digits_parts bs)

all_by : (b : ℕ) (bs : List ℕ) (t : Bool) → is_ascii_digit b ≡ t → all_ascii_digits (front_digits bs) ≡ true
    → all_ascii_digits (if t then b ∷ front_digits bs else []) ≡ true
all_by b bs true e h = rw e h
all_by b bs false e h = refl

pub front_digits-all : (xs : List ℕ) → all_ascii_digits (front_digits xs) ≡ true
front_digits-all [] = refl
front_digits-all (b ∷ bs) = all_by b bs (is_ascii_digit b) refl (front_digits-all bs)

-- digits before a break are all that are in front
break_first : (b : ℕ) → b ≡ 32 → is_ascii_digit b ≡ false
break_first b e = subst (λ k. is_ascii_digit k ≡ false) (sym e) refl

front_break : (rest : List ℕ) → IsBreak rest → (front_digits rest ≡ []) × (after_digits rest ≡ rest)
front_break [] h = (refl, refl)
front_break (b ∷ bs) h = (rw (break_first b h) refl, rw (break_first b h) refl)

first_of_all : (d : ℕ) (ds : List ℕ) → all_ascii_digits (d ∷ ds) ≡ true
    → (is_ascii_digit d ≡ true) × (all_ascii_digits ds ≡ true)
first_of_all d ds h = search (rules)

pub front_digits-append : (ds rest : List ℕ) → all_ascii_digits ds ≡ true → IsBreak rest
    → (front_digits (ds ++ rest) ≡ ds) × (after_digits (ds ++ rest) ≡ rest)
front_digits-append [] rest h b = front_break rest b
front_digits-append (d ∷ ds) rest h b =
    let p = first_of_all d ds h in
    let q = front_digits-append ds rest p.1 b in
    (rw p.0 (ap (λ t. d ∷ t) q.0), rw p.0 q.1)

-- a number in decimal, as far as a break
decimal_all : (n : ℕ) → n < 2 ^ 32 → (all_ascii_digits (decimal n) ≡ true) × (read_on 0 (decimal n) ≡ n)
decimal_all n h = (digits_decimal own n (omega arith), digits_value-decimal own n (omega arith))

pub decimal_front : (text rest : List ℕ) (n : ℕ) → n < 2 ^ 32 → IsBreak rest → text ≡ decimal n ++ rest
    → (n ≡ read_on 0 (front_digits text)) × (rest ≡ after_digits text)
decimal_front text rest n h b e =
    let d = decimal_all n h in
    let p = front_digits-append (decimal n) rest d.0 b in
    (sym (ap (λ t. read_on 0 (front_digits t)) e ∙ ap (read_on 0) p.0 ∙ d.1), sym (ap after_digits e ∙ p.1))

first_digit : (ds rest : List ℕ) → 0 < length ds → all_ascii_digits ds ≡ true
    → (0 < length (ds ++ rest)) × (is_ascii_digit (get_or (ds ++ rest) 0 0) ≡ true)
first_digit [] rest h a = absurd (omega arith)
first_digit (d ∷ ds) rest h a = (omega arith, (first_of_all d ds a).0)

pub decimal_first : (text rest : List ℕ) (n : ℕ) → n < 2 ^ 32 → text ≡ decimal n ++ rest
    → (0 < length text) × (is_ascii_digit (get_or text 0 0) ≡ true)
decimal_first text rest n h e =
    subst (λ t. (0 < length t) × (is_ascii_digit (get_or t 0 0) ≡ true)) (sym e)
    (first_digit (decimal n) rest (decimal_nonempty n (omega arith)) (decimal_all n h).0)

-- a zero in front is all of the number
get_or-front : (ds rest : List ℕ) → 0 < length ds → get_or (ds ++ rest) 0 0 ≡ get_or ds 0 0
get_or-front [] rest h = absurd (omega arith)
get_or-front (d ∷ ds) rest h = refl

pub decimal_zero : (text rest others : List ℕ) (n : ℕ) → n < 2 ^ 32 → text ≡ 48 ∷ others → text ≡ decimal n ++ rest
    → (0 ≡ n) × (others ≡ rest)
decimal_zero text rest others zero h z e =
    (refl, ap (drop 1) (sym z ∙ e ∙ ap (λ t. t ++ rest) (decimal_digit 0 (omega arith))))
decimal_zero text rest others (suc n) h z e =
    let first : get_or text 0 0 ≡ get_or (decimal (suc n)) 0 0 =
    ap (λ t. get_or t 0 0) e ∙ get_or-front (decimal (suc n)) rest (decimal_nonempty (suc n) (omega arith)) in
    let zero_first : get_or text 0 0 ≡ 48 = ap (λ t. get_or t 0 0) z in
    absurd (omega (arith, first, zero_first, first_decimal (suc n) (omega arith) (omega arith)))

-- digits in front of which the first is no zero
digits_number : (b : ℕ) (bs : List ℕ) → is_ascii_digit b ≡ true → b ≢ 48 → read_on 0 (front_digits (b ∷ bs)) < 2 ^ 32
    → decimal (read_on 0 (front_digits (b ∷ bs))) ≡ front_digits (b ∷ bs)
digits_number b bs d other h =
    decimal-digits_value own (front_digits (b ∷ bs)) (front_digits-all (b ∷ bs)) (rw d (omega arith)) (rw d
    (λ e. absurd (other e))) (omega arith)

pub front_number : (text rest : List ℕ) (n : ℕ) → 0 < length text → is_ascii_digit (get_or text 0 0) ≡ true
    → get_or text 0 0 ≢ 48 → n < 2 ^ 32 → n ≡ read_on 0 (front_digits text) → rest ≡ after_digits text
    → text ≡ decimal n ++ rest
front_number [] rest n some d other h e r = absurd (omega arith)
front_number (b ∷ bs) rest n some d other h e r =
    digits_parts (b ∷ bs)
    ∙ ap (λ t. t ++ after_digits (b ∷ bs)) (sym (digits_number b bs d other (omega (arith, e))) ∙ ap decimal (sym e))
    ∙ ap (λ t. decimal n ++ t) (sym r)

-- numbers of one digit and of two
digit_is : (d : ℕ) → d < 10 → is_ascii_digit (48 + d) ≡ true
digit_is d h = agree_below_at (λ k. is_ascii_digit (48 + k)) (λ _. true) 10 d refl h

pub one_digit : (text rest : List ℕ) (d : ℕ) → d < 10 → text ≡ (48 + d) ∷ rest → text ≡ decimal d ++ rest
one_digit text rest d h e = e ∙ ap (λ t. t ++ rest) (sym (decimal_digit d h))

-- a digit in front is all of a number below 10
pub is_digit : (rest others : List ℕ) (d n : ℕ) → n < 10 → (48 + d) ∷ rest ≡ decimal n ++ others
    → (d ≡ n) × (rest ≡ others)
is_digit rest others d n h e =
    let whole : (48 + d) ∷ rest ≡ (48 + n) ∷ others = e ∙ ap (λ ds. ds ++ others) (decimal_digit n h) in
    let first : 48 + d ≡ 48 + n = ap (λ t. get_or t 0 0) whole in
    (omega (arith, first), ap (drop 1) whole)

two_text : (d e : ℕ) → 0 < d → d < 10 → e < 10 → decimal (10 * d + e) ≡ (48 + d) ∷ (48 + e) ∷ []
two_text d e some h k =
    let ds = (48 + d) ∷ (48 + e) ∷ [] in
    let all : all_ascii_digits ds ≡ true = rw (digit_is d h) (rw (digit_is e k) refl) in
    let value : read_on 0 ds ≡ 10 * d + e = omega arith in
    ap decimal (sym value) ∙ decimal-digits_value own ds all (omega arith)
    (λ z. absurd (omega (arith, z))) (omega (arith, value))

pub two_digits : (text rest others : List ℕ) (d e : ℕ) → 0 < d → d < 10 → e < 10 → text ≡ (48 + d) ∷ rest
    → rest ≡ (48 + e) ∷ others → text ≡ decimal (10 * d + e) ++ others
two_digits text rest others d e some h k p q =
    p ∙ ap (λ t. (48 + d) ∷ t) q ∙ ap (λ t. t ++ others) (sym (two_text d e some h k))

-- digits that no digit follows
ends_by : (rest : List ℕ) → (0 < length rest → is_ascii_digit (get_or rest 0 0) ≡ false)
    → (front_digits rest ≡ []) × (after_digits rest ≡ rest)
ends_by [] none = (refl, refl)
ends_by (b ∷ bs) none = let other = none (omega arith) in (rw other refl, rw other refl)

starts_with : (text rest : List ℕ) (d : ℕ) → d < 10 → text ≡ (48 + d) ∷ rest
    → (front_digits text ≡ (48 + d) ∷ front_digits rest) × (after_digits text ≡ after_digits rest)
starts_with text rest d h e = (ap front_digits e ∙ rw (digit_is d h) refl, ap after_digits e ∙ rw (digit_is d h) refl)

pub only_one : (text rest r : List ℕ) (d n : ℕ) → d < 10 → n < 2 ^ 32 → text ≡ (48 + d) ∷ rest
    → (0 < length rest → is_ascii_digit (get_or rest 0 0) ≡ false) → IsBreak r → text ≡ decimal n ++ r
    → (d ≡ n) × (rest ≡ r)
only_one text rest r d n h small e none b is =
    let f = decimal_front text r n small b is in
    let s = starts_with text rest d h e in
    let t = ends_by rest none in
    let value : n ≡ read_on 0 ((48 + d) ∷ []) = f.0 ∙ ap (read_on 0) (s.0 ∙ ap (λ ds. (48 + d) ∷ ds) t.0) in
    (omega (arith, value), sym (f.1 ∙ s.1 ∙ t.1))

-- a third digit makes a hundred
not_third : (c : ℕ) (cs : List ℕ) (k : ℕ) (t : Bool) → is_ascii_digit c ≡ t → 10 ≤ k
    → read_on k (if t then c ∷ front_digits cs else []) < 100 → t ≡ false
not_third c cs k false e h m = refl
not_third c cs k true e h m = absurd (omega (arith, m, read_on-ge (10 * k + (c - 48)) (front_digits cs)))

no_third : (others : List ℕ) (k : ℕ) → 10 ≤ k → read_on k (front_digits others) < 100 → 0 < length others
    → is_ascii_digit (get_or others 0 0) ≡ false
no_third [] k h m some = absurd (omega (arith, some))
no_third (c ∷ cs) k h m some = not_third c cs k (is_ascii_digit c) refl h m

pub only_two : (text rest others r : List ℕ) (d e n : ℕ) → 0 < d → d < 10 → e < 10 → n < 100 → text ≡ (48 + d) ∷ rest
    → rest ≡ (48 + e) ∷ others → IsBreak r → text ≡ decimal n ++ r → (10 * d + e ≡ n) × (others ≡ r)
only_two text rest others r d e n some h k small p q b is =
    let f = decimal_front text r n (omega arith) b is in
    let s = starts_with text rest d h p in
    let t = starts_with rest others e k q in
    let both : 10 * (10 * 0 + (48 + d - 48)) + (48 + e - 48) ≡ 10 * d + e = omega arith in
    let value : n ≡ read_on (10 * d + e) (front_digits others) =
    f.0 ∙ ap (read_on 0) (s.0 ∙ ap (λ ds. (48 + d) ∷ ds) t.0) ∙ ap (λ m. read_on m (front_digits others)) both in
    let u = ends_by others (no_third others (10 * d + e) (omega arith) (omega (arith, value))) in
    let whole : n ≡ 10 * d + e = value ∙ ap (read_on (10 * d + e)) u.0 in
    (sym whole, sym (f.1 ∙ s.1 ∙ t.1 ∙ u.1))

-- a digit begins no break
no_break : (e : ℕ) (ds : List ℕ) → IsBreak ((48 + e) ∷ ds) → ⊥
no_break e ds b = omega (arith, b)

-- a number of one digit, or of two where a second one follows
abbrev pub joined_digits : Bool → ℕ → ℕ → ℕ
joined_digits two d e = if two then 10 * d + e else d

abbrev pub behind_digits : Bool → List ℕ → List ℕ
behind_digits two rest = drop (if two then 1 else 0) rest

module _ (rest : List ℕ) (d e : ℕ) (h : d < 10) (next : e < 10 → rest ≡ (48 + e) ∷ drop 1 rest)
    (none : 10 ≤ e → 0 < length rest → is_ascii_digit (get_or rest 0 0) ≡ false) where
  pub short_text : (two : Bool) → ltb e 10 ≡ two → (two && eqb d 0) ≡ false
      → (48 + d) ∷ rest ≡ decimal (joined_digits two d e) ++ behind_digits two rest
  short_text true is more =
      let k : e < 10 = ltb-true e 10 is in
      let some : 0 < d = dite (ℕ_discrete d 0) (λ z. absurd (let t = eq-eqb d 0 z in cc (t, more)))
      (λ ne. omega arith) in
      two_digits ((48 + d) ∷ rest) rest (drop 1 rest) d e some h k refl (next k)
  short_text false is more = one_digit ((48 + d) ∷ rest) rest d h refl

  pub short_only : (two : Bool) → ltb e 10 ≡ two → (n : ℕ) (r : List ℕ) → n < 100 → IsBreak r
      → (48 + d) ∷ rest ≡ decimal n ++ r
      → (joined_digits two d e ≡ n) × (behind_digits two rest ≡ r) × ((two && eqb d 0) ≡ false)
  short_only true is n r small b f =
      let k : e < 10 = ltb-true e 10 is in
      dite (ℕ_discrete d 0)
      (λ z. absurd (
      let at = decimal_zero ((48 + d) ∷ rest) r rest n (omega (arith, small)) (ap (λ m. (48 + m) ∷ rest) z) f in
      no_break e (drop 1 rest) (subst IsBreak (sym at.1 ∙ next k) b)))
      (λ ne.
      let is_two = only_two ((48 + d) ∷ rest) rest (drop 1 rest) r d e n (omega arith) h k small refl (next k) b f in
      (is_two.0, is_two.1, ne_eqb d 0 ne))
  short_only false is n r small b f =
      let far : 10 ≤ e = ltb-false e 10 is in
      let is_one = only_one ((48 + d) ∷ rest) rest r d n h (omega (arith, small)) refl (none far) b f in
      (is_one.0, is_one.1, refl)

pub digit_first : (text rest : List ℕ) (d : ℕ) → d < 10 → text ≡ (48 + d) ∷ rest
    → (0 < length text) × (is_ascii_digit (get_or text 0 0) ≡ true) × (get_or text 0 0 ≡ 48 + d)
digit_first text rest d h e =
    let at : get_or text 0 0 ≡ 48 + d = ap (λ t. get_or t 0 0) e in
    let some : length text ≡ length ((48 + d) ∷ rest) = ap length e in
    (omega (arith, some), ap is_ascii_digit at ∙ digit_is d h, at)

-- a number goes on from its first digit
pub from_first : (rest : List ℕ) (d : ℕ) → d < 10
    → (read_on 0 (front_digits ((48 + d) ∷ rest)) ≡ read_on d (front_digits rest))
    × (after_digits ((48 + d) ∷ rest) ≡ after_digits rest)
from_first rest d h =
    let s = starts_with ((48 + d) ∷ rest) rest d h refl in
    let value : 10 * 0 + (48 + d - 48) ≡ d = omega arith in
    (ap (read_on 0) s.0 ∙ ap (λ m. read_on m (front_digits rest)) value, s.1)

get_or-seam : (front rest : List ℕ) → get_or (front ++ rest) (length front) 0 ≡ get_or rest 0 0
get_or-seam [] rest = refl
get_or-seam (b ∷ bs) rest = get_or-seam bs rest

-- where a number comes next, so does a digit
pub digit_next : (text front rest : List ℕ) (n : ℕ) → n < 2 ^ 32 → text ≡ front ++ (decimal n ++ rest)
    → (length front < length text) × (is_ascii_digit (get_or text (length front) 0) ≡ true)
digit_next text front rest n h e =
    let first = decimal_first (decimal n ++ rest) rest n h refl in
    let long : length text ≡ length (front ++ (decimal n ++ rest)) = ap length e in
    let at : get_or text (length front) 0 ≡ get_or (decimal n ++ rest) 0 0 =
    ap (λ t. get_or t (length front) 0) e ∙ get_or-seam front (decimal n ++ rest) in
    (omega (arith, long, length-append front (decimal n ++ rest), first.0), ap is_ascii_digit at ∙ first.1)
