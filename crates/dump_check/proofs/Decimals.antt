-- Numbers and names that a text begins with.
use Rattle.std.proofs.Common.{
  ◌≡◌,
  ◌≢◌,
  ℕ,
  zero,
  suc,
  ◌+◌,
  ◌-◌,
  ◌*◌,
  ◌^◌,
  ◌<◌,
  ◌≤◌,
  drop,
  List,
  [],
  ◌∷◌,
  ◌++◌,
  length,
  get_or,
  refl,
  ap,
  sym,
  subst,
  ◌∙◌,
  arith,
  add-one,
  true,
  false,
  Bool,
  rules,
  if◌then◌else◌,
}
use Rattle.std.specs.Char.{is_ascii_digit}
use Rattle.std.specs.Str.{all_ascii_digits}
use Rattle.std.specs.Fmt.{decimal}
use Rattle.std.proofs.Math.Seq.{drop-cons}
use Rattle.std.proofs.lemmas.Bool.{agree_below_at}
use Rattle.std.proofs.lemmas.Str.Parse.{IsNumeralModel, numerals_by_fold}
use Rattle.std.proofs.lemmas.Fmt.{
  decimal_digit,
  digits_decimal,
  digits_value-decimal,
  decimal-digits_value,
  decimal_nonempty,
  first_decimal,
}
use Rattle.dump_check.specs.Digits.{front_digits, after_digits, read_on, IsStop, IsWordEnd}

numerals : IsNumeralModel (λ ds. all_ascii_digits ds ≡ true) (read_on 0)
numerals = numerals_by_fold _ (search rules) read_on (search rules)

-- reading on never makes a number less
pub read_on-ge : (n : ℕ) (ds : List ℕ) → n ≤ read_on n ds
read_on-ge n [] = omega arith
read_on-ge n (d ∷ ds) = omega (arith, read_on-ge (10 * n + (d - 48)) ds)

-- a digit that comes next, and a byte that ends the number
pub next_digit : (xs : List ℕ) (i n : ℕ) → i < length xs → is_ascii_digit (get_or xs i 0) ≡ true
    → read_on n (front_digits (drop i xs)) ≡ read_on (10 * n + (get_or xs i 0 - 48)) (front_digits (drop (i + 1) xs))
next_digit xs i n h d = rw (drop-cons xs i 0 h) (rw d (rw add-one refl))

pub next_after : (xs : List ℕ) (i : ℕ) → i < length xs → is_ascii_digit (get_or xs i 0) ≡ true
    → after_digits (drop i xs) ≡ after_digits (drop (i + 1) xs)
next_after xs i h d = rw (drop-cons xs i 0 h) (rw d (rw add-one refl))

pub last_digit : (xs : List ℕ) (i n : ℕ) → i < length xs → is_ascii_digit (get_or xs i 0) ≡ false
    → read_on n (front_digits (drop i xs)) ≡ n
last_digit xs i n h d = rw (drop-cons xs i 0 h) (rw d refl)

pub last_after : (xs : List ℕ) (i : ℕ) → i < length xs → is_ascii_digit (get_or xs i 0) ≡ false
    → after_digits (drop i xs) ≡ drop i xs
last_after xs i h d = rw (drop-cons xs i 0 h) (rw d refl)

-- a text is the digits in front and what follows them
parts_by : (b : ℕ) (bs : List ℕ) (t : Bool) → bs ≡ front_digits bs ++ after_digits bs
    → b ∷ bs ≡ (if t then b ∷ front_digits bs else []) ++ (if t then after_digits bs else b ∷ bs)
parts_by b bs true h = ap (λ t. b ∷ t) h
parts_by b bs false h = refl

digits_parts : (xs : List ℕ) → xs ≡ front_digits xs ++ after_digits xs
digits_parts [] = refl
digits_parts (b ∷ bs) = parts_by b bs (is_ascii_digit b) (digits_parts bs)

all_by : (b : ℕ) (bs : List ℕ) (t : Bool) → is_ascii_digit b ≡ t → all_ascii_digits (front_digits bs) ≡ true
    → all_ascii_digits (if t then b ∷ front_digits bs else []) ≡ true
all_by b bs true e h = rw e h
all_by b bs false e h = refl

front_digits-all : (xs : List ℕ) → all_ascii_digits (front_digits xs) ≡ true
front_digits-all [] = refl
front_digits-all (b ∷ bs) = all_by b bs (is_ascii_digit b) refl (front_digits-all bs)

-- digits before a stop are all that are in front
front_stop : (rest : List ℕ) → IsStop rest → (front_digits rest ≡ []) × (after_digits rest ≡ rest)
front_stop [] h = (refl, refl)
front_stop (b ∷ bs) h = (rw h refl, rw h refl)

first_of_all : (d : ℕ) (ds : List ℕ) → all_ascii_digits (d ∷ ds) ≡ true → (is_ascii_digit d ≡ true)
    × (all_ascii_digits ds ≡ true)
first_of_all d ds h = search (rules)

front_digits-append : (ds rest : List ℕ) → all_ascii_digits ds ≡ true → IsStop rest → (front_digits (ds ++ rest) ≡ ds)
    × (after_digits (ds ++ rest) ≡ rest)
front_digits-append [] rest h b = front_stop rest b
front_digits-append (d ∷ ds) rest h b =
    let p = first_of_all d ds h in
    let q = front_digits-append ds rest p.1 b in
    (rw p.0 (ap (λ t. d ∷ t) q.0), rw p.0 q.1)

-- a number in decimal, as far as a stop
decimal_all : (n : ℕ) → n < 2 ^ 32 → (all_ascii_digits (decimal n) ≡ true) × (read_on 0 (decimal n) ≡ n)
decimal_all n h = (digits_decimal numerals n (omega arith), digits_value-decimal numerals n (omega arith))

pub decimal_front : (text rest : List ℕ) (n : ℕ) → n < 2 ^ 32 → IsStop rest → text ≡ decimal n ++ rest
    → (n ≡ read_on 0 (front_digits text)) × (rest ≡ after_digits text)
decimal_front text rest n h b e =
    let d = decimal_all n h in
    let p = front_digits-append (decimal n) rest d.0 b in
    (sym (ap (λ t. read_on 0 (front_digits t)) e ∙ ap (read_on 0) p.0 ∙ d.1), sym (ap after_digits e ∙ p.1))

first_digit : (ds rest : List ℕ) → 0 < length ds → all_ascii_digits ds ≡ true → (0 < length (ds ++ rest))
    × (is_ascii_digit (get_or (ds ++ rest) 0 0) ≡ true)
first_digit [] rest h a = absurd (omega arith)
first_digit (d ∷ ds) rest h a = (omega arith, (first_of_all d ds a).0)

decimal_first : (text rest : List ℕ) (n : ℕ) → n < 2 ^ 32 → text ≡ decimal n ++ rest → (0 < length text)
    × (is_ascii_digit (get_or text 0 0) ≡ true)
decimal_first text rest n h e = subst (λ t. (0 < length t) × (is_ascii_digit (get_or t 0 0) ≡ true)) (sym e)
    (first_digit (decimal n) rest (decimal_nonempty n (omega arith)) (decimal_all n h).0)

-- a text without a digit in front holds no number
pub no_decimal : (text rest : List ℕ) (n : ℕ) → n < 2 ^ 32
    → (0 < length text → is_ascii_digit (get_or text 0 0) ≡ false) → text ≡ decimal n ++ rest → ⊥
no_decimal text rest n h none e =
    let first = decimal_first text rest n h e in
    let other = none first.0 in cc (first.1, other)

-- a zero in front is all of the number
get_or-front : (ds rest : List ℕ) → 0 < length ds → get_or (ds ++ rest) 0 0 ≡ get_or ds 0 0
get_or-front [] rest h = absurd (omega arith)
get_or-front (d ∷ ds) rest h = refl

pub decimal_zero : (text rest others : List ℕ) (n : ℕ) → n < 2 ^ 32 → text ≡ 48 ∷ others → text ≡ decimal n ++ rest
    → (0 ≡ n) × (others ≡ rest)
decimal_zero text rest others zero h z e =
    (refl, ap (drop 1) (sym z ∙ e ∙ ap (λ t. t ++ rest) (decimal_digit 0 (omega arith))))
decimal_zero text rest others (suc n) h z e =
    let first : get_or text 0 0 ≡ get_or (decimal (suc n)) 0 0 = ap (λ t. get_or t 0 0) e
    ∙ get_or-front (decimal (suc n)) rest (decimal_nonempty (suc n) (omega arith)) in
    let zero_first : get_or text 0 0 ≡ 48 = ap (λ t. get_or t 0 0) z in
    absurd (omega (arith, first, zero_first, first_decimal (suc n) (omega arith) (omega arith)))

pub zero_front : (text rest : List ℕ) → text ≡ 48 ∷ rest → text ≡ decimal 0 ++ rest
zero_front text rest e = e ∙ ap (λ t. t ++ rest) (sym (decimal_digit 0 (omega arith)))

-- digits in front of which the first is no zero
digits_number : (b : ℕ) (bs : List ℕ) → is_ascii_digit b ≡ true → b ≢ 48 → read_on 0 (front_digits (b ∷ bs)) < 2 ^ 32
    → decimal (read_on 0 (front_digits (b ∷ bs))) ≡ front_digits (b ∷ bs)
digits_number b bs d other h = decimal-digits_value numerals (front_digits (b ∷ bs)) (front_digits-all (b ∷ bs))
    (rw d (omega arith)) (rw d (λ e. absurd (other e))) (omega arith)

pub front_number : (b : ℕ) (bs rest : List ℕ) (n : ℕ) → is_ascii_digit b ≡ true → b ≢ 48 → n < 2 ^ 32
    → n ≡ read_on 0 (front_digits (b ∷ bs)) → rest ≡ after_digits (b ∷ bs) → b ∷ bs ≡ decimal n ++ rest
front_number b bs rest n d other h e r =
    digits_parts (b ∷ bs)
    ∙ ap (λ t. t ++ after_digits (b ∷ bs)) (sym (digits_number b bs d other (omega (arith, e))) ∙ ap decimal (sym e))
    ∙ ap (λ t. decimal n ++ t) (sym r)

-- a space and a colon are stops
pub stop_at_space : (rest : List ℕ) → IsStop (32 ∷ rest)
stop_at_space rest = refl

pub stop_at_colon : (rest : List ℕ) → IsStop (58 ∷ rest)
stop_at_colon rest = refl

pub stop_at_end : (rest : List ℕ) → IsWordEnd rest → IsStop rest
stop_at_end [] h = tt
stop_at_end (b ∷ bs) h = subst (λ k. is_ascii_digit k ≡ false) (sym h) refl

-- the first digit of a text
digit_is : (d : ℕ) → d < 10 → is_ascii_digit (48 + d) ≡ true
digit_is d h = agree_below_at (λ k. is_ascii_digit (48 + k)) (λ _. true) 10 d refl h

pub number_of_digits : (text others rest : List ℕ) (d n : ℕ) → d < 10 → d ≢ 0 → text ≡ (48 + d) ∷ others → n < 2 ^ 32
    → n ≡ read_on 0 (front_digits text) → rest ≡ after_digits text → text ≡ decimal n ++ rest
number_of_digits text others rest d n h some e small r a =
    let r' : n ≡ read_on 0 (front_digits ((48 + d) ∷ others)) = r ∙ ap (λ t. read_on 0 (front_digits t)) e in
    e ∙ front_number (48 + d) others rest n (digit_is d h) (λ z. some (omega (arith, z))) small r'
    (a ∙ ap after_digits e)
