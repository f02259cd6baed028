-- Marks of a vector's bytes, and how many bytes in front a line may have.
use Rattle.std.proofs.Common.{◌≡◌, ◌≢◌, ℕ, suc, ◌+◌, ◌%◌, ◌^◌, ◌<◌, ◌≤◌, Bool, true, false, not, ◌||◌, cond, eqb, leb}
use Rattle.std.proofs.Common.{take, drop, List, [], ◌∷◌, ◌++◌, map, length, get_or, replicate, refl, sym, ap, ◌∙◌}
use Rattle.std.proofs.Common.{subst, arith, inl, inr}
use Rattle.std.proofs.Math.Seq.{take-add}
use Rattle.std.proofs.lemmas.Bool.{eqb-true, eqb-false, leb-true, leb-false}
use Rattle.std.proofs.lemmas.List.{get_or-take, length-map, take-take, length-take, length-drop}
use Rattle.std.proofs.lemmas.List.Sums.{prefix_len-le-length, prefix_len_stops}
use Rattle.std.proofs.lemmas.Simd.{length-chunk, get_or-chunk, map-map, mask_l-mod, zip2_splat, zip2_splat_left}
use Rattle.std.proofs.lemmas.Simd.{zip2_of_maps}
use Rattle.std.specs.List.{prefix_len}
use lib.Bits.{bit_or}
use lib.Lanes.{zip2, mask_l, top}
use Rattle.gz_io.specs.Lines.{IsPlain}
use Rattle.gz_io.specs.Finding.{is_stop, is_plain, Stops}

-- a lane of a comparison
abbrev lane : Bool → ℕ
lane b = cond b 255 0

either_top : (a b : Bool) → top 7 (bit_or (lane a) (lane b)) ≡ (a || b)
either_top true true = refl
either_top true false = refl
either_top false true = refl
either_top false false = refl

pub marked : (v : List ℕ) → length v ≡ 16
    → mask_l (map (top 7) (zip2 bit_or (zip2 (λ a b. lane (eqb a b)) v (replicate 16 10)) (zip2
    (λ a b. lane (leb a b)) (replicate 16 128) v))) % 2 ^ 64 ≡ mask_l (map is_stop v)
marked v long =
    let feeds = zip2_splat (λ a b. lane (eqb a b)) v 16 10 long in
    let high = zip2_splat_left (λ a b. lane (leb a b)) 128 16 v long in
    let joined = zip2_of_maps bit_or (λ x. lane (eqb x 10)) (λ x. lane (leb 128 x)) v feeds high in
    let tops : map (top 7) (map (λ x. bit_or (lane (eqb x 10)) (lane (leb 128 x))) v) ≡ map is_stop v =
    map-map (top 7) (λ x. bit_or (lane (eqb x 10)) (lane (leb 128 x))) v
    ∙ (λ i. map (λ x. either_top (eqb x 10) (leb 128 x) i) v) in
    ap (λ m. mask_l m % 2 ^ 64) (ap (map (top 7)) joined ∙ tops) ∙ mask_l-mod (map is_stop v) 64
    (omega (arith, length-map v is_stop, long))

-- what the tests of a byte say
stop_parts : (b : ℕ) (x y : Bool) → eqb b 10 ≡ x → leb 128 b ≡ y → (x || y) ≡ true → Stops b
stop_parts b true y e f h = inl (eqb-true b 10 e)
stop_parts b false true e f h = inr (leb-true 128 b f)
stop_parts b false false e f h = absurd (cc h)

not_plain : (t : Bool) → not t ≡ false → t ≡ true
not_plain true h = refl
not_plain false h = absurd (cc h)

pub stops : (b : ℕ) → is_plain b ≡ false → Stops b
stops b h = stop_parts b (eqb b 10) (leb 128 b) refl refl (not_plain _ h)

plain_parts : (b : ℕ) (x y : Bool) → eqb b 10 ≡ x → leb 128 b ≡ y → not (x || y) ≡ true → (b < 128) × (b ≢ 10)
plain_parts b true y e f h = absurd (cc h)
plain_parts b false true e f h = absurd (cc h)
plain_parts b false false e f h = (omega (arith, leb-false 128 b f), eqb-false b 10 e)

-- the bytes before the first that no line may have
front_by : (y : ℕ) (ys : List ℕ) (n : ℕ) (t : Bool) → is_plain y ≡ t → IsPlain (take n ys)
    → IsPlain (take (cond t (1 + n) 0) (y ∷ ys))
front_by y ys n true e h =
    let p = plain_parts y (eqb y 10) (leb 128 y) refl refl e in subst
    (λ k. IsPlain (take k (y ∷ ys))) (let k : suc n ≡ 1 + n = omega arith in k) (p.0, p.1, h)
front_by y ys n false e h = tt

plain_front : (ys : List ℕ) → IsPlain (take (prefix_len is_plain ys) ys)
plain_front [] = tt
plain_front (y ∷ ys) = front_by y ys (prefix_len is_plain ys) (is_plain y) refl (plain_front ys)

plain_both : (xs ys : List ℕ) → IsPlain xs → IsPlain ys → IsPlain (xs ++ ys)
plain_both [] ys p q = q
plain_both (x ∷ xs) ys p q = (p.0, p.1, plain_both xs ys p.2 q)

-- a plain prefix goes on with what is plain of the next 16 bytes
pub plain_run : (xs : List ℕ) (i n : ℕ) → IsPlain (take i xs) → n ≡ prefix_len is_plain (take 16 (drop i xs))
    → IsPlain (take (i + n) xs)
plain_run xs i n p e =
    let next = take 16 (drop i xs) in
    let few : n ≤ 16 = omega (arith, e, prefix_len-le-length is_plain next, length-take 16 (drop i xs)) in
    let more : IsPlain (take n (drop i xs)) =
    subst IsPlain (ap (λ k. take k next) (sym e) ∙ take-take n 16 (drop i xs) few) (plain_front next) in
    rw take-add (plain_both (take i xs) (take n (drop i xs)) p more)

pub run_fits : (xs : List ℕ) (i n : ℕ) → i ≤ length xs → n ≡ prefix_len is_plain (take 16 (drop i xs))
    → i + n ≤ length xs
run_fits xs i n h e =
    omega (arith, e, prefix_len-le-length is_plain (take 16 (drop i xs)), length-take 16 (drop i xs), length-drop i xs)

-- the byte that ends it
pub run_stop : (xs : List ℕ) (i n : ℕ) → i + 16 ≤ length xs → n ≡ prefix_len is_plain (take 16 (drop i xs)) → n < 16
    → Stops (get_or xs (i + n) 0)
run_stop xs i n room e few =
    let next = take 16 (drop i xs) in
    let short : prefix_len is_plain next < length next = omega (arith, e, length-chunk i 16 xs room) in
    let at : get_or next n 0 ≡ get_or xs (i + n) 0 = get_or-chunk i 16 xs n 0 few in
    subst Stops at (stops (get_or next n 0) (ap (λ k. is_plain (get_or next k 0)) e ∙ prefix_len_stops is_plain next 0
    short))

-- a byte at the end of a plain prefix of some of the bytes
pub high_byte : (xs : List ℕ) (m n : ℕ) → n < m → Stops (get_or (take m xs) n 0) → get_or xs n 0 ≢ 10
    → 128 ≤ get_or xs n 0
high_byte xs m n h (inl e) o = absurd (o (sym (get_or-take m xs n 0 h) ∙ e))
high_byte xs m n h (inr k) o = omega (arith, k, get_or-take m xs n 0 h)

-- of the first 16 bytes some are plain, and one stands behind them
pub stops_early : (xs : List ℕ) (n : ℕ) → 16 ≤ length xs → n ≡ prefix_len is_plain (take 16 xs) → n ≢ 16
    → (n < 16) × IsPlain (take n xs) × Stops (get_or xs n 0)
stops_early xs n long e other =
    let few : n < 16 = omega (arith, e, prefix_len-le-length is_plain (take 16 xs), length-take 16 xs, other) in
    let same : 0 + n ≡ n = omega arith in (
      few,
      subst (λ k. IsPlain (take k xs)) same (plain_run xs 0 n tt e),
      subst
          (λ k. Stops (get_or xs k 0)) same (run_stop xs 0 n (omega (arith, long)) e few),
    )

-- a byte that no line may have and that is no line feed
pub high_stop : (b : ℕ) → Stops b → b ≢ 10 → 128 ≤ b
high_stop b (inl e) o = absurd (o e)
high_stop b (inr k) o = k
