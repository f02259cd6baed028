-- The lowest free slot that the walk has ahead.
use Rattle.std.proofs.Common.{◌≡◌, ◌≢◌, ◌⊎◌, ◌<◌, ◌≤◌, ◌+◌, ◌-◌, ◌^◌, ℕ, suc, take}
use Rattle.std.proofs.Common.{zero, Option, Some, None, IfSome, IfNone, nat_le, if◌then◌else◌, inl, inr, refl, sym}
use Rattle.std.proofs.Common.{◌∙◌, ap, subst, eq-eqb, ne_eqb, arith, bit_and, w64}
use Rattle.std.specs.Int.{bit_at, trailing_zeros}
use Rattle.std.specs.Prelude.{SomeIff}
use Rattle.std.specs.Int.RustNames.{count_ones}
use Rattle.std.proofs.lemmas.Bool.{cases_eq, cases_order, le-leb, lt-leb}
use Rattle.std.proofs.lemmas.Nat.{and_le_l}
use Rattle.std.proofs.lemmas.Nat.Bits.{bit_at-trailing_zeros}
use Rattle.gz_names.specs.declared.numbers.Place.{Place}
use Rattle.arena_table.proofs.LowestBit.{bit_at-rest}
use Rattle.heap_core.specs.Shape.{Shape}
use Rattle.compact.specs.Holes.{ComesOn, Finds, IsAhead, IsAt, IsCounted, IsFree}
use Rattle.compact.specs.Packing.{free_below}
use Rattle.compact.specs.declared.holes.Holes.{Holes}
use Rattle.compact.proofs.Counting.{free-sum, free_at, past-free, sum-end}
use Rattle.compact.proofs.Ones.{ones-rest}

-- the lowest bit of a word, and the bits without it
pub record IsLowest (word t : ℕ) : Type 0 where
  pub below : t < 64
  pub set : bit_at word t ≡ 1
  pub lowest : (i : ℕ) → i < t → bit_at word i ≡ 0
  pub gone : bit_at (bit_and word (word - 1)) t ≡ 0
  pub rest : (i : ℕ) → i ≢ t → bit_at (bit_and word (word - 1)) i ≡ bit_at word i

pub lowest-is : (word : ℕ) → 0 < word → word < 2 ^ 64 → IsLowest word (trailing_zeros w64 word)
lowest-is word some fits =
    let low = bit_at-trailing_zeros w64 word some fits in
    let t = trailing_zeros w64 word in
    record {
      below = low.0;
      set = low.1;
      lowest = low.2;
      gone = bit_at-rest word t some fits ∙ ap (λ b. if b then 0 else bit_at word t) (eq-eqb t t refl);
      rest = λ i other. bit_at-rest word i some fits ∙ ap (λ b. if b then 0 else bit_at word i) (ne_eqb i t other);
    }

module _ (s : Shape) (h : Holes) (at : IsAt s h) (some : 0 < h.left) (fits : h.left < 2 ^ 64) where
  abbrev pub t : ℕ
  t = trailing_zeros w64 h.left

  abbrev pub found : Place
  found = (h.from - 1, t)

  abbrev pub taken : Holes
  taken = record { zone = h.zone; from = h.from; left = bit_and h.left (h.left - 1) }

  low : IsLowest h.left t
  low = lowest-is h.left some fits

  begun : 0 < h.from
  begun = at.begun (λ e. omega (arith, e, some))

  next : suc (h.from - 1) ≡ h.from
  next = (let from = begun in omega (arith, from))

  is-found : (q : Place) → suc q.0 ≡ h.from → q.1 ≡ t → q ≡ found
  is-found q e f = (let same : q.0 ≡ h.from - 1 = omega (arith, e) in λ i. (same i, f i))

  lowest-found : (q : Place) → IsAhead h q → (q ≡ found) ⊎ ((h.from - 1 < q.0) ⊎ ((h.from - 1 ≡ q.0) × (t < q.1)))
  lowest-found q (inl le) = inr (inl (let from = begun in omega (arith, le, from)))
  lowest-found q (inr (e, one)) = elim (cases_order q.1 t) [
    | inl same ↦ inl (is-found q e same)
    | inr other ↦ elim other [
      | inl lt ↦ absurd (let none = low.lowest q.1 lt in omega (arith, none, one))
      | inr gt ↦ inr (inr (omega (arith, e), gt))
    ]
  ]

  left-found : (q : Place) → IsAhead taken q → IsAhead h q × (q ≢ found)
  left-found q (inl le) = (
    inl le,
    λ e. (let same = ap (λ (p : Place). p.0) e in let from = begun in
        omega (arith, same, le, from)),
  )
  left-found q (inr (e, one)) = elim (cases_eq q.1 t) [
    | inl same ↦ absurd (let none = ap (bit_at (bit_and h.left (h.left - 1))) same ∙ low.gone in
        omega (arith, none, one))
    | inr other ↦ (inr (e, sym (low.rest q.1 other) ∙ one), λ is. other (ap (λ (p : Place). p.1) is))
  ]

  found-left : (q : Place) → IsAhead h q → q ≢ found → IsAhead taken q
  found-left q (inl le) other = inl le
  found-left q (inr (e, one)) other = inr (e, low.rest q.1 (λ same. other (is-found q e same)) ∙ one)

  -- a bit that is left was there
  rest-set : (k : ℕ) → bit_at (bit_and h.left (h.left - 1)) k ≡ 1 → bit_at h.left k ≡ 1
  rest-set k one = elim (cases_eq k t) [
    | inl same ↦ absurd (let none = ap (bit_at (bit_and h.left (h.left - 1))) same ∙ low.gone in
        omega (arith, none, one))
    | inr other ↦ sym (low.rest k other) ∙ one
  ]

  counted-found : (first count : ℕ) → h.from - 1 < first → IsCounted s h first count
      → IsCounted s taken first (count + 1)
  counted-found first count lt is =
      let from = begun in
      let under = le-leb h.from first (omega (arith, lt, from)) in
      let was : (if nat_le h.from first then count_ones h.left else 0) ≡ count_ones h.left =
      ap (λ b. if b then count_ones h.left else 0) under in
      let rest = bit_and h.left (h.left - 1) in
      let now : (if nat_le h.from first then count_ones rest else 0) ≡ count_ones rest =
      ap (λ b. if b then count_ones rest else 0) under in
      let one = ones-rest h.left some fits in
      omega (arith, is, was, now, one)

  past-found : (first count : ℕ) → first ≤ h.from - 1 → IsCounted s h first count
      → count ≡ free_below h.zone first 0 s.arenas
  past-found first count le is =
      let from = begun in
      let over = lt-leb h.from first (omega (arith, le, from)) in
      let was : (if nat_le h.from first then count_ones h.left else 0) ≡ 0 =
      ap (λ b. if b then count_ones h.left else 0) over in
      let part = free-sum h.zone first 0 (take h.from s.arenas) in
      let end = sum-end (free_at h.zone first) s.arenas h.from
      (λ b y past there. past-free h.zone first b y (omega (arith, past, le))) in
      let whole = free-sum h.zone first 0 s.arenas in
      omega (arith, is, was, part, end, whole)

  pub finds : Finds s h found taken
  finds = record {
    free = at.free found next low.set;
    ahead = inr (next, low.set);
    lowest = λ q free ahead. lowest-found q ahead;
    left = λ q free. (left-found q, λ both. found-left q both.0 both.1);
    at = record {
      free = λ q e one. at.free q e (rest-set q.1 one);
      begun = λ some. begun;
      fits = (let less = and_le_l h.left (h.left - 1) in omega (arith, less, fits));
    };
    zone_is = refl;
    counted = counted-found;
    past = past-found;
  }

-- what is found when the walk has come on was the lowest before, too
pub finds-after : (s : Shape) (g h k : Holes) (p : Place) → ComesOn s g h → Finds s h p k → Finds s g p k
finds-after s g h k p on f = record {
  free = subst (λ z. IsFree s z p) on.zone_is f.free;
  ahead = (on.same p (subst (λ z. IsFree s z p) on.zone_is f.free)).0 f.ahead;
  lowest = λ q free ahead. f.lowest q (there q free) ((on.same q free).1 ahead);
  left = λ q free. (
    λ ahead. (let was = (f.left q (there q free)).0 ahead in ((on.same q free).0 was.0, was.1)),
    λ both. (f.left q (there q free)).1 ((on.same q free).1 both.0, both.1),
  );
  at = f.at;
  zone_is = f.zone_is ∙ on.zone_is;
  counted = λ first count lt is. f.counted first count lt (on.counted first count is);
  past = λ first count le is. f.past first count le (on.counted first count is)
      ∙ ap (λ z. free_below z first 0 s.arenas) on.zone_is;
}
  where
    there : (q : Place) → IsFree s g.zone q → IsFree s h.zone q
    there q free = subst (λ z. IsFree s z q) (sym on.zone_is) free

-- what the walk returns when it has come to an arena with a free slot
module _ (s : Shape) (g h : Holes) (on : ComesOn s g h) (some : h.left ≢ 0) (fits : h.left < 2 ^ 64) where
  pub left-some : 0 < h.left
  left-some = by h.left refl
    where
      by : (n : ℕ) → h.left ≡ n → 0 < n
      by zero e = absurd (some e)
      by (suc n) e = omega arith

  pub returned-some : (o : Option Place) → SomeIff o (t s h on.at left-some fits < 64) (found s h on.at left-some fits)
      → IfSome o (λ p. Finds s g p (taken s h on.at left-some fits))
  returned-some None is = tt
  returned-some (Some p) is =
      subst (λ (q : Place). Finds s g q (taken s h on.at left-some fits)) (sym is.1)
      (finds-after s g h (taken s h on.at left-some fits) (found s h on.at left-some fits) on
      (finds s h on.at left-some fits))

  pub returned-none : (P : Type 0) (o : Option Place)
      → SomeIff o (t s h on.at left-some fits < 64) (found s h on.at left-some fits) → IfNone o P
  returned-none P None is = absurd (is (lowest-is h.left left-some fits).below)
  returned-none P (Some p) is = tt
