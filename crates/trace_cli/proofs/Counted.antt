-- How many cells are present, by name.
use Rattle.std.proofs.Common.{◌≡◌, ◌+◌, ◌<◌, ◌≤◌, ◌++◌, ℕ, zero, suc, List, [], ◌∷◌, length, Option, Some}
use Rattle.std.proofs.Common.{None}
use Rattle.std.proofs.Common.{Bool, true, is_some, option_map, slice_get, sum_by, take, Contains, refl}
use Rattle.std.proofs.Common.{sym, ap, subst, ◌∙◌, inl, inr, arith, length-append, if◌then◌else◌}
use Rattle.std.specs.Bool.{Decides}
use Rattle.std.specs.List.{IsDistinct}
use Rattle.std.proofs.Math.Seq.{take-length}
use Rattle.std.proofs.lemmas.Bool.{cases_lt}
use Rattle.std.proofs.lemmas.List.Elements.{Contains-append_cases, Contains-append_left, Contains-append_right}
use Rattle.std.proofs.lemmas.Map.Made.{AllPairs-from_IsDistinct}
use Rattle.std.specs.FinMap as places
use Rattle.gz_names.specs.Order.{same_name}
use Rattle.gz_names.specs.declared.names.Name.{Name}
use Rattle.gz_names.specs.declared.numbers.Place.{Place}
use Rattle.cell_bits.specs.declared.bits.Bits.{Bits}
use Rattle.arena_table.specs.Cells.{CellState}
use Rattle.colour_defs.proofs.Names.{same_name-is, same_name-refl}
use Rattle.colour_defs.proofs.Lists.{contains_cases, contains_head, nothing_in_none}
use Rattle.colour_defs.specs.World.{World, IsPresent as IsPresentName}
use Rattle.barriers.specs.Colours.{slots_below}
use Rattle.heap_core.specs.Shape.{ArenaShape, Shape, cell_in_arena, cell_of, name_at}
use Rattle.slice_driver.specs.Collector.{CollectorState}
use Rattle.slice_driver.specs.Present.{present_in_all, present_in_arena}
use Rattle.slice_driver.specs.Represents.{Represents}
use Rattle.slice_driver.specs.Worlds.{LiesIn}
use Rattle.slice_driver.proofs.abstraction.Named.{named_present, some_one}
use Rattle.slice_driver.proofs.abstraction.Phases.{placed_in}
use Rattle.slice_driver.proofs.group_end.GrayNames.{present_within}
use Rattle.slice_driver.proofs.group_end.Grays.{distinct_append, distinct_none, distinct_one}
use Rattle.slice_driver.proofs.taking_in.PresentCells.{arena_there, take_one_more}
use Rattle.trace_cli.specs.Storms.{Counts}

-- the name at a place, if there is one; those of an arena below a slot, and of the arenas below a number
abbrev names_in : Option Name → List Name
names_in None = []
names_in (Some x) = x ∷ []

abbrev names_below : Shape → ℕ → ℕ → List Name
names_below s a zero = []
names_below s a (suc slot) = names_in (name_at s (a, slot)) ++ names_below s a slot

abbrev names_up_to : Shape → ℕ → List Name
names_up_to s zero = []
names_up_to s (suc a) = names_below s a 64 ++ names_up_to s a

-- how many they are
one_name : (o : Option Name) → length (names_in o) ≡ (if is_some o then 1 else 0)
one_name None = refl
one_name (Some x) = refl

below_length : (s : Shape) (a n : ℕ) → length (names_below s a n) ≡ slots_below (λ slot. is_some (name_at s (a, slot)))
    n
unfolding slots_below
below_length s a zero = refl
below_length s a (suc n) =
    let both = length-append (names_in (name_at s (a, n))) (names_below s a n) in
    let one = one_name (name_at s (a, n)) in
    let rest = below_length s a n in
    omega (arith, both, one, rest)

named_if_there : (o : Option CellState) → is_some (option_map (λ (cell : CellState). cell.name) o) ≡ is_some o
named_if_there None = refl
named_if_there (Some cell) = refl

arena_length : (s : Shape) (a : ℕ) (arena : ArenaShape) → slice_get s.arenas a ≡ Some arena
    → length (names_below s a 64) ≡ present_in_arena arena
arena_length s a arena at =
    below_length s a 64
    ∙ ap (λ (test : ℕ → Bool). slots_below test 64) (λ i slot. (named_if_there (cell_of s (a, slot))
    ∙ ap (λ (o : Option ArenaShape). is_some (cell_in_arena o slot)) at) i)

up_to_length : (s : Shape) (n : ℕ) → n ≤ length s.arenas
    → length (names_up_to s n) ≡ sum_by present_in_arena (take n s.arenas)
up_to_length s zero few = refl
up_to_length s (suc n) few =
    let arena = arena_there s.arenas n (omega (arith, few)) in
    let here = arena_length s n arena.0 arena.1 in
    let rest = up_to_length s n (omega (arith, few)) in
    let both = length-append (names_below s n 64) (names_up_to s n) in
    let sum = take_one_more present_in_arena s.arenas n arena.0 arena.1 in
    let next : n + 1 ≡ suc n = omega arith in
    let sums = ap (λ (k : ℕ). sum_by present_in_arena (take k s.arenas)) next in
    omega (arith, here, rest, both, sum, sums)

-- which they are
named : (o : Option Name) (x : Name) → Contains (names_in o) x → o ≡ Some x
named None x c = absurd (nothing_in_none x c)
named (Some y) x c = elim (contains_cases y [] x c) [
  | inl e ↦ ap (λ (z : Name). Some z) e
  | inr t ↦ absurd (nothing_in_none x t)
]

at_name : (o : Option Name) (x : Name) → o ≡ Some x → Contains (names_in o) x
at_name o x e = subst (λ (z : Option Name). Contains (names_in z) x) (sym e) (contains_head x [])

below_listed : (s : Shape) (a n : ℕ) (x : Name) → Contains (names_below s a n) x
    → (slot : ℕ) × (slot < n) × (name_at s (a, slot) ≡ Some x)
below_listed s a zero x c = absurd (nothing_in_none x c)
below_listed s a (suc n) x c =
    elim (Contains-append_cases (names_in (name_at s (a, n))) (names_below s a n) x c) [
      | inl here ↦ (n, omega arith, named (name_at s (a, n)) x here)
      | inr there ↦ (let r = below_listed s a n x there in (r.0, omega (arith, r.1), r.2))
    ]

listed_below : (s : Shape) (a n slot : ℕ) (x : Name) → slot < n → name_at s (a, slot) ≡ Some x
    → Contains (names_below s a n) x
listed_below s a zero slot x lt e = absurd (omega (arith, lt))
listed_below s a (suc n) slot x lt e = elim (cases_lt slot n) [
  | inl less ↦ Contains-append_right (names_in (name_at s (a, n))) (names_below s a n) x
      (listed_below s a n slot x less e)
  | inr more ↦ (let is : slot ≡ n = omega (arith, lt, more) in
      Contains-append_left (names_in (name_at s (a, n))) (names_below s a n) x
      (at_name (name_at s (a, n)) x (subst (λ (k : ℕ). name_at s (a, k) ≡ Some x) is e)))
]

up_to_listed : (s : Shape) (n : ℕ) (x : Name) → Contains (names_up_to s n) x
    → (a : ℕ) × (slot : ℕ) × (a < n) × (name_at s (a, slot) ≡ Some x)
up_to_listed s zero x c = absurd (nothing_in_none x c)
up_to_listed s (suc n) x c = elim (Contains-append_cases (names_below s n 64) (names_up_to s n) x c) [
  | inl here ↦ (let r = below_listed s n 64 x here in (n, r.0, omega arith, r.2))
  | inr there ↦ (let r = up_to_listed s n x there in (r.0, r.1, omega (arith, r.2), r.3))
]

listed_up_to : (s : Shape) (n a slot : ℕ) (x : Name) → a < n → slot < 64 → name_at s (a, slot) ≡ Some x
    → Contains (names_up_to s n) x
listed_up_to s zero a slot x lt few e = absurd (omega (arith, lt))
listed_up_to s (suc n) a slot x lt few e = elim (cases_lt a n) [
  | inl less ↦ Contains-append_right (names_below s n 64) (names_up_to s n) x (listed_up_to s n a slot x less few e)
  | inr more ↦ (let is : a ≡ n = omega (arith, lt, more) in
      Contains-append_left (names_below s n 64) (names_up_to s n) x
      (listed_below s n 64 slot x few (subst (λ (k : ℕ). name_at s (k, slot) ≡ Some x) is e)))
]

-- no name twice
module _ (s : Shape) (apart : (p q : Place) (x : Name) → name_at s p ≡ Some x → name_at s q ≡ Some x → p ≡ q) where
  distinct_in : (o : Option Name) → IsDistinct same_name (names_in o)
  distinct_in None = distinct_none
  distinct_in (Some x) = distinct_one x

  distinct_below : (a n : ℕ) → IsDistinct same_name (names_below s a n)
  distinct_below a zero = distinct_none
  distinct_below a (suc n) =
      distinct_append (names_in (name_at s (a, n))) (names_below s a n) (distinct_in (name_at s (a, n)))
      (distinct_below a n) (λ x c d. (
      let other = below_listed s a n x d in
      let same : n ≡ other.0 = ap (λ (q : Place). q.1)
      (apart (a, n) (a, other.0) x (named (name_at s (a, n)) x c) other.2) in
      omega (arith, same, other.1)))

  distinct_up_to : (n : ℕ) → IsDistinct same_name (names_up_to s n)
  distinct_up_to zero = distinct_none
  distinct_up_to (suc n) =
      distinct_append (names_below s n 64) (names_up_to s n) (distinct_below n 64) (distinct_up_to n) (λ x c d. (
      let one = below_listed s n 64 x c in
      let other = up_to_listed s n x d in
      let same : n ≡ other.0 = ap (λ (q : Place). q.0)
      (apart (n, one.0) (other.0, other.1) x one.2 other.3) in
      omega (arith, same, other.2)))

-- the test of names
pub same_decides : (x y : Name) → Decides (same_name x y) (x ≡ y)
same_decides x y = (same_name-is x y, λ e. subst (λ (z : Name). same_name x z ≡ true) e (same_name-refl x))

-- in a world that a collector stands for, this number of names are present
module _ (c : CollectorState) (flown : ℕ → Option Bits) (w : World) (r : Represents c flown w) where
  abbrev s : Shape
  s = c.heap.shape

  abbrev n : ℕ
  n = length c.heap.shape.arenas

  lies : LiesIn c.heap w
  lies = (placed_in c flown w r).lies

  apart : (p q : Place) (x : Name) → name_at s p ≡ Some x → name_at s q ≡ Some x → p ≡ q
  apart p q x e f = some_one p q (sym ((lies.places_are x p).1 e) ∙ (lies.places_are x q).1 f)

  listed : (x : Name) (o : Option Place) → places.get w.places x ≡ o → is_some o ≡ true → Contains (names_up_to s n) x
  listed x None e some = absurd (cc some)
  listed x (Some p) e some =
      let at = (lies.places_are x p).0 e in
      let within = present_within s p lies.whole (named_present s p x at) in
      listed_up_to s n p.0 p.1 x within.0 within.1 at

  pub present_counted : Counts (IsPresentName w) (present_in_all c.heap.shape.arenas)
  present_counted = record {
    names = names_up_to s n;
    exact = λ x. (
      λ h. let at = up_to_listed s n x h in ap is_some ((lies.places_are x (at.0, at.1)).1 at.3),
      λ p. listed x (places.get w.places x) refl p,
    );
    each_once = AllPairs-from_IsDistinct same_decides (names_up_to s n) (distinct_up_to s apart n);
    number = up_to_length s n (omega arith)
        ∙ ap (λ (arenas : List ArenaShape). sum_by present_in_arena arenas) (take-length s.arenas);
  }
