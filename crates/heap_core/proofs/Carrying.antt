-- Cells that go to other slots, and all cells that lead to where they have gone.
use Rattle.std.proofs.Common.{◌≡◌, ◌⊎◌, ◌<◌, ◌==◌, ℕ, zero, suc, Bool, true, false, List, [], ◌∷◌, length}
use Rattle.std.proofs.Common.{map}
use Rattle.std.proofs.Common.{Contains, Option, Some, None, IsSome, get_or, option_map, slice_get, if◌then◌else◌, inl}
use Rattle.std.proofs.Common.{inr}
use Rattle.std.proofs.Common.{refl, sym, ◌∙◌, ap, subst, arith}
use Rattle.std.proofs.lemmas.Bool.{false≢true}
use Rattle.gz_names.specs.Moves.{AreInOrder, IsGoal, IsLeft, is_same, moved}
use Rattle.gz_names.specs.declared.moves.Move.{Move}
use Rattle.gz_names.specs.declared.numbers.Place.{Place}
use Rattle.gz_names.proofs.Moving.{contained, moved-at, moved-cases, same-places, same-true}
use Rattle.arena_table.specs.Cells.{CellState}
use Rattle.arena_table.specs.Indexed.{is_owned}
use Rattle.arena_table.specs.Moving.{MayMove, MovesCells, forwarded}
use Rattle.arena_table.specs.Slots.{Arena, cell_at}
use Rattle.heap_core.proofs.Forwarded.{forwarded-twice}

-- a list names a place that is left, or moves change nothing in it
fields-cases : (moves : List Move) (os : List (Option Place))
    → ((q : Place) × Contains os (Some q) × IsLeft moves q) ⊎ (map (option_map (moved moves)) os ≡ os)
fields-cases moves [] = inr refl
fields-cases moves (o ∷ os) = by o (fields-cases moves os)
  where
    further : (o : Option Place) → ((q : Place) × Contains os (Some q) × IsLeft moves q)
        → (q : Place) × Contains (o ∷ os) (Some q) × IsLeft moves q
    further o (q, has, left) = (q, (suc has.0, (let lt = has.1 in omega (arith, lt)), has.2), left)

    by : (o : Option Place)
        → ((q : Place) × Contains os (Some q) × IsLeft moves q) ⊎ (map (option_map (moved moves)) os ≡ os)
        → ((q : Place) × Contains (o ∷ os) (Some q) × IsLeft moves q)
        ⊎ (map (option_map (moved moves)) (o ∷ os) ≡ o ∷ os)
    by o (inl some) = inl (further o some)
    by None (inr same) = inr (ap (λ ys. None ∷ ys) same)
    by (Some q) (inr same) = elim (moved-cases moves q) [
      | inl w ↦ inl (q, (zero, omega arith, refl), (w.1, contained moves w.0 w.1 w.2, w.3))
      | inr s ↦ inr (ap (λ p. Some p ∷ map (option_map (moved moves)) os) s.0 ∙ ap (λ ys. Some q ∷ ys) same)
    ]

-- a place is gone to, or it is not
pub goal-cases : (moves : List Move) (q : Place) → IsGoal moves q ⊎ (IsGoal moves q → ⊥)
goal-cases [] q = inr (λ g. (let lt = g.1.1 in omega (arith, lt)))
goal-cases (m ∷ moves) q = by (is_same m.to q) refl (goal-cases moves q)
  where
    by : (b : Bool) → is_same m.to q ≡ b → IsGoal moves q ⊎ (IsGoal moves q → ⊥)
        → IsGoal (m ∷ moves) q ⊎ (IsGoal (m ∷ moves) q → ⊥)
    by true is rest = inl (m, (zero, omega arith, refl), same-places m.to q is)
    by false is (inl g) = inl (g.0, (suc g.1.0, (let lt = g.1.1 in omega (arith, lt)), g.1.2), g.2)
    by false is (inr rest) = inr none
      where
        none : IsGoal (m ∷ moves) q → ⊥
        none (n, (zero, lt, e), at) =
            false≢true (sym is ∙ subst (λ p. is_same m.to p ≡ true) (ap (λ (x : Move). x.to) e ∙ at) (same-true m.to))
        none (n, (suc k, lt, e), at) = rest (n, (k, omega (arith, lt), e), at)

-- whether an arena is one of a zone, by its zone
abbrev owned_by : ℕ → Option ℕ → Bool
owned_by zone None = false
owned_by zone (Some z) = z == zone

owned-by : (zone : ℕ) (o : Option Arena) → is_owned zone o ≡ owned_by zone (option_map (λ (x : Arena). x.zone) o)
owned-by zone None = refl
owned-by zone (Some x) = refl

some-mapped : (f : CellState → CellState) (o : Option CellState) → IsSome (option_map f o) → IsSome o
some-mapped f None is = is
some-mapped f (Some cell) is = is

-- a cell outside of a zone that names a place that is left
pub record NamesLeft (xs : List Arena) (zone : ℕ) (moves : List Move) (p : Place) : Type 0 where
  pub cell : CellState
  pub stands : cell_at xs p ≡ Some cell
  pub out : is_owned zone (slice_get xs p.0) ≡ false
  pub place : Place
  pub has : Contains cell.fields (Some place)
  pub left : IsLeft moves place

-- the cells of xs went as moves take them; in zs those of the zone lead to where cells have gone; and in us others do
pub record Gone (xs ys zs us : List Arena) (zone : ℕ) (moves : List Move) (Those : Place → Type 0) : Type 0 where
  pub order : AreInOrder moves
  pub may : MayMove xs moves
  pub mine : (m : Move) → Contains moves m → (is_owned zone (slice_get xs m.from.0) ≡ true)
      × (is_owned zone (slice_get xs m.to.0) ≡ true)
  pub went : MovesCells xs moves ys
  pub inner : (p : Place) → cell_at zs p ≡ (if is_owned zone (slice_get ys p.0)
      then option_map (forwarded moves) (cell_at ys p) else cell_at ys p)
  pub those : (p : Place) → Those p → cell_at us p ≡ option_map (forwarded moves) (cell_at zs p)
  pub others : (p : Place) → (cell_at us p ≡ cell_at zs p)
      ⊎ (cell_at us p ≡ option_map (forwarded moves) (cell_at zs p))
  pub leads : (p : Place) → NamesLeft xs zone moves p → Those p

-- where the cells of a zone are, after they went
pub stands-gone : (xs ys zs : List Arena) (zone : ℕ) (moves : List Move) → MayMove xs moves → MovesCells xs moves ys
    → ((p : Place) → cell_at zs p ≡ (if is_owned zone (slice_get ys p.0)
    then option_map (forwarded moves) (cell_at ys p) else cell_at ys p))
    → (p : Place) → IsSome (cell_at xs p) → IsSome (cell_at zs (moved moves p))
stands-gone xs ys zs zone moves may went inner p held =
    subst IsSome (sym (inner (moved moves p))) (either (is_owned zone (slice_get ys (moved moves p).0)))
  where
    there : IsSome (cell_at ys (moved moves p))
    there = elim (moved-cases moves p) [
      | inl w ↦ subst IsSome (sym (ap (cell_at ys) w.4 ∙ went.gone w.1 (contained moves w.0 w.1 w.2)
          ∙ ap (cell_at xs) w.3)) held
      | inr s ↦ subst IsSome (sym (ap (cell_at ys) s.0 ∙ went.others p s.1 (may.apart.free p held))) held
    ]

    some : (o : Option CellState) → IsSome o → IsSome (option_map (forwarded moves) o)
    some None is = is
    some (Some cell) is = is

    either : (b : Bool) → IsSome (if b then option_map (forwarded moves) (cell_at ys (moved moves p))
        else cell_at ys (moved moves p))
    either true = some (cell_at ys (moved moves p)) there
    either false = there

module _ (xs ys zs us : List Arena) (zone : ℕ) (moves : List Move) (Those : Place → Type 0)
    (c : Gone xs ys zs us zone moves Those) where
  owned-ys : (a : ℕ) → is_owned zone (slice_get ys a) ≡ is_owned zone (slice_get xs a)
  owned-ys a = owned-by zone (slice_get ys a) ∙ ap (owned_by zone) (c.went.zones a) ∙ sym (owned-by zone
      (slice_get xs a))

  inner-is : (p : Place) (b : Bool) → is_owned zone (slice_get xs p.0) ≡ b
      → cell_at zs p ≡ (if b then option_map (forwarded moves) (cell_at ys p) else cell_at ys p)
  inner-is p b e = c.inner p
      ∙ ap (λ t. if t then option_map (forwarded moves) (cell_at ys p) else cell_at ys p) (owned-ys p.0 ∙ e)

  after : (p : Place) (o : Option CellState) → cell_at zs p ≡ option_map (forwarded moves) o
      → cell_at us p ≡ option_map (forwarded moves) o
  after p o e = elim (c.others p) [
    | inl same ↦ same ∙ e
    | inr gone ↦ gone ∙ ap (option_map (forwarded moves)) e ∙ forwarded-twice moves c.may.apart.clear o
  ]

  -- a cell of another zone that stays
  other : (p : Place) → is_owned zone (slice_get xs p.0) ≡ false → (o : Option CellState) → cell_at xs p ≡ o
      → cell_at zs p ≡ o → cell_at us p ≡ option_map (forwarded moves) o
  other p out None at here = after p None here
  other p out (Some cell) at here = elim (fields-cases moves cell.fields) [
    | inl some ↦ c.those p (c.leads p (record {
      cell = cell;
      stands = at;
      out = out;
      place = some.0;
      has = some.1;
      left = some.2;
    })) ∙ ap (option_map (forwarded moves)) here
    | inr same ↦ after p (Some cell)
        (here ∙ ap (λ (fields : List (Option Place)). Some (record cell { fields = fields })) (sym same))
  ]

  stayed : (p : Place) → IsSome (cell_at xs p) → (IsLeft moves p → ⊥)
      → cell_at us p ≡ option_map (forwarded moves) (cell_at xs p)
  stayed p held none = by (is_owned zone (slice_get xs p.0)) refl
    where
      same : cell_at ys p ≡ cell_at xs p
      same = c.went.others p none (c.may.apart.free p held)

      by : (b : Bool) → is_owned zone (slice_get xs p.0) ≡ b
          → cell_at us p ≡ option_map (forwarded moves) (cell_at xs p)
      by true e = after p (cell_at xs p) (inner-is p true e ∙ ap (option_map (forwarded moves)) same)
      by false e = other p e (cell_at xs p) refl (inner-is p false e ∙ same)

  -- each cell is where it went, and leads to where what it named went
  pub cells-gone : (p : Place) → IsSome (cell_at xs p)
      → cell_at us (moved moves p) ≡ option_map (forwarded moves) (cell_at xs p)
  cells-gone p held = elim (moved-cases moves p) [
    | inl w ↦
        (let has = contained moves w.0 w.1 w.2 in
        ap (cell_at us) w.4
        ∙ after w.1.to (cell_at xs p) (inner-is w.1.to true (c.mine w.1 has).1
        ∙ ap (option_map (forwarded moves)) (c.went.gone w.1 has ∙ ap (cell_at xs) w.3)))
    | inr s ↦ ap (cell_at us) s.0 ∙ stayed p held s.1
  ]

  stood : (q : Place) → IsSome (cell_at us q) → IsSome (cell_at ys q)
  stood q held = by (is_owned zone (slice_get xs q.0)) refl
    where
      before : IsSome (cell_at zs q)
      before = elim (c.others q) [
        | inl same ↦ subst IsSome same held
        | inr gone ↦ some-mapped (forwarded moves) (cell_at zs q) (subst IsSome gone held)
      ]

      by : (b : Bool) → is_owned zone (slice_get xs q.0) ≡ b → IsSome (cell_at ys q)
      by true e = some-mapped (forwarded moves) (cell_at ys q) (subst IsSome (inner-is q true e) before)
      by false e = subst IsSome (inner-is q false e) before

  -- each cell came from somewhere
  pub back-gone : (q : Place) → IsSome (cell_at us q) → (p : Place) × IsSome (cell_at xs p) × (moved moves p ≡ q)
  back-gone q held = elim (goal-cases moves q) [
    | inl g ↦ (g.0.from, c.may.cells g.0 g.1, moved-at moves g.1.0 g.0 c.order (read moves g.1.0 g.0 g.1.1 g.1.2) ∙ g.2)
    | inr none ↦ elim (moved-cases moves q) [
      | inl w ↦ absurd (cc (subst IsSome (c.went.left q (w.1, contained moves w.0 w.1 w.2, w.3)) (stood q held)))
      | inr s ↦ (q, subst IsSome (c.went.others q s.1 none) (stood q held), s.0)
    ]
  ]
    where
      read : (ms : List Move) (k : ℕ) (m : Move) → k < length ms → get_or ms k m ≡ m → slice_get ms k ≡ Some m
      read [] k m lt e = absurd (omega (arith, lt))
      read (n ∷ ms) zero m lt e = ap Some e
      read (n ∷ ms) (suc k) m lt e = read ms k m (omega (arith, lt)) e
