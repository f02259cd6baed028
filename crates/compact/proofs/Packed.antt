-- One more cell of those that are packed moves.
use Rattle.std.proofs.Common.{◌≡◌, ◌≢◌, ◌⊎◌, ◌↔◌, ◌<◌, ◌≤◌, ◌++◌, ℕ, zero, suc, List, [], ◌∷◌, length, Contains}
use Rattle.std.proofs.Common.{get_or, inl, inr, refl, sym, ◌∙◌, ap, subst, arith}
use Rattle.std.proofs.lemmas.Bool.{cases_lt}
use Rattle.std.proofs.lemmas.List.{length-append}
use Rattle.std.proofs.lemmas.List.Elements.{Contains-append_left, Contains-get_or, Contains-push, Contains-push_cases}
use Rattle.std.proofs.lemmas.List.Quantifiers.{all_pairs_push}
use Rattle.gz_names.specs.Moves.{IsBefore, IsGoal, IsLeft, LeaveBefore}
use Rattle.gz_names.specs.declared.moves.Move.{Move}
use Rattle.gz_names.specs.declared.numbers.Place.{Place}
use Rattle.heap_core.specs.Shape.{Shape}
use Rattle.compact.specs.Holes.{Finds, FindsNone, IsAhead, IsCounted, IsFree}
use Rattle.compact.specs.Packed.{IsMover, IsPacked}
use Rattle.compact.specs.Packing.{GoLowest, free_below}
use Rattle.compact.specs.declared.holes.Holes.{Holes}
use Rattle.compact.specs.declared.packing.Packing.{Packing}

-- places in order
before-next : (p q : Place) → IsBefore p q → IsBefore p (q.0, suc q.1)
before-next p q (inl lt) = inl lt
before-next p q (inr (same, lt)) = inr (same, omega (arith, lt))

next-before : (p q : Place) → IsBefore p (q.0, suc q.1) → IsBefore p q ⊎ (p ≡ q)
next-before p q (inl lt) = inl (inl lt)
next-before p q (inr (same, lt)) = by p.1 q.1 refl refl lt
  where
    by : (i j : ℕ) → p.1 ≡ i → q.1 ≡ j → i < suc j → IsBefore p q ⊎ (p ≡ q)
    by i j e f less = elim (cases i j less) [
      | inl lt ↦ inl (inr (same, omega (arith, e, f, lt)))
      | inr is ↦ inr (let slot : p.1 ≡ q.1 = e ∙ is ∙ sym f in λ k. (same k, slot k))
    ]
      where
        cases : (i j : ℕ) → i < suc j → (i < j) ⊎ (i ≡ j)
        cases zero zero less = inr refl
        cases zero (suc j) less = inl (omega arith)
        cases (suc i) zero less = absurd (omega (arith, less))
        cases (suc i) (suc j) less = elim (cases i j (omega (arith, less))) [
          | inl lt ↦ inl (omega (arith, lt))
          | inr is ↦ inr (ap suc is)
        ]

-- a move comes behind others, to the lowest slot to which none of them goes, nor any that came before
pub record GoesBehind (s : Shape) (zone first : ℕ) (m : Move) (used moves : List Move) : Type 0 where
  pub go : GoLowest s zone first used moves
  pub free : IsFree s zone m.to
  pub below : m.to.0 < first
  pub unused : IsGoal used m.to → ⊥
  pub other : IsGoal moves m.to → ⊥
  pub lowest : (p : Place) → IsFree s zone p → (IsGoal used p → ⊥) → (IsGoal moves p → ⊥)
      → (p ≡ m.to) ⊎ IsBefore m.to p

-- a slot is free when its turn comes
module _ (s : Shape) (zone first : ℕ) (m : Move) where
  pub lowest-push : (used moves : List Move) → GoesBehind s zone first m used moves
      → GoLowest s zone first used (moves ++ m ∷ [])
  lowest-push used [] c = (
    record {
      made = c.free.made;
      zone_is = c.free.zone_is;
      below = c.below;
      slot = c.free.slot;
      free = c.free.free;
      unused = c.unused;
    },
    λ p hole. c.lowest p (record { made = hole.made; zone_is = hole.zone_is; slot = hole.slot; free = hole.free })
        hole.unused (λ goal. (let lt = goal.1.1 in omega (arith, lt))),
    tt,
  )
  lowest-push used (n ∷ moves) c = (
    c.go.0,
    c.go.1,
    lowest-push (n ∷ used) moves (record {
      go = c.go.2;
      free = c.free;
      below = c.below;
      unused = more m.to c.unused c.other;
      other = λ goal. c.other (later m.to goal);
      lowest = λ p is unused none. c.lowest p is (λ goal. unused (goal.0, after used goal.0 goal.1, goal.2))
          (fewer p unused none);
    }),
  )
    where
      after : (moves : List Move) (x : Move) → Contains moves x → Contains (n ∷ moves) x
      after moves x has = (suc has.0, (let lt = has.1 in omega (arith, lt)), has.2)

      later : (p : Place) → IsGoal moves p → IsGoal (n ∷ moves) p
      later p goal = (goal.0, after moves goal.0 goal.1, goal.2)

      here : (p : Place) → n.to ≡ p → IsGoal (n ∷ moves) p
      here p is = (n, (zero, omega arith, refl), is)

      more : (p : Place) → (IsGoal used p → ⊥) → (IsGoal (n ∷ moves) p → ⊥) → IsGoal (n ∷ used) p → ⊥
      more p apart other (x, (zero, lt, at), is) = other (here p (ap (λ (y : Move). y.to) at ∙ is))
      more p apart other (x, (suc k, lt, at), is) = apart (x, (k, omega (arith, lt), at), is)

      fewer : (p : Place) → (IsGoal (n ∷ used) p → ⊥) → (IsGoal moves p → ⊥) → IsGoal (n ∷ moves) p → ⊥
      fewer p unused none (x, (zero, lt, at), is) =
          unused (n, (zero, omega arith, refl), ap (λ (y : Move). y.to) at ∙ is)
      fewer p unused none (x, (suc k, lt, at), is) = none (x, (k, omega (arith, lt), at), is)

-- a cell that moves next, and the slot to which it goes
pub record MovesOne (s : Shape) (zone : ℕ) (cell to : Place) (k : Packing) (left : Holes) : Type 0 where
  pub packed : IsPacked s zone cell k
  pub mover : IsMover s zone k.first_given_up cell
  pub finds : Finds s k.holes to left
  pub below : to.0 < k.first_given_up

module _ (s : Shape) (zone : ℕ) (cell to : Place) (k : Packing) (left : Holes) (c : MovesOne s zone cell to k left)
  where
    abbrev pub step : Move
    step = record { from = cell; to = to }

    abbrev pub more : Packing
    more = record { moves = k.moves ++ step ∷ []; first_given_up = k.first_given_up; holes = left }

    free-zone : (p : Place) → IsFree s zone p → IsFree s k.holes.zone p
    free-zone p free = subst (λ z. IsFree s z p) (sym c.packed.zone_is) free

    to-free : IsFree s zone to
    to-free = subst (λ z. IsFree s z to) c.packed.zone_is c.finds.free

    to-unused : IsGoal k.moves to → ⊥
    to-unused = (c.packed.ahead to to-free).0 c.finds.ahead

    goal-more : (p : Place) → IsGoal k.moves p → IsGoal more.moves p
    goal-more p goal = (goal.0, Contains-append_left k.moves (step ∷ []) goal.0 goal.1, goal.2)

    goal-cases : (p : Place) → IsGoal more.moves p → IsGoal k.moves p ⊎ (to ≡ p)
    goal-cases p goal = elim (Contains-push_cases k.moves step goal.0 goal.1) [
      | inl has ↦ inl (goal.0, has, goal.2)
      | inr is ↦ inr (ap (λ (m : Move). m.to) is ∙ goal.2)
    ]

    from-more : (m : Move) → Contains more.moves m
        → IsMover s zone k.first_given_up m.from × IsBefore m.from (cell.0, suc cell.1)
    from-more m has = elim (Contains-push_cases k.moves step m has) [
      | inl was ↦ (let is = c.packed.from m was in (is.0, before-next m.from cell is.1))
      | inr same ↦ subst (λ (n : Move). IsMover s zone k.first_given_up n.from × IsBefore n.from (cell.0, suc cell.1))
          same (c.mover, inr (refl, omega arith))
    ]

    all-more : (p : Place) → IsMover s zone k.first_given_up p → IsBefore p (cell.0, suc cell.1)
        → IsLeft more.moves p
    all-more p mover before = elim (next-before p cell before) [
      | inl was ↦ (let left = c.packed.all p mover was in
          (left.0, Contains-append_left k.moves (step ∷ []) left.0 left.1, left.2))
      | inr is ↦ (step, Contains-push k.moves step, sym is)
    ]

    goals-more : (m : Move) → Contains more.moves m → IsFree s zone m.to × (m.to.0 < k.first_given_up)
    goals-more m has = elim (Contains-push_cases k.moves step m has) [
      | inl was ↦ c.packed.goals m was
      | inr same ↦ subst (λ (n : Move). IsFree s zone n.to × (n.to.0 < k.first_given_up)) same (to-free, c.below)
    ]

    ahead-more : (p : Place) → IsFree s zone p → IsAhead left p ↔ (IsGoal more.moves p → ⊥)
    ahead-more p free = (
      λ ahead goal. (let was = (c.finds.left p (free-zone p free)).0 ahead in
          elim (goal-cases p goal) [
            | inl before ↦ (c.packed.ahead p free).0 was.0 before
            | inr is ↦ was.1 (sym is)
          ]),
      λ none. (c.finds.left p (free-zone p free)).1 (
        (c.packed.ahead p free).1 (λ goal. none (goal-more p goal)),
        λ is. none (step, Contains-push k.moves step, sym is),
      ),
    )

    pub packed-more : IsPacked s zone (cell.0, suc cell.1) more
    packed-more = record {
      from = from-more;
      all = all-more;
      goals = goals-more;
      apart = all_pairs_push (λ (m n : Move). m.to ≢ n.to) k.moves step c.packed.apart
          (λ i d lt is. to-unused (get_or k.moves i d, Contains-get_or k.moves i d lt, is));
      lowest = lowest-push s zone k.first_given_up step [] k.moves (record {
        go = c.packed.lowest;
        free = to-free;
        below = c.below;
        unused = λ goal. (let lt = goal.1.1 in omega (arith, lt));
        other = to-unused;
        lowest = λ p free unused none. c.finds.lowest p (free-zone p free) ((c.packed.ahead p free).1 none);
      });
      zone_is = c.finds.zone_is ∙ c.packed.zone_is;
      at = c.finds.at;
      ahead = ahead-more;
      counted = subst (λ n. IsCounted s left k.first_given_up n) (sym (length-append k.moves (step ∷ [])))
          (c.finds.counted k.first_given_up (length k.moves) c.below c.packed.counted);
    }

-- there is a slot below the arenas that are given up
pub not-past : (s : Shape) (zone : ℕ) (cell to : Place) (k : Packing) (left : Holes) → IsPacked s zone cell k
    → length k.moves < free_below zone k.first_given_up 0 s.arenas → Finds s k.holes to left
    → k.first_given_up ≤ to.0 → ⊥
not-past s zone cell to k left packed room finds past =
    let all = finds.past k.first_given_up (length k.moves) past packed.counted in
    let zones = ap (λ z. free_below z k.first_given_up 0 s.arenas) packed.zone_is in
    omega (arith, room, all, zones)

pub no-room : (s : Shape) (zone : ℕ) (cell : Place) (k : Packing) → IsPacked s zone cell k
    → length k.moves < free_below zone k.first_given_up 0 s.arenas → FindsNone s k.holes → ⊥
no-room s zone cell k packed room none =
    let all = none k.first_given_up (length k.moves) packed.counted in
    let zones = ap (λ z. free_below z k.first_given_up 0 s.arenas) packed.zone_is in
    omega (arith, room, all, zones)

pub behind : (s : Shape) (zone : ℕ) (cell : Place) (k : Packing) → IsPacked s zone cell k
    → LeaveBefore k.moves cell
behind s zone cell k packed m has = (packed.from m has).1

-- a cell may move, and a slot was found for it
pub record FindsSlot (s : Shape) (zone : ℕ) (cell to : Place) (k : Packing) (left : Holes) : Type 0 where
  pub packed : IsPacked s zone cell k
  pub mover : IsMover s zone k.first_given_up cell
  pub room : length k.moves < free_below zone k.first_given_up 0 s.arenas
  pub finds : Finds s k.holes to left

pub moved-one : (s : Shape) (zone : ℕ) (cell to : Place) (k : Packing) (left : Holes)
    → FindsSlot s zone cell to k left → (moves : List Move)
    → moves ≡ k.moves ++ record { from = cell; to = to } ∷ []
    → IsPacked s zone (cell.0, suc cell.1)
    (record { moves = moves; first_given_up = k.first_given_up; holes = left })
moved-one s zone cell to k left c moves is = elim (cases_lt to.0 k.first_given_up) [
  | inl below ↦ subst (λ (ms : List Move). IsPacked s zone (cell.0, suc cell.1)
      (record { moves = ms; first_given_up = k.first_given_up; holes = left })) (sym is)
      (packed-more s zone cell to k left
      (record { packed = c.packed; mover = c.mover; finds = c.finds; below = below }))
  | inr past ↦ absurd (not-past s zone cell to k left c.packed c.room c.finds past)
]
