-- Cells that a compaction moves, one after another, by their names.
use Rattle.std.proofs.Common.{◌≡◌, ◌⊎◌, ◌↔◌, ◌<◌, ◌≤◌, ◌==◌, ◌&&◌, ℕ, zero, suc, Bool, true, false, cond, List, [], ◌∷◌}
use Rattle.std.proofs.Common.{length, ◌+◌, Option, Some, None, Contains, AllPairs, nat_lt, slice_get, refl, sym, ap}
use Rattle.std.proofs.Common.{subst, ◌∙◌}
use Rattle.std.proofs.Common.{inl, inr, arith, eqb-true, ltb-true, eq-eqb, lt-ltb}
use Rattle.std.specs.FinMap as map
use Rattle.std.specs.Option.{option_map}
use Rattle.std.proofs.lemmas.List.Elements.{All-contains}
use Rattle.std.specs.Ordering.{eq_by_cmp}
use Rattle.gz_names.specs.Moves.{AreInOrder, IsBefore, IsLeft}
use Rattle.gz_names.specs.Order.{name_cmp, names_total}
use Rattle.gz_names.specs.declared.moves.Move.{Move}
use Rattle.gz_names.specs.declared.names.Name.{Name}
use Rattle.gz_names.specs.declared.numbers.Place.{Place}
use Rattle.arena_table.specs.Cells.{CellState}
use Rattle.colour_defs.specs.Compaction.{AreMoved, IsFreeIn, Places}
use Rattle.colour_defs.specs.World.{World}
use Rattle.colour_defs.proofs.Lists.{contains_cases, contains_head, contains_tail, nothing_in_none}
use Rattle.colour_defs.proofs.Names.{eq_name-is, eq_name-refl}
use Rattle.compact.specs.Packing.{GoLowest, IsHole}
use Rattle.heap_core.specs.Heap.{HeapState}
use Rattle.heap_core.specs.Moving.{AreMoves}
use Rattle.heap_core.specs.Shape.{ArenaShape, IsPresent, Shape, cell_of, name_at, zone_in, zone_of}
use Rattle.slice_driver.specs.Worlds.{LiesIn}
use Rattle.slice_driver.proofs.abstraction.Named.{name_of, some_one}
use Rattle.slice_driver.proofs.packing.Arenas.{has_picked, is_below, kept_of, picked_has}

-- places after a cell got one
placed_same : (ps : Places) (x : Name) (p : ℕ × ℕ) → map.get (map.insert ps x p) x ≡ Some p
placed_same ps x p = map.get-insert names_total ps x p x
    ∙ ap (λ b. cond b (Some p) (map.get ps x)) (eq_name-refl x)

placed_other : (ps : Places) (x : Name) (p : ℕ × ℕ) (y : Name) → (x ≡ y → ⊥)
    → map.get (map.insert ps x p) y ≡ map.get ps y
placed_other ps x p y apart = map.get-insert names_total ps x p y ∙ by (eq_by_cmp name_cmp y x) refl
  where
    by : (b : Bool) → eq_by_cmp name_cmp y x ≡ b → cond b (Some p) (map.get ps y) ≡ map.get ps y
    by true e = absurd (apart (sym (eq_name-is y x e)))
    by false e = refl

placed_cases : (ps : Places) (x : Name) (p : ℕ × ℕ) (y : Name) (q : ℕ × ℕ)
    → map.get (map.insert ps x p) y ≡ Some q → ((x ≡ y) × (p ≡ q)) ⊎ ((map.get ps y ≡ Some q) × (x ≡ y → ⊥))
placed_cases ps x p y q e = by (eq_by_cmp name_cmp y x) refl (sym (map.get-insert names_total ps x p y) ∙ e)
  where
    by : (b : Bool) → eq_by_cmp name_cmp y x ≡ b → cond b (Some p) (map.get ps y) ≡ Some q
        → ((x ≡ y) × (p ≡ q)) ⊎ ((map.get ps y ≡ Some q) × (x ≡ y → ⊥))
    by true is f = inl (sym (eq_name-is y x is), cc f)
    by false is f = inr (f, λ same. cc (is, ap (λ z. eq_by_cmp name_cmp y z) same, eq_name-refl y))

-- the names of the cells that moves take, and where they lie afterwards
abbrev pub with_name : Option Name → List Name → List Name
with_name None xs = xs
with_name (Some x) xs = x ∷ xs

abbrev with_place : Option Name → Place → Places → Places
with_place None p ps = ps
with_place (Some x) p ps = map.insert ps x p

abbrev pub movers : Shape → List Move → List Name
movers s [] = []
movers s (m ∷ moves) = with_name (name_at s m.from) (movers s moves)

abbrev pub placed : Shape → List Move → Places → Places
placed s [] ps = ps
placed s (m ∷ moves) ps = placed s moves (with_place (name_at s m.from) m.to ps)

-- where the cell of a place lies after some moves
abbrev pub Went : List Move → Place → Place → Type 0
Went used q p = ((m : Move) × Contains used m × (m.from ≡ q) × (m.to ≡ p)) ⊎ ((q ≡ p) × (IsLeft used q → ⊥))

-- an element of a list has an index within it
got_within : {X : Type 0} (xs : List X) (i : ℕ) (x : X) → slice_get xs i ≡ Some x → i < length xs
got_within [] i x e = absurd (cc e)
got_within (y ∷ xs) zero x e = omega arith
got_within (y ∷ xs) (suc i) x e = let rest = got_within xs i x e in omega (arith, rest)

not_before : (p : Place) → IsBefore p p → ⊥
not_before p (inl lt) = omega (arith, lt)
not_before p (inr both) = let lt = both.1 in omega (arith, lt)

-- the first of moves in order leaves before each other
pub first_of : (m : Move) (moves : List Move) → AllPairs (λ (u n : Move). IsBefore u.from n.from) (m ∷ moves)
    → (n : Move) → Contains moves n → IsBefore m.from n.from
first_of m moves order n c = All-contains (λ (x : Move). IsBefore m.from x.from) moves n
    (λ k d within. order 0 (suc k) d (omega arith) (omega (arith, within))) c

-- these are the places of the cells after some moves
abbrev pub Stands : Shape → List Move → Places → Type 0
Stands s used ps = (x : Name) (p : Place)
    → (map.get ps x ≡ Some p) ↔ ((q : Place) × (name_at s q ≡ Some x) × Went used q p)

-- some moves were made, and others are to come, in the order of the places that are left
pub record AreMoving (s : Shape) (first : ℕ) (used moves : List Move) (ps : Places) : Type 0 where
  pub stands : Stands s used ps
  pub left : (m : Move) → Contains used m → IsPresent s m.from × (first ≤ m.from.0)
  pub leave : (m : Move) → Contains moves m → IsPresent s m.from × (first ≤ m.from.0)
  pub before : (u m : Move) → Contains used u → Contains moves m → IsBefore u.from m.from
  pub order : AreInOrder moves

module _ (h : HeapState) (w : World) (l : LiesIn h w) where
  stands_first : Stands h.shape [] w.places
  stands_first x p = (
    λ e. (p, (l.places_are x p).0 e, inr (refl, λ left. nothing_in_none left.0 left.1)),
    λ r. elim r.2 [
      | inl went ↦ absurd (nothing_in_none went.0 went.1)
      | inr stays ↦ subst (λ (q : Place). map.get w.places x ≡ Some q) stays.0 ((l.places_are x r.0).1 r.1)
    ],
  )

  -- one more moves
  module _ (used : List Move) (ps : Places) (m : Move) (x : Name) (named : name_at h.shape m.from ≡ Some x)
      (fresh : IsLeft used m.from → ⊥) (stands : Stands h.shape used ps) where
    same_cell : (y : Name) (q : Place) → name_at h.shape q ≡ Some y → x ≡ y → m.from ≡ q
    same_cell y q e same = l.shown.apart m.from q y (subst (λ z. name_at h.shape m.from ≡ Some z) same named) e

    further : (y : Name) (q p : Place) → name_at h.shape q ≡ Some y → (x ≡ y → ⊥) → Went used q p → Went (m ∷ used) q p
    further y q p e other (inl went) = inl (went.0, contains_tail m used went.0 went.1, went.2, went.3)
    further y q p e other (inr stays) = inr (
      stays.0,
      λ left. elim (contains_cases m used left.0 left.1) [
        | inl same ↦ other (some_one x y
            (sym named ∙ (ap (name_at h.shape) (ap (λ (n : Move). n.from) same ∙ left.2) ∙ e)))
        | inr before ↦ stays.1 (left.0, before, left.2)
      ],
    )

    back : (y : Name) (p q : Place) → name_at h.shape q ≡ Some y → Went (m ∷ used) q p
        → map.get (map.insert ps x m.to) y ≡ Some p
    back y p q e (inl went) = elim (contains_cases m used went.0 went.1) [
      | inl same ↦ (let here : m.from ≡ q = ap (λ (n : Move). n.from) same ∙ went.2 in
          let name : x ≡ y = some_one x y (sym named ∙ (ap (name_at h.shape) here ∙ e)) in
          let to : m.to ≡ p = ap (λ (n : Move). n.to) same ∙ went.3 in
          subst (λ z. map.get (map.insert ps x m.to) z ≡ Some p) name (placed_same ps x m.to ∙ ap Some to))
      | inr before ↦ (
          placed_other ps x m.to y (λ same. fresh (went.0, before, went.2 ∙ sym (same_cell y q e same)))
          ∙ (stands y p).1 (q, e, inl (went.0, before, went.2, went.3)))
    ]
    back y p q e (inr stays) =
        placed_other ps x m.to y (λ same. stays.1 (m, contains_head m used, same_cell y q e same))
        ∙ (stands y p).1 (q, e, inr (stays.0, λ left. stays.1 (left.0, contains_tail m used left.0 left.1, left.2)))

    stands_next : Stands h.shape (m ∷ used) (map.insert ps x m.to)
    stands_next y p = (
      λ e. elim (placed_cases ps x m.to y p e) [
        | inl is ↦ (
          m.from,
          subst (λ z. name_at h.shape m.from ≡ Some z) is.0 named,
          inl (m, contains_head m used, refl, is.1),
        )
        | inr was ↦ (let r = (stands y p).0 was.0 in (r.0, r.1, further y r.0 p r.1 was.1 r.2))
      ],
      λ r. back y p r.0 r.1 r.2,
    )

-- the places in the arenas that are kept
module _ (s : Shape) (zone first : ℕ) where
  abbrev kept : List ℕ
  kept = kept_of zone first 0 s.arenas

  kept_has : (p : Place) → p.0 < length s.arenas → zone_of s p ≡ zone → p.0 < first → Contains kept p.0
  kept_has p made at below = by (slice_get s.arenas p.0) refl
    where
      by : (o : Option ArenaShape) → slice_get s.arenas p.0 ≡ o → Contains kept p.0
      by None none = absurd (no_one s.arenas p.0 made none)
        where
          no_one : {X : Type 0} (xs : List X) (i : ℕ) → i < length xs → slice_get xs i ≡ None → ⊥
          no_one [] i lt e = omega (arith, lt)
          no_one (y ∷ xs) zero lt e = cc e
          no_one (y ∷ xs) (suc i) lt e = no_one xs i (omega (arith, lt)) e
      by (Some arena) some =
          let start : 0 + p.0 ≡ p.0 = omega arith in
          let own : arena.zone ≡ zone = sym (ap zone_in some) ∙ at in
          let picks : is_below zone first p.0 arena ≡ true =
          ap (λ b. b && (arena.zone == zone)) (lt-ltb p.0 first below) ∙ eq-eqb arena.zone zone own in
          subst (λ (a : ℕ). Contains kept a) start (has_picked (is_below zone first) 0 s.arenas p.0 arena some
          (subst (λ (a : ℕ). is_below zone first a arena ≡ true) (sym start) picks))

  has_kept : (p : Place) → Contains kept p.0 → (p.0 < length s.arenas) × (zone_of s p ≡ zone) × (p.0 < first)
  has_kept p c =
      let r = picked_has (is_below zone first) 0 s.arenas p.0 c in
      let number = r.1 in
      let same : r.0 ≡ p.0 = omega (arith, number) in
      let at : slice_get s.arenas p.0 ≡ Some r.2 = subst (λ (i : ℕ). slice_get s.arenas i ≡ Some r.2) same r.3 in
      let both = parts (nat_lt (0 + r.0) first) refl (r.2.zone == zone) refl r.4 in
      let below = both.0 in (
        got_within s.arenas p.0 r.2 at,
        ap zone_in at ∙ both.1,
        omega (arith, below, number),
      )
    where
      parts : {n z : ℕ} (t : Bool) → nat_lt n first ≡ t → (u : Bool) → (z == zone) ≡ u → (t && u) ≡ true
          → (n < first) × (z ≡ zone)
      parts {n} {z} true e true f is = (ltb-true n first e, eqb-true z zone f)
      parts true e false f is = absurd (cc is)
      parts false e u f is = absurd (cc is)

module _ (h : HeapState) (w : World) (l : LiesIn h w) (zone first : ℕ) where
  abbrev s : Shape
  s = h.shape

  -- no move was made yet
  pub moving_first : (moves : List Move) → AreMoves s zone first moves → AreInOrder moves
      → AreMoving s first [] moves w.places
  moving_first moves are order = record {
    stands = stands_first h w l;
    left = λ m c. absurd (nothing_in_none m c);
    leave = λ m c. (let from = are.from m c in (from.0, from.2));
    before = λ u m c d. absurd (nothing_in_none u c);
    order = order;
  }

  -- one more was made
  fresh_now : (used : List Move) (m : Move) (moves : List Move) (ps : Places) → AreMoving s first used (m ∷ moves) ps
      → IsLeft used m.from → ⊥
  fresh_now used m moves ps on gone = not_before m.from
      (subst (λ (p : Place). IsBefore p m.from) gone.2 (on.before gone.0 m gone.1 (contains_head m moves)))

  moving_next : (used : List Move) (m : Move) (moves : List Move) (ps : Places)
      → AreMoving s first used (m ∷ moves) ps → (x : Name) → name_at s m.from ≡ Some x
      → AreMoving s first (m ∷ used) moves (map.insert ps x m.to)
  moving_next used m moves ps on x named = record {
    stands = stands_next h w l used ps m x named (fresh_now used m moves ps on) on.stands;
    left = λ u c. elim (contains_cases m used u c) [
      | inl same ↦ subst (λ (n : Move). IsPresent s n.from × (first ≤ n.from.0)) same
          (on.leave m (contains_head m moves))
      | inr was ↦ on.left u was
    ];
    leave = λ n c. on.leave n (contains_tail m moves n c);
    before = λ u n c d. elim (contains_cases m used u c) [
      | inl same ↦ subst (λ (v : Move). IsBefore v.from n.from) same (first_of m moves on.order n d)
      | inr was ↦ on.before u n was (contains_tail m moves n d)
    ];
    order = λ i j d lt within. on.order (suc i) (suc j) d (omega (arith, lt)) (omega (arith, within));
  }

  -- a hole of the heap is a free place of the world
  module _ (used moves : List Move) (ps : Places) (on : AreMoving s first used moves ps) where
    free_of : (p : Place) → IsHole s zone first used p → IsFreeIn (kept s zone first) ps p
    free_of p hole = record {
      kept = kept_has s zone first p hole.made hole.zone_is hole.below;
      below = hole.slot;
      free = λ x e. (let r = (on.stands x p).0 e in
          elim r.2 [
            | inl went ↦ hole.unused (went.0, went.1, went.3)
            | inr stays ↦ (let none = ap (λ (o : Option CellState). option_map (λ (c : CellState). c.name) o) hole.free
                in
                let some = subst (λ (q : Place). name_at s q ≡ Some x) stays.0 r.1 in cc (none, some))
          ]);
    }

    not_left : (p : Place) → p.0 < first → IsLeft used p → ⊥
    not_left p below gone =
        let far = (on.left gone.0 gone.1).1 in
        let same = ap (λ (q : Place). q.0) gone.2 in
        omega (arith, far, same, below)

    hole_of : (p : Place) → IsFreeIn (kept s zone first) ps p → IsHole s zone first used p
    hole_of p free =
        let at = has_kept s zone first p free.kept in
        record {
          made = at.0;
          zone_is = at.1;
          below = at.2;
          slot = free.below;
          free = none (cell_of s p) refl at.2;
          unused = λ goal. (let named = name_of s goal.0.from (on.left goal.0 goal.1).0 in
              free.free named.0 ((on.stands named.0 p).1
              (goal.0.from, named.1, inl (goal.0, goal.1, refl, goal.2))));
        }
      where
        none : (o : Option CellState) → cell_of s p ≡ o → p.0 < first → cell_of s p ≡ None
        none None e below = e
        none (Some cell) e below = absurd (free.free cell.name ((on.stands cell.name p).1
            (p, ap (option_map (λ (c : CellState). c.name)) e, inr (refl, not_left p below))))

  -- each goes to the lowest place that is free when its turn comes
  pub are_moved : (used moves : List Move) (ps : Places) → AreMoving s first used moves ps
      → GoLowest s zone first used moves → AreMoved (kept s zone first) (movers s moves) ps (placed s moves ps)
  are_moved used [] ps on lowest = refl
  are_moved used (m ∷ moves) ps on lowest =
      let x = name_of s m.from (on.leave m (contains_head m moves)).0 in
      subst (λ (o : Option Name). AreMoved (kept s zone first) (with_name o (movers s moves)) ps
      (placed s moves (with_place o m.to ps))) (sym x.1) (
        m.to,
        record {
          free = free_of used (m ∷ moves) ps on m.to lowest.0;
          lowest = λ q free. lowest.1 q (hole_of used (m ∷ moves) ps on q free);
        },
        are_moved (m ∷ used) moves (map.insert ps x.0 m.to) (moving_next used m moves ps on x.0 x.1) lowest.2,
      )

  -- and when all have gone, the places are those of the cells after these moves
  pub stands_after : (used moves : List Move) (ps : Places) → AreMoving s first used moves ps
      → (all : List Move) × Stands s all (placed s moves ps)
      × ((m : Move) → Contains all m ↔ (Contains used m ⊎ Contains moves m))
  stands_after used [] ps on = (
    used,
    on.stands,
    λ m. (λ c. inl c, λ e. elim e [ inl c ↦ c | inr none ↦ absurd (nothing_in_none m none) ]),
  )
  stands_after used (m ∷ moves) ps on =
      let x = name_of s m.from (on.leave m (contains_head m moves)).0 in
      let rest = stands_after (m ∷ used) moves (map.insert ps x.0 m.to) (moving_next used m moves ps on x.0 x.1) in (
        rest.0,
        subst (λ (o : Option Name). Stands s rest.0 (placed s moves (with_place o m.to ps))) (sym x.1) rest.1,
        λ n. (
          λ c. elim ((rest.2 n).0 c) [
            | inl was ↦ elim (contains_cases m used n was) [
              | inl same ↦ inr (subst (λ (v : Move). Contains (m ∷ moves) v) same (contains_head m moves))
              | inr before ↦ inl before
            ]
            | inr later ↦ inr (contains_tail m moves n later)
          ],
          λ e. (rest.2 n).1 (elim e [
            | inl was ↦ inl (contains_tail m used n was)
            | inr now ↦ elim (contains_cases m moves n now) [
              | inl same ↦ inl (subst (λ (v : Move). Contains (m ∷ used) v) same (contains_head m used))
              | inr later ↦ inr later
            ]
          ]),
        ),
      )
