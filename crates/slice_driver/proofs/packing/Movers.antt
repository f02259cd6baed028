-- The cells that a compaction moves: those of the arenas that it gives up, in the order of their places.
use Rattle.std.proofs.Common.{◌≡◌, ◌↔◌, ◌≤◌, ◌+◌, ◌==◌, ◌&&◌, ℕ, suc, IsSome, Bool, true, false, List, [], ◌∷◌}
use Rattle.std.proofs.Common.{length, Option, Some, None, Contains, AllPairs, nat_le, slice_get, refl, sym, ap, subst}
use Rattle.std.proofs.Common.{◌∙◌, inl, inr, arith, eqb-true, leb-true, eq-eqb, le-leb}
use Rattle.std.specs.FinMap as map
use Rattle.gz_names.specs.Moves.{AreInOrder, IsBefore}
use Rattle.gz_names.specs.declared.moves.Move.{Move}
use Rattle.gz_names.specs.declared.names.Name.{Name}
use Rattle.gz_names.specs.declared.numbers.Place.{Place}
use Rattle.colour_defs.specs.Compaction as worlds
use Rattle.colour_defs.specs.World.{World}
use Rattle.colour_defs.proofs.Lists.{contains_cases, contains_head, contains_tail, nothing_in_none}
use Rattle.heap_core.specs.Heap.{HeapState}
use Rattle.heap_core.specs.Moving.{AreMoves, is_from}
use Rattle.heap_core.specs.Shape.{ArenaShape, IsPresent, Shape, cell_in_arena, name_at, zone_in, zone_of}
use Rattle.slice_driver.specs.Worlds.{LiesIn}
use Rattle.slice_driver.proofs.abstraction.Named.{name_of, named_present}
use Rattle.slice_driver.proofs.packing.Arenas.{given_of, has_picked, picked_has}
use Rattle.slice_driver.proofs.packing.Moved.{first_of, movers, with_name}

module _ (s : Shape) where
  -- who moves is the cell of a place that is left
  moved_by : (moves : List Move) (x : Name) → Contains (movers s moves) x
      → (m : Move) × Contains moves m × (name_at s m.from ≡ Some x)
  moved_by [] x c = absurd (nothing_in_none x c)
  moved_by (m ∷ moves) x c = by (moved_by moves x) (name_at s m.from) refl c
    where
      past : (n : Move) × Contains moves n × (name_at s n.from ≡ Some x)
          → (n : Move) × Contains (m ∷ moves) n × (name_at s n.from ≡ Some x)
      past r = (r.0, contains_tail m moves r.0 r.1, r.2)

      by : (Contains (movers s moves) x → (n : Move) × Contains moves n × (name_at s n.from ≡ Some x))
          → (o : Option Name) → name_at s m.from ≡ o → Contains (with_name o (movers s moves)) x
          → (n : Move) × Contains (m ∷ moves) n × (name_at s n.from ≡ Some x)
      by rest None e d = past (rest d)
      by rest (Some y) e d = elim (contains_cases y (movers s moves) x d) [
        | inl same ↦ (m, contains_head m moves, e ∙ ap Some same)
        | inr later ↦ past (rest later)
      ]

  by_moved : (moves : List Move) (m : Move) (x : Name) → Contains moves m → name_at s m.from ≡ Some x
      → Contains (movers s moves) x
  by_moved [] m x c e = absurd (nothing_in_none m c)
  by_moved (n ∷ moves) m x c e = elim (contains_cases n moves m c) [
    | inl same ↦ subst (λ (o : Option Name). Contains (with_name o (movers s moves)) x)
        (sym (ap (λ (u : Move). name_at s u.from) same ∙ e)) (contains_head x (movers s moves))
    | inr later ↦ by (name_at s n.from) (by_moved moves m x later e)
  ]
    where
      by : (o : Option Name) → Contains (movers s moves) x → Contains (with_name o (movers s moves)) x
      by None d = d
      by (Some y) d = contains_tail y (movers s moves) x d

  -- each cell that is left has a name, so there are as many as moves
  pub movers_counted : (moves : List Move) → ((m : Move) → Contains moves m → IsPresent s m.from)
      → length (movers s moves) ≡ length moves
  movers_counted [] there = refl
  movers_counted (m ∷ moves) there =
      let x = name_of s m.from (there m (contains_head m moves)) in
      let rest = movers_counted moves (λ n c. there n (contains_tail m moves n c)) in
      ap (λ (o : Option Name). length (with_name o (movers s moves))) x.1 ∙ ap suc rest

module _ (h : HeapState) (w : World) (l : LiesIn h w) (zone first : ℕ) (moves : List Move)
    (are : AreMoves h.shape zone first moves) where
  abbrev s : Shape
  s = h.shape

  -- an arena that is given up is one of the zone from the number on
  given_is : (p : Place) → Contains (given_of zone first 0 s.arenas) p.0 → (zone_of s p ≡ zone) × (first ≤ p.0)
  given_is p c =
      let r = picked_has (is_from zone first) 0 s.arenas p.0 c in
      let number = r.1 in
      let same : r.0 ≡ p.0 = omega (arith, number) in
      let at : slice_get s.arenas p.0 ≡ Some r.2 = subst (λ (i : ℕ). slice_get s.arenas i ≡ Some r.2) same r.3 in
      let both = parts (nat_le first (0 + r.0)) refl (r.2.zone == zone) refl r.4 in
      let past = both.0 in (
        ap zone_in at ∙ both.1,
        omega (arith, past, number),
      )
    where
      parts : {n z : ℕ} (t : Bool) → nat_le first n ≡ t → (u : Bool) → (z == zone) ≡ u → (t && u) ≡ true
          → (first ≤ n) × (z ≡ zone)
      parts {n} {z} true e true f is = (leb-true first n e, eqb-true z zone f)
      parts true e false f is = absurd (cc is)
      parts false e u f is = absurd (cc is)

  is_given : (p : Place) → IsPresent s p → zone_of s p ≡ zone → first ≤ p.0
      → Contains (given_of zone first 0 s.arenas) p.0
  is_given p there at past = by (slice_get s.arenas p.0) refl
    where
      by : (o : Option ArenaShape) → slice_get s.arenas p.0 ≡ o → Contains (given_of zone first 0 s.arenas) p.0
      by None none = absurd (let gone = subst (λ (a : Option ArenaShape). IsSome (cell_in_arena a p.1)) none there in
          cc gone)
      by (Some arena) some =
          let start : 0 + p.0 ≡ p.0 = omega arith in
          let own : arena.zone ≡ zone = sym (ap zone_in some) ∙ at in
          let picks : is_from zone first p.0 arena ≡ true =
          ap (λ b. b && (arena.zone == zone)) (le-leb first p.0 past) ∙ eq-eqb arena.zone zone own in
          subst (λ (a : ℕ). Contains (given_of zone first 0 s.arenas) a) start
          (has_picked (is_from zone first) 0 s.arenas p.0 arena some
          (subst (λ (a : ℕ). is_from zone first a arena ≡ true) (sym start) picks))

  -- so exactly the cells there move
  pub movers_are : (x : Name) → Contains (movers s moves) x
      ↔ ((p : ℕ × ℕ) × (map.get w.places x ≡ Some p) × Contains (given_of zone first 0 s.arenas) p.0)
  movers_are x = (
    λ c. (let r = moved_by s moves x c in
        let from = are.from r.0 r.1 in (
          r.0.from,
          (l.places_are x r.0.from).1 r.2,
          is_given r.0.from from.0 from.1 from.2,
        )),
    λ g. (let named = (l.places_are x g.0).0 g.1 in
        let own = given_is g.0 g.2 in
        let left = are.all g.0 (named_present s g.0 x named) own.0 own.1 in
        by_moved s moves left.0 x left.1 (ap (name_at s) left.2 ∙ named)),
  )

  -- in the order of their places
  order_of : (ms : List Move) → AllPairs (λ (u n : Move). IsBefore u.from n.from) ms
      → worlds.AreInOrder w.places (movers s ms)
  order_of [] up = tt
  order_of (m ∷ ms) up =
      by (order_of ms (λ i j d lt within. up (suc i) (suc j) d (omega (arith, lt)) (omega (arith, within))))
      (name_at s m.from) refl
    where
      place_is : (x : Name) (n : Move) → name_at s n.from ≡ Some x → (p : Place) → map.get w.places x ≡ Some p
          → n.from ≡ p
      place_is x n e p at = l.shown.apart n.from p x e ((l.places_are x p).0 at)

      by : worlds.AreInOrder w.places (movers s ms) → (o : Option Name) → name_at s m.from ≡ o
          → worlds.AreInOrder w.places (with_name o (movers s ms))
      by rest None e = rest
      by rest (Some x) e = (
        λ y p q c here there. (let later = moved_by s ms y c in
            subst (λ (a : Place). IsBefore a q) (place_is x m e p here)
            (subst (λ (b : Place). IsBefore m.from b) (place_is y later.0 later.2 q there)
            (first_of m ms up later.0 later.1))),
        rest,
      )

  pub in_order : AreInOrder moves → worlds.AreInOrder w.places (movers s moves)
  in_order up = order_of moves up
