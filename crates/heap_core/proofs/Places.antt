-- Places that are one, and cells that are present.
use Rattle.std.proofs.Common.{◌≡◌, ◌<◌, Bool, true, false, eqb, eqb-true, eq-eqb, List, [], ◌∷◌, length, map, Option}
use Rattle.std.proofs.Common.{Some, None, IsSome, is_some, refl, ap, subst, slice_get, Contains}
use Rattle.std.proofs.lemmas.Option.{slice_get_within}
use Rattle.std.specs.Option.{option_map}
use Rattle.gz_names.specs.declared.names.Name.{Name}
use Rattle.gz_names.specs.declared.numbers.Place.{Place}
use Rattle.colour_defs.proofs.Lists.{first_of_both, second_of_both, both_of, contains_head, contains_tail}
use Rattle.arena_table.specs.Cells.{CellState}
use Rattle.arena_table.specs.Table.{is_place}
use Rattle.heap_core.specs.Shape.{ArenaShape, Shape, IsPresent, cell_in_arena, cell_of, name_at}

pub place-is : (p q : Place) → is_place p q ≡ true → p ≡ q
place-is p q e =
    let a : p.0 ≡ q.0 = eqb-true _ _ (first_of_both (eqb p.0 q.0) (eqb p.1 q.1) e) in
    let b : p.1 ≡ q.1 = eqb-true _ _ (second_of_both (eqb p.0 q.0) (eqb p.1 q.1) e) in
    λ i. (a i, b i)

pub place-same : (p : Place) → is_place p p ≡ true
place-same p = both_of _ _ (eq-eqb p.0 p.0 refl) (eq-eqb p.1 p.1 refl)

-- a test of two places, decided
pub place-cases : (P : Type 0) (q p : Place) → (q ≡ p → P) → (is_place q p ≡ false → P) → P
place-cases P q p here there = go (is_place q p) refl
  where
    go : (b : Bool) → is_place q p ≡ b → P
    go true e = here (place-is q p e)
    go false e = there e

-- a cell that has a name is present, and one that is present has a name
pub named_present : (s : Shape) (p : Place) (x : Name) → name_at s p ≡ Some x → IsPresent s p
named_present s p x e = go (cell_of s p) e
  where
    go : (o : Option CellState) → option_map (λ (cell : CellState). cell.name) o ≡ Some x → IsSome o
    go None e = absurd (cc e)
    go (Some cell) e = refl

-- the arena of a present cell was made
pub present_within : (s : Shape) (p : Place) → IsPresent s p → p.0 < length s.arenas
present_within s p e = go (slice_get s.arenas p.0) refl
  where
    go : (o : Option ArenaShape) → slice_get s.arenas p.0 ≡ o → p.0 < length s.arenas
    go None is = absurd (let gone : IsSome (cell_in_arena None p.1) = subst (λ o. IsSome (cell_in_arena o p.1)) is e in
        cc gone)
    go (Some arena) is = slice_get_within s.arenas p.0 arena is

pub present_cell : (s : Shape) (p : Place) → IsPresent s p → (cell : CellState) × (cell_of s p ≡ Some cell)
present_cell s p e = go (cell_of s p) refl e
  where
    go : (o : Option CellState) → cell_of s p ≡ o → IsSome o → (cell : CellState) × (cell_of s p ≡ Some cell)
    go None is e = absurd (cc e)
    go (Some cell) is e = (cell, is)

pub cell_named : (s : Shape) (p : Place) (cell : CellState) → cell_of s p ≡ Some cell → name_at s p ≡ Some cell.name
cell_named s p cell e = ap (λ (o : Option CellState). option_map (λ (c : CellState). c.name) o) e

pub cell_present : (s : Shape) (p : Place) (cell : CellState) → cell_of s p ≡ Some cell → IsPresent s p
cell_present s p cell e = ap (λ (o : Option CellState). is_some o) e

-- a function is mapped over the members of a list alone
pub map-members : {X Y : Type 0} (f g : X → Y) (xs : List X) → ((x : X) → Contains xs x → f x ≡ g x)
    → map f xs ≡ map g xs
map-members f g [] h = refl
map-members f g (x ∷ xs) h =
    let e = h x (contains_head x xs) in
    let t = map-members f g xs (λ y c. h y (contains_tail x xs y c)) in cc
