-- The names of the black cells of a heap.
use Rattle.std.proofs.Common.{◌≡◌, ◌&&◌, ℕ, Bool, true, false, not, Option, Some, None, is_some, refl, sym, ap, ◌∙◌}
use Rattle.std.specs.FinSet as set
use Rattle.std.specs.FinMap as places
use Rattle.gz_names.specs.Order.{name_cmp, names_total}
use Rattle.gz_names.specs.declared.names.Name.{Name}
use Rattle.gz_names.specs.declared.numbers.Place.{Place}
use Rattle.cell_bits.specs.declared.bits.Colour.{Colour}
use Rattle.cell_bits.specs.declared.bits.Colour.TheVariants as colour
use Rattle.colour_defs.specs.World.{Names, Has}
use Rattle.colour_defs.proofs.Names.{names_apart}
use Rattle.weak_maps.proofs.Table.{and-true}
use Rattle.heap_core.specs.Shape.{is_prepared, zone_of}
use Rattle.heap_core.specs.Heap.{HeapState, colour_of}
use Rattle.barriers.specs.Colours.{IsBlack}
use Rattle.barriers.specs.LeftOut.{Counts}

abbrev is_black_colour : Colour → Bool
is_black_colour colour.White = false
is_black_colour colour.Gray = false
is_black_colour colour.Black = true

black_is : (c : Colour) → is_black_colour c ≡ true → c ≡ colour.Black
black_is colour.White e = absurd (cc e)
black_is colour.Gray e = absurd (cc e)
black_is colour.Black e = refl

abbrev passes : (Place → Bool) → Option Place → Bool
passes test None = false
passes test (Some p) = test p

-- the names whose places pass a test
abbrev pub names_where : (Place → Bool) → places.FinMap name_cmp (ℕ × ℕ) → Names
names_where test at = set.retain (set.from_list (places.keys at)) (λ x. passes test (places.get at x))

-- the names whose places are black
abbrev pub black_names : HeapState → places.FinMap name_cmp (ℕ × ℕ) → Names
black_names h at = names_where (λ p. is_black_colour (colour_of h p)) at

-- those whose colours count besides, while a collection is being prepared
abbrev pub left_out_names : HeapState → places.FinMap name_cmp (ℕ × ℕ) → Names
left_out_names h at =
    names_where (λ p. not (is_prepared h.shape (zone_of h.shape p)) && is_black_colour (colour_of h p)) at

module _ (test : Place → Bool) (at : places.FinMap name_cmp (ℕ × ℕ)) where
  has_names : (x : Name)
      → set.contains (names_where test at) x ≡ (is_some (places.get at x) && passes test (places.get at x))
  has_names x =
      set.contains-retain (set.from_list (places.keys at)) (λ y. passes test (places.get at y)) x
      (λ y e. ap (λ z. passes test (places.get at z)) (sym (names_apart x y e)))
      ∙ ap (λ b. b && passes test (places.get at x)) (set.contains-from_list names_total (places.keys at) x
      ∙ sym (places.contains_key-keys at x))

  named_where : (x : Name) → Has (names_where test at) x → (p : Place) × (places.get at x ≡ Some p) × (test p ≡ true)
  named_where x has = go (places.get at x) refl (sym (has_names x) ∙ has)
    where
      go : (o : Option Place) → places.get at x ≡ o → (is_some o && passes test o) ≡ true
          → (p : Place) × (places.get at x ≡ Some p) × (test p ≡ true)
      go None e b = absurd (cc b)
      go (Some p) e b = (p, e, b)

  where_named : (x : Name) (p : Place) → places.get at x ≡ Some p → test p ≡ true → Has (names_where test at) x
  where_named x p e passed = has_names x ∙ (ap (λ o. is_some o && passes test o) e ∙ passed)

module _ (h : HeapState) (at : places.FinMap name_cmp (ℕ × ℕ)) where
  pub black_named : (x : Name) → Has (black_names h at) x → (p : Place) × (places.get at x ≡ Some p) × IsBlack h p
  black_named x has = (let n = named_where (λ p. is_black_colour (colour_of h p)) at x has in
      (n.0, n.1, black_is (colour_of h n.0) n.2))

  pub named_black : (x : Name) (p : Place) → places.get at x ≡ Some p → IsBlack h p → Has (black_names h at) x
  named_black x p e black =
      where_named (λ p. is_black_colour (colour_of h p)) at x p e (ap is_black_colour black)

  abbrev counts_black : Place → Bool
  counts_black p = not (is_prepared h.shape (zone_of h.shape p)) && is_black_colour (colour_of h p)

  pub left_out_named : (x : Name) → Has (left_out_names h at) x
      → (p : Place) × (places.get at x ≡ Some p) × Counts h.shape p × IsBlack h p
  left_out_named x has =
      let n = named_where counts_black at x has in
      let both = and-true (not (is_prepared h.shape (zone_of h.shape n.0))) (is_black_colour (colour_of h n.0)) n.2 in
      (n.0, n.1, not_is (is_prepared h.shape (zone_of h.shape n.0)) both.0, black_is (colour_of h n.0) both.1)
    where
      not_is : (b : Bool) → not b ≡ true → b ≡ false
      not_is true e = absurd (cc e)
      not_is false e = refl

  pub named_left_out : (x : Name) (p : Place) → places.get at x ≡ Some p → Counts h.shape p → IsBlack h p
      → Has (left_out_names h at) x
  named_left_out x p e counts black = where_named counts_black at x p e
      (ap (λ b. not b && is_black_colour (colour_of h p)) counts ∙ ap is_black_colour black)
