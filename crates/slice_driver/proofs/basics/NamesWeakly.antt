-- What is named weakly stays so where the present cells keep their names.
use Rattle.std.proofs.Common.{◌≡◌, [], Option, Some, None, Contains, refl, sym, ap, subst, ◌∙◌}
use Rattle.std.specs.List.{IsDistinct}
use Rattle.gz_names.specs.declared.names.Name.{Name}
use Rattle.gz_names.specs.declared.numbers.Place.{Place}
use Rattle.weak_refs.specs.WeakNames.{WeakNamesState, is_same, no_names}
use Rattle.colour_defs.specs.World.{WeakNames, no_weak_names}
use Rattle.colour_defs.proofs.Finite.{no_name}
use Rattle.colour_defs.proofs.Lists.{no_name_in_nulls, nothing_in_none}
use Rattle.heap_core.specs.Shape.{IsPresent, Shape, held_name, name_at}
use Rattle.heap_core.proofs.Places.{cell_named, map-members, named_present, present_cell}
use Rattle.slice_driver.specs.Worlds.{NamesWeakly}

-- the name of a present cell
pub name_there : (s : Shape) (p : Place) → IsPresent s p → (x : Name) × (name_at s p ≡ Some x)
name_there s p there = let cell = present_cell s p there in (cell.0.name, cell_named s p cell.0 cell.1)

one_name : (x y : Name) → Some x ≡ Some y → x ≡ y
one_name x y e = cc e

module _ (s t : Shape) (named : (p : Place) (x : Name) → name_at s p ≡ Some x → name_at t p ≡ Some x) where
  present_on : (p : Place) → IsPresent s p → IsPresent t p
  present_on p there = let x = name_there s p there in named_present t p x.0 (named p x.0 x.1)

  pub names_weakly_kept : (h : WeakNamesState) (w : WeakNames) → NamesWeakly s h w → NamesWeakly t h w
  names_weakly_kept h w n = record {
    slots_are = n.slots_are ∙ sym (map-members (held_name t) (held_name s) h.slots held);
    slots_held = λ p has. present_on p (n.slots_held p has);
    watched_are = λ x. (
      λ in_it. (let p = (n.watched_are x).0 in_it in (p.0, p.1, named p.0 x p.2)),
      λ p. (
          let was = name_there s p.0 (n.watched_held p.0 p.1) in
          let same : was.0 ≡ x = one_name _ _ (sym (named p.0 was.0 was.1) ∙ p.2) in
          (n.watched_are x).1 (p.0, p.1, was.1 ∙ ap (λ (y : Name). Some y) same)),
    );
    watched_held = λ p has. present_on p (n.watched_held p has);
    once = n.once;
  }
    where
      held : (v : Option Place) → Contains h.slots v → held_name t v ≡ held_name s v
      held None m = refl
      held (Some p) m = let x = name_there s p (n.slots_held p m) in named p x.0 x.1 ∙ sym x.1

  -- so it is of what a heap and a world name weakly afterwards, where that is the same
  pub names_weakly_on : (h k : WeakNamesState) (w v : WeakNames) → k ≡ h → v ≡ w → NamesWeakly s h w
      → NamesWeakly t k v
  names_weakly_on h k w v eh ew n = subst (λ (z : WeakNames). NamesWeakly t k z) (sym ew)
      (subst (λ (z : WeakNamesState). NamesWeakly t z w) (sym eh) (names_weakly_kept h w n))

none_twice : IsDistinct is_same []
unfolding IsDistinct
none_twice = tt

-- nothing is named weakly
pub nothing_weak : (s : Shape) (h : WeakNamesState) → h ≡ no_names → NamesWeakly s h no_weak_names
nothing_weak s h e = subst (λ (z : WeakNamesState). NamesWeakly s z no_weak_names) (sym e) (record {
  slots_are = refl;
  slots_held = λ p has. absurd (no_name_in_nulls 64 p has);
  watched_are = λ x. (
    (λ in_it. absurd (no_name x in_it)),
    λ p. absurd (nothing_in_none p.0 p.1),
  );
  watched_held = λ p has. absurd (nothing_in_none p has);
  once = none_twice;
})
