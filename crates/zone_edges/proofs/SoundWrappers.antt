-- The wrapper maps of a heap that shows some graph hold its wrappers.
use Rattle.std.proofs.Common.{◌≡◌, ℕ, Option, Some, None, IsSome, List, slice_get, refl, sym, ap, subst, ◌∙◌}
use Rattle.std.specs.Option.{option_map}
use Rattle.gz_names.specs.declared.names.Name.{Name}
use Rattle.gz_names.specs.declared.names.Name.TheVariants.{Cell, Wrap}
use Rattle.gz_names.specs.declared.numbers.CompNo.{CompNo}
use Rattle.gz_names.specs.declared.numbers.Place.{Place}
use Rattle.wrappers.proofs.Finding.{found-there}
use Rattle.heap_core.specs.Shape.{Shape, IsPresent, cell_of, field_in, name_at, zone_of}
use Rattle.heap_core.specs.Heap.{HeapState}
use Rattle.heap_core.specs.Answers.{IsSound}
use Rattle.heap_core.specs.Shows.{IsWrapperOf, StandsFor}
use Rattle.zone_edges.specs.Looks.{AreWrappers, IsWrapperIn}

named_present : (s : Shape) (p : Place) (x : Name) → name_at s p ≡ Some x → IsPresent s p
named_present s p x e = go (cell_of s p) refl e
  where
    go : (o : Option _) → cell_of s p ≡ o → option_map (λ cell. cell.name) o ≡ Some x → IsSome o
    go None is e = absurd (cc e)
    go (Some cell) is e = refl

-- a place under a wrapper's name is a wrapper of its compartment's zone
named_wrapper : (h : HeapState) (z : ℕ) (c : CompNo) (t : ℕ) (p : Place) → IsSound h
    → slice_get h.shape.comps c.0 ≡ Some z → name_at h.shape p ≡ Some (Wrap c t) → IsWrapperIn h.shape z p
named_wrapper h z c t p (g, s) home named = go (cell_of h.shape p) refl named
  where
    go : (o : Option _) → cell_of h.shape p ≡ o → option_map (λ cell. cell.name) o ≡ Some (Wrap c t)
        → IsWrapperIn h.shape z p
    go None is e = absurd (cc e)
    go (Some cell) is e =
        let shown = s.cells p cell is in
        let name : cell.name ≡ Wrap c t = cc e in
        let w : IsWrapperOf h.shape g p cell c t = subst (StandsFor h.shape g p cell) name shown.stands in
        let zone : Some (zone_of h.shape p) ≡ Some z = sym shown.at_home
        ∙ ap (λ (d : CompNo). slice_get h.shape.comps d.0) w.comp_is ∙ home in
        record {
          kind_is = rw is (ap (λ k. Some k) w.kind_is);
          zone_is = cc zone;
          target = w.target;
          target_is = ap (λ o. field_in o 0) is
              ∙ ap (λ (fs : List (Option Place)). field_in (Some (record cell { fields = fs })) 0) w.fields_is;
          held = named_present h.shape w.target (Cell t) w.target_is;
        }

-- the wrapper maps of a sound heap hold its wrappers
pub sound_has_wrappers : (h : HeapState) → IsSound h → AreWrappers h.shape
sound_has_wrappers h sound apart z e there =
    let c : CompNo = record { 0 = e.0.comp } in
    named_wrapper h z c e.0.target e.1 sound (sound.1.maps_at_home z e there)
    (sound.1.mapped c e.0.target e.1 (found-there h.shape.wrappers.lists z e apart there))
