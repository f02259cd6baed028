-- The names of the gray cells of a group.
use Rattle.std.proofs.Common.{◌≡◌, ◌<◌, ◌++◌, ◌+◌, ℕ, suc, Bool, true, false, List, []}
use Rattle.std.proofs.Common.{length, Option, Some, None, slice_get, refl, sym, ap, subst, ◌∙◌}
use Rattle.std.proofs.Common.{arith}
use Rattle.std.specs.Int.{bit_at}
use Rattle.std.proofs.lemmas.List.{append-nil}
use Rattle.std.specs.List.Sorted.{IsPermutation, IsSorted}
use Rattle.std.specs.Prelude.{if◌then◌else◌}
use Rattle.gz_names.specs.Order.{name_cmp}
use Rattle.gz_names.specs.Zones.{HasZone}
use Rattle.gz_names.specs.declared.names.Name.{Name}
use Rattle.gz_names.specs.declared.numbers.Place.{Place}
use Rattle.gz_names.specs.declared.zone_sets.ZoneSet.{ZoneSet}
use Rattle.colour_defs.specs.Ends.{Lists}
use Rattle.heap_core.specs.Shape.{ArenaShape, AreWhole, IsPresent, Shape, cell_in_arena, is_owned, is_owned_in, zone_in}
use Rattle.heap_core.specs.Shape.{zone_of}
use Rattle.heap_core.specs.Heap.{HeapState}
use Rattle.barriers.specs.Colours.{IsGray}
use Rattle.slice_driver.specs.GroupEnd.{IsGrayHere}
use Rattle.slice_driver.specs.Grays.{IsGrayIn, grays_below, grays_up_to}
use Rattle.slice_driver.proofs.group_end.GrayNames.{present_within}
use Rattle.slice_driver.proofs.group_end.Grays.{AreNamedApart, grays_listed}
use Rattle.slice_driver.proofs.group_end.Cells.{has_in_zones, in_zones_has}
use Rattle.slice_driver.proofs.abstraction.Named.{named_present}

-- an arena whose cells are not listed
pub grays_passed : (h : HeapState) (test : ℕ → Bool) (a : ℕ) (xs : List Name) → xs ≡ grays_up_to h test a
    → test a ≡ false → xs ≡ grays_up_to h test (a + 1)
grays_passed h test a xs is fails =
    let next : suc a ≡ a + 1 = omega arith in
    let more : grays_up_to h test a ≡ grays_up_to h test (suc a) = sym (append-nil (grays_up_to h test a))
    ∙ ap (λ (b : Bool). grays_up_to h test a ++ (if b then grays_below h a 64 else [])) (sym fails) in
    is ∙ (more ∙ ap (grays_up_to h test) next)

arena_of_cell : (s : Shape) (p : Place) → IsPresent s p → (arena : ArenaShape) × (slice_get s.arenas p.0 ≡ Some arena)
arena_of_cell s p some = go (slice_get s.arenas p.0) refl some
  where
    go : (o : Option ArenaShape) → slice_get s.arenas p.0 ≡ o → Rattle.std.proofs.Common.IsSome (cell_in_arena o p.1)
        → (arena : ArenaShape) × (slice_get s.arenas p.0 ≡ Some arena)
    go None e some = absurd (cc some)
    go (Some arena) e some = (arena, e)

module _ (h : HeapState) (g : ZoneSet) (small : (z : ℕ) → bit_at g.bits z ≡ 1 → z < 64) where
  here_owned : (p : Place) → HasZone g.bits (zone_of h.shape p) → IsPresent h.shape p
      → is_owned h.shape g.bits p.0 ≡ true
  here_owned p has there =
      let a = arena_of_cell h.shape p there in
      ap (is_owned_in g.bits) a.1
      ∙ has_in_zones g a.0.zone (subst (λ (o : Option ArenaShape). HasZone g.bits (zone_in o)) a.1 has)

  owned_here : (p : Place) → is_owned h.shape g.bits p.0 ≡ true → IsPresent h.shape p
      → HasZone g.bits (zone_of h.shape p)
  owned_here p e there =
      let a = arena_of_cell h.shape p there in
      subst (λ (o : Option ArenaShape). HasZone g.bits (zone_in o)) (sym a.1)
      (in_zones_has g small a.0.zone (sym (ap (is_owned_in g.bits) a.1) ∙ e))

  pub grays_here : (names : List Name) → AreWhole h.shape.arenas → AreNamedApart h
      → ((p : Place) → IsGray h p → IsPresent h.shape p)
      → IsPermutation (grays_up_to h (is_owned h.shape g.bits) (length h.shape.arenas)) names → IsSorted name_cmp names
      → Lists (IsGrayHere h g) names
  grays_here names whole apart present moved sorted =
      let l : Lists (IsGrayIn h (is_owned h.shape g.bits)) names =
      grays_listed h (is_owned h.shape g.bits) (length h.shape.arenas) names apart
      (λ p gray. present_within h.shape p whole (present p gray)) moved sorted in
      record {
        ascending = l.ascending;
        has = λ x. (
          λ c. (let i = (l.has x).0 c in
              record {
                place = i.place;
                named = i.named;
                here = owned_here i.place i.here (named_present h.shape i.place x i.named);
                gray = i.gray;
              }),
          λ i. (l.has x).1 (record {
            place = i.place;
            named = i.named;
            here = here_owned i.place i.here (named_present h.shape i.place x i.named);
            gray = i.gray;
          }),
        );
      }
