-- A collection of zone 0 alone that has begun: a white cell of its only arena is told as the arena is taken in.
use Rattle.std.proofs.Common.{◌≡◌, ℕ, zero, suc, ◌+◌, [], ◌∷◌, true, sym, ap, subst, ◌∙◌, arith, refl, Option, Some}
use Rattle.std.proofs.Common.{None, Contains, is_some, slice_get}
use Rattle.std.specs.FinMap as map
use Rattle.gz_names.specs.declared.names.Name.{Name}
use Rattle.gz_names.specs.declared.numbers.CompNo.{CompNo}
use Rattle.gz_names.specs.declared.replies.Report.TheVariants.{Groups, Ended, Swept, Done}
use Rattle.colour_defs.specs.Graph.{GraphState, comp_of, zone_of_comp, is_among, IsInZones}
use Rattle.colour_defs.specs.World.{World, Collection, BlackClosure, LiveClosure}
use Rattle.colour_defs.specs.Ends.{IsWhiteOf, arenas_from}
use Rattle.colour_defs.specs.Lawful.{FormsGroups, EndsGroup, IsLawfulSweep, Finishes}
use Rattle.spec_rows.specs.Rows.{only_zone_0}
use Rattle.colour_defs.specs.Laws.{IsMade}
use Rattle.colour_defs.proofs.Carried.{made_zone}
use Rattle.colour_defs.proofs.Lists.{nothing_in_none}
use Rattle.colour_defs.proofs.Membership.{white_of}
use Rattle.colour_defs.proofs.ZoneSets.{zones_in-first}
use Rattle.spec_rows.proofs.Places.{single}
use Rattle.spec_rows.proofs.Inverted.{ReportsAll, arena_listed}

-- where there is one compartment, all that was made is of zone 0
pub only_zone : (g : GraphState) → g.comps ≡ 0 ∷ [] → (x : Name) → IsMade g x → IsInZones g (0 ∷ []) x
only_zone g e x made = let m = made_zone g x made in
    subst (λ q. is_among (0 ∷ []) q ≡ true) (sym (m.1 ∙ ap (λ z. Some z) (sym (zone (comp_of g x) m.0 m.1)))) refl
  where
    at : (n z : ℕ) → slice_get {X = ℕ} (0 ∷ []) n ≡ Some z → 0 ≡ z
    at zero z f = cc f
    at (suc n) z f = absurd (cc f)

    zone : (o : Option CompNo) (z : ℕ) → zone_of_comp g o ≡ Some z → 0 ≡ z
    zone None z f = absurd (cc f)
    zone (Some c) z f = at c.0 z (subst (λ l. slice_get l c.0 ≡ Some z) e f)

abbrev NotIn : Name → Collection → Type 0
NotIn x k = (LiveClosure k x → ⊥) × (BlackClosure k x → ⊥)

module _ (w : World) (x : Name) (p : ℕ × ℕ) (k : Collection) (running : w.collection ≡ Some k)
    (here : IsInZones w.graph (0 ∷ []) x) (lies : map.get w.places x ≡ Some p)
    (owned : slice_get w.owner p.0 ≡ Some (Some 0)) (not_in : NotIn x k) where
  pub white_is_told : (v : World)
      → ReportsAll w (Groups (only_zone_0 ∷ []) ∷ Ended only_zone_0 [] [] ∷ Swept 0 [] ∷ Done ∷ []) v → ⊥
  white_is_told v all =
      let f : FormsGroups w ((0 ∷ []) ∷ []) all.0 = subst (λ z. FormsGroups w (z ∷ []) all.0) zones_in-first all.1 in
      let e : EndsGroup all.0 (0 ∷ []) [] [] all.2.0 = subst (λ z. EndsGroup all.0 z [] [] all.2.0) zones_in-first
      all.2.1 in
      let s : IsLawfulSweep all.2.0 0 [] all.2.2.0 = all.2.2.1 in
      let d : Finishes all.2.2.0 all.2.2.2.0 = all.2.2.2.1 in
      let kb : f.collection ≡ k = cc (f.running, running) in
      let ke : record f.collection { groups = Some ((0 ∷ []) ∷ []) } ≡ e.collection =
      cc (ap (λ (z : World). z.collection) f.world_is, e.running) in
      let places : (all.0).places ≡ w.places = ap (λ (z : World). z.places) f.world_is in
      let owner : (all.0).owner ≡ w.owner = ap (λ (z : World). z.owner) f.world_is in
      let graph : (all.0).graph ≡ w.graph = ap (λ (z : World). z.graph) f.world_is in
      let lying : map.get (all.0).places x ≡ Some p = ap (λ m. map.get m x) places ∙ lies in
      let none : NotIn x e.collection = subst (NotIn x) ke (subst (NotIn x) (sym kb) not_in) in
      let white : IsWhiteOf all.0 e.collection (0 ∷ []) x =
      white_of all.0 e.collection (0 ∷ []) x (ap is_some lying)
      (subst (λ g. IsInZones g (0 ∷ []) x) (sym graph) here) none.0 none.1 in
      let listed : Contains (arenas_from 0 w.owner (0 ∷ [])) (0 + p.0) =
      arena_listed 0 w.owner (0 ∷ []) p.0 0 owned refl in
      let rest : s.rest ≡ [] = ap (λ (z : World). z.out) (sym s.world_is) ∙ d.over.none_out in
      let arenas : arenas_from 0 w.owner (0 ∷ []) ≡ 0 ∷ [] = ap (λ o. arenas_from 0 o (0 ∷ [])) (sym owner)
      ∙ sym e.ends.out_is ∙ s.first ∙ ap (λ l. 0 ∷ l) rest in
      let first : 0 ≡ 0 + p.0 = single 0 (0 + p.0) (subst (λ l. Contains l (0 + p.0)) arenas listed) in
      let zero_arena : p.0 ≡ 0 = omega (arith, first) in
      let swept : Contains (all.2.0).white (x, p) = (e.ends.white_are x p).1 (white, lying) in
      let moved : Contains (all.2.0).white (x, (0, p.1)) =
      subst (λ q. Contains (all.2.0).white (x, (q, p.1))) zero_arena swept in
      nothing_in_none x ((s.freed_are.has x).1 (p.1, moved))
