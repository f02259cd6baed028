-- Zones that are none, and where nothing is prepared or marked: the judge's stage says so just where the world does.
use Rattle.std.proofs.Common.{◌≡◌, ◌∙◌, inl, inr, ℕ, ◌<◌, ◌^◌, w64, List, [], ◌∷◌, map, Some, None}
use Rattle.std.proofs.Common.{Contains, refl, sym, ap, subst, arith}
use Rattle.std.specs.Int.{trailing_zeros}
use Rattle.std.proofs.lemmas.Bool.{cases_lt}
use Rattle.gz_names.specs.Zones.{zones_in}
use Rattle.gz_names.specs.declared.zone_sets.ZoneSet.{ZoneSet}
use Rattle.gz_names.proofs.Words.{HasZone-first, HasZone-none}
use Rattle.colour_defs.specs.Graph.{GraphState}
use Rattle.colour_defs.specs.Laws.{IsValid}
use Rattle.colour_defs.specs.World.{Collection, IsSettled as HasSettled, World, marking_of}
use Rattle.colour_defs.proofs.Lists.{nothing_in_none, contains_head}
use Rattle.colour_defs.proofs.Membership.{some_member}
use Rattle.colour_defs.proofs.ValidReports.{no_marking}
use Rattle.colour_defs.proofs.ZoneSets.{zones_in-has}
use Rattle.judge.specs.Represents.{IsAtStage, Represents}
use Rattle.judge.specs.Stages.{HasGroups, IsSettled, Shown, Stage, collecting, idle, preparing}

-- no zone
pub no_zones : (zones : ZoneSet) → zones.bits ≡ 0 → zones_in zones ≡ []
no_zones zones e = go (zones_in zones) refl
  where
    go : (zs : List ℕ) → zones_in zones ≡ zs → zs ≡ []
    go [] at = refl
    go (z ∷ zs) at = let has = (zones_in-has zones z).0 (subst (λ ys. Contains ys z) (sym at) (contains_head z zs)) in
        absurd (HasZone-none z (subst (λ n. Rattle.gz_names.specs.Zones.HasZone n z) e has))

pub no_bits : (zones : ZoneSet) → zones.bits < 2 ^ 64 → zones_in zones ≡ [] → zones.bits ≡ 0
no_bits zones small e = elim (cases_lt 0 zones.bits) [
  | inl some ↦ (let first = HasZone-first zones.bits some small in
      let z : ℕ = trailing_zeros w64 zones.bits in
      absurd (nothing_in_none z (subst (λ zs. Contains zs z) e ((zones_in-has zones z).1 first.1))))
  | inr none ↦ omega (arith, none)
]

module _ (s : Shown) (w : World) (valid : IsValid w) where
  pub settled_in : (t : Stage) → IsAtStage t s w → IsSettled t → HasSettled w
  settled_in idle at still =
      record { none_marking = ap marking_of at.idle.none_running; none_preparing = at.idle.none_preparing }
  settled_in (preparing zones) at still =
      absurd ((valid.preparing at.preparation at.preparing_is).some (at.zones_are ∙ no_zones zones still))
  settled_in (collecting zones marking groups) at still = record {
    none_marking = ap marking_of at.collection_is ∙ at.marking_are ∙ no_zones marking still;
    none_preparing = at.alone;
  }

  in_settled : (t : Stage) → IsAtStage t s w → HasSettled w → IsSettled t
  in_settled idle at still = refl
  in_settled (preparing zones) at still = absurd (cc (at.preparing_is, still.none_preparing))
  in_settled (collecting zones marking groups) at still =
      no_bits marking at.small (sym at.marking_are ∙ sym (ap marking_of at.collection_is) ∙ still.none_marking)

  -- groups are left exactly while zones are marking
  pub marks_in : (t : Stage) → IsAtStage t s w → HasGroups t → IsSettled t → ⊥
  marks_in idle at has still = has
  marks_in (preparing zones) at has still = has
  marks_in (collecting zones marking None) at has still =
      let un = valid.ungrouped at.collection at.collection_is at.groups_are in
      let some = some_member at.collection.zones un.some in
      nothing_in_none some.0 (subst (λ zs. Contains zs some.0) (at.marking_are ∙ no_zones marking still)
      (un.all some.0 some.1))
  marks_in (collecting zones marking (Some [])) at has still = has
  marks_in (collecting zones marking (Some (group ∷ rest))) at has still =
      let gs = valid.groups at.collection (zones_in group ∷ map zones_in rest) at.collection_is at.groups_are in
      let here = contains_head (zones_in group) (map zones_in rest) in
      let some = some_member (zones_in group) (gs.full (zones_in group) here) in
      nothing_in_none some.0 (subst (λ zs. Contains zs some.0) (at.marking_are ∙ no_zones marking still)
      (gs.marked (zones_in group) some.0 here some.1))

  groups_in : (t : Stage) → IsAtStage t s w → (HasGroups t → ⊥) → (k : Collection) → w.collection ≡ Some k
      → k.marking ≡ []
  groups_in idle at none k e = absurd (cc (e, at.idle.none_running))
  groups_in (preparing zones) at none k e = absurd (cc (e, at.alone))
  groups_in (collecting zones marking None) at none k e = absurd (none tt)
  groups_in (collecting zones marking (Some [])) at none k e =
      let same : at.collection ≡ k = cc (e, at.collection_is) in
      no_marking w k (valid.groups k [] e (subst (λ (c : Collection). c.groups ≡ Some []) same at.groups_are))
  groups_in (collecting zones marking (Some (group ∷ rest))) at none k e = absurd (none tt)

module _ {g : GraphState} {s : Shown} {w : World} (stands : Represents g s w) (valid : IsValid w) where
  pub settled_world : IsSettled s.stage → HasSettled w
  settled_world still = settled_in s w valid s.stage stands.stage_is still

  pub settled_stage : HasSettled w → IsSettled s.stage
  settled_stage still = in_settled s w valid s.stage stands.stage_is still

  -- zones are marking where groups are left, and only there
  pub groups_mark : HasGroups s.stage → IsSettled s.stage → ⊥
  groups_mark has still = marks_in s w valid s.stage stands.stage_is has still

  pub none_mark : (HasGroups s.stage → ⊥) → (k : Collection) → w.collection ≡ Some k → k.marking ≡ []
  none_mark none k e = groups_in s w valid s.stage stands.stage_is none k e
