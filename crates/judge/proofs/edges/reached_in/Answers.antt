use Rattle.std.proofs.Common.{◌≡◌, ◌≢◌, ◌⊎◌, ◌↔◌, inl, inr, ℕ, subst, sym}
use Rattle.std.specs.Prelude.{slice_index_or}
use Rattle.std.proofs.lemmas.Bool.{cases_eq}
use Rattle.gz_names.specs.Zones.{HasZone}
use Rattle.gz_names.specs.declared.zone_sets.ZoneSet.{ZoneSet}
use Rattle.gz_names.proofs.ZoneCounts.{fewer_zones}
use Rattle.colour_defs.specs.Groups.{next}
use Rattle.colour_defs.proofs.ZoneSets.{zones_in-has}
use Rattle.judge.specs.Edges.{IsNoted, no_zones}
use Rattle.judge.specs.declared.edges.ZoneEdges.{ZoneEdges}
use Rattle.judge.proofs.ZoneEdges.{Searches, search_all, search_first}
use Rattle.judge.proofs.edges.reached_in.Goals as goal

-- a zone is passed: those to which its edges lead are reached
search_more : (E : ℕ → ℕ → Type 0) (group : ZoneSet) (start zone : ℕ) (old new rest left : ZoneSet)
    → HasZone old.bits zone → ((z : ℕ) → HasZone new.bits z ↔ (HasZone old.bits z ⊎ (E zone z × HasZone group.bits z)))
    → ((z : ℕ) → HasZone left.bits z ↔ (HasZone rest.bits z × (z ≢ zone))) → Searches E group start old rest
    → Searches E group start new left
search_more E group start zone old new rest left at more without so = record {
  first = (more start).1 (inl so.first);
  leads = λ z h. elim ((more z).0 h) [
    | inl o ↦ so.leads z o
    | inr e ↦ next (so.leads zone at) e.0 ((zones_in-has group z).1 e.1)
  ];
  within = λ z h. elim ((more z).0 h) [ inl o ↦ so.within z o | inr e ↦ e.1 ];
  others = λ z g. elim (cases_eq z zone) [
    | inl same ↦ inr ((more z).1 (inl (subst (λ x. HasZone old.bits x) (sym same) at)))
    | inr other ↦ elim (so.others z g) [
      | inl r ↦ inl ((without z).1 (r, other))
      | inr o ↦ inr ((more z).1 (inl o))
    ]
  ];
  passed = λ z y h e g. elim (cases_eq z zone) [
    | inl same ↦ inr ((more y).1 (inr (subst (λ x. E x y) same e, g)))
    | inr other ↦ elim (was_or_left z h) [
      | inl o ↦ elim (so.passed z y o e g) [
        | inl r ↦ inl ((without z).1 (r, other))
        | inr o ↦ inr ((more y).1 (inl o))
      ]
      | inr r ↦ inl ((without z).1 (r, other))
    ]
  ];
}
  where
    was_or_left : (z : ℕ) → HasZone new.bits z → HasZone old.bits z ⊎ HasZone rest.bits z
    was_or_left z h = elim ((more z).0 h) [
      | inl o ↦ inl o
      | inr e ↦ elim (so.others z e.1) [ inl r ↦ inr r | inr o ↦ inl o ]
    ]

-- the zones to which edges lead from a zone are reached
reached_more : (edges : ZoneEdges) (zone : ℕ) (group old new targets both : ZoneSet)
    → targets ≡ slice_index_or edges.to zone no_zones
    → ((z : ℕ) → HasZone both.bits z ↔ (HasZone targets.bits z × HasZone group.bits z))
    → ((z : ℕ) → HasZone new.bits z ↔ (HasZone old.bits z ⊎ HasZone both.bits z)) → (z : ℕ)
    → HasZone new.bits z ↔ (HasZone old.bits z ⊎ (IsNoted edges zone z × HasZone group.bits z))
reached_more edges zone group old new targets both is within either z = (
  λ h. elim ((either z).0 h) [
    | inl o ↦ inl o
    | inr b ↦ let p = (within z).0 b in inr (subst (λ (s : ZoneSet). HasZone s.bits z) is p.0, p.1)
  ],
  λ h. (either z).1 (elim h [
    | inl o ↦ inl o
    | inr p ↦ inr ((within z).1 (subst (λ (s : ZoneSet). HasZone s.bits z) (sym is) p.0, p.1))
  ]),
)

pub zones-init : goal.zones-init
zones-init c =
    search_first (IsNoted c.args.edges.now) c.args.group c.args.start c.only-reached.result c.requires
    c.only-reached.ensures

pub zones-smaller : goal.zones-smaller
zones-smaller c = fewer_zones c.zones.rest.bits c.remove.new.self.bits c.in-Some.zone c.remove.ensures
    ((c.intersection.ensures c.in-Some.zone).0 c.in-Some.ensures.some).0

pub zones-preserved : goal.zones-preserved
zones-preserved c =
    search_more (IsNoted c.args.edges.now) c.args.group c.args.start c.in-Some.zone c.zones.reached
    c.union-reached.result c.zones.rest c.remove.new.self
    ((c.intersection.ensures c.in-Some.zone).0 c.in-Some.ensures.some).1
    (reached_more c.args.edges.now c.in-Some.zone c.args.group c.zones.reached c.union-reached.result
    c.targets_of.result c.intersection-in-Some.result c.targets_of.ensures c.intersection-in-Some.ensures
    c.union-reached.ensures) c.remove.ensures c.zones.invariant

pub returns : goal.returns
returns c =
    search_all (IsNoted c.args.edges.now) c.args.group c.args.start c.zones.reached c.zones.rest
    (λ z r h. c.in_default.ensures.none z ((c.intersection.ensures z).1 (r, h))) c.zones.invariant
