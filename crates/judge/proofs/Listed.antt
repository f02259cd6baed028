-- Groups that part the zones of a collection have a text that a line can list.
use Rattle.std.proofs.Common.{◌≡◌, ◌≢◌, ◌↔◌, ◌∙◌, inl, inr, ℕ, ◌+◌, ◌-◌, ◌<◌, ◌≤◌, ◌^◌, List, [], ◌∷◌, ◌++◌}
use Rattle.std.proofs.Common.{length, get_or, map, Contains, bit_and, eqb, eqb-true, eq-eqb, true, refl, sym, ap}
use Rattle.std.proofs.Common.{subst, arith}
use Rattle.std.specs.List.{list_any}
use Rattle.std.specs.Prelude.{AllPairs, Decides, codes}
use Rattle.std.proofs.lemmas.Bool.{cases_lt}
use Rattle.std.proofs.lemmas.List.{get_or-map, length-map}
use Rattle.std.proofs.lemmas.List.Elements.{Contains-get_or}
use Rattle.std.proofs.lemmas.Map.Made.{IsDistinct-from_AllPairs}
use Rattle.std.proofs.lemmas.Map.Steps.{length-le_from_distinct_below}
use Rattle.std.proofs.lemmas.Map.Views.{Contains-from_any}
use Rattle.std.proofs.lemmas.Nat.{and_le_r}
use Rattle.gz_names.specs.Zones.{HasZone, zones_in}
use Rattle.gz_names.specs.declared.zone_sets.ZoneSet.{ZoneSet}
use Rattle.gz_names.specs.declared.replies.Report.TheVariants as report
use Rattle.gz_names.proofs.Words.{HasZone-all, HasZone-and, HasZone-below, HasZone-none}
use Rattle.colour_defs.specs.Graph.{GraphState}
use Rattle.colour_defs.specs.Groups.{AreLawfulGroups}
use Rattle.colour_defs.proofs.Lists.{nothing_in_none, contains_head, contains_tail, contains_cases}
use Rattle.colour_defs.proofs.ZoneSets.{zones_in-has}
use Rattle.trace_lang.specs.Texts.{bar_text, groups_text, report_text}
use Rattle.trace_lang.specs.Words.{number_words}
use Rattle.trace_lang.proofs.ZoneLists.{zones_from-same}
use Rattle.judge.specs.Parts.{AreListed, AreParts}
use Rattle.judge.specs.Stages.{AreForbidden, Shown, forming_in}
use Rattle.judge.proofs.Groups.{parts_of}

-- a set in 64 bits, with the same zones
abbrev pub within : ZoneSet → ZoneSet
within g = record { bits = bit_and g.bits (2 ^ 64 - 1) }

within_has : (g : ZoneSet) (z : ℕ) → HasZone (within g).bits z ↔ HasZone g.bits z
within_has g z =
    let both = HasZone-and g.bits (2 ^ 64 - 1) z in
    (λ h. (both.0 h).0, λ h. both.1 (h, HasZone-all z (HasZone-below g.bits z h)))

within_zones : (g : ZoneSet) → zones_in (within g) ≡ zones_in g
unfolding zones_in
within_zones g = zones_from-same (within g).bits g.bits 0 64 (omega arith) (λ z a b. within_has g z)

within_small : (g : ZoneSet) → (within g).bits < 2 ^ 64
within_small g = omega (arith, and_le_r g.bits (2 ^ 64 - 1))

some_bits : (word z : ℕ) → HasZone word z → 0 < word
some_bits word z has = elim (cases_lt 0 word) [
  | inl some ↦ some
  | inr none ↦ absurd (HasZone-none z (subst (λ (n : ℕ). HasZone n z) (omega (arith, none)) has))
]

-- a zone of a group
abbrev zone_of : ZoneSet → ℕ
zone_of g = get_or (zones_in g) 0 64

zone_has : (g : ZoneSet) (z : ℕ) → HasZone g.bits z → HasZone g.bits (zone_of g)
zone_has g z has = (zones_in-has g (zone_of g)).0 (first (zones_in g) ((zones_in-has g z).1 has))
  where
    first : (zs : List ℕ) → Contains zs z → Contains zs (get_or zs 0 64)
    first [] c = absurd (nothing_in_none z c)
    first (y ∷ ys) c = contains_head y ys

-- groups with no zone in two of them are at most 64
few_groups : (zones : ZoneSet) (groups : List ZoneSet) → AreParts zones groups → length groups ≤ 64
few_groups zones groups parts =
    subst (λ n. n ≤ 64) (length-map groups zone_of)
    (length-le_from_distinct_below (map zone_of groups) 64
    (IsDistinct-from_AllPairs same (map zone_of groups) apart) below)
  where
    same : (a b : ℕ) → Decides (eqb a b) (a ≡ b)
    same a b = (eqb-true a b, λ e. eq-eqb a b e)

    none : ZoneSet
    none = record { bits = 0 }

    at : (i : ℕ) → i < length groups → HasZone (get_or groups i none).bits (zone_of (get_or groups i none))
    at i lt = let some = parts.full (get_or groups i none) (Contains-get_or groups i none lt) in
        zone_has (get_or groups i none) some.0 some.1

    is : (i : ℕ) (d : ℕ) → i < length groups → get_or (map zone_of groups) i d ≡ zone_of (get_or groups i none)
    is i d lt = get_or-map zone_of groups i none d lt

    apart : AllPairs (λ (x y : ℕ). x ≢ y) (map zone_of groups)
    apart i j d lt below e =
        let within : j < length groups = omega (arith, below, length-map groups zone_of) in
        let first = at i (omega arith) in
        let second = at j within in
        parts.apart i j none lt within (zone_of (get_or groups i none)) first
        (subst (λ z. HasZone (get_or groups j none).bits z)
        (sym (is j d within) ∙ sym e ∙ is i d (omega arith)) second)

    member : (gs : List ZoneSet) (q : ℕ) → Contains (map zone_of gs) q → (g : ZoneSet) × Contains gs g × (zone_of g ≡ q)
    member [] q c = absurd (nothing_in_none q c)
    member (g ∷ gs) q c = elim (contains_cases (zone_of g) (map zone_of gs) q c) [
      | inl e ↦ (g, contains_head g gs, e)
      | inr t ↦ let r = member gs q t in (r.0, contains_tail g gs r.0 r.1, r.2)
    ]

    below : (q : ℕ) → list_any (eqb q) (map zone_of groups) ≡ true → q < 64
    below q h =
        let r = member groups q (Contains-from_any eqb-true q (map zone_of groups) h) in
        let some = parts.full r.0 r.1 in
        subst (λ z. z < 64) r.2 (HasZone-below r.0.bits (zone_of r.0) (zone_has r.0 some.0 some.1))

-- groups that part the zones, each in 64 bits
pub listed_of : (zones : ZoneSet) (groups : List ZoneSet) → AreParts zones groups → AreListed (map within groups)
listed_of zones groups parts = record {
  few = subst (λ n. n ≤ 64) (sym (length-map groups within)) (few_groups zones groups parts);
  some = λ g c. let r = member groups g c in let some = parts.full r.0 r.1 in
      subst (λ (s : ZoneSet). 0 < s.bits) r.2 (some_bits (within r.0).bits some.0 ((within_has r.0 some.0).1 some.1));
  small = λ g c. let r = member groups g c in
      subst (λ (s : ZoneSet). s.bits < 2 ^ 64) r.2 (within_small r.0);
}
  where
    member : (gs : List ZoneSet) (g : ZoneSet) → Contains (map within gs) g
        → (s : ZoneSet) × Contains gs s × (within s ≡ g)
    member [] g c = absurd (nothing_in_none g c)
    member (x ∷ xs) g c = elim (contains_cases (within x) (map within xs) g c) [
      | inl e ↦ (x, contains_head x xs, e)
      | inr t ↦ let r = member xs g t in (r.0, contains_tail x xs r.0 r.1, r.2)
    ]

same_text : (n : ℕ) (groups : List ZoneSet) → groups_text n (map within groups) ≡ groups_text n groups
same_text n [] = refl
same_text n (g ∷ gs) =
    ap (λ zs. (bar_text n ++ number_words zs) ++ groups_text (n + 1) (map within gs)) (within_zones g)
    ∙ ap (λ t. (bar_text n ++ number_words (zones_in g)) ++ t) (same_text (n + 1) gs)

same_zones : (groups : List ZoneSet) → map zones_in (map within groups) ≡ map zones_in groups
same_zones [] = refl
same_zones (g ∷ gs) = ap (λ zs. zs ∷ map zones_in (map within gs)) (within_zones g)
    ∙ ap (λ xs. zones_in g ∷ xs) (same_zones gs)

-- whatever is read from the text of lawful groups is not refused
pub forbidden_line : (g : GraphState) (s : Shown) (line : List ℕ)
    → ((groups : List ZoneSet) → AreListed groups → line ≡ report_text (report.Groups groups) → AreForbidden g s groups)
    → (groups : List ZoneSet) → line ≡ report_text (report.Groups groups) → AreForbidden g s groups
forbidden_line g s line refused groups e = λ zones marking walks stage found w k stands lawful.
    let parts = parts_of (forming_in g s zones walks) w k groups stands lawful in
    refused (map within groups) (listed_of zones groups parts)
    (e ∙ ap (λ t. codes "groups" ++ t) (sym (same_text 0 groups)))
    zones marking walks stage found w k stands
    (subst (λ xs. AreLawfulGroups w k xs) (sym (same_zones groups)) lawful)
