-- From the groups that a search found to components, and how a search begins.
use Rattle.std.proofs.Common.{◌≡◌, ℕ, ◌<◌, ◌≤◌, inl, inr, subst, arith, List, length, get_or, take, replicate}
use Rattle.std.proofs.Math.ListN.{length-replicate}
use Rattle.std.proofs.lemmas.List.{get_or-take, length-take-le, get_or-replicate, get_or_past}
use Rattle.std.proofs.lemmas.Bool.{cases_lt, cases_order}
use Rattle.gz_names.specs.Zones.{HasZone}
use Rattle.gz_names.specs.declared.zone_sets.ZoneSet.{ZoneSet}
use Rattle.zone_edges.specs.declared.search.Search.{Search}
use Rattle.zone_edges.specs.Sets.{IsAt, no_zones}
use Rattle.zone_edges.specs.Groups.{Edge, Leads, stay, along, LeadsWithin, rest, pass, AreComponents}
use Rattle.zone_edges.specs.Walk.{AreFound, IsSearch}
use Rattle.gz_names.proofs.Words.{HasZone-none, HasZone-below}

module _ (sources : List ZoneSet) (zones done : ZoneSet) (groups : List ZoneSet) (count : ℕ)
    (f : AreFound sources zones done groups count) (all : (z : ℕ) → HasZone zones.bits z → HasZone done.bits z) where
  -- a zone is of one group alone
  one_group : (i j z : ℕ) → i < count → j < count → IsAt groups i z → IsAt groups j z → i ≡ j
  one_group i j z li lj hi hj = elim (cases_order i j) [
    | inl e ↦ e
    | inr o ↦ elim o [ inl lt ↦ absurd (f.apart i j z lt lj hi hj) | inr gt ↦ absurd (f.apart j i z gt li hj hi) ]
  ]

  -- edges lead from earlier groups to later ones
  not_later : {a b : ℕ} (i j : ℕ) → i < count → j < count → Leads sources a b → IsAt groups i a → IsAt groups j b
      → i ≤ j
  not_later {a} i j li lj stay ha hb = omega (arith, one_group i j a li lj ha hb)
  not_later {a} {b} i j li lj (along {b = m} p e) ha hb =
      let g = f.done_is m (all m (f.edges m b e)) in
      let le : i ≤ g.0 = not_later i g.0 li g.1 p ha g.2 in
      elim (cases_lt j g.0) [
        | inl lt ↦ absurd (f.order j g.0 m b lt g.1 g.2 hb e)
        | inr ge ↦ omega arith
      ]

  -- a way from a group to itself stays in it
  stays : {a b : ℕ} (i : ℕ) → i < count → Leads sources a b → IsAt groups i a → IsAt groups i b
      → LeadsWithin sources (get_or groups i no_zones) a b
  stays i li stay ha hb = rest ha
  stays {a} {b} i li (along {b = m} p e) ha hb =
      let g = f.done_is m (all m (f.edges m b e)) in
      let le : i ≤ g.0 = not_later i g.0 li g.1 p ha g.2 in
      let ge : g.0 ≤ i = not_later g.0 i g.1 li (along stay e) g.2 hb in
      let same : g.0 ≡ i = omega arith in
      pass (stays i li p ha (subst (λ k. IsAt groups k m) same g.2)) e hb

-- when each zone was seen and no level is left, the groups are the components
pub components_found : (s : Search) → IsSearch s → s.depth ≡ 0
    → ((z : ℕ) → HasZone s.zones.bits z → HasZone s.seen.bits z)
    → AreComponents s.sources s.zones (take s.count s.groups)
components_found s is idle all =
    let f = is.found in
    let n : length (take s.count s.groups) ≡ s.count =
    length-take-le s.count s.groups (omega (arith, is.most, is.groups_len)) in
    let done : (z : ℕ) → HasZone s.zones.bits z → HasZone s.done.bits z = λ z h. elim (is.seen_is z (all z h)) [
      | inl d ↦ d
      | inr l ↦ let below : l.0 < s.depth = l.1 in absurd (omega arith)
    ] in
    let at : (i z : ℕ) → i < length (take s.count s.groups) → IsAt (take s.count s.groups) i z → IsAt s.groups i z =
    λ i z lt h. (let lt' : i < s.count = omega arith in rw get_or-take at h) in
    let back : (i z : ℕ) → i < s.count → IsAt s.groups i z → IsAt (take s.count s.groups) i z =
    λ i z lt h. rw get_or-take h in
    record {
      covered = λ z h. let g = f.done_is z (done z h) in let lt : g.0 < s.count = g.1 in
          (g.0, omega arith, back g.0 z lt g.2);
      inside = λ i z lt h. is.within z (is.done_seen z (f.is_done i z (omega arith) (at i z lt h)));
      some = λ i lt. let lt' : i < s.count = omega arith in let h = f.some i lt' in (h.0, back i h.0 lt' h.1);
      apart = λ i j z ij lt hi hj. f.apart i j z ij (omega arith) (at i z (omega arith) hi) (at j z lt hj);
      strong = λ i a b lt ha hb.
          (let lt' : i < s.count = omega arith in
          rw get_or-take (stays s.sources s.zones s.done s.groups s.count f done i lt'
          (f.led i a b lt' (at i a lt ha) (at i b lt hb)) (at i a lt ha) (at i b lt hb)));
      whole = λ a b ha hb there back_again.
          (let p = f.done_is a (done a ha) in
          let q = f.done_is b (done b hb) in
          let le : p.0 ≤ q.0 = not_later s.sources s.zones s.done s.groups s.count f done p.0 q.0 p.1 q.1 there p.2 q.2
          in
          let ge : q.0 ≤ p.0 = not_later s.sources s.zones s.done s.groups s.count f done q.0 p.0 q.1 p.1 back_again q.2
          p.2 in
          let same : q.0 ≡ p.0 = omega arith in
          let lt : p.0 < s.count = p.1 in
          (p.0, omega arith, back p.0 a lt p.2, back p.0 b lt (subst (λ k. IsAt s.groups k b) same q.2)));
      order = λ i j a b ij lt ha hb e. f.order i j a b ij (omega arith) (at j a lt ha) (at i b (omega arith) hb) e;
    }

-- where no edge is noted
pub no_edges : (x y : ℕ) → Edge (replicate 64 no_zones) x y → ⊥
no_edges x y h = elim (cases_lt y 64) [
  | inl lt ↦ HasZone-none x (subst (λ (s : ZoneSet). HasZone s.bits x) (get_or-replicate 64 y no_zones no_zones lt) h)
  | inr ge ↦ HasZone-none x
      (subst (λ (s : ZoneSet). HasZone s.bits x)
      (get_or_past (replicate 64 no_zones) y no_zones (omega (arith, length-replicate {A = ZoneSet} 64 no_zones))) h)
]

-- how a search begins, whatever its lists held before
pub started : (zones : ZoneSet) (groups levels entering : List ZoneSet) → length groups ≡ 64 → length levels ≡ 64
    → length entering ≡ 64
    → IsSearch (record {
      zones = zones;
      sources = replicate 64 no_zones;
      done = no_zones;
      groups = groups;
      count = 0;
      seen = no_zones;
      levels = levels;
      entering = entering;
      depth = 0;
    })
started zones groups levels entering g l e = record {
  found = record {
    edges = λ a b e. absurd (no_edges a b e);
    small = λ z h. HasZone-below zones.bits z h;
    done_is = λ z h. absurd (HasZone-none z h);
    is_done = λ i z lt h. absurd (omega arith);
    some = λ i lt. absurd (omega arith);
    apart = λ i j z ij lt hi hj. omega arith;
    led = λ i a b lt ha hb. absurd (omega arith);
    closed = λ a b h e. absurd (HasZone-none b h);
    order = λ i j a b ij lt ha hb e. omega arith;
  };
  sources_len = length-replicate {A = ZoneSet} 64 no_zones;
  levels_len = l;
  entering_len = e;
  groups_len = g;
  most = omega arith;
  room = omega arith;
  seen_is = λ z h. absurd (HasZone-none z h);
  done_seen = λ z h. h;
  level_seen = λ i z lt h. absurd (omega arith);
  apart_done = λ i z lt h d. omega arith;
  apart = λ i j z ij lt hi hj. omega arith;
  some = λ i lt. absurd (omega arith);
  down = λ i j x y ij lt hx hy. absurd (omega arith);
  source_in = λ i x y lt hx e. absurd (omega arith);
  source_of = λ i y lt h. absurd (omega arith);
  within = λ z h. absurd (HasZone-none z h);
}
