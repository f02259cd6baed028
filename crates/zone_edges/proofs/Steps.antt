-- The steps of the search keep what holds between them.
use Rattle.std.proofs.Common.{◌≡◌, ◌≢◌, ℕ, ◌+◌, ◌<◌, ◌≤◌, ◌⊎◌, ◌↔◌, inl, inr, refl, sym, ◌∙◌, subst, arith, List}
use Rattle.std.proofs.Common.{length, get_or, get_or-set_other, get_or-set_same}
use Rattle.std.specs.Prelude.{slice_set}
use Rattle.std.proofs.Math.ListN.{length-set}
use Rattle.std.proofs.lemmas.Bool.{cases_lt, cases_eq}
use Rattle.gz_names.specs.Zones.{HasZone}
use Rattle.gz_names.specs.declared.zone_sets.ZoneSet.{ZoneSet}
use Rattle.zone_edges.specs.declared.search.Search.{Search}
use Rattle.zone_edges.specs.Sets.{IsAt, no_zones, size}
use Rattle.zone_edges.specs.Groups.{Leads, stay, along}
use Rattle.zone_edges.specs.Walk.{IsSearch}
use Rattle.zone_edges.proofs.Words.{HasZone-cases, size-bound, size-more, size-room}

pub leads-trans : {sources : List ZoneSet} {a b c : ℕ} → Leads sources a b → Leads sources b c → Leads sources a c
leads-trans p stay = p
leads-trans p (along q e) = along (leads-trans p q) e

-- the sets at places up to d, after a write at d
pub at_written : (xs : List ZoneSet) (d : ℕ) (o : ZoneSet) (i z : ℕ) → d < length xs → i < d + 1
    → IsAt (slice_set xs d o) i z → ((i < d) × IsAt xs i z) ⊎ ((i ≡ d) × HasZone o.bits z)
at_written xs d o i z l below h = elim (cases_lt i d) [
  | inl lt ↦ inl (lt, let ne : i ≢ d = omega arith in rw get_or-set_other at h)
  | inr ge ↦ let e : i ≡ d = omega arith in
      inr (
        e,
        let h' : IsAt (slice_set xs d o) d z = subst (λ j. IsAt (slice_set xs d o) j z) e h in
            rw get_or-set_same at h',
      )
]

pub at_before : (xs : List ZoneSet) (d : ℕ) (o : ZoneSet) (i z : ℕ) → i < d → IsAt xs i z → IsAt (slice_set xs d o) i z
at_before xs d o i z lt h = let ne : i ≢ d = omega arith in rw get_or-set_other h

pub at_place : (xs : List ZoneSet) (d : ℕ) (o : ZoneSet) (z : ℕ) → d < length xs → HasZone o.bits z
    → IsAt (slice_set xs d o) d z
at_place xs d o z lt h = rw get_or-set_same h

-- how the room shrinks with a zone that was not seen
pub grown : (s : Search) (k : ℕ) (o n : ZoneSet) → IsSearch s → HasZone s.zones.bits k → (HasZone s.seen.bits k → ⊥)
    → ((z : ℕ) → HasZone o.bits z ↔ (z ≡ k)) → ((z : ℕ) → HasZone n.bits z ↔ (HasZone s.seen.bits z ⊎ HasZone o.bits z))
    → size 64 s.seen.bits + 1 ≤ size 64 n.bits
grown s k o n is inside fresh one more = size-more 64 s.seen.bits n.bits k (omega arith) (λ z h. (more z).1 (inl h))
    (is.found.small k inside) fresh ((more k).1 (inr ((one k).1 refl)))

-- there is a place for one more level
pub has_room : (s : Search) (k : ℕ) → IsSearch s → HasZone s.zones.bits k → (HasZone s.seen.bits k → ⊥) → s.depth < 64
has_room s k is inside fresh =
    omega (arith, is.room, size-room 64 s.seen.bits k (omega arith) (is.found.small k inside) fresh)

pub opened : (s : Search) (k : ℕ) (o n : ZoneSet) → IsSearch s → HasZone s.zones.bits k → (HasZone s.seen.bits k → ⊥)
    → ((i x : ℕ) → i < s.depth → IsAt s.levels i x → Leads s.sources k x)
    → ((z : ℕ) → HasZone o.bits z ↔ (z ≡ k)) → ((z : ℕ) → HasZone n.bits z ↔ (HasZone s.seen.bits z ⊎ HasZone o.bits z))
    → IsSearch (record s {
      seen = n;
      levels = slice_set s.levels s.depth o;
      entering = slice_set s.entering s.depth (get_or s.sources k no_zones);
      depth = s.depth + 1;
    })
opened s k o n is inside fresh leads one more =
    let here : HasZone o.bits k = (one k).1 refl in
    let g : size 64 s.seen.bits + 1 ≤ size 64 n.bits = grown s k o n is inside fresh one more in
    let room : s.depth < 64 = omega (arith, is.room, size-bound 64 n.bits) in
    let lo' : s.depth < length s.levels = omega (arith, is.levels_len) in
    let lr' : s.depth < length s.entering = omega (arith, is.entering_len) in
    let reach' : List ZoneSet = slice_set s.entering s.depth (get_or s.sources k no_zones) in
    let is_k : (z : ℕ) → HasZone o.bits z → z ≡ k = λ z h. (one z).0 h in
    record {
      found = is.found;
      sources_len = is.sources_len;
      levels_len = length-set s.levels s.depth o ∙ is.levels_len;
      entering_len = length-set s.entering s.depth (get_or s.sources k no_zones) ∙ is.entering_len;
      groups_len = is.groups_len;
      most = omega (arith, is.room, is.most, g, size-bound 64 n.bits);
      room = omega (arith, is.room);
      seen_is = λ z h. elim ((more z).0 h) [
        | inl old ↦ elim (is.seen_is z old) [
          | inl d ↦ inl d
          | inr l ↦ let lt : l.0 < s.depth = l.1 in inr (l.0, omega arith, at_before s.levels s.depth o l.0 z lt l.2)
        ]
        | inr new ↦ inr (s.depth, omega arith, at_place s.levels s.depth o z lo' new)
      ];
      done_seen = λ z h. (more z).1 (inl (is.done_seen z h));
      level_seen = λ i z lt h. elim (at_written s.levels s.depth o i z lo' lt h) [
        | inl old ↦ (more z).1 (inl (is.level_seen i z old.0 old.1))
        | inr new ↦ (more z).1 (inr new.1)
      ];
      apart_done = λ i z lt h d. elim (at_written s.levels s.depth o i z lo' lt h) [
        | inl old ↦ is.apart_done i z old.0 old.1 d
        | inr new ↦ fresh (subst (λ y. HasZone s.seen.bits y) (is_k z new.1) (is.done_seen z d))
      ];
      apart = λ i j z lt below hi hj. elim (at_written s.levels s.depth o j z lo' below hj) [
        | inl old ↦ elim (at_written s.levels s.depth o i z lo' (omega arith) hi) [
          | inl old' ↦ is.apart i j z lt old.0 old'.1 old.1
          | inr new ↦ let a : i ≡ s.depth = new.0 in let b : j < s.depth = old.0 in omega arith
        ]
        | inr new ↦ elim (at_written s.levels s.depth o i z lo' (omega arith) hi) [
          | inl old ↦ fresh (subst (λ y. HasZone s.seen.bits y) (is_k z new.1) (is.level_seen i z old.0 old.1))
          | inr new' ↦ let a : i ≡ s.depth = new'.0 in let b : j ≡ s.depth = new.0 in omega arith
        ]
      ];
      some = λ i lt. elim (cases_lt i s.depth) [
        | inl below ↦ let h = is.some i below in (h.0, at_before s.levels s.depth o i h.0 below h.1)
        | inr ge ↦ let e : s.depth ≡ i = omega arith in
            (k, subst (λ j. IsAt (slice_set s.levels s.depth o) j k) e (at_place s.levels s.depth o k lo' here))
      ];
      down = λ i j x y le lt hx hy. elim (at_written s.levels s.depth o j y lo' lt hy) [
        | inl old ↦ elim (at_written s.levels s.depth o i x lo' (omega arith) hx) [
          | inl old' ↦ is.down i j x y le old.0 old'.1 old.1
          | inr new ↦ let a : i ≡ s.depth = new.0 in let b : j < s.depth = old.0 in absurd (omega arith)
        ]
        | inr new ↦ let ey : k ≡ y = sym (is_k y new.1) in
            elim (at_written s.levels s.depth o i x lo' (omega arith) hx) [
              | inl old ↦ subst (λ v. Leads s.sources v x) ey (leads i x old.0 old.1)
              | inr new' ↦ let ex : k ≡ x = sym (is_k x new'.1) in
                  subst (λ v. Leads s.sources v x) ey (subst (λ w. Leads s.sources k w) ex stay)
            ]
      ];
      source_in = λ i x y lt hx e. elim (at_written s.levels s.depth o i x lo' lt hx) [
        | inl old ↦ at_before s.entering s.depth (get_or s.sources k no_zones) i y old.0
            (is.source_in i x y old.0 old.1 e)
        | inr new ↦ subst (λ j. IsAt reach' j y) (sym new.0)
            (at_place s.entering s.depth (get_or s.sources k no_zones) y lr'
            (subst (λ v. IsAt s.sources v y) (is_k x new.1) e))
      ];
      source_of = λ i y lt h. elim (at_written s.entering s.depth (get_or s.sources k no_zones) i y lr' lt h) [
        | inl old ↦ let w = is.source_of i y old.0 old.1 in (w.0, at_before s.levels s.depth o i w.0 old.0 w.1, w.2)
        | inr new ↦ (
          k,
          subst (λ j. IsAt (slice_set s.levels s.depth o) j k) (sym new.0)
              (at_place s.levels s.depth o k lo' here),
          new.1,
        )
      ];
      within = λ z h. elim ((more z).0 h) [
        | inl old ↦ is.within z old
        | inr new ↦ subst (λ y. HasZone s.zones.bits y) (sym (is_k z new)) inside
      ];
    }

-- the last level is a group, where all that leads to it is done or in it
pub closed : (s : Search) (t : ℕ) (n : ZoneSet) → IsSearch s → s.depth ≡ t + 1
    → ((z : ℕ) → IsAt s.entering t z → HasZone s.done.bits z ⊎ IsAt s.levels t z)
    → ((z : ℕ) → HasZone n.bits z ↔ (HasZone s.done.bits z ⊎ IsAt s.levels t z))
    → IsSearch (record s {
      done = n;
      groups = slice_set s.groups s.count (get_or s.levels t no_zones);
      count = s.count + 1;
      depth = t;
    })
closed s t n is top shut more =
    let own : ZoneSet = get_or s.levels t no_zones in
    let lt : t < s.depth = omega arith in
    let lg : s.count < length s.groups = omega (arith, is.groups_len, is.room, size-bound 64 s.seen.bits) in
    let f = is.found in
    record {
      found = record {
        edges = f.edges;
        small = f.small;
        done_is = λ z h. elim ((more z).0 h) [
          | inl d ↦ let g = f.done_is z d in (g.0, omega (arith, g.1), at_before s.groups s.count own g.0 z g.1 g.2)
          | inr o ↦ (s.count, omega arith, at_place s.groups s.count own z lg o)
        ];
        is_done = λ i z below h. elim (at_written s.groups s.count own i z lg below h) [
          | inl old ↦ (more z).1 (inl (f.is_done i z old.0 old.1))
          | inr new ↦ (more z).1 (inr new.1)
        ];
        some = λ i below. elim (cases_lt i s.count) [
          | inl lt' ↦ let h = f.some i lt' in (h.0, at_before s.groups s.count own i h.0 lt' h.1)
          | inr ge ↦ let e : s.count ≡ i = omega arith in let h = is.some t lt in (
            h.0,
            subst (λ j. IsAt (slice_set s.groups s.count own) j h.0) e
                (at_place s.groups s.count own h.0 lg h.1),
          )
        ];
        apart = λ i j z ij below hi hj. elim (at_written s.groups s.count own j z lg below hj) [
          | inl old ↦ elim (at_written s.groups s.count own i z lg (omega arith) hi) [
            | inl old' ↦ f.apart i j z ij old.0 old'.1 old.1
            | inr new ↦ let a : i ≡ s.count = new.0 in let b : j < s.count = old.0 in omega arith
          ]
          | inr new ↦ elim (at_written s.groups s.count own i z lg (omega arith) hi) [
            | inl old ↦ is.apart_done t z lt new.1 (f.is_done i z old.0 old.1)
            | inr new' ↦ let a : i ≡ s.count = new'.0 in let b : j ≡ s.count = new.0 in omega arith
          ]
        ];
        led = λ i a b below ha hb. elim (at_written s.groups s.count own i a lg below ha) [
          | inl old ↦ elim (at_written s.groups s.count own i b lg below hb) [
            | inl old' ↦ f.led i a b old.0 old.1 old'.1
            | inr new ↦ let p : i ≡ s.count = new.0 in let q : i < s.count = old.0 in absurd (omega arith)
          ]
          | inr new ↦ elim (at_written s.groups s.count own i b lg below hb) [
            | inl old ↦ let p : i ≡ s.count = new.0 in let q : i < s.count = old.0 in absurd (omega arith)
            | inr new' ↦ is.down t t b a (omega arith) lt new'.1 new.1
          ]
        ];
        closed = λ a b h e. elim ((more b).0 h) [
          | inl d ↦ (more a).1 (inl (f.closed a b d e))
          | inr o ↦ (more a).1 (shut a (is.source_in t b a lt o e))
        ];
        order = λ i j a b ij below ha hb e. elim (at_written s.groups s.count own j a lg below ha) [
          | inl old ↦ elim (at_written s.groups s.count own i b lg (omega arith) hb) [
            | inl old' ↦ f.order i j a b ij old.0 old.1 old'.1 e
            | inr new ↦ let p : i ≡ s.count = new.0 in let q : j < s.count = old.0 in omega arith
          ]
          | inr new ↦ elim (at_written s.groups s.count own i b lg (omega arith) hb) [
            | inl old ↦ is.apart_done t a lt new.1 (f.closed a b (f.is_done i b old.0 old.1) e)
            | inr new' ↦ let p : i ≡ s.count = new'.0 in let q : j ≡ s.count = new.0 in omega arith
          ]
        ];
      };
      most = omega (arith, is.most);
      sources_len = is.sources_len;
      levels_len = is.levels_len;
      entering_len = is.entering_len;
      groups_len = length-set s.groups s.count own ∙ is.groups_len;
      room = omega (arith, is.room);
      seen_is = λ z h. elim (is.seen_is z h) [
        | inl d ↦ inl ((more z).1 (inl d))
        | inr l ↦ elim (cases_eq l.0 t) [
          | inl e ↦ inl ((more z).1 (inr (subst (λ j. IsAt s.levels j z) e l.2)))
          | inr ne ↦ let below : l.0 < s.depth = l.1 in inr (l.0, omega arith, l.2)
        ]
      ];
      done_seen = λ z h. elim ((more z).0 h) [ inl d ↦ is.done_seen z d | inr o ↦ is.level_seen t z lt o ];
      level_seen = λ i z below h. is.level_seen i z (omega arith) h;
      apart_done = λ i z below h d. elim ((more z).0 d) [
        | inl d ↦ is.apart_done i z (omega arith) h d
        | inr o ↦ is.apart i t z below lt h o
      ];
      apart = λ i j z ij below hi hj. is.apart i j z ij (omega arith) hi hj;
      some = λ i below. is.some i (omega arith);
      down = λ i j x y ij below hx hy. is.down i j x y ij (omega arith) hx hy;
      source_in = λ i x y below h e. is.source_in i x y (omega arith) h e;
      source_of = λ i y below h. is.source_of i y (omega arith) h;
      within = is.within;
    }

-- the last two levels are one, where a zone of a level below the last leads to the last
pub merged : (s : Search) (t u : ℕ) (o r : ZoneSet) → IsSearch s → u ≡ t + 1 → s.depth ≡ u + 1
    → ((z : ℕ) × IsAt s.entering u z × ((i : ℕ) × (i + 1 < s.depth) × IsAt s.levels i z))
    → ((z : ℕ) → HasZone o.bits z ↔ (IsAt s.levels t z ⊎ IsAt s.levels u z))
    → ((z : ℕ) → HasZone r.bits z ↔ (IsAt s.entering t z ⊎ IsAt s.entering u z))
    → IsSearch (record s { levels = slice_set s.levels t o; entering = slice_set s.entering t r; depth = u })
merged s t u o r is next top (v, reached, (m, under, at_m)) owns reaches =
    let l0 : t < s.depth = omega arith in
    let l1 : u < s.depth = omega arith in
    let lo : t < length s.levels = omega (arith, is.levels_len, is.room, size-bound 64 s.seen.bits) in
    let lr : t < length s.entering = omega (arith, is.entering_len, is.room, size-bound 64 s.seen.bits) in
    let back : (x y : ℕ) → IsAt s.levels u x → IsAt s.levels t y → Leads s.sources y x = λ x y hx hy.
    (let w = is.source_of u v l1 reached in
    leads-trans (is.down m t v y (omega arith) l0 at_m hy)
    (leads-trans (along stay w.2) (is.down u u x w.0 (omega arith) l1 hx w.1))) in
    record {
      found = is.found;
      most = omega (arith, is.most);
      sources_len = is.sources_len;
      levels_len = length-set s.levels t o ∙ is.levels_len;
      entering_len = length-set s.entering t r ∙ is.entering_len;
      groups_len = is.groups_len;
      room = omega (arith, is.room);
      seen_is = λ z h. elim (is.seen_is z h) [
        | inl d ↦ inl d
        | inr l ↦ let below : l.0 < s.depth = l.1 in elim (cases_lt l.0 t) [
          | inl lt ↦ inr (l.0, omega arith, at_before s.levels t o l.0 z lt l.2)
          | inr ge ↦ elim (cases_eq l.0 t) [
            | inl e ↦ inr (
              t,
              omega arith,
              at_place s.levels t o z lo ((owns z).1 (inl (subst (λ j. IsAt s.levels j z) e l.2))),
            )
            | inr ne ↦ let e : l.0 ≡ u = omega arith in
                inr (
                  t,
                  omega arith,
                  at_place s.levels t o z lo ((owns z).1 (inr (subst (λ j. IsAt s.levels j z) e l.2))),
                )
          ]
        ]
      ];
      done_seen = is.done_seen;
      level_seen = λ i z below h. elim (at_written s.levels t o i z lo (omega arith) h) [
        | inl old ↦ is.level_seen i z (omega arith) old.1
        | inr new ↦ elim ((owns z).0 new.1) [ inl a ↦ is.level_seen t z l0 a | inr b ↦ is.level_seen u z l1 b ]
      ];
      apart_done = λ i z below h d. elim (at_written s.levels t o i z lo (omega arith) h) [
        | inl old ↦ is.apart_done i z (omega arith) old.1 d
        | inr new ↦ elim ((owns z).0 new.1) [ inl a ↦ is.apart_done t z l0 a d | inr b ↦ is.apart_done u z l1 b d ]
      ];
      apart = λ i j z ij below hi hj. elim (at_written s.levels t o j z lo (omega arith) hj) [
        | inl old ↦ elim (at_written s.levels t o i z lo (omega arith) hi) [
          | inl old' ↦ is.apart i j z ij (omega arith) old'.1 old.1
          | inr new ↦ let a : i ≡ t = new.0 in let b : j < t = old.0 in omega arith
        ]
        | inr new ↦ let b : j ≡ t = new.0 in elim (at_written s.levels t o i z lo (omega arith) hi) [
          | inl old ↦ elim ((owns z).0 new.1) [
            | inl a ↦ is.apart i t z old.0 l0 old.1 a
            | inr b'
                ↦ is.apart i u z (omega arith) l1 old.1 b'
          ]
          | inr new' ↦ let a : i ≡ t = new'.0 in omega arith
        ]
      ];
      some = λ i below. elim (cases_lt i t) [
        | inl lt ↦ let h = is.some i (omega arith) in (h.0, at_before s.levels t o i h.0 lt h.1)
        | inr ge ↦ let e : t ≡ i = omega arith in let h = is.some t l0 in (
          h.0,
          subst (λ j. IsAt (slice_set s.levels t o) j h.0) e
              (at_place s.levels t o h.0 lo ((owns h.0).1 (inl h.1))),
        )
      ];
      down = λ i j x y ij below hx hy. elim (at_written s.levels t o j y lo (omega arith) hy) [
        | inl old ↦ elim (at_written s.levels t o i x lo (omega arith) hx) [
          | inl old' ↦ is.down i j x y ij (omega arith) old'.1 old.1
          | inr new ↦ let a : i ≡ t = new.0 in let b : j < t = old.0 in absurd (omega arith)
        ]
        | inr new ↦ elim (at_written s.levels t o i x lo (omega arith) hx) [
          | inl old ↦ elim ((owns y).0 new.1) [
            | inl a ↦ is.down i t x y (omega (arith, old.0)) l0 old.1 a
            | inr b ↦ is.down i u x y (omega (arith, old.0)) l1 old.1 b
          ]
          | inr new' ↦ elim ((owns x).0 new'.1) [
            | inl xa ↦ elim ((owns y).0 new.1) [
              | inl a ↦ is.down t t x y (omega arith) l0 xa a
              | inr b ↦ is.down t u x y (omega arith) l1 xa b
            ]
            | inr xb ↦ elim ((owns y).0 new.1) [
              | inl a ↦ back x y xb a
              | inr b ↦ is.down u u x y (omega arith) l1 xb b
            ]
          ]
        ]
      ];
      source_in = λ i x y below hx e. elim (at_written s.levels t o i x lo (omega arith) hx) [
        | inl old ↦ at_before s.entering t r i y old.0 (is.source_in i x y (omega arith) old.1 e)
        | inr new ↦ subst (λ j. IsAt (slice_set s.entering t r) j y) (sym new.0)
            (at_place s.entering t r y lr ((reaches y).1 (elim ((owns x).0 new.1) [
              | inl a ↦ inl (is.source_in t x y l0 a e)
              | inr b ↦ inr (is.source_in u x y l1 b e)
            ])))
      ];
      source_of = λ i y below h. elim (at_written s.entering t r i y lr (omega arith) h) [
        | inl old ↦ let w = is.source_of i y (omega arith) old.1 in (w.0, at_before s.levels t o i w.0 old.0 w.1, w.2)
        | inr new ↦ elim ((reaches y).0 new.1) [
          | inl a ↦ let w = is.source_of t y l0 a in (
            w.0,
            subst (λ j. IsAt (slice_set s.levels t o) j w.0) (sym new.0)
                (at_place s.levels t o w.0 lo ((owns w.0).1 (inl w.1))),
            w.2,
          )
          | inr b ↦ let w = is.source_of u y l1 b in (
            w.0,
            subst (λ j. IsAt (slice_set s.levels t o) j w.0) (sym new.0)
                (at_place s.levels t o w.0 lo ((owns w.0).1 (inr w.1))),
            w.2,
          )
        ]
      ];
      within = is.within;
    }

-- a zone with an edge into the last level leads to the zones of all levels
pub leads_to_all : (s : Search) (t k : ℕ) → IsSearch s → s.depth ≡ t + 1 → IsAt s.entering t k → (i x : ℕ) → i < s.depth
    → IsAt s.levels i x → Leads s.sources k x
leads_to_all s t k is top reached i x below h =
    let w = is.source_of t k (omega arith) reached in
    leads-trans (along stay w.2) (is.down i t x w.0 (omega arith) (omega arith) h w.1)

-- what is in a set and not outside
pub all_within : (r d o m n : ZoneSet) → ((z : ℕ) → HasZone m.bits z ↔ (HasZone r.bits z × ¬ HasZone d.bits z))
    → ((z : ℕ) → HasZone n.bits z ↔ (HasZone m.bits z × ¬ HasZone o.bits z)) → ((z : ℕ) → HasZone n.bits z → ⊥)
    → (z : ℕ) → HasZone r.bits z → HasZone d.bits z ⊎ HasZone o.bits z
all_within r d o m n first second none z h = elim (HasZone-cases d.bits z) [
  | inl a ↦ inl a
  | inr a ↦ elim (HasZone-cases o.bits z)
      [ inl b ↦ inr b | inr b ↦ absurd (none z ((second z).1 ((first z).1 (h, a), b))) ]
]

-- where no zone is fresh, a zone that is neither done nor of the last level is of a lower one
pub back_edge : (s : Search) (t : ℕ) (f m n : ZoneSet) (k : ℕ) → IsSearch s → s.depth ≡ t + 1
    → ((z : ℕ) → HasZone f.bits z ↔ (IsAt s.entering t z × ¬ HasZone s.seen.bits z)) → ((z : ℕ) → HasZone f.bits z → ⊥)
    → ((z : ℕ) → HasZone m.bits z ↔ (IsAt s.entering t z × ¬ HasZone s.done.bits z))
    → ((z : ℕ) → HasZone n.bits z ↔ (HasZone m.bits z × ¬ IsAt s.levels t z))
    → HasZone n.bits k → (z : ℕ) × IsAt s.entering t z × ((i : ℕ) × (i + 1 < s.depth) × IsAt s.levels i z)
back_edge s t f m n k is top fresh none first second there =
    let b = (second k).0 there in
    let a = (first k).0 b.0 in (
      k,
      a.0,
      elim (HasZone-cases s.seen.bits k) [
        | inl seen ↦ elim (is.seen_is k seen) [
          | inl d ↦ absurd (a.1 d)
          | inr l ↦ let below : l.0 < s.depth = l.1 in elim (cases_eq l.0 t) [
            | inl e ↦ absurd (b.1 (subst (λ j. IsAt s.levels j k) e l.2))
            | inr ne ↦ (l.0, omega arith, l.2)
          ]
        ]
        | inr new ↦ absurd (none k ((fresh k).1 (a.0, new)))
      ],
    )
