-- What one look does: the cursor that it raises, the wrapper that stands there, and the edge that it notes.
use Rattle.std.proofs.Common.{◌≡◌, ◌≢◌, ◌<◌, ◌≤◌, ◌+◌, ◌⊎◌, ◌↔◌, ℕ, zero, suc, inl, inr, Option, Some, None, IfSome}
use Rattle.std.proofs.Common.{List, length, replicate, get_or, set, slice_get, refl, sym, ap, subst, ◌∙◌, arith}
use Rattle.std.proofs.Common.{get_or-set_same, get_or-set_other}
use Rattle.std.proofs.Math.ListN.{length-replicate}
use Rattle.std.proofs.lemmas.List.{get_or-replicate, get_or_past}
use Rattle.std.specs.Int.{bit_at}
use Rattle.std.specs.Option.{option_map}
use Rattle.std.proofs.lemmas.Bool.{cases_lt, cases_eq}
use Rattle.std.proofs.lemmas.Option.{slice_get_within, get_or_from_slice_get}
use Rattle.gz_names.specs.Zones.{HasZone}
use Rattle.gz_names.specs.declared.numbers.Place.{Place}
use Rattle.gz_names.specs.declared.zone_sets.ZoneSet.{ZoneSet}
use Rattle.gz_names.proofs.Words.{HasZone-below}
use Rattle.wrappers.specs.WrapperMaps.{AreApart, list_of}
use Rattle.wrappers.specs.declared.wrapper_maps.WrapperKey.{WrapperKey}
use Rattle.heap_core.specs.Shape.{Shape, zone_of}
use Rattle.heap_core.specs.Heap.{HeapState}
use Rattle.zone_edges.specs.Groups.{Edge}
use Rattle.zone_edges.specs.Looks.{AreWrappers, IsEdgeFor, IsKey, IsLookedAt, IsWrapperIn, LeadsFrom, LooksAtNext}
use Rattle.zone_edges.specs.Looks.{cursor_of, left_below, wrapper_at}
use Rattle.zone_edges.specs.Noted.{Noted}
use Rattle.zone_edges.specs.Sets.{size}
use Rattle.zone_edges.proofs.Words.{size-more}

-- a set without one of its zones has fewer
pub fewer_zones : (s t k : ℕ) → ((z : ℕ) → HasZone s z ↔ (HasZone t z × (z ≢ k))) → HasZone t k → size 64 s < size 64 t
fewer_zones s t k is there =
    let more = size-more 64 s t k (omega arith) (λ z h. ((is z).0 h).0) (HasZone-below t k there)
    (λ h. ((is k).0 h).1 refl) there in
    omega (arith, more)

-- the entry at an index where a wrapper stands
pub record IsEntryAt (s : Shape) (zone index : ℕ) (p : Place) : Type 0 where
  pub entry : WrapperKey × Place
  pub found : slice_get (list_of s.wrappers zone) index ≡ Some entry
  pub place_is : entry.1 ≡ p

pub entry_at : (s : Shape) (zone index : ℕ) (p : Place) → wrapper_at s zone index ≡ Some p → IsEntryAt s zone index p
entry_at s zone index p stands = go (slice_get (list_of s.wrappers zone) index) refl stands
  where
    go : (found : Option (WrapperKey × Place)) → slice_get (list_of s.wrappers zone) index ≡ found
        → option_map (λ (entry : WrapperKey × Place). entry.1) found ≡ Some p → IsEntryAt s zone index p
    go None is e = absurd (cc e)
    go (Some entry) is e = record { entry = entry; found = is; place_is = cc e }

pub within_list : (s : Shape) (zone index : ℕ) (p : Place) → wrapper_at s zone index ≡ Some p
    → index < length (list_of s.wrappers zone)
within_list s zone index p stands = let e = entry_at s zone index p stands in
    slice_get_within (list_of s.wrappers zone) index e.entry e.found

-- what stands in a list is a wrapper of its zone
pub stands_in : (s : Shape) (zone index : ℕ) (p : Place) → AreWrappers s → AreApart s.wrappers.lists
    → wrapper_at s zone index ≡ Some p → IsWrapperIn s zone p
stands_in s zone index p are apart stands =
    let e = entry_at s zone index p stands in
    let entries = list_of s.wrappers zone in
    subst (IsWrapperIn s zone) e.place_is
    (are apart zone e.entry (
      index,
      slice_get_within entries index e.entry e.found,
      get_or_from_slice_get entries index e.entry e.entry e.found,
    ))

-- so it is of what stands there, if anything does
pub stands_if : (s : Shape) (zone index : ℕ) (o : Option Place) → AreWrappers s → AreApart s.wrappers.lists
    → wrapper_at s zone index ≡ o → IfSome o (IsWrapperIn s zone)
stands_if s zone index None are apart stands = tt
stands_if s zone index (Some p) are apart stands = stands_in s zone index p are apart stands

-- a wrapper leads along one edge at most
pub leads_along_one : (h : HeapState) (zones : ZoneSet) (p : Place) (a b x y : ℕ) → LeadsFrom h zones p a b
    → LeadsFrom h zones p x y → (x ≡ a) × (y ≡ b)
leads_along_one h zones p a b x y e f =
    let same : e.target ≡ f.target = cc (e.target_is, f.target_is) in
    (sym f.from ∙ e.from, sym f.to ∙ ap (zone_of h.shape) (sym same) ∙ e.to)

-- what is noted by a look at a wrapper: its edge, where it leads along one, and the reverse if it is a key
pub notes_its_edges : (h : HeapState) (zones : ZoneSet) (p : Place) (a b : ℕ) (old new : List ZoneSet)
    → LeadsFrom h zones p a b
    → ((x y : ℕ) → Edge new x y ↔ (Edge old x y
    ⊎ (((x ≡ a) × (y ≡ b)) ⊎ (IsKey h.shape p × (x ≡ b) × (y ≡ a)))))
    → (x y : ℕ) → Edge new x y ↔ (Edge old x y ⊎ IsEdgeFor h zones p x y)
notes_its_edges h zones p a b old new leads noted x y = (
  λ e. elim ((noted x y).0 e) [
    | inl before ↦ inl before
    | inr (inl ends) ↦ inr (inl (along x y ends.0 ends.1))
    | inr (inr (key, at_b, at_a)) ↦ inr (inr (key, along y x at_a at_b))
  ],
  λ e. (noted x y).1 (elim e [
    | inl before ↦ inl before
    | inr (inl l) ↦ inr (inl (leads_along_one h zones p a b x y leads l))
    | inr (inr (key, l)) ↦ (let ends = leads_along_one h zones p a b y x leads l in inr (inr (key, ends.1, ends.0)))
  ]),
)
  where
    along : (u v : ℕ) → u ≡ a → v ≡ b → LeadsFrom h zones p u v
    along u v e f =
        subst (λ w. LeadsFrom h zones p w v) (sym e) (subst (λ w. LeadsFrom h zones p a w) (sym f) leads)

pub notes_nothing : (h : HeapState) (zones : ZoneSet) (p : Place) (sources : List ZoneSet)
    → ((a b : ℕ) → LeadsFrom h zones p a b → ⊥)
    → (a b : ℕ) → Edge sources a b ↔ (Edge sources a b ⊎ IsEdgeFor h zones p a b)
notes_nothing h zones p sources none a b = (
  λ e. inl e,
  λ e. elim e [
    | inl before ↦ before
    | inr (inl l) ↦ absurd (none a b l)
    | inr (inr (key, l)) ↦ absurd (none b a l)
  ],
)

module _ (s : Shape) (old new : Noted) (zone : ℕ) (same : new.zones ≡ old.zones)
    (raised : cursor_of new zone ≡ cursor_of old zone + 1) (others : (z : ℕ) → z ≢ zone
    → cursor_of new z ≡ cursor_of old z) where
  -- the zones before the one whose cursor was raised
  left_before : (n : ℕ) → n ≤ zone → left_below s old n ≡ left_below s new n
  unfolding left_below
  left_before zero le = refl
  left_before (suc z) le =
      let below : left_below s old z ≡ left_below s new z = left_before z (omega arith) in
      let cursor : cursor_of new z ≡ cursor_of old z = others z (omega arith) in
      rw (same, cursor, below) refl

  -- and all zones
  left_after : (n : ℕ) → zone < n → HasZone old.zones.bits zone → cursor_of old zone < length (list_of s.wrappers zone)
      → left_below s old n ≡ left_below s new n + 1
  unfolding left_below HasZone
  left_after zero lt there room = absurd (omega arith)
  left_after (suc z) lt there room = elim (cases_eq z zone) [
    | inl e ↦
        let below : left_below s old z ≡ left_below s new z = left_before z (omega arith) in
        let bit : bit_at old.zones.bits z ≡ 1 = subst (λ k. bit_at old.zones.bits k ≡ 1) (sym e) there.1 in
        let up : cursor_of new z ≡ cursor_of old z + 1 =
        subst (λ k. cursor_of new k ≡ cursor_of old k + 1) (sym e) raised in
        let some : cursor_of old z < length (list_of s.wrappers z) =
        subst (λ k. cursor_of old k < length (list_of s.wrappers k)) (sym e) room in
        rw (same, bit, up, below) (omega arith)
    | inr ne ↦
        let below : left_below s old z ≡ left_below s new z + 1 = left_after z (omega arith) there room in
        let cursor : cursor_of new z ≡ cursor_of old z = others z ne in
        rw (same, cursor, below) (omega arith)
  ]

  -- which wrappers were looked at
  more_looked : (p q : Place) → wrapper_at s zone (cursor_of old zone) ≡ Some p → zone_of s p ≡ zone
      → IsLookedAt s new q → IsLookedAt s old q ⊎ (q ≡ p)
  more_looked p q next home l = elim (cases_eq (zone_of s q) zone) [
    | inl e ↦
        let before : l.index < cursor_of old zone + 1 =
        subst (λ k. l.index < k) raised (subst (λ z. l.index < cursor_of new z) e l.before) in
        elim (cases_lt l.index (cursor_of old zone)) [
          | inl lt ↦ inl (record {
            index = l.index;
            before = subst (λ z. l.index < cursor_of old z) (sym e) lt;
            stands = l.stands;
          })
          | inr ge ↦ (let same : l.index ≡ cursor_of old zone = omega arith in
              let at : wrapper_at s zone l.index ≡ Some q = subst (λ z. wrapper_at s z l.index ≡ Some q) e l.stands in
              let there : wrapper_at s zone l.index ≡ Some p = ap (wrapper_at s zone) same ∙ next in
              inr (cc (at, there)))
        ]
    | inr ne ↦ inl (record {
      index = l.index;
      before = subst (λ k. l.index < k) (others (zone_of s q) ne) l.before;
      stands = l.stands;
    })
  ]

  still_looked : (q : Place) → IsLookedAt s old q → IsLookedAt s new q
  still_looked q l = elim (cases_eq (zone_of s q) zone) [
    | inl e ↦ (let before : l.index < cursor_of old zone = subst (λ z. l.index < cursor_of old z) e l.before in
        record {
          index = l.index;
          before = subst (λ z. l.index < cursor_of new z) (sym e) (omega arith);
          stands = l.stands;
        })
    | inr ne ↦ record {
      index = l.index;
      before = subst (λ k. l.index < k) (sym (others (zone_of s q) ne)) l.before;
      stands = l.stands;
    }
  ]

  now_looked : (p : Place) → wrapper_at s zone (cursor_of old zone) ≡ Some p → zone_of s p ≡ zone → IsLookedAt s new p
  now_looked p next home = record {
    index = cursor_of old zone;
    before = subst (λ z. cursor_of old zone < cursor_of new z) (sym home) (omega arith);
    stands = subst (λ z. wrapper_at s z (cursor_of old zone) ≡ Some p) (sym home) next;
  }

-- a look at the wrapper at its zone's cursor
pub looks_at : (h : HeapState) (old new : Noted) (zone : ℕ) (p : Place) → length old.cursors ≡ 64
    → HasZone old.zones.bits zone → wrapper_at h.shape zone (cursor_of old zone) ≡ Some p → IsWrapperIn h.shape zone p
    → new.zones ≡ old.zones → new.cursors ≡ set old.cursors zone (cursor_of old zone + 1)
    → ((a b : ℕ) → Edge new.sources a b ↔ (Edge old.sources a b ⊎ IsEdgeFor h old.zones p a b))
    → LooksAtNext h old new
looks_at h old new zone p sized there next is same set_so edges =
    let below : zone < length old.cursors = omega (arith, HasZone-below old.zones.bits zone there) in
    let raised : cursor_of new zone ≡ cursor_of old zone + 1 = ap (λ (xs : List ℕ). get_or xs zone 0) set_so
    ∙ get_or-set_same old.cursors zone (cursor_of old zone + 1) 0 below in
    let others : (z : ℕ) → z ≢ zone → cursor_of new z ≡ cursor_of old z =
    λ z ne. ap (λ (xs : List ℕ). get_or xs z 0) set_so
    ∙ get_or-set_other old.cursors zone z (cursor_of old zone + 1) 0 ne in
    record {
      zone = zone;
      wrapper = p;
      has_zone = there;
      next = next;
      is_wrapper = is;
      raised = raised;
      others = others;
      looked = λ q. (
        more_looked h.shape old new zone same raised others p q next is.zone_is,
        λ l. elim l [
          | inl before ↦ still_looked h.shape old new zone same raised others q before
          | inr e ↦ subst (IsLookedAt h.shape new) (sym e)
              (now_looked h.shape old new zone same raised others p next is.zone_is)
        ],
      );
      edges = edges;
      left = left_after h.shape old new zone same raised others 64 (HasZone-below old.zones.bits zone there) there
          (within_list h.shape zone (cursor_of old zone) p next);
    }

-- where nothing was looked at
pub none_looked_at : (z : ℕ) → get_or (replicate {A = ℕ} 64 0) z 0 ≡ 0
none_looked_at z = elim (cases_lt z 64) [
  | inl lt ↦ get_or-replicate 64 z 0 0 lt
  | inr ge ↦ get_or_past (replicate 64 0) z 0 (omega (arith, length-replicate {A = ℕ} 64 0))
]
