-- Gray roots gathered one after another.
use Rattle.std.proofs.Common.{add-one, append-nil, eqb-true, not, sum_by, zero, suc, ◌*◌, ◌<◌, ◌≤◌, if◌then◌else◌, ◌≡◌}
use Rattle.std.proofs.Common.{◌⊎◌, ◌↔◌, ◌+◌, ◌++◌, ◌∷◌, ◌==◌, [], ℕ, Bool}
use Rattle.std.proofs.Common.{true, false, length, map, filter, List, Some, None, refl, sym, ap, subst, ◌∙◌, inl, inr}
use Rattle.std.proofs.Common.{arith, Contains, slice_get, Result, Ok, Err, OnOk}
use Rattle.std.proofs.lemmas.Bool.Decides.{eqb_tells}
use Rattle.std.proofs.lemmas.Bool.{cases_lt}
use Rattle.std.proofs.lemmas.List.{get_or_past, map-append, set_past}
use Rattle.std.specs.Int.{bit_at}
use Rattle.std.proofs.lemmas.List.Elements.{filter-append, Contains-push, Contains-push_cases, Contains-append_cases}
use Rattle.std.proofs.lemmas.List.Elements.{Contains-append_left, Contains-append_right}
use Rattle.gz_names.specs.Zones.{HasZone}
use Rattle.gz_names.specs.declared.numbers.Place.{Place}
use Rattle.gz_names.specs.declared.numbers.ZoneNo.{ZoneNo}
use Rattle.gz_names.specs.declared.zone_sets.ZoneSet.{ZoneSet}
use Rattle.gz_names.proofs.Words.{HasZone-below}
use Rattle.colour_defs.proofs.Lists.{contains_at, nothing_in_none}
use Rattle.arena_table.specs.Indexed.{in_zones}
use Rattle.roots.proofs.Buffering.{length-put_all, sum_by-put}
use Rattle.wrappers.proofs.Finding.{slice_get-read}
use Rattle.roots.specs.Buffers.{buffer_at, places_in, put_all, put_at}
use Rattle.wrappers.specs.WrapperMaps.{list_of}
use Rattle.cell_bits.specs.declared.bits.Colour.TheVariants as colour
use Rattle.heap_core.specs.Shape.{Shape, field_at, zone_of}
use Rattle.heap_core.specs.Heap.{HeapState, colour_of}
use Rattle.zone_edges.specs.Looks.{wrapper_at}
use Rattle.slice_driver.specs.GrayRoots.{Buffers, Gathers, IsFor, IsGrayAmong, IsGrayAt, IsGrayBefore, IsGrayOf}
use Rattle.slice_driver.specs.GrayRoots.{HasFewWrappers, IsGrayWrapper, IsInSlot, IsSlotBefore}
use Rattle.slice_driver.specs.ListedWrappers.{is_outside, listed_below}
use Rattle.slice_driver.specs.RootMarking.{IsNoSource}
use Rattle.slice_driver.proofs.beginning.MarkedRoots.{before_or_last, below_none}
use Rattle.slice_driver.proofs.abstraction.Named.{some_one}

pub gathers_none : (P : ℕ → Place → Type 0) (old : List (ZoneNo × Place)) → ((z : ℕ) (x : Place) → P z x → ⊥)
    → Gathers P old old
gathers_none P old none z x = ((λ c. inl c), λ o. elim o [ inl c ↦ c | inr w ↦ absurd (none z x w) ])

-- where a call answers Ok
pub on_ok : {T E P Q : Type 0} (result : Result T E) → (P → Q) → OnOk result P → OnOk result Q
on_ok (Ok x) f p = f p
on_ok (Err e) f p = tt

pub on_ok_both : {T E P Q R : Type 0} (result : Result T E) → (P → Q → R) → OnOk result P → OnOk result Q
    → OnOk result R
on_ok_both (Ok x) f p q = f p q
on_ok_both (Err e) f p q = tt

pub gathers_same : (P Q : ℕ → Place → Type 0) (old new : List (ZoneNo × Place)) → ((z : ℕ) (x : Place) → P z x ↔ Q z x)
    → Gathers P old new → Gathers Q old new
gathers_same P Q old new e g z x = (
  (λ c. elim ((g z x).0 c) [ inl was ↦ inl was | inr w ↦ inr ((e z x).0 w) ]),
  λ o. (g z x).1 (elim o [ inl was ↦ inl was | inr w ↦ inr ((e z x).1 w) ]),
)

pub gathers_then : (P Q : ℕ → Place → Type 0) (old mid new : List (ZoneNo × Place)) → Gathers P old mid
    → Gathers Q mid new → Gathers (λ z x. P z x ⊎ Q z x) old new
gathers_then P Q old mid new g k z x = (
  (λ c. elim ((k z x).0 c) [
    | inl m ↦ elim ((g z x).0 m) [ inl was ↦ inl was | inr w ↦ inr (inl w) ]
    | inr w ↦ inr (inr w)
  ]),
  λ o. (k z x).1 (elim o [
    | inl was ↦ inl ((g z x).1 (inl was))
    | inr (inl w) ↦ inl ((g z x).1 (inr w))
    | inr (inr w) ↦ inr w
  ]),
)

-- one place is put
places_in-cons : (z i : ℕ) (p : Place) (items : List (ZoneNo × Place))
    → places_in z ((i, p) ∷ items) ≡ (if i == z then p ∷ places_in z items else places_in z items)
places_in-cons z i p items = go (i == z) refl
  where
    go : (b : Bool) → (i == z) ≡ b
        → places_in z ((i, p) ∷ items) ≡ (if i == z then p ∷ places_in z items else places_in z items)
    go true e = rw e refl
    go false e = rw e refl

places_in-push : (z i : ℕ) (p : Place) (items : List (ZoneNo × Place))
    → places_in z (items ++ (i, p) ∷ []) ≡ places_in z items ++ places_in z ((i, p) ∷ [])
places_in-push z i p items =
    ap (map (λ (item : ZoneNo × Place). item.1))
    (filter-append (λ (item : ZoneNo × Place). item.0 == z) items ((i, p) ∷ []))
    ∙ map-append (λ (item : ZoneNo × Place). item.1) (filter (λ (item : ZoneNo × Place). item.0 == z) items)
    (filter (λ (item : ZoneNo × Place). item.0 == z) ((i, p) ∷ []))

pub gathers_push : (i : ℕ) (p : Place) (items : List (ZoneNo × Place))
    → Gathers (λ z x. (i ≡ z) × (x ≡ p)) items (items ++ (i, p) ∷ [])
gathers_push i p items z x = elim (eqb_tells i z) [
  | inl same ↦
      let now : places_in z (items ++ (i, p) ∷ []) ≡ places_in z items ++ p ∷ [] = places_in-push z i p items
      ∙ ap (λ ys. places_in z items ++ ys)
      (places_in-cons z i p [] ∙ ap (λ (t : Bool). if t then p ∷ [] else []) same.0) in (
        (λ c. elim (Contains-push_cases (places_in z items) p x (subst (λ ys. Contains ys x) now c))
            [ inl was ↦ inl was | inr e ↦ inr (same.1, sym e) ]),
        λ o. subst (λ ys. Contains ys x) (sym now) (elim o [
          | inl was ↦ Contains-append_left (places_in z items) (p ∷ []) x was
          | inr w ↦ subst (λ y. Contains (places_in z items ++ p ∷ []) y) (sym w.1)
              (Contains-push (places_in z items) p)
        ]),
      )
  | inr other ↦
      let now : places_in z (items ++ (i, p) ∷ []) ≡ places_in z items = places_in-push z i p items
      ∙ (ap (λ ys. places_in z items ++ ys)
      (places_in-cons z i p [] ∙ ap (λ (t : Bool). if t then p ∷ [] else []) other.0)
      ∙ append-nil (places_in z items)) in (
        (λ c. inl (subst (λ ys. Contains ys x) now c)),
        λ o. elim o [
          | inl was ↦ subst (λ ys. Contains ys x) (sym now) was
          | inr w ↦ absurd (other.1 w.0)
        ],
      )
]

-- a place is put with the zone of a cell, or that is none of these zones
pub gathers_for : (s : Shape) (zones : ZoneSet) (cell place : Place) (zone : ℕ) (items : List (ZoneNo × Place))
    → zone ≡ zone_of s cell → HasZone zones.bits zone
    → Gathers (IsFor s zones cell place) items (items ++ (zone, place) ∷ [])
gathers_for s zones cell place zone items is has =
    gathers_same (λ z x. (zone ≡ z) × (x ≡ place)) (IsFor s zones cell place) items (items ++ (zone, place) ∷ [])
    (λ z x. (
      (λ w. (subst (λ n. HasZone zones.bits n) w.0 has, sym is ∙ w.0, w.1)),
      λ v. (is ∙ v.1, v.2),
    )) (gathers_push zone place items)

pub gathers_out : (s : Shape) (zones : ZoneSet) (cell place : Place) (items : List (ZoneNo × Place))
    → (HasZone zones.bits (zone_of s cell) → ⊥) → Gathers (IsFor s zones cell place) items items
gathers_out s zones cell place items out =
    gathers_none (IsFor s zones cell place) items (λ z x w. out (subst (λ n. HasZone zones.bits n) (sym w.1) w.0))

-- gray slots, one after another
module _ (s : Shape) (zones : ZoneSet) where
  pub slot_step : (i : ℕ) (old mid new : List (ZoneNo × Place)) → Gathers (IsSlotBefore s zones i) old mid
      → Gathers (λ z x. (slice_get s.slots i ≡ Some (Some x)) × IsFor s zones x x z x) mid new
      → Gathers (IsSlotBefore s zones (i + 1)) old new
  slot_step i old mid new g k =
      gathers_same (λ z x. IsSlotBefore s zones i z x ⊎ ((slice_get s.slots i ≡ Some (Some x)) × IsFor s zones x x z x))
      (IsSlotBefore s zones (i + 1)) old new (λ z x. (
        (λ o. elim o [
          | inl b ↦ (b.0, omega (arith, b.1), b.2, b.3)
          | inr w ↦ (i, omega arith, w.0, w.1)
        ]),
        λ b. elim (before_or_last b.0 i b.1) [
          | inl less ↦ inl (b.0, less, b.2, b.3)
          | inr e ↦ inr (ap (slice_get s.slots) (sym e) ∙ b.2, b.3)
        ],
      )) (gathers_then (IsSlotBefore s zones i) (λ z x. (slice_get s.slots i ≡ Some (Some x)) × IsFor s zones x x z x)
      old
      mid new g k)

  pub slot_all : (n : ℕ) (old new : List (ZoneNo × Place)) → length s.slots ≡ n
      → Gathers (IsSlotBefore s zones n) old new → Gathers (IsInSlot s zones) old new
  slot_all n old new count g = gathers_same (IsSlotBefore s zones n) (IsInSlot s zones) old new (λ z x. (
    (λ b. (b.3.0, b.3.1, contains_at s.slots b.0 (Some x) b.2)),
    λ w. (
      w.2.0,
      omega (arith, w.2.1, count),
      slice_get-read s.slots w.2.0 (Some x) (Some x) w.2.1 w.2.2,
      (w.0, w.1, refl),
    ),
  )) g

-- what one slot holds, and what one wrapper leads to
pub slot_at : (s : Shape) (zones : ZoneSet) (i : ℕ) (p : Place) → slice_get s.slots i ≡ Some (Some p)
    → (old new : List (ZoneNo × Place)) → Gathers (IsFor s zones p p) old new
    → Gathers (λ z x. (slice_get s.slots i ≡ Some (Some x)) × IsFor s zones x x z x) old new
slot_at s zones i p at old new g =
    gathers_same (IsFor s zones p p) (λ z x. (slice_get s.slots i ≡ Some (Some x)) × IsFor s zones x x z x) old new
    (λ z x. (
      (λ w. (at ∙ ap (λ (y : Place). Some (Some y)) (sym w.2), (w.0, ap (zone_of s) w.2 ∙ w.1, refl))),
      λ v. (let is : x ≡ p = some_one x p (some_one (Some x) (Some p) (sym v.0 ∙ at)) in
          (v.1.0, ap (zone_of s) (sym is) ∙ v.1.1, is)),
    )) g

pub wrapper_gray : (h : HeapState) (zones : ZoneSet) (u y : Place) → colour_of h u ≡ colour.Gray
    → field_at h.shape u 0 ≡ Some y → (old new : List (ZoneNo × Place)) → Gathers (IsFor h.shape zones y u) old new
    → Gathers (IsGrayWrapper h zones u) old new
wrapper_gray h zones u y gray held old new g = gathers_same (IsFor h.shape zones y u) (IsGrayWrapper h zones u) old new
    (λ z x. (
      (λ w. (gray, y, held, w)),
      λ v. (let is : v.1 ≡ y = some_one v.1 y (sym v.2 ∙ held) in
          subst (λ (t : Place). IsFor h.shape zones t u z x) is v.3),
    )) g

pub gray_at : (h : HeapState) (zones : ZoneSet) (zone i : ℕ) (u : Place) → wrapper_at h.shape zone i ≡ Some u
    → zone_of h.shape u ≡ zone → (old new : List (ZoneNo × Place)) → Gathers (IsGrayWrapper h zones u) old new
    → Gathers (IsGrayAt h zones zone i) old new
gray_at h zones zone i u at in_zone old new g = gathers_same (IsGrayWrapper h zones u) (IsGrayAt h zones zone i) old new
    (λ z x. (
      (λ w. (let is : x ≡ u = w.3.2 in (
        w.3.0,
        w.1,
        record {
          stands = at ∙ ap (λ (v : Place). Some v) (sym is);
          zone_is = ap (zone_of h.shape) is ∙ in_zone;
          colour_is = ap (colour_of h) is ∙ w.0;
          target = ap (λ (v : Place). field_at h.shape v 0) is ∙ w.2;
        },
        w.3.1,
      ))),
      λ v. (let is : x ≡ u = some_one x u (sym v.2.stands ∙ at) in (
        ap (colour_of h) (sym is) ∙ v.2.colour_is,
        v.1,
        ap (λ (t : Place). field_at h.shape t 0) (sym is) ∙ v.2.target,
        (v.0, v.3, is),
      )),
    )) g

-- gray wrappers of a zone, one after another
module _ (h : HeapState) (zones : ZoneSet) (zone : ℕ) where
  pub gray_step : (i : ℕ) (old mid new : List (ZoneNo × Place)) → Gathers (IsGrayBefore h zones zone i) old mid
      → Gathers (IsGrayAt h zones zone i) mid new → Gathers (IsGrayBefore h zones zone (i + 1)) old new
  gray_step i old mid new g k = gathers_same (λ z x. IsGrayBefore h zones zone i z x ⊎ IsGrayAt h zones zone i z x)
      (IsGrayBefore h zones zone (i + 1)) old new (λ z x. (
        (λ o. elim o [
          | inl b ↦ (b.0, omega (arith, b.1), b.2)
          | inr w ↦ (i, omega arith, w)
        ]),
        λ b. elim (before_or_last b.0 i b.1) [
          | inl less ↦ inl (b.0, less, b.2)
          | inr e ↦ inr (subst (λ j. IsGrayAt h zones zone j z x) e b.2)
        ],
      )) (gathers_then (IsGrayBefore h zones zone i) (IsGrayAt h zones zone i) old mid new g k)

  pub gray_all : (n : ℕ) (old new : List (ZoneNo × Place)) → wrapper_at h.shape zone n ≡ None
      → Gathers (IsGrayBefore h zones zone n) old new → Gathers (IsGrayOf h zones zone) old new
  gray_all n old new none g = gathers_same (IsGrayBefore h zones zone n) (IsGrayOf h zones zone) old new (λ z x. (
    (λ b. (b.0, b.2)),
    λ w. (w.0, below_none h.shape zone n w.0 x none w.1.2.stands, w.1),
  )) g

-- the zones, one after another
module _ (h : HeapState) (zones : ZoneSet) where
  pub among_step : (i : ℕ) (old mid new : List (ZoneNo × Place)) → (HasZone zones.bits i → ⊥)
      → Gathers (IsGrayAmong h zones i) old mid → Gathers (IsGrayOf h zones i) mid new
      → Gathers (IsGrayAmong h zones (i + 1)) old new
  among_step i old mid new other g k = gathers_same (λ z x. IsGrayAmong h zones i z x ⊎ IsGrayOf h zones i z x)
      (IsGrayAmong h zones (i + 1)) old new (λ z x. (
        (λ o. elim o [
          | inl b ↦ (b.0, omega (arith, b.1), b.2, b.3)
          | inr w ↦ (i, omega arith, other, w)
        ]),
        λ b. elim (before_or_last b.0 i b.1) [
          | inl less ↦ inl (b.0, less, b.2, b.3)
          | inr e ↦ inr (subst (λ j. IsGrayOf h zones j z x) e b.3)
        ],
      )) (gathers_then (IsGrayAmong h zones i) (IsGrayOf h zones i) old mid new g k)

  none_from : (i z : ℕ) (x : Place) → IsNoSource h.shape zones i → (HasZone zones.bits i → ⊥) → IsGrayOf h zones i z x
      → ⊥
  none_from i z x (inl has) other of = other has
  none_from i z x (inr elsewhere) other of =
      elsewhere of.0 x of.1.1 of.1.2.stands of.1.2.target (subst (λ j. HasZone zones.bits j) (sym of.1.3) of.1.0)

  pub among_skip : (i : ℕ) (old new : List (ZoneNo × Place)) → IsNoSource h.shape zones i
      → Gathers (IsGrayAmong h zones i) old new → Gathers (IsGrayAmong h zones (i + 1)) old new
  among_skip i old new none g = gathers_same (IsGrayAmong h zones i) (IsGrayAmong h zones (i + 1)) old new (λ z x. (
    (λ b. (b.0, omega (arith, b.1), b.2, b.3)),
    λ b. elim (before_or_last b.0 i b.1) [
      | inl less ↦ (b.0, less, b.2, b.3)
      | inr e ↦ absurd (none_from i z x none (subst (λ j. HasZone zones.bits j → ⊥) e b.2)
          (subst (λ j. IsGrayOf h zones j z x) e b.3))
    ],
  )) g

-- how many wrappers the lists have, one zone after another
pub listed_more : (s : Shape) (test : ℕ → Bool) (i : ℕ) → listed_below s test i ≤ listed_below s test (i + 1)
unfolding listed_below
listed_more s test i = subst (λ n. listed_below s test i ≤ listed_below s test n) (sym (add-one i)) (omega arith)

pub listed_one : (s : Shape) (zones : ZoneSet) (i : ℕ) → i < 64 → (HasZone zones.bits i → ⊥)
    → listed_below s (is_outside zones) i + length (list_of s.wrappers i) ≡ listed_below s (is_outside zones) (i + 1)
unfolding listed_below HasZone
listed_one s zones i below none =
    let one : (if is_outside zones i then length (list_of s.wrappers i) else 0) ≡ length (list_of s.wrappers i) =
    ap (λ (b : Bool). if not b then length (list_of s.wrappers i) else 0) (off (in_zones zones.bits i) refl) in
    let next = ap (listed_below s (is_outside zones)) (add-one i) in
    omega (arith, one, next)
  where
    off : (b : Bool) → in_zones zones.bits i ≡ b → b ≡ false
    off true e = absurd (none (below, eqb-true (bit_at zones.bits i) 1 e))
    off false e = refl

-- no zone has more than this number
pub listed_most : (s : Shape) (test : ℕ → Bool) → HasFewWrappers s → (n : ℕ)
    → listed_below s test n ≤ 274877906944 * n
unfolding listed_below
listed_most s test few zero = omega arith
listed_most s test few (suc z) =
    let rest = listed_most s test few z in
    let here = go (test z) (few z) in
    omega (arith, rest, here)
  where
    go : (b : Bool) → length (list_of s.wrappers z) ≤ 274877906944
        → (if b then length (list_of s.wrappers z) else 0) ≤ 274877906944
    go true most = most
    go false most = omega arith

-- as many places are buffered, at most, as were put
put_most : (ls : List (List Place)) (items : List (ZoneNo × Place))
    → sum_by length (put_all ls items) ≤ sum_by length ls + length items
put_most ls [] = omega arith
put_most ls (item ∷ items) =
    let rest = put_most (put_at ls item.0 item.1) items in
    let one = go (cases_lt item.0 (length ls)) in
    omega (arith, rest, one)
  where
    go : (item.0 < length ls) ⊎ (length ls ≤ item.0) → sum_by length (put_at ls item.0 item.1) ≤ sum_by length ls + 1
    go (inl lt) = (let more = sum_by-put ls item.0 item.1 lt in omega (arith, more))
    go (inr ge) = (let same = ap (λ (xs : List (List Place)). sum_by length xs)
        (set_past ls item.0 (buffer_at ls item.0 ++ item.1 ∷ []) ge) in omega (arith, same))

-- what was gathered is buffered
past_end : (xs : List (List Place)) (z : ℕ) → length xs ≡ 64 → 64 ≤ z → buffer_at xs z ≡ []
past_end xs z count ge = get_or_past xs z [] (omega arith)

module _ (h k : HeapState) (zones : ZoneSet) (slots wrappers : List (ZoneNo × Place))
    (is : k ≡ record h { buffers = put_all (put_all h.buffers slots) wrappers }) (at : (z : ℕ) → z < 64
    → buffer_at k.buffers z ≡ buffer_at h.buffers z ++ (places_in z slots ++ places_in z wrappers))
    (count : length k.buffers ≡ 64) (of_slots : Gathers (IsInSlot h.shape zones) [] slots)
    (of_wrappers : Gathers (IsGrayAmong h zones (length h.shape.states)) [] wrappers) (few_slots : length slots ≤ 64)
    (few_wrappers : length wrappers ≤ listed_below h.shape (is_outside zones) (length h.shape.states)) where
  buffers_is : k.buffers ≡ put_all (put_all h.buffers slots) wrappers
  buffers_is = ap (λ (x : HeapState). x.buffers) is

  count_was : length h.buffers ≡ 64
  count_was = sym (length-put_all (put_all h.buffers slots) wrappers ∙ length-put_all h.buffers slots)
      ∙ (sym (ap (λ (xs : List (List Place)). length xs) buffers_is) ∙ count)

  from_slots : (z : ℕ) (x : Place) → Contains (places_in z slots) x ↔ IsInSlot h.shape zones z x
  from_slots z x = (
    (λ c. elim ((of_slots z x).0 c) [ inl none ↦ absurd (nothing_in_none x none) | inr s ↦ s ]),
    λ s. (of_slots z x).1 (inr s),
  )

  from_wrappers : (z : ℕ) (x : Place) → Contains (places_in z wrappers) x
      ↔ IsGrayAmong h zones (length h.shape.states) z x
  from_wrappers z x = (
    (λ c. elim ((of_wrappers z x).0 c) [ inl none ↦ absurd (nothing_in_none x none) | inr s ↦ s ]),
    λ s. (of_wrappers z x).1 (inr s),
  )

  within_limit : (z : ℕ) (x : Place) → z < 64 → Contains (buffer_at k.buffers z) x
      ↔ (Contains (buffer_at h.buffers z) x
      ⊎ (IsInSlot h.shape zones z x ⊎ IsGrayAmong h zones (length h.shape.states) z x))
  within_limit z x lt = (
    (λ c. elim (Contains-append_cases (buffer_at h.buffers z) (places_in z slots ++ places_in z wrappers) x
        (subst (λ ys. Contains ys x) (at z lt) c)) [
          | inl was ↦ inl was
          | inr new ↦ inr (elim (Contains-append_cases (places_in z slots) (places_in z wrappers) x new)
              [ inl s ↦ inl ((from_slots z x).0 s) | inr t ↦ inr ((from_wrappers z x).0 t) ])
        ]),
    λ o. subst (λ ys. Contains ys x) (sym (at z lt)) (elim o [
      | inl was ↦ Contains-append_left (buffer_at h.buffers z) (places_in z slots ++ places_in z wrappers) x was
      | inr (inl s) ↦ Contains-append_right (buffer_at h.buffers z) (places_in z slots ++ places_in z wrappers) x
          (Contains-append_left (places_in z slots) (places_in z wrappers) x ((from_slots z x).1 s))
      | inr (inr t) ↦ Contains-append_right (buffer_at h.buffers z) (places_in z slots ++ places_in z wrappers) x
          (Contains-append_right (places_in z slots) (places_in z wrappers) x ((from_wrappers z x).1 t))
    ]),
  )

  past_limit : (z : ℕ) (x : Place) → 64 ≤ z → Contains (buffer_at k.buffers z) x
      ↔ (Contains (buffer_at h.buffers z) x
      ⊎ (IsInSlot h.shape zones z x ⊎ IsGrayAmong h zones (length h.shape.states) z x))
  past_limit z x ge = (
    (λ c. absurd (nothing_in_none x (subst (λ ys. Contains ys x) (past_end k.buffers z count ge) c))),
    λ o. absurd (elim o [
      | inl was ↦ nothing_in_none x (subst (λ ys. Contains ys x) (past_end h.buffers z count_was ge) was)
      | inr (inl s) ↦ (let below = HasZone-below zones.bits z s.0 in omega (arith, ge))
      | inr (inr t) ↦ (let below = HasZone-below zones.bits z t.3.1.0 in omega (arith, ge))
    ]),
  )

  pub buffers_all : Buffers h zones k
  buffers_all = record {
    rest = is ∙ ap (λ (xs : List (List Place)). record h { buffers = xs }) (sym buffers_is);
    roots = λ z x. elim (cases_lt z 64) [ inl lt ↦ within_limit z x lt | inr ge ↦ past_limit z x ge ];
    few = (let first = put_most h.buffers slots in let then_ = put_most (put_all h.buffers slots) wrappers in
        let same = ap (λ (xs : List (List Place)). sum_by length xs) buffers_is in
        omega (arith, first, then_, same, few_slots, few_wrappers));
  }
