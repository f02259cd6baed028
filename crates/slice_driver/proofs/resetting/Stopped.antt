-- Some zones are stopped: their cells are black, and no zone is in a collection.
use Rattle.std.proofs.Common.{◌≡◌, ◌⊎◌, ◌<◌, ◌≤◌, ◌+◌, ◌==◌, ◌%◌, ◌/◌, ◌^◌, ◌++◌, ◌∷◌, ℕ, zero, suc, Bool, true, false}
use Rattle.std.proofs.Common.{List}
use Rattle.std.proofs.Common.{[], Contains, Option, Some, None, IsSome, is_some, length, if◌then◌else◌, get_or}
use Rattle.std.proofs.Common.{slice_get}
use Rattle.std.proofs.Common.{count_by, inl, inr, refl, sym, ap, subst, ◌∙◌, arith}
use Rattle.std.specs.Int.{bit_at}
use Rattle.std.proofs.lemmas.Bool.{cases_eq}
use Rattle.std.proofs.lemmas.List.Elements.{Contains-append_cases, Contains-append_left, Contains-append_right}
use Rattle.std.proofs.lemmas.List.FromFn.{get_or-map-range_with_len, length-map-range_with_len}
use Rattle.std.proofs.lemmas.Nat.Bits.{bit_at-suc, bit_at_lowest}
use Rattle.gz_names.specs.Zones.{HasZone}
use Rattle.gz_names.specs.declared.numbers.Place.{Place}
use Rattle.gz_names.specs.declared.zone_sets.ZoneSet.{ZoneSet}
use Rattle.zones.specs.declared.states.State.TheVariants as state
use Rattle.cell_bits.specs.declared.bits.Colour.{Colour}
use Rattle.cell_bits.specs.declared.bits.Colour.TheVariants as colour
use Rattle.arena_table.specs.Cells.{CellState}
use Rattle.arena_table.specs.Delayed.{places_of}
use Rattle.arena_table.specs.Slots.{alloc_word_of, at_bits, bit_of, cell_in}
use Rattle.arena_table.specs.Table.{is_place}
use Rattle.arena_table.proofs.DelayedCells.{at_bits-contains}
use Rattle.arena_table.proofs.Placing.{bit_at-alloc_word}
use Rattle.mark_stack.specs.Stack.{Piles, no_places}
use Rattle.heap_core.specs.Shape.{ArenaShape, HasEdge, IsDelegate, IsPresent, Shape, cell_in_arena, cell_of, field_in}
use Rattle.heap_core.specs.Shape.{is_marking, is_marking_state, is_owned_in, out_in, out_of, present_in, state_in}
use Rattle.heap_core.specs.Shape.{zone_in, zone_of}
use Rattle.heap_core.specs.Heap.{HeapState, colour_of}
use Rattle.barriers.specs.Colours.{IsBlack, IsSeen}
use Rattle.barriers.specs.Invariant.{ColourInvariant, InvariantWhile, PileInvariant, ShapeInvariant}
use Rattle.barriers.specs.Reached.{HasEntry}
use Rattle.barriers.specs.Scans.{AreScannedOnce, black_turns, gray_turns}
use Rattle.barriers.specs.WeakPoint.{WeakPoint, left_of}
use Rattle.weak_maps.specs.WeakMaps.{value_of as entry_of}
use Rattle.colour_defs.proofs.Lists.{contains_cases, nothing_in_none}
use Rattle.slice_driver.specs.Resets.{cells_of, places_in}
use Rattle.slice_driver.proofs.abstraction.Waits.{none_in_it}
use Rattle.slice_driver.proofs.clearing.Clearing.{owned_by}
use Rattle.slice_driver.proofs.clearing.ClearedArenas.{owned_has}
use Rattle.slice_driver.proofs.taking_in.Runs.{has_zone_or_not}

-- what is picked stands at a bit
at_bits-from : {X : Type 0} (w : ℕ) (xs : List X) (x d : X) → Contains (at_bits w xs) x → (t : ℕ) × (t < length xs)
    × (bit_at w t ≡ 1) × (get_or xs t d ≡ x)
at_bits-from w [] x d has = absurd (nothing_in_none x has)
at_bits-from {X} w (y ∷ xs) x d has = go (λ later. at_bits-from (w / 2) xs x d later)
  where
    go : (Contains (at_bits (w / 2) xs) x → (t : ℕ) × (t < length xs) × (bit_at (w / 2) t ≡ 1) × (get_or xs t d ≡ x))
        → (t : ℕ) × (t < length (y ∷ xs)) × (bit_at w t ≡ 1) × (get_or (y ∷ xs) t d ≡ x)
    go rest = elim (cases_eq (w % 2) 1) [
      | inl one ↦ elim (contains_cases y (at_bits (w / 2) xs) x
          (subst (λ n. Contains (if n == 1 then y ∷ at_bits (w / 2) xs else at_bits (w / 2) xs) x) one has)) [
            | inl is ↦ (0, omega arith, bit_at_lowest w ∙ one, is)
            | inr later ↦ (let r = rest later in (suc r.0, omega (arith, r.1), bit_at-suc w r.0 ∙ r.2, r.3))
          ]
      | inr other ↦
          let low : w % 2 ≡ 0 = omega (arith, other) in
          let r = rest (subst (λ n. Contains (if n == 1 then y ∷ at_bits (w / 2) xs else at_bits (w / 2) xs) x) low
          has) in
          (suc r.0, omega (arith, r.1), bit_at-suc w r.0 ∙ r.2, r.3)
    ]

place_at : (n i : ℕ) → i < 64 → get_or (places_of n) i (n, 0) ≡ (n, i)
place_at n i lt = get_or-map-range_with_len {X = Place} (λ (slot : ℕ). (n, slot)) 0 64 i i (n, 0) lt (omega arith)

places_long : (n : ℕ) → length (places_of n) ≡ 64
places_long n = length-map-range_with_len {X = Place} (λ (slot : ℕ). (n, slot)) 0 64

-- a cell that stands in an arena of these zones is among theirs
pub places_have : (zones n : ℕ) (arenas : List ArenaShape) (a i : ℕ) → i < 64
    → is_owned_in zones (slice_get arenas a) ≡ true → (x : ArenaShape) → slice_get arenas a ≡ Some x
    → IsSome (cell_in x.slots i) → Contains (places_in zones n arenas) (n + a, i)
places_have zones n [] a i lt owned x at there = absurd (cc at)
places_have zones n (y ∷ ys) zero i lt owned x at there =
    let same : n ≡ n + 0 = omega arith in
    let long = places_long n in
    let is : y ≡ x = some_is y x at in
    let bit : bit_at (alloc_word_of y.slots) i ≡ 1 = bit_at-alloc_word y.slots i
    ∙ ap bit_of (ap (λ (z : ArenaShape). is_some (cell_in z.slots i)) is ∙ there) in
    let has : Contains (at_bits (alloc_word_of y.slots) (places_of n)) (n, i) =
    subst (λ (p : Place). Contains (at_bits (alloc_word_of y.slots) (places_of n)) p) (place_at n i lt)
    (at_bits-contains (alloc_word_of y.slots) i (places_of n) (n, 0) (omega (arith, lt, long)) bit) in
    Contains-append_left (if is_owned_in zones (Some y) then cells_of n (Some y) else [])
    (places_in zones (suc n) ys) (n + 0, i)
    (subst (λ (b : Bool). Contains {X = Place} (if b then cells_of n (Some y) else []) (n + 0, i)) (sym owned)
    (subst (λ (m : ℕ). Contains {X = Place} (cells_of n (Some y)) (m, i)) same has))
  where
    some_is : (p q : ArenaShape) → Some p ≡ Some q → p ≡ q
    some_is p q e = cc e
places_have zones n (y ∷ ys) (suc a) i lt owned x at there =
    let number : suc n + a ≡ n + suc a = omega arith in
    Contains-append_right (if is_owned_in zones (Some y) then cells_of n (Some y) else [])
    (places_in zones (suc n) ys) (n + suc a, i)
    (subst (λ (m : ℕ). Contains {X = Place} (places_in zones (suc n) ys) (m, i)) number
    (places_have zones (suc n) ys a i lt owned x at there))

-- and no other is
pub places_are : (zones n : ℕ) (arenas : List ArenaShape) (p : Place) → Contains (places_in zones n arenas) p
    → (a : ℕ) × (x : ArenaShape) × (p.0 ≡ n + a) × (slice_get arenas a ≡ Some x)
    × (is_owned_in zones (Some x) ≡ true) × IsSome (cell_in x.slots p.1)
places_are zones n [] p has = absurd (nothing_in_none p has)
places_are zones n (y ∷ ys) p has =
    elim (Contains-append_cases (if is_owned_in zones (Some y) then cells_of n (Some y) else [])
    (places_in zones (suc n) ys) p has) [
      | inl first ↦ here (is_owned_in zones (Some y)) refl first
      | inr later ↦ (let r = places_are zones (suc n) ys p later in
          (suc r.0, r.1, omega (arith, r.2), r.3, r.4, r.5))
    ]
  where
    here : (b : Bool) → is_owned_in zones (Some y) ≡ b
        → Contains {X = Place} (if b then cells_of n (Some y) else []) p
        → (a : ℕ) × (x : ArenaShape) × (p.0 ≡ n + a) × (slice_get (y ∷ ys) a ≡ Some x)
        × (is_owned_in zones (Some x) ≡ true) × IsSome (cell_in x.slots p.1)
    here false e has = absurd (nothing_in_none p has)
    here true e has =
        let r = at_bits-from (alloc_word_of y.slots) (places_of n) p (n, 0) has in
        let long = places_long n in
        let is : p ≡ (n, r.0) = sym r.3 ∙ place_at n r.0 (omega (arith, r.1, long)) in
        let none_more : n ≡ n + 0 = omega arith in
        let set : is_some (cell_in y.slots r.0) ≡ true =
        by (is_some (cell_in y.slots r.0)) (sym (bit_at-alloc_word y.slots r.0) ∙ r.2) in (
          0,
          y,
          ap (λ (q : Place). q.0) is ∙ none_more,
          refl,
          e,
          ap (λ (q : Place). is_some (cell_in y.slots q.1)) is ∙ set,
        )
      where
        by : (b : Bool) → bit_of b ≡ 1 → b ≡ true
        by true e = refl
        by false e = absurd (cc e)

-- what a heap is before these zones are stopped: no arena is out, and outside of them all is as it is where no zone is
-- in a collection
pub record MayStop (h : HeapState) (zones : ZoneSet) : Type 0 where
  pub small : zones.bits < 2 ^ 64
  pub shape : ShapeInvariant h.shape
  pub sized : length h.colours ≡ length h.shape.arenas
  pub whole : (p : Place) → IsPresent h.shape p → p.1 < 64
  pub none_out : (a : ℕ) → out_of h.shape a ≡ None
  pub regs_held : (x : Place) → Contains h.shape.regs (Some x) → IsPresent h.shape x
  pub seen_present : (x : Place) → IsSeen h x → IsPresent h.shape x
  pub seen : (x : Place) → (HasZone zones.bits (zone_of h.shape x) → ⊥) → IsPresent h.shape x → IsSeen h x
  pub regs_black : (x : Place) → (HasZone zones.bits (zone_of h.shape x) → ⊥) → Contains h.shape.regs (Some x)
      → IsBlack h x
  pub closed : (x y : Place) → (HasZone zones.bits (zone_of h.shape x) → ⊥)
      → (HasZone zones.bits (zone_of h.shape y) → ⊥) → IsBlack h x → HasEdge h.shape x y → IsBlack h y
  pub weak_closed : (m k v : Place) → (HasZone zones.bits (zone_of h.shape v) → ⊥) → HasEntry h.shape m k v
      → IsBlack h m → IsBlack h k → IsBlack h v
  pub key_closed : (m k v d : Place) → (HasZone zones.bits (zone_of h.shape k) → ⊥)
      → (HasZone zones.bits (zone_of h.shape d) → ⊥) → HasEntry h.shape m k v → IsDelegate h.shape k d → IsBlack h m
      → IsBlack h d → IsBlack h k

-- and after it
pub record IsStopped (h : HeapState) (zones : ZoneSet) (k : HeapState) : Type 0 where
  pub shape_is : k.shape ≡ record h.shape { states = k.shape.states }
  pub count : length k.shape.states ≡ length h.shape.states
  pub states : (z : ℕ) → state_in k.shape z ≡ state.NoGC
  pub delayed : k.delayed ≡ no_places
  pub sized : length k.colours ≡ length h.colours
  pub black : (x : Place) → HasZone zones.bits (zone_of h.shape x) → IsPresent h.shape x → IsBlack k x
  pub seen : (x : Place) → HasZone zones.bits (zone_of h.shape x) → IsSeen k x → IsPresent h.shape x ⊎ IsSeen h x
  pub others : (x : Place) → (HasZone zones.bits (zone_of h.shape x) → ⊥) → colour_of k x ≡ colour_of h x

edge_from : (s : Shape) (x y : Place) → HasEdge s x y → IsPresent s x
edge_from s x y e = go (cell_of s x) refl e.2
  where
    go : (o : Option CellState) → cell_of s x ≡ o → field_in o e.0 ≡ Some y → IsPresent s x
    go None at f = absurd (cc f)
    go (Some c) at f = ap is_some at

module _ (h : HeapState) (zones : ZoneSet) (k : HeapState) (may : MayStop h zones) (did : IsStopped h zones k) where
  abbrev stopped : List Place
  stopped = places_in zones.bits 0 k.shape.arenas

  abbrev IsOut : Place → Type 0
  IsOut x = HasZone zones.bits (zone_of h.shape x) → ⊥

  arenas_are : k.shape.arenas ≡ h.shape.arenas
  arenas_are = ap (λ (s : Shape). s.arenas) did.shape_is

  in_or_out : (x : Place) → HasZone zones.bits (zone_of h.shape x) ⊎ IsOut x
  in_or_out x = has_zone_or_not zones.bits (zone_of h.shape x)

  -- the cells of these zones are those that are followed
  pub stopped_has : (x : Place) → HasZone zones.bits (zone_of h.shape x) → IsPresent h.shape x → Contains stopped x
  stopped_has x has there =
      subst (λ xs. Contains (places_in zones.bits 0 xs) x) (sym arenas_are)
      (go (slice_get h.shape.arenas x.0) refl (may.none_out x.0) there)
    where
      go : (o : Option ArenaShape) → slice_get h.shape.arenas x.0 ≡ o → out_of h.shape x.0 ≡ None
          → IsSome (cell_in_arena o x.1) → Contains (places_in zones.bits 0 h.shape.arenas) x
      go None at out there = absurd (cc there)
      go (Some a) at out there =
          let none : a.out ≡ None = sym (ap out_in at) ∙ out in
          let stands : IsSome (cell_in a.slots x.1) =
          sym (ap (λ o. is_some (present_in o a.slots x.1)) none) ∙ there in
          let number : 0 + x.0 ≡ x.0 = omega arith in
          subst (λ (m : ℕ). Contains {X = Place} (places_in zones.bits 0 h.shape.arenas) (m, x.1)) number
          (places_have zones.bits 0 h.shape.arenas x.0 x.1
          (may.whole x (ap (λ o. is_some (cell_in_arena o x.1)) at ∙ there))
          (owned_by zones (slice_get h.shape.arenas x.0) (ap is_some at) has) a at stands)

  pub stopped_in : (x : Place) → Contains stopped x → HasZone zones.bits (zone_of h.shape x) × IsPresent h.shape x
  stopped_in x has =
      let r = places_are zones.bits 0 h.shape.arenas x
      (subst (λ xs. Contains (places_in zones.bits 0 xs) x) arenas_are has) in
      let number : x.0 ≡ r.0 = omega (arith, r.2) in
      let at : slice_get h.shape.arenas x.0 ≡ Some r.1 = ap (slice_get h.shape.arenas) number ∙ r.3 in
      let none : r.1.out ≡ None = sym (ap out_in at) ∙ may.none_out x.0 in (
        subst (λ o. HasZone zones.bits (zone_in o)) (sym at) (owned_has zones may.small (Some r.1) r.4),
        ap (λ o. is_some (cell_in_arena o x.1)) at
            ∙ (ap (λ o. is_some (present_in o r.1.slots x.1)) none ∙ r.5),
      )

  pub outside : (x : Place) → is_marking k.shape x ≡ false
  outside x = ap is_marking_state (did.states (zone_of k.shape x))

  present_on : (x : Place) → IsPresent h.shape x → IsPresent k.shape x
  present_on x there = subst (λ (s : Shape). IsPresent s x) (sym did.shape_is) there

  present_was : (x : Place) → IsPresent k.shape x → IsPresent h.shape x
  present_was x there = subst (λ (s : Shape). IsPresent s x) did.shape_is there

  edge_was : (x y : Place) → HasEdge k.shape x y → HasEdge h.shape x y
  edge_was x y e = subst (λ (s : Shape). HasEdge s x y) did.shape_is e

  entry_was : (m q v : Place) → HasEntry k.shape m q v → HasEntry h.shape m q v
  entry_was m q v e = ap (λ (s : Shape). entry_of s.weak m q) (sym did.shape_is) ∙ e

  delegate_was : (q d : Place) → IsDelegate k.shape q d → IsDelegate h.shape q d
  delegate_was q d is = subst (λ (s : Shape). IsDelegate s q d) did.shape_is is

  zone_like : (x y : Place) → zone_of h.shape x ≡ zone_of h.shape y → IsOut y → IsOut x
  zone_like x y same out has = out (subst (λ z. HasZone zones.bits z) same has)

  pub shape_stopped : ShapeInvariant k.shape
  shape_stopped = subst (λ (s : Shape). ShapeInvariant s) (sym did.shape_is) (record {
    made = λ x there. subst (λ n. zone_of h.shape x < n) (sym did.count) (may.shape.made x there);
    at_home = may.shape.at_home;
    targets = may.shape.targets;
    across = may.shape.across;
    entries = may.shape.entries;
    one_zone = may.shape.one_zone;
    delegates = may.shape.delegates;
    kept = λ x m. may.none_out x.0;
  })

  pub colours_stopped : ColourInvariant k
  colours_stopped = record {
    shape = shape_stopped;
    sized = did.sized ∙ (may.sized ∙ ap (λ (xs : List ArenaShape). length xs) (sym arenas_are));
    seen_present = λ x s. present_on x (elim (in_or_out x) [
      | inl has ↦ elim (did.seen x has s) [ inl there ↦ there | inr was ↦ may.seen_present x was ]
      | inr out ↦ may.seen_present x
          (elim s [ inl g ↦ inl (sym (did.others x out) ∙ g) | inr b ↦ inr (sym (did.others x out) ∙ b) ])
    ]);
    no_white = λ x there m. elim (in_or_out x) [
      | inl has ↦ inr (did.black x has (present_was x there))
      | inr out ↦ elim (may.seen x out (present_was x there)) [
        | inl g ↦ inl (did.others x out ∙ g)
        | inr b ↦ inr (did.others x out ∙ b)
      ]
    ];
    no_gray = λ x st g. (let none = outside x in let on = ap is_marking_state st in cc (none, on));
    regs_black = λ x c. (let r = subst (λ (s : Shape). Contains s.regs (Some x)) did.shape_is c in elim (in_or_out x) [
      | inl has ↦ did.black x has (may.regs_held x r)
      | inr out ↦ did.others x out ∙ may.regs_black x out r
    ]);
  }

  pub invariant_stopped : InvariantWhile (stopped ++ []) k no_places
  invariant_stopped = record {
    colours = colours_stopped;
    piles = record {
      black = λ x c. absurd (nothing_in_none x c);
      wake = λ x c. absurd (nothing_in_none x c);
      gray = λ x c. absurd (nothing_in_none x c);
    };
    closed = λ x y b e. (let was = edge_was x y e in elim (in_or_out x) [
      | inl has ↦ inr (inr (inr (to_follow x has (edge_from h.shape x y was))))
      | inr out ↦ elim (in_or_out y) [
        | inl has ↦ inl (did.black y has (may.shape.targets x y was))
        | inr off ↦ inl (did.others y off ∙ may.closed x y out off (sym (did.others x out) ∙ b) was)
      ]
    ]);
    weak_closed = λ m q v e bm bq off. (let was = entry_was m q v e in elim (in_or_out v) [
      | inl has ↦ inl (did.black v has (may.shape.entries m q v was).2)
      | inr out ↦
          let same = may.shape.one_zone m q v was in
          inl (did.others v out ∙ may.weak_closed m q v out was
          (sym (did.others m (zone_like m v same.0 out)) ∙ bm) (sym (did.others q (zone_like q v same.1 out)) ∙ bq))
    ]);
    key_closed = λ m q v d e is bm bd. (
        let was = entry_was m q v e in
        let delegate = delegate_was q d is in
        let held = may.shape.entries m q v was in
        elim (in_or_out q) [
          | inl has ↦ inl (did.black q has held.1)
          | inr out ↦ elim (in_or_out d) [
            | inl has ↦ inr (inr (inl (inr (inr (to_follow d has
                (may.shape.targets q d (0, omega arith, delegate.1)))))))
            | inr off ↦
                let same = may.shape.one_zone m q v was in
                inl (did.others q out ∙ may.key_closed m q v d out off was delegate
                (sym (did.others m (zone_like m q (same.0 ∙ sym same.1) out)) ∙ bm) (sym (did.others d off) ∙ bd))
          ]
        ]);
  }
    where
      to_follow : (x : Place) → HasZone zones.bits (zone_of h.shape x) → IsPresent h.shape x
          → Contains (stopped ++ []) x
      to_follow x has there = Contains-append_left stopped [] x (stopped_has x has there)

  -- black is what was so outside, and what is there
  pub black_stopped : (x : Place) → IsBlack k x
      → ((IsOut x × IsBlack h x) ⊎ (HasZone zones.bits (zone_of h.shape x) × IsPresent h.shape x))
  black_stopped x b = elim (in_or_out x) [
    | inl has ↦ inr (has, elim (did.seen x has (inr b)) [ inl there ↦ there | inr was ↦ may.seen_present x was ])
    | inr out ↦ inl (out, sym (did.others x out) ∙ b)
  ]

-- where no zone is marking, the weak point holds
pub none_weak : (h : HeapState) (p : Piles) → ((z : ℕ) → state_in h.shape z ≡ state.NoGC) → WeakPoint h p (left_of h)
none_weak h p states = record {
  black = λ m q v e bm bq on.
      absurd (let none = ap is_marking_state (states (zone_of h.shape v)) in cc (none, on));
  gray = λ m q v e sm sq takes. absurd (let none = states (zone_of h.shape v) in cc (none, takes));
  gray_key = λ m q v d e is sm sd takes. absurd (let none = states (zone_of h.shape q) in cc (none, takes));
}

-- where neither pile holds anything, each cell is scanned once at most
pub scanned_once : (h : HeapState) (p : Piles) → p.black ≡ [] → p.gray ≡ [] → AreScannedOnce h p
scanned_once h p black gray = record {
  black = λ x. (
      let few = most_black (colour_of h x) in
      let none : count_by (is_place x) p.black ≡ 0 = ap (λ ys. count_by (is_place x) ys) black in
      omega (arith, few, none));
  gray = λ x. (
      let few = most_gray (colour_of h x) in
      let none : count_by (is_place x) p.gray ≡ 0 = ap (λ ys. count_by (is_place x) ys) gray in
      omega (arith, few, none));
}
  where
    most_black : (c : Colour) → black_turns c ≤ 1
    most_black colour.White = omega arith
    most_black colour.Gray = omega arith
    most_black colour.Black = omega arith

    most_gray : (c : Colour) → gray_turns c ≤ 1
    most_gray colour.White = omega arith
    most_gray colour.Gray = omega arith
    most_gray colour.Black = omega arith

-- no cell waits on the black pile, where no zone is marking
pub none_black : (h : HeapState) (p : Piles) → PileInvariant h p → ((x : Place) → is_marking h.shape x ≡ false)
    → p.black ≡ []
none_black h p inv off = none_in_it p.black (λ x has. (let on = (inv.black x has).1 in let none = off x in
    cc (on, none)))
