-- As marking begins, its invariants hold, and it is tied to the collection.
use Rattle.std.proofs.Common.{◌≡◌, ◌<◌, ◌≤◌, ◌⊎◌, ◌↔◌, ℕ, suc, true, false, List, [], ◌∷◌, length, map, Option, Some}
use Rattle.std.proofs.Common.{None, is_some, refl, sym, ap, subst, ◌∙◌, inl, inr, arith, Contains}
use Rattle.std.specs.Int.{bit_at}
use Rattle.std.proofs.lemmas.Bool.{cases_lt, cases_eq}
use Rattle.std.specs.FinMap as places
use Rattle.gz_names.specs.Zones.{HasZone, zones_in}
use Rattle.gz_names.specs.declared.names.Name.{Name}
use Rattle.gz_names.specs.declared.names.Name.TheVariants.{Cell, Wrap}
use Rattle.gz_names.specs.declared.numbers.Place.{Place}
use Rattle.gz_names.specs.declared.zone_sets.ZoneSet.{ZoneSet}
use Rattle.zones.specs.declared.states.State.{State}
use Rattle.zones.specs.declared.states.State.TheVariants as state
use Rattle.cell_bits.specs.declared.bits.Bits.{Bits}
use Rattle.mark_stack.specs.Stack.{Piles, no_places}
use Rattle.gray_lists.specs.Incoming.{Incoming, IsOnce}
use Rattle.colour_defs.specs.Graph.{GraphState, IsInZones, value_of}
use Rattle.colour_defs.specs.Closure.{Closure, HasEdge as HasNamedEdge}
use Rattle.colour_defs.specs.World.{World, Collection, Has, BlackClosure, LiveClosure}
use Rattle.colour_defs.specs.World.{IsPresent as IsPresentName}
use Rattle.colour_defs.specs.Laws.{IsValid, IsValidPreparing, IsWellFormed}
use Rattle.colour_defs.specs.Lawful.{Begins}
use Rattle.colour_defs.proofs.Lists.{contains_cases, contains_head, contains_tail, nothing_in_none}
use Rattle.colour_defs.proofs.Finite.{no_name}
use Rattle.colour_defs.proofs.Membership.{in_zone, zone_in}
use Rattle.colour_defs.proofs.ZoneSets.{zones_in-has}
use Rattle.heap_core.specs.Shape.{Shape, is_white, HasEdge, IsDelegate, IsPresent, cell_of, held_name, is_marking}
use Rattle.heap_core.specs.Shape.{is_marking_state, is_prepare_state, name_at, out_of, state_in, zone_of, field_in}
use Rattle.heap_core.specs.Shape.{AreWhole}
use Rattle.heap_core.specs.Heap.{HeapState, flown_or, joined, with_flown}
use Rattle.heap_core.specs.Shows.{Shows, StandsFor}
use Rattle.barriers.specs.Reached.{HasEntry, Reached}
use Rattle.barriers.specs.Reached as reached
use Rattle.barriers.specs.Colours.{IsBlack, IsGray, IsSeen}
use Rattle.barriers.specs.PendingBlack.{PendingBlack}
use Rattle.barriers.specs.PendingLive.{GrayInvariant, IsLiveStart, PendingLive}
use Rattle.barriers.specs.WeakPoint.{WeakPoint, left_of}
use Rattle.barriers.specs.Invariant.{ColourInvariant, IsToFollow, MarkingInvariant, ShapeInvariant}
use Rattle.barriers.specs.LeftOut.{Counts, PreparingInvariant}
use Rattle.barriers.specs.Spreading.{Covers}
use Rattle.barriers.proofs.Slots.{slots_most}
use Rattle.barriers.proofs.BlackClosure.{pending_is_reached, reached_from, reached_is_pending}
use Rattle.barriers.proofs.BlackClosure.{reached_more}
use Rattle.barriers.proofs.LiveClosure.{live_is_reached, reached_is_live}
use Rattle.slice_driver.proofs.abstraction.Waits.{none_waiting}
use Rattle.slice_driver.specs.Worlds.{LiesIn, owners_of, outs_from}
use Rattle.slice_driver.specs.Closures.{AreTied}
use Rattle.slice_driver.specs.Collector.{CollectorState, RunState}
use Rattle.slice_driver.specs.Represents.{AreInStates, AreLookedAt, Runs}
use Rattle.slice_driver.specs.Begins.{BeginsMarking, IsWithin}
use Rattle.slice_driver.proofs.abstraction.Named.{AreSameStarts, closure_present, named_present, present_named}
use Rattle.slice_driver.proofs.abstraction.Named.{same_reached, some_one}
use Rattle.slice_driver.proofs.abstraction.Lying.{zone_named}
use Rattle.slice_driver.proofs.basics.NamesWeakly.{names_weakly_on}
use Rattle.slice_driver.proofs.basics.Woken.{reached_kept}
use Rattle.slice_driver.proofs.abstraction.Keeping.{stay_same}
use Rattle.arena_table.specs.Cells.{CellState}
use Rattle.weak_maps.specs.WeakMaps.{value_of as entry_of}

-- a zone is in a set, or not
has_or_not : (word z : ℕ) → HasZone word z ⊎ (HasZone word z → ⊥)
unfolding HasZone
has_or_not word z = elim (cases_lt z 64) [
  | inr ge ↦ inr (λ h. omega (arith, ge, h.0))
  | inl lt ↦ elim (cases_eq (bit_at word z) 1) [ inl e ↦ inl (lt, e) | inr n ↦ inr (λ h. n h.1) ]
]

no_edge_from_none : (s : Shape) (x y : Place) → HasEdge s x y → IsPresent s x
no_edge_from_none s x y e = go (cell_of s x) refl e.2
  where
    go : (o : Option CellState) → cell_of s x ≡ o → field_in o e.0 ≡ Some y → IsPresent s x
    go None at f = absurd (cc f)
    go (Some c) at f = ap is_some at

-- exactly these zones are being prepared, and the others are in no collection
pub record IsPrepared (h : HeapState) (p : Piles) (zones : ZoneSet) : Type 0 where
  pub invariant : PreparingInvariant h p
  pub inside : (z : ℕ) → HasZone zones.bits z → state_in h.shape z ≡ state.Prepare
  pub outside : (z : ℕ) → (HasZone zones.bits z → ⊥) → state_in h.shape z ≡ state.NoGC

-- the colour of each other cell counts
pub counts_out : (h : HeapState) (p : Piles) (zones : ZoneSet) → IsPrepared h p zones → (x : Place)
    → (IsWithin h.shape zones x → ⊥) → Counts h.shape x
counts_out h p zones at x out = ap is_prepare_state (at.outside (zone_of h.shape x) out)

-- where no cell is pending none is to be followed
none_follows : (h : HeapState) (p : Piles) (zones : ZoneSet) → IsPrepared h p zones → (x : Place)
    → IsToFollow [] p x → ⊥
none_follows h p zones at x (inl c) =
    nothing_in_none x (subst (λ (q : Piles). Contains q.black x) at.invariant.empty c)
none_follows h p zones at x (inr (inl c)) =
    nothing_in_none x (subst (λ (q : Piles). Contains q.wake x) at.invariant.empty c)
none_follows h p zones at x (inr (inr c)) = nothing_in_none x c

module _ (h : HeapState) (old : Piles) (zones : ZoneSet) (k : HeapState) (stack : Piles) (lists : Incoming)
    (at : IsPrepared h old zones) (b : BeginsMarking h zones k stack lists) (regs_held : (x : Place)
    → Contains h.shape.regs (Some x) → IsPresent h.shape x) (slots_held : (x : Place) → Contains h.shape.slots (Some x)
    → IsPresent h.shape x) where
  shape : ShapeInvariant h.shape
  shape = at.invariant.holds.colours.shape

  counts : (x : Place) → (IsWithin h.shape zones x → ⊥) → Counts h.shape x
  counts = counts_out h old zones at

  -- what is black outside of these zones leads there to black
  black_along : (x y : Place) → (IsWithin h.shape zones x → ⊥) → (IsWithin h.shape zones y → ⊥) → IsBlack h x
      → HasEdge h.shape x y → IsBlack h y
  black_along x y out outer bx e = elim (at.invariant.holds.closed x y (counts x out) bx e (counts y outer)) [
    | inl by ↦ by
    | inr c ↦ absurd (none_follows h old zones at x c)
  ]

  black_value : (m q v : Place) → (IsWithin h.shape zones v → ⊥) → HasEntry h.shape m q v → IsBlack h m → IsBlack h q
      → IsBlack h v
  black_value m q v out e bm bq = elim (at.invariant.holds.weak_closed m q v e (counts v out) bm bq) [
    | inl bv ↦ bv
    | inr (inl c) ↦ absurd (none_follows h old zones at m c)
    | inr (inr c) ↦ absurd (none_follows h old zones at q c)
  ]

  black_key : (m q v d : Place) → (IsWithin h.shape zones q → ⊥) → (IsWithin h.shape zones d → ⊥)
      → HasEntry h.shape m q v → IsDelegate h.shape q d → IsBlack h m → IsBlack h d → IsBlack h q
  black_key m q v d out outer e is bm bd =
      elim (at.invariant.holds.key_closed m q v d e is (counts q out) (counts d outer) bm bd) [
        | inl bq ↦ bq
        | inr (inl c) ↦ absurd (none_follows h old zones at m c)
        | inr (inr c) ↦ absurd (none_follows h old zones at d c)
      ]

  -- the shape afterwards has other states alone
  arenas_are : k.shape.arenas ≡ h.shape.arenas
  arenas_are = ap (λ (s : Shape). s.arenas) b.shape_is

  weak_is : k.shape.weak ≡ h.shape.weak
  weak_is = ap (λ (s : Shape). s.weak) b.shape_is

  within_or_not : (x : Place) → IsWithin h.shape zones x ⊎ (IsWithin h.shape zones x → ⊥)
  within_or_not x = has_or_not zones.bits (zone_of h.shape x)

  zone_same : (x : Place) → zone_of k.shape x ≡ zone_of h.shape x
  zone_same x = ap (λ (s : Shape). zone_of s x) b.shape_is

  marking_within : (x : Place) → IsWithin h.shape zones x → is_marking k.shape x ≡ true
  marking_within x w = ap (λ z. is_marking_state (state_in k.shape z)) (zone_same x)
      ∙ ap is_marking_state (b.states (zone_of h.shape x) w)

  marking_outside : (x : Place) → (IsWithin h.shape zones x → ⊥) → is_marking k.shape x ≡ false
  marking_outside x n = ap (λ z. is_marking_state (state_in k.shape z)) (zone_same x)
      ∙ (ap is_marking_state (b.other_states (zone_of h.shape x) n)
      ∙ ap is_marking_state (at.outside (zone_of h.shape x) n))

  not_marking : (x : Place) → is_marking k.shape x ≡ false → IsWithin h.shape zones x → ⊥
  not_marking x e w = cc (e, marking_within x w)

  is_in : (x : Place) → is_marking k.shape x ≡ true → IsWithin h.shape zones x
  is_in x e = elim (within_or_not x) [ inl w ↦ w | inr n ↦ absurd (cc (e, marking_outside x n)) ]

  edge_was : (x y : Place) → HasEdge k.shape x y → HasEdge h.shape x y
  edge_was x y e = subst (λ (s : Shape). HasEdge s x y) b.shape_is e

  entry_was : (m q v : Place) → HasEntry k.shape m q v → HasEntry h.shape m q v
  entry_was m q v e = ap (λ w. entry_of w m q) (sym weak_is) ∙ e

  delegate_was : (q d : Place) → IsDelegate k.shape q d → IsDelegate h.shape q d
  delegate_was q d is = subst (λ (s : Shape). IsDelegate s q d) b.shape_is is

  present_was : (x : Place) → IsPresent k.shape x → IsPresent h.shape x
  present_was x p = subst (λ (s : Shape). IsPresent s x) b.shape_is p

  present_is : (x : Place) → IsPresent h.shape x → IsPresent k.shape x
  present_is x p = subst (λ (s : Shape). IsPresent s x) (sym b.shape_is) p

  seen_out : (x : Place) → IsPresent h.shape x → (IsWithin h.shape zones x → ⊥) → IsSeen k x
  seen_out x here n = elim (at.invariant.holds.colours.seen x here (counts x n)) [
    | inl g ↦ inl (b.outside x n ∙ g)
    | inr bl
        ↦ inr (b.outside x n ∙ bl)
  ]

  gray_out : (x : Place) → IsGray k x → (IsWithin h.shape zones x → ⊥) × IsGray h x
  gray_out x g = elim (within_or_not x) [ inl w ↦ absurd (b.none_gray x w g) | inr n ↦ (n, sym (b.outside x n) ∙ g) ]

  zone_within : (x y : Place) → zone_of h.shape x ≡ zone_of h.shape y → IsWithin h.shape zones x
      → IsWithin h.shape zones y
  zone_within x y e w = subst (λ z. HasZone zones.bits z) e w

  shape_begun : ShapeInvariant k.shape
  shape_begun = subst ShapeInvariant (sym b.shape_is) (record {
    made = λ x p. subst (λ n. zone_of h.shape x < n) (sym b.count) (shape.made x p);
    at_home = shape.at_home;
    targets = shape.targets;
    across = shape.across;
    entries = shape.entries;
    one_zone = shape.one_zone;
    delegates = shape.delegates;
    kept = λ x m. at.invariant.holds.colours.none_out x.0;
  })

  colours_begun : ColourInvariant k
  colours_begun = record {
    shape = shape_begun;
    sized = b.sized ∙ (at.invariant.holds.colours.sized ∙ ap (λ xs. length xs) (sym arenas_are));
    seen_present = λ x s. present_is x (elim (within_or_not x) [
      | inr n ↦ at.invariant.holds.colours.seen_present x
          (elim s [ inl g ↦ inl (sym (b.outside x n) ∙ g) | inr bl ↦ inr (sym (b.outside x n) ∙ bl) ])
      | inl w ↦ elim s [
        | inl g ↦ absurd (b.none_gray x w g)
        | inr bl ↦ elim ((b.within x w).0 bl) [ inl r ↦ regs_held x r | inr u ↦ shape.targets u.0 x u.3 ]
      ]
    ]);
    no_white = λ x here m. seen_out x (present_was x here) (not_marking x m);
    no_gray = λ x st g. (let out = gray_out x g in cc (ap is_marking_state st, marking_outside x out.0));
    regs_black = λ x c. (let r : Contains h.shape.regs (Some x) =
        subst (λ (s : Shape). Contains s.regs (Some x)) b.shape_is c in elim (within_or_not x) [
          | inl w ↦ (b.within x w).1 (inl r)
          | inr n ↦ b.outside x n ∙ at.invariant.holds.colours.regs_black x r (counts x n)
        ]);
  }

  -- each black cell of a marking zone is on the black pile, and no zone takes gray
  weak_begun : WeakPoint k stack (left_of k)
  weak_begun = record {
    black = λ m q v e bm bq on.
        let within : IsWithin h.shape zones m = zone_within v m (sym (shape.one_zone m q v (entry_was m q v e)).0)
        (is_in v on) in
        inr (inl ((b.black_pile m).1 (bm, within)));
    gray = λ m q v e sm sq takes.
        let only = b.states (zone_of h.shape v) (is_in v (ap is_marking_state takes)) in
        let now = ap (state_in k.shape) (sym (zone_same v)) ∙ takes in
        cc (only, now);
    gray_key = λ m q v d e is sm sd takes.
        let only = b.states (zone_of h.shape q) (is_in q (ap is_marking_state takes)) in
        let now = ap (state_in k.shape) (sym (zone_same q)) ∙ takes in
        cc (only, now);
  }

  pub marking_begun : MarkingInvariant k stack
  marking_begun = record {
    holds = record {
      colours = colours_begun;
      piles = record {
        black = λ x c. (let p = (b.black_pile x).0 c in (p.0, marking_within x p.1));
        wake = λ x c. absurd (nothing_in_none x (subst (λ zs. Contains zs x) b.wake_pile c));
        gray = λ x c. absurd (nothing_in_none x (subst (λ zs. Contains zs x) b.gray_pile c));
      };
      closed = λ x y bx e. elim (within_or_not x) [
        | inl w ↦ inr (inl ((b.black_pile x).1 (bx, w)))
        | inr n ↦
            let bh : IsBlack h x = sym (b.outside x n) ∙ bx in
            let was = edge_was x y e in
            inl (elim (within_or_not y) [
              | inl w ↦ (b.within y w).1 (inr (x, n, bh, was))
              | inr m
                  ↦ b.outside y m ∙ black_along x y n m bh was
            ])
      ];
      weak_closed = λ m q v e bm bq no.
          let was = entry_was m q v e in
          let same = shape.one_zone m q v was in
          let out = not_marking v no in
          let om : IsWithin h.shape zones m → ⊥ = λ w. out (zone_within m v same.0 w) in
          let oq : IsWithin h.shape zones q → ⊥ = λ w. out (zone_within q v same.1 w) in
          inl (b.outside v out
          ∙ black_value m q v out was (sym (b.outside m om) ∙ bm) (sym (b.outside q oq) ∙ bq));
      key_closed = λ m q v d e is bm bd.
          let was = entry_was m q v e in
          let same = shape.one_zone m q v was in
          elim (within_or_not m) [
            | inl w ↦ inr (inl (inl ((b.black_pile m).1 (bm, w))))
            | inr om ↦ elim (within_or_not d) [
              | inl w ↦ inr (inr (inl (inl ((b.black_pile d).1 (bd, w)))))
              | inr od ↦
                  let oq : IsWithin h.shape zones q → ⊥ = λ w. om (zone_within q m (same.1 ∙ sym same.0) w) in
                  inl (b.outside q oq ∙ black_key m q v d oq od was (delegate_was q d is)
                  (sym (b.outside m om) ∙ bm) (sym (b.outside d od) ∙ bd))
            ]
          ];
    };
    none_woken = b.wake_pile;
    weak = weak_begun;
    once = b.once;
  }

  pub gray_begun : GrayInvariant k stack lists
  gray_begun = record {
    buffered_seen = λ z x c.
        (let r = (b.buffered z x).0 c in
        elim r.1 [ inl slot ↦ inl (zone_same x ∙ slot.0) | inr lead ↦ inr (inl (b.outside x lead.0 ∙ lead.1)) ]);
    buffered_present = λ z x c.
        (let r = (b.buffered z x).0 c in
        present_is x (elim r.1 [
          | inl slot ↦ slots_held x slot.1
          | inr lead
              ↦ no_edge_from_none h.shape x lead.2 lead.3
        ]));
    incoming_seen = λ c x i. absurd (nothing_in_none x (subst (λ zs. Contains zs x) (b.none_incoming c) i));
    closed = λ x y g e.
        let out = gray_out x g in
        let was = edge_was x y e in
        elim (within_or_not y) [
          | inr n ↦ inl (seen_out y (shape.targets x y was) n)
          | inl w ↦ inr (inr (inl (
            (b.buffered (zone_of k.shape y) x).1 (
              subst (λ z. HasZone zones.bits z) (sym (zone_same y)) w,
              inr (out.0, out.1, y, was, sym (zone_same y)),
            ),
            λ same. out.0 (zone_within y x (sym (sym (zone_same x) ∙ (same ∙ zone_same y))) w),
          )))
        ];
    apart = λ c x on i. nothing_in_none x (subst (λ zs. Contains zs x) b.gray_pile on);
    lists_apart = record {
      once = λ c. subst IsOnce (sym (b.none_incoming c)) tt;
      one_list = λ c d x i j. absurd (nothing_in_none x (subst (λ zs. Contains zs x) (b.none_incoming c) i));
    };
    few = omega (
      arith,
      none_waiting lists b.none_incoming,
      ap (λ (zs : List Place). length zs) b.gray_pile,
      slots_most is_white k.colours,
    );
    room = b.lists_room;
  }

-- what registers and slots hold, by name
held_named : (s : Shape) (xs : List (Option Place)) (x : Name) → Contains (map (held_name s) xs) (Some x)
    → (p : Place) × Contains xs (Some p) × (name_at s p ≡ Some x)
held_named s [] x c = absurd (nothing_in_none (Some x) c)
held_named s (o ∷ xs) x c = elim (contains_cases (held_name s o) (map (held_name s) xs) (Some x) c) [
  | inl e ↦ head o e
  | inr t ↦ (let r = held_named s xs x t in (r.0, contains_tail o xs (Some r.0) r.1, r.2))
]
  where
    head : (o : Option Place) → held_name s o ≡ Some x → (p : Place) × Contains (o ∷ xs) (Some p)
        × (name_at s p ≡ Some x)
    head None e = absurd (cc e)
    head (Some p) e = (p, contains_head (Some p) xs, e)

named_held : (s : Shape) (xs : List (Option Place)) (p : Place) (x : Name) → Contains xs (Some p) → name_at s p ≡ Some x
    → Contains (map (held_name s) xs) (Some x)
named_held s [] p x c e = absurd (nothing_in_none (Some p) c)
named_held s (o ∷ xs) p x c e = elim (contains_cases o xs (Some p) c) [
  | inl is ↦ subst (λ z. Contains (held_name s o ∷ map (held_name s) xs) z) (ap (held_name s) is ∙ e)
      (contains_head (held_name s o) (map (held_name s) xs))
  | inr t ↦ contains_tail (held_name s o) (map (held_name s) xs) (Some x) (named_held s xs p x t e)
]

module _ (h : HeapState) (w : World) (l : LiesIn h w) (zones : ZoneSet) where
  -- zones by places and by names
  pub zones_named : (p : Place) (x : Name) → name_at h.shape p ≡ Some x → IsWithin h.shape zones p
      → IsInZones w.graph (zones_in zones) x
  zones_named p x e within =
      in_zone w.graph (zones_in zones) x (zone_of h.shape p) (zone_named h l.graph w.graph p x l.shown l.part.part e)
      ((zones_in-has zones (zone_of h.shape p)).1 within)

  pub zones_placed : (p : Place) (x : Name) → name_at h.shape p ≡ Some x → IsInZones w.graph (zones_in zones) x
      → IsWithin h.shape zones p
  zones_placed p x e within =
      let z = zone_in w.graph (zones_in zones) x within in
      let same : z.0 ≡ zone_of h.shape p =
      some_one _ _ (sym z.1 ∙ zone_named h l.graph w.graph p x l.shown l.part.part e) in
      subst (λ n. HasZone zones.bits n) same ((zones_in-has zones z.0).0 z.2)

  regs_named : (p : Place) (x : Name) → name_at h.shape p ≡ Some x → Contains h.shape.regs (Some p)
      ↔ Contains w.graph.registers (Some x)
  regs_named p x e = (
    λ c. subst (λ xs. Contains xs (Some x)) (sym l.shown.registers_are ∙ l.part.part.registers)
        (named_held h.shape h.shape.regs p x c e),
    λ c. (let r = held_named h.shape h.shape.regs x
        (subst (λ xs. Contains xs (Some x)) (sym (sym l.shown.registers_are ∙ l.part.part.registers)) c) in
        subst (λ q. Contains h.shape.regs (Some q)) (l.shown.apart r.0 p x r.2 e) r.1),
  )

  slots_named : (p : Place) (x : Name) → name_at h.shape p ≡ Some x → Contains h.shape.slots (Some p)
      ↔ Contains w.graph.slots (Some x)
  slots_named p x e = (
    λ c. subst (λ xs. Contains xs (Some x)) (sym l.shown.slots_are ∙ l.part.part.slots)
        (named_held h.shape h.shape.slots p x c e),
    λ c. (let r = held_named h.shape h.shape.slots x
        (subst (λ xs. Contains xs (Some x)) (sym (sym l.shown.slots_are ∙ l.part.part.slots)) c) in
        subst (λ q. Contains h.shape.slots (Some q)) (l.shown.apart r.0 p x r.2 e) r.1),
  )

  reg_present : (x : Name) → Contains w.graph.registers (Some x) → IsPresentName w x
  reg_present x c = let r =
      held_named h.shape h.shape.regs x
      (subst (λ xs. Contains xs (Some x)) (sym (sym l.shown.registers_are ∙ l.part.part.registers)) c) in
      present_named h w l r.0 x r.2

  slot_present : (x : Name) → Contains w.graph.slots (Some x) → IsPresentName w x
  slot_present x c = let r =
      held_named h.shape h.shape.slots x
      (subst (λ xs. Contains xs (Some x)) (sym (sym l.shown.slots_are ∙ l.part.part.slots)) c) in
      present_named h w l r.0 x r.2

-- zones change their states alone
stands_still : (s : Shape) (states : List State) (g : GraphState) (p : Place) (cell : CellState) (x : Name)
    → StandsFor s g p cell x → StandsFor (record s { states = states }) g p cell x
stands_still s states g p cell (Cell n) stands = stands
stands_still s states g p cell (Wrap c t) stands =
    record {
      target = stands.target;
      kind_is = stands.kind_is;
      comp_is = stands.comp_is;
      fields_is = stands.fields_is;
      target_is = stands.target_is;
      known = stands.known;
      mapped = stands.mapped;
    }

-- where the closures of a collection start, by places
abbrev IsBlackStart : HeapState → ZoneSet → Place → Type 0
IsBlackStart h zones x = Contains h.shape.regs (Some x) ⊎ ((IsWithin h.shape zones x → ⊥) × IsBlack h x)

abbrev IsLiveRoot : HeapState → ZoneSet → Place → Type 0
IsLiveRoot h zones x = IsBlackStart h zones x
    ⊎ (Contains h.shape.slots (Some x) ⊎ (IsPresent h.shape x × (IsWithin h.shape zones x → ⊥)))

-- the cells that are left out are black where the world has their names black
abbrev pub AreBlackLeftOut : HeapState → World → Type 0
AreBlackLeftOut h w =
    (x : Name) (p : Place) → name_at h.shape p ≡ Some x → Counts h.shape p → Has w.black x ↔ IsBlack h p

module _ (h : HeapState) (old : Piles) (w v : World) (zones : ZoneSet) (k : HeapState) (stack : Piles)
    (lists : Incoming) (at : IsPrepared h old zones) (b : BeginsMarking h zones k stack lists) (l : LiesIn h w)
    (ok : IsValid w) (black : AreBlackLeftOut h w) (bg : Begins w (zones_in zones) v) where
  abbrev c : Collection
  c = bg.collection

  begun : MarkingInvariant k stack
  begun = marking_begun h old zones k stack lists at b l.shown.registers_held l.shown.slots_held

  gray : GrayInvariant k stack lists
  gray = gray_begun h old zones k stack lists at b l.shown.registers_held l.shown.slots_held

  seen_present : (x : Place) → IsSeen h x → IsPresent h.shape x
  seen_present = at.invariant.holds.colours.seen_present

  counts_here : (x : Place) → (IsWithin h.shape zones x → ⊥) → Counts h.shape x
  counts_here = counts_out h old zones at

  preparing : IsValidPreparing w bg.preparation
  preparing = ok.preparing bg.preparation bg.was

  -- a black name is of no zone that is prepared
  black_out : (p : Place) (x : Name) → name_at h.shape p ≡ Some x → Has w.black x → IsWithin h.shape zones p → ⊥
  black_out p x e has within = (preparing.left_out x has).1
      (subst (λ zs. IsInZones w.graph zs x) (sym bg.of_zones) (zones_named h w l zones p x e within))

  none_woken : (x : Name) → Has c.woken x → ⊥
  none_woken x has = no_name x (subst (λ s. Has s x) bg.woken_is has)

  black_starts : AreSameStarts h w (IsBlackStart h zones) (λ x. Has c.black_starts x ⊎ Has c.woken x)
  black_starts = record {
    same = λ p x e. (
      λ s. inl ((bg.black_starts x).1
          (elim s [
            | inl r ↦ inl ((regs_named h w l zones p x e).0 r)
            | inr o ↦ inr ((black x p e (counts_here p o.0)).1 o.1)
          ])),
      λ s. elim s [
        | inr t ↦ absurd (none_woken x t)
        | inl st ↦ elim ((bg.black_starts x).0 st) [
          | inl r ↦ inl ((regs_named h w l zones p x e).1 r)
          | inr o ↦ (let out = black_out p x e o in inr (out, (black x p e (counts_here p out)).0 o))
        ]
      ],
    );
    placed = λ p s. elim s [ inl r ↦ l.shown.registers_held p r | inr o ↦ seen_present p (inr o.1) ];
    named = λ x s. elim s [
      | inr t ↦ absurd (none_woken x t)
      | inl st ↦ elim ((bg.black_starts x).0 st) [
        | inl r ↦ reg_present h w l zones x r
        | inr o ↦ (preparing.left_out x o).0
      ]
    ];
  }

  live_starts : AreSameStarts h w (IsLiveRoot h zones) (λ x. Has c.live_starts x ⊎ Has c.woken x)
  live_starts = record {
    same = λ p x e. (
      λ s. inl ((bg.live_starts x).1 (elim s [
        | inl bs ↦ elim ((black_starts.same p x e).0 bs) [ inl st ↦ inl st | inr t ↦ absurd (none_woken x t) ]
        | inr (inl slot) ↦ inr (inl ((slots_named h w l zones p x e).0 slot))
        | inr (inr out) ↦ inr (inr (present_named h w l p x e, λ within. out.1 (zones_placed h w l zones p x e within)))
      ])),
      λ s. elim s [
        | inr t ↦ absurd (none_woken x t)
        | inl st ↦ elim ((bg.live_starts x).0 st) [
          | inl bs ↦ inl ((black_starts.same p x e).1 (inl bs))
          | inr (inl slot) ↦ inr (inl ((slots_named h w l zones p x e).1 slot))
          | inr (inr out) ↦ inr
              (inr (named_present h.shape p x e, λ within. out.1 (zones_named h w l zones p x e within)))
        ]
      ],
    );
    placed = λ p s. elim s [
      | inl bs ↦ black_starts.placed p bs
      | inr (inl slot) ↦ l.shown.slots_held p slot
      | inr (inr out) ↦ out.0
    ];
    named = λ x s. elim s [
      | inr t ↦ absurd (none_woken x t)
      | inl st ↦ elim ((bg.live_starts x).0 st) [
        | inl bs ↦ black_starts.named x (inl bs)
        | inr (inl slot) ↦ slot_present h w l zones x slot
        | inr (inr out) ↦ out.0
      ]
    ];
  }

  in_or_out : (x : Place) → IsWithin h.shape zones x ⊎ (IsWithin h.shape zones x → ⊥)
  in_or_out x = has_or_not zones.bits (zone_of h.shape x)

  out_start : (x : Place) → (IsWithin h.shape zones x → ⊥) → IsBlack h x → Reached h.shape (IsBlackStart h zones) x
  out_start x n bh = reached.from (inr (n, bh))

  -- black cells are reached from the black starts, and these are black
  black_reached : (x : Place) → IsBlack k x → Reached h.shape (IsBlackStart h zones) x
  black_reached x bx = elim (in_or_out x) [
    | inr n ↦ out_start x n (sym (b.outside x n) ∙ bx)
    | inl within ↦ elim ((b.within x within).0 bx) [
      | inl r ↦ reached.from (inl r)
      | inr u
          ↦ reached.along (out_start u.0 u.1 u.2) u.3
    ]
  ]

  start_black : (x : Place) → IsBlackStart h zones x → IsBlack k x
  start_black x s = elim s [
    | inr o ↦ b.outside x o.0 ∙ o.1
    | inl r ↦ begun.holds.colours.regs_black x (subst (λ (s : Shape). Contains s.regs (Some x)) (sym b.shape_is) r)
  ]

  to_h : (P : Place → Type 0) {x : Place} → Reached k.shape P x → Reached h.shape P x
  to_h P r = reached_kept k.shape h.shape P (ap (λ (s : Shape). s.arenas) (sym b.shape_is))
      (ap (λ (s : Shape). s.weak) (sym b.shape_is)) r

  to_k : (P : Place → Type 0) {x : Place} → Reached h.shape P x → Reached k.shape P x
  to_k P r = reached_kept h.shape k.shape P (ap (λ (s : Shape). s.arenas) b.shape_is)
      (ap (λ (s : Shape). s.weak) b.shape_is) r

  name_was : (p : Place) (x : Name) → name_at k.shape p ≡ Some x → name_at h.shape p ≡ Some x
  name_was p x e = subst (λ (s : Shape). name_at s p ≡ Some x) b.shape_is e

  black_tied : (p : Place) (x : Name) → name_at h.shape p ≡ Some x → PendingBlack k stack p ↔ BlackClosure c x
  black_tied p x e =
      let both = same_reached h w l (IsBlackStart h zones) (λ y. Has c.black_starts y ⊎ Has c.woken y) black_starts p x
      e in (
        λ pending. subst (λ g. Closure g (λ y. Has c.black_starts y ⊎ Has c.woken y) x) (sym bg.snapshot_is)
            (both.0 (reached_from h.shape (IsBlack k) (IsBlackStart h zones) black_reached
            (to_h (IsBlack k) (pending_is_reached k stack begun pending)))),
        λ r. reached_is_pending k stack begun
            (to_k (IsBlack k) (reached_more h.shape (IsBlackStart h zones) (IsBlack k) start_black
            (both.1 (subst (λ g. Closure g (λ y. Has c.black_starts y ⊎ Has c.woken y) x) bg.snapshot_is r)))),
      )

  zone_kept : (x : Place) → zone_of k.shape x ≡ zone_of h.shape x
  zone_kept x = ap (λ (s : Shape). zone_of s x) b.shape_is

  seen_outside : (x : Place) → IsPresent h.shape x → (IsWithin h.shape zones x → ⊥) → IsSeen k x
  seen_outside x here n =
      elim (at.invariant.holds.colours.seen x here (counts_here x n)) [
        | inl g ↦ inl (b.outside x n ∙ g)
        | inr bl
            ↦ inr (b.outside x n ∙ bl)
      ]

  live_reached : (x : Place) → IsLiveStart k x → Reached h.shape (IsLiveRoot h zones) x
  live_reached x s = elim s [
    | inl (inr bx) ↦ reached_more h.shape (IsBlackStart h zones) (IsLiveRoot h zones) (λ y st. inl st)
        (black_reached x bx)
    | inl (inl g) ↦ elim (in_or_out x) [
      | inl within ↦ absurd (b.none_gray x within g)
      | inr n ↦ reached.from (inr (inr (seen_present x (inl (sym (b.outside x n) ∙ g)), n)))
    ]
    | inr buffered ↦ (let r = (b.buffered (zone_of k.shape x) x).0 buffered in elim r.1 [
      | inl slot ↦ reached.from (inr (inl slot.1))
      | inr lead ↦ absurd (lead.0 (subst (λ z. HasZone zones.bits z) (zone_kept x) r.0))
    ])
  ]

  start_live : (x : Place) → IsLiveRoot h zones x → IsLiveStart k x
  start_live x s = elim s [
    | inl bs ↦ inl (inr (start_black x bs))
    | inr (inl slot) ↦ elim (in_or_out x) [
      | inl within ↦ inr ((b.buffered (zone_of k.shape x) x).1
          (subst (λ z. HasZone zones.bits z) (sym (zone_kept x)) within, inl (sym (zone_kept x), slot)))
      | inr n ↦ inl (seen_outside x (l.shown.slots_held x slot) n)
    ]
    | inr (inr out) ↦ inl (seen_outside x out.0 out.1)
  ]

  live_tied : (p : Place) (x : Name) → name_at h.shape p ≡ Some x → PendingLive k stack lists p ↔ LiveClosure c x
  live_tied p x e =
      let both =
      same_reached h w l (IsLiveRoot h zones) (λ y. Has c.live_starts y ⊎ Has c.woken y) live_starts p x e in (
        λ pending. subst (λ g. Closure g (λ y. Has c.live_starts y ⊎ Has c.woken y) x) (sym bg.snapshot_is)
            (both.0 (reached_from h.shape (IsLiveStart k) (IsLiveRoot h zones) live_reached
            (to_h (IsLiveStart k) (live_is_reached k stack lists begun gray pending)))),
        λ r. reached_is_live k stack lists begun gray
            (to_k (IsLiveStart k)
            (reached_more h.shape (IsLiveRoot h zones) (IsLiveStart k) start_live
            (both.1 (subst (λ g. Closure g (λ y. Has c.live_starts y ⊎ Has c.woken y) x) bg.snapshot_is r)))),
      )

  pub tied_begun : AreTied k stack lists v bg.collection
  tied_begun = record {
    black = λ x p e. black_tied p x (name_was p x e);
    live = λ x p e. live_tied p x (name_was p x e);
    present = λ x r. subst (λ (u : World). IsPresentName u x) (sym bg.world_is)
        (closure_present h w l (IsLiveRoot h zones) (λ y. Has c.live_starts y ⊎ Has c.woken y) live_starts x
        (subst (λ g. Closure g (λ y. Has c.live_starts y ⊎ Has c.woken y) x) bg.snapshot_is r));
    edges_then = λ x y here e.
        inl (subst (λ g. HasNamedEdge g x y) (bg.snapshot_is ∙ ap (λ (u : World). u.graph) (sym bg.world_is)) e);
    entries_then = λ m q u pm pq e.
        inl (subst (λ g. value_of g m q ≡ Some u) (bg.snapshot_is ∙ ap (λ (u : World). u.graph) (sym bg.world_is)) e);
    grown = subst (λ (g : GraphState). length c.snapshot.objects ≤ length g.objects)
        (bg.snapshot_is ∙ ap (λ (u : World). u.graph) (sym bg.world_is)) (omega arith);
    formed = subst IsWellFormed (sym bg.snapshot_is) ok.graph;
  }

  -- the heap lies in the world that begins
  shows_begun : Shows k l.graph
  shows_begun = subst (λ (s : Shape). Shows (record k { shape = s }) l.graph) (sym b.shape_is) (record {
    zones_are = l.shown.zones_are ∙ sym b.count;
    comps_are = l.shown.comps_are;
    objects_made = l.shown.objects_made;
    registers_are = l.shown.registers_are;
    slots_are = l.shown.slots_are;
    registers_held = l.shown.registers_held;
    slots_held = l.shown.slots_held;
    fields_held = l.shown.fields_held;
    cells = λ p cell e. (let shown = l.shown.cells p cell e in
        record {
          stands = stands_still h.shape k.shape.states l.graph p cell cell.name shown.stands;
          sized = shown.sized;
          few = shown.few;
          at_home = shown.at_home;
        });
    apart = l.shown.apart;
    objects_are = l.shown.objects_are;
    wrappers_are = l.shown.wrappers_are;
    mapped = l.shown.mapped;
    maps_at_home = l.shown.maps_at_home;
    entries_held = l.shown.entries_held;
    entries_are = l.shown.entries_are;
    entries_known = l.shown.entries_known;
    few_objects = subst (λ n. h.shape.objects ≤ n) (sym b.made_is) l.shown.few_objects;
  })

  lies_here : LiesIn k (record w { preparing = None; collection = Some bg.collection })
  lies_here = record {
    whole = subst AreWhole (ap (λ (s : Shape). s.arenas) (sym b.shape_is)) l.whole;
    graph = l.graph;
    shown = shows_begun;
    part = record { well_formed = l.part.well_formed; part = l.part.part; here = l.part.here };
    places_are = subst (λ (s : Shape). (x : Name) (p : Place) → (places.get w.places x ≡ Some p)
        ↔ (name_at s p ≡ Some x)) (sym b.shape_is) l.places_are;
    owner_is = l.owner_is ∙ ap (λ (s : Shape). owners_of s.arenas) (sym b.shape_is);
    weak_are = names_weakly_on h.shape k.shape (λ p x at. (stay_same h.shape k.shape
        (ap (λ (s : Shape). s.arenas) b.shape_is) l.whole).names p ∙ at) h.weak_names k.weak_names w.weak w.weak
        b.weak_names_is refl l.weak_are;
    out_is = l.out_is ∙ ap (λ (s : Shape). outs_from 0 s.arenas) (sym b.shape_is);
    white_are = λ x p. (let same = (stay_same h.shape k.shape (ap (λ (s : Shape). s.arenas) b.shape_is) l.whole).unswept
        p x in (
          λ has. same.1 ((l.white_are x p).0 has),
          λ un. (l.white_are x p).1 (same.0 un),
        ));
  }

  pub lies_begun : LiesIn k v
  lies_begun = subst (λ (u : World). LiesIn k u) (sym bg.world_is) lies_here

-- where no arena is out, none is in flight
own_bits : (flown : ℕ → Option Bits) (n : ℕ) (xs : List Bits) → ((a : ℕ) → flown a ≡ None) → with_flown flown n xs ≡ xs
own_bits flown n [] none = refl
own_bits flown n (x ∷ xs) none = ap (λ o. flown_or o x ∷ with_flown flown (suc n) xs) (none n)
    ∙ ap (λ ys. x ∷ ys) (own_bits flown (suc n) xs none)

pub none_flown : (h : HeapState) (flown : ℕ → Option Bits) → h.delayed ≡ no_places → Covers h.shape flown
    → ((a : ℕ) → out_of h.shape a ≡ None) → joined h flown ≡ h
none_flown h flown delayed covers none =
    ap (λ ds. record h { colours = ds; delayed = no_places })
    (own_bits flown 0 h.colours (λ a. gone (flown a) (covers a ∙ ap is_some (none a))))
    ∙ ap (λ (ps : Piles). record h { delayed = ps }) (sym delayed)
  where
    gone : (o : Option Bits) → is_some o ≡ false → o ≡ None
    gone None e = refl
    gone (Some b) e = absurd (cc e)

-- the states of the zones, and the collection that runs
module _ (h : HeapState) (old : Piles) (zones : ZoneSet) (c : CollectorState) (at : IsPrepared h old zones)
    (b : BeginsMarking h zones c.heap c.stack c.lists) where
  abbrev run : RunState
  run = record { zones = zones; formed = false; clearing = None }

  none_out_now : (a : ℕ) → out_of c.heap.shape a ≡ None
  none_out_now a = ap (λ (s : Shape). out_of s a) b.shape_is ∙ at.invariant.holds.colours.none_out a

  state_cases : (z : ℕ) → (HasZone zones.bits z × (state_in c.heap.shape z ≡ state.MarkBlackOnly))
      ⊎ ((HasZone zones.bits z → ⊥) × (state_in c.heap.shape z ≡ state.NoGC))
  state_cases z = elim (has_or_not zones.bits z) [
    | inl has ↦ inl (has, b.states z has)
    | inr n
        ↦ inr (n, b.other_states z n ∙ at.outside z n)
  ]

  pub states_begun : ((z : ℕ) → HasZone zones.bits z → z < length h.shape.states) → AreInStates c run
  states_begun made = record {
    outside = λ z n. b.other_states z n ∙ at.outside z n;
    made = λ z has. subst (λ n. z < n) (sym b.count) (made z has);
    early = λ e z has. b.states z has;
    later = λ e z group. absurd (cc e);
    ended = λ e z has none. absurd (cc e);
    sweeping = λ z a p is zone some. absurd (cc (some, none_out_now a));
    swept = λ none z e. elim (state_cases z) [ inl m ↦ cc (m.1, e) | inr n ↦ cc (n.1, e) ];
  }

  pub marking_are_begun : (z : ℕ) → Contains (zones_in zones) z ↔ (is_marking_state (state_in c.heap.shape z) ≡ true)
  marking_are_begun z = (
    λ has. ap is_marking_state (b.states z ((zones_in-has zones z).0 has)),
    λ e. elim (state_cases z) [
      | inl m ↦ (zones_in-has zones z).1 m.0
      | inr n
          ↦ absurd (cc (e, ap is_marking_state n.1))
    ],
  )

  -- but for what was looked at, the collection that has begun runs
  pub runs_begun : (w v : World) (bg : Begins w (zones_in zones) v)
      → ((z : ℕ) → HasZone zones.bits z → z < length h.shape.states) → AreTied c.heap c.stack c.lists v bg.collection
      → AreLookedAt c.heap c run v bg.collection → Runs c.heap c v run bg.collection
  runs_begun w v bg made tied looked = record {
    started = refl;
    zones_are = bg.zones_are;
    marking_are = λ z. subst (λ zs. Contains zs z ↔ (is_marking_state (state_in c.heap.shape z) ≡ true))
        (sym bg.marking_are) (marking_are_begun z);
    groups_are = bg.groups_are;
    states = states_begun made;
    tied = λ z marking. tied;
    early = λ e. looked;
  }

pub begins_marking : (h k : HeapState) (old stack : Piles) (lists : Incoming) (zones : ZoneSet) (w : World)
    → IsPrepared h old zones → BeginsMarking h zones k stack lists → LiesIn h w
    → MarkingInvariant k stack × GrayInvariant k stack lists
begins_marking h k old stack lists zones w at b l = (
  marking_begun h old zones k stack lists at b l.shown.registers_held l.shown.slots_held,
  gray_begun h old zones k stack lists at b l.shown.registers_held l.shown.slots_held,
)

pub begins_tied : (h k : HeapState) (old stack : Piles) (lists : Incoming) (zones : ZoneSet) (w v : World)
    → IsPrepared h old zones → BeginsMarking h zones k stack lists → LiesIn h w → IsValid w → AreBlackLeftOut h w
    → (bg : Begins w (zones_in zones) v) → LiesIn k v × AreTied k stack lists v bg.collection
begins_tied h k old stack lists zones w v at b l ok black bg = (
  lies_begun h old w v zones k stack lists at b l ok black bg,
  tied_begun h old w v zones k stack lists at b l ok black bg,
)
