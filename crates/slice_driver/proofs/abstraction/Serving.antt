-- What each kind of change of the heap leaves of marking.
use Rattle.std.proofs.Common.{◌≡◌, ◌≢◌, ◌⊎◌, ◌<◌, ◌≤◌, ◌*◌, ℕ, zero, suc, false, List, [], ◌∷◌, length, Option, Some}
use Rattle.std.proofs.Common.{None, IsSome, slice_get, inl, inr, refl, sym, ap, subst, ◌∙◌, arith}
use Rattle.std.specs.Option.{option_map}
use Rattle.gz_names.specs.declared.numbers.Place.{Place}
use Rattle.gz_names.specs.declared.replies.Reply.{Reply}
use Rattle.cell_bits.specs.declared.bits.Bits.{Bits}
use Rattle.arena_table.specs.Cells.{CellState}
use Rattle.zones.specs.declared.states.State.{State}
use Rattle.weak_maps.specs.WeakMaps.{WeakTableState, value_of}
use Rattle.mark_stack.specs.Stack.{Piles}
use Rattle.gray_lists.specs.Incoming.{Incoming}
use Rattle.heap_core.specs.declared.plans.Change.{Change}
use Rattle.heap_core.specs.Shape.{ArenaShape, HasEdge, IsPresent, Shape, cell_of, field_at, field_in, out_in, out_of}
use Rattle.heap_core.specs.Shape.{is_prepared, state_or, zone_of}
use Rattle.heap_core.specs.Heap.{HeapState, colour_in, colour_of, joined}
use Rattle.heap_core.specs.Plans.{ChangesBy, IsAble, handed_by, overwritten_by}
use Rattle.barriers.specs.Colours.{IsBlack}
use Rattle.barriers.specs.PendingLive.{GrayInvariant}
use Rattle.barriers.specs.Invariant.{ColourInvariant, MarkingInvariant}
use Rattle.barriers.specs.Spreading.{Covers}
use Rattle.barriers.specs.Birth.{Born}
use Rattle.barriers.specs.Rewiring.{Rewired}
use Rattle.barriers.proofs.Births.{born_black, born_gray, born_invariant, born_live}
use Rattle.barriers.proofs.Changing.{rewired_held}
use Rattle.barriers.proofs.Flying.{flown_length}
use Rattle.barriers.proofs.NewCells.{black_here}
use Rattle.barriers.proofs.Places.{same_or_other}
use Rattle.barriers.proofs.Rewiring.{comp_of_present, present_by_comp, rewired_black, rewired_gray, rewired_invariant}
use Rattle.barriers.proofs.Rewiring.{rewired_live}
use Rattle.zone_edges.specs.Looks.{WrapsBlack}
use Rattle.slice_driver.specs.Serves.{IsNew, Serves}
use Rattle.slice_driver.proofs.abstraction.Altering.{Alters, Bears, alters, bears, rewires, with_held}

-- an arena that is out is among those that are made
pub within_arenas : (s : Shape) (a : ℕ) → IsSome (out_of s a) → a < length s.arenas
within_arenas s a out = go s.arenas a out
  where
    go : (xs : List ArenaShape) (i : ℕ) → IsSome (out_in (slice_get xs i)) → i < length xs
    go [] i e = absurd (cc e)
    go (x ∷ xs) zero e = omega arith
    go (x ∷ xs) (suc i) e = let r = go xs i e in omega (arith, r)

-- nothing is new where only what leads to black cells changes
module _ (h k : HeapState) (r : Rewired (IsBlack h) h k) where
  rewired_there : (p : Place) → IsPresent h.shape p → IsPresent k.shape p
  rewired_there p there =
      (let c = comp_of_present h.shape p there in
      present_by_comp k.shape p c.0.comp
      (r.cells p ∙ ap (λ (o : Option CellState). option_map (λ (cell : CellState). cell.comp) o) c.1))

  rewired_before : (p : Place) → IsPresent k.shape p → IsPresent h.shape p
  rewired_before p there =
      (let c = comp_of_present k.shape p there in
      present_by_comp h.shape p c.0.comp
      (sym (r.cells p) ∙ ap (λ (o : Option CellState). option_map (λ (cell : CellState). cell.comp) o) c.1))

  rewired_colour : (p : Place) → colour_of k p ≡ colour_of h p
  rewired_colour p = ap (λ (cs : List Bits). colour_in (slice_get cs p.0) p.1) r.colours

  rewired_across : (p q : Place) → HasEdge k.shape p q → HasEdge h.shape p q ⊎ IsBlack k q
  rewired_across p q e = elim (r.edges_now p q e) [ inl old ↦ inl old | inr b ↦ inr (rewired_colour q ∙ b) ]

serves_rewired : (h k : HeapState) (s : Piles) (lists : Incoming) → MarkingInvariant h s → GrayInvariant h s lists
    → Rewired (IsBlack h) h k → Serves h k s lists
serves_rewired h k s lists inv gray r = record {
  marks = rewired_invariant (IsBlack h) h k r (λ x b. b) s inv;
  gray = rewired_gray (IsBlack h) h k r (λ x b. b) s lists gray;
  states = r.states;
  buffers = r.buffers;
  made = r.made;
  comps = r.comps;
  outs = r.outs;
  zones = λ p there. r.zones p;
  zones_out = λ p out. r.zones p;
  there = rewired_there h k r;
  darker = λ p b. rewired_colour h k r p ∙ b;
  same_black = λ p there b. sym (rewired_colour h k r p) ∙ b;
  pending_black = λ p. (let both = rewired_black (IsBlack h) h k r (λ x b. b) s inv p in (
    λ l. inl (both.0 l),
    λ l. elim l [ inl was ↦ both.1 was | inr new ↦ absurd (new.1 (rewired_before h k r p new.0)) ],
  ));
  pending_live = λ p. (let both = rewired_live (IsBlack h) h k r (λ x b. b) s lists inv gray p in (
    λ l. inl (both.0 l),
    λ l. elim l [ inl was ↦ both.1 was | inr new ↦ absurd (new.1 (rewired_before h k r p new.0)) ],
  ));
  edges_then = r.edges_then;
  entries_then = λ m q v e. elim (r.entries_then m q v e) [ inl now ↦ inl now | inr black ↦ inr black.0 ];
  keys = λ m q v e. elim (r.entries_now m q v e) [
    | inl old ↦ inl (v, old)
    | inr new ↦ inr (rewired_colour h k r q ∙ new.key_black)
  ];
  across = λ p q e ne. rewired_across h k r p q e;
}

serves_then : (h k j : HeapState) (s : Piles) (lists : Incoming) → ColourInvariant h → Serves h k s lists
    → Rewired (IsBlack k) k j → Serves h j s lists
serves_then h k j s lists colours a r = record {
  marks = rewired_invariant (IsBlack k) k j r (λ x b. b) s a.marks;
  gray = rewired_gray (IsBlack k) k j r (λ x b. b) s lists a.gray;
  states = λ z. r.states z ∙ a.states z;
  buffers = r.buffers ∙ a.buffers;
  made = omega (arith, a.made, r.made);
  comps = λ n z e. r.comps n z (a.comps n z e);
  outs = λ n. r.outs n ∙ a.outs n;
  zones = λ p there. r.zones p ∙ a.zones p there;
  zones_out = λ p out. r.zones p ∙ a.zones_out p out;
  there = λ p there. rewired_there k j r p (a.there p there);
  darker = λ p b. rewired_colour k j r p ∙ a.darker p b;
  same_black = λ p there b. a.same_black p there (sym (rewired_colour k j r p) ∙ b);
  pending_black = λ p. (let one = a.pending_black p in let two = rewired_black (IsBlack k) k j r (λ x b. b) s a.marks
      p in (
        λ l. elim (one.0 (two.0 l)) [ inl was ↦ inl was | inr new ↦ inr (new_on p new) ],
        λ l. two.1 (one.1 (elim l [ inl was ↦ inl was | inr new ↦ inr (new_back p new) ])),
      ));
  pending_live = λ p. (let one = a.pending_live p in let two = rewired_live (IsBlack k) k j r (λ x b. b) s lists
      a.marks a.gray p in (
        λ l. elim (one.0 (two.0 l)) [ inl was ↦ inl was | inr new ↦ inr (new_on p new) ],
        λ l. two.1 (one.1 (elim l [ inl was ↦ inl was | inr new ↦ inr (new_back p new) ])),
      ));
  edges_then = λ p q e. elim (a.edges_then p q e) [
    | inr b ↦ inr b
    | inl now ↦ elim (r.edges_then p q now) [
      | inl last ↦ inl last
      | inr b
          ↦ inr (a.same_black q (colours.shape.targets p q e) b)
    ]
  ];
  entries_then = λ m q v e. elim (a.entries_then m q v e) [
    | inr b ↦ inr b
    | inl now ↦ elim (r.entries_then m q v now) [
      | inl last ↦ inl last
      | inr b
          ↦ inr (a.same_black v (colours.shape.entries m q v e).2 b.0)
    ]
  ];
  keys = λ m q v e. elim (r.entries_now m q v e) [
    | inr new ↦ inr (rewired_colour k j r q ∙ new.key_black)
    | inl now ↦ elim (a.keys m q v now) [ inl old ↦ inl old | inr b ↦ inr (rewired_colour k j r q ∙ b) ]
  ];
  across = λ p q e ne. elim (rewired_across k j r p q e) [
    | inr b ↦ inr b
    | inl now ↦ elim (a.across p q now (λ same. ne (r.zones p ∙ (same ∙ sym (r.zones q)))))
        [ inl old ↦ inl old | inr b ↦ inr (rewired_colour k j r q ∙ b) ]
  ];
}
  where
    new_on : (p : Place) → IsNew h k p → IsNew h j p
    new_on p new = (rewired_there k j r p new.0, new.1)

    new_back : (p : Place) → IsNew h j p → IsNew h k p
    new_back p new = (rewired_before k j r p new.0, new.1)

-- the cell that was made is all that is new
module _ (h : HeapState) (x : Place) (k : HeapState) (b : Born (IsBlack h) h x k) (black : IsBlack k x) where
  born_there : (p : Place) → IsPresent h.shape p → IsPresent k.shape p
  born_there p there = elim (same_or_other p x) [
    | inl same ↦ subst (λ (o : Option CellState). IsSome o) (sym (ap (cell_of k.shape) same ∙ b.cell_is)) refl
    | inr other ↦ subst (λ (o : Option CellState). IsSome o) (sym (b.others p other)) there
  ]

  born_other : (p : Place) → IsPresent h.shape p → p ≢ x
  born_other p there same =
      (let gone : IsSome {T = CellState} None =
      subst (λ (o : Option CellState). IsSome o) (ap (cell_of h.shape) same ∙ b.free) there in cc gone)

  born_darker : (p : Place) → IsBlack h p → IsBlack k p
  born_darker p was =
      elim (same_or_other p x) [
        | inl same ↦ subst (IsBlack k) (sym same) black
        | inr other ↦ b.colours p other
            ∙ was
      ]

  is_new : (p : Place) → p ≡ x → IsNew h k p
  is_new p same = (
    subst (λ (o : Option CellState). IsSome o) (sym (ap (cell_of k.shape) same ∙ b.cell_is)) refl,
    λ there. born_other p there same,
  )

  new_is : (p : Place) → IsNew h k p → p ≡ x
  new_is p new = elim (same_or_other p x) [
    | inl same ↦ same
    | inr other
        ↦ absurd (new.1 (subst (λ (o : Option CellState). IsSome o) (b.others p other) new.0))
  ]

  from_present : (p q : Place) (f : ℕ) → field_at h.shape p f ≡ Some q → IsPresent h.shape p
  from_present p q f e = go (cell_of h.shape p) e
    where
      go : (o : Option CellState) → field_in o f ≡ Some q → IsSome o
      go None at = cc at
      go (Some cell) at = refl

  born_edge : (p q : Place) → HasEdge h.shape p q → HasEdge k.shape p q
  born_edge p q e = (
    e.0,
    e.1,
    ap (λ (o : Option CellState). field_in o e.0) (b.others p (born_other p (from_present p q e.0 e.2))) ∙ e.2,
  )

  born_across : (p q : Place) → HasEdge k.shape p q → HasEdge h.shape p q ⊎ IsBlack k q
  born_across p q e = elim (same_or_other p x) [
    | inl same ↦ inr (born_darker q (b.targets q e.0 e.1 (ap (λ (w : Place). field_at k.shape w e.0) (sym same) ∙ e.2)))
    | inr other ↦ inl (e.0, e.1, sym (ap (λ (o : Option CellState). field_in o e.0) (b.others p other)) ∙ e.2)
  ]

serves_born : (h : HeapState) (x : Place) (k : HeapState) (s : Piles) (lists : Incoming) → MarkingInvariant h s
    → GrayInvariant h s lists → 64 * length k.colours ≤ lists.room
    → ((a : ℕ) → out_of k.shape a ≡ out_of h.shape a)
    → ((p : Place) → IsSome (out_of h.shape p.0) → zone_of k.shape p ≡ zone_of h.shape p) → Born (IsBlack h) h x k
    → IsBlack k x → Serves h k s lists
serves_born h x k s lists inv gray more outs zones_out b black = record {
  marks = marks;
  gray = waits;
  states = λ z. ap (λ (xs : List State). state_or (slice_get xs z)) b.states;
  buffers = b.buffers;
  made = (let same : length k.shape.states ≡ length h.shape.states = ap (λ (xs : List State). length xs) b.states in
      omega (arith, same));
  comps = λ n z e. ap (λ (cs : List ℕ). slice_get cs n) b.comps ∙ e;
  outs = outs;
  zones = b.zones;
  zones_out = zones_out;
  there = born_there h x k b black;
  darker = born_darker h x k b black;
  same_black = λ p there now. sym (b.colours p (born_other h x k b black p there)) ∙ now;
  pending_black = λ p. (let both = born_black (IsBlack h) h x k b (λ y d. d) black s inv marks p in (
    λ l. elim (both.0 l) [ inl was ↦ inl was | inr same ↦ inr (is_new h x k b black p same) ],
    λ l. both.1 (elim l [ inl was ↦ inl was | inr new ↦ inr (new_is h x k b black p new) ]),
  ));
  pending_live = λ p. (let both = born_live (IsBlack h) h x k b (λ y d. d) black s lists inv gray marks waits p in (
    λ l. elim (both.0 l) [ inl was ↦ inl was | inr same ↦ inr (is_new h x k b black p same) ],
    λ l. both.1 (elim l [ inl was ↦ inl was | inr new ↦ inr (new_is h x k b black p new) ]),
  ));
  edges_then = λ p q e. inl (born_edge h x k b black p q e);
  keys = λ m q v e. inl (v, sym (ap (λ (w : WeakTableState). value_of w m q) b.weak) ∙ e);
  entries_then = λ m q v e. inl (ap (λ (w : WeakTableState). value_of w m q) b.weak ∙ e);
  across = λ p q e ne. born_across h x k b black p q e;
}
  where
    marks : MarkingInvariant k s
    marks = born_invariant (IsBlack h) h x k b (λ y d. d) black s inv

    waits : GrayInvariant k s lists
    waits = born_gray (IsBlack h) h x k b (λ y d. d) black s lists inv gray more

module _ (old new : HeapState) (flown : ℕ → Option Bits) (s : Piles) (lists : Incoming)
    (inv : MarkingInvariant (joined old flown) s) (gray : GrayInvariant (joined old flown) s lists)
    (covers : Covers old.shape flown) (room : 64 * length new.colours ≤ lists.room)
    (none_prepared : (z : ℕ) → is_prepared old.shape z ≡ false) where
  abbrev h : HeapState
  h = joined old flown

  ci : ColourInvariant h
  ci = inv.holds.colours

  made_more : (between : HeapState) → new.colours ≡ between.colours
      → 64 * length (joined between flown).colours ≤ lists.room
  made_more between e = let n = flown_length flown 0 between.colours in
      let m : length new.colours ≡ length between.colours = ap (λ (xs : List Bits). length xs) e in
      omega (arith, n, m, room)

  -- arenas that are out keep their zones as a cell is made
  zones_made : (between : HeapState)
      → ((p : Place) → p.0 < length old.shape.arenas → zone_of between.shape p ≡ zone_of old.shape p) → (p : Place)
      → IsSome (out_of old.shape p.0) → zone_of between.shape p ≡ zone_of old.shape p
  zones_made between zones p out = zones p (within_arenas old.shape p.0 out)

  serves_bears : Bears (IsBlack h) old new flown → Serves h (joined new flown) s lists
  serves_bears b =
      let k : HeapState = joined b.made flown in
      let black : IsBlack k b.place = black_here old b.made flown b.zone b.place b.cell b.makes covers ci.shape ci.sized
      (none_prepared b.zone) in
      let first : Serves h k s lists = serves_born h b.place k s lists inv gray
      (made_more b.made (ap (λ (z : HeapState). z.colours) b.rest)) b.makes.outs (zones_made b.made b.makes.zones)
      b.birth black in
      let colours = first.marks.holds.colours in
      subst (λ (z : HeapState). Serves h (joined z flown) s lists) (sym b.rest)
      (serves_then h k (joined (with_held b.made b.held) flown) s lists ci first
      (rewired_held (IsBlack k) k b.held (record { shape = colours.shape; regs = colours.regs_black })
      (λ x has. elim (b.regs x has) [
        | inl was ↦ first.darker x (ci.regs_black x was)
        | inr is ↦ subst (IsBlack k) (sym is) black
      ])))

  serves_altered : Alters (IsBlack h) old new flown → Serves h (joined new flown) s lists
  serves_altered (rewires r) = serves_rewired h (joined new flown) s lists inv gray r
  serves_altered (bears b) = serves_bears b

  pub serves : (n : ℕ) (ch : Change) (answer : Reply) → IsAble old.shape n ch
      → ((p : Place) → overwritten_by old.shape ch ≡ Some p → IsBlack h p)
      → ((p : Place) → handed_by ch ≡ Some p → IsBlack h p) → WrapsBlack h ch → ChangesBy old ch answer new
      → Serves h (joined new flown) s lists
  serves n ch answer able gone handed target by = serves_altered (alters (IsBlack h) old new flown
      (record { shape = ci.shape; regs = ci.regs_black }) (λ x b. ci.seen_present x (inr b)) covers ci.sized n ch answer
      able gone handed target by)
