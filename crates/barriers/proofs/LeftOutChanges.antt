-- While a collection is being prepared, changes towards dark cells keep what holds between calls.
use Rattle.std.proofs.Common.{◌≡◌, ◌≢◌, ℕ, false, inl, inr, refl, sym, ap, ◌∙◌, subst, Contains, List, length}
use Rattle.std.proofs.Common.{Option, Some, None, IsSome}
use Rattle.gz_names.specs.declared.numbers.Place.{Place}
use Rattle.cell_bits.specs.declared.bits.Bits.{Bits}
use Rattle.arena_table.specs.Cells.{CellState}
use Rattle.mark_stack.specs.Stack.{Piles}
use Rattle.heap_core.specs.Shape.{IsPresent, cell_of, field_in, is_marking, is_marking_state, is_prepare_state, out_of}
use Rattle.heap_core.specs.Heap.{HeapState}
use Rattle.barriers.specs.Birth.{Born}
use Rattle.barriers.specs.Colours.{IsBlack, IsSeen}
use Rattle.barriers.specs.LeftOut.{Counts, IsDark, PreparingInvariant}
use Rattle.barriers.specs.Rewiring.{HoldsDark, Rewired}
use Rattle.barriers.proofs.Births as births
use Rattle.barriers.proofs.Places.{same_or_other}
use Rattle.barriers.proofs.Rewiring as rewiring

-- registers hold dark cells
pub holds_dark : (h : HeapState) (p : Piles) → PreparingInvariant h p
    → ((x : Place) → Contains h.shape.regs (Some x) → IsPresent h.shape x) → HoldsDark (IsDark h) h.shape
holds_dark h p inv there = record {
  shape = inv.holds.colours.shape;
  regs = λ x held. record { there = there x held; black = λ counts. inv.holds.colours.regs_black x held counts };
}

-- edges, entries and what registers hold came and went
module _ (h k : HeapState) (r : Rewired (IsDark h) h k) where
  counts_on : (x : Place) → Counts h.shape x → Counts k.shape x
  counts_on x c = ap is_prepare_state (rewiring.state_same (IsDark h) h k r x) ∙ c

  counts_back : (x : Place) → Counts k.shape x → Counts h.shape x
  counts_back x c = sym (ap is_prepare_state (rewiring.state_same (IsDark h) h k r x)) ∙ c

  black_on : (x : Place) → IsBlack h x → IsBlack k x
  black_on x b = rewiring.colour_is (IsDark h) h k r x ∙ b

  black_back : (x : Place) → IsBlack k x → IsBlack h x
  black_back x b = sym (rewiring.colour_is (IsDark h) h k r x) ∙ b

  dark_on : (x : Place) → IsDark h x → Counts k.shape x → IsBlack k x
  dark_on x d c = black_on x (d.black (counts_back x c))

  pub rewired_preparing : (p : Piles) → PreparingInvariant h p → PreparingInvariant k p
  rewired_preparing p inv = record {
    holds = record {
      colours = record {
        shape = rewiring.shape_kept (IsDark h) h k r inv.holds.colours.shape (λ x d. d.there);
        sized = ap (λ (cs : List Bits). length cs) r.colours ∙ (inv.holds.colours.sized ∙ sym r.sized);
        none_out = λ a. r.outs a ∙ inv.holds.colours.none_out a;
        none_marking = λ x. ap is_marking_state (rewiring.state_same (IsDark h) h k r x)
            ∙ inv.holds.colours.none_marking x;
        seen_present = λ x s. rewiring.present_on (IsDark h) h k r x
            (inv.holds.colours.seen_present x (rewiring.seen_back (IsDark h) h k r x s));
        seen = λ x there c. rewiring.seen_on (IsDark h) h k r x
            (inv.holds.colours.seen x (rewiring.present_back (IsDark h) h k r x there) (counts_back x c));
        regs_black = λ x held c. dark_on x (r.regs x held) c;
        black = inv.holds.colours.black;
        gray = inv.holds.colours.gray;
        wake = λ x has. (let was = inv.holds.colours.wake x has in (black_on x was.0, counts_on x was.1));
      };
      closed = λ x y cx b e cy. elim (r.edges_now x y e) [
        | inr d ↦ inl (dark_on y d cy)
        | inl old ↦ elim (inv.holds.closed x y (counts_back x cx) (black_back x b) old (counts_back y cy))
            [ inl by ↦ inl (black_on y by) | inr c ↦ inr c ]
      ];
      weak_closed = λ m n v e cv bm bn. elim (r.entries_now m n v e) [
        | inr new ↦ inl (dark_on v new.black cv)
        | inl old ↦ elim (inv.holds.weak_closed m n v old (counts_back v cv) (black_back m bm) (black_back n bn))
            [ inl by ↦ inl (black_on v by) | inr c ↦ inr c ]
      ];
      key_closed = λ m n v d e is cn cd bm bd. elim (r.entries_now m n v e) [
        | inr new ↦ inl (dark_on n new.key_black cn)
        | inl old ↦ elim (inv.holds.key_closed m n v d old ((r.wrappers n d).0 is) (counts_back n cn)
            (counts_back d cd) (black_back m bm) (black_back d bd)) [ inl by ↦ inl (black_on n by) | inr c ↦ inr c ]
      ];
    };
    empty = inv.empty;
  }

-- a cell was made: it is black, or its zone is being prepared
module _ (h : HeapState) (x : Place) (k : HeapState) (b : Born (IsDark h) h x k) where
  counts_then : (y : Place) → IsPresent h.shape y → Counts k.shape y → Counts h.shape y
  counts_then y there c = sym (ap is_prepare_state (births.state_kept (IsDark h) h x k b y there)) ∙ c

  counts_now : (y : Place) → IsPresent h.shape y → Counts h.shape y → Counts k.shape y
  counts_now y there c = ap is_prepare_state (births.state_kept (IsDark h) h x k b y there) ∙ c

  was_black : (y : Place) → IsPresent h.shape y → IsBlack k y → IsBlack h y
  was_black y there black = sym (births.colour_kept (IsDark h) h x k b y there) ∙ black

  is_black : (y : Place) → IsPresent h.shape y → IsBlack h y → IsBlack k y
  is_black y there black = births.colour_kept (IsDark h) h x k b y there ∙ black

  dark_now : (y : Place) → IsDark h y → Counts k.shape y → IsBlack k y
  dark_now y d c = is_black y d.there (d.black (counts_then y d.there c))

  there_now : (y : Place) → y ≡ x → IsPresent k.shape y
  there_now y same = subst (λ (o : Option CellState). IsSome o) (sym (ap (cell_of k.shape) same ∙ b.cell_is)) refl

  abbrev was : (y : Place) → y ≢ x → IsPresent k.shape y → IsPresent h.shape y
  was = births.was_present (IsDark h) h x k b

  seen_then : (y : Place) → y ≢ x → IsSeen k y → IsSeen h y
  seen_then y other s = elim s [
    | inl g ↦ inl (sym (b.colours y other) ∙ g)
    | inr black ↦ inr (sym (b.colours y other) ∙ black)
  ]

  pub born_preparing : (p : Piles) → PreparingInvariant h p → HoldsDark (IsDark h) h.shape
      → ((a : ℕ) → out_of k.shape a ≡ None) → ((y : Place) → is_marking k.shape y ≡ false)
      → (Counts k.shape x → IsBlack k x) → PreparingInvariant k p
  born_preparing p inv dark none_out none_marking coloured = record {
    holds = record {
      colours = record {
        shape = births.shape_born (IsDark h) h x k b inv.holds.colours.shape (λ y d. d.there);
        sized = b.sized;
        none_out = none_out;
        none_marking = none_marking;
        seen_present = λ y s. elim (same_or_other y x) [
          | inl same ↦ there_now y same
          | inr other ↦ births.present_on (IsDark h) h x k b y
              (inv.holds.colours.seen_present y (seen_then y other s))
        ];
        seen = λ y there c. elim (same_or_other y x) [
          | inl same ↦ inr (subst (IsBlack k) (sym same) (coloured (subst (Counts k.shape) same c)))
          | inr other ↦ elim (inv.holds.colours.seen y (was y other there) (counts_then y (was y other there) c)) [
            | inl g ↦ inl (b.colours y other ∙ g)
            | inr black ↦ inr (b.colours y other ∙ black)
          ]
        ];
        regs_black = λ y held c. dark_now y (dark.regs y (subst (λ rs. Contains rs (Some y)) b.regs held)) c;
        black = inv.holds.colours.black;
        gray = inv.holds.colours.gray;
        wake = λ y has. (
            let then = inv.holds.colours.wake y has in
            let there = inv.holds.colours.seen_present y (inr then.0) in
            (is_black y there then.0, counts_now y there then.1));
      };
      closed = λ y z cy black e cz. elim (same_or_other y x) [
        | inl same ↦ inl (dark_now z
            (b.targets z e.0 e.1 (ap (λ (w : Place). field_in (cell_of k.shape w) e.0) (sym same) ∙ e.2)) cz)
        | inr other ↦ elim (births.edge_was (IsDark h) h x k b y z e) [
          | inr d ↦ inl (dark_now z d cz)
          | inl old ↦ (
              let py = births.field_present h.shape y z old.0 old.2 in
              let pz = inv.holds.colours.shape.targets y z old in
              elim (inv.holds.closed y z (counts_then y py cy) (was_black y py black) old (counts_then z pz cz))
              [ inl bz ↦ inl (is_black z pz bz) | inr c ↦ inr c ])
        ]
      ];
      weak_closed = λ m n v e cv bm bn. (
          let old = births.entry_was (IsDark h) h x k b m n v e in
          let all = inv.holds.colours.shape.entries m n v old in
          elim (inv.holds.weak_closed m n v old (counts_then v all.2 cv) (was_black m all.0 bm)
          (was_black n all.1 bn)) [ inl bv ↦ inl (is_black v all.2 bv) | inr c ↦ inr c ]);
      key_closed = λ m n v d e is cn cd bm bd. (
          let old = births.entry_was (IsDark h) h x k b m n v e in
          let all = inv.holds.colours.shape.entries m n v old in
          let leads = births.delegate_was (IsDark h) h x k b n d all.1 is in
          let pd = births.target_there (IsDark h) h x k b inv.holds.colours.shape n d leads in
          elim (inv.holds.key_closed m n v d old leads (counts_then n all.1 cn) (counts_then d pd cd)
          (was_black m all.0 bm) (was_black d pd bd)) [ inl bn ↦ inl (is_black n all.1 bn) | inr c ↦ inr c ]);
    };
    empty = inv.empty;
  }
