-- What a command's change of the heap keeps while a collection is being prepared.
use Rattle.std.proofs.Common.{◌≡◌, ◌≢◌, ◌<◌, ◌≤◌, ◌==◌, ◌+◌, ℕ, Bool, true, false, List, length, Option, Some}
use Rattle.std.proofs.Common.{IsSome, is_some, Contains, slice_get, if◌then◌else◌, inl, inr, refl, sym, ap, subst, ◌∙◌}
use Rattle.std.proofs.Common.{arith}
use Rattle.gz_names.specs.declared.numbers.CompNo.{CompNo}
use Rattle.gz_names.specs.declared.numbers.Place.{Place}
use Rattle.gz_names.specs.declared.replies.Reply.{Reply}
use Rattle.cell_bits.specs.declared.bits.Bits.{Bits}
use Rattle.cell_bits.specs.declared.bits.Colour.TheVariants as colour
use Rattle.zones.specs.declared.states.State.{State}
use Rattle.arena_table.specs.Cells.{CellState}
use Rattle.mark_stack.specs.Stack.{Piles, no_places}
use Rattle.heap_core.specs.declared.plans.Change.{Change}
use Rattle.heap_core.specs.declared.plans.Change.TheVariants as change
use Rattle.heap_core.specs.Shape.{IsPresent, is_marking_state, is_prepare_state, is_prepared, out_of}
use Rattle.heap_core.specs.Shape.{ArenaShape, HasEdge, IsDelegate, Shape, cell_in_arena, field_in, state_in, state_or}
use Rattle.heap_core.specs.Shape.{zone_of}
use Rattle.weak_maps.specs.WeakMaps.{value_of}
use Rattle.heap_core.specs.Heap.{HeapState, colour_of, joined}
use Rattle.heap_core.specs.Plans.{ChangesBy, IsAble, handed_by, overwritten_by}
use Rattle.heap_core.proofs.MakingCells.{same-place}
use Rattle.barriers.specs.Birth.{Born}
use Rattle.barriers.specs.Colours.{IsBlack}
use Rattle.barriers.specs.Invariant.{ShapeInvariant}
use Rattle.barriers.specs.LeftOut.{Counts, IsDark, PreparingInvariant, ReachedLeftOut}
use Rattle.barriers.specs.LeftOut as reached
use Rattle.barriers.specs.Reached.{HasEntry}
use Rattle.barriers.specs.Rewiring.{HoldsDark, Rewired}
use Rattle.barriers.specs.Spreading.{Covers}
use Rattle.barriers.proofs.Births as births
use Rattle.barriers.proofs.Changing.{rewired_held}
use Rattle.barriers.proofs.Flying.{flown_length}
use Rattle.barriers.proofs.LeftOutChanges.{born_preparing, holds_dark, rewired_preparing}
use Rattle.barriers.proofs.Rewiring as rewiring
use Rattle.slice_driver.proofs.abstraction.Altering.{Alters, Bears, alters, bears, rewires, with_held}
use Rattle.slice_driver.proofs.commanding.Viewed.{delayed_kept}
use Rattle.slice_driver.proofs.dumping.Reading.{joined_own}

-- the colours that count are closed afterwards; zones and arenas are as they were, but that some may be added; and
-- cells
-- that were there, or whose zones are being prepared, have the colours that they had
pub record KeepsCounts (m k : HeapState) (p : Piles) : Type 0 where
  pub invariant : PreparingInvariant k p
  pub buffers : k.buffers ≡ m.buffers
  pub states : (z : ℕ) → state_in k.shape z ≡ state_in m.shape z
  pub made : length m.shape.states ≤ length k.shape.states
  pub outs : (a : ℕ) → out_of k.shape a ≡ out_of m.shape a
  pub longer : length m.shape.arenas ≤ length k.shape.arenas
  pub zones : (q : Place) → q.0 < length m.shape.arenas → zone_of k.shape q ≡ zone_of m.shape q
  pub zones_there : (q : Place) → IsPresent m.shape q → zone_of k.shape q ≡ zone_of m.shape q
  pub there : (q : Place) → IsPresent m.shape q → IsPresent k.shape q
  pub colours : (q : Place) → IsPresent m.shape q → colour_of k q ≡ colour_of m q
  pub pale : (q : Place) → is_prepared m.shape (zone_of k.shape q) ≡ true → colour_of k q ≡ colour_of m q

-- edges, entries and delegates stay
pub record GraphStays (s t : Shape) : Type 0 where
  pub edges : (x y : Place) → HasEdge s x y → HasEdge t x y
  pub entries : (m k v : Place) → HasEntry s m k v → HasEntry t m k v
  pub delegates : (n d : Place) → IsDelegate s n d → IsDelegate t n d

pub graph_same : (s t : Shape) → t.arenas ≡ s.arenas → t.weak ≡ s.weak → GraphStays s t
graph_same s t arenas weak = record {
  edges = λ x y e. (
    e.0,
    e.1,
    ap (λ (xs : List ArenaShape). field_in (cell_in_arena (slice_get xs x.0) x.1) e.0) arenas ∙ e.2,
  );
  entries = λ m k v e. ap (λ w. value_of w m k) weak ∙ e;
  delegates = λ n d is.
      subst (λ (xs : List ArenaShape). IsDelegate (record t { arenas = xs }) n d) (sym arenas) is;
}

-- so what is reached stays reached
pub reached_stays : (s t : Shape) → GraphStays s t → ShapeInvariant s
    → ((x : Place) → IsPresent s x → Counts s x → Counts t x) → (P Q : Place → Type 0)
    → ((x : Place) → Counts s x → P x → IsPresent s x × Q x) → {x : Place} → ReachedLeftOut s P x
    → ReachedLeftOut t Q x
reached_stays s t g inv on P Q f (reached.from {x} counts p) =
    (let both = f x counts p in reached.from (on x both.0 counts) both.1)
reached_stays s t g inv on P Q f (reached.along {x} {y} r e counts) =
    reached.along (reached_stays s t g inv on P Q f r) (g.edges x y e) (on y (inv.targets x y e) counts)
reached_stays s t g inv on P Q f (reached.weak {m} {k} {v} e counts a b) =
    reached.weak (g.entries m k v e) (on v (inv.entries m k v e).2 counts) (reached_stays s t g inv on P Q f a)
    (reached_stays s t g inv on P Q f b)
reached_stays s t g inv on P Q f (reached.delegate {m} {k} {v} {d} e is counts a b) =
    reached.delegate (g.entries m k v e) (g.delegates k d is) (on k (inv.entries m k v e).1 counts)
    (reached_stays s t g inv on P Q f a) (reached_stays s t g inv on P Q f b)

-- what such a change begins with
pub record MayChange (m : HeapState) (p : Piles) (flying : ℕ → Option Bits) : Type 0 where
  pub invariant : PreparingInvariant m p
  pub calm : (z : ℕ) → is_marking_state (state_in m.shape z) ≡ false
  pub delayed : m.delayed ≡ no_places
  pub covers : Covers m.shape flying
  pub regs : (x : Place) → Contains m.shape.regs (Some x) → IsPresent m.shape x

module _ (m k : HeapState) (p : Piles) (flying : ℕ → Option Bits) (may : MayChange m p flying)
    (delayed : k.delayed ≡ no_places) where
  holds : HoldsDark (IsDark m) m.shape
  holds = holds_dark m p may.invariant may.regs

  own : joined m flying ≡ m
  own = joined_own m flying may.covers may.invariant.holds.colours.none_out may.delayed

  -- a heap in which no arena more is out
  own_as : (h : HeapState) → ((a : ℕ) → out_of h.shape a ≡ out_of m.shape a) → h.delayed ≡ no_places
      → joined h flying ≡ h
  own_as h outs none = joined_own h flying (λ a. may.covers a ∙ ap (λ (o : Option Bits). is_some o)
      (sym (outs a))) (λ a. outs a ∙ may.invariant.holds.colours.none_out a) none

  keeps_rewired : Rewired (IsDark m) (joined m flying) (joined k flying) → KeepsCounts m k p
  keeps_rewired joined_r = record {
    invariant = rewired_preparing m k r p may.invariant;
    buffers = r.buffers;
    states = r.states;
    made = r.made;
    outs = r.outs;
    longer = (let same = r.sized in omega (arith, same));
    zones = λ q lt. r.zones q;
    zones_there = λ q there. r.zones q;
    there = rewiring.present_on (IsDark m) m k r;
    colours = λ q there. rewiring.colour_is (IsDark m) m k r q;
    pale = λ q prepared. rewiring.colour_is (IsDark m) m k r q;
  }
    where
      r : Rewired (IsDark m) m k
      r = subst (λ (z : HeapState). Rewired (IsDark m) z k) own
          (subst (λ (z : HeapState). Rewired (IsDark m) (joined m flying) z) (own_as k joined_r.outs delayed) joined_r)

  module _ (b : Bears (IsDark m) m k flying) where
    made_delayed : b.made.delayed ≡ no_places
    made_delayed = ap (λ (h : HeapState). h.delayed) b.makes.rest ∙ may.delayed

    birth : Born (IsDark m) m b.place b.made
    birth = subst (λ (z : HeapState). Born (IsDark m) z b.place b.made) own
        (subst (λ (z : HeapState). Born (IsDark m) (joined m flying) b.place z)
        (own_as b.made b.makes.outs made_delayed) b.birth)

    state_same : (z : ℕ) → state_in b.made.shape z ≡ state_in m.shape z
    state_same z = ap (λ (xs : List State). state_or (slice_get xs z)) birth.states

    -- the new cell is black, unless its zone is being prepared
    coloured : Counts b.made.shape b.place → IsBlack b.made b.place
    coloured counts =
        let zone : zone_of b.made.shape b.place ≡ b.zone = b.makes.zone_is in
        let none : is_prepared m.shape b.zone ≡ false =
        ap is_prepare_state (sym (state_same b.zone)) ∙ (ap (is_prepared b.made.shape) (sym zone) ∙ counts) in
        b.makes.born ∙ ap (λ t. if t then colour_of m b.place else colour.Black)
        none

    invariant_made : PreparingInvariant b.made p
    invariant_made = born_preparing m b.place b.made birth p may.invariant holds
        (λ a. b.makes.outs a ∙ may.invariant.holds.colours.none_out a)
        (λ y. ap is_marking_state (state_same (zone_of b.made.shape y)) ∙ may.calm (zone_of b.made.shape y)) coloured

    new_there : IsPresent b.made.shape b.place
    new_there = subst (λ (o : Option CellState). IsSome o) (sym birth.cell_is) refl

    still_there : (q : Place) → IsPresent m.shape q → IsPresent b.made.shape q
    still_there = births.present_on (IsDark m) m b.place b.made birth

    regs_there : (x : Place) → Contains b.made.shape.regs (Some x) → IsPresent b.made.shape x
    regs_there x has = still_there x (may.regs x (subst (λ rs. Contains rs (Some x)) birth.regs has))

    -- and a register holds it
    held : Rewired (IsDark b.made) b.made (with_held b.made b.held)
    held = rewired_held (IsDark b.made) b.made b.held (holds_dark b.made p invariant_made regs_there) (λ x has.
        elim (b.regs x has) [
          | inl was ↦ record {
            there = still_there x (may.regs x was);
            black = λ counts. invariant_made.holds.colours.regs_black x
                (subst (λ rs. Contains rs (Some x)) (sym birth.regs) was) counts;
          }
          | inr same ↦ subst (IsDark b.made) (sym same) (record { there = new_there; black = coloured })
        ])

    longer_made : length m.shape.arenas ≤ length b.made.shape.arenas
    longer_made = go (b.place.0 == length m.shape.arenas) b.makes.grown
      where
        go : (t : Bool) → length b.made.shape.arenas
            ≡ (if t then length m.shape.arenas + 1 else length m.shape.arenas)
            → length m.shape.arenas ≤ length b.made.shape.arenas
        go true e = omega arith
        go false e = omega arith

    pale_made : (q : Place) → is_prepared m.shape (zone_of b.made.shape q) ≡ true → colour_of b.made q ≡ colour_of m q
    pale_made q prepared = elim (same-place q b.place) [
      | inr other ↦ b.makes.colours q other.0
      | inl same ↦ (
          let zone : zone_of b.made.shape q ≡ b.zone = ap (zone_of b.made.shape) same.0 ∙ b.makes.zone_is in
          let some : is_prepared m.shape b.zone ≡ true = ap (is_prepared m.shape) (sym zone) ∙ prepared in
          ap (colour_of b.made) same.0 ∙ (b.makes.born
          ∙ (ap (λ t. if t then colour_of m b.place
          else colour.Black) some
          ∙ ap (colour_of m) (sym same.0))))
    ]

    keeps_born : KeepsCounts m (with_held b.made b.held) p
    keeps_born = record {
      invariant = rewired_preparing b.made (with_held b.made b.held) held p invariant_made;
      buffers = birth.buffers;
      states = state_same;
      made = (let same : length b.made.shape.states ≡ length m.shape.states =
          ap (λ (xs : List State). length xs) birth.states in omega (arith, same));
      outs = b.makes.outs;
      longer = longer_made;
      zones = b.makes.zones;
      zones_there = birth.zones;
      there = still_there;
      colours = births.colour_kept (IsDark m) m b.place b.made birth;
      pale = pale_made;
    }

  -- the new cell, as it stands afterwards
  pub bears_black : (b : Bears (IsDark m) m k flying) → Counts k.shape b.place → IsBlack k b.place
  bears_black b counts = subst (λ (z : HeapState). IsBlack z b.place) (sym b.rest)
      (coloured b (subst (λ (z : HeapState). Counts z.shape b.place) b.rest counts))

  pub bears_was : (b : Bears (IsDark m) m k flying) → (q : Place) → q ≢ b.place → IsPresent k.shape q
      → IsPresent m.shape q
  bears_was b q other there = births.was_present (IsDark m) m b.place b.made (birth b) q other
      (subst (λ (z : HeapState). IsPresent z.shape q) b.rest there)

  pub bears_stays : (b : Bears (IsDark m) m k flying) → GraphStays m.shape k.shape
  bears_stays b = subst (λ (z : HeapState). GraphStays m.shape z.shape) (sym b.rest) (record {
    edges = λ x y e. births.edge_on (IsDark m) m b.place b.made (birth b) x y
        (births.field_present m.shape x y e.0 e.2) e;
    entries = births.entry_on (IsDark m) m b.place b.made (birth b);
    delegates = λ n d is. births.delegate_on (IsDark m) m b.place b.made (birth b) n d
        (births.field_present m.shape n d 0 is.1) is;
  })

  keeps_altered : Alters (IsDark m) m k flying → KeepsCounts m k p
  keeps_altered (rewires r) = keeps_rewired r
  keeps_altered (bears b) = subst (λ (z : HeapState). KeepsCounts m z p) (sym b.rest) (keeps_born b)

-- what the change leads to is dark: it is present, and was exposed
module _ (m k : HeapState) (p : Piles) (flying : ℕ → Option Bits) (may : MayChange m p flying) (ch : Change)
    (answer : Reply) (by : ChangesBy m ch answer k) where
  k_delayed : k.delayed ≡ no_places
  k_delayed = delayed_kept m k ch answer by ∙ may.delayed

  pub altered : (n : ℕ) → IsAble m.shape n ch → ((q : Place) → overwritten_by m.shape ch ≡ Some q → IsDark m q)
      → ((q : Place) → handed_by ch ≡ Some q → IsDark m q)
      → ((r z : ℕ) (c : CompNo) (t : Place) → ch ≡ change.Wrapper r z c t → IsDark m t) → Alters (IsDark m) m k flying
  altered n able gone handed target = alters (IsDark m) m k flying (holds_dark m p may.invariant may.regs)
      (λ x d. d.there) may.covers (flown_length flying 0 m.colours ∙ may.invariant.holds.colours.sized) n ch answer able
      gone handed target by

  pub keeps_counts : Alters (IsDark m) m k flying → KeepsCounts m k p
  keeps_counts a = keeps_altered m k p flying may k_delayed a
