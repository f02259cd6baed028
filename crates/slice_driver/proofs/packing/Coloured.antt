-- Colours after a compaction: each cell has the one that it had, and nothing waits for marking.
use Rattle.std.proofs.Common.{◌≡◌, ◌≢◌, ◌⊎◌, ◌<◌, ℕ, suc, false}
use Rattle.std.proofs.Common.{List, [], ◌∷◌, length, map, Option, Some, None, Contains, refl, sym, ap, subst, ◌∙◌, inl}
use Rattle.std.proofs.Common.{inr, arith}
use Rattle.std.specs.Option.{option_map}
use Rattle.gz_names.specs.Moves.{moved}
use Rattle.gz_names.specs.declared.numbers.Place.{Place}
use Rattle.cell_bits.specs.declared.bits.Colour.{Colour}
use Rattle.cell_bits.specs.declared.bits.Colour.TheVariants as colour
use Rattle.zones.specs.declared.states.State.TheVariants as state
use Rattle.mark_stack.specs.Stack.{Piles}
use Rattle.gray_lists.specs.Incoming.{Incoming, list_of as waiting_for}
use Rattle.weak_maps.specs.WeakMaps.{LooksState, NoneLeft}
use Rattle.weak_maps.specs.declared.colours.MarkColour.{MarkColour}
use Rattle.weak_maps.specs.declared.colours.MarkColour.TheVariants as mark
use Rattle.colour_defs.specs.World.{World}
use Rattle.colour_defs.proofs.Lists.{contains_head, nothing_in_none}
use Rattle.heap_core.specs.Heap.{HeapState, colour_of}
use Rattle.heap_core.specs.Moving.{zones_from}
use Rattle.heap_core.specs.Shape.{ArenaShape, IsDelegate, IsPresent, field_at, is_marking_state, is_white, state_in}
use Rattle.heap_core.specs.Shape.{zone_of}
use Rattle.barriers.specs.Colours.{IsBlack, IsGray, IsSeen}
use Rattle.barriers.specs.Invariant.{ColourInvariant, InvariantWhile, MarkingInvariant}
use Rattle.barriers.specs.PendingLive.{GrayInvariant, buffer_of}
use Rattle.barriers.specs.Reached.{HasEntry}
use Rattle.barriers.proofs.Scans.{once_empty}
use Rattle.barriers.proofs.Slots.{slots_most}
use Rattle.barriers.proofs.StayingLeft.{none_left as none_left_in}
use Rattle.slice_driver.specs.Represents.{IsColoured, NothingLeft, WaitsWhileMarking}
use Rattle.slice_driver.proofs.abstraction.Waits.{none_waiting}
use Rattle.slice_driver.proofs.packing.Delegates.{delegate_came}
use Rattle.slice_driver.proofs.packing.Entries.{entry_came}
use Rattle.slice_driver.proofs.packing.Fields.{field_came}
use Rattle.slice_driver.proofs.packing.NamedWeakly.{came}
use Rattle.slice_driver.proofs.packing.Packed.{Packed}
use Rattle.slice_driver.proofs.packing.Shape.{field_present, shape_after}

-- a colour that is not white is gray or black
seen_if : (h : HeapState) (p : Place) → colour_of h p ≢ colour.White → IsSeen h p
seen_if h p other = by (colour_of h p) refl
  where
    by : (k : Colour) → colour_of h p ≡ k → IsSeen h p
    by colour.White e = absurd (other e)
    by colour.Gray e = inl e
    by colour.Black e = inr e

not_white : (h : HeapState) (p : Place) → IsSeen h p → colour_of h p ≢ colour.White
not_white h p (inl gray) white = cc (gray, white)
not_white h p (inr black) white = cc (black, white)

-- as many arenas
zones_many : (zone first n : ℕ) (arenas : List ArenaShape) → length (zones_from zone first n arenas) ≡ length arenas
zones_many zone first n [] = refl
zones_many zone first n (arena ∷ arenas) = let rest = zones_many zone first (suc n) arenas in omega (arith, rest)

map_many : (arenas : List ArenaShape) → length (map (λ (arena : ArenaShape). arena.zone) arenas) ≡ length arenas
map_many [] = refl
map_many (arena ∷ arenas) = let rest = map_many arenas in omega (arith, rest)

-- the cells of an idle collector, which waits for nothing
pub record IsAtRest (h : HeapState) (p : Piles) (lists : Incoming) : Type 0 where
  pub coloured : IsColoured h p lists
  pub states : (z : ℕ) → state_in h.shape z ≡ state.NoGC
  pub black : p.black ≡ []
  pub gray : p.gray ≡ []

module _ (h new : HeapState) (w : World) (packed : Packed h new w) (p : Piles) (lists : Incoming)
    (rest : IsAtRest h p lists) where
  abbrev invariant : InvariantWhile [] h p
  invariant = rest.coloured.marks.holds

  abbrev waits : WaitsWhileMarking h p lists
  waits = rest.coloured.waits

  off : (z : ℕ) → is_marking_state (state_in h.shape z) ≡ false
  off z = ap is_marking_state (rest.states z)

  states_after : (z : ℕ) → state_in new.shape z ≡ state.NoGC
  states_after z = ap (λ (k : HeapState). state_in k.shape z) packed.relocates.rest ∙ rest.states z

  off_after : (z : ℕ) → is_marking_state (state_in new.shape z) ≡ false
  off_after z = ap is_marking_state (states_after z)

  nothing_left : NothingLeft h.looks
  nothing_left = waits.looks off

  none_to_follow : (x : Place) → Contains p.black x ⊎ (Contains p.wake x ⊎ Contains [] x) → ⊥
  none_to_follow x (inl on) = nothing_in_none x (subst (λ (xs : List Place). Contains xs x) rest.black on)
  none_to_follow x (inr (inl on)) =
      nothing_in_none x (subst (λ (xs : List Place). Contains xs x) rest.coloured.marks.none_woken on)
  none_to_follow x (inr (inr on)) = nothing_in_none x on

  -- a cell has its colour where it went
  seen_was : (q x : Place) → IsPresent h.shape q → moved packed.moves q ≡ x → IsSeen h q → IsSeen new x
  seen_was q x there went (inl gray) =
      inl (subst (IsGray new) went (packed.relocates.colours q there ∙ gray))
  seen_was q x there went (inr black) =
      inr (subst (IsBlack new) went (packed.relocates.colours q there ∙ black))

  black_now : (q x : Place) → IsPresent h.shape q → moved packed.moves q ≡ x → IsBlack h q → IsBlack new x
  black_now q x there went black = subst (IsBlack new) went (packed.relocates.colours q there ∙ black)

  black_then : (q x : Place) → IsPresent h.shape q → moved packed.moves q ≡ x → IsBlack new x → IsBlack h q
  black_then q x there went black =
      sym (packed.relocates.colours q there) ∙ subst (IsBlack new) (sym went) black

  seen_there : (x : Place) → IsPresent new.shape x → IsSeen new x
  seen_there x there =
      let from = packed.relocates.back x there in
      seen_was from.0 x from.1 from.2 (invariant.colours.no_white from.0 from.1 (off (zone_of h.shape from.0)))

  roots_black : (x : Place) → Contains new.shape.regs (Some x) → IsBlack new x
  roots_black x c =
      let has : Contains (map (option_map (moved packed.moves)) h.shape.regs) (Some x) =
      subst (λ (rs : List (Option Place)). Contains rs (Some x))
      (ap (λ (k : HeapState). k.shape.regs) packed.relocates.rest) c in
      let from = came (option_map (moved packed.moves)) h.shape.regs (Some x) has in
      by from.0 from.1 from.2
    where
      by : (o : Option Place) → Contains h.shape.regs o → option_map (moved packed.moves) o ≡ Some x → IsBlack new x
      by None held e = absurd (cc e)
      by (Some q) held e = black_now q x (packed.lies.shown.registers_held q held) (cc e)
          (invariant.colours.regs_black q held)

  many : length new.shape.arenas ≡ length h.shape.arenas
  many =
      let zones = ap (λ (zs : List ℕ). length zs) packed.relocates.owners in
      let now = map_many new.shape.arenas in
      let was = zones_many packed.zone packed.first 0 h.shape.arenas in
      omega (arith, zones, now, was)

  sized_after : length new.colours ≡ length new.shape.arenas
  sized_after = packed.relocates.sized invariant.colours.sized

  colours_after : ColourInvariant new
  colours_after = record {
    shape = shape_after h new w packed;
    sized = sized_after;
    seen_present = λ x seen. packed.relocates.clear
        (λ q other. invariant.colours.seen_present q (seen_if h q other)) x (not_white new x seen);
    no_white = λ x there outside. seen_there x there;
    no_gray = λ x marks gray. (let none = states_after (zone_of new.shape x) in absurd (cc (none, marks)));
    regs_black = roots_black;
  }

  -- what black cells lead to is black
  holds_after : InvariantWhile [] new p
  holds_after = record {
    colours = colours_after;
    piles = record {
      black = λ x on. absurd (none_to_follow x (inl on));
      wake = λ x on. absurd (none_to_follow x (inr (inl on)));
      gray = λ x on. absurd (nothing_in_none x (subst (λ (xs : List Place). Contains xs x) rest.gray on));
    };
    closed = λ x y black edge. inl (along x y black edge.0 edge.1 edge.2);
    weak_closed = λ m k v entry map_black key_black outside. inl (value m k v entry map_black key_black);
    key_closed = λ m k v d entry is map_black delegate_black.
        inl (key m k v d entry is map_black delegate_black);
  }
    where
      along : (x y : Place) → IsBlack new x → (f : ℕ) → f < 8 → field_at new.shape x f ≡ Some y → IsBlack new y
      along x y black f few e =
          let from = field_came h new w packed x y f (field_present new x y f e) e in
          elim (invariant.closed from.0 from.1 (black_then from.0 x from.2 from.4 black) (f, few, from.3)) [
            | inl turned ↦ black_now from.1 y (packed.lies.shown.fields_held from.0 from.1 f from.3) from.5 turned
            | inr on ↦ absurd (none_to_follow from.0 on)
          ]

      value : (m k v : Place) → HasEntry new.shape m k v → IsBlack new m → IsBlack new k → IsBlack new v
      value m k v entry map_black key_black =
          let from = entry_came h new w packed m k v entry in
          let held = packed.lies.shown.entries_held from.0 from.1 from.2 from.3 in
          elim (invariant.weak_closed from.0 from.1 from.2 from.3 (black_then from.0 m held.0 from.4 map_black)
          (black_then from.1 k held.1 from.5 key_black) (off (zone_of h.shape from.2))) [
            | inl turned ↦ black_now from.2 v held.2 from.6 turned
            | inr (inl on) ↦ absurd (none_to_follow from.0 on)
            | inr (inr on) ↦ absurd (none_to_follow from.1 on)
          ]

      key : (m k v d : Place) → HasEntry new.shape m k v → IsDelegate new.shape k d → IsBlack new m → IsBlack new d
          → IsBlack new k
      key m k v d entry is map_black delegate_black =
          let from = entry_came h new w packed m k v entry in
          let held = packed.lies.shown.entries_held from.0 from.1 from.2 from.3 in
          let target = delegate_came h new w packed from.1 k d held.1 from.5 is in
          let there = packed.lies.shown.fields_held from.1 target.0 0 target.1.1 in
          elim (invariant.key_closed from.0 from.1 from.2 target.0 from.3 target.1
          (black_then from.0 m held.0 from.4 map_black) (black_then target.0 d there target.2 delegate_black)) [
            | inl turned ↦ black_now from.1 k held.1 from.5 turned
            | inr (inl on) ↦ absurd (none_to_follow from.0 on)
            | inr (inr (inl on)) ↦ absurd (none_to_follow target.0 on)
            | inr (inr (inr left)) ↦ absurd (none_left_in h mark.Black nothing_left.1 nothing_left.1 from.0 from.1
                from.2 from.3 left)
          ]

-- what waits for marking: nothing
module _ (h new : HeapState) (w : World) (packed : Packed h new w) (p : Piles) (lists : Incoming)
    (rest : IsAtRest h p lists) where
  marks_after : MarkingInvariant new p
  marks_after = record {
    holds = holds_after h new w packed p lists rest;
    none_woken = rest.coloured.marks.none_woken;
    weak = record {
      black = λ m k v entry map_black key_black inside.
          (let out = off_after h new w packed p lists rest (zone_of new.shape v) in absurd (cc (out, inside)));
      gray = λ m k v entry map_seen key_seen inside.
          (let out = states_after h new w packed p lists rest (zone_of new.shape v) in absurd (cc (out, inside)));
      gray_key = λ m k v d entry is map_seen delegate_seen inside.
          (let out = states_after h new w packed p lists rest (zone_of new.shape k) in absurd (cc (out, inside)));
    };
    once = once_empty new p rest.black rest.gray;
  }

  -- nothing is buffered, and no wrapper waits
  buffers_empty : (z : ℕ) → buffer_of new z ≡ []
  buffers_empty z = ap (λ (k : HeapState). buffer_of k z) packed.relocates.rest
      ∙ rest.coloured.waits.buffered z (off h new w packed p lists rest z)

  none_buffered : (z : ℕ) (x : Place) → Contains (buffer_of new z) x → ⊥
  none_buffered z x on = nothing_in_none x (subst (λ (xs : List Place). Contains xs x) (buffers_empty z) on)

  none_incoming : (n : ℕ) (x : Place) → Contains (waiting_for lists n) x → ⊥
  none_incoming n x on =
      let marked = rest.coloured.waits.incoming n x on in
      let out = off h new w packed p lists rest marked.0 in
      let is = marked.2 in
      cc (out, is)

  none_listed : (n : ℕ) → waiting_for lists n ≡ []
  none_listed n = by (waiting_for lists n) refl
    where
      by : (xs : List Place) → waiting_for lists n ≡ xs → xs ≡ []
      by [] e = refl
      by (x ∷ xs) e = absurd (none_incoming n x (subst (λ (ys : List Place). Contains ys x) (sym e)
          (contains_head x xs)))

  gray_after : GrayInvariant new p lists
  gray_after = record {
    buffered_seen = λ z x on. absurd (none_buffered z x on);
    buffered_present = λ z x on. absurd (none_buffered z x on);
    incoming_seen = λ n x on. absurd (none_incoming n x on);
    closed = λ x y gray edge. inl (seen_there h new w packed p lists rest y
        ((shape_after h new w packed).targets x y edge));
    apart = λ n x on listed. absurd (none_incoming n x listed);
    lists_apart = rest.coloured.gray.lists_apart;
    few = (let waiting = none_waiting lists none_listed in
        let piled = ap (λ (xs : List Place). length xs) rest.gray in
        let most = slots_most is_white new.colours in
        omega (arith, waiting, piled, most));
    room = (let now = sized_after h new w packed p lists rest in
        let was = rest.coloured.marks.holds.colours.sized in
        let same = many h new w packed p lists rest in
        let room = rest.coloured.gray.room in
        omega (arith, now, was, same, room));
  }

  looks_same : new.looks ≡ h.looks
  looks_same = ap (λ (k : HeapState). k.looks) packed.relocates.rest

  left_after : NothingLeft new.looks
  left_after = subst (λ (looks : LooksState). NothingLeft looks) (sym looks_same)
      (nothing_left h new w packed p lists rest)

  none_at : (c : MarkColour) → NoneLeft c new.looks
  none_at mark.Gray = left_after.0
  none_at mark.Black = left_after.1

  waits_after : WaitsWhileMarking new p lists
  waits_after = record {
    piled = λ x on. absurd (nothing_in_none x (subst (λ (xs : List Place). Contains xs x) rest.gray on));
    buffered = λ z outside. buffers_empty z;
    incoming = λ n x on. absurd (none_incoming n x on);
    looks = λ outside. left_after;
    of_marking = record {
      maps = record { each = λ n entry c at looks. absurd (((none_at c).0 n).0 looks) };
      keys = record { each = λ n entry c at looks. absurd (((none_at c).0 n).1 looks) };
      rows = record { each = λ n row c at looks. absurd ((none_at c).1 n looks) };
    };
  }

  pub coloured_after : IsColoured new p lists
  coloured_after = record { marks = marks_after; gray = gray_after; waits = waits_after }
