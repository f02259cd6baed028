-- Where nothing is left to mark for a group, exactly what is pending is coloured.
use Rattle.std.proofs.Common.{◌≡◌, ◌⊎◌, ℕ, Bool, true, false, inl, inr, refl, sym, ap, ◌∙◌, subst, Option}
use Rattle.std.proofs.Common.{arith, None, Some, is_some, Contains, List, []}
use Rattle.gz_names.specs.Zones.{HasZone}
use Rattle.gz_names.specs.declared.numbers.Place.{Place}
use Rattle.gz_names.specs.declared.zone_sets.ZoneSet.{ZoneSet}
use Rattle.zones.specs.declared.states.State.{State}
use Rattle.zones.specs.declared.states.State.TheVariants as state
use Rattle.arena_table.specs.Cells.{CellState}
use Rattle.mark_stack.specs.Stack.{Piles}
use Rattle.gray_lists.specs.Incoming.{Incoming}
use Rattle.heap_core.specs.Shape.{Shape, HasEdge, IsPresent, cell_of, field_in, is_marking, is_marking_state, state_in}
use Rattle.heap_core.specs.Shape.{state_of, zone_of}
use Rattle.heap_core.specs.Heap.{HeapState}
use Rattle.barriers.specs.Reached.{Reached, HasEntry}
use Rattle.barriers.specs.Reached as reached
use Rattle.barriers.specs.Colours.{IsBlack, IsSeen}
use Rattle.barriers.specs.Invariant.{IsToFollow, MarkingInvariant}
use Rattle.barriers.specs.PendingBlack.{PendingBlack}
use Rattle.barriers.specs.PendingBlack as black_closure
use Rattle.barriers.specs.PendingLive.{PendingLive, GrayInvariant, IsLiveStart, IsNotedFor}
use Rattle.barriers.specs.PendingLive as live_closure
use Rattle.zone_edges.specs.Looks.{IsKey}
use Rattle.barriers.proofs.Places.{nothing_in_none}
use Rattle.barriers.proofs.BlackClosure.{none_on_wake, pending_is_reached}
use Rattle.barriers.proofs.LiveClosure.{live_is_reached}
use Rattle.slice_driver.specs.GroupEnd.{IsMarked}

-- a zone is not marking, or marked black only, or takes gray
pub states_are : (s : Shape) (x : Place) → (is_marking s x ≡ false)
    ⊎ ((state_of s x ≡ state.MarkBlackOnly) ⊎ (state_of s x ≡ state.MarkBlackAndGray))
states_are s x = go (state_of s x) refl
  where
    go : (t : State) → state_of s x ≡ t → (is_marking s x ≡ false)
        ⊎ ((state_of s x ≡ state.MarkBlackOnly) ⊎ (state_of s x ≡ state.MarkBlackAndGray))
    go state.NoGC e = inl (ap is_marking_state e)
    go state.Prepare e = inl (ap is_marking_state e)
    go state.MarkBlackOnly e = inr (inl e)
    go state.MarkBlackAndGray e = inr (inr e)
    go state.Sweep e = inl (ap is_marking_state e)
    go state.Finished e = inl (ap is_marking_state e)

-- where an edge begins there is a cell
pub edge_from : (s : Shape) (x y : Place) → HasEdge s x y → IsPresent s x
edge_from s x y e = go (cell_of s x) refl
  where
    go : (o : Option CellState) → cell_of s x ≡ o → IsPresent s x
    go None q = absurd (cc (ap (λ o. field_in o e.0) q, e.2))
    go (Some c) q = ap is_some q

not_in_none : (xs : List Place) (x : Place) → xs ≡ [] → Contains xs x → ⊥
not_in_none xs x e c = nothing_in_none x (subst (λ ys. Contains ys x) e c)

-- zones that take gray are of the group, and an edge into the group from a zone that is marked black only leads to a
-- black cell; and so does an edge from a key of the group to such a zone
pub record IsOrdered (h : HeapState) (g : ZoneSet) : Type 0 where
  pub only : (z : ℕ) → state_in h.shape z ≡ state.MarkBlackAndGray → HasZone g.bits z
  pub order : (x y : Place) → HasEdge h.shape x y → state_of h.shape x ≡ state.MarkBlackOnly
      → HasZone g.bits (zone_of h.shape y) → IsBlack h y
  pub keys : (x y : Place) → HasEdge h.shape x y → IsKey h.shape x → HasZone g.bits (zone_of h.shape x)
      → state_of h.shape y ≡ state.MarkBlackOnly → IsBlack h y

module _ (h : HeapState) (p : Piles) (lists : Incoming) (inv : MarkingInvariant h p) (gray : GrayInvariant h p lists)
    (g : ZoneSet) (marked : IsMarked h p lists g) where
  -- nothing is to be followed
  none_follows : (x : Place) → IsToFollow [] p x → ⊥
  none_follows x (inl c) = not_in_none p.black x marked.black_empty c
  none_follows x (inr (inl c)) = none_on_wake h p x inv c
  none_follows x (inr (inr c)) = nothing_in_none x c

  pub black_follows : (x y : Place) → IsBlack h x → HasEdge h.shape x y → IsBlack h y
  black_follows x y b e = elim (inv.holds.closed x y b e) [ inl by ↦ by | inr c ↦ absurd (none_follows x c) ]

  pub black_values : (m k v : Place) → HasEntry h.shape m k v → IsBlack h m → IsBlack h k → IsBlack h v
  black_values m k v e bm bk = go (is_marking h.shape v) refl
    where
      go : (t : Bool) → is_marking h.shape v ≡ t → IsBlack h v
      go true t = marked.black_fixed m k v e bm bk t
      go false t = elim (inv.holds.weak_closed m k v e bm bk t) [
        | inl b ↦ b
        | inr (inl w) ↦ absurd (none_follows m w)
        | inr (inr w) ↦ absurd (none_follows k w)
      ]

  all_black : {x : Place} → Reached h.shape (IsBlack h) x → IsBlack h x
  all_black (reached.from b) = b
  all_black (reached.along {x} {y} r e) = black_follows x y (all_black r) e
  all_black (reached.weak {m} {k} {v} e a b) = black_values m k v e (all_black a) (all_black b)
  all_black (reached.delegate {m} {k} {v} {d} e is a b) = marked.black_keys m k v d e is (all_black a) (all_black b)

  pub pending_black : (x : Place) → PendingBlack h p x → IsBlack h x
  pending_black x l = all_black (pending_is_reached h p inv l)

  -- nothing waits on the list of a cell of the group
  not_noted : (x y : Place) → HasEdge h.shape x y → HasZone g.bits (zone_of h.shape y) → IsNotedFor h lists x y → ⊥
  not_noted x y e here n = go (cell_of h.shape y) refl
    where
      go : (o : Option CellState) → cell_of h.shape y ≡ o → ⊥
      go None at = cc (n.1, ap (Rattle.std.specs.Option.option_map (λ (c : CellState). c.comp)) at)
      go (Some cell) at =
          let same : Some cell.comp ≡ Some n.0 =
          sym (ap (Rattle.std.specs.Option.option_map (λ (c : CellState). c.comp)) at) ∙ n.1 in
          let number : cell.comp.0 ≡ n.0.0 = cc same in
          not_in_none _ x (marked.none_incoming (zone_of h.shape y) n.0.0 here
          (subst (λ i. Rattle.std.proofs.Common.slice_get h.shape.comps i ≡ Some (zone_of h.shape y)) number
          (inv.holds.colours.shape.at_home y cell at))) n.2

  pub seen_follows : (x y : Place) → IsSeen h x → HasEdge h.shape x y → HasZone g.bits (zone_of h.shape y) → IsSeen h y
  seen_follows x y (inr black) e here = inr (black_follows x y black e)
  seen_follows x y (inl gx) e here = elim (gray.closed x y gx e) [
    | inl seen ↦ seen
    | inr (inl c) ↦ absurd (not_in_none p.gray x marked.gray_empty c)
    | inr (inr (inl waits)) ↦ absurd (not_in_none _ x (marked.none_buffered (zone_of h.shape y) here) waits.0)
    | inr (inr (inr noted)) ↦ absurd (not_noted x y e here noted)
  ]

  module _ (ordered : IsOrdered h g) where
    all_seen : {x : Place} → Reached h.shape (IsLiveStart h) x → HasZone g.bits (zone_of h.shape x) → IsSeen h x
    all_seen (reached.from (inl seen)) here = seen
    all_seen (reached.from {x} (inr c)) here =
        absurd (not_in_none _ x (marked.none_buffered (zone_of h.shape x) here) c)
    all_seen (reached.along {x} {y} r e) here = elim (states_are h.shape x) [
      | inl rest ↦ seen_follows x y (inv.holds.colours.no_white x (edge_from h.shape x y e) rest) e here
      | inr (inl only) ↦ inr (ordered.order x y e only here)
      | inr (inr both) ↦ seen_follows x y (all_seen r (ordered.only _ both)) e here
    ]
    all_seen (reached.weak {m} {k} {v} e a b) here =
        let zones = inv.holds.colours.shape.one_zone m k v e in
        marked.gray_fixed m k v e (all_seen a (subst (λ z. HasZone g.bits z) (sym zones.0) here))
        (all_seen b (subst (λ z. HasZone g.bits z) (sym zones.1) here)) here
    all_seen (reached.delegate {m} {k} {v} {d} e is a b) here =
        let zones = inv.holds.colours.shape.one_zone m k v e in
        let seen_map : IsSeen h m = all_seen a (subst (λ z. HasZone g.bits z) (zones.1 ∙ sym zones.0) here) in
        let by_target : IsSeen h d → IsSeen h k = λ sd. marked.gray_keys m k v d e is seen_map sd here in
        elim (states_are h.shape d) [
          | inl rest ↦ by_target (inv.holds.colours.no_white d
              (inv.holds.colours.shape.targets k d (0, omega arith, is.1)) rest)
          | inr (inl only) ↦ by_target (inr (ordered.keys k d (0, omega arith, is.1) (m, v, e) here only))
          | inr (inr both) ↦ by_target (all_seen b (ordered.only _ both))
        ]

    pub pending_live : (x : Place) → PendingLive h p lists x → HasZone g.bits (zone_of h.shape x) → IsSeen h x
    pending_live x l here = all_seen (live_is_reached h p lists inv gray l) here

  pub seen_pending : (x : Place) → IsSeen h x → PendingLive h p lists x
  seen_pending x s = elim s [ inl gx ↦ live_closure.gray gx | inr b ↦ live_closure.black (black_closure.black b) ]
