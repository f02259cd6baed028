-- After the end of a group what holds of marking goes on to hold, and as much is left to mark.
use Rattle.std.proofs.Common.{◌≡◌, ◌≢◌, ◌⊎◌, ◌↔◌, ◌<◌, ◌≤◌, ◌+◌, ◌*◌, ℕ, Bool, true, false, cond, inl, inr, refl, sym}
use Rattle.std.proofs.Common.{ap, ◌∙◌, subst, arith, None, Some, List, [], length, Contains, slice_get}
use Rattle.std.specs.Option.{option_map}
use Rattle.gz_names.specs.Zones.{HasZone}
use Rattle.gz_names.specs.declared.numbers.Place.{Place}
use Rattle.cell_bits.specs.declared.bits.Bits.{Bits}
use Rattle.zones.specs.declared.states.State.TheVariants as state
use Rattle.arena_table.specs.Cells.{CellState}
use Rattle.arena_table.specs.Indexed.{in_zones}
use Rattle.roots.specs.Buffers.{buffer_at}
use Rattle.gray_lists.specs.Incoming.{waiting_count}
use Rattle.colour_defs.specs.World.{World}
use Rattle.colour_defs.proofs.Lists.{both_of, first_of_both, second_of_both}
use Rattle.heap_core.specs.Shape.{ArenaShape, HasEdge, IsDelegate, IsPresent, field_at, field_in, is_marking}
use Rattle.heap_core.specs.Shape.{is_marking_state, is_white, out_of, state_in, zone_of}
use Rattle.heap_core.specs.Heap.{HeapState, colour_in, colour_of}
use Rattle.barriers.specs.Reached.{Reached, HasEntry}
use Rattle.barriers.specs.Reached as reached
use Rattle.barriers.specs.Colours.{IsBlack, IsSeen, slots_in}
use Rattle.weak_maps.specs.declared.colours.MarkColour.TheVariants as mark
use Rattle.barriers.specs.WeakPoint.{WeakPoint, left_of}
use Rattle.barriers.proofs.Scans.{once_alike}
use Rattle.barriers.proofs.StayingLeft.{carried_stay}
use Rattle.barriers.specs.Invariant.{ColourInvariant, MarkingInvariant, ShapeInvariant}
use Rattle.barriers.specs.PendingBlack.{PendingBlack}
use Rattle.barriers.specs.PendingBlack as black_closure
use Rattle.barriers.specs.PendingLive.{PendingLive, GrayInvariant, IsCovered, IsLiveStart, buffer_of}
use Rattle.barriers.proofs.Places.{nothing_in_none}
use Rattle.barriers.proofs.BlackClosure.{pending_is_reached, reached_is_pending}
use Rattle.barriers.proofs.LiveClosure.{live_is_reached, reached_is_live}
use Rattle.slice_driver.specs.Collector.{CollectorState}
use Rattle.slice_driver.proofs.group_end.Ready.{gray, inv, ordered}
use Rattle.slice_driver.proofs.group_end.Colours.{colours_are}
use Rattle.slice_driver.proofs.group_end.Cells.{handed_length, has_in_zones, in_zones_has, is_dead, is_white_colour}
use Rattle.slice_driver.proofs.group_end.Cells.{out_at_end, some_out, zone_or_not}
use Rattle.slice_driver.proofs.group_end.Heaps.{arenas_are, cell_back, cell_on, edge_alive, entry_on, entry_present}
use Rattle.slice_driver.proofs.group_end.Heaps.{entry_was, present_back, present_on, shows_after, sized, zones}
use Rattle.slice_driver.proofs.group_end.Places.{black_follows, black_values, edge_from, pending_black, pending_live}
use Rattle.slice_driver.proofs.group_end.Worlds.{is_white_test}
use Rattle.slice_driver.proofs.group_end.Ending.{Ending}

module _ (c : CollectorState) (w : World) (n : HeapState) (end : Ending c w n) where
  open end use {flown, collection as k, group as g, rest, ready as ending, ended as e}

  was : MarkingInvariant c.heap c.stack
  was = inv c flown w k g rest ending

  was_gray : GrayInvariant c.heap c.stack c.lists
  was_gray = gray c flown w k g rest ending

  pub colours_same : n.colours ≡ c.heap.colours
  colours_same = ap (λ (z : HeapState). z.colours) e.rest

  buffers_same : n.buffers ≡ c.heap.buffers
  buffers_same = ap (λ (z : HeapState). z.buffers) e.rest

  colour_same : (p : Place) → colour_of n p ≡ colour_of c.heap p
  colour_same p = ap (λ (cs : List Bits). colour_in (slice_get cs p.0) p.1) colours_same

  pub black_on : (p : Place) → IsBlack c.heap p → IsBlack n p
  black_on p b = colour_same p ∙ b

  pub black_back : (p : Place) → IsBlack n p → IsBlack c.heap p
  black_back p b = sym (colour_same p) ∙ b

  seen_on : (p : Place) → IsSeen c.heap p → IsSeen n p
  seen_on p sn = elim sn [ inl gr ↦ inl (colour_same p ∙ gr) | inr b ↦ inr (colour_same p ∙ b) ]

  seen_back : (p : Place) → IsSeen n p → IsSeen c.heap p
  seen_back p sn = elim sn [ inl gr ↦ inl (sym (colour_same p) ∙ gr) | inr b ↦ inr (sym (colour_same p) ∙ b) ]

  zone_same : (p : Place) → zone_of n.shape p ≡ zone_of c.heap.shape p
  zone_same p = zones c w n end p

  pub alive : (p : Place) → IsSeen c.heap p → is_dead c.heap g p ≡ false
  alive p sn = go (is_dead c.heap g p) refl
    where
      go : (t : Bool) → is_dead c.heap g p ≡ t → is_dead c.heap g p ≡ false
      go true t = (let white = is_white_test c.heap p (second_of_both (in_zones g.bits (zone_of c.heap.shape p)) _ t) in
          absurd (elim sn [ inl gr ↦ cc (white, gr) | inr b ↦ cc (white, b) ]))
      go false t = t

  alive_seen : (p : Place) → HasZone g.bits (zone_of c.heap.shape p) → is_dead c.heap g p ≡ false → IsSeen c.heap p
  alive_seen p here stays = elim (colours_are c.heap p) [
    | inl white ↦ absurd (cc (both_of _ _ (has_in_zones g _ here) (ap is_white_colour white), stays))
    | inr sn ↦ sn
  ]

  -- how far zones are
  pub state_group : (z : ℕ) → HasZone g.bits z → (state_in n.shape z ≡ state.Sweep)
      ⊎ (state_in n.shape z ≡ state.Finished)
  state_group z here =
      elim (some_out n.shape) [
        | inl some ↦ inl (e.swept some.0 some.1 z here)
        | inr none
            ↦ inr (e.finished none z here)
      ]

  pub group_done : (z : ℕ) → HasZone g.bits z → is_marking_state (state_in n.shape z) ≡ false
  group_done z here = elim (state_group z here) [ inl sw ↦ ap is_marking_state sw | inr fin ↦ ap is_marking_state fin ]

  pub in_group : (z : ℕ) → HasZone g.bits z ⊎ (HasZone g.bits z → ⊥)
  in_group z = zone_or_not g ending.ready.small z

  -- a marking zone is none of the group
  pub marking_before : (z : ℕ) → is_marking_state (state_in n.shape z) ≡ true → (HasZone g.bits z → ⊥)
      × (state_in n.shape z ≡ state_in c.heap.shape z)
  marking_before z m = elim (in_group z) [
    | inl here ↦ absurd (cc (m, group_done z here))
    | inr out ↦ (out, e.others z out)
  ]

  present_was : (p : Place) → IsPresent n.shape p → IsPresent c.heap.shape p × (is_dead c.heap g p ≡ false)
  present_was p there = present_back c w n end p there

  present_stays : (p : Place) → IsPresent c.heap.shape p → is_dead c.heap g p ≡ false → IsPresent n.shape p
  present_stays p there stays = present_on c w n end p there stays

  pub edge_was : (p q : Place) → HasEdge n.shape p q → HasEdge c.heap.shape p q × (is_dead c.heap g p ≡ false)
  edge_was p q ed =
      let stays = (present_was p (edge_from n.shape p q ed)).1 in (
        (
          ed.0,
          ed.1,
          sym (ap (λ o. field_in o ed.0) (cell_on c w n end p stays))
              ∙ ed.2,
        ),
        stays,
      )

  pub edge_stays : (p q : Place) → HasEdge c.heap.shape p q → is_dead c.heap g p ≡ false → HasEdge n.shape p q
  edge_stays p q ed stays = (
    ed.0,
    ed.1,
    ap (λ o. field_in o ed.0) (cell_on c w n end p stays)
        ∙ ed.2,
  )

  delegate_was : (q d : Place) → IsDelegate n.shape q d → IsDelegate c.heap.shape q d
  delegate_was q d is =
      let stays = (present_was q (edge_from n.shape q d (0, omega arith, is.1))).1 in
      let same = cell_on c w n end q stays in
      (sym (ap (option_map (λ (z : CellState). z.kind)) same) ∙ is.0, sym (ap (λ o. field_in o 0) same) ∙ is.1)

  delegate_stays : (q d : Place) → IsDelegate c.heap.shape q d → is_dead c.heap g q ≡ false → IsDelegate n.shape q d
  delegate_stays q d is stays =
      let same = cell_on c w n end q stays in
      (ap (option_map (λ (z : CellState). z.kind)) same ∙ is.0, ap (λ o. field_in o 0) same ∙ is.1)

  target_alive : (p q : Place) → HasEdge c.heap.shape p q → is_dead c.heap g p ≡ false → is_dead c.heap g q ≡ false
  target_alive p q ed stays = edge_alive c w n end p q ed stays

  shape_after : ShapeInvariant n.shape
  shape_after = record {
    made = λ x there. subst (λ m. zone_of n.shape x < m) (sym e.sized)
        (subst (λ z. z < length c.heap.shape.states) (sym (zone_same x))
        (was.holds.colours.shape.made x (present_was x there).0));
    at_home = λ x cell there. ap (λ (z : HeapState). slice_get z.shape.comps cell.comp.0) e.rest
        ∙ was.holds.colours.shape.at_home x cell
        (cell_back c w n end x cell there).0
        ∙ ap (λ z. Some z) (sym (zone_same x));
    targets = λ x y ed. (shows_after c w n end).fields_held x y ed.0 ed.2;
    across = across;
    entries = λ m q v f. entry_present c w n end m q v f;
    one_zone = λ m q v f.
        (let z = was.holds.colours.shape.one_zone m q v
        (entry_was c w n end m q v f) in
        (zone_same m ∙ z.0 ∙ sym (zone_same v), zone_same q ∙ z.1 ∙ sym (zone_same v)));
    delegates = λ m q v d f.
        (let before = entry_was c w n end m q v f in
        let both = was.holds.colours.shape.delegates m q v d before in
        let stays = (present_was q (entry_present c w n end m q v f).1).1 in
        let same = e.rows.delegates m q v f in (
          λ is. same ∙ both.0 (delegate_was q d is),
          λ is. delegate_stays q d (both.1 (sym same ∙ is)) stays,
        ));
    kept = λ x m. kept x (in_zones g.bits (zone_of c.heap.shape x)) refl m;
  }
    where
      across : (x y : Place) (f : ℕ) → f < 8 → field_at n.shape x f ≡ Some y → zone_of n.shape x ≢ zone_of n.shape y
          → IsDelegate n.shape x y
      across x y f lt held apart =
          let old = edge_was x y (f, lt, held) in
          delegate_stays x y
          (was.holds.colours.shape.across x y old.0.0 old.0.1 old.0.2
          (λ z. apart (zone_same x ∙ z ∙ sym (zone_same y))))
          old.1

      kept : (x : Place) (t : Bool) → in_zones g.bits (zone_of c.heap.shape x) ≡ t → is_marking n.shape x ≡ true
          → out_of n.shape x.0 ≡ None
      kept x true t m = absurd
          (cc (
            group_done (zone_of n.shape x)
                (subst (λ z. HasZone g.bits z) (sym (zone_same x)) (in_zones_has g ending.ready.small _ t)),
            m,
          ))
      kept x false t m = out_at_end c.heap n g (arenas_are c w n end)
          (sized c w n end) ending.ready.kept x.0
          ∙ ap (λ b. cond b (slice_get c.heap.colours x.0) None) t

  colours_after : ColourInvariant n
  colours_after = record {
    shape = shape_after;
    sized = ap (λ (cs : List Bits). length cs) colours_same ∙ sized c w n end
        ∙ sym (ap (λ (xs : List ArenaShape). length xs)
        (arenas_are c w n end)
        ∙ handed_length g.bits c.heap.shape.arenas c.heap.colours
        (sized c w n end));
    seen_present = λ x sn. (let o = seen_back x sn in present_stays x (was.holds.colours.seen_present x o) (alive x o));
    no_white = λ x there m. (let o = present_was x there in elim (in_group (zone_of c.heap.shape x)) [
      | inl here ↦ seen_on x (alive_seen x here o.1)
      | inr out ↦ seen_on x
          (was.holds.colours.no_white x o.0
          (ap is_marking_state (sym (e.others _ out)) ∙ ap (λ z. is_marking_state (state_in n.shape z))
          (sym (zone_same x)) ∙ m))
    ]);
    no_gray = λ x only gr. elim (in_group (zone_of n.shape x)) [
      | inl here ↦ elim (state_group _ here) [ inl sw ↦ cc (only, sw) | inr fin ↦ cc (only, fin) ]
      | inr out ↦ was.holds.colours.no_gray x (ap (λ z. state_in c.heap.shape z) (sym (zone_same x))
          ∙ sym (e.others _ out) ∙ only) (sym (colour_same x) ∙ gr)
    ];
    regs_black = λ x held.
        black_on x (was.holds.colours.regs_black x
        (subst (λ (z : HeapState). Contains z.shape.regs (Some x)) e.rest held));
  }

  empty : (xs : List Place) (x : Place) → xs ≡ [] → Contains xs x → ⊥
  empty xs x none held = nothing_in_none x (subst (λ ys. Contains ys x) none held)

  entry_then : (m q v : Place) → HasEntry n.shape m q v → HasEntry c.heap.shape m q v
  entry_then m q v f = entry_was c w n end m q v f

  -- where a zone still takes gray it did, and entries are left as they were
  weak_after : WeakPoint n c.stack (left_of n)
  weak_after = record {
    black = λ m q v f bm bq on.
        inl (black_on v (black_values c.heap c.stack c.lists was was_gray g ending.ready.marked m q v
        (entry_then m q v f)
        (black_back m bm) (black_back q bq)));
    gray = λ m q v f sm sq takes.
        let then_state = ap (state_in c.heap.shape) (sym (zone_same v))
        ∙ sym (marking_before (zone_of n.shape v) (ap is_marking_state takes)).1 ∙ takes in
        elim (was.weak.gray m q v (entry_then m q v f) (seen_back m sm) (seen_back q sq) then_state) [
          | inl sv ↦ inl (seen_on v sv)
          | inr (inl p) ↦ inr (inl p)
          | inr (inr (inl p)) ↦ inr (inr (inl p))
          | inr (inr (inr l)) ↦ inr (inr (inr (carried_stay c.heap n e.carries e.rows mark.Gray m q v f l)))
        ];
    gray_key = λ m q v d f is sm sd takes.
        let then_state = ap (state_in c.heap.shape) (sym (zone_same q))
        ∙ sym (marking_before (zone_of n.shape q) (ap is_marking_state takes)).1 ∙ takes in
        elim (was.weak.gray_key m q v d (entry_then m q v f) (delegate_was q d is) (seen_back m sm) (seen_back d sd)
        then_state) [
          | inl sq ↦ inl (seen_on q sq)
          | inr (inl p) ↦ inr (inl p)
          | inr (inr (inl p)) ↦ inr (inr (inl p))
          | inr (inr (inr l)) ↦ inr (inr (inr (carried_stay c.heap n e.carries e.rows mark.Gray m q v f l)))
        ];
  }

  pub marks_after : MarkingInvariant n c.stack
  marks_after = record {
    holds = record {
      colours = colours_after;
      piles = record {
        black = λ x held. absurd (empty c.stack.black x ending.ready.marked.black_empty held);
        wake = λ x held. absurd (empty c.stack.wake x was.none_woken held);
        gray = λ x held. absurd (empty c.stack.gray x ending.ready.marked.gray_empty held);
      };
      closed = λ x y b ed.
          inl (black_on y (black_follows c.heap c.stack c.lists was was_gray g ending.ready.marked x y (black_back x b)
          (edge_was x y ed).0));
      weak_closed = λ m q v f bm bq mv.
          inl (black_on v (black_values c.heap c.stack c.lists was was_gray g ending.ready.marked m q v
          (entry_was c w n end m q v f) (black_back m bm)
          (black_back q bq)));
      key_closed = λ m q v d f is bm bd.
          inl (black_on q (ending.ready.marked.black_keys m q v d (entry_then m q v f) (delegate_was q d is)
          (black_back m bm) (black_back d bd)));
    };
    none_woken = was.none_woken;
    weak = weak_after;
    once = once_alike c.heap n c.stack colour_same was.once;
  }

  waiting_back : (z : ℕ) (x : Place) → Contains (buffer_of n z) x → Contains (buffer_of c.heap z) x
  waiting_back z x held = subst (λ (bs : List (List Place)). Contains (buffer_at bs z) x) buffers_same held

  waiting_on : (z : ℕ) (x : Place) → Contains (buffer_of c.heap z) x → Contains (buffer_of n z) x
  waiting_on z x held = subst (λ (bs : List (List Place)). Contains (buffer_at bs z) x) (sym buffers_same) held

  -- what is buffered isn't dead
  buffered_alive : (z : ℕ) (x : Place) → Contains (buffer_of c.heap z) x → is_dead c.heap g x ≡ false
  buffered_alive z x held = elim (was_gray.buffered_seen z x held) [
    | inr sn ↦ alive x sn
    | inl is ↦ go (is_dead c.heap g x) refl is
  ]
    where
      go : (t : Bool) → is_dead c.heap g x ≡ t → zone_of c.heap.shape x ≡ z → is_dead c.heap g x ≡ false
      go false t is = t
      go true t is = (let here : HasZone g.bits z =
          subst (λ y. HasZone g.bits y) is (in_zones_has g ending.ready.small _ (first_of_both _ _ t)) in
          absurd (empty _ x (ending.ready.marked.none_buffered z here) held))

  covered : (x y : Place) → is_dead c.heap g y ≡ false → IsCovered c.heap c.stack c.lists x y
      → IsCovered n c.stack c.lists x y
  covered x y stays cov = elim cov [
    | inl sn ↦ inl (seen_on y sn)
    | inr (inl on) ↦ inr (inl on)
    | inr (inr (inl waits))
        ↦ inr (inr (inl (
          subst (λ z. Contains (buffer_of n z) x) (sym (zone_same y)) (waiting_on _ x waits.0),
          λ is. waits.1 (sym (zone_same x) ∙ is ∙ zone_same y),
        )))
    | inr (inr (inr noted))
        ↦ inr (inr (inr (
          noted.0,
          ap (option_map (λ (z : CellState). z.comp))
              (cell_on c w n end y stays)
              ∙ noted.1,
          noted.2,
        )))
  ]

  pub gray_after : GrayInvariant n c.stack c.lists
  gray_after = record {
    buffered_seen = λ z x held. elim (was_gray.buffered_seen z x (waiting_back z x held))
        [ inl is ↦ inl (zone_same x ∙ is) | inr sn ↦ inr (seen_on x sn) ];
    buffered_present = λ z x held.
        (let o = waiting_back z x held in present_stays x (was_gray.buffered_present z x o) (buffered_alive z x o));
    incoming_seen = λ m x held. seen_on x (was_gray.incoming_seen m x held);
    closed = λ x y gr ed.
        (let o = edge_was x y ed in
        covered x y (target_alive x y o.0 o.1) (was_gray.closed x y (sym (colour_same x) ∙ gr) o.0));
    apart = was_gray.apart;
    lists_apart = was_gray.lists_apart;
    few = subst (λ (cs : List Bits). waiting_count c.lists + (length c.stack.gray + slots_in is_white cs)
        ≤ 64 * length cs) (sym colours_same) was_gray.few;
    room = subst (λ (cs : List Bits). 64 * length cs ≤ c.lists.room) (sym colours_same) was_gray.room;
  }

  -- what was left to turn black is black, and no more is left now
  pub pending_after : (p : Place) → PendingBlack n c.stack p ↔ PendingBlack c.heap c.stack p
  pending_after p = (
    λ l. reached_is_pending c.heap c.stack was (back (pending_is_reached n c.stack marks_after l)),
    λ l. black_closure.black (black_on p (pending_black c.heap c.stack c.lists was was_gray g ending.ready.marked p l)),
  )
    where
      back : {x : Place} → Reached n.shape (IsBlack n) x → Reached c.heap.shape (IsBlack c.heap) x
      back (reached.from {x} b) = reached.from (black_back x b)
      back (reached.along {x} {y} r ed) = reached.along (back r) (edge_was x y ed).0
      back (reached.weak {m} {k = q} {v} f a b) =
          reached.weak (entry_was c w n end m q v f) (back a) (back b)
      back (reached.delegate {m} {k = q} {v} {d} f is a b) =
          reached.delegate (entry_then m q v f) (delegate_was q d is) (back a) (back b)

  -- what is left to reach isn't dead
  pub live_alive : (p : Place) → PendingLive c.heap c.stack c.lists p → is_dead c.heap g p ≡ false
  live_alive p l = go (is_dead c.heap g p) refl
    where
      go : (t : Bool) → is_dead c.heap g p ≡ t → is_dead c.heap g p ≡ false
      go false t = t
      go true t = alive p (pending_live c.heap c.stack c.lists was was_gray g ending.ready.marked
          (ordered c flown w k g rest ending) p l (in_zones_has g ending.ready.small _ (first_of_both _ _ t)))

  start_on : (p : Place) → IsLiveStart c.heap p → IsLiveStart n p
  start_on p st = elim st [
    | inl sn ↦ inl (seen_on p sn)
    | inr held
        ↦ inr (subst (λ z. Contains (buffer_of n z) p) (sym (zone_same p)) (waiting_on _ p held))
  ]

  start_back : (p : Place) → IsLiveStart n p → IsLiveStart c.heap p
  start_back p st = elim st [
    | inl sn ↦ inl (seen_back p sn)
    | inr held
        ↦ inr (subst (λ z. Contains (buffer_of c.heap z) p) (zone_same p) (waiting_back _ p held))
  ]

  live_back : {x : Place} → Reached n.shape (IsLiveStart n) x → Reached c.heap.shape (IsLiveStart c.heap) x
  live_back (reached.from {x} st) = reached.from (start_back x st)
  live_back (reached.along {x} {y} r ed) = reached.along (live_back r) (edge_was x y ed).0
  live_back (reached.weak {m} {k = q} {v} f a b) =
      reached.weak (entry_was c w n end m q v f) (live_back a) (live_back b)
  live_back (reached.delegate {m} {k = q} {v} {d} f is a b) =
      reached.delegate (entry_then m q v f) (delegate_was q d is) (live_back a) (live_back b)

  reached_alive : (p : Place) → Reached c.heap.shape (IsLiveStart c.heap) p → is_dead c.heap g p ≡ false
  reached_alive p r = live_alive p (reached_is_live c.heap c.stack c.lists was was_gray r)

  live_on : {x : Place} → Reached c.heap.shape (IsLiveStart c.heap) x → Reached n.shape (IsLiveStart n) x
  live_on (reached.from {x} st) = reached.from (start_on x st)
  live_on (reached.along {x} {y} r ed) = reached.along (live_on r) (edge_stays x y ed (reached_alive x r))
  live_on (reached.weak {m} {k = q} {v} f a b) =
      let there = was.holds.colours.shape.entries m q v f in
      reached.weak (entry_on c w n end m q v f
      (present_stays m there.0 (reached_alive m a)) (present_stays q there.1 (reached_alive q b))
      (present_stays v there.2 (reached_alive v (reached.weak f a b)))) (live_on a) (live_on b)
  live_on (reached.delegate {m} {k = q} {v} {d} f is a b) =
      let there = was.holds.colours.shape.entries m q v f in
      let key = reached_alive q (reached.delegate f is a b) in
      reached.delegate (entry_on c w n end m q v f
      (present_stays m there.0 (reached_alive m a)) (present_stays q there.1 key)
      (present_stays v there.2 (reached_alive v (reached.weak f a (reached.delegate f is a b)))))
      (delegate_stays q d is key) (live_on a) (live_on b)

  pub live_after : (p : Place) → PendingLive n c.stack c.lists p ↔ PendingLive c.heap c.stack c.lists p
  live_after p = (
    λ l. reached_is_live c.heap c.stack c.lists was was_gray
        (live_back (live_is_reached n c.stack c.lists marks_after gray_after l)),
    λ l. reached_is_live n c.stack c.lists marks_after gray_after
        (live_on (live_is_reached c.heap c.stack c.lists was was_gray l)),
  )
