-- After the end of a group the collector stands for the world after it.
use Rattle.std.proofs.Common.{◌≡◌, ◌⊎◌, ◌↔◌, ◌+◌, ◌<◌, ℕ, suc, Bool, true, false, cond, inl, inr, refl, sym, ap, ◌∙◌}
use Rattle.std.proofs.Common.{subst, arith, eqb, Option, None, Some, IsSome, is_some, List, [], ◌∷◌, map, Contains}
use Rattle.std.proofs.Common.{slice_get, length}
use Rattle.std.specs.FinMap as places
use Rattle.std.specs.List.{list_any}
use Rattle.gz_names.specs.Zones.{HasZone, zones_in}
use Rattle.gz_names.specs.declared.names.Name.{Name}
use Rattle.gz_names.specs.declared.numbers.Place.{Place}
use Rattle.gz_names.specs.declared.zone_sets.ZoneSet.{ZoneSet}
use Rattle.cell_bits.specs.declared.bits.Bits.{Bits}
use Rattle.zones.specs.declared.states.State.TheVariants as state
use Rattle.arena_table.specs.Indexed.{in_zones}
use Rattle.mark_stack.specs.Stack.{Piles, no_places}
use Rattle.gray_lists.specs.Incoming.{Incoming}
use Rattle.colour_defs.specs.World.{World}
use Rattle.colour_defs.specs.World as names
use Rattle.colour_defs.specs.Ends.{zones_without}
use Rattle.colour_defs.proofs.Lists.{contains_cases, contains_tail, nothing_in_none}
use Rattle.colour_defs.proofs.Membership.{among_from, among_to, without_has, without_was}
use Rattle.colour_defs.proofs.ZoneSets.{zones_in-has}
use Rattle.heap_core.specs.Shape.{is_marking_state, name_at, out_of, state_in, zone_in, zone_of}
use Rattle.weak_maps.specs.declared.colours.MarkColour.TheVariants as mark
use Rattle.heap_core.specs.Heap.{HeapState, flown_or, weak_of, with_flown}
use Rattle.barriers.specs.Colours.{IsBlack}
use Rattle.barriers.specs.Invariant.{MarkingInvariant}
use Rattle.barriers.specs.PendingLive.{GrayInvariant, buffer_of}
use Rattle.slice_driver.specs.Collector.{CollectorState, RunState, heap_with}
use Rattle.slice_driver.specs.Closures.{AreBlack, AreTied}
use Rattle.slice_driver.specs.Worlds.{IsInFlight, IsWokenFrom}
use Rattle.slice_driver.specs.Represents.{AreInStates, IsCurrent, IsInGroups, RepresentsMarking, Runs, RunsAs}
use Rattle.slice_driver.specs.Represents.{IsColoured, IsInPhase, NothingLeft, WaitsWhileMarking}
use Rattle.slice_driver.specs.GroupEnd.{AreJustFlown, EndsIn}
use Rattle.slice_driver.proofs.abstraction.Waits.{none_carried}
use Rattle.slice_driver.proofs.abstraction.Named.{some_one}
use Rattle.slice_driver.proofs.group_end.Ready.{groups_ok, in_groups_to, runs, tied}
use Rattle.slice_driver.proofs.group_end.Cells.{in_zones_has, out_at_end}
use Rattle.slice_driver.proofs.group_end.Heaps.{after, arenas_are, name_back, sized, zones}
use Rattle.slice_driver.proofs.group_end.Lies.{lies_after, unswept_apart_after}
use Rattle.slice_driver.proofs.group_end.Marks.{black_back, black_on, colours_same, gray_after, in_group}
use Rattle.slice_driver.proofs.group_end.Marks.{live_after, live_alive, marking_before, marks_after, pending_after}
use Rattle.slice_driver.proofs.group_end.Marks.{state_group}
use Rattle.slice_driver.proofs.basics.LeftLooks.{none_of}
use Rattle.slice_driver.proofs.basics.Rows.{rows_kept}
use Rattle.slice_driver.proofs.group_end.Worlds.{black_has, ended, ended_collection, ended_place, has_black}
use Rattle.slice_driver.proofs.group_end.Worlds.{place_ended}
use Rattle.slice_driver.proofs.group_end.Ending.{Ending}

-- where what is in flight is what arenas have, the heap's own bits count
own_flown : (flown : ℕ → Option Bits) (n : ℕ) (colours : List Bits)
    → ((a : ℕ) (b : Bits) → flown (n + a) ≡ Some b → slice_get colours a ≡ Some b)
    → with_flown flown n colours ≡ colours
own_flown flown n [] own = refl
own_flown flown n (b ∷ colours) own = λ i. here (flown n) refl i ∷ own_flown flown (suc n) colours
    (λ a d e. own (suc a) d (let same : n + suc a ≡ suc n + a = omega arith in ap flown same ∙ e)) i
  where
    here : (o : Option Bits) → flown n ≡ o → flown_or (flown n) b ≡ b
    here None e = ap (λ o. flown_or o b) e
    here (Some d) e = ap (λ o. flown_or o b) e
        ∙ (let zero_more : n + 0 ≡ n = omega arith in let is : Some b ≡ Some d = own 0 d (ap flown zero_more ∙ e) in
        sym (some_one b d is))

module _ (c d : CollectorState) (w : World) (end : Ending c w d.heap) (ends : EndsIn c end.group end.rest d)
    (flying : ℕ → Option Bits) (flies : AreJustFlown d.heap.shape flying) where
  open end use {flown, collection as k, group as g, rest, ready as ending, ended as e}

  out_is : (a : ℕ) → out_of d.heap.shape a ≡ cond (in_zones g.bits (zone_in (slice_get c.heap.shape.arenas a)))
      (slice_get c.heap.colours a) None
  out_is a = out_at_end c.heap d.heap g (arenas_are c w d.heap end)
      (sized c w d.heap end) ending.ready.kept a

  -- an arena that is out is one of the group, and has its bits
  out_of_group : (a : ℕ) (b : Bits) → out_of d.heap.shape a ≡ Some b
      → HasZone g.bits (zone_in (slice_get c.heap.shape.arenas a)) × (slice_get c.heap.colours a ≡ Some b)
  out_of_group a b o = go (in_zones g.bits (zone_in (slice_get c.heap.shape.arenas a))) refl (sym (out_is a) ∙ o)
    where
      go : (t : Bool) → in_zones g.bits (zone_in (slice_get c.heap.shape.arenas a)) ≡ t
          → cond t (slice_get c.heap.colours a) None ≡ Some b
          → HasZone g.bits (zone_in (slice_get c.heap.shape.arenas a)) × (slice_get c.heap.colours a ≡ Some b)
      go true t f = (in_zones_has g ending.ready.small _ t, f)
      go false t f = absurd (cc f)

  delayed_after : d.heap.delayed ≡ no_places
  delayed_after = ap (λ (h : HeapState). h.delayed) e.rest ∙ ending.represents.placed.delayed

  heap_is : heap_with d flying ≡ d.heap
  heap_is = ap (λ (cs : List Bits). record d.heap { colours = cs; delayed = no_places })
      (own_flown flying 0 d.heap.colours (λ a b f.
      let same : 0 + a ≡ a = omega arith in
      ap (λ (cs : List Bits). slice_get cs a) (colours_same c w d.heap end)
      ∙ (out_of_group a b (sym (flies a) ∙ ap flying (sym same) ∙ f)).1))
      ∙ ap (λ (ps : Piles). record d.heap { delayed = ps }) (sym delayed_after)

  same_bits : (a : ℕ) (old new : Bits) → out_of d.heap.shape a ≡ Some old → flying a ≡ Some new → IsWokenFrom old new
  same_bits a old new o f =
      let same : old ≡ new = some_one old new (sym o ∙ sym (flies a) ∙ f) in
      subst (λ (b : Bits). IsWokenFrom old b) same (record { white = λ i e. e; gray = λ i e. inl e; black = λ i e. e })

  in_flight : IsInFlight d.heap.shape flying
  in_flight = record { covers = λ a. ap is_some (flies a); woken = same_bits }

  -- a zone of the groups that are left is none of this one
  left_apart : (z : ℕ) → IsInGroups rest z → HasZone g.bits z → ⊥
  left_apart z i here = let l = in_groups_to rest z i in
      (groups_ok c flown w k g rest ending).apart.0 l.0 l.1 z ((zones_in-has g z).1 here) l.2

  in_later : (z : ℕ) → IsInGroups rest z → IsInGroups c.groups z
  in_later z i = subst (λ gs. IsInGroups gs z) (sym ending.ready.groups_are) (i.0, contains_tail g rest i.0 i.1, i.2)

  in_earlier : (z : ℕ) → (HasZone g.bits z → ⊥) → (IsInGroups rest z → ⊥) → IsInGroups c.groups z → ⊥
  in_earlier z out none i =
      let j = subst (λ gs. IsInGroups gs z) ending.ready.groups_are i in
      elim (contains_cases g rest j.0 j.1) [
        | inl same ↦ out (subst (λ (y : ZoneSet). HasZone y.bits z) (sym same) j.2)
        | inr tail
            ↦ none (j.0, tail, j.2)
      ]

  left_back : (z : ℕ) → IsInGroups d.groups z → IsInGroups rest z
  left_back z i = subst (λ gs. IsInGroups gs z) ends.groups_is i

  left_on : (z : ℕ) → IsInGroups rest z → IsInGroups d.groups z
  left_on z i = subst (λ gs. IsInGroups gs z) (sym ends.groups_is) i

  -- a zone of a group that is left is marked black only
  left_black_only : (z : ℕ) → IsInGroups rest z → state_in c.heap.shape z ≡ state.MarkBlackOnly
  left_black_only z i = elim ((runs c flown w k g rest ending).states.later ending.ready.formed z (in_later z i)) [
    | inl only ↦ only
    | inr both ↦ absurd (left_apart z i (subst (λ gs. IsCurrent gs z) ending.ready.groups_are both.0))
  ]

  group_of : (z : ℕ) → HasZone g.bits z ⊎ (HasZone g.bits z → ⊥)
  group_of z = in_group c w d.heap end z

  state_end : (z : ℕ) → HasZone g.bits z → (state_in d.heap.shape z ≡ state.Sweep)
      ⊎ (state_in d.heap.shape z ≡ state.Finished)
  state_end z here = state_group c w d.heap end z here

  states_after : AreInStates d ending.ready.run
  states_after = record {
    outside = λ z out. (let was : state_in c.heap.shape z ≡ state.NoGC = old.outside z out in
        e.others z (λ here. cc (was, ending.ready.marked.begun z here)) ∙ was);
    made = λ z here. subst (λ m. z < m) (sym e.sized) (old.made z here);
    early = λ unformed. absurd (cc (unformed, ending.ready.formed));
    later = λ formed z here. (let i = left_back z here in inl (e.others z (left_apart z i) ∙ left_black_only z i));
    ended = λ formed z here none. elim (group_of z) [
      | inl mine ↦ state_end z mine
      | inr out ↦ elim (old.ended formed z here (in_earlier z out (λ i. none (left_on z i))))
          [ inl sw ↦ inl (e.others z out ∙ sw) | inr fin ↦ inr (e.others z out ∙ fin) ]
    ];
    sweeping = λ z a p is zone out. sweeping z a p is zone (out_of d.heap.shape a) refl out;
    swept = λ none z sw. elim (group_of z) [
      | inl mine ↦ cc (sw, e.finished none z mine)
      | inr out ↦ old.swept ending.ready.kept z (sym (e.others z out) ∙ sw)
    ];
  }
    where
      old : AreInStates c ending.ready.run
      old = (runs c flown w k g rest ending).states

      sweeping : (z a : ℕ) (p : Place) → p.0 ≡ a → zone_of d.heap.shape p ≡ z → (o : Option Bits)
          → out_of d.heap.shape a ≡ o → IsSome (out_of d.heap.shape a) → state_in d.heap.shape z ≡ state.Sweep
      sweeping z a p is zone None f out = absurd (cc (f, out))
      sweeping z a p is zone (Some b) f out =
          e.swept a out z (subst (λ y. HasZone g.bits y) (ap (λ i. zone_in (slice_get c.heap.shape.arenas i)) (sym is)
          ∙ sym (zones c w d.heap end p) ∙ zone) (out_of_group a b f).0)

  left_marking : (z : ℕ) → Contains (zones_without k.marking (zones_in g)) z
      ↔ (is_marking_state (state_in d.heap.shape z) ≡ true)
  left_marking z = (
    λ m. (let r = without_was k.marking (zones_in g) z m in
        ap is_marking_state (e.others z (λ here. cc (among_from z (zones_in g) ((zones_in-has g z).1 here), r.1)))
        ∙ ((runs c flown w k g rest ending).marking_are z).0 r.0),
    λ m. (let b = marking_before c w d.heap end z m in
        without_has k.marking (zones_in g) z
        (((runs c flown w k g rest ending).marking_are z).1 (ap is_marking_state (sym b.1) ∙ m))
        (unlisted (list_any (eqb z) (zones_in g)) refl b.0)),
  )
    where
      unlisted : (t : Bool) → list_any (eqb z) (zones_in g) ≡ t → (HasZone g.bits z → ⊥)
          → list_any (eqb z) (zones_in g) ≡ false
      unlisted true t out = absurd (out ((zones_in-has g z).0 (among_to z (zones_in g) t)))
      unlisted false t out = t

  was_tied : AreTied c.heap c.stack c.lists w k
  was_tied = tied c flown w k g rest ending

  name_was : (p : Place) (x : Name) → name_at d.heap.shape p ≡ Some x → name_at c.heap.shape p ≡ Some x
  name_was p x named = (name_back c w d.heap end p x named).0

  abbrev world_after : World
  world_after = after c w d.heap end

  present_was : (x : Name) → names.IsPresent world_after x → names.IsPresent w x
  present_was x there = go (places.get world_after.places x) refl there
    where
      go : (o : Option Place) → places.get world_after.places x ≡ o → is_some o ≡ true → names.IsPresent w x
      go None f there = absurd (cc there)
      go (Some p) f there = ap is_some (ended_place c.heap g w x p f).0

  tied_here : AreTied d.heap c.stack c.lists world_after (ended_collection k g rest)
  tied_here = record {
    black = λ x p named. (
      (λ l. (was_tied.black x p (name_was p x named)).0
          ((pending_after c w d.heap end p).0 l)),
      λ u. (pending_after c w d.heap end p).1
          ((was_tied.black x p (name_was p x named)).1 u),
    );
    live = λ x p named. (
      (λ l. (was_tied.live x p (name_was p x named)).0
          ((live_after c w d.heap end p).0 l)),
      λ u. (live_after c w d.heap end p).1
          ((was_tied.live x p (name_was p x named)).1 u),
    );
    present = λ x u. (let p = Rattle.slice_driver.proofs.abstraction.Named.place_of c.heap w
        ending.represents.placed.lies x
        (was_tied.present x u) in
        ap is_some (place_ended c.heap g w x p.0 ((ending.represents.placed.lies.places_are x p.0).1 p.1)
        (live_alive c w d.heap end p.0 ((was_tied.live x p.0 p.1).1 u))));
    edges_then = λ x y there ed. was_tied.edges_then x y (present_was x there) ed;
    entries_then = λ m q v pm pq f. was_tied.entries_then m q v (present_was m pm) (present_was q pq) f;
    grown = was_tied.grown;
    formed = was_tied.formed;
  }

  tied_after : AreTied d.heap d.stack d.lists world_after (ended_collection k g rest)
  tied_after = subst (λ p. AreTied d.heap p d.lists world_after (ended_collection k g rest)) (sym ends.stack_is)
      (subst (λ l. AreTied d.heap c.stack l world_after (ended_collection k g rest)) (sym ends.lists_is) tied_here)

  runs_after : Runs d.heap d world_after ending.ready.run (ended_collection k g rest)
  runs_after = record {
    started = (runs c flown w k g rest ending).started;
    zones_are = (runs c flown w k g rest ending).zones_are;
    marking_are = left_marking;
    groups_are = ap (λ gs. Some (map zones_in gs)) (sym ends.groups_is)
        ∙ ap (λ b. cond b (Some (map zones_in d.groups)) None) (sym ending.ready.formed);
    states = states_after;
    tied = λ z m. tied_after;
    early = λ unformed. absurd (cc (unformed, ending.ready.formed));
  }

  nothing_left : NothingLeft d.heap.looks
  nothing_left = (
    none_carried mark.Gray (weak_of c.heap) (weak_of d.heap) e.carries e.parallel ending.ready.marked.none_gray,
    none_carried mark.Black (weak_of c.heap) (weak_of d.heap) e.carries e.parallel ending.ready.marked.none_black,
  )

  waits_after : WaitsWhileMarking d.heap d.stack d.lists
  waits_after = record {
    piled = λ x has. absurd (nothing_in_none x (subst (λ xs. Contains xs x)
        (ap (λ (p : Piles). p.gray) ends.stack_is ∙ ending.ready.marked.gray_empty) has));
    looks = λ quiet. nothing_left;
    of_marking = none_of d.heap.shape d.heap.looks nothing_left;
    buffered = λ z quiet. ap (λ (h : HeapState). buffer_of h z) e.rest ∙ elim (group_of z) [
      | inl mine ↦ ending.ready.marked.none_buffered z mine
      | inr out ↦ ending.represents.coloured.waits.buffered z (ap is_marking_state (sym (e.others z out)) ∙ quiet)
    ];
    incoming = λ m p held. (
        let old = subst (λ (l : Incoming). Contains (Rattle.gray_lists.specs.Incoming.list_of l m) p) ends.lists_is held
        in
        let z = ending.represents.coloured.waits.incoming m p old in (
          z.0,
          ap (λ (h : HeapState). slice_get h.shape.comps m) e.rest ∙ z.1,
          elim (group_of z.0) [
            | inl mine ↦ absurd (nothing_in_none p
                (subst (λ xs. Contains xs p) (ending.ready.marked.none_incoming z.0 m mine z.1) old))
            | inr out ↦ ap is_marking_state (e.others z.0 out) ∙ z.2
          ],
        ));
  }

  black_names : AreBlack d.heap world_after
  black_names x p named =
      let o = name_was p x named in (
        λ b. (let r = black_has c flown w k g rest ending x b in
            let same : r.0 ≡ p = some_one r.0 p (sym r.1 ∙ (ending.represents.placed.lies.places_are x p).1 o) in
            black_on c w d.heap end p
            (subst (λ y. IsBlack c.heap y) same r.2)),
        λ b. has_black c flown w k g rest ending x p ((ending.represents.placed.lies.places_are x p).1 o)
            (black_back c w d.heap end p b),
      )

  pub represents_after : RepresentsMarking d flying (ended c.heap w k g rest)
  represents_after = record {
    placed = record {
      delayed = delayed_after;
      lies = lies_after c w d.heap end;
      homes = rows_kept c.heap.shape d.heap.shape (λ row has. ((e.rows.rows row).0 has).0)
          (λ a lt.
          (let now = (marks_after c w d.heap end).holds.colours.sized in
          let same = ap (λ (bs : List Bits). length bs)
          (colours_same c w d.heap end) in
          let was = sized c w d.heap end in
          omega (arith, now, same, was, lt)))
          (λ p lt. zones c w d.heap end p) ending.represents.placed.homes;
    };
    swept = record {
      apart = unswept_apart_after c w d.heap end;
      flies = in_flight;
    };
    coloured = subst (λ h. IsColoured h d.stack d.lists) (sym heap_is) (record {
      marks = subst (λ p. MarkingInvariant d.heap p) (sym ends.stack_is)
          (marks_after c w d.heap end);
      gray = subst (λ p. GrayInvariant d.heap p d.lists) (sym ends.stack_is)
          (subst (λ l. GrayInvariant d.heap c.stack l) (sym ends.lists_is)
          (gray_after c w d.heap end));
      waits = waits_after;
    });
    phase = subst (λ h. IsInPhase h d world_after) (sym heap_is) (record {
      calm = ending.represents.phase.calm;
      black = λ settled. black_names;
      runs = subst (λ (o : Option RunState). RunsAs d.heap d world_after o world_after.collection)
          (sym (ends.run_is ∙ ending.ready.running)) runs_after;
    });
  }
