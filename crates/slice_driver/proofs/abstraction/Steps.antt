-- After a step that leaves the world as it is the collector stands for the same world.
use Rattle.slice_driver.proofs.abstraction.Waits.{none_piled}
use Rattle.std.proofs.Common.{◌≡◌, ◌≢◌, ◌↔◌, ◌<◌, ◌≤◌, ℕ, zero, suc, Bool, true, false, List, [], ◌∷◌, length, map}
use Rattle.std.proofs.Common.{arith, slice_get, slice_index_or, Option, Some, None, IsSome, Contains, inl, inr, refl}
use Rattle.std.proofs.Common.{sym, ap, subst, ◌∙◌}
use Rattle.std.specs.Prelude.{if◌then◌else◌}
use Rattle.std.specs.Option.{option_map}
use Rattle.gz_names.specs.Zones.{HasZone, zones_in}
use Rattle.gz_names.specs.declared.numbers.Place.{Place}
use Rattle.gz_names.specs.declared.zone_sets.ZoneSet.{ZoneSet}
use Rattle.cell_bits.specs.declared.bits.Bits.{Bits}
use Rattle.zones.specs.declared.states.State.{State}
use Rattle.zones.specs.declared.states.State.TheVariants as state
use Rattle.mark_stack.specs.Stack.{Piles}
use Rattle.gray_lists.specs.Incoming.{Incoming}
use Rattle.weak_maps.specs.declared.colours.MarkColour.TheVariants as mark
use Rattle.wrappers.specs.WrapperMaps.{list_of}
use Rattle.wrappers.specs.declared.wrapper_maps.WrapperKey.{WrapperKey}
use Rattle.zone_edges.specs.Groups.{Edge}
use Rattle.zone_edges.specs.Noted.{Noted}
use Rattle.colour_defs.specs.World.{World, Collection, IsSettled, marking_of}
use Rattle.colour_defs.proofs.Lists.{contains_head, nothing_in_none}
use Rattle.heap_core.specs.Shape.{Shape, field_at, is_marking, is_marking_state, name_at, out_of, state_in}
use Rattle.heap_core.specs.Shape.{zone_of}
use Rattle.heap_core.specs.Heap.{HeapState}
use Rattle.barriers.specs.Colours.{IsBlack}
use Rattle.barriers.specs.Invariant.{IsSettled as IsSettledHeap, MarkingInvariant}
use Rattle.barriers.specs.PendingBlack.{PendingBlack}
use Rattle.barriers.specs.PendingBlack as black_closure
use Rattle.barriers.proofs.BlackClosure.{pending_is_reached, reached_is_black}
use Rattle.barriers.proofs.StayingLeft.{none_left as none_left_in}
use Rattle.slice_driver.specs.Collector.{CollectorState, RunState, heap_with}
use Rattle.slice_driver.specs.Closures.{AreBlack, AreTied}
use Rattle.zone_edges.specs.Looks.{AreAllLookedAt, AreLeftBlack, IsKey, IsLookedAt, wrapper_at}
use Rattle.slice_driver.specs.Represents.{AreInStates, IsCurrent, IsIdle, IsInGroups, LeadsAcross}
use Rattle.slice_driver.specs.Represents.{RepresentsMarking, Runs, RunsAs, WaitsWhileMarking}
use Rattle.slice_driver.specs.Quiet.{HasSameLooks, IsQuiet, KeepsLooks}
use Rattle.slice_driver.proofs.abstraction.Named.{some_one}
use Rattle.slice_driver.proofs.basics.Cells.{HasSameCells}
use Rattle.slice_driver.proofs.basics.Worlds.{placed_same, swept_in}

-- where no zone is marking, black is all that is left to turn black
pub settled_pending : (h : HeapState) (p : Piles) → MarkingInvariant h p → IsSettledHeap h → (x : Place)
    → PendingBlack h p x ↔ IsBlack h x
settled_pending h p inv settled x =
    ((λ l. reached_is_black h p inv settled (pending_is_reached h p inv l)), λ b. black_closure.black b)

-- where no zone is marking, no entry is left either
pub settled_heap : (h : HeapState) (p : Piles) (lists : Incoming) → WaitsWhileMarking h p lists
    → ((z : ℕ) → is_marking_state (state_in h.shape z) ≡ false) → IsSettledHeap h
settled_heap h p lists waits off = record {
  outside = λ x. off (zone_of h.shape x);
  none_left = λ m k v has left. none_left_in h mark.Black (waits.looks off).1 (waits.looks off).1 m k v has left;
}

is_false : (b : Bool) → (b ≡ true → ⊥) → b ≡ false
is_false true none = absurd (none refl)
is_false false none = refl

-- a settled collector marks no zone
pub settled_states : (h : HeapState) (c : CollectorState) (w : World) (o : Option RunState) (k : Option Collection)
    → RunsAs h c w o k → marking_of k ≡ [] → (z : ℕ) → is_marking_state (state_in c.heap.shape z) ≡ false
settled_states h c w None None i settled z = ap is_marking_state (i.states z)
settled_states h c w None (Some k) i settled z = absurd i
settled_states h c w (Some r) None i settled z = absurd i
settled_states h c w (Some r) (Some k) i settled z =
    is_false _ (λ m. nothing_in_none z (subst (λ zs. Contains zs z) settled ((i.marking_are z).1 m)))

-- a zone of the current group is one of the groups
pub current_in_groups : (groups : List ZoneSet) (z : ℕ) → IsCurrent groups z → IsInGroups groups z
current_in_groups [] z here = absurd here
current_in_groups (g ∷ gs) z here = (g, contains_head g gs, here)

module _ (c : CollectorState) (flown : ℕ → Option Bits) (d : CollectorState) (flying : ℕ → Option Bits)
    (q : IsQuiet c flown d flying) where
  same_cells : HasSameCells c.heap d.heap
  same_cells = subst (λ (s : Shape).
      HasSameCells c.heap (record {
        shape = s;
        colours = d.heap.colours;
        buffers = d.heap.buffers;
        made = d.heap.made;
        weak_names = d.heap.weak_names;
        ledger = d.heap.ledger;
        looks = d.heap.looks;
        delayed = d.heap.delayed;
      })) (sym q.shape_is) (record {
        cells = λ p. refl;
        zones = λ p. refl;
        states = q.sized;
        comps = refl;
        wrappers = refl;
        weak = refl;
        regs = refl;
        slots = refl;
        objects = refl;
        made = q.made_is;
      })

  same_arenas : d.heap.shape.arenas ≡ c.heap.shape.arenas
  same_arenas = ap (λ (s : Shape). s.arenas) q.shape_is

  marking_same : (z : ℕ) → is_marking_state (state_in d.heap.shape z) ≡ is_marking_state (state_in c.heap.shape z)
  marking_same z = elim (q.states z) [
    | inl e ↦ ap is_marking_state e
    | inr next ↦ ap is_marking_state next.3 ∙ sym (ap is_marking_state next.2)
  ]

  -- where a state is not that of a zone that is marked black only, it is as it was
  stays : (z : ℕ) (t : State) → state_in c.heap.shape z ≡ t → t ≢ state.MarkBlackOnly → state_in d.heap.shape z ≡ t
  stays z t e other = elim (q.states z) [ inl same ↦ same ∙ e | inr next ↦ absurd (other (sym e ∙ next.2)) ]

  out_same : (a : ℕ) → out_of d.heap.shape a ≡ out_of c.heap.shape a
  out_same a = ap (λ (s : Shape). out_of s a) q.shape_is

  zone_same : (p : Place) → zone_of d.heap.shape p ≡ zone_of c.heap.shape p
  zone_same p = ap (λ (s : Shape). zone_of s p) q.shape_is

  name_same : (p : Place) → name_at d.heap.shape p ≡ name_at c.heap.shape p
  name_same p = ap (λ (s : Shape). name_at s p) q.shape_is

  in_groups_back : (z : ℕ) → IsInGroups d.groups z → IsInGroups c.groups z
  in_groups_back z i = subst (λ gs. IsInGroups gs z) q.groups_is i

  in_groups_on : (z : ℕ) → IsInGroups c.groups z → IsInGroups d.groups z
  in_groups_on z i = subst (λ gs. IsInGroups gs z) (sym q.groups_is) i

  states_after : (r : RunState) → c.run ≡ Some r → AreInStates c r → AreInStates d r
  states_after r running s = record {
    outside = λ z out. stays z state.NoGC (s.outside z out) (λ e. cc e);
    made = λ z here. subst (λ n. z < n) (sym q.sized) (s.made z here);
    early = λ unformed z here. elim (q.states z) [
      | inl same ↦ same ∙ s.early unformed z here
      | inr next ↦ absurd (let same : r ≡ next.0.0 = some_one _ _ (sym running ∙ next.0.1) in
          let formed : r.formed ≡ true = ap (λ (x : RunState). x.formed) same ∙ next.0.2 in cc (unformed, formed))
    ];
    later = λ formed z here. elim (s.later formed z (in_groups_back z here)) [
      | inl only ↦ elim (q.states z) [
        | inl same ↦ inl (same ∙ only)
        | inr next ↦ inr (subst (λ gs. IsCurrent gs z) (sym q.groups_is) next.1, next.3)
      ]
      | inr both ↦ inr (
        subst (λ gs. IsCurrent gs z) (sym q.groups_is) both.0,
        stays z state.MarkBlackAndGray both.1 (λ e. cc e),
      )
    ];
    ended = λ formed z here none. elim (s.ended formed z here (λ i. none (in_groups_on z i))) [
      | inl sweep ↦ inl (stays z state.Sweep sweep (λ e. cc e))
      | inr finished ↦ inr (stays z state.Finished finished (λ e. cc e))
    ];
    sweeping = λ z a p at zone out.
        stays z state.Sweep (s.sweeping z a p at (sym (zone_same p) ∙ zone)
        (subst (λ (o : Option Bits). IsSome o) (out_same a) out)) (λ e. cc e);
    swept = λ none z sweep. elim (q.states z) [
      | inl same ↦ s.swept (λ a. sym (out_same a) ∙ none a) z (sym same ∙ sweep)
      | inr next ↦ absurd (cc (sweep, next.3))
    ];
  }

  tied_after : (w : World) (k : Collection) → AreTied (heap_with c flown) c.stack c.lists w k
      → AreTied (heap_with d flying) d.stack d.lists w k
  tied_after w k t = record {
    black = λ x p named. (
      (λ l. (t.black x p (sym (name_same p) ∙ named)).0 ((q.black p).0 l)),
      λ u. (q.black p).1 ((t.black x p (sym (name_same p) ∙ named)).1 u),
    );
    live = λ x p named. (
      (λ l. (t.live x p (sym (name_same p) ∙ named)).0 ((q.live p).0 l)),
      λ u. (q.live p).1 ((t.live x p (sym (name_same p) ∙ named)).1 u),
    );
    present = t.present;
    edges_then = t.edges_then;
    entries_then = t.entries_then;
    grown = t.grown;
    formed = t.formed;
  }

  across_back : (r : RunState) (p x : Place) → LeadsAcross d.heap.shape r p x → LeadsAcross c.heap.shape r p x
  across_back r p x l = subst (λ (s : Shape). LeadsAcross s r p x → LeadsAcross c.heap.shape r p x) (sym q.shape_is)
      (λ m. record { edge = m.edge; from = m.from; to = m.to; apart = m.apart }) l

  key_back : (p : Place) → IsKey d.heap.shape p → IsKey c.heap.shape p
  key_back p key = subst (λ (s : Shape). IsKey s p → IsKey c.heap.shape p) (sym q.shape_is) (λ k. k) key

  runs_after : (w : World) (r : RunState) (k : Collection) → RepresentsMarking c flown w → c.run ≡ Some r
      → w.collection ≡ Some k → KeepsLooks w c flown d flying → Runs (heap_with c flown) c w r k
      → Runs (heap_with d flying) d w r k
  runs_after w r k old running at looks s = record {
    started = s.started;
    zones_are = s.zones_are;
    marking_are = λ z. (
      (λ m. marking_same z ∙ (s.marking_are z).0 m),
      λ m. (s.marking_are z).1 (sym (marking_same z) ∙ m),
    );
    groups_are = s.groups_are ∙ ap (λ (gs : List ZoneSet). if r.formed then Some (map zones_in gs) else None)
        (sym q.groups_is);
    states = states_after r running s.states;
    tied = λ z m. tied_after w k (s.tied z m);
    early = λ unformed. looks r k old running at unformed (s.early unformed);
  }

  looked_back : HasSameLooks c d → (p : Place) → IsLookedAt d.heap.shape d.edges p → IsLookedAt c.heap.shape c.edges p
  looked_back e p at = subst (λ (s : Shape). IsLookedAt s d.edges p → IsLookedAt c.heap.shape c.edges p)
      (sym q.shape_is) (λ m.
      record {
        index = m.index;
        before = subst (λ (cs : List ℕ). m.index < slice_index_or cs (zone_of c.heap.shape p) 0)
            e.cursors_are m.before;
        stands = m.stands;
      }) at

  -- a wrapper that was not looked at was not
  left_same : HasSameLooks c d → AreLeftBlack (heap_with c flown) c.edges → AreLeftBlack (heap_with d flying) d.edges
  left_same e l z i p x here past at held =
      let here_then = subst (λ (y : ZoneSet). HasZone y.bits z) e.zones_are here in
      let past_then = subst (λ (cs : List ℕ). slice_index_or cs z 0 ≤ i) e.cursors_are past in
      let at_then = subst (λ (s : Shape). wrapper_at s z i ≡ Some p → wrapper_at c.heap.shape z i ≡ Some p)
      (sym q.shape_is) (λ m. m) at in
      let held_then = subst (λ (s : Shape). field_at s p 0 ≡ Some x → field_at c.heap.shape p 0 ≡ Some x)
      (sym q.shape_is) (λ m. m) held in
      q.darker x (l z i p x here_then past_then at_then held_then)

  -- where each was looked at, none is left
  none_left : AreAllLookedAt c.heap.shape c.edges → AreLeftBlack (heap_with c flown) c.edges
  none_left all z i p x here past at held =
      absurd (past_end (list_of c.heap.shape.wrappers z) i (let most = all z here in omega arith) at)
    where
      past_end : (es : List (WrapperKey × Place)) (i : ℕ) → length es ≤ i
          → option_map (λ (e : WrapperKey × Place). e.1) (slice_get es i) ≡ Some p → ⊥
      past_end [] i le e = cc e
      past_end (y ∷ es) zero le e = omega arith
      past_end (y ∷ es) (suc i) le e = past_end es i (omega arith) e

  edge_on : HasSameLooks c d → (p x : Place) → Edge c.edges.sources (zone_of c.heap.shape p) (zone_of c.heap.shape x)
      → Edge d.edges.sources (zone_of d.heap.shape p) (zone_of d.heap.shape x)
  edge_on e p x n = subst (λ z. Edge d.edges.sources z (zone_of d.heap.shape x)) (sym (zone_same p))
      (subst (λ z. Edge d.edges.sources (zone_of c.heap.shape p) z) (sym (zone_same x))
      (subst (λ (z : List ZoneSet). Edge z (zone_of c.heap.shape p) (zone_of c.heap.shape x)) (sym e.sources_are) n))

  -- where the same is noted, what was noted is noted rightly
  pub keeps_looks : HasSameLooks c d → (w : World) → KeepsLooks w c flown d flying
  keeps_looks e w r k old running at unformed l = record {
    zones_are = e.zones_are ∙ l.zones_are;
    first = λ a b n. l.first a b (subst (λ (z : List ZoneSet). Edge z a b) e.sources_are n);
    looked = λ p x across at. elim (l.looked p x (across_back r p x across) (looked_back e p at)) [
      | inl b ↦ inl (q.darker x b)
      | inr n ↦ inr (
        edge_on e p x n.0,
        λ key. elim (n.1 (key_back p key)) [ inl b ↦ inl (q.darker p b) | inr back ↦ inr (edge_on e x p back) ],
      )
    ];
    left_black = elim e.stepped [
      | inr all ↦ inr (left_same e (none_left all))
      | inl same ↦ elim l.left_black [
        | inl fresh ↦ inl (ap (λ (z : ZoneSet). z.bits) same ∙ fresh)
        | inr black
            ↦ inr (left_same e black)
      ]
    ];
  }

  pub looks_same : d.edges ≡ c.edges → HasSameLooks c d
  looks_same e = record {
    zones_are = ap (λ (z : Noted). z.zones) e;
    sources_are = ap (λ (z : Noted). z.sources) e;
    cursors_are = ap (λ (z : Noted). z.cursors) e;
    stepped = inl (ap (λ (z : Noted). z.stepped) e);
  }

  idle_after : IsIdle c → d.stack.black ≡ [] → d.stack.gray ≡ [] → IsIdle d
  idle_after i black gray = record {
    states = λ z. stays z state.NoGC (i.states z) (λ e. cc e);
    kept = λ a. out_same a ∙ i.kept a;
    black = black;
    gray = gray;
  }

  module _ (w : World) (looks : KeepsLooks w c flown d flying) (old : RepresentsMarking c flown w) where
    runs_as : (o : Option RunState) (k : Option Collection) → c.run ≡ o → w.collection ≡ k
        → RunsAs (heap_with c flown) c w o k → RunsAs (heap_with d flying) d w o k
    runs_as None None e f i = idle_after i (empty d.stack.black (λ x c'. unmarked x
        (q.coloured.marks.holds.piles.black x c').1))
        (none_piled (heap_with d flying) d.stack d.lists q.coloured.waits (λ z both. cc (
          stays z state.NoGC
              (i.states z) (λ only. cc only),
          both,
        )))
      where
        unmarked : (x : Place) → is_marking d.heap.shape x ≡ true → ⊥
        unmarked x m = let no : state_in d.heap.shape (zone_of d.heap.shape x) ≡ state.NoGC =
            stays _ state.NoGC (i.states _) (λ only. cc only) in cc (ap is_marking_state no, m)

        empty : (xs : List Place) → ((x : Place) → Contains xs x → ⊥) → xs ≡ []
        empty [] none = refl
        empty (x ∷ xs) none = absurd (none x (contains_head x xs))
    runs_as None (Some k) e f i = i
    runs_as (Some r) None e f i = i
    runs_as (Some r) (Some k) e f i = runs_after w r k old e f looks i

    black_after : IsSettled w → AreBlack (heap_with d flying) w
    black_after settled x p named =
        let none : (z : ℕ) → is_marking_state (state_in c.heap.shape z) ≡ false =
        settled_states (heap_with c flown) c w c.run w.collection old.phase.runs settled.none_marking in
        let before = settled_pending (heap_with c flown) c.stack old.coloured.marks
        (settled_heap (heap_with c flown) c.stack c.lists old.coloured.waits none) p in
        let after = settled_pending (heap_with d flying) d.stack q.coloured.marks
        (settled_heap (heap_with d flying) d.stack d.lists q.coloured.waits (λ z. marking_same z ∙ none z)) p in
        let was = old.phase.black settled x p (sym (name_same p) ∙ named) in
        ((λ b. after.0 ((q.black p).1 (before.1 (was.0 b)))), λ b. was.1 (before.0 ((q.black p).0 (after.1 b))))

    pub quiet : RepresentsMarking d flying w
    quiet = record {
      placed = placed_same c.heap d.heap w same_cells same_arenas q.delayed_is q.weak_names_is old.placed;
      swept = swept_in c.heap.shape d.heap.shape flown flying same_arenas q.flies old.swept;
      coloured = q.coloured;
      phase = record {
        calm = old.phase.calm;
        black = black_after;
        runs = subst (λ (o : Option RunState). RunsAs (heap_with d flying) d w o w.collection) (sym q.run_is)
            (runs_as c.run w.collection refl refl old.phase.runs);
      };
    }
