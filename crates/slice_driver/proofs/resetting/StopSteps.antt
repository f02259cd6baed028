-- The steps by which a collection is given up.
use Rattle.std.proofs.Common.{◌≡◌, ◌⊎◌, ◌↔◌, ◌<◌, ◌^◌, ◌++◌, ℕ, List, [], Option, Some, None, IfSome, IsSome}
use Rattle.std.proofs.Common.{IsSomeAnd, is_some, length, replicate, slice_get, inl, inr, refl, sym, ap, subst, ◌∙◌}
use Rattle.gz_names.specs.Zones.{HasZone}
use Rattle.gz_names.specs.declared.numbers.Place.{Place}
use Rattle.gz_names.specs.declared.zone_sets.ZoneSet.{ZoneSet}
use Rattle.zones.specs.States.{IsMarking}
use Rattle.zones.specs.declared.states.State.TheVariants as state
use Rattle.cell_bits.specs.declared.bits.Bits.{Bits}
use Rattle.mark_stack.specs.Stack.{Piles, no_places}
use Rattle.weak_maps.specs.WeakMaps.{NoneLeft}
use Rattle.weak_maps.specs.declared.colours.MarkColour.{MarkColour}
use Rattle.weak_maps.specs.declared.colours.MarkColour.TheVariants as mark
use Rattle.heap_core.specs.Shape.{IsPresent, Shape, is_marking_state, out_of, state_in, state_or, zone_of}
use Rattle.heap_core.specs.Heap.{HeapState, colour_in, colour_of, joined, without_delayed}
use Rattle.barriers.specs.Colours.{IsBlack}
use Rattle.barriers.specs.Draining.{DrainDone, MayDrain}
use Rattle.barriers.specs.Following.{FollowDone}
use Rattle.barriers.specs.Invariant.{InvariantWhile, MarkingInvariant}
use Rattle.barriers.specs.Pending.{pending}
use Rattle.barriers.specs.Reached.{Reached}
use Rattle.barriers.specs.Reached as reached
use Rattle.barriers.specs.Spreading.{Blackens, Covers}
use Rattle.barriers.proofs.BlackClosure.{reached_from}
use Rattle.barriers.proofs.Spreading.{blackens_more}
use Rattle.slice_driver.specs.Collector.{CollectorState, RunState, heap_with}
use Rattle.slice_driver.specs.Represents.{NothingLeft, Represents, going, prepared}
use Rattle.slice_driver.specs.Resets.{BlackensAll, MayFollowAll, places_in}
use Rattle.slice_driver.specs.Units.{IsSound}
use Rattle.slice_driver.proofs.abstraction.Named.{some_one}
use Rattle.slice_driver.proofs.abstraction.Phases.{swept_of}
use Rattle.slice_driver.proofs.group_end.Ready.{collection_of, joined_none, no_some, runs_of}
use Rattle.slice_driver.proofs.resetting.GivingUp.{AreStopping, GivenUp, may_stop}
use Rattle.slice_driver.proofs.resetting.Stopped.{IsStopped, MayStop, invariant_stopped, none_black, none_weak, outside}
use Rattle.slice_driver.proofs.resetting.Stopped.{scanned_once, stopped_in}
use Rattle.slice_driver.proofs.taking_in.Runs.{has_zone_or_not}

-- those that are stopped are the zones of either set
pub are_stopping : (s : Shape) (a b u : ZoneSet)
    → ((z : ℕ) → HasZone a.bits z ↔ IsSomeAnd (slice_get s.states z) IsMarking)
    → ((z : ℕ) → HasZone b.bits z ↔ (slice_get s.states z ≡ Some state.Prepare))
    → ((z : ℕ) → HasZone u.bits z ↔ (HasZone a.bits z ⊎ HasZone b.bits z)) → AreStopping s u
are_stopping s a b u marking preparing both z = (
  λ has. elim ((both z).0 has) [
    | inl m ↦ inl ((marking z).0 m)
    | inr p ↦ inr ((preparing z).0 p)
  ],
  λ i. (both z).1 (elim i [
    | inl m ↦ inl ((marking z).1 m)
    | inr p ↦ inr ((preparing z).1 p)
  ]),
)

-- zones that are not of the collection are in none
outside_run : (c : CollectorState) (flown : ℕ → Option Bits) (r : RunState) → IsSound c flown → c.run ≡ Some r
    → (z : ℕ) → (HasZone r.zones.bits z → ⊥) → state_in c.heap.shape z ≡ state.NoGC
outside_run c flown r s is z out = go s.represents
  where
    go : Represents c flown s.world → state_in c.heap.shape z ≡ state.NoGC
    go (going m) =
        let k = collection_of c (heap_with c flown) s.world r is m.phase.runs in
        (runs_of c (heap_with c flown) s.world r k.0 is k.1 m.phase.runs).states.outside z out
    go (prepared p) =
        let same : r ≡ p.run = some_one _ _ (sym is ∙ p.run_is) in
        p.phase.outside z (λ has. out (subst (λ (t : RunState). HasZone t.zones.bits z) (sym same) has))

run_of_some : (o : Option RunState) → IsSome o → (r : RunState) × (o ≡ Some r)
run_of_some None some = absurd (cc some)
run_of_some (Some r) some = (r, refl)

pub nothing_left : (h : HeapState) → ((c : MarkColour) → NoneLeft c h.looks) → NothingLeft h.looks
nothing_left h none = (none mark.Gray, none mark.Black)

module _ (c : CollectorState) (flown : ℕ → Option Bits) (s : IsSound c flown) (running : IsSome c.run)
    (kept : (a : ℕ) → out_of c.heap.shape a ≡ None) (zones : ZoneSet) (small : zones.bits < 2 ^ 64)
    (are : AreStopping c.heap.shape zones) (forgotten stopped : HeapState)
    (forgets : forgotten ≡ record c.heap {
      buffers = replicate 64 [];
      looks = forgotten.looks;
      delayed = no_places;
    }) (none : (colour : MarkColour) → NoneLeft colour forgotten.looks) (of_run : ZoneSet)
    (run_is : IfSome c.run (λ (r : RunState). of_run ≡ r.zones))
    (rest : stopped ≡ record forgotten { shape = record forgotten.shape { states = stopped.shape.states } })
    (in_none : (z : ℕ) → HasZone of_run.bits z → slice_get stopped.shape.states z ≡ Some state.NoGC)
    (others : (z : ℕ) → (HasZone of_run.bits z → ⊥)
    → slice_get stopped.shape.states z ≡ slice_get forgotten.shape.states z)
    (count : length stopped.shape.states ≡ length forgotten.shape.states) where
  pub may : MayStop c.heap zones
  may = may_stop c flown zones s kept small are

  shape_forgotten : forgotten.shape ≡ c.heap.shape
  shape_forgotten = ap (λ (z : HeapState). z.shape) forgets

  shape_then : stopped.shape ≡ record c.heap.shape { states = stopped.shape.states }
  shape_then = ap (λ (z : HeapState). z.shape) rest
      ∙ ap (λ (t : Shape). record t { states = stopped.shape.states }) shape_forgotten

  colours_then : stopped.colours ≡ c.heap.colours
  colours_then = ap (λ (z : HeapState). z.colours) rest ∙ ap (λ (z : HeapState). z.colours) forgets

  colour_then : (x : Place) → colour_of stopped x ≡ colour_of c.heap x
  colour_then x = ap (λ (cs : List Bits). colour_in (slice_get cs x.0) x.1) colours_then

  states_then : (z : ℕ) → state_in stopped.shape z ≡ state.NoGC
  states_then z =
      let r = run_of_some c.run running in
      let zones_are : of_run ≡ r.0.zones = subst (λ o. IfSome o (λ (t : RunState). of_run ≡ t.zones)) r.1 run_is in
      elim (has_zone_or_not of_run.bits z) [
        | inl has ↦ ap state_or (in_none z has)
        | inr out ↦ ap state_or (others z out) ∙ (ap (λ (t : Shape). state_in t z) shape_forgotten
            ∙ outside_run c flown r.0 s r.1 z (λ has. out (subst (λ (t : ZoneSet). HasZone t.bits z) (sym zones_are)
            has)))
      ]

  -- cells may be blackened
  pub sized_then : length stopped.colours ≡ length stopped.shape.arenas
  sized_then = ap (λ (cs : List Bits). length cs) colours_then ∙ (may.sized
      ∙ ap (λ (t : Shape). length t.arenas) (sym shape_then))

  module _ (black : HeapState) (blackens : BlackensAll stopped zones black) where
    shape_black : black.shape ≡ stopped.shape
    shape_black = ap (λ (z : HeapState). z.shape) blackens.rest

    zone_on : (x : Place) → HasZone zones.bits (zone_of c.heap.shape x) → HasZone zones.bits (zone_of stopped.shape x)
    zone_on x has = subst (λ (t : Shape). HasZone zones.bits (zone_of t x)) (sym shape_then) has

    zone_was : (x : Place) → HasZone zones.bits (zone_of stopped.shape x) → HasZone zones.bits (zone_of c.heap.shape x)
    zone_was x has = subst (λ (t : Shape). HasZone zones.bits (zone_of t x)) shape_then has

    pub is_stopped : IsStopped c.heap zones black
    is_stopped = record {
      shape_is = shape_black ∙ (shape_then
          ∙ ap (λ ts. record c.heap.shape { states = ts }) (ap (λ (t : Shape). t.states) (sym shape_black)));
      count = ap (λ (t : Shape). length t.states) shape_black ∙ (count
          ∙ ap (λ (t : Shape). length t.states) shape_forgotten);
      states = λ z. ap (λ (t : Shape). state_in t z) shape_black ∙ states_then z;
      delayed = ap (λ (z : HeapState). z.delayed) blackens.rest ∙ (ap (λ (z : HeapState). z.delayed) rest
          ∙ ap (λ (z : HeapState). z.delayed) forgets);
      sized = blackens.sized ∙ ap (λ (cs : List Bits). length cs) colours_then;
      black = λ x has there. blackens.black x (zone_on x has)
          (subst (λ (t : Shape). IsPresent t x) (sym shape_then) there);
      seen = λ x has seen. elim (blackens.seen x (zone_on x has) seen) [
        | inl there ↦ inl (subst (λ (t : Shape). IsPresent t x) shape_then there)
        | inr was ↦ inr
            (elim was [ inl g ↦ inl (sym (colour_then x) ∙ g) | inr b ↦ inr (sym (colour_then x) ∙ b) ])
      ];
      others = λ x out. blackens.others x (λ has. out (zone_was x has)) ∙ colour_then x;
    }

    pub looks_black : NothingLeft black.looks
    looks_black = subst (λ l. NothingLeft l) (sym (ap (λ (z : HeapState). z.looks) blackens.rest
        ∙ ap (λ (z : HeapState). z.looks) rest)) (nothing_left forgotten none)

    none_flown : (a : ℕ) → flown a ≡ None
    none_flown a = no_some (flown a)
        ((swept_of c flown s.world s.represents).flies.covers a ∙ ap is_some (kept a))

    out_black : (a : ℕ) → out_of black.shape a ≡ None
    out_black a = ap (λ (t : Shape). out_of t a) is_stopped.shape_is ∙ kept a

    joined_is : joined black flown ≡ black
    joined_is = joined_none black flown is_stopped.delayed none_flown

    pending_is : (p : Piles) → p ≡ no_places → pending black p ≡ no_places
    pending_is p none = ap (λ (q : Piles). pending black q) none
        ∙ ap (λ (d : Piles). pending (record black { delayed = d }) no_places) is_stopped.delayed

    module _ (ledger : ℕ) (counted : c.heap.ledger ≡ Some ledger) (p : Piles) (cleared : p ≡ no_places) where
      ledger_is : black.ledger ≡ Some ledger
      ledger_is = ap (λ (z : HeapState). z.ledger) blackens.rest ∙ (ap (λ (z : HeapState). z.ledger) rest
          ∙ (ap (λ (z : HeapState). z.ledger) forgets ∙ counted))

      -- and be followed
      pub may_follow : MayFollowAll ledger (places_in zones.bits 0 black.shape.arenas) [] black flown p
      may_follow = record {
        counted = ledger_is;
        covers = λ a. ap is_some (none_flown a) ∙ sym (ap is_some (out_black a));
        outside = outside c.heap zones black may is_stopped;
        black = λ x has.
            let at = stopped_in c.heap zones black may is_stopped x has in
            subst (λ (h : HeapState). IsBlack h x) (sym joined_is) (is_stopped.black x at.0 at.1);
        holds = subst (λ (h : HeapState). InvariantWhile (places_in zones.bits 0 black.shape.arenas ++ []) h
            (pending black p)) (sym joined_is)
            (subst (λ (q : Piles). InvariantWhile (places_in zones.bits 0 black.shape.arenas ++ []) black q)
            (sym (pending_is p cleared)) (invariant_stopped c.heap zones black may is_stopped));
      }

      module _ {S O : Type 0} (bits_of : S → ℕ → Option Bits) (origin_of : S → O) (f : S) (flies : bits_of f ≡ flown)
          (h : HeapState) (i : S) (q : Piles)
          (done : FollowDone bits_of origin_of (Reached black.shape (IsBlack (joined black (bits_of f)))) [] black f p
          h i q) where
        shape_followed : h.shape ≡ black.shape
        shape_followed = ap (λ (z : HeapState). z.shape) done.grows.spreads.blackens.rest

        states_followed : (z : ℕ) → state_in h.shape z ≡ state.NoGC
        states_followed z = ap (λ (t : Shape). state_in t z) shape_followed ∙ is_stopped.states z

        gray_followed : (pending h q).gray ≡ []
        gray_followed = done.grows.spreads.gray_is ∙ ap (λ (r : Piles). r.gray) (pending_is p cleared)

        -- then the woken cells may be followed
        pub may_drain : MayDrain ledger h (bits_of i) q
        may_drain = record {
          counted = ap (λ (z : HeapState). z.ledger) done.grows.spreads.blackens.rest ∙ ledger_is;
          covers = done.covers;
          holds = done.holds;
          weak = none_weak (joined h (bits_of i)) (pending h q) states_followed;
          once = scanned_once (joined h (bits_of i)) (pending h q)
              (none_black (joined h (bits_of i)) (pending h q) done.holds.piles
              (λ x. ap (λ t. is_marking_state t) (states_followed (zone_of h.shape x))))
              gray_followed;
        }

        module _ (read : ℕ) (l : HeapState) (j : S) (r : Piles) (now : ℕ)
            (drained : DrainDone bits_of origin_of h i q read l j r now) (d : CollectorState)
            (heap_is : d.heap ≡ without_delayed l) (stack_is : d.stack ≡ pending l r)
            (lists : d.lists ≡ record c.lists { lists = replicate 256 [] }) (idle : d.run ≡ None) where
          abbrev from_black : Place → Type 0
          from_black = Reached black.shape (IsBlack black)

          joined_here : joined black (bits_of f) ≡ black
          joined_here = ap (λ (b : ℕ → Option Bits). joined black b) flies ∙ joined_is

          first : Blackens from_black black (joined h (bits_of i))
          first = subst (λ (b : HeapState). Blackens (Reached black.shape (IsBlack b)) b (joined h (bits_of i)))
              joined_here done.grows.spreads.blackens

          grown_here : Blackens from_black black (joined l (bits_of j))
          grown_here = blackens_more from_black (Reached h.shape (IsBlack (joined h (bits_of i)))) from_black black
              (joined h (bits_of i)) (joined l (bits_of j)) first drained.spreads.blackens (λ y was. was)
              (λ y was. reached_from black.shape (IsBlack (joined h (bits_of i))) (IsBlack black) (λ z b.
              elim (first.only z b) [ inl old ↦ reached.from old | inr new ↦ new ])
              (subst (λ (t : Shape). Reached t (IsBlack (joined h (bits_of i))) y) shape_followed was))

          -- so the collection is given up
          pub given_up : GivenUp c zones black d (bits_of j)
          given_up = record {
            stopped = is_stopped;
            looks = looks_black;
            buffers = ap (λ (z : HeapState). z.buffers) blackens.rest ∙ (ap (λ (z : HeapState). z.buffers) rest
                ∙ ap (λ (z : HeapState). z.buffers) forgets);
            made = ap (λ (z : HeapState). z.made) blackens.rest ∙ (ap (λ (z : HeapState). z.made) rest
                ∙ ap (λ (z : HeapState). z.made) forgets);
            weak_names = ap (λ (z : HeapState). z.weak_names) blackens.rest
                ∙ (ap (λ (z : HeapState). z.weak_names) rest ∙ ap (λ (z : HeapState). z.weak_names) forgets);
            ledger = ap (λ (z : HeapState). z.ledger) blackens.rest ∙ (ap (λ (z : HeapState). z.ledger) rest
                ∙ ap (λ (z : HeapState). z.ledger) forgets);
            grown = subst (λ (z : HeapState). Blackens from_black black (joined z (bits_of j))) (sym heap_is)
                grown_here;
            invariant = subst (λ (z : HeapState). MarkingInvariant
                (joined z (bits_of j)) d.stack) (sym heap_is)
                (subst (λ (u : Piles). MarkingInvariant (joined l (bits_of j)) u)
                (sym stack_is) drained.invariant);
            gray = ap (λ (u : Piles). u.gray) stack_is ∙ (drained.spreads.gray_is ∙ gray_followed);
            delayed = ap (λ (z : HeapState). z.delayed) heap_is;
            lists = lists;
            run = idle;
            covers = subst (λ (z : HeapState). Covers z.shape (bits_of j)) (sym heap_is) drained.covers;
          }
