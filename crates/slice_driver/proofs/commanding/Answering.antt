-- The call of a command, also between two units of a collection.
use Rattle.std.proofs.Common.{◌≡◌, ◌↔◌, ◌≤◌, ◌*◌, ℕ, false, List, length, Option, Some, None, is_some, Result, Ok, Err}
use Rattle.std.proofs.Common.{IfErr, IfOk, OnErr, Contains, slice_get, if◌then◌else◌, refl, sym, ap, subst, ◌∙◌, inl}
use Rattle.std.proofs.Common.{inr, IsSome, ◌+◌, ◌||◌, ◌<◌, Bool, true, arith, eqb-true, slice_index_or}
use Rattle.std.specs.Int.{bit_at}
use Rattle.std.specs.FinSet as set
use Rattle.gz_names.specs.declared.names.Name.{Name}
use Rattle.gz_names.specs.declared.names.Name.TheVariants.{Cell, Wrap}
use Rattle.gz_names.specs.Zones.{HasZone}
use Rattle.gz_names.specs.declared.numbers.CompNo.{CompNo}
use Rattle.gz_names.specs.declared.zone_sets.ZoneSet.{ZoneSet}
use Rattle.gz_names.specs.declared.numbers.Place.{Place}
use Rattle.gz_names.specs.declared.commands.GraphCmd.{GraphCmd}
use Rattle.gz_names.specs.declared.replies.Reply.{Reply}
use Rattle.gz_names.specs.declared.replies.CmdFault.{CmdFault}
use Rattle.gz_names.specs.declared.replies.CmdFault.TheVariants as fault
use Rattle.cell_bits.specs.declared.bits.Bits.{Bits}
use Rattle.zones.specs.declared.states.State.TheVariants as state
use Rattle.arena_table.specs.Cells.{CellState}
use Rattle.arena_table.specs.Indexed.{in_zones}
use Rattle.weak_maps.specs.Places.{is_same}
use Rattle.weak_maps.specs.WeakMaps.{AreParallel, IsSound as AreEntries, value_of}
use Rattle.weak_maps.proofs.Places.{is_same-self}
use Rattle.slice_driver.proofs.basics.Rows.{rows_changed}
use Rattle.wrappers.specs.WrapperMaps.{AreApart}
use Rattle.mark_stack.specs.Stack.{Piles}
use Rattle.gray_lists.specs.Incoming.{Incoming}
use Rattle.colour_defs.specs.Graph.{GraphState, is_in_zones, register_cell}
use Rattle.colour_defs.specs.Laws.{IsValid}
use Rattle.colour_defs.specs.Step.{step_of}
use Rattle.colour_defs.specs.Units.{Tally, holds_delegate_in_zones, is_held_in_zones, with_put, with_woken}
use Rattle.colour_defs.specs.World.{World, Collection, IsSettled, with_counts, woken_by}
use Rattle.colour_defs.proofs.Lists.{both_of, nothing_in_none}
use Rattle.colour_defs.proofs.Membership.{in_zone}
use Rattle.colour_defs.proofs.ZoneSets.{zones_in-has}
use Rattle.colour_defs.proofs.ValidCommands.{command_valid}
use Rattle.heap_core.specs.declared.plans.Change.{Change}
use Rattle.heap_core.specs.declared.plans.Change.TheVariants as change
use Rattle.heap_core.specs.declared.plans.Plan.{Plan}
use Rattle.heap_core.specs.Shape.{Shape, delegate_of_key, held_name, is_marking, is_marking_state, name_at, out_of}
use Rattle.heap_core.specs.Shape.{state_in, state_of, zone_of}
use Rattle.heap_core.specs.Heap.{HeapState, colour_in, colour_of, joined, reg_of, weak_of, with_flown, with_marks}
use Rattle.heap_core.specs.Answers.{DoesStep}
use Rattle.heap_core.specs.Changes.{IsWith, Makes}
use Rattle.heap_core.specs.Effects.{HoldsWrapper}
use Rattle.heap_core.specs.Lookups.{number_at}
use Rattle.heap_core.specs.Plans.{ChangesBy, IsAble, IsPlanIn, IsTarget, MayWant, WakesBy, handed_by, overwritten_by}
use Rattle.heap_core.proofs.Planned.{handed-wants, planned-at, planned-here}
use Rattle.heap_core.proofs.Shown.{reg_present, reg_shown}
use Rattle.heap_core.specs.Shows.{Shows}
use Rattle.barriers.specs.Colours.{IsBlack}
use Rattle.barriers.specs.Exposing.{BlackOr, Exposes}
use Rattle.barriers.specs.Invariant.{IsSettled as IsSettledHeap, MarkingInvariant}
use Rattle.barriers.specs.PendingLive.{GrayInvariant}
use Rattle.barriers.specs.Reached.{Reached}
use Rattle.barriers.specs.Spreading.{Covers}
use Rattle.zone_edges.specs.Looks.{WrapsBlack, left_to_look}
use Rattle.barriers.proofs.BlackClosure.{reached_more}
use Rattle.slice_driver.specs.Closures.{AreTied}
use Rattle.slice_driver.specs.Collector.{CollectorState, RunState, heap_with}
use Rattle.slice_driver.specs.Commands.{ComesTo, DoesInWorld, Exposed, KeepsBlack, SpreadsBlack, StayInPlace, Wakes}
use Rattle.slice_driver.specs.Commands.{waking, with_colours}
use Rattle.slice_driver.specs.Remaining.{clearing_left, grouping_left, left_of, steps_left, steps_of, ungrouped_below}
use Rattle.slice_driver.specs.Represents.{AreInStates, AreLookedAt, IsIdle, RepresentsMarking, Runs, RunsAs, going}
use Rattle.slice_driver.specs.Represents.{WaitsWhileMarking}
use Rattle.slice_driver.specs.Serves.{Serves}
use Rattle.slice_driver.specs.Steps.{CommandSteps, GoesThrough}
use Rattle.slice_driver.specs.Units.{AnswersIn, KeepsFreedWords}
use Rattle.slice_driver.specs.UnitsToCome.{marking_to_come, units_to_come}
use Rattle.slice_driver.specs.Worlds.{IsInFlight, IsUnswept, LiesIn}
use Rattle.slice_driver.proofs.beginning.Begun.{none_member}
use Rattle.slice_driver.proofs.abstraction.Waits.{nothing_changed}
use Rattle.slice_driver.proofs.basics.LeftLooks.{changed_left, same_left}
use Rattle.slice_driver.proofs.commanding.CommandRuns.{names_come, names_stay, runs_served, waits_served}
use Rattle.slice_driver.proofs.commanding.Commanding.{exposed_marks, markable}
use Rattle.slice_driver.proofs.marking.Flights.{still_flies}
use Rattle.slice_driver.proofs.commanding.FreedWords.{keeps_words, same_words}
use Rattle.heap_core.proofs.MakingCells.{same-place}
use Rattle.slice_driver.proofs.abstraction.Keeping.{stay_same}
use Rattle.heap_core.proofs.Resolved.{shows_coloured}
use Rattle.slice_driver.proofs.abstraction.Lying.{lies_coloured, lies_marked, woken_in, zone_named}
use Rattle.slice_driver.proofs.measure.CommandsToCome.{CountsNoMore, change_wrappers, changed_marking, command_weak}
use Rattle.slice_driver.proofs.measure.CommandsToCome.{counts, delegate_is, more_looks, more_wrappers, steps_by_state}
use Rattle.slice_driver.proofs.measure.Fewer.{grouped}
use Rattle.slice_driver.proofs.taking_in.Runs.{has_zone_or_not}
use Rattle.slice_driver.proofs.marking.MarkingSteps.{own_sized}
use Rattle.slice_driver.proofs.marking.MarkingUnits.{piled_still, waits_on}
use Rattle.slice_driver.proofs.abstraction.Named.{delegate_named, name_of, some_one}
use Rattle.slice_driver.proofs.abstraction.WorldRuns.{none_prepared}
use Rattle.slice_driver.proofs.measure.MarkingToCome.{exposed_gray as exposed_pile}
use Rattle.slice_driver.proofs.measure.StatesToCome.{looks_to_come}
use Rattle.slice_driver.specs.declared.collector.Uncleared.{Uncleared}
use Rattle.weak_maps.specs.declared.delegates.Delegate.{Delegate}
use Rattle.slice_driver.proofs.abstraction.Moving.{IsHeld, Moves, finds, makes, moves_of, near_reached, quiet}
use Rattle.slice_driver.proofs.commanding.Quiet.{does_quiet}
use Rattle.slice_driver.proofs.abstraction.Steps.{settled_heap, settled_states}
use Rattle.slice_driver.proofs.abstraction.Serving.{serves}
use Rattle.slice_driver.proofs.commanding.Through.{IsReached, represents_exposed, represents_through}
use Rattle.slice_driver.proofs.commanding.Through.{represents_widened}
use Rattle.slice_driver.proofs.abstraction.Tying.{objects_grow, tied_exposed, tied_made, tied_served}
use Rattle.slice_driver.proofs.commanding.Viewed.{delayed_kept, weak_names_kept}
use Rattle.slice_driver.proofs.commanding.Waking.{does_found, does_made}
use Rattle.slice_driver.proofs.basics.Woken.{made_black, one_spreads, others_keep, reached_kept}

-- a zone of a word, where its bit is set
zone_at_bit : (word z : ℕ) → z < 64 → in_zones word z ≡ true → HasZone word z
unfolding HasZone
zone_at_bit word z below set = (below, eqb-true (bit_at word z) 1 set)

-- through a barrier
pub exposed_is : (o : Option Place) (h : HeapState) (s : Piles) (k : HeapState) (t : Piles) → Exposed o h s k t
    → (p : Place) → o ≡ Some p → IsBlack k p
exposed_is None h s k t e p is = absurd (cc is)
exposed_is (Some x) h s k t e p is = (let same : x ≡ p = cc is in subst (IsBlack k) same e.black)

pub exposed_keeps : (o : Option Place) (h : HeapState) (s : Piles) (k : HeapState) (t : Piles) → Exposed o h s k t
    → (p : Place) → IsBlack h p → IsBlack k p
exposed_keeps None h s k t e p b = subst (λ z. IsBlack z p) (sym e.0) b
exposed_keeps (Some x) h s k t e p b = e.spreads.blackens.kept p b

exposed_gray : (o : Option Place) (h k : HeapState) (s t : Piles) (lists : Incoming) → Exposed o h s k t
    → GrayInvariant h s lists → GrayInvariant k t lists
exposed_gray None h k s t lists e g =
    subst (λ z. GrayInvariant z t lists) (sym e.0) (subst (λ z. GrayInvariant h z lists) (sym e.1) g)
exposed_gray (Some x) h k s t lists e g = (e.pending_live lists g).0

-- what registers hold and what they reach is reached from black
held_reached : (c : CollectorState) (flown : ℕ → Option Bits) (w : World) → RepresentsMarking c flown w → (p : Place)
    → Reached c.heap.shape (IsHeld c.heap) p → Reached c.heap.shape (IsBlack (heap_with c flown)) p
held_reached c flown w rep p r = reached_more c.heap.shape (IsHeld c.heap) (IsBlack (heap_with c flown))
    (λ y held. rep.coloured.marks.holds.colours.regs_black y held) r

none_waking : (o : Option Name) → waking o None ≡ None
none_waking None = refl
none_waking (Some x) = refl

-- a collection with one woken name more
abbrev with_name : Name → Collection → Collection
with_name x k = record k { woken = set.insert k.woken x }

-- the last two steps: what is handed out goes through a barrier, and the heap does the command
module _ (b : CollectorState) (flown : ℕ → Option Bits) (command : GraphCmd) (ch : Change) (w : World) (ok : IsValid w)
    (rep : RepresentsMarking b flown w) (ds : List Bits) (delayed stack : Piles) (flying : ℕ → Option Bits)
    (exposed : Exposed (handed_by ch) (heap_with b flown) b.stack (joined (with_marks b.heap ds delayed) flying) stack)
    (covers : Covers b.heap.shape flying) (still : delayed ≡ b.heap.delayed) where
  abbrev given : Option Place
  given = handed_by ch

  abbrev m : HeapState
  m = with_marks b.heap ds delayed

  abbrev t : CollectorState
  t = record b { heap = m; stack = stack }

  lies : LiesIn m w
  lies = lies_marked b.heap ds delayed w rep.placed.lies

  lies_joined : LiesIn (joined m flying) w
  lies_joined = lies_coloured b.heap (with_flown flying 0 ds) w rep.placed.lies

  shows : Shows m rep.placed.lies.graph
  shows = shows_coloured b.heap ds delayed rep.placed.lies.graph rep.placed.lies.shown

  inv : MarkingInvariant (joined m flying) stack
  inv = exposed_marks given (heap_with b flown) b.stack (joined m flying) stack exposed rep.coloured.marks

  gray : GrayInvariant (joined m flying) stack b.lists
  gray = exposed_gray given (heap_with b flown) (joined m flying) b.stack stack b.lists exposed rep.coloured.gray

  -- nothing was handed out
  pub nothing_handed : given ≡ None → RepresentsMarking t flying w
  nothing_handed none = represents_exposed b flown w rep m stack flying covers still given exposed
      (λ p e. absurd (cc (none, e)))

  module _ (able : IsAble b.heap.shape b.heap.made ch) (apart : AreApart b.heap.shape.wrappers.lists)
      (gone_black : (p : Place) → overwritten_by b.heap.shape ch ≡ Some p → IsBlack (heap_with b flown) p)
      (target_black : WrapsBlack (heap_with b flown) ch) (answer : Reply) (new : HeapState)
      (does : DoesStep m command (Ok answer) new) (change : ChangesBy m ch answer new)
      (room : 64 * length new.colours ≤ b.lists.room) where
    abbrev es : List Bits
    es = with_flown flying 0 new.colours

    abbrev d : CollectorState
    d = record t { heap = new }

    keeps : (p : Place) → IsBlack (heap_with b flown) p → IsBlack (joined m flying) p
    keeps p black = exposed_keeps given (heap_with b flown) b.stack (joined m flying) stack exposed p black

    wraps_black : WrapsBlack (joined m flying) ch
    wraps_black r z c t is = keeps t (target_black r z c t is)

    pub served : Serves (joined m flying) (joined new flying) stack b.lists
    served = serves m new flying stack b.lists inv gray covers room (markable b flown w rep).none_prepared b.heap.made
        ch
        answer able
        (λ p e. keeps p (gone_black p e))
        (λ p e. exposed_is given (heap_with b flown) b.stack (joined m flying) stack exposed p e)
        wraps_black change

    grown : (v : World) → v.graph ≡ (step_of w.graph command).0 → length w.graph.objects ≤ length v.graph.objects
    grown v e = subst (λ (g : GraphState). length w.graph.objects ≤ length g.objects) (sym e)
        (objects_grow w.graph command)

    lies_after : (v : World) → LiesIn new v → LiesIn (joined new flying) v
    lies_after v l = lies_coloured new es v l

    -- a collector without a collection
    idle_served : IsIdle t → IsIdle d
    idle_served i = record {
      states = λ z. served.states z ∙ i.states z;
      kept = λ a. served.outs a ∙ i.kept a;
      black = i.black;
      gray = i.gray;
    }

    flies_served : IsInFlight m.shape flying → IsInFlight new.shape flying
    flies_served f = record {
      covers = λ a. f.covers a ∙ ap is_some (sym (served.outs a));
      woken = λ a old now out at. f.woken a old now (sym (served.outs a) ∙ out) at;
    }

    -- after the change the collector stands for the world after the command
    represents_after : (done : DoesInWorld w command answer new es)
        → ((p : Place) (x : Name) → IsUnswept new.shape p x ↔ IsUnswept m.shape p x) → IsInFlight m.shape flying
        → WaitsWhileMarking (joined m flying) stack b.lists → RunsAs (joined new flying) d done.after b.run
        done.after.collection
        → AnswersIn w command (Ok answer) d flying
    represents_after done unswept flies waits runs = (
      done.after,
      done.command,
      going (record {
        placed = record {
          delayed = delayed_kept m new ch answer change ∙ (still ∙ rep.placed.delayed);
          lies = done.lies;
          homes = rows_changed m new ch answer change rep.placed.homes;
        };
        swept = record {
          apart = λ x p q up uq. rep.swept.apart x p q ((unswept p x).0 up) ((unswept q x).0 uq);
          flies = flies_served flies;
        };
        coloured = record {
          marks = served.marks;
          gray = served.gray;
          waits = waits_served t d flying refl served inv (nothing_changed m new ch answer change)
              (changed_left m new ch answer change) waits;
        };
        phase = record { calm = done.preparing_is ∙ rep.phase.calm; black = done.black; runs = runs };
      }),
    )

    -- the collection that runs, by what it is after the command
    module _ (done : DoesInWorld w command answer new es) (names : (q : Place) (y : Name) → name_at m.shape q ≡ Some y
        → name_at new.shape q ≡ Some y) where
      runs_on : (k kk : Collection) (r : RunState) → kk ≡ record k { tally = kk.tally; woken = kk.woken }
          → Runs (joined m flying) t w r k
          → ((z : ℕ) → Contains kk.marking z → AreTied (joined new flying) stack b.lists done.after kk)
          → Runs (joined new flying) d done.after r kk
      runs_on k kk r same runs tied = runs_served t d flying refl served inv w done.after k kk lies done.lies ok same
          names ch answer
          rep.placed.lies.graph change shows able apart wraps_black covers r runs tied

      none_after : w.collection ≡ None → done.after.collection ≡ None
      none_after none = done.collection_is
          ∙ (ap (λ k. waking (woken_by w.graph command) (with_counts w.graph command k)) none
          ∙ none_waking (woken_by w.graph command))

      abbrev TiesAfter : Option Name → Collection → Type 0
      TiesAfter o k = (kk : Collection) → waking o (with_counts w.graph command (Some k)) ≡ Some kk
          → (kk ≡ record k { tally = kk.tally; woken = kk.woken })
          × ((z : ℕ) → Contains kk.marking z → AreTied (joined new flying) stack b.lists done.after kk)

      runs_all : (o : Option RunState) (u : Option Collection) → w.collection ≡ u → RunsAs (joined m flying) t w o u
          → ((k : Collection) → w.collection ≡ Some k → TiesAfter (woken_by w.graph command) k)
          → RunsAs (joined new flying) d done.after o done.after.collection
      runs_all None None e i ties = subst (λ c. RunsAs (joined new flying) d done.after None c) (sym (none_after e))
          (idle_served i)
      runs_all None (Some k) e i ties = absurd i
      runs_all (Some r) None e i ties = absurd i
      runs_all (Some r) (Some k) e i ties =
          go (waking (woken_by w.graph command) (with_counts w.graph command (Some k))) refl
        where
          some : (o : Option Name) → waking o (with_counts w.graph command (Some k)) ≡ None → ⊥
          some None f = cc f
          some (Some x) f = cc f

          go : (c : Option Collection) → waking (woken_by w.graph command) (with_counts w.graph command (Some k)) ≡ c
              → RunsAs (joined new flying) d done.after (Some r) done.after.collection
          go None f = absurd (some (woken_by w.graph command) f)
          go (Some kk) f =
              let after : done.after.collection ≡ Some kk = done.collection_is
              ∙ (ap (λ k. waking (woken_by w.graph command) (with_counts w.graph command k)) e ∙ f) in
              let tied = ties k e kk f in
              subst (λ c. RunsAs (joined new flying) d done.after (Some r) c) (sym after)
              (runs_on k kk r tied.0 i tied.1)

    -- nothing moves, and what was handed out was reached from registers
    answers_quiet : StayInPlace m.shape new.shape → Wakes m command None → new.colours ≡ ds
        → ((p : Place) → given ≡ Some p → Reached b.heap.shape (IsHeld b.heap) p)
        → AnswersIn w command (Ok answer) d flying
    answers_quiet stay wakes colours reach =
        let there : RepresentsMarking t flying w = represents_exposed b flown w rep m stack flying covers still given
        exposed
        (λ p e. held_reached b flown w rep p (reach p e)) in
        let same : KeepsBlack (joined m flying) (with_colours new es) = λ p here. (
          λ black. ap (λ (bs : List Bits). colour_in (slice_get (with_flown flying 0 bs) p.0) p.1) (sym colours)
              ∙ black,
          λ black. ap (λ (bs : List Bits). colour_in (slice_get (with_flown flying 0 bs) p.0) p.1) colours ∙ black,
        ) in
        let done : DoesInWorld w command answer new es = does_quiet w m new command answer (with_flown flying 0 ds) es
        ok lies rep.phase.calm there.phase.black does stay (weak_names_kept m new ch answer change) wakes same in
        let none : woken_by w.graph command ≡ None = woken_in w m command None ok lies wakes in
        represents_after done stay.unswept there.swept.flies there.coloured.waits
        (runs_all done (names_stay m.shape new.shape stay) b.run w.collection refl there.phase.runs
        (λ k at kk e. ties done none stay k at there.phase.runs kk e))
      where
        ties : (done : DoesInWorld w command answer new es) → woken_by w.graph command ≡ None
            → StayInPlace m.shape new.shape → (k : Collection) → w.collection ≡ Some k
            → RunsAs (joined m flying) t w b.run w.collection → (kk : Collection)
            → waking (woken_by w.graph command) (with_counts w.graph command (Some k)) ≡ Some kk
            → (kk ≡ record k { tally = kk.tally; woken = kk.woken })
            × ((z : ℕ) → Contains kk.marking z → AreTied (joined new flying) stack b.lists done.after kk)
        ties done none stay k at runs kk e =
            let is : record k {
              tally =
                  with_woken w.graph k.zones (woken_by w.graph command) (with_put w.graph k.zones command k.tally);
            }
            ≡ kk = by (woken_by w.graph command) none e in
            subst (λ z. (z ≡ record k { tally = z.tally; woken = z.woken })
            × ((y : ℕ) → Contains z.marking y → AreTied (joined new flying) stack b.lists done.after z)) is (
              refl,
              λ z has. tied_served (joined m flying) (joined new flying) stack b.lists w done.after k _
                  lies_joined (lies_after done.after done.lies) served stay.names (grown done.after done.graph_is)
                  (was b.run (subst (λ u. RunsAs (joined m flying) t w b.run u) at runs) z has),
            )
          where
            by : (o : Option Name) → o ≡ None → waking o (with_counts w.graph command (Some k)) ≡ Some kk
                → record k {
                  tally =
                      with_woken w.graph k.zones (woken_by w.graph command) (with_put w.graph k.zones command k.tally);
                } ≡ kk
            by None n e = cc e
            by (Some x) n e = absurd (cc n)

            was : (o : Option RunState) → RunsAs (joined m flying) t w o (Some k) → (z : ℕ) → Contains k.marking z
                → AreTied (joined m flying) stack b.lists w k
            was None i z has = absurd i
            was (Some r) i z has = i.tied z has

    -- a cell that is there is handed out, and wakes
    answers_found : (p : Place) (x : Name) → name_at m.shape p ≡ Some x → Wakes m command (Some x) → new.colours ≡ ds
        → new.shape.arenas ≡ m.shape.arenas → new.shape.weak ≡ m.shape.weak → given ≡ Some p
        → AnswersIn w command (Ok answer) d flying
    answers_found p x named wakes colours arenas weak is =
        represents_after done stay.unswept flies waits (runs_found b.run w.collection refl rep.phase.runs)
      where
        ex : Exposes (heap_with b flown) b.stack p (joined m flying) stack
        ex = subst (λ o. Exposed o (heap_with b flown) b.stack (joined m flying) stack) is exposed

        stay : StayInPlace m.shape new.shape
        stay = stay_same m.shape new.shape arenas lies.whole

        colour_same : (q : Place) → colour_of (with_colours new es) q ≡ colour_of (joined m flying) q
        colour_same q = ap (λ (bs : List Bits). colour_in (slice_get (with_flown flying 0 bs) q.0) q.1) colours

        none : IsSettled w → IsSettledHeap (heap_with b flown)
        none settled = settled_heap (heap_with b flown) b.stack b.lists rep.coloured.waits
            (settled_states (heap_with b flown) b w b.run w.collection rep.phase.runs settled.none_marking)

        spreads : IsSettled w → SpreadsBlack (heap_with b flown) p (with_colours new es)
        spreads settled q = (
          λ black. reached_kept m.shape new.shape (BlackOr (heap_with b flown) p) arenas weak
              ((ex.settled (none settled) q).0 (sym (colour_same q) ∙ black)),
          λ r. colour_same q ∙ (ex.settled (none settled) q).1
              (reached_kept new.shape m.shape (BlackOr (heap_with b flown) p) (sym arenas) (sym weak) r),
        )

        done : DoesInWorld w command answer new es
        done = does_found w m new command answer (with_flown flown 0 b.heap.colours) es p x ok lies
            rep.phase.calm rep.coloured.marks.holds.colours (λ s. rep.phase.black s) does stay
            (weak_names_kept m new ch answer change) wakes named spreads

        woken : woken_by w.graph command ≡ Some x
        woken = woken_in w m command (Some x) ok lies wakes

        flies : IsInFlight m.shape flying
        flies = still_flies b.heap m flown flying rep.swept.flies refl rep.coloured.marks.holds.colours
            inv.holds.colours covers
            (own_sized b.heap flown b.stack rep.coloured.marks) (own_sized m flying stack inv) ex.spreads.blackens.kept
            (λ y. elim (ex.spreads.blackens.others y) [ inl black ↦ inl black | inr e ↦ inr (inl e) ])

        waits : WaitsWhileMarking (joined m flying) stack b.lists
        waits = waits_on (heap_with b flown) (joined m flying) b.stack stack b.lists refl refl rep.coloured.waits
            (piled_still (heap_with b flown) (joined m flying) b.stack stack b.lists refl refl rep.coloured.waits
            ex.spreads.gray_is) rep.coloured.waits.looks
            (same_left b.heap.shape b.heap.looks m.shape m.looks refl refl)

        idle_found : IsIdle b → IsIdle t
        idle_found i = record {
          states = i.states;
          kept = i.kept;
          black = none_member stack.black
              (λ q has. (let marking = (inv.holds.piles.black q has).1 in
              cc (marking, ap is_marking_state (i.states (zone_of m.shape q)))));
          gray = ex.spreads.gray_is ∙ i.gray;
        }

        states_found : (r : RunState) → AreInStates b r → AreInStates t r
        states_found r s = record {
          outside = s.outside;
          made = s.made;
          early = s.early;
          later = s.later;
          ended = s.ended;
          sweeping = s.sweeping;
          swept = s.swept;
        }

        looked_found : (r : RunState) (k : Collection) → AreLookedAt (heap_with b flown) b r w k
            → AreLookedAt (joined m flying) t r w (with_name x k)
        looked_found r k l = record {
          zones_are = l.zones_are;
          first = l.first;
          looked = λ y z across at.
              elim (l.looked y z (record {
                edge = across.edge;
                from = across.from;
                to = across.to;
                apart = across.apart;
              }) (record { index = at.index; before = at.before; stands = at.stands })) [
                | inl black ↦ inl (keeps z black)
                | inr e ↦ inr (e.0, λ key. elim (e.1 key) [ inl b ↦ inl (keeps y b) | inr back ↦ inr back ])
              ];
          left_black = elim l.left_black [
            | inl fresh ↦ inl fresh
            | inr black
                ↦ inr (λ z i y q here past at held. keeps q (black z i y q here past at held))
          ];
        }

        runs_woken : (r : RunState) (k : Collection) → w.collection ≡ Some k → Runs (heap_with b flown) b w r k
            → Runs (joined m flying) t w r (with_name x k)
        runs_woken r k at i = record {
          started = i.started;
          zones_are = i.zones_are;
          marking_are = i.marking_are;
          groups_are = i.groups_are;
          states = states_found r i.states;
          tied = λ z has. tied_exposed (heap_with b flown) (joined m flying) b.stack stack b.lists w k p x ok
              (lies_coloured b.heap (with_flown flown 0 b.heap.colours) w rep.placed.lies) at
              (λ none. nothing_in_none z (subst (λ zs. Contains zs z) none has)) rep.coloured.marks rep.coloured.gray
              ex named
              (i.tied z has);
          early = λ unformed. looked_found r k (i.early unformed);
        }

        collection_found : (k kk : Collection) → (o : Option Name) → o ≡ Some x
            → waking o (with_counts w.graph command (Some k)) ≡ Some kk
            → record k {
              tally =
                  with_woken w.graph k.zones (woken_by w.graph command) (with_put w.graph k.zones command k.tally);
              woken = set.insert k.woken x;
            } ≡ kk
        collection_found k kk None n e = absurd (cc n)
        collection_found k kk (Some y) n e =
            some_one _ _ (ap (λ (z : Name).
            Some (record k {
              tally =
                  with_woken w.graph k.zones (woken_by w.graph command) (with_put w.graph k.zones command k.tally);
              woken = set.insert k.woken z;
            })) (sym (some_one _ _ n)) ∙ e)

        runs_found : (o : Option RunState) (u : Option Collection) → w.collection ≡ u
            → RunsAs (heap_with b flown) b w o u → RunsAs (joined new flying) d done.after o done.after.collection
        runs_found None None e i = subst (λ c. RunsAs (joined new flying) d done.after None c)
            (sym (none_after done (names_stay m.shape new.shape stay) e)) (idle_served (idle_found i))
        runs_found None (Some k) e i = absurd i
        runs_found (Some r) None e i = absurd i
        runs_found (Some r) (Some k) e i =
            let tally : Tally = with_woken w.graph k.zones (woken_by w.graph command)
            (with_put w.graph k.zones command k.tally) in
            let kk : Collection = record k { tally = tally; woken = set.insert k.woken x } in
            let now : done.after.collection ≡ waking (Some x) (with_counts w.graph command (Some k)) =
            done.collection_is ∙ (ap (λ u. waking (woken_by w.graph command) (with_counts w.graph command u)) e
            ∙ ap (λ o. waking o (with_counts w.graph command (Some k))) woken) in
            let running = runs_woken r k e i in
            subst (λ c. RunsAs (joined new flying) d done.after (Some r) c) (sym now)
            (runs_on done (names_stay m.shape new.shape stay) (with_name x k) kk r refl running
            (λ z has. tied_served (joined m flying) (joined new flying) stack b.lists w done.after (with_name x k)
            tally lies_joined (lies_after done.after done.lies) served stay.names (grown done.after done.graph_is)
            (running.tied z has)))

    -- a cell is made, and wakes
    answers_made : (zone : ℕ) (p : Place) (x : Name) (cell : CellState) (between : HeapState)
        → ComesTo m.shape new.shape zone p x → Wakes m command (Some x) → Makes m zone p cell between
        → new.colours ≡ between.colours → given ≡ None → ((n : ℕ) → x ≡ Cell n → n ≡ m.shape.objects)
        → AnswersIn w command (Ok answer) d flying
    answers_made zone p x cell between comes wakes mk colours nothing number =
        represents_after done comes.unswept there.swept.flies there.coloured.waits
        (runs_all done (names_come m.shape new.shape zone p x comes) b.run w.collection refl there.phase.runs ties)
      where
        there : RepresentsMarking t flying w
        there = nothing_handed nothing

        sized : length m.colours ≡ length m.shape.arenas
        sized = own_sized m flying stack inv

        colour_same : (q : Place) → colour_of (joined new flying) q ≡ colour_of (joined between flying) q
        colour_same q = ap (λ (bs : List Bits). colour_in (slice_get (with_flown flying 0 bs) q.0) q.1) colours

        none_marking : IsSettled w → IsSettledHeap (joined new flying)
        none_marking settled = settled_heap (joined new flying) stack b.lists
            (waits_served t d flying refl served inv (nothing_changed m new ch answer change)
            (changed_left m new ch answer change) there.coloured.waits)
            (λ z. ap is_marking_state (served.states z)
            ∙ settled_states (joined m flying) t w b.run w.collection there.phase.runs settled.none_marking z)

        spreads : IsSettled w → SpreadsBlack (joined m flying) p (joined new flying)
        spreads settled = one_spreads (joined m flying) (joined new flying) stack p served.marks (none_marking settled)
            (colour_same p ∙ made_black m zone p cell between flying mk covers sized
            (none_prepared t flying w there zone))
            (λ q n. colour_same q ∙ others_keep m zone p cell between flying mk covers sized q n)

        done : DoesInWorld w command answer new es
        done = does_made w m new command answer (with_flown flying 0 ds) es p x ok lies rep.phase.calm
            there.coloured.marks.holds.colours
            (λ s. there.phase.black s) zone does comes (weak_names_kept m new ch answer change) wakes spreads

        woken : woken_by w.graph command ≡ Some x
        woken = woken_in w m command (Some x) ok lies wakes

        collection_made : (k kk : Collection) → (o : Option Name) → o ≡ Some x
            → waking o (with_counts w.graph command (Some k)) ≡ Some kk
            → record k {
              tally =
                  with_woken w.graph k.zones (woken_by w.graph command) (with_put w.graph k.zones command k.tally);
              woken = set.insert k.woken x;
            } ≡ kk
        collection_made k kk None n e = absurd (cc n)
        collection_made k kk (Some y) n e =
            some_one _ _ (ap (λ (z : Name).
            Some (record k {
              tally =
                  with_woken w.graph k.zones (woken_by w.graph command) (with_put w.graph k.zones command k.tally);
              woken = set.insert k.woken z;
            })) (sym (some_one _ _ n)) ∙ e)

        was : (k : Collection) (o : Option RunState) → RunsAs (joined m flying) t w o (Some k) → (z : ℕ)
            → Contains k.marking z → AreTied (joined m flying) stack b.lists w k
        was k None i z has = absurd i
        was k (Some r) i z has = i.tied z has

        ties : (k : Collection) → w.collection ≡ Some k → (kk : Collection)
            → waking (woken_by w.graph command) (with_counts w.graph command (Some k)) ≡ Some kk
            → (kk ≡ record k { tally = kk.tally; woken = kk.woken })
            × ((z : ℕ) → Contains kk.marking z → AreTied (joined new flying) stack b.lists done.after kk)
        ties k at kk e = subst (λ z. (z ≡ record k { tally = z.tally; woken = z.woken })
            × ((y : ℕ) → Contains z.marking y → AreTied (joined new flying) stack b.lists done.after z))
            (collection_made k kk (woken_by w.graph command) woken e) (
              refl,
              λ z has.
                  tied_made (joined m flying) (joined new flying) stack b.lists w done.after k zone p x ok
                  (command_valid w done.after command answer ok done.command) at
                  (λ none. nothing_in_none z (subst (λ zs. Contains zs z) none has)) lies_joined
                  (lies_after done.after done.lies) served comes
                  (λ n is. number n is ∙ (sym lies.shown.objects_made ∙ lies.part.part.made))
                  (was k b.run (subst (λ u. RunsAs (joined m flying) t w b.run u) at there.phase.runs) z has) _
                  (grown done.after done.graph_is),
            )

    -- what is freed of the arenas that are out stays the same
    pub words_moves : Moves m command ch new → KeepsFreedWords m.shape new.shape
    words_moves (quiet stay wakes colours reach) = keeps_words m.shape new.shape lies.whole stay.whole served.outs
        (λ p out. stay.names p) stay.unswept
    words_moves (finds p x named wakes colours arenas weak is_handed) =
        let stay = stay_same m.shape new.shape arenas lies.whole in
        keeps_words m.shape new.shape lies.whole stay.whole served.outs (λ q out. stay.names q) stay.unswept
    words_moves (makes zone p x cell between comes wakes mk colours none_handed number) = keeps_words m.shape
        new.shape lies.whole comes.whole served.outs (λ q out. elim (same-place q p) [
          | inl here ↦ absurd (let none : out_of m.shape q.0 ≡ None = ap (λ (z : Place). out_of m.shape z.0) here.0
              ∙ mk.in_place in some_out (out_of m.shape q.0) none out)
          | inr away ↦ comes.names q ∙ ap (λ b. if b then Some x else name_at m.shape q) away.1
        ]) comes.unswept
      where
        some_out : (o : Option Bits) → o ≡ None → IsSome o → ⊥
        some_out None e some = cc some
        some_out (Some b) e some = cc e

    pub answers_moves : Moves m command ch new → AnswersIn w command (Ok answer) d flying
    answers_moves (quiet stay wakes colours reach) = answers_quiet stay wakes colours reach
    answers_moves (finds p x named wakes colours arenas weak is_handed) =
        answers_found p x named wakes colours arenas weak is_handed
    answers_moves (makes zone p x cell between comes wakes mk colours none_handed number) =
        answers_made zone p x cell between comes wakes mk colours none_handed number

-- a barrier changes colours and delayed cells alone
pub through_rest : (o : Option Place) (c : CollectorState) (flown : ℕ → Option Bits) (d : CollectorState)
    (flying : ℕ → Option Bits) → GoesThrough o c flown d flying
    → d.heap ≡ with_marks c.heap d.heap.colours d.heap.delayed
through_rest o c flown d flying t = t.heap_is
    ∙ ap (with_marks c.heap d.heap.colours) (sym (ap (λ (h : HeapState). h.delayed) t.heap_is))

module _ (c : CollectorState) (flown : ℕ → Option Bits) (command : GraphCmd) (result : Result Reply CmdFault)
    (d : CollectorState) (flying : ℕ → Option Bits) (steps : CommandSteps c flown command result d flying) (w : World)
    (ok : IsValid w) (rep : RepresentsMarking c flown w) where
  abbrev wide : CollectorState
  wide = steps.wide

  abbrev first : CollectorState
  first = steps.first

  abbrev second : CollectorState
  second = steps.second

  abbrev plan : Plan
  plan = steps.plan

  wide_heap : wide.heap ≡ c.heap
  wide_heap = ap (λ (e : CollectorState). e.heap) steps.widens.rest

  first_rest : first.heap ≡ with_marks wide.heap first.heap.colours first.heap.delayed
  first_rest = through_rest plan.overwritten wide flown first steps.first_flown steps.old_through

  second_rest : second.heap ≡ with_marks first.heap second.heap.colours second.heap.delayed
  second_rest = through_rest plan.wrapped first steps.first_flown second steps.second_flown steps.target_through

  third_rest : steps.third.heap ≡ with_marks second.heap steps.third.heap.colours steps.third.heap.delayed
  third_rest = through_rest (handed_by plan.change) second steps.second_flown steps.third flying steps.handed_through

  second_wide : second.heap ≡ with_marks wide.heap second.heap.colours second.heap.delayed
  second_wide = second_rest
      ∙ ap (λ (h : HeapState). with_marks h second.heap.colours second.heap.delayed) first_rest

  abbrev ds : List Bits
  ds = steps.third.heap.colours

  abbrev delayed : Piles
  delayed = steps.third.heap.delayed

  abbrev last_heap : HeapState
  last_heap = with_marks second.heap ds delayed

  -- the plan is one of each heap between the barriers
  plan_wide : IsPlanIn wide.heap command plan
  plan_wide = planned-here wide.heap command plan steps.planned

  plan_first : IsPlanIn first.heap command plan
  plan_first = planned-at wide.heap first.heap command plan first_rest steps.planned

  plan_second : IsPlanIn second.heap command plan
  plan_second = planned-at wide.heap second.heap command plan second_wide steps.planned

  plan_last : IsPlanIn last_heap command plan
  plan_last = planned-at wide.heap last_heap command plan
      (ap (λ (h : HeapState). with_marks h ds delayed) second_wide) steps.planned

  pub wide_stands : RepresentsMarking wide flown w
  wide_stands = represents_widened c wide flown w steps.widens rep

  old_reached : IsReached plan.overwritten wide flown
  old_reached p e = held_reached wide flown w wide_stands p
      (near_reached wide.heap wide_stands.placed.lies.graph wide_stands.placed.lies.shown p
      (plan_wide.overwritten_near p e))

  pub first_stands : RepresentsMarking first steps.first_flown w
  first_stands = represents_through plan.overwritten wide first flown steps.first_flown w steps.old_through old_reached
      wide_stands

  target_reached : IsReached plan.wrapped first steps.first_flown
  target_reached p e = held_reached first steps.first_flown w first_stands p
      (near_reached first.heap first_stands.placed.lies.graph first_stands.placed.lies.shown p
      (plan_first.wrapped_near p e))

  pub second_stands : RepresentsMarking second steps.second_flown w
  second_stands = represents_through plan.wrapped first second steps.first_flown steps.second_flown w
      steps.target_through target_reached first_stands

  abbrev last : CollectorState
  last = record second { heap = last_heap; stack = steps.third.stack }

  third_is : steps.third ≡ last
  third_is = steps.handed_through.rest
      ∙ ap (λ (h : HeapState). record second { heap = h; stack = steps.third.stack }) third_rest

  d_is : d ≡ record last { heap = d.heap }
  d_is = steps.rest ∙ ap (λ (e : CollectorState). record e { heap = d.heap }) third_is

  exposed_last : Exposed (handed_by plan.change) (heap_with second steps.second_flown) second.stack
      (joined last_heap flying) steps.third.stack
  exposed_last = subst (λ h. Exposed (handed_by plan.change) (heap_with second steps.second_flown) second.stack
      (joined h flying) steps.third.stack) third_rest (steps.handed_through.marking
      (markable second steps.second_flown w second_stands))

  still_last : delayed ≡ second.heap.delayed
  still_last = ap (λ (h : HeapState). h.delayed) steps.handed_through.heap_is

  covers_last : Covers second.heap.shape flying
  covers_last = subst (λ (h : HeapState). Covers h.shape flying) third_rest steps.handed_through.covers

  -- where nothing was handed out and nothing done, the collector stands for what it stood for
  still_stands : d.heap ≡ steps.third.heap → handed_by plan.change ≡ None → RepresentsMarking d flying w
  still_stands same none =
      let there : RepresentsMarking last flying w = nothing_handed second steps.second_flown command plan.change w ok
      second_stands ds delayed steps.third.stack flying exposed_last covers_last still_last none in
      subst (λ e. RepresentsMarking e flying w)
      (sym (d_is ∙ ap (λ (h : HeapState). record last { heap = h }) (same ∙ third_rest))) there

  gone_black : (p : Place) → overwritten_by second.heap.shape plan.change ≡ Some p
      → IsBlack (heap_with second steps.second_flown) p
  gone_black p e =
      exposed_keeps plan.wrapped (heap_with first steps.first_flown) first.stack
      (heap_with second steps.second_flown) second.stack
      (steps.target_through.marking (markable first steps.first_flown w first_stands)) p
      (exposed_is plan.overwritten (heap_with wide flown) wide.stack (heap_with first steps.first_flown) first.stack
      (steps.old_through.marking (markable wide flown w wide_stands)) p (plan_second.replaced ∙ e))

  target_black : WrapsBlack (heap_with second steps.second_flown) plan.change
  target_black r z comp t is =
      exposed_is plan.wrapped (heap_with first steps.first_flown) first.stack
      (heap_with second steps.second_flown) second.stack
      (steps.target_through.marking (markable first steps.first_flown w first_stands)) t
      (subst (IsTarget plan.wrapped) is plan_wide.target)

  able_second : IsAble second.heap.shape second.heap.made plan.change
  able_second = subst (λ (h : HeapState). IsAble h.shape h.made plan.change) (sym second_wide) steps.able

  apart_second : AreApart second.heap.shape.wrappers.lists
  apart_second = subst (λ (h : HeapState). AreApart h.shape.wrappers.lists) (sym second_wide) steps.apart

  module _ (answer : Reply) (is : result ≡ Ok answer) where
    change_ok : ChangesBy last_heap plan.change answer d.heap
    change_ok = subst (λ h. ChangesBy h plan.change answer d.heap) third_rest
        (subst (λ r. IfOk r (λ a. ChangesBy steps.third.heap plan.change a d.heap)) is steps.change)

    step_ok : DoesStep last_heap command (Ok answer) d.heap
    step_ok = (plan_last.does steps.few answer d.heap change_ok).0

    lists_last : 64 * length d.heap.colours ≤ second.lists.room
    lists_last = subst (λ (e : CollectorState). 64 * length d.heap.colours ≤ e.lists.room) d_is steps.more_room

    moves_ok : Moves last_heap command plan.change d.heap
    moves_ok = moves_of last_heap second_stands.placed.lies.graph
        (shows_coloured second.heap ds delayed second_stands.placed.lies.graph second_stands.placed.lies.shown)
        second_stands.placed.lies.whole command d.heap second.heap.made plan.change answer able_second plan_last.wakes
        change_ok

    pub answered_ok : AnswersIn w command (Ok answer) d flying
    answered_ok = subst (λ e. AnswersIn w command (Ok answer) e flying) (sym d_is)
        (answers_moves second steps.second_flown command plan.change w ok second_stands ds delayed
        steps.third.stack flying exposed_last covers_last still_last able_second apart_second gone_black target_black
        answer d.heap step_ok change_ok lists_last moves_ok)

    -- no arena is handed out or taken in
    pub outs_ok : (a : ℕ) → out_of d.heap.shape a ≡ out_of second.heap.shape a
    outs_ok a = (served second steps.second_flown command plan.change w ok second_stands ds delayed
        steps.third.stack flying exposed_last covers_last still_last able_second apart_second gone_black target_black
        answer d.heap step_ok change_ok lists_last).outs a

    pub words_ok : KeepsFreedWords second.heap.shape d.heap.shape
    words_ok = words_moves second steps.second_flown command plan.change w ok second_stands ds delayed
        steps.third.stack flying exposed_last covers_last still_last able_second apart_second gone_black target_black
        answer d.heap step_ok change_ok lists_last moves_ok

    -- what is to come of the collection that runs rises by no more than the bound on units
    module _ (k : Collection) (at : w.collection ≡ Some k) (sound : AreEntries c.heap.shape.weak)
        (parallel : AreParallel (weak_of c.heap)) where
      abbrev stack : Piles
      stack = steps.third.stack

      inv_last : MarkingInvariant (joined last_heap flying) stack
      inv_last = exposed_marks (handed_by plan.change) (heap_with second steps.second_flown) second.stack
          (joined last_heap flying) stack exposed_last second_stands.coloured.marks

      served_last : Serves (joined last_heap flying) (joined d.heap flying) stack second.lists
      served_last = served second steps.second_flown command plan.change w ok second_stands ds delayed stack flying
          exposed_last covers_last still_last able_second apart_second gone_black target_black answer d.heap step_ok
          change_ok lists_last

      shows_last : Shows last_heap second_stands.placed.lies.graph
      shows_last = shows_coloured second.heap ds delayed second_stands.placed.lies.graph second_stands.placed.lies.shown

      weak_last : second.heap ≡ with_marks c.heap second.heap.colours second.heap.delayed
      weak_last = second_wide
          ∙ ap (λ (h : HeapState). with_marks h second.heap.colours second.heap.delayed) wide_heap

      runs_there : (r : RunState) × (second.run ≡ Some r) × Runs (heap_with second steps.second_flown) second w r k
      runs_there = go second.run refl
          (subst (λ u. RunsAs (heap_with second steps.second_flown) second w second.run u) at
          second_stands.phase.runs)
        where
          go : (o : Option RunState) → second.run ≡ o → RunsAs (heap_with second steps.second_flown) second w o (Some k)
              → (r : RunState) × (second.run ≡ Some r) × Runs (heap_with second steps.second_flown) second w r k
          go None is i = absurd i
          go (Some r) is i = (r, is, i)

      abbrev runs_last : Runs (heap_with second steps.second_flown) second w runs_there.0 k
      runs_last = runs_there.2

      -- what is marking is of the collection
      in_collection : (z : ℕ) → is_marking_state (state_in second.heap.shape z) ≡ true → Contains k.zones z
      in_collection z on = elim (has_zone_or_not runs_there.0.zones.bits z) [
        | inl has ↦ subst (λ (zs : List ℕ). Contains zs z) (sym runs_last.zones_are)
            ((zones_in-has runs_there.0.zones z).1 has)
        | inr none ↦ absurd (let off = ap is_marking_state (runs_last.states.outside z none) in cc (on, off))
      ]

      held_last : (r : ℕ) (p : Place) → reg_of last_heap r ≡ Some p → is_marking last_heap.shape p ≡ true
          → is_held_in_zones w.graph k.zones (register_cell w.graph r) ≡ true
      held_last r p holds on =
          let lies = second_stands.placed.lies in
          let x = name_of last_heap.shape p (reg_present last_heap lies.graph r p shows_last holds) in
          let named : register_cell w.graph r ≡ Some x.0 =
          ap (λ (rs : List (Option Name)). slice_index_or rs r None) (sym lies.part.part.registers)
          ∙ (reg_shown last_heap lies.graph r shows_last ∙ (ap (held_name last_heap.shape) holds ∙ x.1)) in
          ap (is_held_in_zones w.graph k.zones) named
          ∙ in_zone w.graph k.zones x.0 (zone_of last_heap.shape p)
          (zone_named last_heap lies.graph w.graph p x.0 shows_last lies.part.part x.1)
          (in_collection (zone_of last_heap.shape p) on)

      delegated_last : (r : ℕ) (p : Place) (t : Delegate) → reg_of last_heap r ≡ Some p
          → delegate_of_key last_heap.shape p ≡ Some t → is_marking last_heap.shape t.target ≡ true
          → holds_delegate_in_zones w.graph k.zones (register_cell w.graph r) ≡ true
      delegated_last r p t holds key_is on =
          let lies = second_stands.placed.lies in
          let x = name_of last_heap.shape p (reg_present last_heap lies.graph r p shows_last holds) in
          let named : register_cell w.graph r ≡ Some x.0 =
          ap (λ (rs : List (Option Name)). slice_index_or rs r None) (sym lies.part.part.registers)
          ∙ (reg_shown last_heap lies.graph r shows_last ∙ (ap (held_name last_heap.shape) holds ∙ x.1)) in
          let target = delegate_named last_heap w (lies_marked second.heap ds delayed w lies) p t.target x.0
          (delegate_is last_heap.shape p t key_is) x.1 in
          ap (holds_delegate_in_zones w.graph k.zones) (named ∙ ap (λ (y : Name). Some y) target.2)
          ∙ in_zone w.graph k.zones (Cell target.1) (zone_of last_heap.shape t.target)
          (zone_named last_heap lies.graph w.graph t.target (Cell target.1) shows_last lies.part.part target.3)
          (in_collection (zone_of last_heap.shape t.target) on)

      piled_last : (x : Place) → Contains stack.gray x → state_of last_heap.shape x ≡ state.MarkBlackAndGray
      piled_last x has = second_stands.coloured.waits.piled x (subst (λ (xs : List Place). Contains xs x)
          (exposed_pile (handed_by plan.change) (heap_with second steps.second_flown) second.stack
          (joined last_heap flying) stack exposed_last) has)

      -- map and key of an entry lie in one zone
      one_zone_last : (rm rk : ℕ) (pm pk pv : Place) → reg_of last_heap rm ≡ Some pm → reg_of last_heap rk ≡ Some pk
          → IsWith last_heap pm pk pv d.heap → zone_of last_heap.shape pk ≡ zone_of last_heap.shape pm
      one_zone_last rm rk pm pk pv holds_map holds_key with_it =
          let lies = second_stands.placed.lies in
          let there = with_it.values pm pk
          ∙ ap (λ b. if b then Some pv else value_of last_heap.shape.weak pm pk)
          (both_of (is_same pm pm) (is_same pk pk) (is_same-self pm) (is_same-self pk)) in
          let same = served_last.marks.holds.colours.shape.one_zone pm pk pv there in
          sym (served_last.zones pk (reg_present last_heap lies.graph rk pk shows_last holds_key))
          ∙ (same.1 ∙ (sym same.0
          ∙ served_last.zones pm (reg_present last_heap lies.graph rm pm shows_last holds_map)))

      counted_last : CountsNoMore last_heap d.heap flying stack second.lists inv_last served_last
          (own_sized last_heap flying stack inv_last) covers_last
      counted_last = counts last_heap d.heap flying stack second.lists inv_last served_last
          (own_sized last_heap flying stack inv_last) covers_last command plan.change second_stands.placed.lies.whole
          (none_prepared second steps.second_flown w second_stands) moves_ok

      looks_last : looks_to_come (joined d.heap flying) stack
          ≤ looks_to_come (joined last_heap flying) stack + more_looks w.graph k.zones command
      looks_last = command_weak last_heap d.heap flying stack second.lists inv_last served_last
          (own_sized last_heap flying stack inv_last) covers_last counted_last
          (subst (λ (h : HeapState). AreEntries h.shape.weak) (sym weak_last) sound)
          (subst (λ (h : HeapState). AreParallel (weak_of h)) (sym weak_last) parallel) w.graph k.zones held_last
          delegated_last piled_last command (plan_last.does steps.few answer d.heap change_ok).1 one_zone_last
          (λ r q holds. reg_present last_heap second_stands.placed.lies.graph r q shows_last holds)

      marking_last : marking_to_come (joined d.heap flying) stack second.lists
          ≤ marking_to_come (joined last_heap flying) stack second.lists + more_looks w.graph k.zones command
      marking_last = changed_marking last_heap d.heap flying stack second.lists inv_last served_last
          (own_sized last_heap flying stack inv_last) covers_last command (more_looks w.graph k.zones command)
          counted_last looks_last

      steps_last : steps_left d.heap.shape.states ≤ steps_left last_heap.shape.states
      steps_last = steps_by_state d.heap.shape.states last_heap.shape.states
          (λ z. (let same = ap steps_of (served_last.states z) in omega (arith, same)))

      -- a wrapper that is made is to be looked at before the groups are formed
      abbrev more : ℕ
      more = more_wrappers w.graph k.zones (woken_by w.graph command)

      one_wrapper : second.edges.zones ≡ runs_there.0.zones → (r z : ℕ) (comp : CompNo) (t : Place)
          → plan.change ≡ change.Wrapper r z comp t → (made : HoldsWrapper last_heap r comp t d.heap)
          → made.zone < 64 → (if in_zones second.edges.zones.bits made.zone then 1 else 0) ≤ more
      one_wrapper are_zones r z comp t is_wrap made below = go (in_zones second.edges.zones.bits made.zone) refl
        where
          woken : woken_by w.graph command ≡ Some (Wrap comp (number_at last_heap.shape t))
          woken = woken_in w last_heap command (Some (Wrap comp (number_at last_heap.shape t))) ok
              (lies_marked second.heap ds delayed w second_stands.placed.lies)
              (subst (λ (y : Change). WakesBy last_heap command y) is_wrap plan_last.wakes)

          go : (b : Bool) → in_zones second.edges.zones.bits made.zone ≡ b → (if b then 1 else 0) ≤ more
          go false out = omega arith
          go true has =
              let lies = second_stands.placed.lies in
              let inside : HasZone runs_there.0.zones.bits made.zone =
              subst (λ (y : ZoneSet). HasZone y.bits made.zone) are_zones
              (zone_at_bit second.edges.zones.bits made.zone below has) in
              let here : is_in_zones w.graph k.zones (Wrap comp (number_at last_heap.shape t)) ≡ true =
              in_zone w.graph k.zones (Wrap comp (number_at last_heap.shape t)) made.zone
              (ap (λ (cs : List ℕ). slice_get cs comp.0) (sym lies.part.part.comps ∙ shows_last.comps_are) ∙ made.home)
              (subst (λ (zs : List ℕ). Contains zs made.zone) (sym runs_last.zones_are)
              ((zones_in-has runs_there.0.zones made.zone).1 inside)) in
              let one : more ≡ 1 = ap (more_wrappers w.graph k.zones) woken ∙ ap (λ b. if b then 1 else 0) here in
              omega (arith, one)

      grouping_last : grouping_left d.heap.shape second.edges second.run
          ≤ grouping_left last_heap.shape second.edges second.run + more
      grouping_last = subst (λ (o : Option RunState). grouping_left d.heap.shape second.edges o
          ≤ grouping_left last_heap.shape second.edges o + more) (sym runs_there.1) (go runs_there.0.formed refl)
        where
          go : (b : Bool) → runs_there.0.formed ≡ b
              → grouping_left d.heap.shape second.edges (Some runs_there.0)
              ≤ grouping_left last_heap.shape second.edges (Some runs_there.0) + more
          go true formed =
              let none = grouped d.heap.shape second.edges runs_there.0 formed in
              omega (arith, none)
          go false unformed =
              let now = ap (λ b. if b || is_some runs_there.0.clearing then 0
              else left_to_look d.heap.shape second.edges + ungrouped_below second.edges 64) unformed
              ∙ ap (λ (o : Option Uncleared). if is_some o then 0
              else left_to_look d.heap.shape second.edges + ungrouped_below second.edges 64) runs_last.started in
              let was = ap (λ b. if b || is_some runs_there.0.clearing then 0
              else left_to_look last_heap.shape second.edges + ungrouped_below second.edges 64) unformed
              ∙ ap (λ (o : Option Uncleared). if is_some o then 0
              else left_to_look last_heap.shape second.edges + ungrouped_below second.edges 64) runs_last.started in
              let looks = change_wrappers last_heap d.heap flying stack second.lists inv_last served_last
              (own_sized last_heap flying stack inv_last) covers_last plan.change answer change_ok second.edges more
              (one_wrapper (runs_last.early unformed).zones_are) in
              omega (arith, now, was, looks)

      -- nothing is to be cleared
      none_clearing : (s : Shape) → clearing_left s second.run ≡ 0
      none_clearing s = ap (clearing_left s) runs_there.1 ∙ ap (left_of s runs_there.0.zones) runs_last.started

      pub rises_ok : units_to_come d flying
          ≤ units_to_come steps.third flying + (more_looks w.graph k.zones command + more)
      unfolding units_to_come
      rises_ok =
          let now = ap (λ (e : CollectorState). units_to_come e flying) d_is in
          let was = ap (λ (e : CollectorState). units_to_come e flying) third_is in
          omega (
            arith,
            now,
            was,
            marking_last,
            grouping_last,
            steps_last,
            none_clearing d.heap.shape,
            none_clearing last_heap.shape,
          )

  -- a change that wants memory hands nothing out
  none_handed : MayWant steps.third.heap.shape plan.change → handed_by plan.change ≡ None
  none_handed may = go (handed_by plan.change) refl
    where
      go : (o : Option Place) → handed_by plan.change ≡ o → handed_by plan.change ≡ None
      go None e = e
      go (Some p) e = absurd (handed-wants steps.third.heap.shape plan.change (ap is_some e) may)

  answered : (r : Result Reply CmdFault) → result ≡ r → AnswersIn w command r d flying
  answered (Ok answer) is = answered_ok answer is
  answered (Err (fault.Refused why)) is =
      let wanted : (fault.Refused why ≡ fault.NoMemory) × MayWant steps.third.heap.shape plan.change =
      subst (λ r. IfErr r (λ why. (why ≡ fault.NoMemory) × MayWant steps.third.heap.shape plan.change)) is
      steps.wanted in
      absurd (cc wanted.0)
  answered (Err fault.NoMemory) is =
      let wanted : (fault.NoMemory ≡ fault.NoMemory) × MayWant steps.third.heap.shape plan.change =
      subst (λ r. IfErr r (λ why. (why ≡ fault.NoMemory) × MayWant steps.third.heap.shape plan.change)) is
      steps.wanted in (
        w,
        inl refl,
        going (still_stands (subst (λ r. OnErr r (d.heap ≡ steps.third.heap)) is steps.err) (none_handed wanted.1)),
      )

  pub answers_command : AnswersIn w command result d flying
  answers_command = answered result refl

  shape_outs : (a : ℕ) → out_of second.heap.shape a ≡ out_of c.heap.shape a
  shape_outs a = ap (λ (h : HeapState). out_of h.shape a) second_wide
      ∙ ap (λ (h : HeapState). out_of h.shape a) wide_heap

  pub outs_command : (a : ℕ) → out_of d.heap.shape a ≡ out_of c.heap.shape a
  outs_command a = go result refl ∙ shape_outs a
    where
      same : d.heap ≡ steps.third.heap → out_of d.heap.shape a ≡ out_of second.heap.shape a
      same e = ap (λ (h : HeapState). out_of h.shape a) e ∙ ap (λ (h : HeapState). out_of h.shape a) third_rest

      go : (r : Result Reply CmdFault) → result ≡ r → out_of d.heap.shape a ≡ out_of second.heap.shape a
      go (Ok answer) is = outs_ok answer is a
      go (Err why) is = same (subst (λ r. OnErr r (d.heap ≡ steps.third.heap)) is steps.err)

  pub words_command : KeepsFreedWords c.heap.shape d.heap.shape
  words_command = go result refl
    where
      first_same : second.heap.shape ≡ c.heap.shape
      first_same = ap (λ (h : HeapState). h.shape) second_wide ∙ ap (λ (h : HeapState). h.shape) wide_heap

      go : (r : Result Reply CmdFault) → result ≡ r → KeepsFreedWords c.heap.shape d.heap.shape
      go (Ok answer) is = subst (λ (s : Shape). KeepsFreedWords s d.heap.shape) first_same (words_ok answer is)
      go (Err why) is = same_words c.heap.shape d.heap.shape
          (ap (λ (h : HeapState). h.shape) (subst (λ r. OnErr r (d.heap ≡ steps.third.heap)) is steps.err) ∙
          (ap (λ (h : HeapState). h.shape) third_rest ∙ first_same))
