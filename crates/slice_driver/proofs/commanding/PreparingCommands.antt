-- The call of a command while a collection is being prepared.
use Rattle.std.proofs.Common.{◌≡◌, ◌↔◌, ◌⊎◌, ◌<◌, ◌≤◌, ◌+◌, ◌-◌, ◌∷◌, ℕ, zero, suc, List, [], true, false, length}
use Rattle.std.proofs.Common.{Option, Some, None}
use Rattle.std.proofs.Common.{Result, Ok, Err, IfErr, IfOk, OnErr, inl, inr, refl, sym, ap, subst, ◌∙◌}
use Rattle.std.proofs.Common.{Bool, IsSome, is_some, if◌then◌else◌, slice_get, arith}
use Rattle.std.proofs.lemmas.Bool.{cases_lt}
use Rattle.std.specs.FinMap as places
use Rattle.gz_names.specs.Zones.{HasZone}
use Rattle.gz_names.specs.declared.names.Name.{Name}
use Rattle.gz_names.specs.declared.numbers.Place.{Place}
use Rattle.gz_names.specs.declared.commands.GraphCmd.{GraphCmd}
use Rattle.gz_names.specs.declared.replies.Reply.{Reply}
use Rattle.gz_names.specs.declared.replies.CmdFault.{CmdFault}
use Rattle.gz_names.specs.declared.replies.CmdFault.TheVariants as fault
use Rattle.gz_names.specs.declared.replies.Refusal.{Refusal}
use Rattle.cell_bits.specs.declared.bits.Bits.{Bits}
use Rattle.cell_bits.specs.declared.bits.Colour.TheVariants as colour
use Rattle.gray_lists.specs.Incoming.{Incoming, list_of as waiting_for}
use Rattle.roots.specs.Buffers.{buffer_at}
use Rattle.colour_defs.specs.Closure.{ClosureWithin, within_edge, within_key, within_start, within_value}
use Rattle.colour_defs.specs.Laws.{IsValid}
use Rattle.colour_defs.specs.Step.{refusal_in, step_of}
use Rattle.colour_defs.specs.World.{AcceptsIn, AcceptsPreparing, AcceptsUnless, CommandInWorld, Has, IsLeftOut}
use Rattle.colour_defs.specs.World.{Collection, Preparation, WakesLeftOut, World, also_woken_by, with_counts, woken_by}
use Rattle.heap_core.specs.declared.plans.Change.{Change}
use Rattle.heap_core.specs.declared.plans.Change.TheVariants as change
use Rattle.heap_core.specs.declared.plans.Plan.{Plan}
use Rattle.heap_core.specs.Answers.{DoesStep}
use Rattle.heap_core.specs.Heap.{HeapState, colour_of, joined, with_marks}
use Rattle.heap_core.specs.Peeks.{handed, stored, wrapped_target}
use Rattle.heap_core.specs.Shows.{Shows}
use Rattle.heap_core.proofs.Resolved.{shows_coloured}
use Rattle.heap_core.specs.Plans.{ChangesBy, IsAble, IsPlanIn, IsPlanOf, IsTarget, MayWant, handed_by, overwritten_by}
use Rattle.heap_core.specs.Shape.{IsPresent, Shape, is_marking_state, is_prepare_state, is_prepared, name_at, out_of}
use Rattle.heap_core.specs.Shape.{ArenaShape, is_owned, is_owned_in, out_in, state_in, zone_in, zone_of}
use Rattle.arena_table.specs.Indexed.{in_zones}
use Rattle.heap_core.proofs.MakingCells.{same-place}
use Rattle.heap_core.proofs.Planned.{handed-wants, overwritten-wants, planned-at, planned-here}
use Rattle.barriers.specs.Colours.{IsBlack}
use Rattle.barriers.specs.LeftOut.{Counts, IsDark, PreparingInvariant, ReachedLeftOut}
use Rattle.barriers.specs.LeftOut as reached
use Rattle.barriers.proofs.LeftOut.{left_out_closed, left_out_from}
use Rattle.barriers.proofs.Rewiring as rewiring
use Rattle.slice_driver.specs.Collector.{CollectorState}
use Rattle.slice_driver.specs.Commands.{ComesTo, StayInPlace, Wakes}
use Rattle.slice_driver.specs.Remaining.{clearing_left, left_of, owned_from}
use Rattle.slice_driver.specs.Represents.{NothingLeft, Represents, RepresentsMarking, RepresentsPreparing, going}
use Rattle.slice_driver.specs.Represents.{prepared}
use Rattle.slice_driver.specs.Rooms.{Widens}
use Rattle.slice_driver.specs.Steps.{CommandSteps, IsPrepared}
use Rattle.slice_driver.specs.Units.{AnswersIn, IsAfterWant, KeepsFreedWords}
use Rattle.slice_driver.specs.UnitsToCome.{units_to_come}
use Rattle.slice_driver.specs.Worlds.{AreRowsAtHome, LiesIn, owners_of}
use Rattle.slice_driver.proofs.abstraction.Altering.{Alters, Bears, bears, rewires}
use Rattle.slice_driver.proofs.abstraction.BlackNames.{left_out_names}
use Rattle.slice_driver.proofs.abstraction.Keeping.{stay_same}
use Rattle.slice_driver.proofs.abstraction.Lying.{IsStepIn, accepted_in, lies_marked, step_in, woken_in}
use Rattle.slice_driver.proofs.abstraction.Moving.{Moves, finds, makes, moves_of, quiet}
use Rattle.slice_driver.proofs.abstraction.Named.{name_of, named_present, present_named, some_one}
use Rattle.slice_driver.proofs.abstraction.Waits.{nothing_changed}
use Rattle.slice_driver.proofs.basics.Rows.{rows_changed}
use Rattle.slice_driver.proofs.beginning.Prepared.{past_white}
use Rattle.slice_driver.proofs.commanding.Commanding.{is_prepared_in, through_prepared}
use Rattle.slice_driver.proofs.commanding.Handed.{HandsNear, hands_near}
use Rattle.slice_driver.proofs.commanding.LeftOutNames.{AreLeftOut, IsWokenAt, IsWokenIn, SpreadsFrom, exposed_others}
use Rattle.slice_driver.proofs.commanding.LeftOutNames.{exposed_spreads, left_out_in, spreads_then, tied_after}
use Rattle.slice_driver.proofs.commanding.LeftOutNames.{wakes_after}
use Rattle.slice_driver.proofs.commanding.PreparingChanges.{GraphStays, KeepsCounts, MayChange, altered, bears_black}
use Rattle.slice_driver.proofs.commanding.PreparingChanges.{bears_stays, bears_was, graph_same, keeps_counts}
use Rattle.slice_driver.proofs.commanding.PreparingChanges.{reached_stays}
use Rattle.slice_driver.proofs.commanding.Quiet.{lies_still}
use Rattle.slice_driver.proofs.commanding.Viewed.{delayed_kept, weak_names_kept}
use Rattle.slice_driver.proofs.commanding.Waking.{has_made, lies_made, there_made}
use Rattle.slice_driver.proofs.taking_in.Runs.{has_zone_or_not}
use Rattle.slice_driver.proofs.clearing.ClearingUnits.{preparing_of}
use Rattle.slice_driver.proofs.clearing.ToCome.{to_come_is}
use Rattle.slice_driver.proofs.commanding.Through.{represents_widened}

-- an accepted command, where a collection is being prepared
command_prepared : (w v : World) (c : GraphCmd) (answer : Reply) (p : Preparation) (woken also : Option Name)
    → w.preparing ≡ Some p → answer ≡ (step_of w.graph c).1 → refusal_in (step_of w.graph c).1 ≡ None
    → woken_by w.graph c ≡ woken → also_woken_by w.graph c ≡ also
    → AcceptsPreparing w p (step_of w.graph c).0 woken also v → CommandInWorld w c answer v
command_prepared w v c answer p woken also at said accepted is_woken is_also a = (
  said,
  subst (λ (o : Option Refusal). AcceptsUnless o w (with_counts w.graph c w.collection) (step_of w.graph c).0
      (woken_by w.graph c) (also_woken_by w.graph c) v) (sym accepted)
      (subst (λ (o : Option Preparation). AcceptsIn o w (with_counts w.graph c w.collection) (step_of w.graph c).0
      (woken_by w.graph c) (also_woken_by w.graph c) v) (sym at)
      (subst (λ (o : Option Name). AcceptsPreparing w p (step_of w.graph c).0 o (also_woken_by w.graph c) v)
      (sym is_woken)
      (subst (λ (o : Option Name). AcceptsPreparing w p (step_of w.graph c).0 woken o v) (sym is_also) a))),
)

-- arenas of the same zones
same_owned : (word : ℕ) (xs ys : List ArenaShape) (a : ℕ) → a < length xs → a < length ys
    → zone_in (slice_get xs a) ≡ zone_in (slice_get ys a)
    → is_owned_in word (slice_get xs a) ≡ is_owned_in word (slice_get ys a)
same_owned word [] ys a lt le e = absurd (omega (arith, lt))
same_owned word (x ∷ xs) [] a lt le e = absurd (omega (arith, le))
same_owned word (x ∷ xs) (y ∷ ys) zero lt le e = ap (in_zones word) e
same_owned word (x ∷ xs) (y ∷ ys) (suc a) lt le e = same_owned word xs ys a (omega (arith, lt)) (omega (arith, le)) e

pub owned_same : (s t : Shape) (word from n : ℕ)
    → ((a : ℕ) → from ≤ a → a < from + n → is_owned t word a ≡ is_owned s word a)
    → owned_from t word from n ≡ owned_from s word from n
unfolding owned_from
owned_same s t word from zero same = refl
owned_same s t word from (suc n) same =
    let here = ap {B = ℕ} (λ (b : Bool). if b then 1 else 0) (same from (omega arith) (omega arith)) in
    let rest = owned_same s t word (suc from) n (λ a ge lt. same a (omega (arith, ge)) (omega (arith, lt))) in
    omega (arith, here, rest)

-- which starts a command wakes
pub wakes_as : (w v : World) (p : Preparation) (S T : Name → Type 0) → ((x : Name) → S x ↔ T x) → WakesLeftOut w p S v
    → WakesLeftOut w p T v
wakes_as w v p S T same wakes y = (
  λ has. starts_as (λ s. Has w.black s ⊎ S s) (λ s. Has w.black s ⊎ T s)
      (λ x s. elim s [ inl b ↦ inl b | inr e ↦ inr ((same x).0 e) ]) ((wakes y).0 has),
  λ r. (wakes y).1 (starts_as (λ s. Has w.black s ⊎ T s) (λ s. Has w.black s ⊎ S s)
      (λ x s. elim s [ inl b ↦ inl b | inr e ↦ inr ((same x).1 e) ]) r),
)
  where
    starts_as : (P Q : Name → Type 0) → ((x : Name) → P x → Q x) → {y : Name}
        → ClosureWithin v.graph (IsLeftOut v p) P y
        → ClosureWithin v.graph (IsLeftOut v p) Q y
    starts_as P Q f (within_start {x} s inside) =
        within_start (f x s) inside
    starts_as P Q f (within_edge r e inside) =
        within_edge (starts_as P Q f r) e inside
    starts_as P Q f (within_value e a b inside) =
        within_value e (starts_as P Q f a) (starts_as P Q f b) inside
    starts_as P Q f (within_key e a b inside) =
        within_key e (starts_as P Q f a) (starts_as P Q f b) inside

module _ (c : CollectorState) (flown : ℕ → Option Bits) (command : GraphCmd) (result : Result Reply CmdFault)
    (d : CollectorState) (flying : ℕ → Option Bits) (steps : CommandSteps c flown command result d flying) (w : World)
    (ok : IsValid w) (rep : RepresentsPreparing c flown w) where
  abbrev plan : Plan
  plan = steps.plan

  abbrev ch : Change
  ch = steps.plan.change

  abbrev given : Option Place
  given = handed_by steps.plan.change

  abbrev p : Preparation
  p = rep.phase.preparation

  -- through the barriers
  at_wide : IsPrepared steps.wide
  at_wide = subst IsPrepared (sym steps.widens.rest) (record {
    invariant = rep.cleared.invariant;
    prepared = (is_prepared_in c flown w rep).prepared;
  })

  at_first : IsPrepared steps.first
  at_first = through_prepared plan.overwritten steps.wide flown steps.first steps.first_flown steps.old_through at_wide

  at_second : IsPrepared steps.second
  at_second = through_prepared plan.wrapped steps.first steps.first_flown steps.second steps.second_flown
      steps.target_through at_first

  at_third : IsPrepared steps.third
  at_third = through_prepared given steps.second steps.second_flown steps.third flying steps.handed_through at_second

  abbrev m : HeapState
  m = steps.third.heap

  wide_heap : steps.wide.heap ≡ c.heap
  wide_heap = ap (λ (e : CollectorState). e.heap) steps.widens.rest

  first_is : steps.first.heap ≡ record c.heap { colours = steps.first.heap.colours }
  first_is = steps.old_through.heap_is
      ∙ ap (λ (h : HeapState). record h { colours = steps.first.heap.colours }) wide_heap

  second_is : steps.second.heap ≡ record c.heap { colours = steps.second.heap.colours }
  second_is = steps.target_through.heap_is
      ∙ ap (λ (h : HeapState). record h { colours = steps.second.heap.colours }) first_is

  m_is : m ≡ record c.heap { colours = m.colours }
  m_is = steps.handed_through.heap_is ∙ ap (λ (h : HeapState). record h { colours = m.colours }) second_is

  first_shape : steps.first.heap.shape ≡ c.heap.shape
  first_shape = ap (λ (h : HeapState). h.shape) first_is

  second_shape : steps.second.heap.shape ≡ c.heap.shape
  second_shape = ap (λ (h : HeapState). h.shape) second_is

  same_shape : m.shape ≡ c.heap.shape
  same_shape = ap (λ (h : HeapState). h.shape) m_is

  lies : LiesIn m w
  lies = subst (λ (h : HeapState). LiesIn h w) (sym m_is) (lies_marked c.heap m.colours c.heap.delayed w
      rep.placed.lies)

  planned_here : IsPlanOf c.heap command plan
  planned_here = subst (λ h. IsPlanOf h command plan) wide_heap steps.planned

  plan_here : IsPlanIn c.heap command plan
  plan_here = planned-here c.heap command plan planned_here

  plan_last : IsPlanIn m command plan
  plan_last = planned-at c.heap m command plan
      (m_is ∙ ap (with_marks c.heap m.colours) (sym (ap (λ (h : HeapState). h.delayed) m_is))) planned_here

  able_last : IsAble m.shape m.made ch
  able_last = subst (λ (h : HeapState). IsAble h.shape h.made ch) (sym m_is)
      (subst (λ (h : HeapState). IsAble h.shape h.made ch) wide_heap steps.able)

  near : HandsNear c.heap w rep.placed.lies.graph command
      (stored c.heap command) (wrapped_target c.heap command)
      (handed c.heap command)
  near = hands_near c.heap c.stack rep.cleared.invariant w ok rep.placed.lies command
      (accepted_in w c.heap command ok rep.placed.lies
      (plan_here.accepted rep.placed.lies.graph rep.placed.lies.shown))

  -- black spread to what the barriers exposed
  abbrev Exposes : Place → Type 0
  Exposes z = ((plan.overwritten ≡ Some z) ⊎ (plan.wrapped ≡ Some z)) ⊎ (given ≡ Some z)

  spread : SpreadsFrom c.heap.shape c.heap m Exposes
  spread = spreads_then c.heap.shape c.heap steps.second.heap m
      (λ z. (plan.overwritten ≡ Some z) ⊎ (plan.wrapped ≡ Some z)) (λ z. given ≡ Some z)
      (spreads_then c.heap.shape c.heap steps.first.heap steps.second.heap (λ z. plan.overwritten ≡ Some z)
      (λ z. plan.wrapped ≡ Some z) one two) three
    where
      one : SpreadsFrom c.heap.shape c.heap steps.first.heap (λ z. plan.overwritten ≡ Some z)
      one = subst (λ (h : HeapState). SpreadsFrom h.shape h steps.first.heap (λ z. plan.overwritten ≡ Some z)) wide_heap
          (exposed_spreads plan.overwritten steps.wide.heap steps.wide.stack steps.first.heap steps.first.stack
          at_wide.invariant (steps.old_through.preparing at_wide).0)

      two : SpreadsFrom c.heap.shape steps.first.heap steps.second.heap (λ z. plan.wrapped ≡ Some z)
      two = subst (λ (s : Shape). SpreadsFrom s steps.first.heap steps.second.heap (λ z. plan.wrapped ≡ Some z))
          first_shape
          (exposed_spreads plan.wrapped steps.first.heap steps.first.stack steps.second.heap steps.second.stack
          at_first.invariant (steps.target_through.preparing at_first).0)

      three : SpreadsFrom c.heap.shape steps.second.heap m (λ z. given ≡ Some z)
      three = subst (λ (s : Shape). SpreadsFrom s steps.second.heap m (λ z. given ≡ Some z)) second_shape
          (exposed_spreads given steps.second.heap steps.second.stack m steps.third.stack at_second.invariant
          (steps.handed_through.preparing at_second).0)

  -- and left what does not count
  others : (y : Place) → (Counts c.heap.shape y → ⊥) → colour_of m y ≡ colour_of c.heap y
  others y not =
      exposed_others given steps.second.heap steps.second.stack m steps.third.stack
      (steps.handed_through.preparing at_second).0 y (λ n. not (subst (λ (s : Shape). Counts s y) second_shape n))
      ∙ (exposed_others plan.wrapped steps.first.heap steps.first.stack steps.second.heap steps.second.stack
      (steps.target_through.preparing at_first).0 y (λ n. not (subst (λ (s : Shape). Counts s y) first_shape n))
      ∙ (exposed_others plan.overwritten steps.wide.heap steps.wide.stack steps.first.heap steps.first.stack
      (steps.old_through.preparing at_wide).0 y
      (λ n. not (subst (λ (h : HeapState). Counts h.shape y) wide_heap n))
      ∙ ap (λ (h : HeapState). colour_of h y) wide_heap))

  calm : (z : ℕ) → is_marking_state (state_in m.shape z) ≡ false
  calm z = ap (λ (s : Shape). is_marking_state (state_in s z)) same_shape
      ∙ elim (has_zone_or_not rep.run.zones.bits z) [
        | inl has ↦ ap is_marking_state (rep.phase.inside z has)
        | inr out ↦ ap is_marking_state (rep.phase.outside z out)
      ]

  may : MayChange m steps.third.stack flying
  may = record {
    invariant = at_third.invariant;
    calm = calm;
    delayed = ap (λ (h : HeapState). h.delayed) m_is ∙ rep.placed.delayed;
    covers = steps.handed_through.covers;
    regs = λ x has. lies.shown.registers_held x has;
  }

  dark : (q : Place) → Exposes q → IsPresent m.shape q → IsDark m q
  dark q e there = record {
    there = there;
    black = λ counts. (let here = subst (λ (s : Shape). Counts s q) same_shape counts in
        (spread q here).1 (reached.from here (inr e)));
  }

  -- names, also the second that a command wakes, by what was exposed
  name_then : (q : Place) (x : Name) → name_at c.heap.shape q ≡ Some x → name_at m.shape q ≡ Some x
  name_then q x e = subst (λ (s : Shape). name_at s q ≡ Some x) (sym same_shape) e

  also_there : (x : Name) → also_woken_by w.graph command ≡ Some x → (q : Place) × (name_at c.heap.shape q ≡ Some x)
      × Exposes q
  also_there x e =
      let a = near.also x e in
      (a.0, a.1, elim a.2 [ inl t ↦ inl (inr (plan_here.wrapped ∙ t)) | inr g ↦ inr (plan_here.handed ∙ g) ])

  module _ (v : World) where
    run_same : d.run ≡ Some rep.run
    run_same = ap (λ (e : CollectorState). e.run) steps.rest
        ∙ (ap (λ (e : CollectorState). e.run) steps.handed_through.rest
        ∙ (ap (λ (e : CollectorState). e.run) steps.target_through.rest
        ∙ (ap (λ (e : CollectorState). e.run) steps.old_through.rest
        ∙ (ap (λ (e : CollectorState). e.run) steps.widens.rest ∙ rep.run_is))))

    stack_same : d.stack ≡ steps.third.stack
    stack_same = ap (λ (e : CollectorState). e.stack) steps.rest

    lists_same : d.lists ≡ record c.lists { room = steps.wide.lists.room }
    lists_same = ap (λ (e : CollectorState). e.lists) steps.rest
        ∙ (ap (λ (e : CollectorState). e.lists) steps.handed_through.rest
        ∙ (ap (λ (e : CollectorState). e.lists) steps.target_through.rest
        ∙ (ap (λ (e : CollectorState). e.lists) steps.old_through.rest
        ∙ ap (λ (e : CollectorState). e.lists) steps.widens.rest)))

    -- the collector stands for a world in which its heap lies and the same zones are being prepared
    represents_after : KeepsCounts m d.heap steps.third.stack → LiesIn d.heap v → d.heap.delayed ≡ m.delayed
        → AreRowsAtHome d.heap.shape → (NothingLeft c.heap.looks
        → NothingLeft d.heap.looks) → v.preparing ≡ w.preparing
        → v.collection ≡ w.collection
        → ((x : Name) (q : Place) → name_at d.heap.shape q ≡ Some x → Counts d.heap.shape q
        → Has v.black x ↔ IsBlack d.heap q) → RepresentsPreparing d flying v
    represents_after keeps lies_v delayed homes looks preparing idle black = record {
      run = rep.run;
      run_is = run_same;
      uncleared = rep.uncleared;
      clearing = rep.clearing;
      unformed = rep.unformed;
      placed = record { delayed = delayed ∙ may.delayed; lies = lies_v; homes = homes };
      swept = record {
        apart = λ x q r uq ur. absurd (let none = outs q.0 in let out = uq.out_is in cc (none, out));
        flies = record {
          covers = λ a. may.covers a ∙ ap (λ (o : Option Bits). is_some o) (sym (keeps.outs a));
          woken = λ a old new out at. absurd (let none = outs a in cc (none, out));
        };
      };
      none_out = outs;
      cleared = record {
        invariant = subst (PreparingInvariant d.heap) (sym stack_same) keeps.invariant;
        cleared = cleared;
        within = (let le = rep.cleared.within in let more = keeps.longer in
            let same = ap (λ (s : Shape). length s.arenas) same_shape in omega (arith, le, more, same));
        waits = record {
          pending = stack_same ∙ at_third.invariant.empty;
          buffered = λ z. ap (λ bs. buffer_at bs z)
              (keeps.buffers ∙ ap (λ (h : HeapState). h.buffers) m_is) ∙ rep.cleared.waits.buffered z;
          incoming = λ n. ap (λ (l : Incoming). waiting_for l n) lists_same ∙ rep.cleared.waits.incoming n;
          looks = looks rep.cleared.waits.looks;
        };
        room = steps.more_room;
      };
      phase = record {
        preparation = rep.phase.preparation;
        preparing_is = preparing ∙ rep.phase.preparing_is;
        none_running = idle ∙ rep.phase.none_running;
        zones_are = rep.phase.zones_are;
        some = rep.phase.some;
        made = λ z has. (let was = rep.phase.made z has in let more = keeps.made in
            let same = ap (λ (s : Shape). length s.states) same_shape in omega (arith, was, more, same));
        inside = λ z has. keeps.states z ∙ (ap (λ (s : Shape). state_in s z) same_shape ∙ rep.phase.inside z has);
        outside = λ z out. keeps.states z ∙ (ap (λ (s : Shape). state_in s z) same_shape ∙ rep.phase.outside z out);
        black = black;
      };
    }
      where
        outs : (a : ℕ) → out_of d.heap.shape a ≡ None
        outs a = keeps.outs a ∙ at_third.invariant.holds.colours.none_out a

        cleared : (x : Place) → HasZone rep.run.zones.bits (zone_of d.heap.shape x)
            → (x.0 < rep.uncleared.from) ⊎ (rep.uncleared.end ≤ x.0) → colour_of d.heap x ≡ colour.White
        cleared x has at =
            let prepared : is_prepared m.shape (zone_of d.heap.shape x) ≡ true =
            ap (λ (s : Shape). is_prepared s (zone_of d.heap.shape x)) same_shape
            ∙ ap is_prepare_state (rep.phase.inside (zone_of d.heap.shape x) has) in
            keeps.pale x prepared ∙ elim (cases_lt x.0 (length m.shape.arenas)) [
              | inr past ↦ past_white m.colours x.0 x.1
                  (let n = at_third.invariant.holds.colours.sized in omega (arith, n, past))
              | inl lt ↦ (
                  let zone : zone_of d.heap.shape x ≡ zone_of c.heap.shape x = keeps.zones x lt
                  ∙ ap (λ (s : Shape). zone_of s x) same_shape in
                  let here = subst (HasZone rep.run.zones.bits) zone has in
                  let state = ap is_prepare_state (rep.phase.inside (zone_of c.heap.shape x) here) in
                  others x (λ counts. cc (counts, state)) ∙ rep.cleared.cleared x here at)
            ]

  -- which cells count before and after
  counts_before : KeepsCounts m d.heap steps.third.stack → (q : Place) → IsPresent c.heap.shape q → Counts
      d.heap.shape q
      → Counts c.heap.shape q
  counts_before keeps q there counts =
      let here = subst (λ (s : Shape). IsPresent s q) (sym same_shape) there in
      ap (λ (s : Shape). is_prepared s (zone_of s q)) (sym same_shape)
      ∙ (ap is_prepare_state (sym (keeps.states (zone_of m.shape q)))
      ∙ (ap (is_prepared d.heap.shape) (sym (keeps.zones_there q here)) ∙ counts))

  counts_after : KeepsCounts m d.heap steps.third.stack → (q : Place) → IsPresent c.heap.shape q → Counts c.heap.shape q
      → Counts d.heap.shape q
  counts_after keeps q there counts =
      let here = subst (λ (s : Shape). IsPresent s q) (sym same_shape) there in
      ap (is_prepared d.heap.shape) (keeps.zones_there q here)
      ∙ (ap is_prepare_state (keeps.states (zone_of m.shape q))
      ∙ (ap (λ (s : Shape). is_prepared s (zone_of s q)) same_shape ∙ counts))

  out_after : (v : World) → KeepsCounts m d.heap steps.third.stack → LiesIn d.heap v → AreLeftOut d.heap v p
  out_after v keeps lies_v = left_out_in d.heap v rep.run.zones lies_v p rep.phase.zones_are
      (λ z has. keeps.states z ∙ (ap (λ (s : Shape). state_in s z) same_shape ∙ rep.phase.inside z has))
      (λ z out. keeps.states z ∙ (ap (λ (s : Shape). state_in s z) same_shape ∙ rep.phase.outside z out))

  -- names are woken: what the heap then has black where colours count
  module _ (keeps : KeepsCounts m d.heap steps.third.stack) (woken also : Option Name)
      (names : (q : Place) (x : Name) → name_at m.shape q ≡ Some x → name_at d.heap.shape q ≡ Some x)
      (stays : GraphStays m.shape d.heap.shape)
      (fresh : (q : Place) → IsPresent d.heap.shape q → IsPresent m.shape q ⊎ IsWokenAt d.heap woken also q)
      (exposed : (q : Place) → Counts c.heap.shape q → IsPresent c.heap.shape q → Exposes q
      → IsBlack c.heap q ⊎ IsWokenAt d.heap woken also q)
      (blackens : (q : Place) → Counts d.heap.shape q → IsWokenAt d.heap woken also q → IsBlack d.heap q) where
    there_then : (q : Place) → IsPresent m.shape q → IsPresent c.heap.shape q
    there_then q there = subst (λ (s : Shape). IsPresent s q) same_shape there

    exposes_there : (q : Place) → Exposes q → IsPresent c.heap.shape q
    exposes_there q (inl (inl e)) = plan_here.overwritten_there q e
    exposes_there q (inl (inr e)) = plan_here.wrapped_there q e
    exposes_there q (inr e) = plan_here.handed_there q e

    stays_here : GraphStays c.heap.shape d.heap.shape
    stays_here = subst (λ (s : Shape). GraphStays s d.heap.shape) same_shape stays

    exact : (y : Place) → Counts d.heap.shape y
        → IsBlack d.heap y ↔ ReachedLeftOut d.heap.shape (λ z. IsBlack c.heap z ⊎ IsWokenAt d.heap woken also z) y
    exact y counts = (
      λ black. elim (fresh y (keeps.invariant.holds.colours.seen_present y (inr black))) [
        | inr at ↦ reached.from counts (inr at)
        | inl there ↦ (
            let was : IsBlack m y = sym (keeps.colours y there) ∙ black in
            let here = counts_before keeps y (there_then y there) counts in
            reached_stays c.heap.shape d.heap.shape stays_here rep.cleared.invariant.holds.colours.shape
            (counts_after keeps) (λ z. IsBlack c.heap z ⊎ Exposes z)
            (λ z. IsBlack c.heap z ⊎ IsWokenAt d.heap woken also z)
            (λ z cz s. elim s [
              | inl b ↦ (rep.cleared.invariant.holds.colours.seen_present z (inr b), inl b)
              | inr e ↦ (exposes_there z e, exposed z cz (exposes_there z e) e)
            ]) ((spread y here).0 was))
      ],
      λ r. left_out_closed d.heap steps.third.stack keeps.invariant
          (left_out_from d.heap.shape (λ z. IsBlack c.heap z ⊎ IsWokenAt d.heap woken also z) (IsBlack d.heap)
          (λ z cz s. reached.from cz (elim s [
            | inr at ↦ blackens z cz at
            | inl b ↦ (
                let there = rep.cleared.invariant.holds.colours.seen_present z (inr b) in
                let here = counts_before keeps z there cz in
                keeps.colours z (subst (λ (s : Shape). IsPresent s z) (sym same_shape) there)
                ∙ (spread z here).1 (reached.from here (inl b)))
          ])) r),
    )

    is_woken : IsWokenIn c.heap d.heap w p woken also
    is_woken = record {
      lies = rep.placed.lies;
      out = left_out_in c.heap w rep.run.zones rep.placed.lies p rep.phase.zones_are rep.phase.inside rep.phase.outside;
      left_out = (ok.preparing p rep.phase.preparing_is).left_out;
      black = rep.phase.black;
      present = λ q b. rep.cleared.invariant.holds.colours.seen_present q (inr b);
      names = λ q x e. names q x (name_then q x e);
      counts = counts_before keeps;
      exact = exact;
    }

  -- what was exposed, where the heap's cells keep their names: by the second name, if it is none that is black
  second_exposed : (woken also : Option Name) → also_woken_by w.graph command ≡ also
      → ((q : Place) (x : Name) → name_at m.shape q ≡ Some x → name_at d.heap.shape q ≡ Some x) → (q : Place)
      → IsPresent c.heap.shape q → also ≡ name_at c.heap.shape q → IsWokenAt d.heap woken also q
  second_exposed woken also is names q there e =
      let n = name_of c.heap.shape q there in
      (n.0, names q n.0 (name_then q n.0 n.1), inr (e ∙ n.1))

  -- out of memory, or nothing changed
  module _ (same : d.heap ≡ m) (nothing_given : given ≡ None) (nothing_old : plan.overwritten ≡ None) where
    keeps_still : KeepsCounts m d.heap steps.third.stack
    keeps_still = subst (λ (h : HeapState). KeepsCounts m h steps.third.stack) (sym same) (record {
      invariant = at_third.invariant;
      buffers = refl;
      states = λ z. refl;
      made = omega arith;
      outs = λ a. refl;
      longer = omega arith;
      zones = λ q lt. refl;
      zones_there = λ q there. refl;
      there = λ q there. there;
      colours = λ q there. refl;
      pale = λ q prepared. refl;
    })

    names_still : (q : Place) (x : Name) → name_at m.shape q ≡ Some x → name_at d.heap.shape q ≡ Some x
    names_still q x e = subst (λ (h : HeapState). name_at h.shape q ≡ Some x) (sym same) e

    looks_still : NothingLeft c.heap.looks
        → NothingLeft d.heap.looks
    looks_still nothing = subst (λ (h : HeapState). NothingLeft h.looks)
        (sym (same ∙ m_is)) nothing

    homes_still : AreRowsAtHome d.heap.shape
    homes_still = subst (λ (h : HeapState). AreRowsAtHome h.shape) (sym (same ∙ m_is)) rep.placed.homes

    delayed_still : d.heap.delayed ≡ m.delayed
    delayed_still = ap (λ (h : HeapState). h.delayed) same

    -- the second name turned black
    abbrev after_want : World
    after_want = record w { black = left_out_names d.heap w.places }

    lies_want : LiesIn d.heap after_want
    lies_want = subst (λ (h : HeapState). LiesIn h after_want) (sym same) (record {
      whole = lies.whole;
      graph = lies.graph;
      shown = lies.shown;
      part = record { well_formed = lies.part.well_formed; part = lies.part.part; here = lies.part.here };
      places_are = lies.places_are;
      owner_is = lies.owner_is;
      weak_are = lies.weak_are;
      out_is = lies.out_is;
      white_are = lies.white_are;
    })

    woken_want : IsWokenIn c.heap d.heap w p None (also_woken_by w.graph command)
    woken_want = is_woken keeps_still None (also_woken_by w.graph command) names_still
        (subst (λ (h : HeapState). GraphStays m.shape h.shape) (sym same) (graph_same m.shape m.shape refl refl))
        (λ q there. inl (subst (λ (h : HeapState). IsPresent h.shape q) same there))
        (λ q counts there e. elim e [
          | inr g ↦ absurd (cc (nothing_given, g))
          | inl (inl o) ↦ absurd (cc (nothing_old, o))
          | inl (inr t) ↦ inr (second_exposed None (also_woken_by w.graph command) refl names_still q there
              (near.second q (sym plan_here.wrapped ∙ t)))
        ])
        (λ q counts at. elim at.2 [
          | inl none ↦ absurd (cc none)
          | inr also ↦ (
              let a = also_there at.0 also in
              let here : name_at m.shape q ≡ Some at.0 = subst (λ (h : HeapState). name_at h.shape q ≡ Some at.0) same
              at.1 in
              let is : a.0 ≡ q = lies.shown.apart a.0 q at.0 (name_then a.0 at.0 a.1) here in
              let counts_m : Counts m.shape q = subst (λ (h : HeapState). Counts h.shape q) same counts in
              subst (λ (h : HeapState). IsBlack h q) (sym same)
              ((dark q (subst Exposes is a.2) (named_present m.shape q at.0 here)).black counts_m))
        ])

    wants : RepresentsPreparing d flying after_want × IsAfterWant w command after_want
    wants = (
      represents_after after_want keeps_still lies_want delayed_still homes_still looks_still refl refl
          (tied_after c.heap d.heap w after_want p None (also_woken_by w.graph command) woken_want lies_want
          (out_after after_want keeps_still lies_want) refl),
      inr (
        p,
        rep.phase.preparing_is,
        refl,
        wakes_as w after_want p
            (λ s. (None ≡ Some s) ⊎ (also_woken_by w.graph command ≡ Some s))
            (λ s. also_woken_by w.graph command ≡ Some s)
            (λ x. (λ s. elim s [ inl none ↦ absurd (cc none) | inr e ↦ e ], λ e. inr e))
            (wakes_after c.heap d.heap w after_want p None (also_woken_by w.graph command) woken_want lies_want
            (out_after after_want keeps_still lies_want) refl),
      ),
    )

    pub answers_want : AnswersIn w command (Err fault.NoMemory) d flying
    answers_want = (after_want, wants.1, prepared wants.0)

  -- the command is done
  module _ (answer : Reply) (is : result ≡ Ok answer) where
    abbrev k : HeapState
    k = d.heap

    change_ok : ChangesBy m ch answer k
    change_ok = subst (λ r. IfOk r (λ a. ChangesBy m ch a k)) is steps.change

    step_ok : DoesStep m command (Ok answer) k
    step_ok = (plan_last.does steps.few answer k change_ok).0

    step : IsStepIn w m k command answer lies
    step = step_in w m k command answer ok lies step_ok

    moves_ok : Moves m command ch k
    moves_ok = moves_of m lies.graph lies.shown lies.whole command k m.made ch answer able_last plan_last.wakes
        change_ok

    altered_ok : Alters (IsDark m) m k flying
    altered_ok = altered m k steps.third.stack flying may ch answer change_ok m.made able_last
        (λ q e. (let o : plan.overwritten ≡ Some q = plan_last.replaced ∙ e in
        dark q (inl (inl o)) (plan_last.overwritten_there q o)))
        (λ q e. dark q (inr e) (plan_last.handed_there q e))
        (λ r z n t same. (let o : plan.wrapped ≡ Some t = subst (IsTarget plan.wrapped) same plan_last.target in
        dark t (inl (inr o)) (plan_last.wrapped_there t o)))

    keeps_ok : KeepsCounts m k steps.third.stack
    keeps_ok = keeps_counts m k steps.third.stack flying may ch answer change_ok altered_ok

    delayed_ok : k.delayed ≡ m.delayed
    delayed_ok = delayed_kept m k ch answer change_ok

    named_ok : k.weak_names ≡ m.weak_names
    named_ok = weak_names_kept m k ch answer change_ok

    looks_ok : NothingLeft c.heap.looks
        → NothingLeft k.looks
    looks_ok nothing = nothing_changed m k ch answer change_ok
        (subst (λ (h : HeapState). NothingLeft h.looks) (sym m_is) nothing)

    homes_ok : AreRowsAtHome k.shape
    homes_ok = rows_changed m k ch answer change_ok
        (subst (λ (s : Shape). AreRowsAtHome s) (sym same_shape) rep.placed.homes)

    -- the worlds in which names are woken
    module _ (v : World) (woken also : Option Name) (is_woken_by : woken_by w.graph command ≡ woken)
        (is_also : also_woken_by w.graph command ≡ also) (lies_v : LiesIn k v)
        (preparing : v.preparing ≡ w.preparing) (idle : v.collection ≡ w.collection)
        (black_is : v.black ≡ left_out_names k v.places) (i : IsWokenIn c.heap k w p woken also)
        (accepts : WakesLeftOut w p (λ s. (woken ≡ Some s) ⊎ (also ≡ Some s)) v
        → AcceptsPreparing w p (step_of w.graph command).0 woken also v) where
      woken_answers : AnswersIn w command (Ok answer) d flying
      woken_answers =
          let out = out_after v keeps_ok lies_v in (
            v,
            command_prepared w v command answer p woken also rep.phase.preparing_is step.answer_is step.accepted
                is_woken_by is_also
                (accepts (wakes_after c.heap k w v p woken also i lies_v out black_is)),
            prepared (represents_after v keeps_ok lies_v delayed_ok homes_ok looks_ok preparing idle
                (tied_after c.heap k w v p woken also i lies_v out black_is)),
          )

    -- nothing moves and no name is woken
    module _ (stay : StayInPlace m.shape k.shape) (wakes : Wakes m command None) (colours : k.colours ≡ m.colours)
        (none : also_woken_by w.graph command ≡ None) where
      abbrev still : World
      still = record w { graph = (step_of w.graph command).0 }

      lies_quiet : LiesIn k still
      lies_quiet = lies_still w still m k command answer lies step stay named_ok refl refl refl refl refl refl

      -- all that was exposed was black
      black_exposed : (q : Place) → Counts c.heap.shape q → Exposes q → IsBlack c.heap q
      black_exposed q counts (inl (inl o)) = near.first q (sym plan_here.overwritten ∙ o) counts
      black_exposed q counts (inl (inr t)) =
          let n = name_of c.heap.shape q (plan_here.wrapped_there q t) in
          absurd (let named = near.second q (sym plan_here.wrapped ∙ t) in let has = n.1 in cc (named, none, has))
      black_exposed q counts (inr g) =
          elim (near.third (wakes_here (wakes)) q (sym plan_here.handed ∙ g)) [
            | inl black ↦ black counts
            | inr named ↦ (let n = name_of c.heap.shape q (plan_here.handed_there q g) in
                absurd (let has = n.1 in cc (named, none, has)))
          ]
        where
          wakes_here : Wakes m command None → woken_by rep.placed.lies.graph command ≡ None
          wakes_here on = on rep.placed.lies.graph
              (subst (λ (h : HeapState). Shows h rep.placed.lies.graph) (sym m_is)
              (shows_coloured c.heap m.colours c.heap.delayed rep.placed.lies.graph
              rep.placed.lies.shown))

      black_same : (q : Place) → Counts c.heap.shape q → IsBlack m q ↔ IsBlack c.heap q
      black_same q counts = (
        λ b. left_out_closed c.heap c.stack rep.cleared.invariant
            (left_out_from c.heap.shape (λ z. IsBlack c.heap z ⊎ Exposes z) (IsBlack c.heap)
            (λ z cz s. reached.from cz (elim s [ inl was ↦ was | inr e ↦ black_exposed z cz e ]))
            ((spread q counts).0 b)),
        λ b. (spread q counts).1 (reached.from counts (inl b)),
      )

      answers_quiet : AnswersIn w command (Ok answer) d flying
      answers_quiet = (
        still,
        command_prepared w still command answer p None None rep.phase.preparing_is step.answer_is step.accepted
            (woken_in w m command None ok lies wakes) none refl,
        prepared (represents_after still keeps_ok lies_quiet delayed_ok homes_ok looks_ok refl refl (λ x q e counts.
            let before : name_at m.shape q ≡ Some x = sym (stay.names q) ∙ e in
            let here : name_at c.heap.shape q ≡ Some x = subst (λ (s : Shape). name_at s q ≡ Some x) same_shape before
            in
            let counts_here = counts_before keeps_ok q (named_present c.heap.shape q x here) counts in
            let both = rep.phase.black x q here counts_here in
            let same = black_same q counts_here in
            let kept = keeps_ok.colours q (named_present m.shape q x before) in (
              λ has. kept ∙ same.1 (both.0 has),
              λ b. both.1 (same.0 (sym kept ∙ b)),
            ))),
      )

    -- nothing moves, edges and entries stay, and one name is woken or two
    module _ (woken also : Option Name) (stay : StayInPlace m.shape k.shape) (wakes : Wakes m command woken)
        (is_also : also_woken_by w.graph command ≡ also) (arenas : k.shape.arenas ≡ m.shape.arenas)
        (weak : k.shape.weak ≡ m.shape.weak) (given_named : (q : Place) → given ≡ Some q
        → (Counts c.heap.shape q → IsBlack c.heap q) ⊎ ((also ≡ name_at c.heap.shape q)
        ⊎ (woken ≡ name_at c.heap.shape q)))
        (woken_given : (x : Name) → woken ≡ Some x → (q : Place) × (name_at m.shape q ≡ Some x) × (given ≡ Some q))
      where
        abbrev found : World
        found = record w { graph = (step_of w.graph command).0; black = left_out_names k w.places }

        lies_found : LiesIn k found
        lies_found = lies_still w found m k command answer lies step stay named_ok refl refl refl refl refl refl

        woken_found : IsWokenIn c.heap k w p woken also
        woken_found = is_woken keeps_ok woken also (λ q x e. stay.names q ∙ e) (graph_same m.shape k.shape arenas weak)
            (λ q there. (let n = name_of k.shape q there in
            inl (named_present m.shape q n.0 (sym (stay.names q) ∙ n.1))))
            (λ q counts there e. elim e [
              | inl (inl o) ↦ inl (near.first q (sym plan_here.overwritten ∙ o) counts)
              | inl (inr t) ↦ inr (second_exposed woken also is_also (λ r x f. stay.names r ∙ f) q there
                  (sym is_also ∙ near.second q (sym plan_here.wrapped ∙ t)))
              | inr g ↦ elim (given_named q g) [
                | inl black ↦ inl (black counts)
                | inr (inl named) ↦ inr (second_exposed woken also is_also (λ r x f. stay.names r ∙ f) q there named)
                | inr (inr named) ↦ (let n = name_of c.heap.shape q there in
                    inr (n.0, stay.names q ∙ name_then q n.0 n.1, inl (named ∙ n.1)))
              ]
            ])
            (λ q counts at. elim at.2 [
              | inl first ↦ (
                  let a = woken_given at.0 first in
                  at_place a.0 q at.0 a.1 at.1 counts (inr a.2))
              | inr second ↦ (
                  let a = also_there at.0 (is_also ∙ second) in
                  at_place a.0 q at.0 (name_then a.0 at.0 a.1) at.1 counts a.2)
            ])
          where
            at_place : (r q : Place) (x : Name) → name_at m.shape r ≡ Some x → name_at k.shape q ≡ Some x
                → Counts k.shape q → Exposes r → IsBlack k q
            at_place r q x named now counts e =
                let before : name_at m.shape q ≡ Some x = sym (stay.names q) ∙ now in
                let same : r ≡ q = lies.shown.apart r q x named before in
                let there = named_present m.shape q x before in
                let here = subst (λ (s : Shape). IsPresent s q) same_shape there in
                let counts_m : Counts m.shape q = ap (λ (s : Shape). is_prepared s (zone_of s q)) same_shape
                ∙ counts_before keeps_ok q here counts in
                keeps_ok.colours q there ∙ (dark q (subst Exposes same e) there).black counts_m

        found_answers : (WakesLeftOut w p (λ s. (woken ≡ Some s) ⊎ (also ≡ Some s)) found
            → AcceptsPreparing w p (step_of w.graph command).0 woken also found)
            → AnswersIn w command (Ok answer) d flying
        found_answers accepts = woken_answers found woken also (woken_in w m command woken ok lies wakes) is_also
            lies_found
            refl refl refl woken_found accepts

    -- a cell is made
    module _ (zone : ℕ) (q : Place) (x : Name) (comes : ComesTo m.shape k.shape zone q x)
        (wakes : Wakes m command (Some x)) (nothing : given ≡ None) (b : Bears (IsDark m) m k flying) where
      abbrev second : Option Name
      second = also_woken_by w.graph command

      abbrev made : World
      made = record w {
        graph = (step_of w.graph command).0;
        places = places.insert w.places x q;
        owner = owners_of k.shape.arenas;
        black = left_out_names k (places.insert w.places x q);
      }

      lies_new : LiesIn k made
      lies_new = lies_made w m k command answer q x lies made step zone comes named_ok refl refl refl refl refl refl

      names_kept : (r : Place) (y : Name) → name_at m.shape r ≡ Some y → name_at k.shape r ≡ Some y
      names_kept = (there_made w m k command answer q x lies zone comes).kept

      named : name_at k.shape q ≡ Some x
      named = (there_made w m k command answer q x lies zone comes).named

      -- it is the cell that was born
      is_place : q ≡ b.place
      is_place = elim (same-place q b.place) [
        | inl same ↦ same.0
        | inr other ↦ absurd (comes.free
            (bears_was m k steps.third.stack flying may (delayed_ok ∙ may.delayed) b q other.0
            (named_present k.shape q x named)))
      ]

      was_there : (r : Place) → (r ≡ q → ⊥) → IsPresent k.shape r → IsPresent m.shape r
      was_there r other there = bears_was m k steps.third.stack flying may (delayed_ok ∙ may.delayed) b r
          (λ e. other (e ∙ sym is_place)) there

      black_new : Counts k.shape q → IsBlack k q
      black_new counts = subst (IsBlack k) (sym is_place)
          (bears_black m k steps.third.stack flying may (delayed_ok ∙ may.delayed) b
          (subst (Counts k.shape) is_place counts))

      woken_made : IsWokenIn c.heap k w p (Some x) second
      woken_made = is_woken keeps_ok (Some x) second names_kept
          (bears_stays m k steps.third.stack flying may (delayed_ok ∙ may.delayed) b)
          (λ r there. elim (same-place r q) [
            | inl same ↦ inr (x, ap (name_at k.shape) same.0 ∙ named, inl refl)
            | inr other ↦ inl (was_there r other.0 there)
          ])
          (λ r counts there e. elim e [
            | inl (inl o) ↦ inl (near.first r (sym plan_here.overwritten ∙ o) counts)
            | inl (inr t) ↦ inr (second_exposed (Some x) second refl names_kept r there
                (near.second r (sym plan_here.wrapped ∙ t)))
            | inr g ↦ absurd (cc (nothing, g))
          ])
          (λ r counts at. elim at.2 [
            | inl first ↦ (
                let same : x ≡ at.0 = some_one _ _ first in
                let here : r ≡ q = step.shown.apart r q at.0 at.1 (named ∙ ap (λ y. Some y) same) in
                subst (IsBlack k) (sym here) (black_new (subst (Counts k.shape) here counts)))
            | inr also ↦ (
                let a = also_there at.0 also in
                let before = name_then a.0 at.0 a.1 in
                let same : a.0 ≡ r = step.shown.apart a.0 r at.0 (names_kept a.0 at.0 before) at.1 in
                let there : IsPresent m.shape r = subst (IsPresent m.shape) same
                (named_present m.shape a.0 at.0 before) in
                let here = subst (λ (s : Shape). IsPresent s r) same_shape there in
                let counts_m : Counts m.shape r = ap (λ (s : Shape). is_prepared s (zone_of s r)) same_shape
                ∙ counts_before keeps_ok r here counts in
                keeps_ok.colours r there ∙ (dark r (subst Exposes same a.2) there).black counts_m)
          ])

      answers_made : AnswersIn w command (Ok answer) d flying
      answers_made = woken_answers made (Some x) second (woken_in w m command (Some x) ok lies wakes) refl lies_new
          refl refl refl woken_made
          (λ wakes_names. (
            has_made w m k command answer q x lies made step zone comes refl refl refl refl refl refl refl,
            refl,
            wakes_as w made p (λ s. (Some x ≡ Some s) ⊎ (second ≡ Some s)) (λ s. (x ≡ s) ⊎ (second ≡ Some s))
                (λ s. (
                  λ e. elim e [ inl first ↦ inl (some_one _ _ first) | inr also ↦ inr also ],
                  λ e. elim e [ inl first ↦ inl (ap (λ y. Some y) first) | inr also ↦ inr also ],
                )) wakes_names,
          ))

    -- a cell is found, which the command wakes
    found_place : (q : Place) (x : Name) → name_at m.shape q ≡ Some x → Wakes m command (Some x)
        → k.shape.arenas ≡ m.shape.arenas → k.shape.weak ≡ m.shape.weak → given ≡ Some q
        → AnswersIn w command (Ok answer) d flying
    found_place q x named wakes arenas weak is_given =
        let stay = stay_same m.shape k.shape arenas lies.whole in
        let second = also_woken_by w.graph command in
        let here : name_at c.heap.shape q ≡ Some x = subst (λ (s : Shape). name_at s q ≡ Some x) same_shape named in
        found_answers (Some x) second stay wakes refl arenas weak
        (λ r g. inr (inr (sym here ∙ ap (name_at c.heap.shape) (some_one _ _ (sym is_given ∙ g)))))
        (λ y e. (q, named ∙ e, is_given))
        (λ wakes_names. (
          record {
            graph_is = refl;
            found = λ there. (refl, refl);
            made = λ absent. absurd (absent
                (present_named m w lies q x named));
            out_is = refl;
            white_is = refl;
            weak_is = refl;
            preparing_is = refl;
          },
          refl,
          wakes_as w
              (record w { graph = (step_of w.graph command).0; black = left_out_names k w.places }) p
              (λ s. (Some x ≡ Some s) ⊎ (second ≡ Some s)) (λ s. (x ≡ s) ⊎ (second ≡ Some s))
              (λ s. (
                λ e. elim e [ inl first ↦ inl (some_one _ _ first) | inr also ↦ inr also ],
                λ e. elim e [ inl first ↦ inl (ap (λ y. Some y) first) | inr also ↦ inr also ],
              )) wakes_names,
        ))

    -- what hands a cell out leaves edges and entries
    register_same : (q : Place) → given ≡ Some q → (k.shape.arenas ≡ m.shape.arenas) × (k.shape.weak ≡ m.shape.weak)
    register_same q e = go steps.plan.change e change_ok
      where
        go : (ch : Change) → handed_by ch ≡ Some q → ChangesBy m ch answer k
            → (k.shape.arenas ≡ m.shape.arenas) × (k.shape.weak ≡ m.shape.weak)
        go change.Zone e by = absurd (cc e)
        go (change.Comp z) e by = absurd (cc e)
        go (change.Cell r z n t) e by = absurd (cc e)
        go (change.Wrapper r z n t) e by = absurd (cc e)
        go (change.Register r v named) e by =
            (ap (λ (h : HeapState). h.shape.arenas) by.0, ap (λ (h : HeapState). h.shape.weak) by.0)
        go (change.Slot g v) e by = absurd (cc e)
        go (change.Field r f v) e by = absurd (cc e)
        go (change.Put r n v) e by = absurd (cc e)
        go (change.Del r n) e by = absurd (cc e)

    -- no first name is woken
    quiet_place : StayInPlace m.shape k.shape → Wakes m command None → k.colours ≡ m.colours
        → (also : Option Name) → also_woken_by w.graph command ≡ also → AnswersIn w command (Ok answer) d flying
    quiet_place stay wakes colours None is_also = answers_quiet stay wakes colours is_also
    quiet_place stay wakes colours (Some y) is_also =
        let none = none_here wakes in
        let g = near.given_also none y is_also in
        let same = register_same g.0 (plan_here.handed ∙ g.1) in
        found_answers None (Some y) stay wakes is_also same.0 same.1
        (λ q e. elim (near.third none q (sym plan_here.handed ∙ e)) [
          | inl black ↦ inl black
          | inr named ↦ inr (inl (sym is_also ∙ named))
        ])
        (λ x e. absurd (cc e))
        (λ wakes_names. (
          refl,
          wakes_as w
              (record w { graph = (step_of w.graph command).0; black = left_out_names k w.places }) p
              (λ s. (None ≡ Some s) ⊎ (Some y ≡ Some s)) (λ s. y ≡ s)
              (λ s. (
                λ e. elim e [ inl first ↦ absurd (cc first) | inr also ↦ some_one _ _ also ],
                λ e. inr (ap (λ z. Some z) e),
              )) wakes_names,
        ))
      where
        none_here : Wakes m command None → woken_by rep.placed.lies.graph command ≡ None
        none_here on = on rep.placed.lies.graph
            (subst (λ (h : HeapState). Shows h rep.placed.lies.graph) (sym m_is)
            (shows_coloured c.heap m.colours c.heap.delayed rep.placed.lies.graph
            rep.placed.lies.shown))

    made_place : (zone : ℕ) (q : Place) (x : Name) → ComesTo m.shape k.shape zone q x → Wakes m command (Some x)
        → given ≡ None → Alters (IsDark m) m k flying → AnswersIn w command (Ok answer) d flying
    made_place zone q x comes wakes nothing (bears b) = answers_made zone q x comes wakes nothing b
    made_place zone q x comes wakes nothing (rewires r) = absurd (comes.free
        (rewiring.present_back (IsDark m) (joined m flying)
        (joined k flying) r q
        (named_present k.shape q x (there_made w m k command answer q x lies zone comes).named)))

    answers_moves : Moves m command ch k → AnswersIn w command (Ok answer) d flying
    answers_moves (quiet stay wakes colours reach) =
        quiet_place stay wakes colours (also_woken_by w.graph command) refl
    answers_moves (finds q x named wakes colours arenas weak is_given) = found_place q x named wakes arenas weak
        is_given
    answers_moves (makes zone q x cell between comes wakes mk colours none number) =
        made_place zone q x comes wakes none altered_ok

    answered_ok : AnswersIn w command (Ok answer) d flying
    answered_ok = answers_moves moves_ok

  answered : (r : Result Reply CmdFault) → result ≡ r → AnswersIn w command r d flying
  answered (Ok answer) is = answered_ok answer is
  answered (Err (fault.Refused why)) is =
      let wanted : (fault.Refused why ≡ fault.NoMemory) × MayWant m.shape ch =
      subst (λ r. IfErr r (λ why. (why ≡ fault.NoMemory) × MayWant m.shape ch)) is steps.wanted in
      absurd (cc wanted.0)
  answered (Err fault.NoMemory) is =
      let wanted : (fault.NoMemory ≡ fault.NoMemory) × MayWant m.shape ch =
      subst (λ r. IfErr r (λ why. (why ≡ fault.NoMemory) × MayWant m.shape ch)) is steps.wanted in
      answers_want (subst (λ r. OnErr r (d.heap ≡ m)) is steps.err)
      (none_of given (λ some. handed-wants m.shape ch some wanted.1))
      (plan_last.replaced ∙ none_of (overwritten_by m.shape ch) (λ some. overwritten-wants m.shape ch some wanted.1))
    where
      none_of : {X : Type 0} (o : Option X) → (IsSome o → ⊥) → o ≡ None
      none_of None none = refl
      none_of (Some x) none = absurd (none refl)

  pub answers_preparing : AnswersIn w command result d flying
  answers_preparing = answered result refl

  -- no arena is handed out or taken in, and none was out
  outs_for : (r : Result Reply CmdFault) → result ≡ r → (a : ℕ) → out_of d.heap.shape a ≡ out_of m.shape a
  outs_for (Ok answer) is a = (keeps_ok answer is).outs a
  outs_for (Err why) is a =
      ap (λ (h : HeapState). out_of h.shape a) (subst (λ r. OnErr r (d.heap ≡ m)) is steps.err)

  pub outs_preparing : (a : ℕ) → out_of d.heap.shape a ≡ out_of c.heap.shape a
  outs_preparing a = outs_for result refl a ∙ ap (λ (s : Shape). out_of s a) same_shape

  pub words_preparing : KeepsFreedWords c.heap.shape d.heap.shape
  words_preparing a freed was arena bits at out =
      absurd (let none = outs_preparing a ∙ rep.none_out a in let is = ap out_in at ∙ out in cc (none, is))

  -- the arenas that are still to be cleared stay those that were
  keeps_for : (r : Result Reply CmdFault) → result ≡ r → (q : Place) → q.0 < length m.shape.arenas
      → (length m.shape.arenas ≤ length d.heap.shape.arenas) × (zone_of d.heap.shape q ≡ zone_of m.shape q)
  keeps_for (Ok answer) is q lt = ((keeps_ok answer is).longer, (keeps_ok answer is).zones q lt)
  keeps_for (Err why) is q lt =
      let same : d.heap ≡ m = subst (λ r. OnErr r (d.heap ≡ m)) is steps.err in
      let arenas = ap (λ (h : HeapState). length h.shape.arenas) same in
      (omega (arith, arenas), ap (λ (h : HeapState). zone_of h.shape q) same)

  owned_still : (a : ℕ) → a < rep.uncleared.end
      → is_owned d.heap.shape rep.run.zones.bits a ≡ is_owned c.heap.shape rep.run.zones.bits a
  owned_still a lt =
      let within = rep.cleared.within in
      let arenas = ap (λ (s : Shape). length s.arenas) same_shape in
      let here : a < length m.shape.arenas = omega (arith, lt, within, arenas) in
      let both = keeps_for result refl (a, 0) here in
      same_owned rep.run.zones.bits d.heap.shape.arenas m.shape.arenas a (omega (arith, here, both.0)) here both.1
      ∙ ap (λ (s : Shape). is_owned s rep.run.zones.bits a) same_shape

  clearing_still : clearing_left d.heap.shape d.run ≡ clearing_left c.heap.shape c.run
  clearing_still =
      let now = ap (clearing_left d.heap.shape) (run_same w)
      ∙ ap (left_of d.heap.shape rep.run.zones) rep.clearing in
      let was = ap (clearing_left c.heap.shape) rep.run_is ∙ ap (left_of c.heap.shape rep.run.zones) rep.clearing in
      let same = owned_same c.heap.shape d.heap.shape rep.run.zones.bits rep.uncleared.from
      (rep.uncleared.end - rep.uncleared.from) (λ a ge lt. owned_still a (omega (arith, ge, lt))) in
      now ∙ (same ∙ sym was)

  -- so as much is to come
  stands : (r : Result Reply CmdFault) → AnswersIn w command r d flying → (v : World) × Represents d flying v
  stands (Ok answer) a = (a.0, a.2)
  stands (Err (fault.Refused why)) a = (w, a.1)
  stands (Err fault.NoMemory) a = (a.0, a.2)

  pub raises_preparing : units_to_come d flying ≤ units_to_come c flown
  raises_preparing =
      let now = stands result answers_preparing in
      let rep_now = preparing_of d flying now.0 rep.uncleared (rep.run, run_same w, rep.clearing) now.1 in
      let to_come = to_come_is d flying now.0 rep_now in
      let was = to_come_is c flown w rep in
      let same = clearing_still in
      omega (arith, to_come, was, same)

-- which form a collector's abstraction has, by what its world has
pub running_marking : (c : CollectorState) (flown : ℕ → Option Bits) (w : World) (k : Collection) → IsValid w
    → w.collection ≡ Some k → Represents c flown w → RepresentsMarking c flown w
running_marking c flown w k ok at (going rep) = rep
running_marking c flown w k ok at (prepared rep) = absurd (let none = rep.phase.none_running in cc (none, at))

pub preparing_world : (c : CollectorState) (flown : ℕ → Option Bits) (w : World) (q : Preparation)
    → w.preparing ≡ Some q → Represents c flown w → RepresentsPreparing c flown w
preparing_world c flown w q at (prepared rep) = rep
preparing_world c flown w q at (going rep) = absurd (let calm = rep.phase.calm in cc (calm, at))

-- with more room a collector stands for the same worlds
pub represents_wide : (c d : CollectorState) (flown : ℕ → Option Bits) (w : World) → Widens c d
    → Represents c flown w → Represents d flown w
represents_wide c d flown w wide (going rep) = going (represents_widened c d flown w wide rep)
represents_wide c d flown w wide (prepared rep) = prepared
    (subst (λ e. RepresentsPreparing e flown w) (sym wide.rest) (record {
      run = rep.run;
      run_is = rep.run_is;
      uncleared = rep.uncleared;
      clearing = rep.clearing;
      unformed = rep.unformed;
      placed = rep.placed;
      swept = rep.swept;
      none_out = rep.none_out;
      cleared = record {
        invariant = rep.cleared.invariant;
        cleared = rep.cleared.cleared;
        within = rep.cleared.within;
        waits = record {
          pending = rep.cleared.waits.pending;
          buffered = rep.cleared.waits.buffered;
          incoming = rep.cleared.waits.incoming;
          looks = rep.cleared.waits.looks;
        };
        room = (let was = rep.cleared.room in let le = wide.lists in omega (arith, was, le));
      };
      phase = rep.phase;
    }))
