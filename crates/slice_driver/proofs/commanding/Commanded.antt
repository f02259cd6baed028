-- From what the parts of the call of a command do to its steps.
use Rattle.std.proofs.Common.{◌≡◌, ◌≤◌, ◌+◌, ◌*◌, ◌==◌, ℕ, inl, List, length, Option, Some, None, IsSome, is_some, true}
use Rattle.std.proofs.Common.{false}
use Rattle.std.proofs.Common.{Result, Ok, Err, IfErr, IfOk, OnErr, if◌then◌else◌, refl, sym, ap, subst, ◌∙◌, arith}
use Rattle.std.specs.Result.{is_err}
use Rattle.gz_names.specs.declared.numbers.Place.{Place}
use Rattle.gz_names.specs.declared.commands.GraphCmd.{GraphCmd}
use Rattle.gz_names.specs.declared.replies.Reply.{Reply}
use Rattle.gz_names.specs.declared.replies.CmdFault.{CmdFault}
use Rattle.gz_names.specs.declared.replies.CmdFault.TheVariants as fault
use Rattle.gz_names.specs.declared.replies.Refusal.{Refusal}
use Rattle.cell_bits.specs.declared.bits.Bits.{Bits}
use Rattle.wrappers.specs.WrapperMaps.{AreApart}
use Rattle.gray_lists.specs.Incoming.{Incoming}
use Rattle.colour_defs.specs.Graph.{GraphState}
use Rattle.colour_defs.specs.World.{World}
use Rattle.colour_defs.specs.Step.{HasFewFields, IsAccepted, refusal_in}
use Rattle.colour_defs.proofs.ValidCommands.{command_valid}
use Rattle.heap_core.specs.Shape.{out_of}
use Rattle.weak_maps.specs.WeakMaps.{AreParallel, IsSound as AreEntries}
use Rattle.heap_core.specs.Heap.{HeapState, weak_of, with_marks}
use Rattle.heap_core.specs.Answers as answers
use Rattle.heap_core.specs.Answers.{DoesStep}
use Rattle.heap_core.specs.Effects.{takes_memory}
use Rattle.heap_core.specs.Changes.{next_place}
use Rattle.heap_core.specs.Peeks.{cells_made}
use Rattle.heap_core.specs.Shows.{Shows}
use Rattle.heap_core.specs.Lookups.{IsRefused}
use Rattle.heap_core.specs.declared.plans.Change.{Change}
use Rattle.heap_core.specs.declared.plans.Plan.{Plan}
use Rattle.heap_core.specs.Plans.{ChangesBy, IsAble, IsPlanIn, IsPlanOf, MayWant, handed_by, made_by, overwritten_by}
use Rattle.heap_core.proofs.Planned.{handed-wants, made-cells, overwritten-wants, planned-at, planned-here}
use Rattle.heap_core.proofs.Stepping.{does-refused}
use Rattle.barriers.proofs.Flying.{flown_length}
use Rattle.gz_names.specs.declared.zone_sets.ZoneSet.{ZoneSet}
use Rattle.zone_edges.specs.Noted.{Noted}
use Rattle.slice_driver.specs.declared.collector.Phase.{Phase}
use Rattle.slice_driver.specs.declared.collector.Phase.TheVariants as phase
use Rattle.slice_driver.specs.Calls.{CommandDone}
use Rattle.slice_driver.specs.Collector.{CollectorState, IsKept}
use Rattle.slice_driver.specs.Commands.{WantsMemory}
use Rattle.slice_driver.specs.Represents.{Represents, going, prepared}
use Rattle.slice_driver.specs.Rooms.{IsRoomy, Widens, arenas_after}
use Rattle.slice_driver.specs.Steps.{CommandSteps, GoesThrough}
use Rattle.slice_driver.specs.Units.{AnswersIn, DoesCommand, IsSound, KeepsFreedWords, RaisesWithin}
use Rattle.slice_driver.proofs.commanding.RaisesToCome.{raises_marking, widened_to_come}
use Rattle.slice_driver.proofs.commanding.FreedWords.{same_words}
use Rattle.slice_driver.proofs.commanding.Answering.{answers_command, outs_command, through_rest, words_command}
use Rattle.slice_driver.proofs.commanding.PreparingCommands.{answers_preparing, outs_preparing, raises_preparing}
use Rattle.slice_driver.proofs.commanding.PreparingCommands.{words_preparing}
use Rattle.slice_driver.proofs.commanding.Viewed.{ledger_kept}
use Rattle.slice_driver.proofs.abstraction.Wanted.{wanted_valid}
use Rattle.heap_core.proofs.Resolved.{shows_coloured}
use Rattle.slice_driver.proofs.abstraction.Lying.{accepted_in, refused_in}
use Rattle.slice_driver.proofs.commanding.Rooms.{few_arenas, few_entries}
use Rattle.slice_driver.proofs.abstraction.Phases.{placed_in}
use Rattle.slice_driver.proofs.commanding.PreparingCommands.{preparing_world, represents_wide, running_marking}

-- each arena has bits
sized_in : (c : CollectorState) (flown : ℕ → Option Bits) (w : World) → Represents c flown w
    → length c.heap.colours ≡ length c.heap.shape.arenas
sized_in c flown w (prepared rep) = rep.cleared.invariant.holds.colours.sized
sized_in c flown w (going rep) = sym (flown_length flown 0 c.heap.colours) ∙ rep.coloured.marks.holds.colours.sized

no_fewer : (h : HeapState) (o : Option ℕ) → length h.colours ≤ arenas_after h o
no_fewer h None = omega arith
no_fewer h (Some zone) = omega arith

-- the heap but for its colours and delayed cells
abbrev pub SameShape : HeapState → HeapState → Type 0
SameShape h k = k ≡ with_marks h k.colours k.delayed

same_then : (h k l : HeapState) → SameShape h k → SameShape k l → SameShape h l
same_then h k l a b = b ∙ ap (λ (z : HeapState). with_marks z l.colours l.delayed) a

pub same_sound : (h k : HeapState) → SameShape h k → answers.IsSound h → answers.IsSound k
same_sound h k same s = (s.0, subst (λ z. Shows z s.0) (sym same) (shows_coloured h k.colours k.delayed s.0 s.1))

pub sound_heap : (c : CollectorState) (flown : ℕ → Option Bits) → IsSound c flown → answers.IsSound c.heap
sound_heap c flown s =
    let lies = (placed_in c flown s.world s.represents).lies in
    (lies.graph, lies.shown)

room_in : (c : CollectorState) (flown : ℕ → Option Bits) (w : World) → Represents c flown w
    → 64 * length c.heap.colours ≤ c.lists.room
room_in c flown w (prepared rep) = rep.cleared.room
room_in c flown w (going rep) =
    let n = flown_length flown 0 c.heap.colours in
    let room = rep.coloured.gray.room in
    omega (arith, n, room)

pub sound_roomy : (c : CollectorState) (flown : ℕ → Option Bits) → IsSound c flown → IsRoomy c (length c.heap.colours)
sound_roomy c flown s = record { lists = room_in c flown s.world s.represents }

pub through_sound : (o : Option Place) (c d : CollectorState) (flown flying : ℕ → Option Bits)
    → GoesThrough o c flown d flying → answers.IsSound c.heap → answers.IsSound d.heap
through_sound o c d flown flying t s = same_sound c.heap d.heap (through_rest o c flown d flying t) s

-- heap, stack and lists stay, but for the room of the lists
pub wide_heap : (c d : CollectorState) → Widens c d → d.heap ≡ c.heap
wide_heap c d wide = ap (λ (e : CollectorState). e.heap) wide.rest

pub wide_sound : (c d : CollectorState) (flown : ℕ → Option Bits) → Widens c d → IsSound c flown
    → answers.IsSound d.heap
wide_sound c d flown wide s = subst answers.IsSound (sym (wide_heap c d wide)) (sound_heap c flown s)

-- where room is wanted, nothing was done
pub wide_words : (c d : CollectorState) → Widens c d → KeepsFreedWords c.heap.shape d.heap.shape
wide_words c d wide = same_words c.heap.shape d.heap.shape (ap (λ (h : HeapState). h.shape) (wide_heap c d wide))

pub wants_room : (c d : CollectorState) (flown : ℕ → Option Bits) (command : GraphCmd) → Widens c d
    → DoesCommand c flown command (Err fault.NoMemory) d flown
wants_room c d flown command wide w ok rep = (w, inl refl, represents_wide c d flown w wide rep)

-- and nothing more is to come
pub room_raises : (c d : CollectorState) (flown : ℕ → Option Bits) (command : GraphCmd) → Widens c d
    → RaisesWithin c flown command (Err fault.NoMemory) d flown
room_raises c d flown command wide =
    let same = widened_to_come c d flown wide in
    record { marking = λ w k ok rep at. omega (arith, same); preparing = λ w p ok rep at. omega (arith, same) }

pub where_err : {T E P : Type 0} (r : Result T E) → is_err r ≡ true → OnErr r P → P
where_err (Ok x) e p = absurd (cc e)
where_err (Err y) e p = p

-- where room is wanted, the command makes a cell, so it is not refused
pub room_wanted : (c d : CollectorState) (flown : ℕ → Option Bits) (command : GraphCmd) → Widens c d →
    ((g : GraphState) → Shows c.heap g → IsAccepted g command) → WantsMemory c flown command d flown
room_wanted c d flown command wide accepted = record {
  accepted = λ w ok rep. (let lies = (placed_in c flown w rep).lies in
      accepted_in w c.heap command ok lies (accepted lies.graph lies.shown));
  shape_is = ap (λ (h : HeapState). h.shape) (wide_heap c d wide);
  kept = λ plain. (wide, refl);
}

-- a plan stays one through barriers, and where room is made
pub through_plan : (o : Option Place) (c d : CollectorState) (flown flying : ℕ → Option Bits) (command : GraphCmd)
    (plan : Plan) → GoesThrough o c flown d flying → IsPlanOf c.heap command plan → IsPlanOf d.heap command plan
through_plan o c d flown flying command plan t is =
    subst (λ h. IsPlanOf h command plan) (sym (through_rest o c flown d flying t)) is

pub wide_plan : (c d : CollectorState) (command : GraphCmd) (plan : Plan) → Widens c d → IsPlanOf c.heap command plan
    → IsPlanOf d.heap command plan
wide_plan c d command plan wide is = subst (λ h. IsPlanOf h command plan) (sym (wide_heap c d wide)) is

-- and its change can be made
pub through_able : (o : Option Place) (c d : CollectorState) (flown flying : ℕ → Option Bits) (ch : Change)
    → GoesThrough o c flown d flying → IsAble c.heap.shape c.heap.made ch → IsAble d.heap.shape d.heap.made ch
through_able o c d flown flying ch t able =
    subst (λ (h : HeapState). IsAble h.shape h.made ch) (sym (through_rest o c flown d flying t)) able

pub wide_able : (c d : CollectorState) (ch : Change) → Widens c d → IsAble c.heap.shape c.heap.made ch
    → IsAble d.heap.shape d.heap.made ch
wide_able c d ch wide able = subst (λ (h : HeapState). IsAble h.shape h.made ch) (sym (wide_heap c d wide)) able

-- what the heap answers to a plan, as the collector hands it on
abbrev pub as_fault : {E : Type 0} → Result Reply E → Result Reply CmdFault
as_fault (Ok answer) = Ok answer
as_fault (Err why) = Err fault.NoMemory

ok_fault : {E : Type 0} (P : Reply → Type 0) (r : Result Reply E) → IfOk r P → IfOk (as_fault r) P
ok_fault P (Ok answer) p = p
ok_fault P (Err why) p = tt

err_fault : {E : Type 0} (P : Type 0) (r : Result Reply E) → OnErr r P → OnErr (as_fault r) P
err_fault P (Ok answer) p = tt
err_fault P (Err why) p = p

want_fault : {E : Type 0} (P : Type 0) (r : Result Reply E) → OnErr r P
    → IfErr (as_fault r) (λ (why : CmdFault). (why ≡ fault.NoMemory) × P)
want_fault P (Ok answer) p = tt
want_fault P (Err why) p = (refl, p)

where_fault : {E : Type 0} (P : Type 0) (r : Result Reply E) → OnErr r P → as_fault r ≡ Err fault.NoMemory → P
where_fault P (Ok answer) p is = absurd (cc is)
where_fault P (Err why) p is = p

none_left : {X : Type 0} (o : Option X) → (IsSome o → ⊥) → o ≡ None
none_left None none = refl
none_left (Some x) none = absurd (none refl)

-- what the parts of the call of a command do that is not refused: room is made, the plan's cells go through a barrier,
-- and its change is made
pub record IsPlanned (E : Type 0) (c d1 d2 d3 d4 d : CollectorState) (flown f1 f2 f3 : ℕ → Option Bits)
    (command : GraphCmd) (plan : Plan) (committed : Result Reply E) : Type 0 where
  pub sound : IsSound c flown
  pub apart : AreApart c.heap.shape.wrappers.lists
  pub few : HasFewFields command
  pub planned : IsPlanOf c.heap command plan
  pub able : IsAble c.heap.shape c.heap.made plan.change
  pub wide : Widens c d1
  pub roomy : IsRoomy d1 (arenas_after c.heap (made_by plan.change))
  pub first : GoesThrough plan.overwritten d1 flown d2 f1
  pub second : GoesThrough plan.wrapped d2 f1 d3 f2
  pub third : GoesThrough (handed_by plan.change) d3 f2 d4 f3
  pub rest : d ≡ record d4 { heap = d.heap }
  pub change : IfOk committed (λ answer. ChangesBy d4.heap plan.change answer d.heap)
  pub err : OnErr committed (d.heap ≡ d4.heap)
  pub wanted : OnErr committed (MayWant d4.heap.shape plan.change)

module _ (E : Type 0) (c d1 d2 d3 d4 d : CollectorState) (flown f1 f2 f3 : ℕ → Option Bits) (command : GraphCmd)
    (plan : Plan) (committed : Result Reply E)
    (p : IsPlanned E c d1 d2 d3 d4 d flown f1 f2 f3 command plan committed) where
  wide_same : SameShape c.heap d1.heap
  wide_same = subst (λ z. SameShape z d1.heap) (wide_heap c d1 p.wide) refl

  first_same : SameShape c.heap d2.heap
  first_same = same_then c.heap d1.heap d2.heap wide_same (through_rest plan.overwritten d1 flown d2 f1 p.first)

  second_same : SameShape c.heap d3.heap
  second_same = same_then c.heap d2.heap d3.heap first_same (through_rest plan.wrapped d2 f1 d3 f2 p.second)

  third_same : SameShape c.heap d4.heap
  third_same = same_then c.heap d3.heap d4.heap second_same (through_rest (handed_by plan.change) d3 f2 d4 f3 p.third)

  -- the plan is one of the heap in which the call begins, and of that to which it is committed
  abbrev first_plan : IsPlanIn c.heap command plan
  first_plan = planned-here c.heap command plan p.planned

  last_plan : IsPlanIn d4.heap command plan
  last_plan = planned-at c.heap d4.heap command plan third_same p.planned

  able_last : IsAble d4.heap.shape d4.heap.made plan.change
  able_last = subst (λ (h : HeapState). IsAble h.shape h.made plan.change) (sym third_same) p.able

  as_many : length d4.heap.colours ≡ length c.heap.colours
  as_many = p.third.sized ∙ (p.second.sized
      ∙ (p.first.sized ∙ ap (λ (z : HeapState). length z.colours) (wide_heap c d1 p.wide)))

  sized : length d4.heap.colours ≡ length d4.heap.shape.arenas
  sized = as_many ∙ (sized_in c flown p.sound.world p.sound.represents
      ∙ ap (λ (z : HeapState). length z.shape.arenas) (sym third_same))

  abbrev o : Option ℕ
  o = made_by plan.change

  after_same : (k : HeapState) (u : Option ℕ) → length k.colours ≡ length c.heap.colours → k.shape ≡ c.heap.shape
      → arenas_after k u ≡ arenas_after c.heap u
  after_same k None n s = n
  after_same k (Some zone) n s = λ i. n i + (if (next_place (s i) zone).0 == length (s i).arenas then 1 else 0)

  few : (r : Result Reply E) → IfOk r (λ answer. ChangesBy d4.heap plan.change answer d.heap)
      → OnErr r (d.heap ≡ d4.heap) → length d.heap.colours ≤ arenas_after c.heap o
  few (Ok answer) by e = subst (λ n. length d.heap.colours ≤ n)
      (after_same d4.heap o as_many (ap (λ (z : HeapState). z.shape) third_same))
      (few_arenas d4.heap d.heap sized d4.heap.made plan.change answer able_last by)
  few (Err why) by e =
      let n : length d.heap.colours ≡ length d4.heap.colours = ap (λ (z : HeapState). length z.colours) e in
      let least = no_fewer c.heap o in
      let m = as_many in
      omega (arith, n, m, least)

  lists_same : d.lists ≡ d1.lists
  lists_same = ap (λ (z : CollectorState). z.lists) p.rest
      ∙ (ap (λ (z : CollectorState). z.lists) p.third.rest
      ∙ (ap (λ (z : CollectorState). z.lists) p.second.rest ∙ ap (λ (z : CollectorState). z.lists) p.first.rest))

  pub run_after : d.run ≡ c.run
  run_after = ap (λ (z : CollectorState). z.run) p.rest
      ∙ (ap (λ (z : CollectorState). z.run) p.third.rest
      ∙ (ap (λ (z : CollectorState). z.run) p.second.rest
      ∙ (ap (λ (z : CollectorState). z.run) p.first.rest ∙ ap (λ (z : CollectorState). z.run) p.wide.rest)))

  -- as many cells are made as the command makes where it was called
  pub made_call : d.heap.made ≡ c.heap.made + cells_made c.heap command (as_fault committed)
  made_call = go committed p.change p.err
    where
      kept : d4.heap.made ≡ c.heap.made
      kept = ap (λ (h : HeapState). h.made) third_same

      go : (r : Result Reply E) → IfOk r (λ answer. ChangesBy d4.heap plan.change answer d.heap)
          → OnErr r (d.heap ≡ d4.heap) → d.heap.made ≡ c.heap.made + cells_made c.heap command (as_fault r)
      go (Ok answer) by same =
          made-cells d4.heap command plan last_plan answer d.heap by
          ∙ (ap (λ (n : ℕ). n + cells_made d4.heap command (Ok answer)) kept
          ∙ ap (λ (z : Option ℕ). c.heap.made + (if is_some z then 1 else 0)) (sym last_plan.made ∙ first_plan.made))
      go (Err why) by same =
          let n = ap (λ (h : HeapState). h.made) same in
          let m = kept in
          omega (arith, n, m)

  -- and edges are counted in the same ledger
  pub ledger_call : d.heap.ledger ≡ c.heap.ledger
  ledger_call = go committed p.change p.err ∙ ap (λ (h : HeapState). h.ledger) third_same
    where
      go : (r : Result Reply E) → IfOk r (λ answer. ChangesBy d4.heap plan.change answer d.heap)
          → OnErr r (d.heap ≡ d4.heap) → d.heap.ledger ≡ d4.heap.ledger
      go (Ok answer) by same = ledger_kept d4.heap d.heap plan.change answer by
      go (Err why) by same = ap (λ (h : HeapState). h.ledger) same

  pub entries_after : length d.heap.shape.weak.entries ≤ length c.heap.shape.weak.entries + 1
  entries_after = subst (λ (z : HeapState). length d.heap.shape.weak.entries ≤ length z.shape.weak.entries + 1)
      third_same (go committed p.change p.err)
    where
      go : (r : Result Reply E) → IfOk r (λ answer. ChangesBy d4.heap plan.change answer d.heap)
          → OnErr r (d.heap ≡ d4.heap)
          → length d.heap.shape.weak.entries ≤ length d4.heap.shape.weak.entries + 1
      go (Ok answer) by e = few_entries d4.heap d.heap plan.change answer by
      go (Err why) by e =
          let n : length d.heap.shape.weak.entries ≡ length d4.heap.shape.weak.entries =
          ap (λ (z : HeapState). length z.shape.weak.entries) e in
          omega (arith, n)

  -- an answer is no refusal
  pub answered_call : IfOk (as_fault committed) (λ answer. refusal_in answer ≡ None)
  answered_call = go committed p.change
    where
      go : (r : Result Reply E) → IfOk r (λ answer. ChangesBy d4.heap plan.change answer d.heap)
          → IfOk (as_fault r) (λ answer. refusal_in answer ≡ None)
      go (Ok answer) by =
          let lies = (placed_in c flown p.sound.world p.sound.represents).lies in
          let g = lies.graph in
          let shown : Shows d4.heap g = subst (λ z. Shows z g) (sym third_same)
          (shows_coloured c.heap d4.heap.colours d4.heap.delayed g lies.shown) in
          let step : DoesStep d4.heap command (Ok answer) d.heap = (last_plan.does p.few answer d.heap by).0 in
          let said = (step g shown).0 in
          ap refusal_in said.0 ∙ said.1
      go (Err why) by = tt

  -- out of memory comes only at a command that may take memory
  pub sure_call : takes_memory command ≡ false → as_fault committed ≡ Err fault.NoMemory → ⊥
  sure_call never wants =
      let some = last_plan.wants (where_fault (MayWant d4.heap.shape plan.change) committed p.wanted wants) in
      cc (never, some)

  -- where nothing is exposed, only room is made
  still : d.heap ≡ d4.heap → plan.overwritten ≡ None → plan.wrapped ≡ None → handed_by plan.change ≡ None
      → (d ≡ d1) × (f3 ≡ flown)
  still same no_old no_target no_given =
      let one = p.first.still no_old in
      let two = p.second.still no_target in
      let three = p.third.still no_given in (
        p.rest ∙ (ap (λ (h : HeapState). record d4 { heap = h }) same ∙ (three.0 ∙ (two.0 ∙ one.0))),
        three.1 ∙ (two.1 ∙ one.1),
      )

  -- then nothing was overwritten or handed out, and only a `wrap` exposed its target
  pub wanted_call : as_fault committed ≡ Err fault.NoMemory → WantsMemory c flown command d f3
  wanted_call wants = record {
    accepted = λ w ok rep. (let lies = (placed_in c flown w rep).lies in
        accepted_in w c.heap command ok lies (first_plan.accepted lies.graph lies.shown));
    shape_is = ap (λ (h : HeapState). h.shape) same ∙ ap (λ (h : HeapState). h.shape) third_same;
    kept = λ plain. (let after = still same old_none (first_plan.only_wraps plain) given_none in
        (subst (Widens c) (sym after.0) p.wide, after.1));
  }
    where
      same : d.heap ≡ d4.heap
      same = where_fault (d.heap ≡ d4.heap) committed p.err wants

      may : MayWant d4.heap.shape plan.change
      may = where_fault (MayWant d4.heap.shape plan.change) committed p.wanted wants

      old_none : plan.overwritten ≡ None
      old_none = last_plan.replaced ∙ none_left (overwritten_by d4.heap.shape plan.change)
          (λ some. overwritten-wants d4.heap.shape plan.change some may)

      given_none : handed_by plan.change ≡ None
      given_none = none_left (handed_by plan.change) (λ some. handed-wants d4.heap.shape plan.change some may)

  steps : CommandSteps c flown command (as_fault committed) d f3
  steps = record {
    wide = d1;
    widens = p.wide;
    plan = plan;
    planned = wide_plan c d1 command plan p.wide p.planned;
    able = wide_able c d1 plan.change p.wide p.able;
    few = p.few;
    apart = subst (λ (h : HeapState). AreApart h.shape.wrappers.lists) (sym (wide_heap c d1 p.wide)) p.apart;
    first = d2;
    first_flown = f1;
    old_through = p.first;
    second = d3;
    second_flown = f2;
    target_through = p.second;
    third = d4;
    handed_through = p.third;
    rest = p.rest;
    change = ok_fault (λ answer. ChangesBy d4.heap plan.change answer d.heap) committed p.change;
    err = err_fault (d.heap ≡ d4.heap) committed p.err;
    wanted = want_fault (MayWant d4.heap.shape plan.change) committed p.wanted;
    more_room = (let most = few committed p.change p.err in let room = p.roomy.lists in
        let same : d.lists.room ≡ d1.lists.room = ap (λ (l : Incoming). l.room) lists_same in
        omega (arith, most, room, same));
  }

  pub does_call : DoesCommand c flown command (as_fault committed) d f3
  does_call w ok (going rep) = answers_command c flown command (as_fault committed) d f3 steps w ok rep
  does_call w ok (prepared rep) = answers_preparing c flown command (as_fault committed) d f3 steps w ok rep

  -- what is to come rises by no more than the bound
  pub raises_call : AreEntries c.heap.shape.weak → AreParallel (weak_of c.heap)
      → RaisesWithin c flown command (as_fault committed) d f3
  raises_call sound parallel = record {
    marking = λ w k ok rep at. raises_marking c flown command (as_fault committed) d f3 steps sound parallel w ok
        (running_marking c flown w k ok at rep) k at;
    preparing = λ w q ok rep at. raises_preparing c flown command (as_fault committed) d f3 steps w ok
        (preparing_world c flown w q at rep);
  }

  -- what is freed of the arenas that are out stays the same
  pub words_call : KeepsFreedWords c.heap.shape d.heap.shape
  words_call = words_in p.sound.represents
    where
      words_in : Represents c flown p.sound.world → KeepsFreedWords c.heap.shape d.heap.shape
      words_in (going rep) = words_command c flown command (as_fault committed) d f3 steps p.sound.world p.sound.valid
          rep
      words_in (prepared rep) = words_preparing c flown command (as_fault committed) d f3 steps p.sound.world
          p.sound.valid rep

  -- no arena is handed out or taken in
  outs_call : (a : ℕ) → out_of d.heap.shape a ≡ out_of c.heap.shape a
  outs_call = outs_in p.sound.represents
    where
      outs_in : Represents c flown p.sound.world → (a : ℕ) → out_of d.heap.shape a ≡ out_of c.heap.shape a
      outs_in (going rep) = outs_command c flown command (as_fault committed) d f3 steps p.sound.world p.sound.valid rep
      outs_in (prepared rep) = outs_preparing c flown command (as_fault committed) d f3 steps p.sound.world
          p.sound.valid rep

  outs_last : (a : ℕ) → out_of d.heap.shape a ≡ out_of d4.heap.shape a
  outs_last a = outs_call a ∙ sym (ap (λ (h : HeapState). out_of h.shape a) third_same)

  -- so what the collector keeps besides it still keeps
  pub kept_call : (edges : Noted) (groups : List ZoneSet) (phase : Phase) → IsKept d4.heap.shape edges groups phase
      → IsKept d.heap.shape edges groups phase
  kept_call edges groups phase.Idle kept = tt
  kept_call edges groups (phase.Preparing zones uncleared) kept = tt
  kept_call edges groups (phase.Grouping zones ungrouped) kept = kept
  kept_call edges groups (phase.Grouped zones) kept = λ none rests. kept none (λ a. sym (outs_last a) ∙ rests a)

-- where a command is refused, nothing was done
pub refused_at : (c : CollectorState) (flown : ℕ → Option Bits) (command : GraphCmd) (why : Refusal)
    → IsRefused c.heap command why
    → DoesCommand c flown command (Err (fault.Refused why)) c flown
refused_at c flown command why is w ok rep =
    let step : DoesStep c.heap command (Err (fault.Refused why)) c.heap = does-refused c.heap command why is in
    ((refused_in w c.heap c.heap command why ok (placed_in c flown w rep).lies step).1, rep)

-- after a command the collector stands for some valid world, as before
pub command_sound : (c d : CollectorState) (flown flying : ℕ → Option Bits) (command : GraphCmd)
    (result : Result Reply CmdFault) → DoesCommand c flown command result d flying → IsSound c flown → IsSound d flying
command_sound c d flown flying command result does s = go result (does s.world s.valid s.represents)
  where
    go : (r : Result Reply CmdFault) → AnswersIn s.world command r d flying → IsSound d flying
    go (Ok answer) was = record {
      world = was.0;
      valid = command_valid s.world was.0 command answer s.valid was.1;
      represents = was.2;
    }
    go (Err (fault.Refused why)) was = record { world = s.world; valid = s.valid; represents = was.1 }
    go (Err fault.NoMemory) was = record {
      world = was.0;
      valid = wanted_valid s.world command was.0 s.valid was.1;
      represents = was.2;
    }

-- nothing changed where a command was refused
pub refused_raises : (c : CollectorState) (flown : ℕ → Option Bits) (command : GraphCmd) (why : Refusal)
    → RaisesWithin c flown command (Err (fault.Refused why)) c flown
refused_raises c flown command why =
    record { marking = λ w k ok rep at. omega arith; preparing = λ w p ok rep at. omega arith }

-- so a command that is refused keeps the promises of commands
pub refused_done : {S O : Type 0} (bits_of : S → ℕ → Option Bits) (origin_of : S → O) (c : CollectorState) (f : S)
    (command : GraphCmd) (why : Refusal) → IsRefused c.heap command why → IsSound c (bits_of f)
    → CommandDone bits_of origin_of c f command (Err (fault.Refused why)) c f
refused_done bits_of origin_of c f command why is sound = record {
  done = refused_at c (bits_of f) command why is;
  to_come = refused_raises c (bits_of f) command why;
  answered = tt;
  refused = λ other same. (refl, refl);
  wanted = λ wants. cc wants;
  sure = λ never wants. cc wants;
  sound = sound;
  words = λ a freed was. was;
  run = refl;
  origin = refl;
  made = omega arith;
  ledger = refl;
  entries = omega arith;
}

-- one for whose cell no room could be made
pub roomless_done : {S O : Type 0} (bits_of : S → ℕ → Option Bits) (origin_of : S → O) (c d : CollectorState) (f : S)
    (command : GraphCmd) → Widens c d → IsSound c (bits_of f)
    → ((g : GraphState) → Shows c.heap g → IsAccepted g command) → takes_memory command ≡ true
    → CommandDone bits_of origin_of c f command (Err fault.NoMemory) d f
roomless_done bits_of origin_of c d f command wide sound accepted takes =
    let heap_is = wide_heap c d wide in
    let done = wants_room c d (bits_of f) command wide in
    record {
      done = done;
      to_come = room_raises c d (bits_of f) command wide;
      answered = tt;
      refused = λ why is. cc is;
      wanted = λ wants. room_wanted c d (bits_of f) command wide accepted;
      sure = λ never wants. cc (never, takes);
      sound = command_sound c d (bits_of f) (bits_of f) command (Err fault.NoMemory) done sound;
      words = wide_words c d wide;
      run = ap (λ (x : CollectorState). x.run) wide.rest;
      origin = refl;
      made = (let same = ap (λ (h : HeapState). h.made) heap_is in omega (arith, same));
      ledger = ap (λ (h : HeapState). h.ledger) heap_is;
      entries = (let same = ap (λ (h : HeapState). length h.shape.weak.entries) heap_is in omega (arith, same));
    }

-- and one whose plan was carried out
pub planned_done : {S O : Type 0} {E : Type 0} (bits_of : S → ℕ → Option Bits) (origin_of : S → O) (f f1 f2 g : S)
    (c d1 d2 d3 d4 d : CollectorState) (command : GraphCmd) (plan : Plan) (committed : Result Reply E)
    → IsPlanned E c d1 d2 d3 d4 d (bits_of f) (bits_of f1) (bits_of f2) (bits_of g) command plan committed
    → AreEntries c.heap.shape.weak → AreParallel (weak_of c.heap) → origin_of g ≡ origin_of f
    → CommandDone bits_of origin_of c f command (as_fault committed) d g
planned_done bits_of origin_of f f1 f2 g c d1 d2 d3 d4 d command plan committed p entries parallel origin =
    let done = does_call _ c d1 d2 d3 d4 d (bits_of f) (bits_of f1) (bits_of f2) (bits_of g) command plan committed p in
    record {
      done = done;
      to_come = raises_call _ c d1 d2 d3 d4 d (bits_of f) (bits_of f1) (bits_of f2) (bits_of g) command plan committed p
          entries parallel;
      answered = answered_call _ c d1 d2 d3 d4 d (bits_of f) (bits_of f1) (bits_of f2) (bits_of g) command plan
          committed p;
      refused = λ why is. absurd (never_refused committed why is);
      wanted = wanted_call _ c d1 d2 d3 d4 d (bits_of f) (bits_of f1) (bits_of f2) (bits_of g) command plan committed p;
      sure = sure_call _ c d1 d2 d3 d4 d (bits_of f) (bits_of f1) (bits_of f2) (bits_of g) command plan committed p;
      sound = command_sound c d (bits_of f) (bits_of g) command (as_fault committed) done p.sound;
      words = words_call _ c d1 d2 d3 d4 d (bits_of f) (bits_of f1) (bits_of f2) (bits_of g) command plan committed p;
      run = run_after _ c d1 d2 d3 d4 d (bits_of f) (bits_of f1) (bits_of f2) (bits_of g) command plan committed p;
      origin = origin;
      ledger = ledger_call _ c d1 d2 d3 d4 d (bits_of f) (bits_of f1) (bits_of f2) (bits_of g) command plan committed
          p;
      made = made_call _ c d1 d2 d3 d4 d (bits_of f) (bits_of f1) (bits_of f2) (bits_of g) command plan committed p;
      entries = entries_after _ c d1 d2 d3 d4 d (bits_of f) (bits_of f1) (bits_of f2) (bits_of g) command plan
          committed p;
    }
  where
    never_refused : {E : Type 0} (r : Result Reply E) (why : Refusal) → as_fault r ≡ Err (fault.Refused why) → ⊥
    never_refused (Ok answer) why is = cc is
    never_refused (Err other) why is = cc is
