use Rattle.std.proofs.Common.{◌≡◌, ◌<◌, ◌≤◌, ℕ, Bool, Option, None, Some, false, List, IsSome}
use Rattle.std.proofs.Common.{if◌then◌else◌, sym, ap, subst, ◌∙◌, arith, rules}
use Rattle.std.proofs.lemmas.Nat.{or_lt}
use Rattle.gz_names.specs.declared.names.Name.{Name}
use Rattle.gz_names.specs.declared.replies.Report.{Report}
use Rattle.gz_names.specs.declared.replies.Report.TheVariants as report
use Rattle.cell_bits.specs.declared.bits.Bits.{Bits as ABits}
use Rattle.heap_core.specs.Shape.{out_of}
use Rattle.mark_stack.specs.Stack.{Piles}
use Rattle.heap_core.specs.Heap.{HeapState, without_delayed}
use Rattle.barriers.specs.Pending.{pending}
use Rattle.heap_core.specs.Sweeping.{with_taken}
use Rattle.slice_driver.specs.Advancing.{EndsSweeping}
use Rattle.slice_driver.specs.Collector.{CollectorState, IsKept}
use Rattle.slice_driver.specs.Sweeping.{AreFreed, FitsWords}
use Rattle.slice_driver.specs.declared.collector.Phase.{Phase}
use Rattle.slice_driver.specs.declared.collector.Phase.TheVariants as phase
use Rattle.slice_driver.specs.Units.{DoesUnit, IsFreedWord, IsLowestOut, IsSound, IsSoundMarking, KeepsFreedWords}
use Rattle.slice_driver.specs.Units.{reports_of, without_arena}
use Rattle.slice_driver.proofs.abstraction.Named.{some_one}
use Rattle.slice_driver.proofs.abstraction.Phases.{none_out, sound_marking}
use Rattle.slice_driver.proofs.abstraction.SoundAfter.{unit_sound}
use Rattle.slice_driver.proofs.taking_in.TakingIn.{takes_unit}
use Rattle.slice_driver.specs.Left.{units_left}
use Rattle.slice_driver.specs.UnitsToCome.{units_to_come}
use Rattle.slice_driver.specs.contracts.collector.Collector.{the_view}
use Rattle.slice_driver.proofs.measure.FewerTaken.{taking_lowers, taking_to_come}
use Rattle.slice_driver.proofs.taking_in.Kept.{more_left, words_both, words_rest, words_taken}
use Rattle.slice_driver.proofs.marking.Views.{ends_seen, taken_pending}
use Rattle.slice_driver.proofs.collector.Collector.take_one_into.Goals as goal

pub invariant_of-self-else-finished : goal.invariant_of-self-else-finished
invariant_of-self-else-finished c = go c.self.inside.phase c.if-finished.ensures c.self.invariant
  where
    go : (p : Phase)
        → EndsSweeping c.report_arena.new.heap c.self.inside.order false c.end_sweeping-finished.new.heap
        → IsKept c.self.inside.heap.shape c.self.inside.edges c.self.inside.order p
        → IsKept c.end_sweeping-finished.new.heap.shape c.self.inside.edges c.self.inside.order p
    go phase.Idle ends kept = tt
    go (phase.Preparing zones uncleared) ends kept = tt
    go (phase.Grouping zones ungrouped) ends kept = kept
    go (phase.Grouped zones) ends kept = λ empty none. more_left c.report_arena.new.heap c.self.inside.order
        c.end_sweeping-finished.new.heap ends empty none

module _ (v old : CollectorState) (is : v ≡ old) (a freed : ℕ) (bits : ABits) (k : HeapState) (over : Bool)
    (ends : EndsSweeping (with_taken v.heap a freed bits) v.groups over k) (new : CollectorState)
    (new_is : record v { heap = k; run = if over then None else v.run } ≡ new) (flown : ℕ → Option ABits)
    (at : flown a ≡ Some bits) (lowest : IsLowestOut old.heap.shape a) (running : IsSome old.run) where
  one_done : (names : List Name) (r : Option Report) → r ≡ Some (report.Swept a names) → (kept : ABits)
      → out_of v.heap.shape a ≡ Some kept → FitsWords kept → IsFreedWord old.heap.shape a freed
      → AreFreed v.heap.shape a freed names → DoesUnit old flown (reports_of r over) new (without_arena flown a)
  one_done names r told kept kept_is fit freed_is listed =
      let fits : (b : ABits) → out_of v.heap.shape a ≡ Some b → FitsWords b =
      λ b e. subst (λ (x : ABits). FitsWords x) (some_one _ _ (sym kept_is ∙ e)) fit in
      let unit = takes_unit v flown a freed bits names (record {
        bits_are = at;
        lowest = subst (λ (x : CollectorState). IsLowestOut x.heap.shape a) (sym is) lowest;
        freed_is = subst (λ (x : CollectorState). IsFreedWord x.heap.shape a freed) (sym is) freed_is;
        running = subst (λ (x : CollectorState). IsSome x.run) (sym is) running;
        fits = fits;
        listed = listed;
      }) k over ends in
      subst (λ (x : Option Report). DoesUnit old flown (reports_of x over) new (without_arena flown a)) (sym told)
      (subst (λ (x : CollectorState). DoesUnit x flown (reports_of (Some (report.Swept a names)) over) new
      (without_arena flown a)) is
      (subst (λ (x : CollectorState). DoesUnit v flown (reports_of (Some (report.Swept a names)) over) x
      (without_arena flown a)) new_is unit))

  -- while an arena is out marking has begun
  marking_sound : IsSound v flown → IsSoundMarking v flown
  marking_sound sound = sound_marking v flown
      (λ w. none_out v flown w a (subst (λ (x : CollectorState). IsLowestOut x.heap.shape a) (sym is) lowest).out) sound

  one_left : IsSound old flown → units_left new (without_arena flown a) < units_left old flown
  one_left sound =
      let less = taking_lowers v flown a freed bits at
      (subst (λ (x : CollectorState). IsLowestOut x.heap.shape a) (sym is) lowest)
      (subst (λ (x : CollectorState). IsSome x.run) (sym is) running)
      (marking_sound (subst (λ (x : CollectorState). IsSound x flown) (sym is) sound))
      k over ends in
      subst (λ (x : CollectorState). units_left new (without_arena flown a) < units_left x flown) is
      (subst (λ (x : CollectorState). units_left x (without_arena flown a) < units_left v flown) new_is less)

  one_to_come : IsSound old flown → units_to_come new (without_arena flown a) ≤ units_to_come old flown
  one_to_come sound =
      let less = taking_to_come v flown a freed bits at
      (subst (λ (x : CollectorState). IsLowestOut x.heap.shape a) (sym is) lowest)
      (subst (λ (x : CollectorState). IsSome x.run) (sym is) running)
      (marking_sound (subst (λ (x : CollectorState). IsSound x flown) (sym is) sound))
      k over ends in
      subst (λ (x : CollectorState). units_to_come new (without_arena flown a) ≤ units_to_come x flown) is
      (subst (λ (x : CollectorState). units_to_come x (without_arena flown a) ≤ units_to_come v flown) new_is less)

one_words : (v old : CollectorState) (is : v ≡ old) (a freed : ℕ) (bits : ABits) (k : HeapState) (over : Bool)
    → EndsSweeping (with_taken v.heap a freed bits) v.groups over k → KeepsFreedWords old.heap.shape k.shape
one_words v old is a freed bits k over ends =
    let h : HeapState = with_taken v.heap a freed bits in
    subst (λ (x : CollectorState). KeepsFreedWords x.heap.shape k.shape) is
    (words_both v.heap.shape h.shape k.shape (words_taken v.heap a freed bits) (words_rest h k ends.rest))

pub returns-then-finished-clause-takes : goal.returns-then-finished-clause-takes
returns-then-finished-clause-takes c =
    let v : CollectorState = the_view c.self.inside in
    let old : CollectorState = c.args.self.now in
    let k : HeapState = c.end_sweeping-finished.new.heap in
    let now : HeapState = without_delayed k in
    let over : Bool = c.end_sweeping-finished.result in
    let piles : Piles = pending k c.self.inside.stack in
    let new : CollectorState = record v { heap = now; stack = piles; run = None } in
    let kept : ABits = c.bits_at_hand_out-kept.result in
    let ends = ends_seen _ c.self.inside.order over k
    (subst (λ (h : HeapState). EndsSweeping h c.self.inside.order over k) c.report_arena.ensures.state
    c.end_sweeping-finished.ensures) in
    let piles_are : v.stack ≡ piles = taken_pending c.self.inside.heap c.report_arena.new.heap k c.args.arena
    c.args.taken.freed c.args.taken.bits c.self.inside.order over c.report_arena.ensures.state
    c.end_sweeping-finished.ensures c.self.inside.stack in
    let new_is : record v { heap = now; run = if over then None else v.run } ≡ new =
    ap (λ (p : Piles). record v { heap = now; stack = p; run = if over then None else v.run }) piles_are
    ∙ ap (λ (b : Bool). record v { heap = now; stack = piles; run = if b then None else v.run })
    c.if-finished.true in
    let done : (flown : ℕ → Option ABits) → flown c.args.arena ≡ Some c.args.taken.bits
    → DoesUnit old flown (reports_of c.report_arena.new.report over) new (without_arena flown c.args.arena) =
    λ flown at. one_done v old c.self.view_is c.args.arena c.args.taken.freed c.args.taken.bits now over ends new new_is
    flown at c.requires.lowest c.requires.running c.report_arena.ensures.told.0 c.report_arena.new.report
    c.report_arena.ensures.told.1 kept c.bits_at_hand_out-kept.ensures
    (or_lt 64 kept.black kept.gob (omega arith) (omega arith)) c.requires.freed c.report_arena.ensures.told.2 in
    record {
      done = done;
      sound = λ flown s at. unit_sound old new flown (without_arena flown c.args.arena) _ (done flown at) s;
      words = one_words v old c.self.view_is c.args.arena c.args.taken.freed c.args.taken.bits now over ends;
      left = λ flown sound at. one_left v old c.self.view_is c.args.arena c.args.taken.freed c.args.taken.bits now over
          ends new new_is flown at c.requires.lowest c.requires.running sound;
      to_come = λ flown sound at. one_to_come v old c.self.view_is c.args.arena c.args.taken.freed c.args.taken.bits now
          over ends new new_is flown at c.requires.lowest c.requires.running sound;
      finished = search rules;
      made = search rules;
      ledger = search rules;
      weak = search rules;
    }

pub returns-else-finished-clause-takes : goal.returns-else-finished-clause-takes
returns-else-finished-clause-takes c =
    let v : CollectorState = the_view c.self.inside in
    let old : CollectorState = c.args.self.now in
    let k : HeapState = c.end_sweeping-finished.new.heap in
    let now : HeapState = without_delayed k in
    let over : Bool = c.end_sweeping-finished.result in
    let piles : Piles = pending k c.self.inside.stack in
    let new : CollectorState = record v { heap = now; stack = piles; run = v.run } in
    let kept : ABits = c.bits_at_hand_out-kept.result in
    let ends = ends_seen _ c.self.inside.order over k
    (subst (λ (h : HeapState). EndsSweeping h c.self.inside.order over k) c.report_arena.ensures.state
    c.end_sweeping-finished.ensures) in
    let piles_are : v.stack ≡ piles = taken_pending c.self.inside.heap c.report_arena.new.heap k c.args.arena
    c.args.taken.freed c.args.taken.bits c.self.inside.order over c.report_arena.ensures.state
    c.end_sweeping-finished.ensures c.self.inside.stack in
    let new_is : record v { heap = now; run = if over then None else v.run } ≡ new =
    ap (λ (p : Piles). record v { heap = now; stack = p; run = if over then None else v.run }) piles_are
    ∙ ap (λ (b : Bool). record v { heap = now; stack = piles; run = if b then None else v.run })
    c.if-finished.false in
    let done : (flown : ℕ → Option ABits) → flown c.args.arena ≡ Some c.args.taken.bits
    → DoesUnit old flown (reports_of c.report_arena.new.report over) new (without_arena flown c.args.arena) =
    λ flown at. one_done v old c.self.view_is c.args.arena c.args.taken.freed c.args.taken.bits now over ends new new_is
    flown at c.requires.lowest c.requires.running c.report_arena.ensures.told.0 c.report_arena.new.report
    c.report_arena.ensures.told.1 kept c.bits_at_hand_out-kept.ensures
    (or_lt 64 kept.black kept.gob (omega arith) (omega arith)) c.requires.freed c.report_arena.ensures.told.2 in
    record {
      done = done;
      sound = λ flown s at. unit_sound old new flown (without_arena flown c.args.arena) _ (done flown at) s;
      words = one_words v old c.self.view_is c.args.arena c.args.taken.freed c.args.taken.bits now over ends;
      left = λ flown sound at. one_left v old c.self.view_is c.args.arena c.args.taken.freed c.args.taken.bits now over
          ends new new_is flown at c.requires.lowest c.requires.running sound;
      to_come = λ flown sound at. one_to_come v old c.self.view_is c.args.arena c.args.taken.freed c.args.taken.bits now
          over ends new new_is flown at c.requires.lowest c.requires.running sound;
      finished = search rules;
      made = search rules;
      ledger = search rules;
      weak = search rules;
    }

pub returns-then-finished-clause-told : goal.returns-then-finished-clause-told
returns-then-finished-clause-told c = (c.report_arena.ensures.told.0, c.report_arena.ensures.told.1)

pub returns-else-finished-clause-told : goal.returns-else-finished-clause-told
returns-else-finished-clause-told c = (c.report_arena.ensures.told.0, c.report_arena.ensures.told.1)
