-- What a `deref` asks and does, from what its calls promise.
use Rattle.std.proofs.Common.{◌≡◌, ℕ, List, Option, None, Result, Ok, Err, IfOk, OnErr, true, sym, ap, subst, ◌∙◌}
use Rattle.std.specs.Option.{ForSome}
use Rattle.gz_names.specs.declared.numbers.Place.{Place}
use Rattle.gz_names.specs.declared.replies.Reply.{Reply}
use Rattle.gz_names.specs.declared.zone_sets.ZoneSet.{ZoneSet}
use Rattle.cell_bits.specs.declared.bits.Bits.{Bits}
use Rattle.colour_defs.specs.Step.{named_or_null}
use Rattle.colour_defs.proofs.Lists.{get_contains}
use Rattle.heap_core.specs.declared.plans.Change.{Change}
use Rattle.heap_core.specs.declared.plans.Change.TheVariants as change
use Rattle.heap_core.specs.declared.plans.Plan.{Plan}
use Rattle.heap_core.specs.Heap.{HeapState, with_reg, without_delayed}
use Rattle.heap_core.specs.Plans.{ChangesBy, IsAble, MayWant, handed_by}
use Rattle.heap_core.specs.Shape.{IsPresent, Shape, held_name}
use Rattle.heap_core.specs.WeakNames.{weak_slot_of}
use Rattle.zone_edges.specs.Noted.{Noted}
use Rattle.slice_driver.specs.Collector.{CollectorState, IsKept}
use Rattle.slice_driver.specs.declared.collector.Phase.{Phase}
use Rattle.slice_driver.specs.declared.collector.Phase.TheVariants as phase
use Rattle.slice_driver.specs.Steps.{GoesThrough}
use Rattle.slice_driver.specs.Units.{IsSound}
use Rattle.slice_driver.specs.WeakCommands.{Derefs}
use Rattle.slice_driver.proofs.abstraction.Renaming.{lies_of}

-- what a weak slot names is present
pub slot_there : (c : CollectorState) (flown : ℕ → Option Bits) → IsSound c flown → (q : ℕ)
    → ForSome (weak_slot_of c.heap q) (IsPresent c.heap.shape)
slot_there c flown s q p e = (lies_of c flown s.world s.represents).weak_are.slots_held p
    (get_contains c.heap.weak_names.slots q p e)

-- registers are none of what a collector keeps besides
pub kept_registers : (s : Shape) (regs : List (Option Place)) (edges : Noted) (groups : List ZoneSet) (p : Phase)
    → IsKept s edges groups p → IsKept (record s { regs = regs }) edges groups p
kept_registers s regs edges groups phase.Idle kept = tt
kept_registers s regs edges groups (phase.Preparing zones uncleared) kept = tt
kept_registers s regs edges groups (phase.Grouping zones ungrouped) kept = kept
kept_registers s regs edges groups (phase.Grouped zones) kept = kept

-- the plan of a deref of a collector, by its heap with cells delayed
pub record PlansDeref (old : CollectorState) : Type 0 where
  pub heap : HeapState
  pub here : without_delayed heap ≡ old.heap
  pub r : ℕ
  pub q : ℕ
  pub plan : Plan
  pub is : plan ≡ record {
    overwritten = None;
    wrapped = None;
    change = change.Register r (weak_slot_of heap q) true;
  }

module _ (old : CollectorState) (p : PlansDeref old) where
  change_is : p.plan.change ≡ change.Register p.r (weak_slot_of old.heap p.q) true
  change_is = ap (λ (x : Plan). x.change) p.is
      ∙ ap (λ (h : HeapState). change.Register p.r (weak_slot_of h p.q) true) p.here

  -- it hands out what the slot names
  pub handed_is : handed_by p.plan.change ≡ weak_slot_of old.heap p.q
  handed_is = ap handed_by change_is

  -- and wants no memory
  pub none_wanted : (s : Shape) → MayWant s p.plan.change → ⊥
  none_wanted s wants = subst (MayWant s) change_is wants

  -- its change is one of registers
  by_register : (n new : HeapState) (answer : Reply) → ChangesBy n p.plan.change answer new
      → ChangesBy n (change.Register p.r (weak_slot_of old.heap p.q) true) answer new
  by_register n new answer changed = subst (λ (ch : Change). ChangesBy n ch answer new) change_is changed

  pub registers_after : {E : Type 0} (n new : HeapState) (result : Result Reply E)
      → IfOk result (λ answer. ChangesBy n p.plan.change answer new) → OnErr result (new ≡ n)
      → (regs : List (Option Place)) × (new.shape ≡ record n.shape { regs = regs })
  registers_after n new (Ok answer) changed err = (
    (with_reg n p.r (weak_slot_of old.heap p.q)).shape.regs,
    ap (λ (h : HeapState). h.shape) (by_register n new answer changed).0,
  )
  registers_after n new (Err why) changed err = (n.shape.regs, ap (λ (h : HeapState). h.shape) err)

-- what it hands out went through a barrier, and this is the heap then
pub record HandsOver (old : CollectorState) (flown : ℕ → Option Bits) (plan : Plan) : Type 0 where
  pub handed : Option Place
  pub is : handed ≡ handed_by plan.change
  pub between : CollectorState
  pub flying : ℕ → Option Bits
  pub through : GoesThrough handed old flown between flying
  pub heap : HeapState
  pub now : without_delayed heap ≡ between.heap

module _ (old : CollectorState) (flown : ℕ → Option Bits) (p : PlansDeref old) (o : HandsOver old flown p.plan) where
  same_shape : o.heap.shape ≡ old.heap.shape
  same_shape = ap (λ (h : HeapState). h.shape) o.now ∙ ap (λ (h : HeapState). h.shape) o.through.heap_is

  -- its change may be made
  pub deref_able : IsSound old flown → IsAble o.heap.shape o.heap.made p.plan.change
  deref_able sound = subst (IsAble o.heap.shape o.heap.made) (sym (change_is old p))
      (λ x e. subst (λ (s : Shape). IsPresent s x) (sym same_shape) (slot_there old flown sound p.q x e))

  -- and once it is made, the slot was read
  pub derefs_by : (answer : Reply) (new : HeapState) (d : CollectorState)
      → d ≡ record o.between { heap = without_delayed new } → ChangesBy o.heap p.plan.change answer new
      → Derefs old flown p.r p.q answer d o.flying
  derefs_by answer new d rest changed =
      let by = by_register old p o.heap new answer changed in
      record {
        between = o.between;
        through = subst (λ (x : Option Place). GoesThrough x old flown o.between o.flying) (o.is ∙ handed_is old p)
            o.through;
        rest = rest ∙ ap (λ (h : HeapState). record o.between { heap = h })
            (ap without_delayed by.0 ∙ ap (λ (h : HeapState). with_reg h p.r (weak_slot_of old.heap p.q)) o.now);
        answer_is = by.1
            ∙ ap (λ (s : Shape). named_or_null (held_name s (weak_slot_of old.heap p.q))) same_shape;
      }
