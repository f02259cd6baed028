-- Commands on weak slots and watched cells, by what the heap answers with cells delayed: names alone change.
use Rattle.std.proofs.Common.{◌≡◌, ℕ, List, Option, Some, None, Result, Ok, Err, sym, ap, subst, ◌∙◌}
use Rattle.gz_names.specs.declared.numbers.Place.{Place}
use Rattle.gz_names.specs.declared.commands.WeakCmd.TheVariants as cmd
use Rattle.gz_names.specs.declared.replies.CmdFault.{CmdFault}
use Rattle.gz_names.specs.declared.replies.Reply.{Reply}
use Rattle.gz_names.specs.declared.replies.Reply.TheVariants as reply
use Rattle.gz_names.specs.declared.zone_sets.ZoneSet.{ZoneSet}
use Rattle.cell_bits.specs.declared.bits.Bits.{Bits}
use Rattle.weak_refs.specs.WeakNames as names
use Rattle.weak_refs.specs.WeakNames.{WeakNamesState}
use Rattle.heap_core.specs.Heap.{HeapState, reg_of, without_delayed}
use Rattle.heap_core.specs.WeakNames.{Unwatches, Watches, with_weak_slot}
use Rattle.zone_edges.specs.Noted.{Noted}
use Rattle.slice_driver.specs.Collector.{CollectorState, IsKept}
use Rattle.slice_driver.specs.declared.collector.Phase.{Phase}
use Rattle.slice_driver.specs.Units.{IsSound}
use Rattle.slice_driver.specs.WeakCommands.{WeakCommandDone}
use Rattle.slice_driver.proofs.abstraction.Renaming.{naming}
use Rattle.slice_driver.proofs.commanding.WeakCommands.{unwatch_done, watch_done, weaken_done}

-- what the heap says is said of it without its delayed cells
watches_viewed : (m : HeapState) (o : Option Place) (result : Result Reply CmdFault) (new : HeapState)
    → Watches m o result new → Watches (without_delayed m) o result (without_delayed new)
watches_viewed m None result new by = (by.0, ap without_delayed by.1)
watches_viewed m (Some p) (Ok answer) new by = (by.0, ap without_delayed by.1)
watches_viewed m (Some p) (Err why) new by = (by.0, ap without_delayed by.1, by.2)

unwatches_viewed : (m : HeapState) (o : Option Place) (result : Result Reply CmdFault) (new : HeapState)
    → Unwatches m o result new → Unwatches (without_delayed m) o result (without_delayed new)
unwatches_viewed m None result new by = (by.0, ap without_delayed by.1)
unwatches_viewed m (Some p) result new by = (by.0, ap without_delayed by.1)

-- names alone change
pub watches_names : (m : HeapState) (o : Option Place) (result : Result Reply CmdFault) (new : HeapState)
    → Watches m o result new → (ns : WeakNamesState) × (new ≡ record m { weak_names = ns })
watches_names m None result new by = (m.weak_names, by.1)
watches_names m (Some p) (Ok answer) new by = (names.with_watched m.weak_names p, by.1)
watches_names m (Some p) (Err why) new by = (m.weak_names, by.1)

pub unwatches_names : (m : HeapState) (o : Option Place) (result : Result Reply CmdFault) (new : HeapState)
    → Unwatches m o result new → (ns : WeakNamesState) × (new ≡ record m { weak_names = ns })
unwatches_names m None result new by = (m.weak_names, by.1)
unwatches_names m (Some p) result new by = (names.without_watched m.weak_names p, by.1)

-- what a collector keeps besides is not of names
pub kept_names : (m new : HeapState) (ns : WeakNamesState) (edges : Noted) (groups : List ZoneSet) (p : Phase)
    → new ≡ record m { weak_names = ns } → IsKept m.shape edges groups p → IsKept new.shape edges groups p
kept_names m new ns edges groups p is kept =
    subst (λ (h : HeapState). IsKept h.shape edges groups p) (sym is) kept

-- a collector as it is seen by its heap with cells delayed, of which names alone change
pub record SeenBy (old : CollectorState) : Type 0 where
  pub seen : HeapState → CollectorState
  pub heap : HeapState
  pub view_is : seen heap ≡ old
  pub here : without_delayed heap ≡ old.heap
  pub alike : (ns : WeakNamesState) → seen (record heap { weak_names = ns }) ≡ naming (seen heap) ns

module _ {S O : Type 0} (bits_of : S → ℕ → Option Bits) (origin_of : S → O) (old : CollectorState) (f : S)
    (sound : IsSound old (bits_of f)) (v : SeenBy old) where
  seen_as : (new : HeapState) (ns : WeakNamesState) → new ≡ record v.heap { weak_names = ns }
      → v.seen new ≡ record old { heap = without_delayed new }
  seen_as new ns is = ap v.seen is ∙ (v.alike ns ∙ (ap (λ (c : CollectorState). naming c ns) v.view_is
      ∙ sym (ap (λ (h : HeapState). record old { heap = h })
      (ap without_delayed is ∙ ap (λ (h : HeapState). record h { weak_names = ns }) v.here))))

  pub weaken_arm : (new : HeapState) (q r : ℕ) → new ≡ with_weak_slot v.heap q (reg_of v.heap r)
      → WeakCommandDone bits_of origin_of old f (cmd.Weaken q r) (Ok reply.Accepted) (v.seen new) f
  weaken_arm new q r weakens =
      let left : v.seen new ≡ naming old (names.with_slot old.heap.weak_names q (reg_of old.heap r)) =
      seen_as new (names.with_slot v.heap.weak_names q (reg_of v.heap r)) weakens
      ∙ ap (λ (h : HeapState). record old { heap = h })
      (ap without_delayed weakens ∙ ap (λ (h : HeapState). with_weak_slot h q (reg_of h r)) v.here) in
      subst (λ (d : CollectorState). WeakCommandDone bits_of origin_of old f (cmd.Weaken q r) (Ok reply.Accepted) d f)
      (sym left) (weaken_done bits_of origin_of old f sound q r)

  pub watch_arm : (result : Result Reply CmdFault) (new : HeapState) (r : ℕ)
      → Watches v.heap (reg_of v.heap r) result new
      → WeakCommandDone bits_of origin_of old f (cmd.Watch r) result (v.seen new) f
  watch_arm result new r by =
      let changed = watches_names v.heap (reg_of v.heap r) result new by in
      subst (λ (d : CollectorState). WeakCommandDone bits_of origin_of old f (cmd.Watch r) result d f)
      (sym (seen_as new changed.0 changed.1))
      (watch_done bits_of origin_of old f sound r result (without_delayed new)
      (subst (λ (h : HeapState). Watches h (reg_of h r) result (without_delayed new)) v.here
      (watches_viewed v.heap (reg_of v.heap r) result new by)))

  pub unwatch_arm : (result : Result Reply CmdFault) (new : HeapState) (r : ℕ)
      → Unwatches v.heap (reg_of v.heap r) result new
      → WeakCommandDone bits_of origin_of old f (cmd.Unwatch r) result (v.seen new) f
  unwatch_arm result new r by =
      let changed = unwatches_names v.heap (reg_of v.heap r) result new by in
      subst (λ (d : CollectorState). WeakCommandDone bits_of origin_of old f (cmd.Unwatch r) result d f)
      (sym (seen_as new changed.0 changed.1))
      (unwatch_done bits_of origin_of old f sound r result (without_delayed new)
      (subst (λ (h : HeapState). Unwatches h (reg_of h r) result (without_delayed new)) v.here
      (unwatches_viewed v.heap (reg_of v.heap r) result new by)))
