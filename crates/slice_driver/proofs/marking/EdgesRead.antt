-- How many edges units read, and what stays of the gray cells outside marking zones.
use Rattle.std.proofs.Common.{◌≡◌, ◌∙◌, ◌≤◌, ℕ, false, ap, Option, Result, Ok, Err, IfOk, arith}
use Rattle.gz_names.specs.declared.replies.Report.{Report}
use Rattle.cell_bits.specs.declared.bits.Bits.{Bits}
use Rattle.sweeping.specs.ArenasOut.{flying_after}
use Rattle.heap_core.specs.Heap.{HeapState}
use Rattle.barriers.specs.Colours.{grays_outside}
use Rattle.slice_driver.specs.Advances.{tells_start}
use Rattle.slice_driver.specs.Collector.{CollectorState, heap_with}
use Rattle.slice_driver.specs.EdgesRead.{ReadsFew, UnitsReadFew}
use Rattle.slice_driver.specs.Working.{IsStill}
use Rattle.slice_driver.specs.declared.advance.Step.{Step}

-- where nothing was done, as many are gray
pub still_grays : (c : CollectorState) (f : ℕ → Option Bits) (d : CollectorState) (g : ℕ → Option Bits)
    → IsStill c f d g → grays_outside (heap_with d g) ≡ grays_outside (heap_with c f)
still_grays c f d g still = ap (λ (x : CollectorState). grays_outside (heap_with x g)) still.same
    ∙ ap grays_outside still.colours

-- this number of units that report nothing read few
pub quiet_reads : (n read now : ℕ) (h k : HeapState) → ReadsFew n read h now k → UnitsReadFew n read h now k
quiet_reads n read now h k few = omega (arith, few)

-- a step that reads none
pub ok_reads : {E : Type 0} (r : Result Step E) (read before now : ℕ) (h : HeapState) (d : CollectorState)
    (f : ℕ → Option Bits) (place : Option Report) → before ≤ read
    → IfOk r (λ (step : Step). tells_start step place ≡ false → now ≡ before)
    → IfOk r (λ (step : Step). tells_start step place ≡ false
    → UnitsReadFew step.units read h now (heap_with d (flying_after step.handed f)))
ok_reads (Ok step) read before now h d f place none same = λ other.
    let kept = same other in
    omega (arith, none, kept)
ok_reads (Err why) read before now h d f place none same = tt
