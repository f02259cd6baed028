-- A step of a reset.
use Rattle.std.proofs.Common.{◌≡◌, ℕ, Bool, true, List, length, Option, Some, None, sym, subst, ap, ◌∙◌, arith}
use Rattle.gz_names.specs.declared.replies.Report.{Report}
use Rattle.gz_names.specs.declared.replies.Report.TheVariants as report
use Rattle.gz_names.specs.declared.zone_sets.ZoneSet.{ZoneSet}
use Rattle.cell_bits.specs.declared.bits.Bits.{Bits}
use Rattle.heap_core.specs.Shape.{Shape, out_in, out_of}
use Rattle.slice_driver.specs.Advances.{AreOut, TakesDue}
use Rattle.slice_driver.specs.Collector.{CollectorState}
use Rattle.slice_driver.specs.Resets.{GivesUp, ResetsOn}
use Rattle.slice_driver.specs.Units.{DoesUnit, IsLowestOut, TellsSweep, reports_of}
use Rattle.slice_driver.specs.declared.advance.Step.{Step}
use Rattle.slice_driver.proofs.marking.AtGroupEnd.{one_lowest}

-- one unit was done, which reports something
abbrev pub swept_step : Bool → Step
swept_step over = record { units = 1; reported = true; finished = over; handed = None }

-- where no arena is out, any list tells which are
pub out_nothing : (s : Shape) (outs : List (ℕ × ℕ)) → ((a : ℕ) → out_of s a ≡ None) → AreOut s outs
out_nothing s outs none = record {
  freed = λ a word has arena bits at out. absurd (let here = none a in let is = ap out_in at in cc (here, is, out));
}

-- an arena was taken in
pub resets_sweep : {S O H : Type 0} (bits_of : S → ℕ → Option Bits) (origin_of : S → O) (left_of : O → List (ℕ × ℕ))
    (home_of : O → H) (now : Option Report) (over : Bool) (c : CollectorState) (f : S) (d : CollectorState) (g : S)
    (step : Step) (arena : ℕ) → IsLowestOut c.heap.shape arena
    → TakesDue bits_of origin_of left_of home_of now over c f d g → TellsSweep arena now → step ≡ swept_step over
    → ResetsOn c (bits_of f) step d (bits_of g) (left_of (origin_of g)) now
resets_sweep bits_of origin_of left_of home_of now over c f d g step arena lowest takes told is =
    let finished : step.finished ≡ over = ap (λ (s : Step). s.finished) is in record {
      sweeps = λ a low. (
        subst (λ b. DoesUnit c (bits_of f) (reports_of now b) d (bits_of g)) (sym finished) takes.done,
        subst (λ b. TellsSweep b now) (one_lowest c.heap.shape arena a lowest low) told,
      );
      stops = λ none. absurd (let here = none arena in let out = lowest.out in cc (here, out));
      step_is = is ∙ ap swept_step (sym finished);
      finished = (λ t. takes.finished.0 (sym finished ∙ t), λ e. finished ∙ takes.finished.1 e);
      sound = takes.sound;
      out = takes.out;
      made = takes.made;
      ledger = takes.ledger;
      entries = (let same = ap (λ w. length w.entries) takes.weak in omega (arith, same));
    }

-- the collection was given up
pub resets_stop : (now : Option Report) (c : CollectorState) (flown : ℕ → Option Bits) (d : CollectorState)
    (flying : ℕ → Option Bits) (step : Step) (outs : List (ℕ × ℕ)) (zones : ZoneSet)
    → ((a : ℕ) → out_of c.heap.shape a ≡ None) → GivesUp c flown zones d flying → now ≡ Some (report.Stopped zones)
    → step ≡ swept_step true → ResetsOn c flown step d flying outs now
resets_stop now c flown d flying step outs zones none gives told is =
    let finished : step.finished ≡ true = ap (λ (s : Step). s.finished) is in record {
      sweeps = λ a low. absurd (let here = none a in let out = low.out in cc (here, out));
      stops = λ n. (zones, told, gives);
      step_is = is ∙ ap swept_step (sym finished);
      finished = (λ t. gives.idle, λ e. finished);
      sound = gives.sound;
      out = out_nothing d.heap.shape outs gives.none_out;
      made = gives.made;
      ledger = gives.ledger;
      entries = (let same = ap (λ w. length w.entries) gives.weak in omega (arith, same));
    }
