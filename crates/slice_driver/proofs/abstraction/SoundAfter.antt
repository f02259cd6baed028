-- After a beginning and after a unit the collector stands for a valid world.
use Rattle.std.proofs.Common.{◌≡◌, ℕ, Option, Some, None, List, ◌∙◌, ap}
use Rattle.gz_names.specs.declared.replies.Report.{Report}
use Rattle.cell_bits.specs.declared.bits.Bits.{Bits}
use Rattle.colour_defs.proofs.ValidReports.{unit_valid}
use Rattle.heap_core.specs.Shape.{Shape, out_in, out_of}
use Rattle.slice_driver.specs.Collector.{CollectorState}
use Rattle.slice_driver.specs.Units.{BeginsIn, DoesUnit, IsSound, KeepsFreedWords}

pub unit_sound : (c d : CollectorState) (flown flying : ℕ → Option Bits) (reports : List Report)
    → DoesUnit c flown reports d flying → IsSound c flown → IsSound d flying
unit_sound c d flown flying reports does s =
    let done = does s.world s.valid s.represents in
    record { world = done.0; valid = unit_valid s.world s.valid done.1; represents = done.2 }

pub begin_sound : (c d : CollectorState) (zones : ℕ) (flown : ℕ → Option Bits) → BeginsIn c zones d → IsSound c flown
    → IsSound d flown
begin_sound c d zones flown begins s =
    let begun = begins flown s.world s.valid s.represents in
    record { world = begun.0; valid = begun.2; represents = begun.3 }

-- where no arena is out, none loses what is freed of it
pub none_words : (s t : Shape) → ((a : ℕ) → out_of t a ≡ None) → KeepsFreedWords s t
none_words s t none a freed was arena bits at out = absurd
    (let some : out_of t a ≡ Some bits = ap out_in at ∙ out in let nothing = none a in cc (some, nothing))
