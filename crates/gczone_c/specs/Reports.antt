-- What C gets of the last report, of gray names, and of whether a collection runs: the session stays as it is.
use Rattle.std.specs.Prelude.{◌≡◌, ◌≤◌, ◌↔◌, ℕ, Bool, true, false, List, [], Option, None, Some, IsSome, IsTrue}
use Rattle.std.specs.Prelude.{◌*◌, length, slice_get}
use Rattle.gz_names.specs.declared.dumps.DumpColour.TheVariants as colour
use Rattle.gz_names.specs.declared.dumps.DumpLine.{DumpLine}
use Rattle.gz_names.specs.declared.dumps.DumpLine.TheVariants as line
use Rattle.gz_names.specs.declared.names.Name.{Name}
use Rattle.gz_names.specs.declared.zone_sets.ZoneSet.{ZoneSet}
use Rattle.slice_driver.specs.Bounds.{units_bound}
use Rattle.slice_driver.specs.Left.{units_left}
use Rattle.slice_driver.specs.Present.{arena_bytes, present_in_all}
use Rattle.slice_driver.specs.Sessions.{groups_of, kind_of, names_of, told_of}
use Rattle.slice_driver.specs.declared.session.told.SessionReport.{SessionReport}
use Rattle.slice_driver.specs.declared.session.told.SessionReport.TheVariants as report
use Rattle.sweeping.specs.ArenasOut.{flown_by}
use Rattle.gczone_c.specs.Calls.{name_told, no_name}
use Rattle.gczone_c.specs.Statuses.{found_status}
use Rattle.gczone_c.specs.declared.told.Answer.{Answer}
use Rattle.gczone_c.specs.declared.told.Counts.{Counts}
use Rattle.gczone_c.specs.declared.told.LineTold.{LineTold}
use Rattle.gczone_c.specs.declared.told.ReportTold.{ReportTold}
use Rattle.gczone_c.specs.declared.held.Held.{Held}

-- whether there is a report to be read
abbrev pub report_status : Option SessionReport → ℕ
report_status None = 5
report_status (Some told) = 0

-- what C gets of it, where it lists these names or groups
abbrev pub report_told : Option SessionReport → List Name → List ZoneSet → ReportTold → ReportTold
report_told None names groups before = before
report_told (Some report.Started) names groups before = record { zones = 0; count = 0; kind = 4; arena = 0 }
report_told (Some report.Groups) names groups before =
    record { zones = 0; count = length groups; kind = 1; arena = 0 }
report_told (Some (report.Ended zones)) names groups before =
    record { zones = zones.bits; count = length names; kind = 2; arena = 0 }
report_told (Some (report.Swept arena)) names groups before =
    record { zones = 0; count = length names; kind = 3; arena = arena }
report_told (Some (report.Stopped zones)) names groups before =
    record { zones = zones.bits; count = 0; kind = 5; arena = 0 }

-- what C gets of a name, and of a group
abbrev pub name_answer : Option Name → Answer → Answer
name_answer (Some x) before = name_told x
name_answer None before = before

abbrev pub group_told : Option ZoneSet → ℕ → ℕ
group_told (Some zones) before = zones.bits
group_told None before = before

-- a line of a dump, as C sees it
abbrev pub line_told : DumpLine → LineTold
line_told (line.Cell x colour.Black) =
    record { owner = 0; name = name_told x; value = no_name; kind = 1; black = true }
line_told (line.Cell x colour.Gray) =
    record { owner = 0; name = name_told x; value = no_name; kind = 1; black = false }
line_told (line.Edge owner x) =
    record { owner = owner; name = name_told x; value = no_name; kind = 2; black = false }
line_told (line.Weak owner key x) =
    record { owner = owner; name = name_told key; value = name_told x; kind = 3; black = false }
line_told line.End = record { owner = 0; name = no_name; value = no_name; kind = 0; black = false }

abbrev pub line_answer : Option DumpLine → LineTold → LineTold
line_answer (Some x) before = line_told x
line_answer None before = before

abbrev pub RunningTold : Bool → ℕ → Held → Held → Type 0
RunningTold running status old new = (new ≡ old) × (status ≡ 0)
    × (IsTrue running ↔ IsSome old.session.collector.run)

-- a bound on the units that are left of the collection that runs, and 0 exactly if none does
pub record UnitsLeftTold (units status : ℕ) (old new : Held) : Type 0 where
  pub held : new ≡ old
  pub status_is : status ≡ 0
  pub bound : units_left old.session.collector (flown_by old.session.sweeper) ≤ units
  pub value : units ≡ units_bound old.session.collector
  pub none : (units ≡ 0) ↔ (old.session.collector.run ≡ None)

-- how much a session holds
abbrev pub counts_told : Held → Counts
counts_told held = record {
  cells = present_in_all held.session.collector.heap.shape.arenas;
  objects = held.session.collector.heap.shape.objects;
  entries = length held.session.collector.heap.shape.weak.entries;
  bytes = arena_bytes * length held.session.collector.heap.shape.arenas;
  arenas = length held.session.collector.heap.shape.arenas;
}

abbrev pub CountsTold : Counts → ℕ → Held → Held → Type 0
CountsTold counts status old new = (new ≡ old) × (status ≡ 0) × (counts ≡ counts_told old)

abbrev pub ReportIsTold : ReportTold → ReportTold → ℕ → Held → Held → Type 0
ReportIsTold before told status old new = (new ≡ old) × (status ≡ report_status (kind_of old.session.report))
    × (told ≡ report_told (kind_of old.session.report) (names_of old.session.report) (groups_of old.session.report)
    before)

abbrev pub NameTold : ℕ → Answer → Answer → ℕ → Held → Held → Type 0
NameTold index before told status old new = (new ≡ old)
    × (status ≡ found_status (slice_get (names_of old.session.report) index))
    × (told ≡ name_answer (slice_get (names_of old.session.report) index) before)

abbrev pub LostTold : ℕ → Answer → Answer → ℕ → Held → Held → Type 0
LostTold index before told status old new = (new ≡ old)
    × (status ≡ found_status (slice_get (told_of old.session.report) index))
    × (told ≡ name_answer (slice_get (told_of old.session.report) index) before)

abbrev pub GroupTold : ℕ → ℕ → ℕ → ℕ → Held → Held → Type 0
GroupTold index before told status old new = (new ≡ old)
    × (status ≡ found_status (slice_get (groups_of old.session.report) index))
    × (told ≡ group_told (slice_get (groups_of old.session.report) index) before)

abbrev pub GrayTold : ℕ → Answer → Answer → ℕ → Held → Held → Type 0
GrayTold index before told status old new = (new ≡ old) × (status ≡ found_status (slice_get old.grays index))
    × (told ≡ name_answer (slice_get old.grays index) before)

abbrev pub LineIsTold : ℕ → LineTold → LineTold → ℕ → Held → Held → Type 0
LineIsTold index before told status old new = (new ≡ old)
    × (status ≡ found_status (slice_get old.lines.items index))
    × (told ≡ line_answer (slice_get old.lines.items index) before)
