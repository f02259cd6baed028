-- How far a collection is, by its zones, its groups and the arenas that are out; and what a report makes of it.
use Rattle.std.specs.Prelude.{◌≡◌, ◌↔◌, ℕ, ◌+◌, ◌<◌, ◌^◌, List, [], ◌∷◌, ◌++◌, Bool, true, false, reverse, Option}
use Rattle.std.specs.Prelude.{Some, None, Vec, Contains, IsTrue, ◌⊎◌, ⊤, map, replicate}
use Rattle.std.specs.BTreeMap as tree
use Rattle.std.specs.BTreeSet.{BTreeSet}
use Rattle.std.specs.FinMap as fin
use Rattle.std.specs.declared.alloc.Global.{Global}
use Rattle.gz_names.specs.Zones.{HasZone, zones_in}
use Rattle.gz_names.specs.declared.zone_sets.ZoneSet.{ZoneSet}
use Rattle.gz_names.specs.declared.names.Name.{Name}
use Rattle.gz_names.specs.declared.numbers.Place.{Place}
use Rattle.gz_names.specs.declared.replies.Refusal.{Refusal}
use Rattle.gz_names.specs.declared.replies.Reply.{Reply}
use Rattle.gz_names.specs.declared.replies.Report.{Report}
use Rattle.gz_names.specs.declared.replies.Report.TheVariants as report
use Rattle.gz_names.specs.declared.commands.GraphCmd.{GraphCmd}
use Rattle.colour_defs.specs.Ends.{Lists, arenas_from}
use Rattle.colour_defs.specs.Graph.{GraphState, IsInZones, empty_graph, zone_of}
use Rattle.colour_defs.specs.Step.{refusal_in, step_of, with_register}
use Rattle.colour_defs.specs.Units.{MeetsUnitBound, Tally, sweeps_in, unit_limit, with_put, with_woken}
use Rattle.colour_defs.specs.World as defs
use Rattle.colour_defs.specs.World.{woken_by}
use Rattle.trace_lang.specs.Texts.{report_text, told_text}
use Rattle.judge.specs.Arenas.{owners_in}
use Rattle.judge.specs.Cells.{Cells, Colours, GivesPlaces, HasCell, IsGray, IsWhite, wakes, wakes_also, woken_in}
use Rattle.judge.specs.LeftOut.{GrowsLeft, IsEither}
use Rattle.judge.specs.Former.{IsFormer, Keeps, Releases, Takes}
use Rattle.judge.specs.Bounds.{IsFirstTally, is_accepted, marking_tally, put_if, tally_of, with_sweep, with_units}
use Rattle.judge.specs.Parts.{AreParts}
use Rattle.judge.specs.Groups.{AreAllowed, AreRefused, Forming}
use Rattle.judge.specs.Starts.{IsBegun, IsListOf}
use Rattle.plain_graph.specs.Indexed.{order_of}
use Rattle.plain_graph.specs.Reach.{IsDone, WalkState}
use Rattle.judge.specs.Walks.{CatchUp, CatchesUp, GoesOnFrom, IsFoundBlack, IsLeftBlack, Walks, left_out_of}
use Rattle.judge.specs.Walks.{walks_of}
use Rattle.judge.specs.Weak.{AreUnwatched, IsWatched, if_present}
use Rattle.judge.specs.Whites.{Clears, lies_in, whites_in}
use Rattle.judge.specs.declared.whites.Whites.{Whites}
use Rattle.judge.specs.declared.weak.WeakNames.{WeakNames}
use Rattle.judge.specs.declared.former.Change.{Change}
use Rattle.judge.specs.declared.former.Change.TheVariants as change
use Rattle.judge.specs.declared.former.Former.{Former}
use Rattle.judge.specs.declared.collection.Collection.{Collection}
use Rattle.judge.specs.declared.world.Phase.{Phase}
use Rattle.judge.specs.declared.world.Phase.TheVariants as phase
use Rattle.judge.specs.declared.world.World.{World}
use Rattle.judge.specs.declared.world.DueReport.{DueReport}
use Rattle.judge.specs.declared.world.DueReport.TheVariants as due

-- no collection runs; or these zones are being prepared for one; or one runs, of these zones, of which these are
-- marking, and these are the groups that have not ended, once they are formed
pub data Stage : Type 0 where
  idle : Stage
  preparing : ZoneSet → Stage
  collecting : ZoneSet → ZoneSet → Option (List ZoneSet) → Stage

-- a stage, whose the arenas are, those that are out, the lowest first, and the white cells that are not yet swept; the
-- present cells, what is black while no zone is marking, and of the zones that are left out while others are being
-- prepared; the graph as it stood when marking began, and what was found since; what is counted for the bound on units;
-- what weak slots name and which cells are watched; and the watched cells that died with the group that ended last,
-- until a line tells them
pub record Shown : Type 0 where
  pub stage : Stage
  pub owners : List (Option ℕ)
  pub out : List ℕ
  pub whites : Whites
  pub cells : Cells
  pub black : WalkState
  pub left_out : Option (BTreeSet Name)
  pub former : Former
  pub walks : Option Walks
  pub tally : Tally
  pub weak : WeakNames
  pub told : List Name

abbrev pub groups_in : Option (Vec ZoneSet Global) → Option (List ZoneSet)
groups_in None = None
groups_in (Some groups) = Some groups.items

abbrev pub stage_in : Collection → Stage
stage_in k = collecting k.zones k.marking (groups_in k.groups)

abbrev pub stage_of : Phase → Stage
stage_of phase.Idle = idle
stage_of (phase.Preparing p) = preparing p.zones
stage_of (phase.Collecting k) = stage_in k

-- what the judge's world shows of a collection
abbrev pub shown : World → Shown
shown w = record {
  stage = stage_of w.phase;
  owners = owners_in w.arenas;
  out = reverse w.arenas.out.items;
  whites = w.whites;
  cells = w.places;
  black = w.black;
  left_out = left_out_of w.phase;
  former = w.former;
  walks = walks_of w.phase;
  tally = tally_of w.tally;
  weak = w.weak;
  told = w.told;
}

-- nothing has happened yet
pub record IsFirst (s : Shown) : Type 0 where
  pub none_running : s.stage ≡ idle
  pub none_owned : s.owners ≡ []
  pub none_out : s.out ≡ []
  pub none_made : s.cells.entries ≡ []
  pub former : IsFormer s.former empty_graph
  pub taken : s.former.is_kept ≡ false
  pub none_found : s.walks ≡ None
  pub none_black : s.black ≡ record { names = []; next = 0 }
  pub none_named : s.weak.slots ≡ replicate 64 None
  pub none_watched : s.weak.watched.keys ≡ []
  pub none_told : s.told ≡ []

-- the zones that are being prepared or are marking
abbrev pub unfinished_in : Stage → ZoneSet
unfinished_in idle = record { bits = 0 }
unfinished_in (preparing zones) = zones
unfinished_in (collecting zones marking groups) = marking

-- none is
abbrev pub IsSettled : Stage → Type 0
IsSettled s = (unfinished_in s).bits ≡ 0

-- a name is woken while zones are marking
pub record IsWoken (s : Stage) (x : Name) (old new : Walks) : Type 0 where
  pub marking : (IsSettled s → ⊥) → new.woken ≡ old.woken ++ x ∷ []
  pub settled : IsSettled s → new.woken ≡ old.woken
  pub rest : new ≡ record old { woken = new.woken }

abbrev pub Wakes : Stage → Name → Option Walks → Option Walks → Type 0
Wakes s x None new = new ≡ None
Wakes s x (Some w) new = (after : Walks) × (new ≡ Some after) × IsWoken s x w after

abbrev pub WakesAny : Stage → Option Name → Option Walks → Option Walks → Type 0
WakesAny s None old new = new ≡ old
WakesAny s (Some x) old new = Wakes s x old new

-- what a name that is woken reaches turns black where nothing is prepared or marked. Nothing else changes there
abbrev pub BlackensOne : GraphState → Stage → Name → WalkState → WalkState → Type 0
BlackensOne g idle x old new = GoesOnFrom g (x ∷ []) old new
BlackensOne g (preparing zones) x old new = new ≡ old
BlackensOne g (collecting zones marking groups) x old new =
    (marking.bits ≡ 0 → GoesOnFrom g (x ∷ []) old new) × ((marking.bits ≡ 0 → ⊥) → new ≡ old)

abbrev pub Blackens : GraphState → Stage → Option Name → WalkState → WalkState → Type 0
Blackens g s None old new = new ≡ old
Blackens g s (Some x) old new = BlackensOne g s x old new

-- while zones are being prepared, of those that are left out these names turn black, with what is reached from there
abbrev pub BlackensLeft : GraphState → Stage → (Name → Type 0) → Option (BTreeSet Name) → Option (BTreeSet Name)
    → Type 0
BlackensLeft g idle P old new = new ≡ old
BlackensLeft g (preparing zones) P old new = GrowsLeft g zones P old new
BlackensLeft g (collecting zones marking groups) P old new = new ≡ old

-- a world of the definitions in which the arenas are the same, and the same cells lie in the same places
pub record IsLaidAs (s : Shown) (w : defs.World) : Type 0 where
  pub owners_are : w.owner ≡ s.owners
  pub out_is : w.out ≡ s.out
  pub places_are : (x : Name) → fin.get w.places x ≡ tree.get order_of s.cells x

-- a name gets a place, where the definitions put it in each such world: in the lowest free slot of its zone, or where
-- there is none in the first slot of a new arena
pub record GetsPlace (g : GraphState) (old new : Shown) : Type 0 where
  pub name : Name
  pub zone : ℕ
  pub place : Place
  pub of : zone_of g name ≡ Some zone
  pub fresh : HasCell old.cells name → ⊥
  pub updates : tree.Updates order_of old.cells new.cells name (Some place)
  pub lies : (w : defs.World) → IsLaidAs old w → defs.IsPlaceFor w zone place new.owners

-- a name gets a place, or each cell lies where it lay and no arena is made
abbrev pub LiesIn : GraphState → Shown → Shown → Type 0
LiesIn g old new = GetsPlace g old new ⊎ ((new.cells ≡ old.cells) × (new.owners ≡ old.owners))

-- what a command counts for by its reply, if it puts an entry while a collection marks or sweeps; and what a name that
-- is woken then counts for
abbrev pub put_in : GraphState → Stage → GraphCmd → Reply → Tally → Tally
put_in g idle c r t = t
put_in g (preparing zones) c r t = t
put_in g (collecting zones marking groups) c r t = put_if (is_accepted r) g (zones_in zones) c t

abbrev pub woken_tally : GraphState → Stage → Option Name → Tally → Tally
woken_tally g idle x t = t
woken_tally g (preparing zones) x t = t
woken_tally g (collecting zones marking groups) x t = with_woken g (zones_in zones) x t

abbrev pub counted_by : GraphState → Stage → GraphCmd → Reply → Tally → Tally
counted_by g s c r t = woken_tally g s (woken_in c r) (put_in g s c r t)

-- what a command counts for, by the definitions
abbrev pub counts_for : GraphState → Stage → GraphCmd → Tally → Tally
counts_for g idle c t = t
counts_for g (preparing zones) c t = t
counts_for g (collecting zones marking groups) c t =
    with_woken g (zones_in zones) (woken_by g c) (with_put g (zones_in zones) c t)

abbrev pub tally_unless : Option Refusal → GraphState → Stage → GraphCmd → Tally → Tally
tally_unless (Some why) g s c t = t
tally_unless None g s c t = counts_for g s c t

-- a change of the graph, by the graph after it, the name that it wakes, and a second one that it wakes while zones are
-- being prepared
pub record Changes (k : Change) (h : GraphState) (x also : Option Name) (old new : Shown) : Type 0 where
  pub places : GivesPlaces h x old.cells new.cells
  pub lies : LiesIn h old new
  pub takes : Takes k old.former new.former
  pub walks : WakesAny old.stage x old.walks new.walks
  pub blackens : Blackens h old.stage x old.black new.black
  pub left_out : BlackensLeft h old.stage (IsEither x also) old.left_out new.left_out
  pub stage_is : new.stage ≡ old.stage
  pub out_is : new.out ≡ old.out
  pub whites_is : new.whites ≡ old.whites
  pub weak_is : new.weak ≡ old.weak
  pub told_is : new.told ≡ old.told

-- a register takes what a weak slot names, which is woken as what a gray slot hands out is
pub record TakesNamed (g : GraphState) (r : ℕ) (x : Option Name) (old new : Shown) : Type 0 where
  pub changes : Changes (change.Take r x) (with_register g r x) x None old new
  pub tally_is : new.tally ≡ woken_tally g old.stage x old.tally

-- a command on the graph
pub record Obeys (g : GraphState) (c : GraphCmd) (old new : Shown) : Type 0 where
  pub changes : Changes (change.Command c) (step_of g c).0 (wakes g c) (wakes_also g c) old new
  pub tally_is : new.tally ≡ tally_unless (refusal_in (step_of g c).1) g old.stage c old.tally

-- all groups have ended, and no arena is out
pub record IsOver (s : Shown) : Type 0 where
  pub zones : ZoneSet
  pub marking : ZoneSet
  pub ended : s.stage ≡ collecting zones marking (Some [])
  pub none_out : s.out ≡ []

-- the marking of these zones begins
pub record IsStarted (g : GraphState) (zones : ZoneSet) (old new : Shown) : Type 0 where
  pub walks : Walks
  pub begun : IsBegun g (zones_in zones) old.cells old.left_out walks
  pub keeps : Keeps old.former new.former
  pub counted : IsFirstTally g zones old.cells old.tally new.tally
  pub new_is : new ≡ record old {
    stage = collecting zones zones None;
    left_out = None;
    former = new.former;
    walks = Some walks;
    tally = marking_tally g (zones_in zones) old.cells old.tally;
  }

-- marking begins
pub record Starts (g : GraphState) (old new : Shown) : Type 0 where
  pub zones : ZoneSet
  pub was : old.stage ≡ preparing zones
  pub none_out : old.out ≡ []
  pub started : IsStarted g zones old new

-- what groups are formed by, while these zones are collected and this was found
abbrev pub forming_in : GraphState → Shown → ZoneSet → Walks → Forming
forming_in g s zones walks =
    record { graph = g; cells = s.cells; zones = zones; former = s.former.graph; walks = walks }

-- the groups are formed, once: they part the zones, and are lawful
pub record Forms (g : GraphState) (old : Shown) (groups : List ZoneSet) (new : Shown) : Type 0 where
  pub zones : ZoneSet
  pub marking : ZoneSet
  pub was : old.stage ≡ collecting zones marking None
  pub none_out : old.out ≡ []
  pub parts : AreParts zones groups
  pub walks : Walks
  pub found : old.walks ≡ Some walks
  pub lawful : AreAllowed (forming_in g old zones walks) groups
  pub new_is : new
      ≡ record old { stage = collecting zones marking (Some groups); left_out = None; walks = new.walks }

-- these groups may not be formed: they are not lawful
abbrev pub AreForbidden : GraphState → Shown → List ZoneSet → Type 0
AreForbidden g s groups =
    (zones : ZoneSet) (marking : ZoneSet) (walks : Walks) → s.stage ≡ collecting zones marking None
    → s.walks ≡ Some walks → AreRefused (forming_in g s zones walks) groups

-- the zones of one set without those of another
abbrev pub AreWithout : ZoneSet → ZoneSet → ZoneSet → Type 0
AreWithout zones group rest = (z : ℕ) → HasZone rest.bits z ↔ (HasZone zones.bits z × ¬ HasZone group.bits z)

-- the first group that has not ended ends, and its zones mark no longer
pub record Ends (old : Stage) (group : ZoneSet) (new : Stage) : Type 0 where
  pub zones : ZoneSet
  pub marking : ZoneSet
  pub after : ZoneSet
  pub rest : List ZoneSet
  pub was : old ≡ collecting zones marking (Some (group ∷ rest))
  pub after_are : AreWithout marking group after
  pub small : after.bits < 2 ^ 64
  pub new_is : new ≡ collecting zones after (Some rest)

-- the first group of this stage
abbrev pub IsFirstGroup : Stage → ZoneSet → Type 0
IsFirstGroup s group =
    (zones : ZoneSet) × (marking : ZoneSet) × (rest : List ZoneSet)
    × (s ≡ collecting zones marking (Some (group ∷ rest)))

-- the marking of a collection is not over: it has groups that have not ended, or has none yet
abbrev pub HasGroups : Stage → Type 0
HasGroups idle = ⊥
HasGroups (preparing zones) = ⊥
HasGroups (collecting zones marking None) = ⊤
HasGroups (collecting zones marking (Some [])) = ⊥
HasGroups (collecting zones marking (Some (group ∷ rest))) = ⊤

-- what was found is kept while groups are left. After that what was found black is black, and the former graph takes
-- the commands that it has not taken
pub record GoesOn (old : Shown) (walks : Walks) (new : Shown) : Type 0 where
  pub after : Walks
  pub caught : CatchesUp old.former.graph walks after
  pub left : HasGroups new.stage → (new.walks ≡ Some after) × (new.former ≡ old.former) × (new.black ≡ old.black)
  pub over : (HasGroups new.stage → ⊥) → Releases old.former new.former × (new.black ≡ after.black)

-- an arena that is out has these white cells: those that lay in it
abbrev pub AreWhitesIn : GraphState → List ℕ → Shown → Walks → ℕ → List Name → Type 0
AreWhitesIn g zones old walks arena names =
    Lists (λ x. HasCell old.cells x × IsWhite g zones old.former.graph walks x
    × IsTrue (lies_in old.cells arena x)) names

-- weak slots lose what is present no longer; of the white cells those that were watched wait for a line that tells
-- them, and are watched no longer
pub record LosesWeak (g : GraphState) (zones : List ℕ) (old : Shown) (walks : Walks) (new : Shown) : Type 0 where
  pub slots_are : new.weak.slots ≡ map (if_present new.cells) old.weak.slots
  pub told_are : Lists (λ x. (HasCell old.cells x × IsWhite g zones old.former.graph walks x)
      × IsWatched old.weak x) new.told
  pub watched_are : AreUnwatched old.weak new.told new.weak

-- the first group that has not ended ends: its gray cells are named, its white ones are present no longer and wait to
-- be swept, each in its arena, weak names lose them, and the arenas of its zones are out
pub record EndsGroup (g : GraphState) (old : Shown) (group : ZoneSet) (grays : List Name) (new : Shown) : Type 0 where
  pub none_out : old.out ≡ []
  pub ends : Ends old.stage group new.stage
  pub walks : Walks
  pub found : old.walks ≡ Some walks
  pub colours : Colours g (zones_in group) old.former.graph walks old.cells grays new.cells
  pub owners_is : new.owners ≡ old.owners
  pub out_is : new.out ≡ arenas_from 0 old.owners (zones_in group)
  pub whites_are : (arena : ℕ) → AreWhitesIn g (zones_in group) old walks arena (whites_in new.whites arena)
  pub goes_on : GoesOn old walks new
  pub tally_is : new.tally ≡ old.tally
  pub loses : LosesWeak g (zones_in group) old walks new

-- the lowest arena that is out is taken in, and its white cells are freed
pub record Sweeps (old : Shown) (arena : ℕ) (freed : List Name) (new : Shown) : Type 0 where
  pub rest : List ℕ
  pub first : old.out ≡ arena ∷ rest
  pub freed_are : freed ≡ whites_in old.whites arena
  pub clears : Clears old.whites arena new.whites
  pub new_is : new ≡ record old { out = rest; whites = new.whites; tally = with_sweep old.tally }

-- a collection that is over runs no longer
pub record Finishes (old new : Shown) : Type 0 where
  pub over : IsOver old
  pub releases : Releases old.former new.former
  pub new_is : new ≡ record old { stage = idle; left_out = None; former = new.former; walks = None }

-- what is black by what a collection has found so far
abbrev pub IsBlackSoFar : Stage → Shown → Name → Type 0
IsBlackSoFar idle s x = Contains s.black.names x
IsBlackSoFar (preparing zones) s x = IsLeftBlack s.left_out x
IsBlackSoFar (collecting zones marking groups) s x =
    (w : Walks) × (s.walks ≡ Some w) × IsFoundBlack s.former.graph w x

-- where a collection is given up, this turns black: the present cells of the zones that were being prepared or were
-- marking, those that are black so far, and what is reached from there
pub record BlackensRest (g : GraphState) (old : Shown) (black : WalkState) : Type 0 where
  pub starts : List Name
  pub starts_are : IsListOf starts
      (λ x. HasCell old.cells x × (IsInZones g (zones_in (unfinished_in old.stage)) x ⊎ IsBlackSoFar old.stage old x))
  pub done : IsDone g starts black

-- a collection that is not over is given up, with no arena out, while these zones are being prepared or are marking
pub record Stops (g : GraphState) (old : Shown) (zones : ZoneSet) (new : Shown) : Type 0 where
  pub none_out : old.out ≡ []
  pub not_over : IsOver old → ⊥
  pub zones_are : zones ≡ unfinished_in old.stage
  pub releases : Releases old.former new.former
  pub blackens : BlackensRest g old new.black
  pub new_is : new ≡ record old {
    stage = idle;
    black = new.black;
    left_out = None;
    former = new.former;
    walks = None;
  }

-- a report of a unit
abbrev pub IsReported : GraphState → Shown → Report → Shown → Type 0
IsReported g old report.Started new = Starts g old new
IsReported g old (report.Groups groups) new =
    Forms g old groups new × CatchUp old.former.graph old.walks new.walks
IsReported g old (report.Ended group grays told) new = (told ≡ []) × EndsGroup g old group grays new
IsReported g old (report.Swept arena freed) new = Sweeps old arena freed new
IsReported g old report.Done new = Finishes old new
IsReported g old (report.Stopped zones) new = ⊥

-- the line behind that of a group's end, which tells the watched cells that died with it
abbrev pub IsToldLine : Shown → List ℕ → Shown → Type 0
IsToldLine old line new = (told_text old.told ≡ 10 ∷ line) × (new ≡ record old { told = [] })

-- a line that is a report of a unit, or the line that tells watched cells, which comes first where it is due
abbrev pub IsReportedLine : GraphState → Shown → List ℕ → Shown → Type 0
IsReportedLine g old line new =
    ((r : Report) × (line ≡ report_text r) × IsReported g old r new × (old.told ≡ [])) ⊎ IsToldLine old line new

-- marking may begin
abbrev pub MayStart : Shown → Type 0
MayStart s = (zones : ZoneSet) × (s.stage ≡ preparing zones) × (s.out ≡ [])

-- the first group that has not ended may end, with these gray cells
pub record MayEnd (g : GraphState) (s : Shown) (group : ZoneSet) (grays : List Name) : Type 0 where
  pub none_out : s.out ≡ []
  pub first : IsFirstGroup s.stage group
  pub walks : Walks
  pub found : s.walks ≡ Some walks
  pub grays_are : Lists (λ x. HasCell s.cells x × IsGray g (zones_in group) s.former.graph walks x) grays

-- the lowest arena that is out may be taken in, with these white cells
abbrev pub MaySweep : Shown → ℕ → List Name → Type 0
MaySweep s arena freed = (rest : List ℕ) × (s.out ≡ arena ∷ rest) × (freed ≡ whites_in s.whites arena)

-- the collection may be given up, with these zones
abbrev pub MayStop : Shown → ZoneSet → Type 0
MayStop s zones = (s.out ≡ []) × (IsOver s → ⊥) × (zones ≡ unfinished_in s.stage)

-- a report that may not come here; of groups, that are lawful in no world of the definitions
abbrev pub IsWrongReport : GraphState → Shown → Report → Type 0
IsWrongReport g old report.Started = MayStart old → ⊥
IsWrongReport g old (report.Groups groups) = old.out ≡ [] → AreForbidden g old groups
IsWrongReport g old (report.Ended group grays told) = told ≡ [] → MayEnd g old group grays → ⊥
IsWrongReport g old (report.Swept arena freed) = MaySweep old arena freed → ⊥
IsWrongReport g old report.Done = IsOver old → ⊥
IsWrongReport g old (report.Stopped zones) = ⊤

-- a line that is no right report of a unit, and no line that tells watched cells where one is due
pub record IsWrongReportLine (g : GraphState) (old : Shown) (line : List ℕ) : Type 0 where
  pub report : (r : Report) → line ≡ report_text r → old.told ≡ [] → IsWrongReport g old r
  pub told : (new : Shown) → IsToldLine old line new → ⊥

-- a line by which the groups are formed, and one by which a group ends
abbrev pub IsGroupsLine : GraphState → Shown → List ℕ → Shown → Type 0
IsGroupsLine g old line new =
    (groups : List ZoneSet) × (line ≡ report_text (report.Groups groups)) × Forms g old groups new
    × CatchUp old.former.graph old.walks new.walks

abbrev pub IsEndedLine : GraphState → Shown → List ℕ → Shown → Type 0
IsEndedLine g old line new =
    (group : ZoneSet) × (grays : List Name) × (line ≡ report_text (report.Ended group grays []))
    × EndsGroup g old group grays new

-- a report of a reset
abbrev pub IsResetReport : GraphState → Shown → Report → Shown → Type 0
IsResetReport g old report.Started new = ⊥
IsResetReport g old (report.Groups groups) new = ⊥
IsResetReport g old (report.Ended group grays told) new = ⊥
IsResetReport g old (report.Swept arena freed) new = Sweeps old arena freed new
IsResetReport g old report.Done new = Finishes old new
IsResetReport g old (report.Stopped zones) new = Stops g old zones new

-- a line that is a report of a reset
abbrev pub IsResetLine : GraphState → Shown → List ℕ → Shown → Type 0
IsResetLine g old line new = (r : Report) × (line ≡ report_text r) × IsResetReport g old r new

-- a report of a reset that may not come here, and a line that is none that may
abbrev pub IsWrongReset : Shown → Report → Type 0
IsWrongReset s report.Started = ⊤
IsWrongReset s (report.Groups groups) = ⊤
IsWrongReset s (report.Ended group grays told) = ⊤
IsWrongReset s (report.Swept arena freed) = MaySweep s arena freed → ⊥
IsWrongReset s report.Done = IsOver s → ⊥
IsWrongReset s (report.Stopped zones) = MayStop s zones → ⊥

abbrev pub IsWrongResetLine : Shown → List ℕ → Type 0
IsWrongResetLine s line = (r : Report) → line ≡ report_text r → IsWrongReset s r

-- which report is due of a collection that marks or sweeps, with no arena out
abbrev pub IsDueOf : DueReport → Stage → Type 0
IsDueOf due.Idle s = s ≡ idle
IsDueOf due.Started s = (zones : ZoneSet) × (s ≡ preparing zones)
IsDueOf due.Groups s = (zones : ZoneSet) × (marking : ZoneSet) × (s ≡ collecting zones marking None)
IsDueOf due.Ended s = (group : ZoneSet) × IsFirstGroup s group
IsDueOf (due.Swept arena) s = ⊥
IsDueOf due.Done s = (zones : ZoneSet) × (marking : ZoneSet) × (s ≡ collecting zones marking (Some []))

-- which report is due
abbrev pub IsDue : DueReport → Shown → Type 0
IsDue (due.Swept arena) s = (rest : List ℕ) × (s.out ≡ arena ∷ rest)
IsDue due.Idle s = (s.out ≡ []) × IsDueOf due.Idle s.stage
IsDue due.Started s = (s.out ≡ []) × IsDueOf due.Started s.stage
IsDue due.Groups s = (s.out ≡ []) × IsDueOf due.Groups s.stage
IsDue due.Ended s = (s.out ≡ []) × IsDueOf due.Ended s.stage
IsDue due.Done s = (s.out ≡ []) × IsDueOf due.Done s.stage

-- the most units that a collection may have taken: while it is prepared, one for each arena that its zones had
abbrev pub limit_in : Stage → Tally → ℕ
limit_in idle t = unit_limit t
limit_in (preparing zones) t = t.arenas
limit_in (collecting zones marking groups) t = unit_limit t

abbrev pub is_prepared : Stage → Bool
is_prepared idle = false
is_prepared (preparing zones) = true
is_prepared (collecting zones marking groups) = false

-- as a slice ends with these reports, the definitions count the same since it began: the arenas and the units while the
-- collection is prepared; all there is from then on, beside the arenas that the slice swept
abbrev pub CountsAs : Bool → Tally → Tally → List Report → Type 0
CountsAs true mine t reports = (mine.arenas ≡ t.arenas) × (mine.spent ≡ t.spent)
CountsAs false mine t reports = mine ≡ record t { sweeps = t.sweeps + sweeps_in reports }

-- a slice of this number of units keeps the bound of the definitions, or is over it, by each tally that counts the same
abbrev pub KeepsBound : Shown → ℕ → Type 0
KeepsBound s k = (t : Tally) (reports : List Report) → CountsAs (is_prepared s.stage) s.tally t reports
    → MeetsUnitBound (is_prepared s.stage) t reports k

abbrev pub IsOverBound : Shown → ℕ → Type 0
IsOverBound s k = (t : Tally) (reports : List Report) → CountsAs (is_prepared s.stage) s.tally t reports
    → MeetsUnitBound (is_prepared s.stage) t reports k → ⊥

-- this number of units is done, within the bound
pub record Spends (old : Shown) (k : ℕ) (new : Shown) : Type 0 where
  pub within : KeepsBound old k
  pub new_is : new ≡ record old { tally = with_units k old.tally }
