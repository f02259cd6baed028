-- What a verdict says: each line of the trace is one of the language; each command on the graph has the reply that the
-- definitions give it; a collection begins, goes on, ends and is refused as they say; and each answer has its last
-- line, behind the reports that its collection is due, in their order, with the cells that they name.
use Rattle.std.specs.Prelude.{◌≡◌, ◌≢◌, ◌⊎◌, ℕ, ◌+◌, ◌^◌, ◌<◌, ◌≤◌, Bool, true, false, List, [], ◌∷◌, ◌++◌, drop}
use Rattle.std.specs.Prelude.{Option}
use Rattle.std.specs.Prelude.{Some, None, Result, Ok, Err, Contains, codes, ⊤}
use Rattle.gz_io.specs.Lines.{EndsLine}
use Rattle.gz_names.specs.Zones.{HasZone, zones_in}
use Rattle.gz_names.specs.declared.zone_sets.ZoneSet.{ZoneSet}
use Rattle.gz_names.specs.declared.names.Name.{Name}
use Rattle.gz_names.specs.declared.commands.Cmd.{Cmd}
use Rattle.gz_names.specs.declared.commands.Cmd.TheVariants as command
use Rattle.gz_names.specs.declared.commands.WeakCmd.{WeakCmd}
use Rattle.gz_names.specs.declared.commands.WeakCmd.TheVariants as weak_command
use Rattle.gz_names.specs.declared.replies.Reply.TheVariants as answer
use Rattle.gz_names.specs.declared.replies.Refusal.{Refusal}
use Rattle.gz_names.specs.declared.replies.Refusal.TheVariants as refusal
use Rattle.gz_names.specs.declared.dumps.DumpLine.{DumpLine}
use Rattle.colour_defs.specs.Graph.{GraphState, empty_graph, register_cell}
use Rattle.colour_defs.specs.Step.{named_or_null, step_of, with_register}
use Rattle.trace_lang.specs.Grammar.{Spells}
use Rattle.trace_lang.specs.Texts.{reply_text}
use Rattle.colour_defs.specs.Ends.{Lists}
use Rattle.judge.specs.Bounds.{arena_count, with_arenas}
use Rattle.judge.specs.Cells.{HasCell}
use Rattle.judge.specs.Compaction.{Packs}
use Rattle.judge.specs.Dumps.{ListsDump}
use Rattle.judge.specs.Lines.{IsOneLine}
use Rattle.judge.specs.Stages.{Stage, idle, preparing, collecting, Shown, IsFirst, IsOver, IsSettled, IsReportedLine}
use Rattle.judge.specs.Running.{HasUnits}
use Rattle.judge.specs.Stages.{IsWrongReportLine, IsWrongResetLine}
use Rattle.judge.specs.Stages.{IsResetLine, Obeys, Spends, TakesNamed}
use Rattle.judge.specs.Starts.{LeavesOut}
use Rattle.judge.specs.Weak.{Unwatches, Watches, is_watched, weak_slot, with_weak_slot}
use Rattle.judge.specs.declared.answers.Awaited.{Awaited}
use Rattle.judge.specs.declared.answers.Awaited.TheVariants as awaited

-- a line of a trace, behind its mark `> `
abbrev pub marked : List ℕ → List ℕ
marked text = 62 ∷ 32 ∷ text

-- a line of an answer
abbrev pub IsUnmarked : List ℕ → Type 0
IsUnmarked line = (text : List ℕ) → line ≡ marked text → ⊥

-- what is due: nothing; this line; these lines of a dump; reports and a last line, with the most units that a
-- slice may have, whether the line is that of `collect`, and how many reports came before, but for `told` and `done`;
-- or the reports of a reset
pub data Due : Type 0 where
  nothing : Due
  reply : List ℕ → Due
  dump : List DumpLine → Due
  units : Option ℕ → Bool → ℕ → Due
  resets : Due

-- each of these zones is made
abbrev pub AreMade : GraphState → ZoneSet → Type 0
AreMade g zones = (z : ℕ) → HasZone zones.bits z → z < g.zones

-- a reply that refuses a command
abbrev pub refused : Refusal → Due
refused why = reply (reply_text (answer.Refused why))

-- what is due where a collection begins, for `collect` or for `gc`
abbrev pub begun_due : Bool → Due
begun_due true = units None true 0
begun_due false = reply (reply_text answer.GcBegun)

-- why a collection or a compaction does not begin: a collection runs already; or what it is of is not made
abbrev pub IsRefusal : Type 0 → Stage → Refusal → Type 0
IsRefusal Made s why =
    ((why ≡ refusal.Running) × (s ≢ idle)) ⊎ ((why ≡ refusal.NoZone) × (s ≡ idle) × (Made → ⊥))

-- what is due for `gc` and `collect`, and what the world shows then
abbrev pub Begins : GraphState → ZoneSet → Due → Shown → Due → Shown → Type 0
Begins g zones begun old due new =
    ((why : Refusal) × IsRefusal (AreMade g zones) old.stage why × (due ≡ refused why) × (new ≡ old))
    ⊎ ((old.stage ≡ idle) × AreMade g zones × (due ≡ begun)
    × LeavesOut g (zones_in zones) old.cells old.black.names new.left_out
    × (new ≡ record old {
      stage = preparing zones;
      left_out = new.left_out;
      walks = None;
      tally = with_arenas (arena_count (zones_in zones) old.owners);
    }))

-- what is due for `slice`, `finish` and `reset`: `idle` where no collection runs
abbrev pub GoesOn : Due → Stage → Due → Type 0
GoesOn running s due = ((s ≢ idle) × (due ≡ running)) ⊎ ((s ≡ idle) × (due ≡ refused refusal.Idle))

-- what is due for `colours`: the present names that are not black; `marking` while zones are being prepared or are
-- marking
abbrev pub ListsGray : Shown → Due → Type 0
ListsGray s due =
    (IsSettled s.stage × (names : List Name) × Lists (λ x. HasCell s.cells x × (Contains s.black.names x → ⊥)) names
    × (due ≡ reply (reply_text (answer.Gray names))))
    ⊎ ((IsSettled s.stage → ⊥) × (due ≡ refused refusal.Marking))

-- what is due for `dump`
abbrev pub Dumps : GraphState → Shown → Due → Type 0
Dumps g s due =
    (IsSettled s.stage × (lines : List DumpLine) × ListsDump g s lines × (due ≡ dump lines))
    ⊎ ((IsSettled s.stage → ⊥) × (due ≡ refused refusal.Marking))

-- what is due for `compact`, and what the world shows then
abbrev pub AsksCompact : GraphState → ℕ → Shown → Due → Shown → Type 0
AsksCompact g zone old due new =
    ((why : Refusal) × IsRefusal (zone < g.zones) old.stage why × (due ≡ refused why) × (new ≡ old))
    ⊎ ((old.stage ≡ idle) × (zone < g.zones) × (moved : ℕ) × (given_up : ℕ)
    × (due ≡ reply (reply_text (answer.Compacted moved given_up))) × Packs g zone old moved given_up new)

-- what is due for `watch` and `unwatch`, by what their register holds
abbrev pub AsksWatch : Option Name → Shown → Due → Shown → Type 0
AsksWatch None old due new = (due ≡ refused refusal.Empty) × (new ≡ old)
AsksWatch (Some x) old due new =
    (due ≡ reply (reply_text answer.Accepted)) × (new ≡ record old { weak = new.weak }) × Watches old.weak x new.weak

abbrev pub AsksUnwatch : Option Name → Shown → Due → Shown → Type 0
AsksUnwatch None old due new = (due ≡ refused refusal.Empty) × (new ≡ old)
AsksUnwatch (Some x) old due new =
    ((is_watched old.weak x ≡ false) × (due ≡ reply (reply_text answer.Absent)) × (new ≡ old))
    ⊎ ((is_watched old.weak x ≡ true) × (due ≡ reply (reply_text answer.Accepted))
    × (new ≡ record old { weak = new.weak }) × Unwatches old.weak x new.weak)

-- what is due for a command on weak slots and watched cells. A weak slot names what a register holds, or becomes
-- empty; a register takes what a weak slot names, or becomes empty
abbrev pub AsksWeak : GraphState → Shown → WeakCmd → Due → Shown → Type 0
AsksWeak g old (weak_command.Weaken q r) due new =
    (due ≡ reply (reply_text answer.Accepted))
    × (new ≡ record old { weak = with_weak_slot old.weak q (register_cell g r) })
AsksWeak g old (weak_command.Deref r q) due new =
    (due ≡ reply (reply_text (named_or_null (weak_slot old.weak q)))) × TakesNamed g r (weak_slot old.weak q) old new
AsksWeak g old (weak_command.Watch r) due new = AsksWatch (register_cell g r) old due new
AsksWeak g old (weak_command.Unwatch r) due new = AsksUnwatch (register_cell g r) old due new

-- what is due for a command, by what the world shows before it and after it
abbrev pub Asks : GraphState → Shown → Cmd → Due → Shown → Type 0
Asks g old (command.Graph c) due new =
    (due ≡ reply (reply_text (step_of g c).1)) × Obeys g c old new
Asks g old (command.Gc zones) due new = Begins g zones (begun_due false) old due new
Asks g old (command.Slice n) due new = GoesOn (units (Some n) false 0) old.stage due × (new ≡ old)
Asks g old command.Finish due new = GoesOn (units None false 0) old.stage due × (new ≡ old)
Asks g old (command.Collect zones) due new = Begins g zones (begun_due true) old due new
Asks g old command.Colours due new = ListsGray old due × (new ≡ old)
Asks g old command.Dump due new = Dumps g old due × (new ≡ old)
Asks g old command.Reset due new = GoesOn resets old.stage due × (new ≡ old)
Asks g old (command.Weak c) due new = AsksWeak g old c due new
Asks g old (command.Compact zone) due new = AsksCompact g zone old due new

-- the graph that never frees after a command: a collection leaves it as it is
abbrev pub graph_after_weak : GraphState → Shown → WeakCmd → GraphState
graph_after_weak g s (weak_command.Weaken q r) = g
graph_after_weak g s (weak_command.Deref r q) = with_register g r (weak_slot s.weak q)
graph_after_weak g s (weak_command.Watch r) = g
graph_after_weak g s (weak_command.Unwatch r) = g

abbrev pub graph_after : GraphState → Shown → Cmd → GraphState
graph_after g s (command.Graph c) = (step_of g c).0
graph_after g s (command.Gc zones) = g
graph_after g s (command.Slice n) = g
graph_after g s command.Finish = g
graph_after g s (command.Collect zones) = g
graph_after g s command.Colours = g
graph_after g s command.Dump = g
graph_after g s command.Reset = g
graph_after g s (command.Weak c) = graph_after_weak g s c
graph_after g s (command.Compact zone) = g

-- a number of units for `finish`, or for a slice of at most n: fewer only if the collection is over
abbrev pub IsWithin : Option ℕ → ℕ → Stage → Type 0
IsWithin None k s = s ≡ idle
IsWithin (Some n) k s = (k ≤ n) × (k < n → s ≡ idle)

-- the last line of a slice names a number of units that 64 bits hold: at least one for each report but `told` and
-- `done`. It does not come before a `told` line that is due, nor between the last arena and `done`, and the units keep
-- the bound
pub record IsSliced (most : Option ℕ) (reports : ℕ) (old : Shown) (line : List ℕ) (new : Shown) : Type 0 where
  pub number : ℕ
  pub small : number < 2 ^ 64
  pub line_is : line ≡ reply_text (answer.Sliced number)
  pub enough : reports ≤ number
  pub none_told : old.told ≡ []
  pub not_over : IsOver old → ⊥
  pub within : IsWithin most number old.stage
  pub spends : Spends old number new

-- the last line of an answer with units. That of `collect` comes once the collection is over
abbrev pub IsLast : Option ℕ → Bool → ℕ → Shown → List ℕ → Shown → Type 0
IsLast most true reports old line new =
    (line ≡ codes "collected") × (old.stage ≡ idle) × (new ≡ old) × (old.told ≡ [])
IsLast most false reports old line new = IsSliced most reports old line new

-- a line begins as a last one does, of `collect` or of a slice
abbrev pub LooksLast : Bool → List ℕ → Type 0
LooksLast true line = line ≡ codes "collected"
LooksLast false line = (rest : List ℕ) × (line ≡ codes "slice " ++ rest)

-- a report that comes with another one
abbrev pub IsUncounted : List ℕ → Type 0
IsUncounted line = (line ≡ codes "done") ⊎ ((rest : List ℕ) × (line ≡ codes "told " ++ rest))

-- how many reports came, but for `told` and `done`, with this one
abbrev pub Counts : ℕ → List ℕ → ℕ → Type 0
Counts reports line more =
    (IsUncounted line × (more ≡ reports)) ⊎ ((IsUncounted line → ⊥) × (more ≡ reports + 1))

-- what is due after some lines of a dump
abbrev pub dump_due : List DumpLine → Due
dump_due [] = nothing
dump_due (l ∷ ls) = dump (l ∷ ls)

abbrev pub IsDumped : List DumpLine → List ℕ → Due → Type 0
IsDumped [] line next = ⊥
IsDumped (l ∷ ls) line next = (line ≡ reply_text (answer.Dump (l ∷ []))) × (next ≡ dump_due ls)

-- what is due after a report of a reset
abbrev pub after_reset : Stage → Due
after_reset idle = reply (reply_text answer.ResetDone)
after_reset (preparing zones) = resets
after_reset (collecting zones marking groups) = resets

-- what may be due after a line of an answer, by what the world shows before the line and after it
abbrev pub IsAnswered : GraphState → Shown → Due → List ℕ → Shown → Due → Type 0
IsAnswered g old nothing line new next = ⊥
IsAnswered g old (reply due) line new next = (line ≡ due) × (next ≡ nothing) × (new ≡ old)
IsAnswered g old (dump lines) line new next = IsDumped lines line next × (new ≡ old)
IsAnswered g old (units most collects reports) line new next =
    (IsReportedLine g old line new × (more : ℕ) × Counts reports line more × HasUnits most more
    × (next ≡ units most collects more))
    ⊎ (IsLast most collects reports old line new × (next ≡ nothing))
IsAnswered g old resets line new next = IsResetLine g old line new × (next ≡ after_reset new.stage)

-- a line that is wrong where this is due: it is not the one that is due, no right last line, and no right report, or
-- one more than a slice has units
abbrev pub IsWrongAnswer : GraphState → Shown → Due → List ℕ → Type 0
IsWrongAnswer g s nothing line = ⊤
IsWrongAnswer g s (reply due) line = line ≢ due
IsWrongAnswer g s (dump lines) line = (next : Due) → IsDumped lines line next → ⊥
IsWrongAnswer g s (units most collects reports) line =
    ((new : Shown) → IsLast most collects reports s line new → ⊥)
    × ((more : ℕ) → Counts reports line more → HasUnits most more → IsWrongReportLine g s line)
IsWrongAnswer g s resets line = IsWrongResetLine s line

-- what is due while this is awaited
abbrev pub due_as : Awaited → Due
due_as awaited.Nothing = nothing
due_as (awaited.Reply text) = reply text.items
due_as (awaited.Dump lines next) = dump (drop next lines.items)
due_as (awaited.Units running) = units running.most running.collects running.reports
due_as awaited.Reset = resets

-- what is said of a line of an answer: what is awaited after it, or that it is wrong
abbrev pub IsJudgedLine : {K : Type 0} → GraphState → Shown → Due → List ℕ → Shown → Result Awaited K → Type 0
IsJudgedLine g old due line new (Ok awaited) = IsAnswered g old due line new (due_as awaited)
IsJudgedLine g old due line new (Err kind) = IsWrongAnswer g old due line

-- a text stands for this command, and for no other
abbrev pub IsRead : List ℕ → Cmd → Type 0
IsRead text c = Spells text c × ((other : Cmd) → Spells text other → other ≡ c)

-- n lines come first, the rest is left; the commands among them lead to this graph, each has behind it what is due for
-- it; this is what the world shows then, and this is due
pub data Judged (input : List ℕ) : ℕ → List ℕ → GraphState → Shown → Due → Type 0 where
  none : {s : Shown} → IsFirst s → Judged input 0 input empty_graph s nothing
  asked : {n : ℕ} {rest more line text : List ℕ} {g : GraphState} {c : Cmd} {old new : Shown} {due : Due}
      → Judged input n rest g old nothing → IsOneLine line → EndsLine rest more line → line ≡ marked text
      → IsRead text c → Asks g old c due new → Judged input (n + 1) more (graph_after g old c) new due
  answered : {n : ℕ} {rest more line : List ℕ} {g : GraphState} {due next : Due} {old new : Shown}
      → Judged input n rest g old due → IsOneLine line → EndsLine rest more line → IsUnmarked line
      → IsAnswered g old due line new next → Judged input (n + 1) more g new next

-- a line that is fine: the graph after it, what the world shows, and what is due then
abbrev pub Steps : GraphState → Shown → Due → List ℕ → GraphState → Shown → Due → Type 0
Steps g old due line h new next =
    ((text : List ℕ) × (c : Cmd) × (due ≡ nothing) × (line ≡ marked text) × IsRead text c × (h ≡ graph_after g old c)
    × Asks g old c next new)
    ⊎ (IsUnmarked line × (h ≡ g) × IsAnswered g old due line new next)
