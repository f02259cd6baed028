-- The texts of names, replies and reports, also of those that no command of the language asks for.
use Rattle.std.specs.Prelude.{ℕ, ◌+◌, ◌==◌, List, [], ◌∷◌, ◌++◌, codes, if◌then◌else◌}
use Rattle.std.specs.Fmt.{decimal}
use Rattle.gz_names.specs.Zones.{zones_in}
use Rattle.gz_names.specs.declared.zone_sets.ZoneSet.{ZoneSet}
use Rattle.gz_names.specs.declared.names.Name.{Name}
use Rattle.gz_names.specs.declared.replies.Refusal.{Refusal}
use Rattle.gz_names.specs.declared.replies.Refusal.TheVariants as refusal
use Rattle.gz_names.specs.declared.replies.Reply.{Reply}
use Rattle.gz_names.specs.declared.replies.Reply.TheVariants as reply
use Rattle.gz_names.specs.declared.replies.Report.{Report}
use Rattle.gz_names.specs.declared.replies.Report.TheVariants as report
use Rattle.gz_names.specs.declared.dumps.DumpLine.{DumpLine}
use Rattle.gz_names.specs.DumpTexts as dump
use Rattle.trace_lang.specs.Words.{number_word, number_words}

-- an object or a map is printed as its number, a wrapper as its compartment, a colon and its target
abbrev pub name_text : Name → List ℕ
name_text x = dump.name_text x

-- names, each behind a space
abbrev pub name_words : List Name → List ℕ
name_words [] = []
name_words (x ∷ xs) = 32 ∷ (name_text x ++ name_words xs)

-- a list of names behind a space; an empty one is `-`
abbrev pub names_text : List Name → List ℕ
names_text [] = codes " -"
names_text (x ∷ xs) = name_words (x ∷ xs)

abbrev pub refusal_text : Refusal → List ℕ
refusal_text refusal.Full = codes "full"
refusal_text refusal.NoZone = codes "no-zone"
refusal_text refusal.NoComp = codes "no-comp"
refusal_text refusal.Empty = codes "empty"
refusal_text refusal.Kind = codes "kind"
refusal_text refusal.NoField = codes "no-field"
refusal_text refusal.Cross = codes "cross"
refusal_text refusal.Running = codes "running"
refusal_text refusal.Idle = codes "idle"
refusal_text refusal.Marking = codes "marking"

-- a line feed stands before each line but the first
abbrev pub break_text : ℕ → List ℕ
break_text n = if n == 0 then [] else 10 ∷ []

-- lines of a dump, from the n-th on
abbrev pub dump_lines_text : ℕ → List DumpLine → List ℕ
dump_lines_text n [] = []
dump_lines_text n (l ∷ ls) = (break_text n ++ dump.dump_text l) ++ dump_lines_text (n + 1) ls

abbrev pub reply_text : Reply → List ℕ
reply_text (reply.Zone z) = codes "zone " ++ decimal z
reply_text (reply.Comp c) = codes "comp " ++ decimal c.0
reply_text (reply.Made n) = codes "cell " ++ decimal n
reply_text (reply.Named x) = name_text x
reply_text reply.Null = codes "null"
reply_text reply.Accepted = codes "ok"
reply_text reply.Absent = codes "absent"
reply_text reply.GcBegun = codes "gc ok"
reply_text (reply.Sliced k) = codes "slice " ++ decimal k
reply_text reply.Collected = codes "collected"
reply_text reply.ResetDone = codes "reset ok"
reply_text (reply.Gray names) = codes "gray" ++ names_text names
reply_text (reply.Dump lines) = dump_lines_text 0 lines
reply_text (reply.Compacted moved given) = codes "compacted" ++ number_word moved ++ number_word given
reply_text (reply.Refused r) = refusal_text r

-- a bar stands before each group but the first
abbrev pub bar_text : ℕ → List ℕ
bar_text n = if n == 0 then [] else codes " |"

-- groups of zones, from the n-th on
abbrev pub groups_text : ℕ → List ZoneSet → List ℕ
groups_text n [] = []
groups_text n (g ∷ gs) = (bar_text n ++ number_words (zones_in g)) ++ groups_text (n + 1) gs

-- the line of the watched names that died; no line where there are none
abbrev pub told_line : List Name → List ℕ
told_line [] = []
told_line (x ∷ xs) = codes "told" ++ name_words (x ∷ xs) ++ 10 ∷ []

-- this line, behind the one before it
abbrev pub told_text : List Name → List ℕ
told_text [] = []
told_text (x ∷ xs) = 10 ∷ codes "told" ++ name_words (x ∷ xs)

abbrev pub report_text : Report → List ℕ
report_text report.Started = codes "started"
report_text (report.Groups groups) = codes "groups" ++ groups_text 0 groups
report_text (report.Ended zones names told) =
    codes "ended" ++ number_words (zones_in zones) ++ codes " gray" ++ names_text names ++ told_text told
report_text (report.Swept arena names) = codes "swept " ++ decimal arena ++ names_text names
report_text report.Done = codes "done"
report_text (report.Stopped zones) = codes "stopped" ++ number_words (zones_in zones)

-- a line with its line feed
abbrev pub line_of : List ℕ → List ℕ
line_of text = text ++ 10 ∷ []
