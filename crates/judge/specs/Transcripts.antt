-- Lawful transcripts, by the definitions: behind each line of a trace, which is marked, the lines of a lawful answer to
-- its command. A transcript is the list of its lines. `IsLawful` says that such a list is lawful from the first world
-- on, `IsLawfulSoFar` that its answers are lawful and the last one has begun lawfully, `IsNoStart` that no lawful
-- transcript begins so.
use Rattle.std.specs.Prelude.{◌≡◌, ◌⊎◌, ℕ, ◌+◌, ◌<◌, ◌^◌, List, [], ◌∷◌, ◌++◌, map, length, codes, ⊤}
use Rattle.std.specs.List.{flat_map}
use Rattle.gz_io.specs.Lines.{EndsLine}
use Rattle.gz_names.specs.declared.names.Name.{Name}
use Rattle.gz_names.specs.declared.commands.Cmd.{Cmd}
use Rattle.gz_names.specs.declared.dumps.DumpLine.{DumpLine}
use Rattle.gz_names.specs.declared.replies.Reply.{Reply}
use Rattle.gz_names.specs.declared.replies.Reply.TheVariants as reply
use Rattle.gz_names.specs.declared.replies.Report.{Report}
use Rattle.gz_names.specs.declared.replies.Report.TheVariants as report
use Rattle.colour_defs.specs.World.{World, first_world}
use Rattle.colour_defs.specs.Lawful.{Answers, Run, StartsToAnswer}
use Rattle.trace_lang.specs.Grammar.{Spells}
use Rattle.trace_lang.specs.Texts.{line_of, name_words, reply_text, report_text}
use Rattle.judge.specs.Lines.{IsOneLine}
use Rattle.judge.specs.Replies.{marked}

-- the line that tells watched cells, behind that of a group's end; none where none died
abbrev pub told_lines : List Name → List (List ℕ)
told_lines [] = []
told_lines (x ∷ xs) = (codes "told" ++ name_words (x ∷ xs)) ∷ []

-- the lines of a report
abbrev pub lines_of_report : Report → List (List ℕ)
lines_of_report report.Started = report_text report.Started ∷ []
lines_of_report (report.Groups groups) = report_text (report.Groups groups) ∷ []
lines_of_report (report.Ended zones grays told) = report_text (report.Ended zones grays []) ∷ told_lines told
lines_of_report (report.Swept arena freed) = report_text (report.Swept arena freed) ∷ []
lines_of_report report.Done = report_text report.Done ∷ []
lines_of_report (report.Stopped zones) = report_text (report.Stopped zones) ∷ []

abbrev pub lines_of_reports : List Report → List (List ℕ)
lines_of_reports reports = flat_map lines_of_report reports

abbrev pub dump_line : DumpLine → List ℕ
dump_line l = reply_text (reply.Dump (l ∷ []))

-- the lines of a reply: a dump has many
abbrev pub lines_of_reply : Reply → List (List ℕ)
lines_of_reply (reply.Zone z) = reply_text (reply.Zone z) ∷ []
lines_of_reply (reply.Comp c) = reply_text (reply.Comp c) ∷ []
lines_of_reply (reply.Made n) = reply_text (reply.Made n) ∷ []
lines_of_reply (reply.Named x) = reply_text (reply.Named x) ∷ []
lines_of_reply reply.Null = reply_text reply.Null ∷ []
lines_of_reply reply.Accepted = reply_text reply.Accepted ∷ []
lines_of_reply reply.Absent = reply_text reply.Absent ∷ []
lines_of_reply reply.GcBegun = reply_text reply.GcBegun ∷ []
lines_of_reply (reply.Sliced k) = reply_text (reply.Sliced k) ∷ []
lines_of_reply reply.Collected = reply_text reply.Collected ∷ []
lines_of_reply reply.ResetDone = reply_text reply.ResetDone ∷ []
lines_of_reply (reply.Gray names) = reply_text (reply.Gray names) ∷ []
lines_of_reply (reply.Dump lines) = map dump_line lines
lines_of_reply (reply.Compacted moved given) = reply_text (reply.Compacted moved given) ∷ []
lines_of_reply (reply.Refused why) = reply_text (reply.Refused why) ∷ []

-- an answer: its reports and its reply
abbrev pub Answer : Type 0
Answer = List Report × Reply

abbrev pub lines_of_answer : Answer → List (List ℕ)
lines_of_answer answer = lines_of_reports answer.0 ++ lines_of_reply answer.1

-- the lines of a trace with their answers, one for one
abbrev pub transcript : List (List ℕ) → List Answer → List (List ℕ)
transcript [] answers = []
transcript (line ∷ lines) [] = []
transcript (line ∷ lines) (answer ∷ answers) = marked line ∷ (lines_of_answer answer ++ transcript lines answers)

-- the lines stand for the commands, one for one
abbrev pub StandForAll : List (List ℕ) → List Cmd → Type 0
StandForAll [] [] = ⊤
StandForAll (line ∷ lines) (c ∷ cs) = Spells line c × StandForAll lines cs
StandForAll [] (c ∷ cs) = ⊥
StandForAll (line ∷ lines) [] = ⊥

-- the number of units that a last line names is one that 64 bits hold
abbrev pub HasSmallNumber : Reply → Type 0
HasSmallNumber (reply.Zone z) = ⊤
HasSmallNumber (reply.Comp c) = ⊤
HasSmallNumber (reply.Made n) = ⊤
HasSmallNumber (reply.Named x) = ⊤
HasSmallNumber reply.Null = ⊤
HasSmallNumber reply.Accepted = ⊤
HasSmallNumber reply.Absent = ⊤
HasSmallNumber reply.GcBegun = ⊤
HasSmallNumber (reply.Sliced k) = k < 2 ^ 64
HasSmallNumber reply.Collected = ⊤
HasSmallNumber reply.ResetDone = ⊤
HasSmallNumber (reply.Gray names) = ⊤
HasSmallNumber (reply.Dump lines) = ⊤
HasSmallNumber (reply.Compacted moved given) = ⊤
HasSmallNumber (reply.Refused why) = ⊤

abbrev pub HaveSmallNumbers : List Answer → Type 0
HaveSmallNumbers [] = ⊤
HaveSmallNumbers (answer ∷ answers) = HasSmallNumber answer.1 × HaveSmallNumbers answers

-- a trace, lawful answers to its commands from a world on, and the world after them
pub record IsLawfulRun (w : World) (trace : List (List ℕ)) (answers : List Answer) (v : World) : Type 0 where
  pub commands : List Cmd
  pub stand : StandForAll trace commands
  pub run : Run w commands answers v
  pub small : HaveSmallNumbers answers

-- these lines are a lawful transcript from a world on
pub record IsLawfulFrom (w : World) (lines : List (List ℕ)) : Type 0 where
  pub trace : List (List ℕ)
  pub answers : List Answer
  pub after : World
  pub lawful : IsLawfulRun w trace answers after
  pub lines_are : lines ≡ transcript trace answers

abbrev pub IsLawful : List (List ℕ) → Type 0
IsLawful lines = IsLawfulFrom first_world lines

-- no lawful transcript begins with these lines
abbrev pub IsNoStart : List (List ℕ) → Type 0
IsNoStart lines = (more : List (List ℕ)) → IsLawful (lines ++ more) → ⊥

-- the lines of a lawful answer to a command, or of what units of it have reported so far
abbrev pub AreOfAnswer : World → Cmd → List (List ℕ) → Type 0
AreOfAnswer w c lines =
    ((reports : List Report) × (answer : Reply) × (v : World) × Answers w c reports answer v × HasSmallNumber answer
    × (lines ≡ lines_of_answer (reports, answer)))
    ⊎ ((reports : List Report) × StartsToAnswer w c reports × (lines ≡ lines_of_reports reports))

-- the line of a command, and some of the lines of its answer
pub record HasBegun (w : World) (lines : List (List ℕ)) : Type 0 where
  pub text : List ℕ
  pub command : Cmd
  pub stands : Spells text command
  pub whole : List (List ℕ)
  pub answer : AreOfAnswer w command whole
  pub more : List (List ℕ)
  pub front : marked text ∷ whole ≡ lines ++ more

-- each answer is lawful, and the last one has begun lawfully
pub record IsLawfulSoFar (lines : List (List ℕ)) : Type 0 where
  pub trace : List (List ℕ)
  pub answers : List Answer
  pub after : World
  pub lawful : IsLawfulRun first_world trace answers after
  pub last : List (List ℕ)
  pub begun : (last ≡ []) ⊎ HasBegun after last
  pub lines_are : lines ≡ transcript trace answers ++ last

-- the first lines of bytes, and the bytes behind them
abbrev pub HasLines : List ℕ → List (List ℕ) → List ℕ → Type 0
HasLines input [] rest = rest ≡ input
HasLines input (line ∷ lines) rest =
    (more : List ℕ) × IsOneLine line × EndsLine input more line × HasLines more lines rest

-- the bytes have the lines of a lawful transcript
abbrev pub HasLawfulLines : List ℕ → Type 0
HasLawfulLines input = (lines : List (List ℕ)) × HasLines input lines [] × IsLawful lines

-- over bytes: the lines that answer a command are its reports and its reply, as they are written
abbrev pub report_lines : List Report → List ℕ
report_lines reports = flat_map (λ r. line_of (report_text r)) reports

abbrev pub answer_lines : Answer → List ℕ
answer_lines answer = report_lines answer.0 ++ line_of (reply_text answer.1)

abbrev pub transcript_text : List (List ℕ) → List Answer → List ℕ
transcript_text [] answers = []
transcript_text (line ∷ lines) [] = []
transcript_text (line ∷ lines) (answer ∷ answers) =
    line_of (marked line) ++ (answer_lines answer ++ transcript_text lines answers)

-- bytes are this text, of which the last line feed may be lacking
abbrev pub IsText : List ℕ → List ℕ → Type 0
IsText input text = (input ≡ text) ⊎ (input ++ 10 ∷ [] ≡ text)

-- a trace with lawful answers to its commands from the first world on, and the bytes of their lines
pub record IsLawfulInput (input : List ℕ) : Type 0 where
  pub trace : List (List ℕ)
  pub answers : List Answer
  pub after : World
  pub lawful : IsLawfulRun first_world trace answers after
  pub text : IsText input (transcript_text trace answers)

-- the n-th line, counted from 1, is the first one with which no lawful transcript begins that goes on as the lines
-- before it do: these are lawful so far
pub record IsFirstUnlawful (input : List ℕ) (n : ℕ) : Type 0 where
  pub before : List (List ℕ)
  pub line : List ℕ
  pub rest : List ℕ
  pub has : HasLines input (before ++ line ∷ []) rest
  pub number : n ≡ length before + 1
  pub so_far : IsLawfulSoFar before
  pub none : IsNoStart (before ++ line ∷ [])
