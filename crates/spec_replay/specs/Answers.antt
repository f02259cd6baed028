-- What a line is answered, and what a whole trace is.
use Rattle.std.specs.Prelude.{◌≡◌, ◌⊎◌, ℕ, zero, suc, ◌+◌, ◌-◌, ◌^◌, List, [], ◌++◌, Option, Some, codes, ⊤}
use Rattle.std.specs.Io.KnownBytes.{Appends, prepend_known}
use Rattle.gz_io.specs.Lines.{EndsLine, IsNotAscii, IsPlain, IsTooLong}
use Rattle.gz_names.specs.declared.names.Name.{Name}
use Rattle.gz_names.specs.declared.commands.Cmd.{Cmd}
use Rattle.gz_names.specs.declared.commands.Cmd.TheVariants as command
use Rattle.colour_defs.specs.Graph.{GraphState, empty_graph}
use Rattle.colour_defs.specs.Step.{step_of}
use Rattle.colour_defs.specs.Ends.{Lists}
use Rattle.trace_lang.specs.Grammar.{Spells}
use Rattle.trace_lang.specs.Texts.{names_text, reply_text, line_of}
use Rattle.spec_replay.specs.Reached.{IsBlackNow, IsLiveNow}
use Rattle.spec_replay.specs.declared.reading.ReplayEnd.{ReplayEnd}
use Rattle.spec_replay.specs.declared.reading.ReplayEnd.TheVariants as end

-- the lines of what is reached, each name once and ascending
pub record WritesReached (g : GraphState) (text : List ℕ) : Type 0 where
  pub black : List Name
  pub black_are : Lists (IsBlackNow g) black
  pub live : List Name
  pub live_are : Lists (IsLiveNow g) live
  pub text_is : text ≡ line_of (codes "black" ++ names_text black) ++ line_of (codes "live" ++ names_text live)

-- what a command writes, and the graph after it. A collection changes nothing in a graph that never frees, and
-- has no answer
abbrev pub WritesAnswer : GraphState → Cmd → List ℕ → GraphState → Type 0
WritesAnswer g (command.Graph c) text h = (text ≡ line_of (reply_text (step_of g c).1)) × (h ≡ (step_of g c).0)
WritesAnswer g (command.Weak c) text h = (text ≡ []) × (h ≡ g)
WritesAnswer g (command.Gc zones) text h = (text ≡ []) × (h ≡ g)
WritesAnswer g (command.Slice n) text h = (text ≡ []) × (h ≡ g)
WritesAnswer g command.Finish text h = (text ≡ []) × (h ≡ g)
WritesAnswer g (command.Collect zones) text h = (text ≡ []) × (h ≡ g)
WritesAnswer g command.Reset text h = (text ≡ []) × (h ≡ g)
WritesAnswer g command.Colours text h = WritesReached g text × (h ≡ g)
WritesAnswer g command.Dump text h = (text ≡ []) × (h ≡ g)
WritesAnswer g (command.Compact zone) text h = (text ≡ []) × (h ≡ g)

-- the line stands for a command, which writes this
pub record AnswersLine (g : GraphState) (line text : List ℕ) (h : GraphState) : Type 0 where
  pub command : Cmd
  pub spelled : Spells line command
  pub written : WritesAnswer g command text h

-- of the bytes n lines come first, each is answered, and the rest is left
pub data Answers (g : GraphState) (input : List ℕ) : ℕ → List ℕ → List ℕ → GraphState → Type 0 where
  none : Answers g input 0 input [] g
  next : {n : ℕ} {rest more line text answer : List ℕ} {h k : GraphState} → Answers g input n rest text h
      → EndsLine rest more line → AnswersLine h line answer k → Answers g input (n + 1) more (text ++ answer) k

-- the next line is none of the language
abbrev pub IsBadNext : List ℕ → Type 0
IsBadNext rest = ((line more : List ℕ) × EndsLine rest more line × ((c : Cmd) → Spells line c → ⊥))
    ⊎ (IsTooLong rest ⊎ IsNotAscii rest)

-- n lines were answered, and this was written
abbrev pub HasAnswered : List ℕ → ℕ → List ℕ → Option (List ℕ) → Option (List ℕ) → Type 0
HasAnswered input n rest old new =
    (text : List ℕ) × (h : GraphState) × Answers empty_graph input n rest text h × Appends old new text

-- the bytes are this number of lines, each of which stands for a command
abbrev pub IsTrace : ℕ → List ℕ → Type 0
IsTrace zero input = input ≡ []
IsTrace (suc n) input =
    (line more : List ℕ) × (c : Cmd) × EndsLine input more line × Spells line c × IsTrace n more

-- what was written, by how the replay ends: the answers of whole lines. At a failed read these are all lines that have
-- their line feed in the bytes taken: what was taken behind them, before the bytes that are left, has none. After a
-- failed write nothing is told
abbrev pub EndsBy : List ℕ → Option (List ℕ) → Option (List ℕ) → Option (List ℕ) → ReplayEnd → Type 0
EndsBy input left old new end.Done = (n : ℕ) × HasAnswered input n [] old new
EndsBy input left old new (end.BadLine n) =
    (k : ℕ) × (rest : List ℕ) × HasAnswered input k rest old new × IsBadNext rest × (n ≡ k + 1)
EndsBy input left old new end.ReadFault = (n : ℕ) × (rest held : List ℕ) × HasAnswered input n rest old new
    × IsPlain held × (prepend_known held left ≡ Some rest)
EndsBy input left old new end.WriteFault = ⊤
EndsBy input left old new end.NoMemory = (n : ℕ) × (rest : List ℕ) × HasAnswered input n rest old new
EndsBy input left old new end.TooManyLines =
    (n : ℕ) × (rest : List ℕ) × (n ≡ 2 ^ 64 - 1) × HasAnswered input n rest old new
