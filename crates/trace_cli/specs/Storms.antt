-- What a storm leaves behind.
use Rattle.std.specs.Prelude.{◌≡◌, ◌≢◌, ◌↔◌, ◌⊎◌, ◌<◌, ℕ, List, [], ◌++◌, Option, Contains, AllPairs, codes, length}
use Rattle.std.specs.Fmt.{decimal}
use Rattle.std.specs.Io.KnownBytes.{Appends}
use Rattle.gz_io.specs.Causes.{AppendsFront}
use Rattle.gz_names.specs.declared.commands.Cmd.{Cmd}
use Rattle.gz_names.specs.declared.names.Name.{Name}
use Rattle.colour_defs.specs.Graph.{empty_graph}
use Rattle.colour_defs.specs.Laws.{IsValid}
use Rattle.colour_defs.specs.World.{World}
use Rattle.collection_laws.specs.Collected.{IsCollected, IsGray, IsKept}
use Rattle.collection_laws.specs.Graphs.{graph_after}
use Rattle.slice_driver.specs.Collector.{CollectorState}
use Rattle.slice_driver.specs.Represents.{Represents}
use Rattle.slice_driver.specs.Units.{none_flown}
use Rattle.storm_source.specs.Trace.{storm_lines}
use Rattle.trace_cli.specs.Headline.{StandForAll}
use Rattle.trace_cli.specs.declared.exit.Exit.{Exit}
use Rattle.trace_cli.specs.declared.exit.Exit.TheVariants as exit
use Rattle.trace_cli.specs.declared.storm.Summary.{Summary}

-- the four lines
abbrev pub summary_text : Summary → List ℕ
summary_text s =
    codes "storm " ++ decimal s.seed ++ codes " " ++ decimal s.lines ++ codes "\ncells " ++ decimal s.cells
    ++ codes "\nkept " ++ decimal s.kept ++ codes "\ngray " ++ decimal s.gray ++ codes "\n"

-- this number of names meet P
pub record Counts (P : Name → Type 0) (n : ℕ) : Type 0 where
  pub names : List Name
  pub exact : (x : Name) → Contains names x ↔ P x
  pub each_once : AllPairs (λ x y. x ≢ y) names
  pub number : length names ≡ n

-- the summary of a storm. Its lines stand for commands, and these lead to a graph: how many objects and maps were made
-- in it, how many names its registers and gray slots reach, and how many of these no register reaches
pub record IsSummary (seed lines : ℕ) (s : Summary) : Type 0 where
  pub seed_is : s.seed ≡ seed
  pub lines_is : s.lines ≡ lines
  pub commands : List Cmd
  pub stand : StandForAll (storm_lines seed lines) commands
  pub cells_are : s.cells ≡ length (graph_after empty_graph commands).objects
  pub kept_are : Counts (IsKept (graph_after empty_graph commands)) s.kept
  pub gray_are : Counts (IsGray (graph_after empty_graph commands)) s.gray

-- what was written of it, by the exit
abbrev pub Storms : ℕ → ℕ → Option (List ℕ) → Option (List ℕ) → Exit → Type 0
Storms seed lines old new exit.Done = (s : Summary) × IsSummary seed lines s × Appends old new (summary_text s)
Storms seed lines old new exit.WriteFault =
    Appends old new [] ⊎ ((s : Summary) × IsSummary seed lines s × AppendsFront old new (summary_text s))
Storms seed lines old new exit.NoMemory = Appends old new []
Storms seed lines old new exit.TooManyLines = (4294967276 < lines) × Appends old new []
Storms seed lines old new exit.Usage = ⊥
Storms seed lines old new (exit.BadLine n) = ⊥
Storms seed lines old new exit.ReadFault = ⊥
Storms seed lines old new exit.Unsound = ⊥

-- a collector after the whole trace
pub record IsLeftByStorm (seed lines : ℕ) (c : CollectorState) : Type 0 where
  pub commands : List Cmd
  pub stand : StandForAll (storm_lines seed lines) commands
  pub world : World
  pub represents : Represents c none_flown world
  pub valid : IsValid world
  pub collected : IsCollected world
  pub graph_is : world.graph ≡ graph_after empty_graph commands

-- why a trace was not answered to its end
abbrev pub StopsStorm : ℕ → Exit → Type 0
StopsStorm lines x = (x ≡ exit.NoMemory) ⊎ ((x ≡ exit.TooManyLines) × (4294967276 < lines))
