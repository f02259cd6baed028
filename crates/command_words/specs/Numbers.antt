-- What the words of a command line say.
use Rattle.std.specs.Prelude.{◌≡◌, ◌<◌, ◌≤◌, ⊤, ℕ, List, Option, Some, None, codes}
use Rattle.std.specs.Str.Parse.{digits_value, without_leading_plus}
use Rattle.clap.specs.Words.{Row, Text, one_of}
use Rattle.command_words.specs.declared.line.CommandLine.{CommandLine}
use Rattle.command_words.specs.declared.line.CommandLine.TheVariants as line

-- the first value that was given to an argument, or its default, reads as this number
abbrev pub GivesNumber : List Row → Text → ℕ → Type 0
GivesNumber rows id n =
    (text : Text) × (one_of id rows ≡ Some text) × (n ≡ digits_value 10 (without_leading_plus text))

-- what a subcommand's name and what was given to its arguments say
abbrev pub Says : Text → List Row → CommandLine → Type 0
Says name rows (line.Run helpers markers) =
    (name ≡ codes "run") × GivesNumber rows (codes "helpers") helpers × GivesNumber rows (codes "markers") markers
Says name rows (line.Storm seed lines helpers) =
    (name ≡ codes "storm") × GivesNumber rows (codes "seed") seed × GivesNumber rows (codes "lines") lines
    × GivesNumber rows (codes "helpers") helpers
Says name rows line.Check = name ≡ codes "check"

-- what the subcommand says that clap found
abbrev pub FoundSays : Option (Text × List Row) → CommandLine → Type 0
FoundSays None line = ⊥
FoundSays (Some found) line = Says found.0 found.1 line

-- the ranges of the numbers
abbrev pub IsInRange : CommandLine → Type 0
IsInRange (line.Run helpers markers) = (helpers ≤ 4) × (1 ≤ markers) × (markers ≤ 2)
IsInRange (line.Storm seed lines helpers) = (seed < 2147483648) × (0 < lines) × (lines ≤ 1000000) × (helpers ≤ 4)
IsInRange line.Check = ⊤
