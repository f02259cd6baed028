-- Numbers over whole runs.
use Rattle.std.specs.Prelude.{ℕ, List, [], ◌∷◌, ◌++◌}
use Rattle.gz_names.specs.declared.names.Name.{Name}
use Rattle.gz_names.specs.declared.replies.Reply.{Reply}
use Rattle.gz_names.specs.declared.replies.Report.{Report}
use Rattle.collection_laws.specs.Numbers.{GivesNext, freed_in, given_after}

-- where this many numbers were given before: each answer gives the next one or none
abbrev pub GiveInOrder : ℕ → List (List Report × Reply) → Type 0
GiveInOrder given [] = Unit {0}
GiveInOrder given (a ∷ answers) = GivesNext given a.1 × GiveInOrder (given_after given a.1) answers

-- how many were given after them
abbrev pub given_in : ℕ → List (List Report × Reply) → ℕ
given_in given [] = given
given_in given (a ∷ answers) = given_in (given_after given a.1) answers

-- the names that the reports of answers list as freed
abbrev pub freed_by : List (List Report × Reply) → List Name
freed_by [] = []
freed_by (a ∷ answers) = freed_in a.0 ++ freed_by answers
