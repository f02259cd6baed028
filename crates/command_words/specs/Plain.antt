-- The plain words of a command line.
use Rattle.std.specs.Prelude.{◌≡◌, ℕ, ◌<◌, ◌≤◌, ◌⊎◌, List, [], ◌∷◌, ◌++◌, codes}
use Rattle.std.specs.Fmt.{decimal}
use Rattle.command_words.specs.declared.line.CommandLine.{CommandLine}
use Rattle.command_words.specs.declared.line.CommandLine.TheVariants as line

-- `--helpers N` says how many helpers there are, up to 4; there are 2 where it is left out
abbrev pub AreHelpersWords : List (List ℕ) → ℕ → Type 0
AreHelpersWords words n =
    ((words ≡ []) × (n ≡ 2)) ⊎ ((words ≡ codes "--helpers" ∷ decimal n ∷ []) × (n ≤ 4))

-- `--markers M` says how many markers there are, 1 or 2; there is 1 where it is left out
abbrev pub AreMarkersWords : List (List ℕ) → ℕ → Type 0
AreMarkersWords words m =
    ((words ≡ []) × (m ≡ 1)) ⊎ ((words ≡ codes "--markers" ∷ decimal m ∷ []) × (1 ≤ m) × (m ≤ 2))

-- the program's name, and then a form of the command line in its written order, numbers in decimal digits
abbrev pub ArePlainFor : List (List ℕ) → CommandLine → Type 0
ArePlainFor words (line.Run helpers markers) =
    (name : List ℕ) × (first : List (List ℕ)) × (rest : List (List ℕ))
    × (words ≡ name ∷ codes "run" ∷ (first ++ rest)) × AreHelpersWords first helpers × AreMarkersWords rest markers
ArePlainFor words (line.Storm seed lines helpers) =
    (name : List ℕ) × (rest : List (List ℕ))
    × (words ≡ name ∷ codes "storm" ∷ decimal seed ∷ decimal lines ∷ rest) × (seed < 2147483648) × (0 < lines)
    × (lines ≤ 1000000) × AreHelpersWords rest helpers
ArePlainFor words line.Check = (name : List ℕ) × (words ≡ name ∷ codes "check" ∷ [])
