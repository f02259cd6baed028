-- How many reports a slice may have.
use Rattle.std.specs.Prelude.{◌≡◌, ◌≤◌, ℕ, Option, Some}

-- a slice of this number of units at most may have this number of reports
abbrev pub HasUnits : Option ℕ → ℕ → Type 0
HasUnits most reports = (n : ℕ) → most ≡ Some n → reports ≤ n
