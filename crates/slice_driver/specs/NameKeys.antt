-- Names as numbers: that of a cell is its number; in that of a wrapper the compartment stands above the target, whose
-- number is below 2^32.
use Rattle.std.specs.Prelude.{ℕ, ◌<◌, ◌/◌, ◌%◌, ◌++◌, List, map}
use Rattle.gz_names.specs.declared.names.Name.{Name}
use Rattle.gz_names.specs.declared.names.Name.TheVariants as name

-- the wrapper's name for which a number stands
abbrev pub wrapper_at : ℕ → Name
wrapper_at key = name.Wrap (record { 0 = key / 4294967296 }) (key % 4294967296)

-- a number stands for a wrapper's name: its compartment is below 256
abbrev pub IsWrapperKey : ℕ → Type 0
IsWrapperKey key = key < 1099511627776

-- the names of the cells with these numbers, and then those of wrappers
abbrev pub names_at : List ℕ → List ℕ → List Name
names_at cells wrappers = map (λ n. name.Cell n) cells ++ map wrapper_at wrappers
