-- The cells that a checker keeps.
use Rattle.std.specs.Prelude.{◌≡◌, ℕ, List, [], ◌∷◌, Option, Some, None, ⊤}
use Rattle.std.specs.List.{AllByRecursion}
use Rattle.std.specs.declared.cmp.Ordering.TheVariants.{Less}
use Rattle.gz_names.specs.declared.names.Name.{Name}
use Rattle.gz_names.specs.declared.names.Name.TheVariants.{Cell, Wrap}
use Rattle.gz_names.specs.declared.numbers.CompNo.{CompNo}
use Rattle.gz_names.specs.declared.dumps.DumpColour.{DumpColour}
use Rattle.gz_names.specs.Order.{name_cmp}
use Rattle.dump_check.specs.declared.cells.SeenCell.{SeenCell}

abbrev pub name_by : Option CompNo → ℕ → Name
name_by None n = Cell n
name_by (Some c) n = Wrap c n

abbrev pub name_of : SeenCell → Name
name_of cell = name_by cell.comp cell.number

abbrev pub entry_of : SeenCell → Name × DumpColour
entry_of cell = (name_of cell, cell.colour)

-- each name is less than those after it
abbrev pub AreAscending : List (Name × DumpColour) → Type 0
AreAscending [] = ⊤
AreAscending (cell ∷ cells) = AllByRecursion (λ other. name_cmp cell.0 other.0 ≡ Less) cells × AreAscending cells
