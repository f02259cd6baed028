-- The lines of a cell's fields, counted by number, are those of the list of its fields.
use Rattle.std.proofs.Common.{◌≡◌, ◌++◌, ◌∷◌, [], ℕ, zero, suc, List, Option, Some, None, map, length, slice_get, refl}
use Rattle.std.proofs.Common.{sym, ap}
use Rattle.std.proofs.Common.{append_assoc, append-nil}
use Rattle.std.proofs.Common.{◌∙◌}
use Rattle.gz_names.specs.declared.names.Name.{Name}
use Rattle.gz_names.specs.declared.names.Name.TheVariants.{Cell}
use Rattle.gz_names.specs.declared.numbers.Place.{Place}
use Rattle.arena_table.specs.Cells.{CellState, joined}
use Rattle.colour_defs.specs.Dumps.{field_lines}
use Rattle.heap_core.specs.Shape.{Shape, field_in, held_name}
use Rattle.heap_core.specs.Edges.{edges_in}
use Rattle.slice_driver.specs.Listings.{edge_named, fields_below, lines_of_cell}

-- the first field before the others
first_apart : (n : ℕ) (field : ℕ → Option Name) (count : ℕ) → fields_below n field (suc count)
    ≡ edge_named n (field 0) ++ fields_below n (λ i. field (suc i)) count
first_apart n field zero = sym (append-nil (edge_named n (field 0)))
first_apart n field (suc count) = ap (λ ls. ls ++ edge_named n (field (suc count))) (first_apart n field count)
    ∙ append_assoc (edge_named n (field 0)) (fields_below n (λ i. field (suc i)) count)
    (edge_named n (field (suc count)))

one_field : (n : ℕ) (o : Option Name) (os : List (Option Name)) → edge_named n o ++ field_lines n os
    ≡ field_lines n (o ∷ os)
one_field n None os = refl
one_field n (Some x) os = refl

list_lines : (s : Shape) (n : ℕ) (fs : List (Option Place)) → fields_below n
    (λ i. held_name s (joined (slice_get fs i))) (length fs) ≡ field_lines n (map (held_name s) fs)
list_lines s n [] = refl
list_lines s n (o ∷ fs) = first_apart n (λ i. held_name s (joined (slice_get (o ∷ fs) i))) (length fs)
    ∙ ap (λ ls. edge_named n (held_name s o) ++ ls) (list_lines s n fs)
    ∙ one_field n (held_name s o) (map (held_name s) fs)

pub cell_lines : (s : Shape) (o : Option CellState) (n : ℕ) → fields_below n (λ f. held_name s (field_in o f))
    (edges_in o) ≡ lines_of_cell s o (Some (Cell n))
cell_lines s None n = refl
cell_lines s (Some cell) n = list_lines s n cell.fields
