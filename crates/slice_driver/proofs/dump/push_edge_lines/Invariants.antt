use Rattle.std.proofs.Common.{◌≡◌, ◌++◌, take}
use Rattle.std.specs.List.{flat_map}
use Rattle.slice_driver.specs.Listings.{edge_lines_at}
use Rattle.slice_driver.specs.declared.listings.NamedCell.{NamedCell}
use Rattle.slice_driver.proofs.dump.push_edge_lines.Given as goal

abbrev pub invariant-loop-cell : goal.invariant-loop-cell
invariant-loop-cell g l = l.lines.items ≡ l.fn.lines.items
    ++ flat_map (λ (cell : NamedCell). edge_lines_at l.heap.shape cell.place) (take l.cell-index l.cells)
