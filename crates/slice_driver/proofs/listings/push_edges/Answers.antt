use Rattle.std.proofs.Common.{◌≡◌, ◌++◌, OnOk, Some, subst, rules}
use Rattle.gz_names.specs.declared.names.Name.TheVariants.{Cell}
use Rattle.heap_core.specs.Shape.{name_at}
use Rattle.slice_driver.proofs.dumping.Held.{numbered_lines}
use Rattle.slice_driver.proofs.listings.push_edges.Goals as goal

pub returns-in-Cell : goal.returns-in-Cell
returns-in-Cell g c =
    let s = c.args.heap.now.shape in
    let named : name_at s c.args.place ≡ Some (Cell c.in-Cell.number) = search rules in
    subst (λ ls. OnOk c.push_fields.result (c.push_fields.new.lines.items ≡ c.args.lines.now.items ++ ls))
    (numbered_lines s c.args.place c.in-Cell.number named) c.push_fields.ensures
