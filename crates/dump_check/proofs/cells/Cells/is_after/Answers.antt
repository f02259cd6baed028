use Rattle.std.proofs.Common.{◌≡◌, ◌∙◌, ◌+◌, ◌-◌, Some, ap, sym, length}
use Rattle.std.specs.Prelude.{map, slice_get}
use Rattle.std.specs.Ordering.{is_lt}
use Rattle.gz_names.specs.Order.{name_cmp}
use Rattle.gz_names.specs.Dumps.{is_after}
use Rattle.dump_check.specs.Seen.{entry_of}
use Rattle.dump_check.proofs.Searching.{after_some, some_in}
use Rattle.dump_check.proofs.cells.Cells.is_after.Goals as goal

pub returns-in-Some : goal.returns-in-Some
returns-in-Some c =
    let xs = c.deref.result.now in
    let at : slice_get xs (length xs - 1) ≡ Some c.in-Some.cell.now = sym c.in-Some.ensures.value in
    let last : length xs - 1 + 1 ≡ length xs = some_in xs (length xs - 1) c.in-Some.cell.now at in
    c.is_lt.ensures
    ∙ ap is_lt c.name_order.ensures
    ∙ ap (λ x. is_lt (name_cmp x c.args.name)) c.name.ensures
    ∙ sym (after_some xs (length xs - 1) c.in-Some.cell.now c.args.name last at)
    ∙ ap (λ t. is_after (map entry_of t) c.args.name) c.deref.ensures.value
    ∙ ap (λ t. is_after t c.args.name) c.self.view_is
