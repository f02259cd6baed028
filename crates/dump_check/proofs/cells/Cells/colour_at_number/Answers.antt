use Rattle.std.proofs.Common.{◌≡◌, ◌∙◌, ap, sym, subst, get_or, Some}
use Rattle.std.specs.Prelude.{map}
use Rattle.std.specs.declared.cmp.Ordering.TheVariants.{Equal}
use Rattle.gz_names.specs.declared.names.Name.TheVariants.{Cell}
use Rattle.gz_names.specs.Dumps.{colour_among}
use Rattle.gz_names.specs.Order.{name_cmp}
use Rattle.dump_check.specs.Seen.{entry_of, name_of}
use Rattle.dump_check.proofs.Searching.{equal_of, found_at}
use Rattle.dump_check.proofs.cells.Cells.colour_at_number.Goals as goal

pub returns-then-is_eq : goal.returns-then-is_eq
returns-then-is_eq c =
    let there = c.in_ok-cell.ensures.lookup.3 in
    let is = there.1 c.in_ok-cell.cell.now in
    let same : name_cmp (name_of (get_or c.deref.result.now c.in-Cell.number c.in_ok-cell.cell.now))
    (Cell c.in-Cell.number) ≡ Equal =
    subst (λ cell. name_cmp (name_of cell) (Cell c.in-Cell.number) ≡ Equal) is
    (subst (λ x. name_cmp x (Cell c.in-Cell.number) ≡ Equal) c.name.ensures
    (sym c.name_order.ensures ∙ equal_of c.name_order.result (sym c.if-is_eq.ensures))) in
    let found = found_at c.deref.result.now c.in-Cell.number c.in_ok-cell.cell.now (Cell c.in-Cell.number)
    (rw c.deref.ensures.value c.self.invariant) there.0 same in
    ap (λ x. colour_among c.args.self.now x) c.in-Cell.is
    ∙ sym (ap (λ t. colour_among t (Cell c.in-Cell.number)) c.self.view_is)
    ∙ sym (ap (λ t. colour_among (map entry_of t) (Cell c.in-Cell.number)) c.deref.ensures.value)
    ∙ found
    ∙ ap (λ s. Some s.colour) (sym is)
