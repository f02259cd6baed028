use Rattle.std.proofs.Common.{◌∙◌, ap, sym, rules, get_or, Some}
use Rattle.std.specs.Prelude.{map}
use Rattle.std.proofs.lemmas.Fn.{always_returns_same}
use Rattle.gz_names.specs.Dumps.{colour_among}
use Rattle.gz_names.specs.Order.{name_cmp}
use Rattle.dump_check.specs.Seen.{entry_of, name_of}
use Rattle.dump_check.proofs.Searching.{searched_some, searched_none}
use Rattle.dump_check.proofs.cells.Cells.colour.Goals as goal

pub returns-in-Ok : goal.returns-in-Ok
returns-in-Ok c =
    let at = c.in-Ok.ensures.position (λ y. name_cmp (name_of y) c.args.name)
    (always_returns_same _ _ _ (λ a r g called. search rules)) in
    let found = searched_some c.deref.result.now c.args.name c.in-Ok.at c.index.result.now
    (rw c.deref.ensures.value c.self.invariant) c.in-Ok.ensures.bound at in
    ap (λ s. Some s.colour)
    (c.index.ensures ∙ ap (λ t. get_or t c.in-Ok.at c.index.result.now) (sym c.deref.ensures.value))
    ∙ sym found
    ∙ ap (λ t. colour_among (map entry_of t) c.args.name) c.deref.ensures.value
    ∙ ap (λ t. colour_among t c.args.name) c.self.view_is

pub returns-in-Err : goal.returns-in-Err
returns-in-Err c =
    let at = c.in-Err.ensures.position (λ y. name_cmp (name_of y) c.args.name)
    (always_returns_same _ _ _ (λ a r g called. search rules)) in
    let none = searched_none c.deref.result.now c.args.name c.in-Err.field-0 (rw c.deref.ensures.value c.self.invariant)
    at in
    sym none
    ∙ ap (λ t. colour_among (map entry_of t) c.args.name) c.deref.ensures.value
    ∙ ap (λ t. colour_among t c.args.name) c.self.view_is
