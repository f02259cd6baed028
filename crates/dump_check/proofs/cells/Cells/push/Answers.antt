use Rattle.std.proofs.Common.{◌∙◌, ◌++◌, ◌∷◌, [], ap, sym, subst}
use Rattle.std.specs.Prelude.{map}
use Rattle.gz_names.specs.Dumps.{is_after}
use Rattle.dump_check.specs.Seen.{AreAscending, entry_of}
use Rattle.dump_check.proofs.Searching.{ascending_push, entries_push}
use Rattle.dump_check.proofs.cells.Cells.push.Goals as goal

pub invariant_of-self-2 : goal.invariant_of-self-2
invariant_of-self-2 c =
    let old = c.self.inside.seen.items in
    let pushed = ap (map entry_of) c.in_ok-push.ensures.items ∙ entries_push old c.seen_as.result
    ∙ ap (λ e. map entry_of old ++ e ∷ []) c.seen_as.ensures in
    subst AreAscending (sym pushed)
    (ascending_push (map entry_of old) (c.args.name, c.args.colour) c.self.invariant
    (ap (λ t. is_after t c.args.name) c.self.view_is ∙ c.requires.after))
