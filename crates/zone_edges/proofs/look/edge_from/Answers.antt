use Rattle.std.proofs.Common.{◌∙◌, sym, subst}
use Rattle.std.proofs.lemmas.Option.{same_Some}
use Rattle.heap_core.specs.Shape.{IsPresent}
use Rattle.zone_edges.proofs.look.edge_from.Goals as goal

pub zone_at-to-requires : goal.zone_at-to-requires
zone_at-to-requires g c =
    let w = c.requires.wrapper in
    subst (IsPresent c.args.heap.now.shape)
    (same_Some w.target c.in-Some.target (sym w.target_is ∙ sym c.in-Some.ensures.edge)) w.held
