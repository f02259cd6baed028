use Rattle.std.proofs.Common.{◌≡◌, List, Contains, ap, sym, subst, ◌∙◌}
use Rattle.std.specs.List.{list_any}
use Rattle.gz_names.specs.declared.names.Name.{Name}
use Rattle.gz_names.specs.Order.{same_name}
use Rattle.plain_graph.specs.Reach.{WalkState}
use Rattle.plain_graph.proofs.Walks.{among_from, among_to}
use Rattle.plain_graph.proofs.reach.Walk.contains.Goals as goal

pub returns : goal.returns
returns c =
    let items = c.self.inside.names.items in
    let same : c.contains.result ≡ list_any (same_name c.args.name) items =
    c.contains.ensures ∙ c.self.invariant.found_are c.args.name in
    let names : items ≡ c.args.self.now.names = ap (λ (w : WalkState). w.names) c.self.view_is in (
      (λ t. subst (λ (xs : List Name). Contains xs c.args.name) names (among_to c.args.name items (sym same ∙ t))),
      λ h. same
          ∙ among_from c.args.name items (subst (λ (xs : List Name). Contains xs c.args.name) (sym names) h),
    )
