use Rattle.std.proofs.Common.{ℕ, List, [], ◌∷◌, ◌++◌, ap, sym, subst, ◌∙◌}
use Rattle.gz_names.specs.declared.numbers.CompNo.{CompNo}
use Rattle.plain_graph.specs.Indexed.{IsIndexed}
use Rattle.plain_graph.proofs.Indexes.{indexed_wrapper}
use Rattle.plain_graph.proofs.graph.Graph.add_wrapper.Goals as goal

pub invariant_of-self-2 : goal.invariant_of-self-2
invariant_of-self-2 c =
    let r = c.self.inside in
    subst (λ (ws : List (CompNo × ℕ)). IsIndexed ws c.insert.new.self r.entries.items r.values r.waiting)
    (sym (c.in_ok-push.ensures.items
    ∙ ap (λ (ws : List (CompNo × ℕ)). ws ++ (c.args.comp, c.args.target) ∷ []) c.in_ok-reserve.ensures.items))
    (indexed_wrapper r.wrappers.items r.known c.insert.new.self r.entries.items r.values r.waiting c.args.comp
    c.args.target c.self.invariant c.in_ok-insert.ensures.updates.0)
