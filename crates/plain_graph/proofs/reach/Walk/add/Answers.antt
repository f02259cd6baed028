use Rattle.std.proofs.Common.{◌≡◌, List, [], ◌∷◌, ◌++◌, Contains, ap, sym, subst, ◌∙◌}
use Rattle.gz_names.specs.declared.names.Name.{Name}
use Rattle.plain_graph.specs.Reach.{Adds, IsWalk, WalkState}
use Rattle.plain_graph.proofs.Walks.{adds_one, walk_more}
use Rattle.plain_graph.proofs.reach.Walk.add.Goals as goal

pub invariant_of-self-2 : goal.invariant_of-self-2
invariant_of-self-2 c =
    let r = c.self.inside in
    let names : r.names.items ≡ c.args.self.now.names = ap (λ (w : WalkState). w.names) c.self.view_is in
    let fresh : Contains r.names.items c.args.name → ⊥ =
    λ h. cc (c.if-contains.false, c.contains.ensures.1 (subst (λ (xs : List Name). Contains xs c.args.name) names h)) in
    subst (λ (xs : List Name). IsWalk c.insert.new.self xs r.next)
    (sym (c.in_ok-push-2.ensures.items ∙ ap (λ (xs : List Name). xs ++ c.args.name ∷ []) c.in_ok-reserve.ensures.items))
    (walk_more r.found c.insert.new.self r.names.items r.next c.args.name c.self.invariant
    c.in_ok-insert.ensures.updates.0 fresh)

pub returns-clause-added : goal.returns-clause-added
returns-clause-added c =
    let names : c.self.inside.names.items ≡ c.args.self.now.names = ap (λ (w : WalkState). w.names) c.self.view_is in
    subst (λ (xs : List Name). Adds c.args.self.now.names xs (λ x. c.args.name ≡ x))
    (sym (c.in_ok-push-2.ensures.items
    ∙ ap (λ (xs : List Name). xs ++ c.args.name ∷ []) (c.in_ok-reserve.ensures.items ∙ names)))
    (adds_one c.args.self.now.names c.args.name)
