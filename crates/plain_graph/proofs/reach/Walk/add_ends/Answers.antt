use Rattle.std.proofs.Common.{◌≡◌, ◌∙◌, ℕ, List, Option, Some, Contains, sym, subst}
use Rattle.std.proofs.lemmas.Result.{on_ok_weaker}
use Rattle.gz_names.specs.declared.names.Name.{Name}
use Rattle.gz_names.specs.declared.names.Name.TheVariants.{Cell}
use Rattle.colour_defs.specs.declared.graph.Object.{Object}
use Rattle.colour_defs.specs.Graph.{GraphState, object_of}
use Rattle.colour_defs.specs.Closure.{HasEdge, HoldsInField}
use Rattle.plain_graph.specs.Reach.{Adds}
use Rattle.plain_graph.proofs.Walks.{adds_same, target_adds}
use Rattle.plain_graph.proofs.reach.Walk.add_ends.Goals as goal

-- the edges of an object
object_adds : (g : GraphState) (n : ℕ) (o : Object) (x : Name) (old new : List Name) (fields : List (Option Name))
    → x ≡ Cell n → object_of g n ≡ Some o → fields ≡ o.fields → Adds old new (λ y. Contains fields (Some y))
    → Adds old new (HasEdge g x)
object_adds g n o x old new fields is at same a =
    subst (λ z. Adds old new (HasEdge g z)) (sym is)
    (adds_same old new (λ y. Contains fields (Some y)) (HasEdge g (Cell n)) a
    (λ y c. subst (λ b. HoldsInField b y) (sym at) (subst (λ fs. Contains fs (Some y)) same c))
    (λ y h. subst (λ fs. Contains fs (Some y)) (sym same) (subst (λ b. HoldsInField b y) at h)))

pub returns-in-Some-clause-added : goal.returns-in-Some-clause-added
returns-in-Some-clause-added c =
    on_ok_weaker c.add_held.result (λ a. object_adds c.args.graph.now c.in-Cell.number c.in-Some.object.now c.args.name
    c.args.self.now.names c.add_held.new.self.names c.as_slice.result.now c.in-Cell.is (sym c.in-Some.ensures)
    c.as_slice.ensures a) c.add_held.ensures.added

pub returns-in_ok-add-in-Wrap-clause-added : goal.returns-in_ok-add-in-Wrap-clause-added
returns-in_ok-add-in-Wrap-clause-added c =
    subst (λ (x : Name). Adds c.args.self.now.names c.add.new.self.names (HasEdge c.args.graph.now x))
    (sym c.in-Wrap.is)
    (target_adds c.args.graph.now c.in-Wrap.comp c.in-Wrap.target c.args.self.now.names c.add.new.self.names
    (sym c.has_wrapper.ensures ∙ c.if-has_wrapper.true) c.in_ok-add-in-Wrap.ensures.added)
