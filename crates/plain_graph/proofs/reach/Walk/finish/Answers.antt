use Rattle.std.proofs.Common.{◌≡◌, ◌∙◌, ◌+◌, List, Option, Some, None, add-zero, ap, cond, is_some, slice_get, subst}
use Rattle.std.proofs.Common.{sym}
use Rattle.gz_names.specs.declared.names.Name.{Name}
use Rattle.colour_defs.specs.Graph.{GraphState}
use Rattle.plain_graph.specs.Reach.{Follows, Visits, WalkState}
use Rattle.plain_graph.proofs.Walks.{follows_more, none_of, walk_end}
use Rattle.plain_graph.proofs.reach.Walk.finish.Goals as goal

-- a step of the walk: the next name was taken, and visited
walk_step : (g : GraphState) (starts : List Name) (w u v : WalkState) (x : Name) → slice_get w.names w.next ≡ Some x
    → u.names ≡ w.names → u.next ≡ w.next + 1 → v.next ≡ u.next → Visits g x u.names v.names → Follows g starts w
    → Follows g starts v
walk_step g starts w u v x at names next same visits f =
    let more = follows_more g starts w.names v.names w.next x at
    (subst (λ ns. Visits g x ns v.names) names visits) f in
    subst (λ n. Follows g starts (record { names = v.names; next = n })) (sym (same ∙ next)) more

pub loop-name-preserved : goal.loop-name-preserved
loop-name-preserved c = λ starts f.
    walk_step c.args.graph.now starts c.loop-name.self c.take_next.new.self c.visit.new.self c.in-Some.name
    (sym c.take_next.ensures.at ∙ c.in-Some.is) c.take_next.ensures.names
    (c.take_next.ensures.next ∙ ap (λ (o : Option Name). c.loop-name.self.next + cond (is_some o) 1 0) c.in-Some.is)
    c.in_ok-visit.ensures.next c.in_ok-visit.ensures.visited (c.loop-name.invariant starts f)

pub returns : goal.returns
returns c = λ starts f.
    let none : c.take_next.result ≡ None = none_of c.take_next.result c.in_default.not-Some in
    walk_end c.args.graph.now starts c.loop-name.self c.take_next.new.self (sym c.take_next.ensures.at ∙ none)
    c.take_next.ensures.names
    (c.take_next.ensures.next ∙ ap (λ (o : Option Name). c.loop-name.self.next + cond (is_some o) 1 0) none
    ∙ add-zero c.loop-name.self.next) (c.loop-name.invariant starts f)
