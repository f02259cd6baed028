use Rattle.std.proofs.Common.{rules, ◌≡◌, ℕ, List, [], ◌∷◌, ◌++◌, Option, sym, ap, ◌∙◌}
use Rattle.mark_ahead.specs.Edges.{first_targets}
use Rattle.par_mark.proofs.Scanning.{all_fields, one_more, none_more, nothing}
use Rattle.par_mark.proofs.first_tries.push_targets.Goals as goal
use Rattle.par_mark.proofs.first_tries.push_targets.Goals.{in-Some, in_default}

pub loop-i-preserved : goal.loop-i-preserved
loop-i-preserved g c =
    let field = g.H.Graph.edge c.args.heap.now c.args.place in
    let old = c.args.tries.now.items in
    let i = c.loop-i.i in
    elim c.match-edge_at.branch [
      | in-Some w ↦ rw (w.tries-is) (
        one_more field i old w.push_reserved.new.self.items w.in-Some.target (sym c.edge_at.ensures ∙ w.in-Some.is)
            (w.push_reserved.ensures.items ∙ ap (λ (l : List (ℕ × ℕ)). l ++ w.in-Some.target ∷ [])
            c.loop-i.invariant.0),
        w.push_reserved.ensures.capacity ∙ c.loop-i.invariant.1,
      )
      | in_default w ↦ rw (w.tries-is) (
        c.loop-i.invariant.0
            ∙ none_more field i old (sym c.edge_at.ensures ∙ nothing c.edge_at.result w.in_default.not-Some),
        c.loop-i.invariant.1,
      )
    ]

pub returns-clause-tries : goal.returns-clause-tries
returns-clause-tries g c =
    let field : ℕ → Option (ℕ × ℕ) = g.H.Graph.edge c.args.heap.now c.args.place in
    let old : List (ℕ × ℕ) = c.args.tries.now.items in
    let end : c.loop-i.i ≡ c.edge_count-i-end.result = search rules in
    c.loop-i.invariant.0 ∙ ap (λ (n : ℕ). old ++ first_targets field n) end
    ∙ ap (λ (l : List (ℕ × ℕ)). old ++ l)
    (all_fields field c.edge_count-i-end.result 8 c.edge_count-i-end.ensures.most c.edge_count-i-end.ensures.past)
