use Rattle.std.proofs.Common.{◌≡◌, ◌+◌, Contains, Some, None, get_or, take, ap, sym, subst, ◌∙◌, arith}
use Rattle.plain_graph.specs.Reach.{Adds, WalkState}
use Rattle.plain_graph.proofs.Walks.{adds_same, held_more, held_same, of_take_all, take_all_of}
use Rattle.plain_graph.proofs.reach.Walk.add_held.Goals as goal
use Rattle.plain_graph.proofs.reach.Walk.add_held.Goals.{in-Some+in_ok-add, in_default}

pub loop-held-preserved : goal.loop-held-preserved
loop-held-preserved c =
    let old = c.args.self.now.names in
    let fields = c.args.fields.now in
    let i = c.loop-held.held-index in
    elim c.match-held.branch [
      | in-Some+in_ok-add w ↦
          let at : get_or fields i None ≡ Some w.in-Some.name = cc (w.in-Some.is) in
          record {
            next = ap (λ (s : WalkState). s.next) w.self-is ∙ w.in_ok-add.ensures.next ∙ c.loop-held.invariant.next;
            added = subst (λ (s : WalkState). Adds old s.names (λ x. Contains (take (i + 1) fields) (Some x)))
                (sym w.self-is) (held_more fields i w.in-Some.name old c.loop-held.self.names w.add.new.self.names
                c.loop-held-test.true at c.loop-held.invariant.added w.in_ok-add.ensures.added);
          }
      | in_default w ↦ record {
        next = ap (λ (s : WalkState). s.next) w.self-is ∙ c.loop-held.invariant.next;
        added = subst (λ (s : WalkState). Adds old s.names (λ x. Contains (take (i + 1) fields) (Some x)))
            (sym w.self-is) (held_same fields i old c.loop-held.self.names c.loop-held-test.true
            (λ y e. w.in_default.not-Some y e) c.loop-held.invariant.added);
      }
    ]

pub returns-clause-added : goal.returns-clause-added
returns-clause-added c =
    let fields = c.args.fields.now in
    let i = c.loop-held.held-index in
    adds_same c.args.self.now.names c.loop-held.self.names (λ x. Contains (take i fields) (Some x))
    (λ x. Contains fields (Some x)) c.loop-held.invariant.added
    (λ x h. of_take_all fields i (Some x) (omega arith) h) (λ x h. take_all_of fields i (Some x) (omega arith) h)
