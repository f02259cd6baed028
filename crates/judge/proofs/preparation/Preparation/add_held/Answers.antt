use Rattle.std.proofs.Common.{◌≡◌, ◌+◌, Contains, Some, None, get_or, take, sym, subst, arith}
use Rattle.colour_defs.proofs.Lists.{nothing_in_none}
use Rattle.judge.specs.LeftOut.{Adds}
use Rattle.judge.specs.declared.preparation.Preparation.{Preparation}
use Rattle.judge.proofs.LeftOut.{adds_nothing, held_all, held_more, held_skip}
use Rattle.judge.proofs.preparation.Preparation.add_held.Goals as goal
use Rattle.judge.proofs.preparation.Preparation.add_held.Goals.{in-Some+in_ok-add, in_default}

pub loop-held-init : goal.loop-held-init
loop-held-init c =
    adds_nothing c.args.graph.now c.args.self.now (λ x. Contains (take 0 c.args.fields.now) (Some x))
    (λ x h. nothing_in_none (Some x) h)

pub loop-held-preserved : goal.loop-held-preserved
loop-held-preserved c =
    let g = c.args.graph.now in
    let fields = c.args.fields.now in
    let i = c.loop-held.held-index in
    elim c.match-held.branch [
      | in-Some+in_ok-add w ↦
          let at : get_or fields i None ≡ Some w.in-Some.name = cc (w.in-Some.is) in
          subst (λ (s : Preparation). Adds g c.args.self.now s (λ x. Contains (take (i + 1) fields) (Some x)))
          (sym w.self-is) (held_more g c.args.self.now c.loop-held.self w.add.new.self fields i w.in-Some.name
          (record { below = c.loop-held-test.true; at = at }) c.loop-held.invariant w.in_ok-add.ensures)
      | in_default w ↦
          subst (λ (s : Preparation). Adds g c.args.self.now s (λ x. Contains (take (i + 1) fields) (Some x)))
          (sym w.self-is) (held_skip g c.args.self.now c.loop-held.self fields i c.loop-held-test.true
          (λ y e. w.in_default.not-Some y e) c.loop-held.invariant)
    ]

pub returns : goal.returns
returns c =
    held_all c.args.graph.now c.args.self.now c.loop-held.self c.args.fields.now c.loop-held.held-index (omega arith)
    c.loop-held.invariant
