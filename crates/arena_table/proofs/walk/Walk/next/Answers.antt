use Rattle.std.proofs.Common.{◌+◌, ◌∙◌, refl, sym, arith}
use Rattle.arena_table.proofs.Walking.{walk-found, walk-none, walk-step}
use Rattle.arena_table.proofs.walk.Walk.next.Goals as goal

pub returns-in_err-at-clause-none : goal.returns-in_err-at-clause-none
returns-in_err-at-clause-none c = rw c.from_residual.ensures (λ arenas owned.
    sym (c.loop-self.invariant.0 arenas owned) ∙ walk-none c.loop-self.self.zones.bits c.args.index.now.owned arenas
    c.in_err-at.ensures.fits owned c.loop-self.self.left c.loop-self.self.base c.loop-self.self.at c.loop-self-test.true
    (λ z w has ge. c.in_err-at.ensures.lowest z w has ge tt))

pub loop-self-preserved : goal.loop-self-preserved
loop-self-preserved c = (
  λ arenas owned. walk-found c.loop-self.self.zones.bits c.args.index.now.owned arenas c.word-self.ensures.fits owned
      c.word-self.result
      c.loop-self.self.at c.in_ok-at.at (c.in_ok-at.at + 1) c.loop-self.self.left c.loop-self.self.base
      c.loop-self-test.true c.in_ok-at.ensures.on.0 refl
      (λ z w has within. c.in_ok-at.ensures.lowest z w has within.0 within.1) c.word-self.ensures.bits
      ∙ c.loop-self.invariant.0 arenas owned,
  (omega (arith, c.in_ok-at.ensures.on.1), omega (arith, c.in_ok-at.ensures.on.1)),
  omega arith,
)

pub returns-clause-some : goal.returns-clause-some
returns-clause-some c = λ arenas owned. sym (c.loop-self.invariant.0 arenas owned)
    ∙ walk-step c.loop-self.self.zones.bits c.loop-self.self.left c.loop-self.self.base _ arenas c.loop-self-test.false
    c.loop-self.invariant.2
