use Rattle.std.proofs.Common.{arith}
use Rattle.compact.specs.Holes.{FindsNone}
use Rattle.compact.proofs.Finding.{returned-none, returned-some}
use Rattle.compact.proofs.holes.Holes.next.Goals as goal

pub overflow_sub-self-2 : goal.overflow_sub-self-2
overflow_sub-self-2 c =
    (let begun = c.in_ok-come_to_free.ensures.some.at.begun c.in_ok-come_to_free.ensures.free in
    omega (arith, begun))

pub returns-clause-some : goal.returns-clause-some
returns-clause-some c = returned-some c.args.heap.now.shape c.args.self.now c.come_to_free.new.self
    c.in_ok-come_to_free.ensures.some c.in_ok-come_to_free.ensures.free
    c.in_ok-come_to_free.ensures.some.at.fits c.new.result c.new.ensures

pub returns-clause-none : goal.returns-clause-none
returns-clause-none c = returned-none c.args.heap.now.shape c.args.self.now c.come_to_free.new.self
    c.in_ok-come_to_free.ensures.some c.in_ok-come_to_free.ensures.free
    c.in_ok-come_to_free.ensures.some.at.fits
    (FindsNone c.args.heap.now.shape c.args.self.now) c.new.result c.new.ensures

pub returns-in_err-come_to_free-clause-none : goal.returns-in_err-come_to_free-clause-none
returns-in_err-come_to_free-clause-none c = rw c.from_residual.ensures c.in_err-come_to_free.ensures.none
