use Rattle.std.proofs.Common.{arith}
use Rattle.compact.proofs.Counted.{within}
use Rattle.compact.proofs.Walking.{comes-self, comes-then, comes-to, none-found}
use Rattle.compact.proofs.holes.Holes.come_to_free.Goals as goal

pub loop-self-init : goal.loop-self-init
loop-self-init c = record { on = comes-self c.args.heap.now.shape c.args.self.now c.requires.at }

pub alloc_word-requires : goal.alloc_word-requires
alloc_word-requires c = within c.args.heap.now.shape.arenas c.loop-self.self.zone c.loop-self.self.from
    c.in_ok-arena.arena c.in_ok-arena.ensures.some

pub overflow_add-self : goal.overflow_add-self
overflow_add-self c = (let few = c.in_ok-arena.ensures.some.few in omega (arith, few))

pub loop-self-smaller : goal.loop-self-smaller
loop-self-smaller c =
    (let from = c.in_ok-arena.ensures.some.from_is in
    let few = c.in_ok-arena.ensures.some.few in omega (arith, from, few))

pub loop-self-preserved : goal.loop-self-preserved
loop-self-preserved c =
    let s = c.args.heap.now.shape in
    let h = c.loop-self.self in
    let a = c.in_ok-arena.arena in
    record {
      on = comes-then s c.args.self.now h _ c.loop-self.invariant.on (comes-to s h a c.alloc_word.result (record {
        kept = c.requires.kept a;
        next = c.in_ok-arena.ensures.some;
        word_is = c.alloc_word.ensures;
        fits = omega arith;
      }) c.loop-self-test.true);
    }

pub returns-in_err-arena-clause-none : goal.returns-in_err-arena-clause-none
returns-in_err-arena-clause-none c = rw c.from_residual.ensures (none-found c.args.heap.now.shape c.args.self.now
    c.loop-self.self c.loop-self.invariant.on c.loop-self-test.true c.in_err-arena.ensures.none)

pub returns-clause-some : goal.returns-clause-some
returns-clause-some c = c.loop-self.invariant.on

pub returns-clause-free : goal.returns-clause-free
returns-clause-free c = c.loop-self-test.false
