use Rattle.std.proofs.lemmas.Option.{IfSome_then}
use Rattle.mark_stack.proofs.Piles.{popped, pushed_black, pushed_gray, pushed_wake}
use Rattle.mark_stack.proofs.stack.Stack.pop.Goals as goal

pub returns-in-Black-clause-some : goal.returns-in-Black-clause-some
returns-in-Black-clause-some c = rw (c.in-Black.is, ← c.self.view_is)
    (IfSome_then c.take_in_turn.result c.take_in_turn.ensures.some
    (λ place taken. pushed_black _ place c.self.inside.black.items taken))

pub returns-in-Gray-clause-some : goal.returns-in-Gray-clause-some
returns-in-Gray-clause-some c = rw (c.in-Gray.is, ← c.self.view_is)
    (IfSome_then c.take_in_turn-in-Gray.result c.take_in_turn-in-Gray.ensures.some
    (λ place taken. pushed_gray _ place c.self.inside.gray.items taken))

pub returns-in-Wake-clause-some : goal.returns-in-Wake-clause-some
returns-in-Wake-clause-some c = rw (c.in-Wake.is, ← c.self.view_is)
    (IfSome_then c.pop.result
    (popped c.pop.result c.self.inside.wake.items c.pop.new.self.items c.pop.ensures.items)
    (λ place taken. pushed_wake _ place c.self.inside.wake.items taken))
