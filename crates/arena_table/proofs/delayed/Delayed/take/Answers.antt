use Rattle.std.proofs.Common.{arith}
use Rattle.std.proofs.lemmas.Option.{IfSome_then}
use Rattle.mark_stack.proofs.Piles.{pushed_black, pushed_gray, pushed_wake}
use Rattle.arena_table.specs.Delayed.{delayed_of}
use Rattle.arena_table.specs.contracts.delayed.Delayed.{the_view}
use Rattle.arena_table.proofs.CellSets.{front-more, none-left}
use Rattle.arena_table.proofs.delayed.Delayed.take.Goals as goal

pub returns-in-Black-clause-some : goal.returns-in-Black-clause-some
returns-in-Black-clause-some c = rw (c.in-Black.is, ← c.self.view_is)
    (IfSome_then c.take.result c.take.ensures.some
    (λ place taken. pushed_black (record (delayed_of (the_view c.self.inside)) { black = c.take.new.self.places }) place
    c.self.inside.black.places (front-more c.self.inside.black.places place c.take.new.self.places taken)))

pub returns-in-Black-clause-none : goal.returns-in-Black-clause-none
returns-in-Black-clause-none c = rw (c.in-Black.is, ← c.self.view_is)
    (none-left (λ ps. record (delayed_of (the_view c.self.inside)) { black = ps }) c.take.result
    c.self.inside.black.places c.take.new.self.places c.take.ensures.none)

pub returns-in-Black-clause-kept : goal.returns-in-Black-clause-kept
returns-in-Black-clause-kept c = rw (← c.self.view_is)
    (λ n h. record {
      black = (let room = h.black in omega (arith, room, c.take.ensures.room));
      gray = h.gray;
      wake = h.wake;
    })

pub returns-in-Gray-clause-some : goal.returns-in-Gray-clause-some
returns-in-Gray-clause-some c = rw (c.in-Gray.is, ← c.self.view_is)
    (IfSome_then c.take-in-Gray.result c.take-in-Gray.ensures.some
    (λ place taken. pushed_gray (record (delayed_of (the_view c.self.inside)) { gray = c.take-in-Gray.new.self.places })
    place
    c.self.inside.gray.places (front-more c.self.inside.gray.places place c.take-in-Gray.new.self.places taken)))

pub returns-in-Gray-clause-none : goal.returns-in-Gray-clause-none
returns-in-Gray-clause-none c = rw (c.in-Gray.is, ← c.self.view_is)
    (none-left (λ ps. record (delayed_of (the_view c.self.inside)) { gray = ps }) c.take-in-Gray.result
    c.self.inside.gray.places c.take-in-Gray.new.self.places c.take-in-Gray.ensures.none)

pub returns-in-Gray-clause-kept : goal.returns-in-Gray-clause-kept
returns-in-Gray-clause-kept c = rw (← c.self.view_is)
    (λ n h. record {
      black = h.black;
      gray = (let room = h.gray in omega (arith, room, c.take-in-Gray.ensures.room));
      wake = h.wake;
    })

pub returns-in-Wake-clause-some : goal.returns-in-Wake-clause-some
returns-in-Wake-clause-some c = rw (c.in-Wake.is, ← c.self.view_is)
    (IfSome_then c.take-in-Wake.result c.take-in-Wake.ensures.some
    (λ place taken. pushed_wake (record (delayed_of (the_view c.self.inside)) { wake = c.take-in-Wake.new.self.places })
    place
    c.self.inside.wake.places (front-more c.self.inside.wake.places place c.take-in-Wake.new.self.places taken)))

pub returns-in-Wake-clause-none : goal.returns-in-Wake-clause-none
returns-in-Wake-clause-none c = rw (c.in-Wake.is, ← c.self.view_is)
    (none-left (λ ps. record (delayed_of (the_view c.self.inside)) { wake = ps }) c.take-in-Wake.result
    c.self.inside.wake.places c.take-in-Wake.new.self.places c.take-in-Wake.ensures.none)

pub returns-in-Wake-clause-kept : goal.returns-in-Wake-clause-kept
returns-in-Wake-clause-kept c = rw (← c.self.view_is)
    (λ n h. record {
      black = h.black;
      gray = h.gray;
      wake = (let room = h.wake in omega (arith, room, c.take-in-Wake.ensures.room));
    })
