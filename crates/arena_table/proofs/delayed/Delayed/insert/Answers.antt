use Rattle.std.proofs.Common.{Contains, ap, arith, subst, sym}
use Rattle.mark_stack.specs.Stack.{pile_of}
use Rattle.mark_stack.specs.declared.stack.Pile.{Pile}
use Rattle.mark_stack.proofs.Piles.{pushed_black, pushed_gray, pushed_wake}
use Rattle.arena_table.specs.Delayed.{DelayedSets, delayed_of}
use Rattle.arena_table.specs.contracts.delayed.Delayed.{the_view}
use Rattle.arena_table.proofs.delayed.Delayed.insert.Goals as goal

pub insert-requires-clause-room : goal.insert-requires-clause-room
insert-requires-clause-room c =
    let room = ap (λ (s : DelayedSets). s.black.room) c.self.view_is in
    omega (arith, room, c.requires.room.black)

pub insert-requires-clause-fresh : goal.insert-requires-clause-fresh
insert-requires-clause-fresh c =
    subst (λ (s : DelayedSets). Contains s.black.places c.args.place → ⊥) (sym c.self.view_is)
    (subst (λ (p : Pile). Contains (pile_of (delayed_of c.args.self.now) p) c.args.place → ⊥) c.in-Black.is
    c.requires.fresh)

pub returns-in-Black-clause-more : goal.returns-in-Black-clause-more
returns-in-Black-clause-more c = rw (c.in-Black.is, ← c.self.view_is)
    (pushed_black (delayed_of (the_view c.self.inside)) c.args.place c.insert.new.self.places
    c.insert.ensures.more)

pub returns-in-Black-clause-kept : goal.returns-in-Black-clause-kept
returns-in-Black-clause-kept c = rw (← c.self.view_is)
    (λ n h. record {
      black = (let room = h.black in omega (arith, room, c.insert.ensures.room));
      gray = h.gray;
      wake = h.wake;
    })

pub insert-requires-in-Gray-clause-room : goal.insert-requires-in-Gray-clause-room
insert-requires-in-Gray-clause-room c =
    let room = ap (λ (s : DelayedSets). s.gray.room) c.self.view_is in
    omega (arith, room, c.requires.room.gray)

pub insert-requires-in-Gray-clause-fresh : goal.insert-requires-in-Gray-clause-fresh
insert-requires-in-Gray-clause-fresh c =
    subst (λ (s : DelayedSets). Contains s.gray.places c.args.place → ⊥) (sym c.self.view_is)
    (subst (λ (p : Pile). Contains (pile_of (delayed_of c.args.self.now) p) c.args.place → ⊥) c.in-Gray.is
    c.requires.fresh)

pub returns-in-Gray-clause-more : goal.returns-in-Gray-clause-more
returns-in-Gray-clause-more c = rw (c.in-Gray.is, ← c.self.view_is)
    (pushed_gray (delayed_of (the_view c.self.inside)) c.args.place c.insert-in-Gray.new.self.places
    c.insert-in-Gray.ensures.more)

pub returns-in-Gray-clause-kept : goal.returns-in-Gray-clause-kept
returns-in-Gray-clause-kept c = rw (← c.self.view_is)
    (λ n h. record {
      black = h.black;
      gray = (let room = h.gray in omega (arith, room, c.insert-in-Gray.ensures.room));
      wake = h.wake;
    })

pub insert-requires-in-Wake-clause-room : goal.insert-requires-in-Wake-clause-room
insert-requires-in-Wake-clause-room c =
    let room = ap (λ (s : DelayedSets). s.wake.room) c.self.view_is in
    omega (arith, room, c.requires.room.wake)

pub insert-requires-in-Wake-clause-fresh : goal.insert-requires-in-Wake-clause-fresh
insert-requires-in-Wake-clause-fresh c =
    subst (λ (s : DelayedSets). Contains s.wake.places c.args.place → ⊥) (sym c.self.view_is)
    (subst (λ (p : Pile). Contains (pile_of (delayed_of c.args.self.now) p) c.args.place → ⊥) c.in-Wake.is
    c.requires.fresh)

pub returns-in-Wake-clause-more : goal.returns-in-Wake-clause-more
returns-in-Wake-clause-more c = rw (c.in-Wake.is, ← c.self.view_is)
    (pushed_wake (delayed_of (the_view c.self.inside)) c.args.place c.insert-in-Wake.new.self.places
    c.insert-in-Wake.ensures.more)

pub returns-in-Wake-clause-kept : goal.returns-in-Wake-clause-kept
returns-in-Wake-clause-kept c = rw (← c.self.view_is)
    (λ n h. record {
      black = h.black;
      gray = h.gray;
      wake = (let room = h.wake in omega (arith, room, c.insert-in-Wake.ensures.room));
    })
