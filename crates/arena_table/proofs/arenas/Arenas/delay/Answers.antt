use Rattle.std.proofs.Common.{◌+◌, ap, arith, length, subst, sym, Contains}
use Rattle.mark_stack.specs.Stack.{IsPushed, pile_of}
use Rattle.arena_table.specs.Delayed.{delayed_of}
use Rattle.arena_table.specs.Table.{ArenasState}
use Rattle.arena_table.proofs.Covered.{covered-delayed, covered-less}
use Rattle.arena_table.proofs.arenas.Arenas.delay.Goals as goal

pub insert-requires-clause-room : goal.insert-requires-clause-room
insert-requires-clause-room c =
    let sized = ap (λ (s : ArenasState). length s.arenas) c.self.view_is in
    covered-less c.self.inside.delayed (c.args.place.0 + 1) (length c.self.inside.store.arenas)
    (omega (arith, sized, c.requires.made)) c.self.invariant.covered

pub insert-requires-clause-fresh : goal.insert-requires-clause-fresh
insert-requires-clause-fresh c =
    subst (λ (s : ArenasState). Contains (pile_of s.delayed c.args.pile) c.args.place → ⊥) (sym c.self.view_is)
    c.requires.fresh

pub invariant_of-self : goal.invariant_of-self
invariant_of-self c = covered-delayed c.self.inside.store c.self.inside.index c.self.inside.out c.self.inside.delayed
    c.insert.new.self c.self.inside.made c.self.inside.held c.self.inside.reserved c.self.invariant
    c.insert.ensures.kept

pub returns-clause-more : goal.returns-clause-more
returns-clause-more c =
    subst (λ (s : ArenasState). IsPushed s.delayed c.args.pile c.args.place (delayed_of c.insert.new.self))
    c.self.view_is c.insert.ensures.more
