use Rattle.std.proofs.Common.{IfSome, subst}
use Rattle.mark_stack.specs.Stack.{IsPushed}
use Rattle.arena_table.specs.Delayed.{delayed_of}
use Rattle.arena_table.specs.Table.{ArenasState}
use Rattle.arena_table.specs.contracts.arenas.Arenas.{the_view}
use Rattle.arena_table.proofs.Covered.{covered-delayed, none-delayed}
use Rattle.arena_table.proofs.arenas.Arenas.next_delayed.Goals as goal

pub invariant_of-self : goal.invariant_of-self
invariant_of-self c = covered-delayed c.self.inside.store c.self.inside.index c.self.inside.out c.self.inside.delayed
    c.take.new.self c.self.inside.made c.self.inside.held c.self.inside.reserved c.self.invariant
    c.take.ensures.kept

pub returns-clause-some : goal.returns-clause-some
returns-clause-some c =
    subst (λ (s : ArenasState).
    IfSome c.take.result (λ p. IsPushed (delayed_of c.take.new.self) c.args.pile p s.delayed))
    c.self.view_is c.take.ensures.some

pub returns-clause-none : goal.returns-clause-none
returns-clause-none c = none-delayed (the_view c.self.inside) c.args.self.now (delayed_of c.self.inside.delayed)
    (delayed_of c.take.new.self) c.args.pile c.take.result c.self.view_is c.take.ensures.none
