use Rattle.std.proofs.Common.{◌≡◌, ◌∙◌, ap, arith, length, ◌==◌, ◌&&◌, if◌then◌else◌, None, false, refl}
use Rattle.std.specs.Int.{bit_at}
use Rattle.arena_table.specs.Slots.{cell_at, held_by, taken_in}
use Rattle.arena_table.specs.Table.{ArenasState}
use Rattle.arena_table.proofs.Putting.{held_by-taken}
use Rattle.arena_table.proofs.CellsAt.{cell_at-taken}
use Rattle.arena_table.proofs.Changing.{length-change_at}
use Rattle.arena_table.proofs.Covered.{covered-same}
use Rattle.arena_table.proofs.GivenUp.{empty-taken, owned-out}
use Rattle.arena_table.proofs.Indexing.{out-within}
use Rattle.arena_table.proofs.Outs.{AreOut-turned}
use Rattle.arena_table.proofs.arenas.Arenas.take_in.Goals as goal

pub overflow_sub-self : goal.overflow_sub-self
overflow_sub-self c =
    let taken = held_by-taken c.self.inside.store.arenas c.args.arena c.args.freed c.args.bits c.names_at.new.names
    c.names_at.ensures in
    let counted = c.self.invariant.counted in
    omega (arith, c.len.ensures.value)

pub invariant_of-self : goal.invariant_of-self
invariant_of-self c =
    let taken = held_by-taken c.self.inside.store.arenas c.args.arena c.args.freed c.args.bits c.names_at.new.names
    c.names_at.ensures in
    let counted = c.self.invariant.counted in
    let fewer = c.self.invariant.fewer in
    let now : held_by c.come_in.new.store.arenas ≡ held_by _ = ap held_by c.come_in.ensures.arenas in
    record {
      indexed = c.come_in.ensures.indexed;
      out_of = AreOut-turned (taken_in c.args.freed c.args.bits) false c.self.inside.store.arenas
          c.come_in.new.store.arenas c.self.inside.out c.remove.new.self c.args.arena c.self.invariant.out_of
          (λ x. refl) (out-within c.self.inside.store.arenas c.args.arena
          (rw (ap (λ (s : ArenasState). s.arenas) c.self.view_is) c.requires.out)) c.come_in.ensures.arenas
          c.remove.ensures.room c.remove.ensures.bits;
      covered = covered-same c.self.inside.delayed (length c.come_in.new.store.arenas)
          (length c.self.inside.store.arenas)
          (ap length c.come_in.ensures.arenas
          ∙ length-change_at (taken_in c.args.freed c.args.bits) c.self.inside.store.arenas c.args.arena)
          c.self.invariant.covered;
      empty = empty-taken c.args.freed c.args.bits c.self.inside.store.arenas c.come_in.new.store.arenas c.args.arena
          c.come_in.ensures.arenas (rw (ap (λ (s : ArenasState). s.arenas) c.self.view_is) c.requires.out)
          c.self.invariant.empty;
      few = c.self.invariant.few;
      counted = omega (arith, c.len.ensures.value);
      fewer = omega arith;
      kept = λ r e. absurd (cc);
    }

pub returns-clause-cells : goal.returns-clause-cells
returns-clause-cells c = λ p.
    let same = ap (λ (s : ArenasState). cell_at s.arenas p) c.self.view_is in
    ap (λ as'. cell_at as' p) c.come_in.ensures.arenas
    ∙ (cell_at-taken c.self.inside.store.arenas c.args.arena c.args.freed c.args.bits p
    ∙ ap (λ o. if (p.0 == c.args.arena) && (bit_at c.args.freed p.1 == 1) then None else o) same)

pub come_in-requires-clause-owned : goal.come_in-requires-clause-owned
come_in-requires-clause-owned c =
    owned-out c.self.inside.store.arenas c.args.arena c.self.invariant.empty
    (rw (ap (λ (s : ArenasState). s.arenas) c.self.view_is) c.requires.out)
