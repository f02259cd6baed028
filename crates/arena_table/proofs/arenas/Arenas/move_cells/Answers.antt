use Rattle.std.proofs.Common.{◌≡◌, ◌∙◌, length, sym, ap, subst, arith}
use Rattle.arena_table.specs.Moving.{MovesCells}
use Rattle.arena_table.specs.Slots.{bit_of}
use Rattle.arena_table.specs.Table.{ArenasState}
use Rattle.arena_table.proofs.Covered.{covered-same}
use Rattle.arena_table.proofs.arenas.Arenas.move_cells.Goals as goal

pub invariant_of-self : goal.invariant_of-self
invariant_of-self c =
    let gone = c.move_all.ensures.moves in
    record {
      indexed = c.move_all.ensures.indexed;
      out_of = record {
        bits = λ a. c.self.invariant.out_of.bits a ∙ ap bit_of (sym (gone.outs a));
        room = (let was = c.self.invariant.out_of.room in omega (arith, was, gone.sized));
      };
      covered = covered-same c.self.inside.delayed (length c.move_all.new.store.arenas)
          (length c.self.inside.store.arenas) gone.sized c.self.invariant.covered;
      empty = c.move_all.ensures.empty;
      few = c.self.invariant.few;
      counted = c.self.invariant.counted ∙ sym c.move_all.ensures.held;
      fewer = c.self.invariant.fewer;
      kept = λ r e. absurd (cc);
    }
