use Rattle.std.proofs.Common.{◌≡◌, ◌∙◌, All, length, sym, ap, subst, arith}
use Rattle.arena_table.specs.Moving.{given_up_from}
use Rattle.arena_table.specs.Slots.{bit_of, cell_at, held_by, is_out_at}
use Rattle.arena_table.specs.Table.{ArenasState, IsEmptyIfGivenUp}
use Rattle.arena_table.proofs.Covered.{covered-same}
use Rattle.arena_table.proofs.GivenUp.{cell-given_up, empty-given_up, held-given_up, length-given_up, out-given_up}
use Rattle.arena_table.proofs.arenas.Arenas.give_up.Goals as goal

pub invariant_of-self : goal.invariant_of-self
invariant_of-self c =
    let xs = c.self.inside.store.arenas in
    let zone = c.args.zone in
    let first = c.args.first in
    let gone = c.give_up_all.ensures.arenas in
    let sized = ap length gone ∙ length-given_up zone first 0 xs in
    record {
      indexed = c.give_up_all.ensures.indexed;
      out_of = record {
        bits = λ a. c.self.invariant.out_of.bits a
            ∙ ap bit_of (sym (ap (λ ys. is_out_at ys a) gone ∙ out-given_up zone first 0 xs a));
        room = (let was = c.self.invariant.out_of.room in omega (arith, was, sized));
      };
      covered = covered-same c.self.inside.delayed (length c.give_up_all.new.store.arenas) (length xs) sized
          c.self.invariant.covered;
      empty = subst (All IsEmptyIfGivenUp) (sym gone)
          (empty-given_up zone first 0 xs
          (λ b x le at. (rw (← ap (λ (s : ArenasState). s.arenas) c.self.view_is) at c.requires) b x
          (omega (arith, le)) at)
          c.self.invariant.empty);
      few = c.self.invariant.few;
      counted = c.self.invariant.counted ∙ sym (ap held_by gone ∙ held-given_up zone first 0 xs);
      fewer = c.self.invariant.fewer;
      kept = λ r e. absurd (cc);
    }

pub returns-clause-cells : goal.returns-clause-cells
returns-clause-cells c = λ p.
    ap (λ ys. cell_at ys p) c.give_up_all.ensures.arenas
    ∙ cell-given_up c.args.zone c.args.first 0 c.self.inside.store.arenas p
    ∙ ap (λ (s : ArenasState). cell_at s.arenas p) c.self.view_is
