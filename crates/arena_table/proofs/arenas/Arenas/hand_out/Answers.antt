use Rattle.std.proofs.Common.{◌∙◌, ap, length, sym}
use Rattle.std.proofs.lemmas.List.{length-map}
use Rattle.arena_table.proofs.Covered.{covered-same}
use Rattle.arena_table.specs.Slots.{cell_at}
use Rattle.arena_table.specs.Table.{ArenasState}
use Rattle.arena_table.proofs.CellsAt.{cell_at-handed}
use Rattle.arena_table.proofs.GivenUp.{empty-handed}
use Rattle.arena_table.proofs.HandingOut.{IsIndexed-handed, held_by-out}
use Rattle.arena_table.proofs.arenas.Arenas.hand_out.Goals as goal

pub invariant_of-self : goal.invariant_of-self
invariant_of-self c = record {
  indexed = IsIndexed-handed c.self.inside.store.arenas c.send_out.new.store.arenas c.self.inside.index
      c.close_all.new.self c.args.zones.bits c.self.invariant.indexed c.send_out.ensures.arenas
      c.close_all.ensures.owned c.close_all.ensures.bits c.close_all.ensures.room c.close_all.ensures.others;
  out_of = c.send_out.ensures.out;
  covered = covered-same c.self.inside.delayed (length c.send_out.new.store.arenas)
      (length c.self.inside.store.arenas)
      (ap length c.send_out.ensures.arenas ∙ length-map c.self.inside.store.arenas _) c.self.invariant.covered;
  empty = empty-handed c.args.zones.bits c.self.inside.store.arenas c.send_out.new.store.arenas c.close_all.ensures.fits
      c.send_out.ensures.arenas c.self.invariant.empty;
  few = c.self.invariant.few;
  counted = c.self.invariant.counted
      ∙ sym (held_by-out c.args.zones.bits c.self.inside.store.arenas c.send_out.new.store.arenas
      c.send_out.ensures.arenas);
  fewer = c.self.invariant.fewer;
  kept = λ r e. absurd (cc);
}

pub returns-clause-cells : goal.returns-clause-cells
returns-clause-cells c = λ p.
    ap (λ as'. cell_at as' p) c.send_out.ensures.arenas
    ∙ (cell_at-handed c.self.inside.store.arenas c.args.zones.bits p
    ∙ ap (λ (s : ArenasState). cell_at s.arenas p) c.self.view_is)
