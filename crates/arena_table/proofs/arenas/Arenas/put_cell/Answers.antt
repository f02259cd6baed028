use Rattle.std.proofs.Common.{◌∙◌, ap, sym, arith, Some, if◌then◌else◌}
use Rattle.gz_names.specs.declared.numbers.Place.{Place}
use Rattle.arena_table.specs.Cells.{state_of}
use Rattle.arena_table.specs.Slots.{cell_at, held_by}
use Rattle.arena_table.specs.Table.{ArenasState, new_cell, is_place}
use Rattle.arena_table.proofs.Putting.{grown-within, grown-slot, held_by-put, kept-place}
use Rattle.arena_table.proofs.CellsAt.{cell_at-put}
use Rattle.arena_table.proofs.GivenUp.{empty-put}
use Rattle.arena_table.proofs.Outs.{AreOut-put}
use Rattle.arena_table.proofs.Covered.{covered-put}
use Rattle.arena_table.proofs.arenas.Arenas.put_cell.Goals as goal

pub invariant_of-self : goal.invariant_of-self
invariant_of-self c =
    let kept = c.self.invariant.kept c.in-Some.reserved c.in-Some.is in
    let placed = kept-place c.args.self.now.reserved c.in-Some.reserved c.args.place
    (sym (ap (λ (s : ArenasState). s.reserved) c.self.view_is) ∙ c.in-Some.is) c.requires.reserved in
    let place = placed ∙ kept.place in
    let put = held_by-put c.self.inside.store.arenas c.in-Some.reserved.zone c.args.place (state_of c.new-cell.result)
    place in
    let now = ap held_by c.put_in_zone.ensures.arenas in
    let counted = c.self.invariant.counted in
    let fewer = c.self.invariant.fewer in
    let few = kept.few in
    record {
      indexed = c.put_in_zone.ensures.indexed;
      out_of = AreOut-put c.self.inside.store.arenas c.put_in_zone.new.store.arenas c.self.inside.out
          c.in-Some.reserved.zone c.args.place (state_of c.new-cell.result) c.self.invariant.out_of
          c.put_in_zone.ensures.arenas (λ end. kept.out_room (sym (ap (λ (p : Place). p.0) placed) ∙ end));
      covered = covered-put c.self.inside.delayed c.self.inside.store.arenas c.put_in_zone.new.store.arenas
          c.in-Some.reserved.zone c.args.place (state_of c.new-cell.result) c.self.invariant.covered
          (λ end. kept.covered (sym (ap (λ (p : Place). p.0) placed) ∙ end)) c.put_in_zone.ensures.arenas;
      empty = empty-put c.self.inside.store.arenas c.put_in_zone.new.store.arenas c.in-Some.reserved.zone c.args.place
          (state_of c.new-cell.result) kept.zone place c.put_in_zone.ensures.arenas c.self.invariant.empty;
      few = omega arith;
      counted = omega arith;
      fewer = omega arith;
      kept = λ r e. absurd (cc);
    }

pub returns-in-Some-clause-cells : goal.returns-in-Some-clause-cells
returns-in-Some-clause-cells c = λ p.
    let kept = c.self.invariant.kept c.in-Some.reserved c.in-Some.is in
    let place = kept-place c.args.self.now.reserved c.in-Some.reserved c.args.place
    (sym (ap (λ (s : ArenasState). s.reserved) c.self.view_is) ∙ c.in-Some.is) c.requires.reserved ∙ kept.place in
    let xs = c.self.inside.store.arenas in
    let same = ap (λ (s : ArenasState). cell_at s.arenas p) c.self.view_is in
    ap (λ as'. cell_at as' p) c.put_in_zone.ensures.arenas
    ∙ (cell_at-put xs c.in-Some.reserved.zone c.args.place (state_of c.new-cell.result) p
    (grown-within xs c.in-Some.reserved.zone c.args.place place)
    (grown-slot xs c.in-Some.reserved.zone c.args.place place)
    ∙ (ap (λ cell. if is_place p c.args.place then Some cell else cell_at xs p) c.new-cell.ensures
    ∙ ap (λ o. if is_place p c.args.place then Some (new_cell c.args.kind c.args.comp c.args.name) else o) same))
