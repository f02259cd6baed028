use Rattle.std.proofs.Common.{◌∙◌, ap}
use Rattle.arena_table.specs.Moving.{forwarded, forwarded_at}
use Rattle.arena_table.specs.Slots.{cell_at, change_at}
use Rattle.arena_table.specs.Table.{ArenasState}
use Rattle.arena_table.proofs.Storing.{cell_at-within}
use Rattle.arena_table.proofs.Changing.{AreArenas-like, AreLike-changed, IsLike-cell}
use Rattle.arena_table.proofs.CellsAt.{cell_at-cell}
use Rattle.arena_table.proofs.arenas.Arenas.forward.Goals as goal

pub invariant_of-self : goal.invariant_of-self
invariant_of-self c = AreArenas-like c.self.inside.store c.forward.new.self c.self.inside.index c.self.inside.out
    c.self.inside.delayed c.self.inside.made c.self.inside.held c.self.inside.reserved c.self.invariant
    (AreLike-changed (forwarded_at c.args.moves.now c.args.place.1)
    (IsLike-cell (forwarded c.args.moves.now) c.args.place.1)
    c.self.inside.store.arenas c.forward.new.self.arenas c.args.place.0 c.forward.ensures.arenas)
    c.forward.ensures.room

pub returns-clause-cells : goal.returns-clause-cells
returns-clause-cells c = λ p.
    let same = ap (λ (s : ArenasState). s.arenas) c.self.view_is in
    ap (λ as'. cell_at as' p)
    (c.forward.ensures.arenas ∙ ap (λ as'. change_at (forwarded_at c.args.moves.now c.args.place.1) as' c.args.place.0)
    same)
    ∙ cell_at-cell c.args.self.now.arenas c.args.place (forwarded c.args.moves.now) p
    (cell_at-within c.args.self.now.arenas c.args.place c.requires.cell)
