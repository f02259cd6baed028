use Rattle.std.proofs.Common.{◌∙◌, ap}
use Rattle.arena_table.specs.Slots.{cell_at, change_at, with_field}
use Rattle.arena_table.specs.Table.{ArenasState}
use Rattle.arena_table.proofs.Storing.{cell_at-within, is_some-from}
use Rattle.arena_table.proofs.Changing.{AreArenas-like, AreLike-changed, IsLike-field}
use Rattle.arena_table.proofs.CellsAt.{cell_at-field}
use Rattle.arena_table.proofs.arenas.Arenas.set_field.Goals as goal

pub invariant_of-self : goal.invariant_of-self
invariant_of-self c = AreArenas-like c.self.inside.store c.set_field.new.self c.self.inside.index c.self.inside.out
    c.self.inside.delayed c.self.inside.made c.self.inside.held c.self.inside.reserved c.self.invariant
    (AreLike-changed (with_field c.args.place.1 c.args.f c.args.v) (IsLike-field c.args.place.1 c.args.f c.args.v)
    c.self.inside.store.arenas c.set_field.new.self.arenas c.args.place.0 c.set_field.ensures.arenas)
    c.set_field.ensures.room

pub returns-clause-cells : goal.returns-clause-cells
returns-clause-cells c = λ p.
    let same = ap (λ (s : ArenasState). s.arenas) c.self.view_is in
    ap (λ as'. cell_at as' p)
    (c.set_field.ensures.arenas
    ∙ ap (λ as'. change_at (with_field c.args.place.1 c.args.f c.args.v) as' c.args.place.0) same)
    ∙ cell_at-field c.args.self.now.arenas c.args.place c.args.f c.args.v p
    (cell_at-within c.args.self.now.arenas c.args.place (is_some-from _ _ c.requires.field))
