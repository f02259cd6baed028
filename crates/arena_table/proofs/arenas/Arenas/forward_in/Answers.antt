use Rattle.std.proofs.Common.{◌≡◌, ◌∙◌, List, ap, option_map, slice_get, if◌then◌else◌}
use Rattle.arena_table.specs.Indexed.{is_owned}
use Rattle.arena_table.specs.Moving.{all_forwarded, forwarded, in_zone}
use Rattle.arena_table.specs.Slots.{Arena, cell_at}
use Rattle.arena_table.specs.Table.{ArenasState}
use Rattle.arena_table.specs.contracts.arenas.Arenas.{the_view}
use Rattle.arena_table.proofs.Changing.{AreArenas-like, AreLike-in}
use Rattle.arena_table.proofs.Forwarding.{IsLike-forwarded, below-only, cells-in_zone, in_zone-these}
use Rattle.arena_table.proofs.arenas.Arenas.forward_in.Goals as goal

pub invariant_of-self : goal.invariant_of-self
invariant_of-self c = AreArenas-like c.self.inside.store c.forward_zones.new.store c.self.inside.index c.self.inside.out
    c.self.inside.delayed c.self.inside.made c.self.inside.held c.self.inside.reserved c.self.invariant
    (AreLike-in (all_forwarded c.args.moves.now) (IsLike-forwarded c.args.moves.now) c.only.result.bits
    c.self.inside.store.arenas c.forward_zones.new.store.arenas c.forward_zones.ensures.arenas)
    c.forward_zones.ensures.room

pub returns-clause-state : goal.returns-clause-state
returns-clause-state c =
    let moves = c.args.moves.now in
    let zone = c.args.zone in
    let xs = c.self.inside.store.arenas in
    let gone : c.forward_zones.new.store.arenas ≡ in_zone (all_forwarded moves) zone xs =
    c.forward_zones.ensures.arenas
    ∙ in_zone-these (all_forwarded moves) c.only.result.bits zone xs c.forward_zones.ensures.fits
    (below-only c.only.result.bits zone c.only.ensures) c.only.ensures c.self.invariant.indexed.owned.zones in
    ap (λ (ys : List Arena). record (the_view c.self.inside) { arenas = ys }) gone
    ∙ ap (λ (s : ArenasState). record s { arenas = in_zone (all_forwarded moves) zone s.arenas }) c.self.view_is

pub returns-clause-cells : goal.returns-clause-cells
returns-clause-cells c = λ p.
    let moves = c.args.moves.now in
    let zone = c.args.zone in
    let xs = c.self.inside.store.arenas in
    let gone : c.forward_zones.new.store.arenas ≡ in_zone (all_forwarded moves) zone xs =
    c.forward_zones.ensures.arenas
    ∙ in_zone-these (all_forwarded moves) c.only.result.bits zone xs c.forward_zones.ensures.fits
    (below-only c.only.result.bits zone c.only.ensures) c.only.ensures c.self.invariant.indexed.owned.zones in
    ap (λ (ys : List Arena). cell_at ys p) gone ∙ cells-in_zone moves zone xs p
    ∙ ap (λ (s : ArenasState). if is_owned zone (slice_get s.arenas p.0)
    then option_map (forwarded moves) (cell_at s.arenas p) else cell_at s.arenas p) c.self.view_is
