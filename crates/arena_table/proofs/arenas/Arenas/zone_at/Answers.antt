use Rattle.std.proofs.Common.{◌≡◌, ◌∙◌, All, IsSome, IsSomeAnd, List, Some, option_map, slice_get, ap, sym, subst}
use Rattle.arena_table.specs.Slots.{Arena, cell_at}
use Rattle.arena_table.specs.Stored.{IsHeadOf}
use Rattle.arena_table.specs.Table.{ArenasState}
use Rattle.arena_table.proofs.GivenUp.{zone-of_head}
use Rattle.arena_table.proofs.arenas.Arenas.zone_at.Goals as goal

pub returns : goal.returns
returns c =
    let same = ap (λ (s : ArenasState). s.arenas) c.self.view_is in
    let head = rw c.arena.ensures at c.head.ensures.head in
    ap (λ (ys : List Arena). option_map (λ (a : Arena). a.zone) (slice_get ys c.args.place.0)) (sym same)
    ∙ zone-of_head c.self.inside.store.arenas c.args.place c.head.result.now c.self.invariant.empty
    (subst (λ (ys : List Arena). IsSome (cell_at ys c.args.place)) (sym same) c.requires) head
