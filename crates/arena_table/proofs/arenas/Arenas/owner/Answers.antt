use Rattle.std.proofs.Common.{◌≡◌, ◌<◌, ◌∙◌, List, None, Some, if◌then◌else◌, slice_get, ap, sym, refl, arith}
use Rattle.std.proofs.lemmas.Option.{slice_get_past}
use Rattle.arena_table.specs.Moving.{owner_of}
use Rattle.arena_table.specs.Slots.{Arena}
use Rattle.arena_table.specs.Table.{ArenasState}
use Rattle.arena_table.proofs.GivenUp.{owner-none, owner-of_head}
use Rattle.arena_table.proofs.arenas.Arenas.owner.Goals as goal

pub returns-then-arena-len : goal.returns-then-arena-len
returns-then-arena-len c =
    sym (ap (λ (s : ArenasState). owner_of (slice_get s.arenas c.args.arena)) (sym c.self.view_is)
    ∙ ap owner_of (slice_get_past c.self.inside.store.arenas c.args.arena (omega (arith, c.len.ensures.value))))

pub returns-then-head : goal.returns-then-head
returns-then-head c =
    sym (ap (λ (s : ArenasState). owner_of (slice_get s.arenas c.args.arena)) (sym c.self.view_is)
    ∙ owner-none c.self.inside.store.arenas c.args.arena c.head-head.result.now c.head-head.ensures.head c.if-head.true)

pub returns-else-head : goal.returns-else-head
returns-else-head c =
    sym (ap (λ (s : ArenasState). owner_of (slice_get s.arenas c.args.arena)) (sym c.self.view_is)
    ∙ owner-of_head c.self.inside.store.arenas c.args.arena c.head-head.result.now c.head-head.ensures.head
    (let below = c.index.ensures.below in omega (arith, below, c.index.ensures.value))
    ∙ ap (λ b. if b then None else Some c.head-head.result.now.zone) c.if-head.false)
