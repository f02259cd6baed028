use Rattle.std.proofs.Common.{◌∙◌, sym, arith}
use Rattle.arena_table.proofs.Walking.{next-found, none-next}
use Rattle.arena_table.proofs.arenas.next_among.Goals as goal

pub returns-in_err-arena-clause-none : goal.returns-in_err-arena-clause-none
returns-in_err-arena-clause-none c =
    let none = none-next c.args.zones.bits c.args.from c.args.store.now.arenas
    (sym (c.starting_at-walk.ensures.rest _ c.requires) ∙ c.in_err-arena.ensures.none _ c.requires) in
    rw c.from_residual.ensures none

pub returns-clause-among : goal.returns-clause-among
returns-clause-among c =
    let first = c.in_ok-arena.ensures.some c.args.store.now.arenas c.requires in
    let found = next-found c.args.zones.bits c.args.from c.in_ok-arena.arena c.args.store.now.arenas first.0
    (sym (c.starting_at-walk.ensures.rest _ c.requires) ∙ first.1) in
    (found.on, found.among)

pub returns-clause-lowest : goal.returns-clause-lowest
returns-clause-lowest c =
    let first = c.in_ok-arena.ensures.some c.args.store.now.arenas c.requires in
    let found = next-found c.args.zones.bits c.args.from c.in_ok-arena.arena c.args.store.now.arenas first.0
    (sym (c.starting_at-walk.ensures.rest _ c.requires) ∙ first.1) in
    found.lowest

pub prove-unreachable-requires : goal.prove-unreachable-requires
prove-unreachable-requires c =
    let first = c.in_ok-arena.ensures.some c.args.store.now.arenas c.requires in
    let found = next-found c.args.zones.bits c.args.from c.in_ok-arena.arena c.args.store.now.arenas first.0
    (sym (c.starting_at-walk.ensures.rest _ c.requires) ∙ first.1) in
    omega (arith, found.within, c.len.ensures.value, c.if-prove.true)
