use Rattle.std.proofs.Common.{◌≡◌, ◌∙◌, length, refl, ap, sym, subst, All, arith}
use Rattle.gz_names.specs.declared.moves.Move.{Move}
use Rattle.arena_table.specs.Moving.{all_forwarded}
use Rattle.arena_table.proofs.Changing.{length-change_at}
use Rattle.arena_table.proofs.Visiting.{IsChanging-all, IsChanging-first, IsChanging-next, IsChanging-within}
use Rattle.arena_table.proofs.Visiting.{rest-shorter_now}
use Rattle.arena_table.proofs.arenas.forward_zones.Goals as goal

pub loop-arena-init : goal.loop-arena-init
loop-arena-init c = record {
  changing = IsChanging-first (all_forwarded c.args.moves.now) c.args.store.now.arenas c.args.index.now.owned
      c.args.zones.bits c.over-walk.result c.requires.owned (c.over-walk.ensures.rest c.args.store.now.arenas)
      c.over-walk.ensures.below;
  sized = refl;
  room = refl;
}

pub loop-arena-smaller : goal.loop-arena-smaller
loop-arena-smaller c =
    rest-shorter_now (all_forwarded c.args.moves.now) c.loop-arena.store.arenas c.forward_all.new.store.arenas
    c.loop-arena.walk c.next.new.self c.in-Some.arena (λ x. refl)
    (c.in-Some.ensures.some _ c.loop-arena.invariant.changing.owned) c.forward_all.ensures.arenas

pub forward_all-requires-clause-made : goal.forward_all-requires-clause-made
forward_all-requires-clause-made c =
    let changing = c.loop-arena.invariant.changing in
    IsChanging-within (all_forwarded c.args.moves.now) c.args.store.now.arenas c.loop-arena.store.arenas
    c.args.index.now.owned c.args.zones.bits c.loop-arena.walk c.next.new.self c.in-Some.arena changing
    (c.in-Some.ensures.some _ changing.owned)

pub forward_all-requires-clause-goals : goal.forward_all-requires-clause-goals
forward_all-requires-clause-goals c = λ k d lt.
    (let inside = c.requires.goals k d lt in omega (arith, inside, c.loop-arena.invariant.sized))

pub loop-arena-preserved : goal.loop-arena-preserved
loop-arena-preserved c =
    let changing = c.loop-arena.invariant.changing in
    let rest = c.in-Some.ensures.some _ changing.owned in
    record {
      changing = IsChanging-next (all_forwarded c.args.moves.now) c.args.store.now.arenas c.loop-arena.store.arenas
          c.forward_all.new.store.arenas c.args.index.now.owned c.args.zones.bits c.loop-arena.walk c.next.new.self
          c.in-Some.arena changing (λ x. refl) rest c.in-Some.ensures.below c.forward_all.ensures.arenas;
      sized = ap length c.forward_all.ensures.arenas
          ∙ length-change_at (all_forwarded c.args.moves.now) c.loop-arena.store.arenas c.in-Some.arena
          ∙ c.loop-arena.invariant.sized;
      room = c.forward_all.ensures.room ∙ c.loop-arena.invariant.room;
    }
