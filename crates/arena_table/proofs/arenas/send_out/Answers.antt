use Rattle.std.proofs.Common.{refl, true}
use Rattle.arena_table.specs.Slots.{handed_out}
use Rattle.arena_table.proofs.Outs.{AreOut-turned}
use Rattle.arena_table.proofs.Visiting.{IsChanging-first, IsChanging-next, IsChanging-within, rest-shorter_now}
use Rattle.arena_table.proofs.arenas.send_out.Goals as goal

pub loop-arena-init : goal.loop-arena-init
loop-arena-init c = (
  IsChanging-first handed_out c.args.store.now.arenas c.args.index.now.owned c.args.zones.bits
      c.over-walk.result c.requires.owned (c.over-walk.ensures.rest c.args.store.now.arenas) c.over-walk.ensures.below,
  c.requires.out,
)

pub loop-arena-smaller : goal.loop-arena-smaller
loop-arena-smaller c = rest-shorter_now handed_out c.loop-arena.store.arenas c.set_out.new.self.arenas c.loop-arena.walk
    c.next.new.self c.in-Some.arena (λ x. refl) (c.in-Some.ensures.some _ c.loop-arena.invariant.0.owned)
    c.set_out.ensures.arenas

pub loop-arena-preserved : goal.loop-arena-preserved
loop-arena-preserved c =
    let changing = c.loop-arena.invariant.0 in
    let rest = c.in-Some.ensures.some _ changing.owned in
    let within = IsChanging-within handed_out c.args.store.now.arenas c.loop-arena.store.arenas c.args.index.now.owned
    c.args.zones.bits c.loop-arena.walk c.next.new.self c.in-Some.arena changing rest in (
      IsChanging-next handed_out c.args.store.now.arenas c.loop-arena.store.arenas c.set_out.new.self.arenas
          c.args.index.now.owned c.args.zones.bits c.loop-arena.walk c.next.new.self c.in-Some.arena changing
          (λ x. refl) rest c.in-Some.ensures.below c.set_out.ensures.arenas,
      AreOut-turned handed_out true c.loop-arena.store.arenas c.set_out.new.self.arenas c.loop-arena.out
          c.insert.new.self c.in-Some.arena c.loop-arena.invariant.1 (λ x. refl) within c.set_out.ensures.arenas
          c.insert.ensures.room c.insert.ensures.bits,
    )
