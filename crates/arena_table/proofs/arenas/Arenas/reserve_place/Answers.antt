use Rattle.std.proofs.Common.{◌<◌, ◌∙◌, ap, arith, sym}
use Rattle.arena_table.specs.Slots.{cell_at}
use Rattle.arena_table.specs.Table.{ArenasState}
use Rattle.arena_table.proofs.Placing.{place_for-free}
use Rattle.arena_table.proofs.Reserving.{AreArenas-kept_found, AreArenas-kept_new, AreArenas-roomier}
use Rattle.arena_table.proofs.arenas.Arenas.reserve_place.Goals.{in-Some, in-None+in_ok-place-in-None}
use Rattle.arena_table.proofs.arenas.Arenas.reserve_place.Goals as goal

pub invariant_of-self : goal.invariant_of-self
invariant_of-self c = AreArenas-roomier c.self.inside.store c.make_room.new.store c.self.inside.index
    c.make_room.new.index c.self.inside.out c.make_room.new.out c.self.inside.delayed c.make_room.new.delayed
    c.self.inside.made c.self.inside.held c.self.inside.reserved c.self.invariant c.make_room.ensures.arenas
    c.make_room.ensures.indexed c.make_room.ensures.kept c.make_room.ensures.covered_kept
    c.make_room.ensures.out_kept c.make_room.ensures.out_same

pub invariant_of-self-2 : goal.invariant_of-self-2
invariant_of-self-2 c =
    let made = ap (λ (s : ArenasState). s.made) c.self.view_is in
    let few : c.self.inside.made < 4294967295 = omega (arith, c.requires) in
    elim c.match-find_place.branch [
      | in-Some w ↦ rw (w.self-inside-is, w.place-is) (AreArenas-kept_found c.self.inside.store c.self.inside.index
          c.self.inside.out c.self.inside.delayed c.self.inside.made c.self.inside.held c.self.inside.reserved
          c.args.zone w.in-Some.place c.self.invariant (omega arith) few w.in-Some.ensures.some w.in-Some.ensures.takes)
      | in-None+in_ok-place-in-None w ↦ rw (w.self-inside-is, w.place-is)
          (AreArenas-kept_new w.make_room.new.store w.make_room.new.index w.make_room.new.out w.make_room.new.delayed
          c.self.inside.made c.self.inside.held c.self.inside.reserved c.args.zone w.in_ok-place-in-None.place
          c.self.inside.store.arenas
          (AreArenas-roomier c.self.inside.store w.make_room.new.store c.self.inside.index w.make_room.new.index
          c.self.inside.out w.make_room.new.out c.self.inside.delayed w.make_room.new.delayed c.self.inside.made
          c.self.inside.held c.self.inside.reserved c.self.invariant w.make_room.ensures.arenas
          w.make_room.ensures.indexed w.make_room.ensures.kept w.make_room.ensures.covered_kept
          w.make_room.ensures.out_kept w.make_room.ensures.out_same) (omega arith) few w.make_room.ensures.arenas
          w.in_ok-place-in-None.ensures.place w.in-None.ensures.none w.in_ok-place-in-None.ensures.room
          w.in_ok-place-in-None.ensures.out_room w.in_ok-place-in-None.ensures.covered)
    ]

pub returns-clause-free : goal.returns-clause-free
returns-clause-free c = rw (← ap (λ (s : ArenasState). s.arenas) c.self.view_is) (elim c.match-find_place.branch [
  | in-Some w ↦ (ap (cell_at c.self.inside.store.arenas) (w.place-is ∙ w.in-Some.ensures.some)
      ∙ place_for-free c.self.inside.store.arenas c.args.zone)
  | in-None+in_ok-place-in-None w
      ↦ (ap (cell_at c.self.inside.store.arenas)
      (w.place-is ∙ (w.in_ok-place-in-None.ensures.place ∙ sym (w.in-None.ensures.none)))
      ∙ place_for-free c.self.inside.store.arenas c.args.zone)
])
