use Rattle.arena_table.specs.Slots.{with_bits}
use Rattle.arena_table.proofs.Changing.{AreArenas-like, AreLike-changed, IsLike-bits}
use Rattle.arena_table.proofs.arenas.Arenas.set_bits.Goals as goal

pub invariant_of-self : goal.invariant_of-self
invariant_of-self c = AreArenas-like c.self.inside.store c.set_bits.new.self c.self.inside.index c.self.inside.out
    c.self.inside.delayed c.self.inside.made c.self.inside.held c.self.inside.reserved c.self.invariant
    (AreLike-changed (with_bits c.args.bits) (IsLike-bits c.args.bits) c.self.inside.store.arenas
    c.set_bits.new.self.arenas c.args.arena c.set_bits.ensures.arenas) c.set_bits.ensures.room
