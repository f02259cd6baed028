use Rattle.std.proofs.Common.{refl}
use Rattle.weak_maps.proofs.Kept.{IsSound-kept, kept_looks}
use Rattle.weak_maps.proofs.tables.WeakMaps.start_map.Goals as goal

pub invariant_of-self : goal.invariant_of-self
invariant_of-self c =
    kept_looks c.self.inside.entries c.start_map.new.self c.self.inside.delegates c.self.inside.delegates
    c.self.invariant c.start_map.ensures.table c.start_map.ensures.sound c.start_map.ensures.parallel refl
    c.self.invariant.rows

pub returns-clause-sound : goal.returns-clause-sound
returns-clause-sound c =
    IsSound-kept c.start_map.new.self c.self.inside.delegates
    (kept_looks c.self.inside.entries c.start_map.new.self c.self.inside.delegates c.self.inside.delegates
    c.self.invariant c.start_map.ensures.table c.start_map.ensures.sound c.start_map.ensures.parallel refl
    c.self.invariant.rows)
