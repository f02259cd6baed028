use Rattle.std.proofs.Common.{◌∙◌, sym}
use Rattle.weak_maps.proofs.Kept.{kept_looks, no_rows_without}
use Rattle.weak_maps.proofs.Tying.{Starts-none}
use Rattle.weak_maps.proofs.tables.WeakMaps.start.Goals as goal

pub returns-then-count-eq0-clause-delegate : goal.returns-then-count-eq0-clause-delegate
returns-then-count-eq0-clause-delegate c =
    Starts-none (λ row. row.target) c.args.colour c.args.place c.args.self.now.table.delegates.rows
    c.args.self.now.looks.by_delegate
    (no_rows_without c.args.self.now.table c.count.ensures.sound (sym c.count.ensures.count ∙ c.if-count-eq0.true))

pub invariant_of-self : goal.invariant_of-self
invariant_of-self c =
    kept_looks c.self.inside.entries c.start_key.new.self c.self.inside.delegates c.start.new.self c.self.invariant
    (c.start_key.ensures.table ∙ c.start_map.ensures.table) c.start_key.ensures.sound c.start_key.ensures.parallel
    c.start.ensures.rows c.start.ensures.sound
