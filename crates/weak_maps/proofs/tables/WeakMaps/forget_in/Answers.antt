use Rattle.std.proofs.Common.{◌∙◌}
use Rattle.weak_maps.proofs.Kept.{tried-fewer, tried-less}
use Rattle.weak_maps.proofs.tables.WeakMaps.forget_in.Goals as goal

pub loop-colour-smaller : goal.loop-colour-smaller
loop-colour-smaller c =
    tried-less c.loop-colour.self.table c.loop-colour.self.looks c.next_left.new.self.looks c.args.colour
    c.next_left.result c.next_left.ensures.some c.loop-colour-test.ensures

pub loop-colour-preserved : goal.loop-colour-preserved
loop-colour-preserved c = record {
  table = c.next_left.ensures.table ∙ c.loop-colour.invariant.table;
  fewer = λ d none. tried-fewer c.loop-colour.self.table c.loop-colour.self.looks c.next_left.new.self.looks
      c.args.colour c.next_left.result c.next_left.ensures.some
      c.next_left.ensures.none d (c.loop-colour.invariant.fewer d none);
}

pub returns-clause-table : goal.returns-clause-table
returns-clause-table c = c.next_left.ensures.table ∙ c.loop-colour.invariant.table

pub returns-clause-fewer : goal.returns-clause-fewer
returns-clause-fewer c = λ d none.
    tried-fewer c.loop-colour.self.table c.loop-colour.self.looks c.next_left.new.self.looks c.args.colour
    c.next_left.result c.next_left.ensures.some
    c.next_left.ensures.none d (c.loop-colour.invariant.fewer d none)
