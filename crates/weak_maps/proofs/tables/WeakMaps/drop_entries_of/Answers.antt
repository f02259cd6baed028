use Rattle.weak_maps.proofs.Dropping.{Dropping-more, Dropping-none, dropped, dropped_rows}
use Rattle.weak_maps.proofs.tables.WeakMaps.drop_entries_of.Goals as goal

pub loop-index-init : goal.loop-index-init
loop-index-init c = Dropping-none c.args.place c.args.self.now

pub loop-index-preserved : goal.loop-index-preserved
loop-index-preserved c =
    let found = c.in-Some.ensures.some in
    Dropping-more c.args.place c.loop-index.self c.take_at.new.self c.in-Some.index (record {
      entry = found.0;
      there = found.1;
      owned = found.2;
      taken = rw found.1 at c.take_at.ensures.taken;
      was = c.in-Some.ensures.sound;
      sound = c.take_at.ensures.sound;
      carries = c.take_at.ensures.carries;
      rows = c.take_at.ensures.rows;
    }) c.args.self.now c.loop-index.invariant

pub returns-clause-dropped : goal.returns-clause-dropped
returns-clause-dropped c =
    dropped c.args.place c.args.self.now c.loop-index.self c.in_default.ensures.sound c.loop-index.invariant
    c.in_default.ensures.none

pub returns-clause-rows : goal.returns-clause-rows
returns-clause-rows c =
    dropped_rows c.args.place c.args.self.now c.loop-index.self c.in_default.ensures.sound c.loop-index.invariant
    c.in_default.ensures.none
