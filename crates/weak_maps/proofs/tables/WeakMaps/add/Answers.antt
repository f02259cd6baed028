use Rattle.weak_maps.proofs.Kept.{IsSound-kept, entered-tried}
use Rattle.weak_maps.proofs.tables.WeakMaps.add.Goals as goal

pub invariant_of-self : goal.invariant_of-self
invariant_of-self c = record {
  entries = c.add.ensures.sound;
  looks = c.add.ensures.parallel;
  rows = c.self.invariant.rows;
  entered = entered-tried c.self.inside.delegates.rows c.self.inside.entries c.add.new.self c.args.entry.now.map
      c.args.entry.now.key c.args.entry.now.value c.add.result c.add.ensures.found c.add.ensures.err
      c.self.invariant.entered;
}

pub returns-in-None-clause-sound : goal.returns-in-None-clause-sound
returns-in-None-clause-sound c =
    IsSound-kept c.add.new.self c.self.inside.delegates (record {
      entries = c.add.ensures.sound;
      looks = c.add.ensures.parallel;
      rows = c.self.invariant.rows;
      entered = entered-tried c.self.inside.delegates.rows c.self.inside.entries c.add.new.self c.args.entry.now.map
          c.args.entry.now.key c.args.entry.now.value c.add.result c.add.ensures.found c.add.ensures.err
          c.self.invariant.entered;
    })
