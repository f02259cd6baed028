use Rattle.judge.proofs.Slots.{kept_left, table_of}
use Rattle.judge.proofs.arenas.Arenas.vacate.Goals as goal

pub invariant_of-self : goal.invariant_of-self
invariant_of-self c = record {
  kept = kept_left (table_of c.look_from.new.self) c.remove.new.self c.args.place c.look_from.ensures.taken
      c.look_from.ensures.lowest c.remove.ensures.updates c.look_from.new.self.kept;
}
