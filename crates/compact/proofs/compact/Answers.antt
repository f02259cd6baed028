use Rattle.compact.proofs.compact.Goals as goal

pub of-requires-clause-kept : goal.of-requires-clause-kept
of-requires-clause-kept c = c.requires.kept

pub of-requires-clause-whole : goal.of-requires-clause-whole
of-requires-clause-whole c = c.requires.whole

pub relocate-requires-clause-moves : goal.relocate-requires-clause-moves
relocate-requires-clause-moves c = c.in_ok-packing.ensures.moves_are

pub returns-clause-ok : goal.returns-clause-ok
returns-clause-ok c = record {
  first = c.in_ok-packing.packing.first_given_up;
  moves = c.in_ok-packing.packing.moves;
  packs = c.in_ok-packing.ensures;
  moved_is = c.len.ensures;
  given_up_is = c.in_ok-given_up.ensures.count;
  relocates = c.in_ok-given_up.ensures.relocates;
}
