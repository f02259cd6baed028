use Rattle.std.proofs.Common.{◌∙◌, refl, sym, ap, subst}
use Rattle.arena_table.specs.Table.{ArenasState}
use Rattle.heap_core.specs.Heap.{HeapState, bits_of}
use Rattle.heap_core.specs.Moving.{Carries, zones_from}
use Rattle.heap_core.specs.Shape.{arena_shapes}
use Rattle.heap_core.specs.TargetZones.{AreTargetsNoted}
use Rattle.heap_core.specs.contracts.heap.Heap.{the_view}
use Rattle.heap_core.proofs.GivingUp.{are-carried, count-given_up, emptied, empty-from, given_up_heap, gives-up}
use Rattle.heap_core.proofs.GivingUp.{gives-by, noted-given}
use Rattle.heap_core.proofs.heap.Heap.relocate.Goals as goal

pub carry-requires-clause-moves : goal.carry-requires-clause-moves
carry-requires-clause-moves c = are-carried c.args.self.now.shape c.args.zone c.args.first_given_up c.args.moves.now
    c.requires.moves

pub give_up-requires : goal.give_up-requires
give_up-requires c = empty-from c.carry.new.self.shape c.self.inside.arenas.arenas c.args.zone c.args.first_given_up
    (ap (λ (x : HeapState). x.shape.arenas) (sym c.self.view_is)) c.in_ok-carry.ensures.carries.outs
    (emptied c.args.self.now c.carry.new.self c.args.zone c.args.first_given_up c.args.moves.now
    (record { are = c.requires.moves; went = c.in_ok-carry.ensures.carries }))

pub invariant_of-self : goal.invariant_of-self
invariant_of-self c = subst (λ (s : ArenasState). AreTargetsNoted s.arenas c.self.inside.target_zones)
    (sym c.give_up.ensures.state)
    (noted-given c.args.self.now c.carry.new.self c.self.inside.arenas.arenas c.args.zone c.args.first_given_up
    c.args.moves.now (gives-by c.args.self.now c.carry.new.self (the_view c.self.inside) c.self.inside.arenas.arenas
    c.args.zone c.args.first_given_up c.args.moves.now (record {
      is = c.self.view_is;
      seen = refl;
      coloured = refl;
      are = c.requires.moves;
      went = c.in_ok-carry.ensures.carries;
      entries = c.carry_law.ensures.entries;
    })) c.self.inside.target_zones c.requires.heap
    c.self.invariant)

pub returns-clause-count : goal.returns-clause-count
returns-clause-count c = c.give_up.ensures.count
    ∙ count-given_up c.args.zone c.args.first_given_up c.args.self.now c.carry.new.self c.self.inside.arenas.arenas
    (ap (λ (x : HeapState). x.shape.arenas) (sym c.self.view_is)) c.in_ok-carry.ensures.carries.owners

pub returns-clause-relocates : goal.returns-clause-relocates
returns-clause-relocates c =
    let old : HeapState = c.args.self.now in
    let h : HeapState = c.carry.new.self in
    let b : HeapState = the_view c.self.inside in
    let zone = c.args.zone in
    let first = c.args.first_given_up in
    let moves = c.args.moves.now in
    let xs = c.self.inside.arenas.arenas in
    let gone = gives-up old h xs zone first moves (gives-by old h b xs zone first moves (record {
      is = c.self.view_is;
      seen = refl;
      coloured = refl;
      are = c.requires.moves;
      went = c.in_ok-carry.ensures.carries;
      entries = c.carry_law.ensures.entries;
    })) in
    subst (Carries (zones_from zone first 0 old.shape.arenas) old zone moves)
    (sym ((λ j. record b {
      shape = record b.shape { arenas = arena_shapes (c.give_up.ensures.state j).arenas };
      colours = bits_of (c.give_up.ensures.state j).arenas;
      made = (c.give_up.ensures.state j).made;
      delayed = (c.give_up.ensures.state j).delayed;
    }) ∙ ap (λ (x : HeapState). given_up_heap x xs zone first) c.self.view_is)) gone
