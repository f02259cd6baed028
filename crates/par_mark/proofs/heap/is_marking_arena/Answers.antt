use Rattle.par_mark.proofs.MarkingArenas.{owned, unowned}
use Rattle.par_mark.proofs.heap.is_marking_arena.Goals as goal

pub returns-in-Some : goal.returns-in-Some
returns-in-Some c = λ slot. owned c.args.heap.now c.args.zones.bits c.requires.zones c.args.arena slot c.in-Some.zone
    c.contains.result c.in-Some.ensures c.contains.ensures

pub returns-in-None : goal.returns-in-None
returns-in-None c = λ slot. unowned c.args.heap.now c.args.zones.bits c.requires.zones c.args.arena slot
    c.requires.made c.in-None.ensures
