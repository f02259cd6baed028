use Rattle.arena_table.proofs.Naming.{no_cell, names-room, names-next, names-all}
use Rattle.arena_table.proofs.store.names_of_cells.Goals as goal

pub push-requires : goal.push-requires
push-requires c = names-room c.loop-left.names c.loop-left.left c.args.word c.args.cells.now no_cell
    c.loop-left.invariant c.loop-left-test.true c.loop-left.auto.left-fits.fits c.requires

pub loop-left-preserved : goal.loop-left-preserved
loop-left-preserved c =
    let cell = c.index-cells-left in
    rw c.push.ensures (rw c.name.ensures.value
    (names-next c.loop-left.names c.loop-left.left c.args.word c.args.cells.now cell.result cell.is
    c.loop-left.invariant c.loop-left-test.true c.loop-left.auto.left-fits.fits c.requires))

pub returns : goal.returns
returns c = names-all c.loop-left.names c.loop-left.left c.args.word c.args.cells.now c.loop-left.invariant
    c.loop-left-test.false
