use Rattle.std.proofs.Common.{length}
use Rattle.sweeping.specs.ArenasOut.{outs_of}
use Rattle.sweep_beside.proofs.beside.sweep_alone.Given as goal

abbrev pub decreases-loop-sweeper : goal.decreases-loop-sweeper
decreases-loop-sweeper l = length (outs_of l.sweeper)
