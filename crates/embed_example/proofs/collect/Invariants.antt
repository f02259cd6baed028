use Rattle.slice_driver.specs.Left.{units_left}
use Rattle.sweeping.specs.ArenasOut.{flown_by}
use Rattle.embed_example.proofs.collect.Given as goal

abbrev pub decreases-loop-session : goal.decreases-loop-session
decreases-loop-session l = units_left l.session.collector (flown_by l.session.sweeper)
