use Rattle.std.proofs.Common.{rules}
use Rattle.trace_cli.proofs.Storming.{storm_done, storm_over, storm_stops}
use Rattle.trace_cli.proofs.storm.run_storm.Goals as goal

pub summary_of-requires : goal.summary_of-requires
summary_of-requires g c = storm_done c.args.seed c.args.lines c.new-source.result c.new-source.ensures
    c.answer_all.result c.answer_all.new.machine _ _ _ _ c.answer_all.ensures.ended c.in-Done.is

pub returns-in_default-clause-err : goal.returns-in_default-clause-err
returns-in_default-clause-err g c =
    storm_stops (storm_over c.args.seed c.args.lines c.new-source.result c.new-source.ensures c.answer_all.result _ _ _
    c.answer_all.ensures.ended.over) (search rules)
