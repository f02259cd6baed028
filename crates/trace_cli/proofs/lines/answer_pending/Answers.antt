use Rattle.trace_cli.proofs.Going.{reset_goes, units_go}
use Rattle.trace_cli.specs.Writing.{broke_reset, broke_units, stopped_units}
use Rattle.trace_cli.proofs.lines.answer_pending.Goals as goal

pub returns-in-Reset-clause-ok : goal.returns-in-Reset-clause-ok
returns-in-Reset-clause-ok g c = reset_goes c.args.collector.now (g.F.Flight.bits c.args.flight.now) c.args.left.now
    c.answer_reset.new.collector (g.F.Flight.bits c.answer_reset.new.flight) (g.K.Sink.written c.args.sink.now)
    (g.K.Sink.written c.answer_reset.new.sink) c.answer_reset.result c.in-Reset.is c.answer_reset.ensures.ok

pub returns-in-Reset-clause-over : goal.returns-in-Reset-clause-over
returns-in-Reset-clause-over g c = λ e some. c.answer_reset.ensures.over e

pub returns-in-Reset-clause-memory : goal.returns-in-Reset-clause-memory
returns-in-Reset-clause-memory g c = λ e. absurd (c.answer_reset.ensures.memory e)

pub returns-in-Reset-clause-write : goal.returns-in-Reset-clause-write
returns-in-Reset-clause-write g c = λ e w ok stands.
    broke_reset c.in-Reset.is (c.answer_reset.ensures.write e w ok stands)

pub answer_units-requires-clause-few : goal.answer_units-requires-clause-few
answer_units-requires-clause-few g c = c.requires.few c.in_default.not-Reset

pub returns-in_default-clause-ok : goal.returns-in_default-clause-ok
returns-in_default-clause-ok g c = units_go c.args.collector.now (g.F.Flight.bits c.args.flight.now) c.args.left.now
    c.answer_units.new.collector (g.F.Flight.bits c.answer_units.new.flight) c.answer_units.new.pending
    (g.K.Sink.written c.args.sink.now) (g.K.Sink.written c.answer_units.new.sink) c.answer_units.result
    c.in_default.not-Reset c.answer_units.ensures.ok

pub returns-in_default-clause-memory : goal.returns-in_default-clause-memory
returns-in_default-clause-memory g c = λ e w ok stands.
    let stops = c.answer_units.ensures.memory e w ok stands in
    stopped_units stops.0 c.in_default.not-Reset stops.1 stops.2

pub returns-in_default-clause-write : goal.returns-in_default-clause-write
returns-in_default-clause-write g c = λ e w ok stands.
    let breaks = c.answer_units.ensures.write e w ok stands in
    broke_units breaks.0 c.in_default.not-Reset breaks.1 breaks.2
