use Rattle.std.proofs.Common.{◌==◌, ◌∙◌, List, position, sym, ap}
use Rattle.cell_bits.specs.declared.jobs.Job.{Job}
use Rattle.sweep_board.specs.declared.view.View.{View}
use Rattle.sweep_board.specs.Seats.{main_view_of}
use Rattle.sweep_board.specs.Flights.{flight_bits}
use Rattle.sweep_board.proofs.FlightBits.{flight_bits-wake}
use Rattle.sweep_board.proofs.flight.InFlightFlight.wake.Goals as goal

pub returns-clause-woken : goal.returns-clause-woken
returns-clause-woken c = λ a. ap (λ (v : View). flight_bits v a) c.wake.ensures.woken
    ∙ flight_bits-wake (main_view_of c.args.self.now.main) c.in-Some.index c.args.mask a c.args.arena
    (ap (λ (js : List Job). position (λ job. job.arena == c.args.arena) js) c.args.self.now.mains.1
    ∙ sym c.in-Some.ensures.place)
