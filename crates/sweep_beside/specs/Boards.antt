-- The arenas on a board that main has not taken in.
use Rattle.std.specs.Prelude.{◌≡◌, ℕ, List, [], Option, drop}
use Rattle.cell_bits.specs.declared.bits.Bits.{Bits}
use Rattle.sweep_board.specs.declared.view.View.{View}
use Rattle.sweep_board.specs.Flights.{flight_bits}
use Rattle.sweep_board.specs.Seats.{jobs_of, main_view_of}
use Rattle.sweeping.specs.ArenasOut.{outs_of}
use Rattle.sweep_beside.specs.declared.on_board.OnBoard.{OnBoard}

-- the arenas that are out, each with the slots to free, and their bits
abbrev pub outs_on : {R : Type 0} → OnBoard R → List (ℕ × ℕ)
outs_on b = drop b.next (outs_of (jobs_of b.flight.board.now))

abbrev pub bits_on : {R : Type 0} → OnBoard R → ℕ → Option Bits
bits_on b = flight_bits (main_view_of b.flight.main)

-- main has woken nothing yet, and taken nothing in
pub record IsFresh (v : View) : Type 0 where
  pub woken : v.woken ≡ []
  pub taken : v.taken ≡ []
