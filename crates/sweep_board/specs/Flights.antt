-- The arenas in flight, as a finite map from arenas to their bits.
use Rattle.std.specs.Prelude.{ℕ, ◌==◌, Option, Some, None, if◌then◌else◌, position}
use Rattle.std.specs.Option.{option_and_then}
use Rattle.cell_bits.specs.declared.bits.Bits.{Bits}
use Rattle.sweep_board.specs.declared.view.View.{View}
use Rattle.sweep_board.specs.Views.{bits_now, is_taken}

-- the bits of the i-th arena, unless main took it in
abbrev pub bits_at : View → ℕ → Option Bits
bits_at v i = if is_taken v i then None else Some (bits_now v i)

-- the bits of an arena by its number
abbrev pub flight_bits : View → ℕ → Option Bits
flight_bits v arena = option_and_then (bits_at v) (position (λ job. job.arena == arena) v.jobs)
