-- The draws of a storm.
use Rattle.std.specs.Prelude.{◌+◌, ◌*◌, ◌/◌, ◌%◌, ℕ}

-- each draw steps a linear congruence
abbrev pub next_state : ℕ → ℕ
next_state x = (1103515245 * x + 12345) % 2147483648

-- what the state after a draw chooses below a bound
abbrev pub choice_of : ℕ → ℕ → ℕ
choice_of x bound = (x / 65536) % bound
