-- What clauses say of a board, its seats and a claim.
use Rattle.std.specs.Prelude.{◌≡◌, ℕ, List, length, Vec}
use Rattle.std.specs.Global.{Global}
use Rattle.cell_bits.specs.declared.jobs.Job.{Job}
use Rattle.sweep_board.specs.declared.view.View.{View}
use Rattle.sweep_board.specs.declared.view.Stage.TheVariants.{Free, Claimed}
use Rattle.sweep_board.specs.declared.board.Board.{Board}
use Rattle.sweep_board.specs.declared.board.HelperSeat.{HelperSeat}
use Rattle.sweep_board.specs.declared.board.MainSeat.{MainSeat}
use Rattle.sweep_board.specs.declared.board.Claim.{Claim}

-- the board's jobs
abbrev pub jobs_of : Board → List Job
jobs_of b = b.jobs.items

-- the key of the rule that the board's table is under
abbrev pub key_of : Board → Vec Job Global
key_of b = b.table.shared.key

-- how many arenas the board has
abbrev pub board_len : Board → ℕ
board_len b = length b.jobs.items

-- what a helper's seat knows
abbrev pub helper_view_of : HelperSeat → View
helper_view_of s = s.seat.me.0

-- what main's seat knows
abbrev pub main_view_of : MainSeat → View
main_view_of s = s.seat.me.0

-- the helper's seat is of this board
abbrev pub IsHelperOf : Board → HelperSeat → Type 0
IsHelperOf b s = (s.seat.table_id ≡ b.table.shared.table_id) × (s.seat.me.0.jobs ≡ b.jobs.items)

-- the seat is this board's main seat
abbrev pub IsMainOf : Board → MainSeat → Type 0
IsMainOf b s = (s.seat.table_id ≡ b.table.shared.table_id) × (s.seat.me.0.jobs ≡ b.jobs.items)

-- the index of a claim's arena
abbrev pub claim_index : Claim → ℕ
claim_index c = c.index

-- the seat holds no claim
abbrev pub HoldsNoClaim : HelperSeat → Type 0
HoldsNoClaim s = s.seat.me.0.stage ≡ Free

-- the claim is the seat's own
abbrev pub HoldsClaim : HelperSeat → Claim → Type 0
HoldsClaim s c = s.seat.me.0.stage ≡ Claimed c.index
