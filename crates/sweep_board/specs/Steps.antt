-- What each kind of step tells the seat that makes it: of the step, the seat before, the number found (or stored) and
-- the seat after.
use Rattle.std.specs.Prelude.{◌≡◌, ◌≢◌, ℕ, ◌/◌, ◌==◌, MatchBool}
use Rattle.atomic_table.specs.Table.{Me, Step}
use Rattle.sweep_board.specs.declared.view.View.{View}
use Rattle.sweep_board.specs.declared.view.Stage.{Stage}
use Rattle.sweep_board.specs.declared.view.Stage.TheVariants.{Free, Claimed, LoadedBlack, LoadedBoth, StoredFreed}
use Rattle.cell_bits.specs.Jobs.{job_at}
use Rattle.sweep_board.specs.Rule.{ready, done, white}
use Rattle.sweep_board.specs.Views.{at_stage, with_passed, with_gate, with_finished, with_done, with_look, with_wake}
use Rattle.sweep_board.specs.Views.{with_taken, IsDone, IsNoted, IsSwept, bits_now}

-- a seat of the board: its view, and no slots, since the board's table has none
abbrev pub BoardSeat : Type 0
BoardSeat = Me (Unit {0}) View

-- the arena of a stage's claim
abbrev pub arena_of : Stage → ℕ
arena_of Free = 0
arena_of (Claimed k) = k
arena_of (LoadedBlack k black) = k
arena_of (LoadedBoth k black gob) = k
arena_of (StoredFreed k) = k

-- the black word that a stage has loaded
abbrev pub black_of : Stage → ℕ
black_of Free = 0
black_of (Claimed k) = 0
black_of (LoadedBlack k black) = black
black_of (LoadedBoth k black gob) = black
black_of (StoredFreed k) = 0

-- claim: ready becomes claimed by the seat, or the seat notes the arena; one that it has noted is not found ready
abbrev pub claims : Step (Unit {0}) → BoardSeat → ℕ → BoardSeat → Type 0
claims st m found m' =
    MatchBool (found == ready) (m' ≡ (at_stage m.0 (Claimed (st.word / 4)), m.1))
    (m' ≡ (with_passed m.0 (st.word / 4), m.1))
    × (IsNoted m.0 (st.word / 4) → found ≢ ready)

-- pass a gate of this name, with an arena that the seat claimed
abbrev pub passes_gate : ℕ → Step (Unit {0}) → BoardSeat → ℕ → BoardSeat → Type 0
passes_gate name st m found m' = m' ≡ (with_gate m.0 (st.word / 4) name, m.1)

-- load black
abbrev pub loads_black : Step (Unit {0}) → BoardSeat → ℕ → BoardSeat → Type 0
loads_black st m found m' = m' ≡ (at_stage m.0 (LoadedBlack (arena_of m.0.stage) found), m.1)

-- load gob
abbrev pub loads_gob : Step (Unit {0}) → BoardSeat → ℕ → BoardSeat → Type 0
loads_gob st m found m' = m' ≡ (at_stage m.0 (LoadedBoth (arena_of m.0.stage) (black_of m.0.stage) found), m.1)

-- store freed: what is stored is the arena's white cells at hand-out
abbrev pub stores_freed : Step (Unit {0}) → BoardSeat → ℕ → BoardSeat → Type 0
stores_freed st m stored m' = (m' ≡ (at_stage m.0 (StoredFreed (arena_of m.0.stage)), m.1))
    × (stored ≡ white (job_at m.0.jobs (arena_of m.0.stage)))

-- store done, which spends the claim
abbrev pub stores_done : Step (Unit {0}) → BoardSeat → ℕ → BoardSeat → Type 0
stores_done st m stored m' = m' ≡ (with_finished m.0 (arena_of m.0.stage), m.1)

-- wake
abbrev pub wakes : Step (Unit {0}) → BoardSeat → ℕ → BoardSeat → Type 0
wakes st m found m' = m' ≡ (with_wake m.0 (st.word / 4) st.first, m.1)

-- look: main notes the state word. It finds an arena done that it knows to be so, and one that it noted as not ready
-- where no helper's seat is left to hold its claim. Where none is left, one that it finds done was swept by a seat that
-- it joined
abbrev pub looks : Step (Unit {0}) → BoardSeat → ℕ → BoardSeat → Type 0
looks st m found m' =
    MatchBool (found == done) (m' ≡ (with_done m.0 (st.word / 4), m.1)) (m' ≡ (with_look m.0 (st.word / 4) found, m.1))
    × (IsDone m.0 (st.word / 4) → found ≡ done)
    × (IsNoted m.0 (st.word / 4) → m.0.helpers ≡ 0 → found ≡ done)
    × (found ≡ done → m.0.helpers ≡ 0 → IsSwept m.0 (st.word / 4))

-- read back freed, of an arena that was seen done
abbrev pub reads_freed : Step (Unit {0}) → BoardSeat → ℕ → BoardSeat → Type 0
reads_freed st m found m' = (m' ≡ m) × (IsDone m.0 (st.word / 4) → found ≡ white (job_at m.0.jobs (st.word / 4)))

-- read back black, for a colour
abbrev pub reads_black : Step (Unit {0}) → BoardSeat → ℕ → BoardSeat → Type 0
reads_black st m found m' = (m' ≡ m) × (found ≡ (bits_now m.0 (st.word / 4)).black)

-- read back black of an arena that was seen done: with this step main has taken the arena
abbrev pub takes : Step (Unit {0}) → BoardSeat → ℕ → BoardSeat → Type 0
takes st m found m' = (m' ≡ (with_taken m.0 (st.word / 4), m.1)) × (found ≡ (bits_now m.0 (st.word / 4)).black)
