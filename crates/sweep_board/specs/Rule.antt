-- The board rule: what holds of the words and of all views between any two steps.
-- Arena i has the words 4 i to 4 i + 3: its state, its black word, its gob word and its freed word.
use Rattle.std.specs.Prelude.{◌≡◌, ℕ, ◌+◌, ◌*◌, ◌<◌, ◌≤◌, ◌==◌, Bool, true, false, List, [], ◌∷◌, length, slice_index}
use Rattle.std.specs.Prelude.{bit_or, count_by, All}
use mathlib.Core.Option.{some}
use lib.ListN.{get_elem?}
use Rattle.atomic_table.specs.Table.{State}
use Rattle.cell_bits.specs.declared.bits.Bits.{Bits}
use Rattle.cell_bits.specs.declared.jobs.Job.{Job}
use Rattle.cell_bits.specs.Colours.{white_mask_of}
use Rattle.cell_bits.specs.Jobs.{job_at}
use Rattle.sweep_board.specs.declared.view.Role.{Role}
use Rattle.sweep_board.specs.declared.view.Role.TheVariants.{Main, Helper, Spent}
use Rattle.sweep_board.specs.declared.view.Stage.{Stage}
use Rattle.sweep_board.specs.declared.view.Stage.TheVariants.{Free, Claimed, LoadedBlack, LoadedBoth, StoredFreed}
use Rattle.sweep_board.specs.declared.view.View.{View}

-- what the state word of an arena says; that main took the arena in is known to main's view alone
abbrev pub ready : ℕ
ready = 0

abbrev pub claimed : ℕ
claimed = 1

abbrev pub done : ℕ
done = 2

-- the white cells of an arena at hand-out, as a word of slots
abbrev pub white : Job → ℕ
white job = white_mask_of job.bits job.alloc_word

abbrev pub state_at : List ℕ → ℕ → ℕ
state_at words i = slice_index words (4 * i)

abbrev pub black_at : List ℕ → ℕ → ℕ
black_at words i = slice_index words (4 * i + 1)

abbrev pub gob_at : List ℕ → ℕ → ℕ
gob_at words i = slice_index words (4 * i + 2)

abbrev pub freed_at : List ℕ → ℕ → ℕ
freed_at words i = slice_index words (4 * i + 3)

-- a black word is that of hand-out with the slots of some mask, all within gob
abbrev pub IsWoken : Bits → ℕ → Type 0
IsWoken bits black = (mask : ℕ) × (black ≡ bit_or bits.black mask) × (bit_or mask bits.gob ≡ bits.gob)

-- 1 where a test passes
abbrev pub weight : Bool → ℕ
weight true = 1
weight false = 0

-- the sum of a number of each view
abbrev pub total : (View → ℕ) → List View → ℕ
total f [] = 0
total f (v ∷ vs) = f v + total f vs

-- 1 for a helper's seat
abbrev pub helper_weight : Role → ℕ
helper_weight Main = 0
helper_weight Helper = 1
helper_weight Spent = 0

-- 1 where the stage holds the claim of arena i
abbrev pub claim_of : ℕ → Stage → ℕ
claim_of i Free = 0
claim_of i (Claimed k) = weight (k == i)
claim_of i (LoadedBlack k black) = weight (k == i)
claim_of i (LoadedBoth k black gob) = weight (k == i)
claim_of i (StoredFreed k) = weight (k == i)

-- how often arena i stands among those that the view's seat swept
abbrev pub sweeps_of : ℕ → View → ℕ
sweeps_of i v = count_by (λ k. k == i) v.swept

-- what was loaded of an arena is a black word that main may have woken, and the gob word; what was stored is its white
-- cells
abbrev pub StageRule : List Job → List ℕ → Stage → Type 0
StageRule jobs words Free = Unit {0}
StageRule jobs words (Claimed k) = k < length jobs
StageRule jobs words (LoadedBlack k black) = (k < length jobs) × IsWoken (job_at jobs k).bits black
StageRule jobs words (LoadedBoth k black gob) = (k < length jobs) × IsWoken (job_at jobs k).bits black
    × (gob ≡ (job_at jobs k).bits.gob)
StageRule jobs words (StoredFreed k) = (k < length jobs) × (freed_at words k ≡ white (job_at jobs k))

-- all masks of arena i in a list of wakes
abbrev pub mask_at : List (ℕ × ℕ) → ℕ → ℕ
mask_at [] i = 0
mask_at (wake ∷ wakes) i = bit_or (mask_at wakes i) (weight (wake.0 == i) * wake.1)

-- the words of one arena
pub record ArenaRule (job : Job) (state black gob freed : ℕ) : Type 0 where
  pub low : state ≤ done
  pub black-is : IsWoken job.bits black
  pub gob-is : gob ≡ job.bits.gob
  pub untouched : state ≡ ready → freed ≡ 0
  pub freed-is : state ≡ done → freed ≡ white job

-- what any view knows: only a helper holds a claim, what a seat swept goes to main's as it is joined, and an arena that
-- was noted has come so far, since no state word falls
pub record SeatRule (jobs : List Job) (words : List ℕ) (v : View) : Type 0 where
  pub stage : StageRule jobs words v.stage
  pub idle : (i : ℕ) → claim_of i v.stage ≤ helper_weight v.role
  pub passed : All (λ i. ready < state_at words i) v.passed
  pub finished : All (λ i. state_at words i ≡ done) v.finished
  pub taken : All (λ i. state_at words i ≡ done) v.taken
  pub spent : v.role ≡ Spent → v.swept ≡ []

-- what main's view knows besides: it is the first seat's, it counts the helper seats, and each black word is that of
-- hand-out with its masks
pub record MainRule (jobs : List Job) (words : List ℕ) (views : List View) (id : ℕ) (v : View) : Type 0 where
  pub first : id ≡ 0
  pub counts : total (λ u. helper_weight u.role) views ≡ v.helpers
  pub woken : (i : ℕ) → i < length jobs → black_at words i ≡ bit_or (job_at jobs i).bits.black (mask_at v.woken i)

-- the whole rule; an arena is claimed exactly where one view holds its claim, and done exactly where one view swept it,
-- once (one word more than the arenas' is there for the table's own moves)
pub record BoardRule (jobs : List Job) (s : State (Unit {0}) View) : Type 0 where
  pub sized : length s.words ≡ 4 * length jobs + 1
  pub arenas : (i : ℕ) → i < length jobs
      → ArenaRule (job_at jobs i) (state_at s.words i) (black_at s.words i) (gob_at s.words i) (freed_at s.words i)
  pub claims : (i : ℕ) → i < length jobs → total (λ v. claim_of i v.stage) s.views
      ≡ weight (state_at s.words i == claimed)
  pub sweeps : (i : ℕ) → i < length jobs → total (sweeps_of i) s.views ≡ weight (state_at s.words i == done)
  pub seats : (id : ℕ) (v : View) → get_elem? s.views id ≡ some v → SeatRule jobs s.words v
  pub mains : (id : ℕ) (v : View) → get_elem? s.views id ≡ some v → v.role ≡ Main → MainRule jobs s.words s.views id v

-- the words of a new board, before what follows them
abbrev pub opening_words : List Job → List ℕ → List ℕ
opening_words [] rest = rest
opening_words (job ∷ jobs) rest = ready ∷ job.bits.black ∷ job.bits.gob ∷ 0 ∷ opening_words jobs rest
