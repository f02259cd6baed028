-- The board rule said in words, sentence by sentence. It follows from the rule that each step keeps.
use Rattle.std.specs.Prelude.{◌≡◌, ℕ, ◌<◌, ◌≤◌, true, List, [], ◌∷◌, length, bit_or, All}
use mathlib.Core.Option.{some}
use lib.ListN.{get_elem?}
use Rattle.atomic_table.specs.Table.{State}
use Rattle.cell_bits.specs.declared.jobs.Job.{Job}
use Rattle.sweep_board.specs.declared.view.Role.TheVariants.{Main}
use Rattle.sweep_board.specs.declared.view.Stage.TheVariants.{LoadedBlack, LoadedBoth, StoredFreed}
use Rattle.sweep_board.specs.declared.view.View.{View}
use Rattle.cell_bits.specs.Jobs.{job_at}
use Rattle.sweep_board.specs.Rule.{ready, claimed, done, white, state_at, black_at, gob_at, freed_at, total}
use Rattle.sweep_board.specs.Rule.{helper_weight, claim_of, sweeps_of, mask_at}
use Rattle.sweep_board.specs.Views.{main_view, is_taken, IsSwept}

-- the view stands at this place among all views
abbrev pub IsViewAt : State (Unit {0}) View → ℕ → View → Type 0
IsViewAt s id v = get_elem? s.views id ≡ some v

-- the view holds the claim of arena i
abbrev pub HoldsClaimOf : ℕ → View → Type 0
HoldsClaimOf i v = claim_of i v.stage ≡ 1

-- what a helper may have loaded of an arena's black word: it has all of hand-out's, and no more than that and the gob
-- word
abbrev pub IsBlackOf : Job → ℕ → Type 0
IsBlackOf job black = (bit_or job.bits.black black ≡ black)
    × (bit_or black job.bits.gob ≡ bit_or job.bits.black job.bits.gob)

-- a rule under which a board opens with its arenas ready: as long as main's view is the only one and has learned
-- nothing, each state word is ready and each freed word is 0
abbrev pub OpensReady : List Job → (State (Unit {0}) View → Type 0) → Type 0
OpensReady jobs holds = (s : State (Unit {0}) View) → holds s → s.views ≡ main_view jobs ∷ []
    → (i : ℕ) → i < length jobs → (state_at s.words i ≡ ready) × (freed_at s.words i ≡ 0)

pub record BoardRuleInWords (jobs : List Job) (s : State (Unit {0}) View) : Type 0 where
  -- an arena is claimed exactly where one view holds its claim
  pub held : (i : ℕ) → i < length jobs → state_at s.words i ≡ claimed → (id : ℕ) × (v : View) × IsViewAt s id v
      × HoldsClaimOf i v
  pub holds : (i : ℕ) → i < length jobs → (id : ℕ) (v : View) → IsViewAt s id v → HoldsClaimOf i v
      → state_at s.words i ≡ claimed
  -- no two views hold the same claim
  pub one-claimer : (i : ℕ) → i < length jobs → (a b : ℕ) (v u : View) → IsViewAt s a v → IsViewAt s b u
      → HoldsClaimOf i v → HoldsClaimOf i u → a ≡ b
  -- an arena is done exactly where one seat's view says that it was swept, by that seat or by one that it joined
  pub made-done : (i : ℕ) → i < length jobs → state_at s.words i ≡ done
      → (id : ℕ) × (v : View) × IsViewAt s id v × IsSwept v i
  pub swept-is-done : (i : ℕ) → i < length jobs → (id : ℕ) (v : View) → IsViewAt s id v → IsSwept v i
      → state_at s.words i ≡ done
  pub one-sweeper : (i : ℕ) → i < length jobs → (a b : ℕ) (v u : View)
      → IsViewAt s a v → IsViewAt s b u → IsSwept v i → IsSwept u i → a ≡ b
  -- and none was swept twice
  pub swept-once : (i : ℕ) → i < length jobs → (id : ℕ) (v : View) → IsViewAt s id v → sweeps_of i v ≤ 1
  -- an arena that main took in is done, so it was done before
  pub taken-is-done : (i id : ℕ) (v : View) → IsViewAt s id v → is_taken v i ≡ true → state_at s.words i ≡ done
  -- the black word is that of hand-out and main's masks, all within black and gob of hand-out; the gob word is that of
  -- hand-out
  pub black-is : (i : ℕ) → i < length jobs → (id : ℕ) (v : View) → IsViewAt s id v → v.role ≡ Main
      → black_at s.words i ≡ bit_or (job_at jobs i).bits.black (mask_at v.woken i)
  pub black-within : (i : ℕ) → i < length jobs → IsBlackOf (job_at jobs i) (black_at s.words i)
  pub gob-is : (i : ℕ) → i < length jobs → gob_at s.words i ≡ (job_at jobs i).bits.gob
  -- the freed word of an arena that nobody claimed is 0; from its store on, it is the allocated slots without black and
  -- gob of hand-out
  pub untouched : (i : ℕ) → i < length jobs → state_at s.words i ≡ ready → freed_at s.words i ≡ 0
  pub stored-is : (i id : ℕ) (v : View) → IsViewAt s id v → v.stage ≡ StoredFreed i
      → freed_at s.words i ≡ white (job_at jobs i)
  pub freed-is : (i : ℕ) → i < length jobs → state_at s.words i ≡ done → freed_at s.words i ≡ white (job_at jobs i)
  -- a loaded black word has all of hand-out's and lies within black and gob; a loaded gob word is gob
  pub loaded-black : (i black id : ℕ) (v : View) → IsViewAt s id v → v.stage ≡ LoadedBlack i black
      → IsBlackOf (job_at jobs i) black
  pub loaded-both : (i black gob id : ℕ) (v : View) → IsViewAt s id v → v.stage ≡ LoadedBoth i black gob
      → IsBlackOf (job_at jobs i) black × (gob ≡ (job_at jobs i).bits.gob)
  -- an arena that was noted as not ready isn't ready; one that was made done or seen done is done
  pub passed-is : (id : ℕ) (v : View) → IsViewAt s id v → All (λ i. ready < state_at s.words i) v.passed
  pub finished-is : (id : ℕ) (v : View) → IsViewAt s id v → All (λ i. state_at s.words i ≡ done) v.finished
  -- main's view counts the helpers' views not yet joined, and there is one main view
  pub counts : (id : ℕ) (v : View) → IsViewAt s id v → v.role ≡ Main → total (λ u. helper_weight u.role) s.views
      ≡ v.helpers
  pub one-main : (a b : ℕ) (v u : View) → IsViewAt s a v → IsViewAt s b u → v.role ≡ Main → u.role ≡ Main → a ≡ b
