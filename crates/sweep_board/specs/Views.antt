-- A seat's view at its start, and after each thing that it may learn.
use Rattle.std.specs.Prelude.{◌≡◌, ℕ, ◌+◌, ◌-◌, ◌<◌, ◌≤◌, ◌==◌, Bool, true, false, List, [], ◌∷◌, ◌++◌, ◌⊎◌, Contains}
use Rattle.std.specs.Prelude.{bit_or}
use Rattle.std.specs.List.{list_any}
use Rattle.cell_bits.specs.declared.bits.Bits.{Bits}
use Rattle.cell_bits.specs.declared.jobs.Job.{Job}
use Rattle.sweep_board.specs.declared.view.Role.{Role}
use Rattle.sweep_board.specs.declared.view.Role.TheVariants.{Main, Helper, Spent}
use Rattle.sweep_board.specs.declared.view.Stage.{Stage}
use Rattle.sweep_board.specs.declared.view.Stage.TheVariants.{Free}
use Rattle.sweep_board.specs.declared.view.View.{View}
use Rattle.sweep_board.specs.declared.view.Visit.TheVariants.{Passed, AtGate, Swept}
use Rattle.cell_bits.specs.Jobs.{job_at}
use Rattle.sweep_board.specs.Rule.{mask_at}

-- a view that has learned nothing
abbrev pub fresh_view : List Job → Role → View
fresh_view jobs role = record {
  jobs = jobs;
  role = role;
  stage = Free;
  passed = [];
  finished = [];
  swept = [];
  visits = [];
  woken = [];
  looked = [];
  taken = [];
  helpers = 0;
}

abbrev pub main_view : List Job → View
main_view jobs = fresh_view jobs Main

abbrev pub helper_view : List Job → View
helper_view jobs = fresh_view jobs Helper

-- what a join leaves to the seat that was joined
abbrev pub spent_view : View
spent_view = fresh_view [] Spent

-- at another stage of sweeping
abbrev pub at_stage : View → Stage → View
at_stage v stage = record v { stage = stage }

-- after a claim that another seat had won
abbrev pub with_passed : View → ℕ → View
with_passed v i = record v { passed = i ∷ v.passed; visits = Passed i ∷ v.visits }

-- after the seat passed a gate with an arena that it claimed
abbrev pub with_gate : View → ℕ → ℕ → View
with_gate v i name = record v { visits = AtGate i name ∷ v.visits }

-- after the seat made its arena done, which spends the claim
abbrev pub with_finished : View → ℕ → View
with_finished v i =
    record v { stage = Free; finished = i ∷ v.finished; swept = i ∷ v.swept; visits = Swept i ∷ v.visits }

-- after main saw an arena done
abbrev pub with_done : View → ℕ → View
with_done v i = record v { finished = i ∷ v.finished }

-- after main saw an arena in another state
abbrev pub with_look : View → ℕ → ℕ → View
with_look v i state = record v { looked = (i, state) ∷ v.looked }

-- after main woke slots of an arena
abbrev pub with_wake : View → ℕ → ℕ → View
with_wake v i mask = record v { woken = (i, mask) ∷ v.woken }

-- after main took an arena in
abbrev pub with_taken : View → ℕ → View
with_taken v i = record v { taken = i ∷ v.taken }

-- after main split a helper seat off
abbrev pub with_helper : View → View
with_helper v = record v { helpers = v.helpers + 1 }

-- after main joined a helper's seat: it takes over what the helper noted and made done
abbrev pub joined_view : View → View → View
joined_view v w =
    record v {
      passed = w.passed ++ v.passed;
      finished = w.finished ++ v.finished;
      swept = w.swept ++ v.swept;
      helpers = v.helpers - 1;
    }

-- the arena was made done by the seat's own sweep, or by that of a seat that main joined
abbrev pub IsSwept : View → ℕ → Type 0
IsSwept v i = Contains v.swept i

-- the seat saw the arena done, or made it so
abbrev pub IsDone : View → ℕ → Type 0
IsDone v i = Contains v.finished i

-- the seat knows that the arena isn't ready any more
abbrev pub IsNoted : View → ℕ → Type 0
IsNoted v i = Contains v.passed i ⊎ Contains v.finished i

-- whether main took the arena in
abbrev pub is_taken : View → ℕ → Bool
is_taken v i = list_any (λ t. t == i) v.taken

-- main took in exactly the arenas below n, as it does in ascending order
pub record HasTakenBelow (v : View) (n : ℕ) : Type 0 where
  pub taken : (i : ℕ) → i < n → is_taken v i ≡ true
  pub out : (i : ℕ) → n ≤ i → is_taken v i ≡ false

-- the bits of an arena now: the gob word of hand-out, and the black word of hand-out with every mask that main woke
abbrev pub bits_now : View → ℕ → Bits
bits_now v i = record {
  black = bit_or (job_at v.jobs i).bits.black (mask_at v.woken i);
  gob = (job_at v.jobs i).bits.gob;
}
