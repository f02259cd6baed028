-- A board as main begins: its jobs are in flight.
use Rattle.std.proofs.Common.{◌≡◌, ℕ, List, Option, Some}
use Rattle.std.proofs.Common.{None, is_some, refl, ap, sym, ◌∙◌, eqb, cond, bit_or}
use Rattle.std.specs.List.{position, list_any}
use Rattle.std.specs.Option.{option_and_then}
use Rattle.std.specs.Int.Bits.{or_zero_r}
use Rattle.cell_bits.specs.declared.bits.Bits.{Bits}
use Rattle.cell_bits.specs.declared.jobs.Job.{Job}
use Rattle.sweep_board.specs.declared.view.View.{View}
use Rattle.cell_bits.specs.Jobs.{job_at, no_job}
use Rattle.sweep_board.specs.Rule.{mask_at}
use Rattle.sweep_board.specs.Views.{bits_now}
use Rattle.sweep_board.specs.Flights.{bits_at, flight_bits}
use Rattle.sweeping.specs.ArenasOut.{flown_by}
use Rattle.sweep_beside.specs.Boards.{IsFresh}
use Rattle.sweeping.proofs.Jobs.{found, flown_found, is_of}

module _ (v : View) (jobs : List Job) (same : v.jobs ≡ jobs) (fresh : IsFresh v) where
  fresh_at : (i : ℕ) → bits_at v i ≡ Some (job_at jobs i).bits
  fresh_at i =
      ap (λ (ts : List ℕ). cond {A = Option Bits} (list_any (λ t. eqb t i) ts) None (Some (bits_now v i))) fresh.taken
      ∙ ap (λ (ws : List (ℕ × ℕ)). let b : Bits =
      record { black = bit_or (job_at v.jobs i).bits.black (mask_at ws i); gob = (job_at v.jobs i).bits.gob } in
      Some b) fresh.woken
      ∙ ap (λ (n : ℕ). let b : Bits = record { black = n; gob = (job_at v.jobs i).bits.gob } in Some b)
      (or_zero_r (job_at v.jobs i).bits.black)
      ∙ ap (λ (js : List Job). Some (job_at js i).bits) same

  none_flown : (a : ℕ) → position (is_of a) jobs ≡ None → (o : Option Bits) → flown_by jobs a ≡ o → None ≡ o
  none_flown a none None e = refl
  none_flown a none (Some b) e = absurd (found jobs a (ap is_some e) none)

  fresh_bits : (a : ℕ) → flight_bits v a ≡ flown_by jobs a
  fresh_bits a = ap (λ (js : List Job). option_and_then (bits_at v) (position (is_of a) js)) same
      ∙ by (position (is_of a) jobs) refl where
        by : (o : Option ℕ) → position (is_of a) jobs ≡ o → option_and_then (bits_at v) o ≡ flown_by jobs a
        by None e = none_flown a e (flown_by jobs a) refl
        by (Some i) e = fresh_at i ∙ sym (flown_found jobs a i no_job e)

  pub fresh_flies : flight_bits v ≡ flown_by jobs
  fresh_flies = λ i a. fresh_bits a i
