-- The arenas on a board, of which main has taken in those below an index.
use Rattle.std.proofs.Common.{inl, inr, ◌≡◌, ℕ, ◌+◌, ◌<◌, ◌≤◌, List, [], ◌∷◌, length, drop, true, Option}
use Rattle.std.proofs.Common.{Some, None, IsSome, false, Bool, cond, refl, ap, sym, ◌∙◌, arith, length-drop, take, ◌++◌}
use Rattle.std.proofs.Common.{append-nil, take_all}
use Rattle.std.specs.List.{position}
use Rattle.std.specs.Option.{option_and_then}
use Rattle.std.proofs.lemmas.Bool.{cases_eq, cases_lt, eqb-true}
use Rattle.std.proofs.lemmas.List.{drop_more, drop_all, get_or-map, length-map}
use Rattle.std.proofs.lemmas.List.Quantifiers.{position-Some}
use Rattle.cell_bits.specs.declared.bits.Bits.{Bits}
use Rattle.cell_bits.specs.declared.jobs.Job.{Job}
use Rattle.sweep_board.specs.Flights.{bits_at}
use Rattle.cell_bits.specs.Jobs.{job_at, no_job}
use Rattle.sweep_board.specs.Seats.{board_len, jobs_of, main_view_of}
use Rattle.sweep_board.specs.Views.{bits_now, is_taken}
use Rattle.sweeping.specs.ArenasOut.{outs_of, swept}
use Rattle.sweeping.proofs.Jobs.{is_of}
use Rattle.sweep_beside.specs.Boards.{bits_on, outs_on}
use Rattle.sweep_beside.specs.declared.on_board.OnBoard.{OnBoard}

-- the lowest of the arenas that are left
pub outs_first : (jobs : List Job) (n : ℕ) → n < length jobs
    → drop n (outs_of jobs) ≡ swept (job_at jobs n) ∷ drop (n + 1) (outs_of jobs)
outs_first jobs n lt =
    drop_more (outs_of jobs) n (swept no_job) (let long : length (outs_of jobs) ≡ length jobs = length-map jobs swept in
    omega (arith, long, lt))
    ∙ ap (λ (out : ℕ × ℕ). out ∷ drop (n + 1) (outs_of jobs)) (get_or-map swept jobs n no_job (swept no_job) lt)

-- where none is left, main took all in
pub all_taken : {R : Type 0} (b : OnBoard R) → outs_on b ≡ [] → (i : ℕ) → i < board_len b.flight.board.now
    → is_taken (main_view_of b.flight.main) i ≡ true
all_taken b none i lt = b.below.taken i (
    let gone : length (outs_on b) ≡ 0 = ap length none in
    let cut = length-drop b.next (outs_of (jobs_of b.flight.board.now)) in
    let long = length-map (jobs_of b.flight.board.now) swept in omega (arith, gone, cut, long, lt))

-- a slice of a whole list is put back
pub whole_slice : {X : Type 0} (xs items : List X) (n : ℕ) → length xs ≡ n → length items ≡ n
    → take n (xs ++ drop (length xs) items) ≡ xs
whole_slice xs items n e k = ap (λ (ys : List _). take n (xs ++ ys)) (drop_all (length xs) items (omega (arith, e, k)))
    ∙ ap (take n) (append-nil xs) ∙ take_all n xs (omega (arith, e))

-- what flies on a board stands at a place that main has not taken in
module _ {R : Type 0} (b : OnBoard R) where
  place_flies : (a i : ℕ) → position (is_of a) (main_view_of b.flight.main).jobs ≡ Some i → (t : Bool)
      → is_taken (main_view_of b.flight.main) i ≡ t
      → IsSome (cond {A = Option Bits} t None (Some (bits_now (main_view_of b.flight.main) i)))
      → (job_at (jobs_of b.flight.board.now) b.next).arena ≤ a
  place_flies a i e true k some = absurd (cc some)
  place_flies a i e false k some =
      let jobs = jobs_of b.flight.board.now in
      let at = position-Some (is_of a) jobs i no_job (ap (position (is_of a)) (sym b.flight.mains.1) ∙ e) in
      let arena : (job_at jobs i).arena ≡ a = eqb-true (job_at jobs i).arena a at.1 in
      let out : b.next ≤ i = elim (cases_lt i b.next) [
        | inl less ↦ absurd (let t = b.below.taken i less in cc (t, k))
        | inr from ↦ from
      ] in
      elim (cases_eq b.next i) [
        | inl same ↦ (let q = ap (λ (n : ℕ). (job_at jobs n).arena) same in omega (arith, q, arena))
        | inr other ↦ (let up = b.flight.board.now.ascending.below b.next i (omega (arith, out, other)) at.0 in
            omega (arith, up, arena))
      ]

  pub lowest_on : (a : ℕ) → IsSome (bits_on b a) → (job_at (jobs_of b.flight.board.now) b.next).arena ≤ a
  lowest_on a some = by (position (is_of a) (main_view_of b.flight.main).jobs) refl some where
    by : (o : Option ℕ) → position (is_of a) (main_view_of b.flight.main).jobs ≡ o
        → IsSome (option_and_then (bits_at (main_view_of b.flight.main)) o)
        → (job_at (jobs_of b.flight.board.now) b.next).arena ≤ a
    by None e s = absurd (cc s)
    by (Some i) e s = place_flies a i e (is_taken (main_view_of b.flight.main) i) refl s

  -- where main took all in, nothing flies
  pub none_on : outs_on b ≡ [] → (a : ℕ) → bits_on b a ≡ None
  none_on none a = by (position (is_of a) (main_view_of b.flight.main).jobs) refl where
    by : (o : Option ℕ) → position (is_of a) (main_view_of b.flight.main).jobs ≡ o
        → option_and_then (bits_at (main_view_of b.flight.main)) o ≡ None
    by None e = refl
    by (Some i) e =
        let at = position-Some (is_of a) (jobs_of b.flight.board.now) i no_job
        (ap (position (is_of a)) (sym b.flight.mains.1) ∙ e) in
        ap (λ (t : Bool). cond {A = Option Bits} t None (Some (bits_now (main_view_of b.flight.main) i)))
        (all_taken b none i at.0)
