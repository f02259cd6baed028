-- What main's steps do to the bits in flight.
use Rattle.std.proofs.Common.{◌≡◌, ◌≢◌, ℕ, ◌||◌, Bool, true, false, cond, eqb, List, ◌∷◌, refl, sym, ap, ◌∙◌, subst}
use Rattle.std.proofs.Common.{eq-eqb, ne_eqb, bit_or, Option, Some, None, position}
use Rattle.std.specs.List.{list_any}
use Rattle.std.specs.Option.{option_and_then, option_map}
use Rattle.std.proofs.lemmas.Bool.{eqb-true}
use Rattle.std.proofs.lemmas.List.Quantifiers.{position-Some}
use mathlib.Core.Logic.{dite}
use native.Mathlib.Decide.{ℕ_discrete}
use Rattle.cell_bits.specs.declared.bits.Bits.{Bits}
use Rattle.cell_bits.specs.declared.jobs.Job.{Job}
use Rattle.cell_bits.specs.Colours.{woken_bits}
use Rattle.sweep_board.specs.declared.view.View.{View}
use Rattle.cell_bits.specs.Jobs.{no_job, job_at}
use Rattle.sweep_board.specs.Rule.{mask_at}
use Rattle.sweep_board.specs.Views.{with_wake, bits_now, is_taken}
use Rattle.sweep_board.specs.Flights.{bits_at, flight_bits}
use Rattle.sweep_board.proofs.Words.{or_assoc}
use Rattle.sweep_board.proofs.MainSteps.{mask_here, mask_away}

abbrev is_arena : ℕ → Job → Bool
is_arena a job = eqb job.arena a

-- two arenas stand at two places
places_apart : (jobs : List Job) (a arena i k : ℕ) → position (is_arena arena) jobs ≡ Some i
    → position (is_arena a) jobs ≡ Some k → a ≢ arena → k ≢ i
places_apart jobs a arena i k at there ne same =
    let p = position-Some (is_arena arena) jobs i no_job at in
    let q = position-Some (is_arena a) jobs k no_job there in
    let x : (job_at jobs i).arena ≡ arena = eqb-true _ _ p.1 in
    let y : (job_at jobs k).arena ≡ a = eqb-true _ _ q.1 in
    ne (sym y ∙ ap (λ (n : ℕ). (job_at jobs n).arena) same ∙ x)

module _ (v w : View) (same : w.jobs ≡ v.jobs) (i arena : ℕ) (at : position (is_arena arena) v.jobs ≡ Some i) where
  -- a step that changes the bits of the i-th arena changes those of its number
  here : (f : Option Bits → Option Bits) → bits_at w i ≡ f (bits_at v i) → flight_bits w arena ≡ f (flight_bits v arena)
  here f is = ap (option_and_then (bits_at w)) (ap (position (is_arena arena)) same ∙ at) ∙ is
      ∙ ap f (sym (ap (option_and_then (bits_at v)) at))

  -- and one that leaves the others' as they were leaves those of other numbers
  away : ((k : ℕ) → k ≢ i → bits_at w k ≡ bits_at v k) → (a : ℕ) → a ≢ arena → flight_bits w a ≡ flight_bits v a
  away others a ne = ap (λ (js : List Job). option_and_then (bits_at w) (position (is_arena a) js)) same
      ∙ by (position (is_arena a) v.jobs) refl where
        by : (o : Option ℕ) → position (is_arena a) v.jobs ≡ o
            → option_and_then (bits_at w) o ≡ option_and_then (bits_at v) o
        by None is = refl
        by (Some k) is = others k (places_apart v.jobs a arena i k at is ne)

module _ (v : View) (i mask : ℕ) where
  woken_here : bits_at (with_wake v i mask) i ≡ option_map (λ (b : Bits). record b { black = bit_or b.black mask })
      (bits_at v i)
  woken_here = by (is_taken v i) where
    by : (b : Bool) → cond {A = Option Bits} b None (Some (bits_now (with_wake v i mask) i))
        ≡ option_map (λ (b : Bits). record b { black = bit_or b.black mask })
        (cond {A = Option Bits} b None (Some (bits_now v i)))
    by true = refl
    by false = ap (λ (n : ℕ). let bits : Bits = record { black = n; gob = (job_at v.jobs i).bits.gob } in Some bits)
        (ap (bit_or (job_at v.jobs i).bits.black) (mask_here v.woken i mask)
        ∙ sym (or_assoc (job_at v.jobs i).bits.black (mask_at v.woken i) mask))

  woken_away : (k : ℕ) → k ≢ i → bits_at (with_wake v i mask) k ≡ bits_at v k
  woken_away k ne = ap
      (λ (n : ℕ). let bits : Bits =
      record { black = bit_or (job_at v.jobs k).bits.black n; gob = (job_at v.jobs k).bits.gob } in
      cond {A = Option Bits} (is_taken v k) None (Some bits)) (mask_away v.woken i mask k ne)

  -- a wake makes the mask's slots of its arena black
  pub flight_bits-wake : (a arena : ℕ) → position (is_arena arena) v.jobs ≡ Some i
      → flight_bits (with_wake v i mask) a ≡ woken_bits (eqb a arena) mask (flight_bits v a)
  flight_bits-wake a arena at = dite (ℕ_discrete a arena)
      (λ e. subst (λ z. flight_bits (with_wake v i mask) z ≡ woken_bits (eqb z arena) mask (flight_bits v z)) (sym e)
      (here v (with_wake v i mask) refl i arena at (option_map (λ (b : Bits). record b { black = bit_or b.black mask }))
      woken_here
      ∙ ap (λ (b : Bool). woken_bits b mask (flight_bits v arena)) (sym (eq-eqb arena arena refl))))
      (λ ne. away v (with_wake v i mask) refl i arena at woken_away a ne
      ∙ ap (λ (b : Bool). woken_bits b mask (flight_bits v a)) (sym (ne_eqb a arena ne)))

-- bits in flight are known by the wakes and by what was taken
pub flight_bits-same : (v w : View) → w.jobs ≡ v.jobs → w.woken ≡ v.woken → w.taken ≡ v.taken → (a : ℕ)
    → flight_bits w a ≡ flight_bits v a
flight_bits-same v w jobs woken taken a = ap (λ (js : List Job). option_and_then (bits_at w) (position (is_arena a) js))
    jobs ∙ by (position (is_arena a) v.jobs) where
      at : (k : ℕ) → bits_at w k ≡ bits_at v k
      at k = λ p. cond {A = Option Bits} (list_any (λ t. eqb t k) (taken p)) None
          (let bits : Bits = record {
            black = bit_or (job_at (jobs p) k).bits.black (mask_at (woken p) k);
            gob = (job_at (jobs p) k).bits.gob;
          } in Some bits)

      by : (o : Option ℕ) → option_and_then (bits_at w) o ≡ option_and_then (bits_at v) o
      by None = refl
      by (Some k) = at k

module _ (v w : View) (jobs : w.jobs ≡ v.jobs) (woken : w.woken ≡ v.woken) (i : ℕ) (taken : w.taken ≡ i ∷ v.taken) where
  bits_now_same : (k : ℕ) → bits_now w k ≡ bits_now v k
  bits_now_same k = λ p. record {
    black = bit_or (job_at (jobs p) k).bits.black (mask_at (woken p) k);
    gob = (job_at (jobs p) k).bits.gob;
  }

  took_here : bits_at w i ≡ None
  took_here =
      let is : is_taken w i ≡ true = ap (list_any (λ t. eqb t i)) taken
      ∙ ap (λ (b : Bool). b || list_any (λ t. eqb t i) v.taken) (eq-eqb i i refl) in
      ap (λ (b : Bool). cond {A = Option Bits} b None (Some (bits_now w i))) is

  took_away : (k : ℕ) → k ≢ i → bits_at w k ≡ bits_at v k
  took_away k ne =
      let is : is_taken w k ≡ is_taken v k = ap (list_any (λ t. eqb t k)) taken
      ∙ ap (λ (b : Bool). b || list_any (λ t. eqb t k) v.taken) (ne_eqb i k (λ e. ne (sym e))) in
      ap (λ (b : Bool). cond {A = Option Bits} b None (Some (bits_now w k))) is
      ∙ ap (λ (bits : Bits). cond {A = Option Bits} (is_taken v k) None (Some bits)) (bits_now_same k)

  -- taking an arena in takes it out of flight, and no other
  pub flight_bits-take : (a arena : ℕ) → position (is_arena arena) v.jobs ≡ Some i
      → flight_bits w a ≡ cond {A = Option Bits} (eqb a arena) None (flight_bits v a)
  flight_bits-take a arena at = dite (ℕ_discrete a arena)
      (λ e. subst (λ z. flight_bits w z ≡ cond {A = Option Bits} (eqb z arena) None (flight_bits v z)) (sym e)
      (here v w jobs i arena at (λ _. None) took_here
      ∙ sym (ap (λ (b : Bool). cond {A = Option Bits} b None (flight_bits v arena)) (eq-eqb arena arena refl))))
      (λ ne. away v w jobs i arena at took_away a ne
      ∙ sym (ap (λ (b : Bool). cond {A = Option Bits} b None (flight_bits v a)) (ne_eqb a arena ne)))

-- an arena in flight has the bits of its place
pub flight_bits-at : (v : View) (i arena : ℕ) → position (is_arena arena) v.jobs ≡ Some i → is_taken v i ≡ false
    → flight_bits v arena ≡ Some (bits_now v i)
flight_bits-at v i arena at out = ap (option_and_then (bits_at v)) at
    ∙ ap (λ (b : Bool). cond {A = Option Bits} b None (Some (bits_now v i))) out
