-- Each step of main's seat keeps the rule, and tells the seat what its kind of step says.
use Rattle.std.proofs.Common.{◌≡◌, ◌≢◌, ℕ, ◌+◌, ◌*◌, ◌/◌, ◌<◌, ◌≤◌, Bool, eqb, List, ◌∷◌, length, set, sym, refl, ap}
use Rattle.std.proofs.Common.{◌∙◌, subst, inl, inr, arith, length-set, get_or-set_same, get_or-set_other, eq-eqb}
use Rattle.std.proofs.Common.{ne_eqb, bit_or, Contains, MatchBool}
use Rattle.std.proofs.lemmas.List.Elements.{All-cons, All-contains}
use lib.Bits.{or_zero_r}
use mathlib.Core.Logic.{dite}
use mathlib.Core.Option.{none, some}
use native.Mathlib.Decide.{ℕ_discrete}
use lib.ListN.{get_elem?}
use Rattle.atomic_table.specs.Table.{State, step, keeps, Allows}
use Rattle.cell_bits.specs.declared.jobs.Job.{Job}
use Rattle.sweep_board.specs.declared.view.Role.{Role}
use Rattle.sweep_board.specs.declared.view.Role.TheVariants.{Main, Helper, Spent}
use Rattle.sweep_board.specs.declared.view.Stage.{Stage}
use Rattle.sweep_board.specs.declared.view.Stage.TheVariants.{Free, Claimed, LoadedBlack, LoadedBoth, StoredFreed}
use Rattle.sweep_board.specs.declared.view.View.{View}
use Rattle.cell_bits.specs.Jobs.{job_at}
use Rattle.sweep_board.specs.Rule.{state_at, black_at, gob_at, freed_at, white, weight, helper_weight, claim_of}
use Rattle.sweep_board.specs.Rule.{mask_at, sweeps_of, IsWoken, StageRule, BoardRule}
use Rattle.sweep_board.specs.Views.{with_done, with_look, with_wake, with_taken, bits_now, IsDone, IsNoted, IsSwept}
use Rattle.sweep_board.specs.Steps.{BoardSeat, wakes, looks, reads_freed, reads_black, takes}
use Rattle.sweep_board.proofs.Words.{or_assoc, both_within}
use Rattle.sweep_board.proofs.Turns.{Same, Turn, turned, elsewhere, passed_on, done_on, still, loaded}
use Rattle.sweep_board.proofs.Totals.{total-at, total-le, total-only}
use Rattle.sweep_board.proofs.Sweeps.{times, times-contains}
use Rattle.sweep_board.proofs.HelperSteps.{quarter, noted_up}

quarter_one : (i : ℕ) → (4 * i + 1) / 4 ≡ i
quarter_one i = omega arith

quarter_three : (i : ℕ) → (4 * i + 3) / 4 ≡ i
quarter_three i = omega arith

-- a wake adds its mask to its own arena's
pub mask_here : (wakes : List (ℕ × ℕ)) (i m : ℕ) → mask_at ((i, m) ∷ wakes) i ≡ bit_or (mask_at wakes i) m
mask_here wakes i m = ap (λ (b : Bool). bit_or (mask_at wakes i) (weight b * m)) (eq-eqb i i refl)
    ∙ ap (bit_or (mask_at wakes i)) (let e : 1 * m ≡ m = omega arith in e)

-- and to no other's
pub mask_away : (wakes : List (ℕ × ℕ)) (i m a : ℕ) → a ≢ i → mask_at ((i, m) ∷ wakes) a ≡ mask_at wakes a
mask_away wakes i m a ne = ap (λ (b : Bool). bit_or (mask_at wakes a) (weight b * m)) (ne_eqb i a (λ e. ne (sym e)))
    ∙ ap (bit_or (mask_at wakes a)) (let e : 0 * m ≡ 0 = omega arith in e) ∙ or_zero_r (mask_at wakes a)

stage_on : (jobs : List Job) (old new : List ℕ) → ((a : ℕ) → freed_at new a ≡ freed_at old a) → (stage : Stage)
    → StageRule jobs old stage → StageRule jobs new stage
stage_on jobs old new same Free f = tt
stage_on jobs old new same (Claimed a) f = f
stage_on jobs old new same (LoadedBlack a b) f = f
stage_on jobs old new same (LoadedBoth a b g) f = f
stage_on jobs old new same (StoredFreed a) f = (f.0, same a ∙ f.1)

module _ (jobs : List Job) (slots id : ℕ) (me : BoardSeat) (i : ℕ) (lt : i < length jobs) where
  woken : (s : State (Unit {0}) View) → BoardRule jobs s → get_elem? s.views id ≡ some me.0 → (mask : ℕ)
      → me.0.role ≡ Main → bit_or mask (job_at jobs i).bits.gob ≡ (job_at jobs i).bits.gob
      → Turn jobs s.words (set s.words (4 * i + 1) (bit_or (black_at s.words i) mask)) i me.0 (with_wake me.0 i mask)
  woken s k at mask main within =
      let old : List ℕ = s.words in
      let n : ℕ = bit_or (black_at old i) mask in
      let new : List ℕ = set old (4 * i + 1) n in
      let sized = k.sized in
      let away : (a : ℕ) → a ≢ i → Same old new a = elsewhere old i (4 * i + 1) n (omega arith) (omega arith) in
      let black : black_at new i ≡ n = get_or-set_same old (4 * i + 1) n 0 (omega arith) in
      let state : state_at new i ≡ state_at old i = get_or-set_other old (4 * i + 1) (4 * i) n 0 (λ e. omega arith) in
      let gob : gob_at new i ≡ gob_at old i = get_or-set_other old (4 * i + 1) (4 * i + 2) n 0 (λ e. omega arith) in
      let freed : freed_at new i ≡ freed_at old i = get_or-set_other old (4 * i + 1) (4 * i + 3) n 0 (λ e. omega arith)
      in
      let arena = k.arenas i lt in
      let fit = k.seats id me.0 at in
      let was_low = arena.low in
      let up : state_at old i ≤ state_at new i = omega arith in
      let low : state_at new i ≤ 2 = omega arith in
      let j : Job = job_at jobs i in
      let was = arena.black-is in
      let still_woken : IsWoken j.bits n = (
        bit_or was.0 mask,
        ap (λ (z : ℕ). bit_or z mask) was.1 ∙ or_assoc j.bits.black was.0 mask,
        both_within was.0 mask j.bits.gob was.2 within,
      ) in
      let stage : StageRule jobs new me.0.stage =
      stage_on jobs old new
      (λ a. dite (ℕ_discrete a i) (λ e. subst (λ z. freed_at new z ≡ freed_at old z) (sym e) freed)
      (λ ne. (away a ne).freed)) me.0.stage fit.stage in record {
        long = length-set old (4 * i + 1) n;
        away = away;
        arena = record {
          low = low;
          black-is = subst (λ z. IsWoken j.bits z) (sym black) still_woken;
          gob-is = gob ∙
              arena.gob-is;
          untouched = λ zero. freed ∙ arena.untouched (sym state ∙ zero);
          freed-is = λ two. freed ∙
              arena.freed-is (sym state ∙ two);
        };
        up = up;
        claim = let b = ap (λ (n : ℕ). weight (eqb n 1)) state in omega arith;
        claims = λ a ne. refl;
        sweep = let b = ap (λ (n : ℕ). weight (eqb n 2)) state in omega arith;
        sweeps = λ a ne. refl;
        freed = inl freed;
        fits = record {
          stage = stage;
          idle = fit.idle;
          passed = passed_on old new i away up me.0.passed fit.passed;
          finished = done_on old new i away up low me.0.finished fit.finished;
          taken = done_on old new i away up low
              me.0.taken fit.taken;
          spent = fit.spent;
        };
        role = refl;
        helpers = refl;
        masks = λ a ne. mask_away me.0.woken i mask a ne;
        mask = λ _ h. black ∙ ap (λ (z : ℕ). bit_or z mask) h ∙ or_assoc j.bits.black (mask_at me.0.woken i) mask
            ∙ ap (bit_or j.bits.black) (sym (mask_here me.0.woken i mask));
        black = inr main;
      }

  pub waking : (mask : ℕ) → me.0.role ≡ Main → bit_or mask (job_at jobs i).bits.gob ≡ (job_at jobs i).bits.gob
      → Allows (BoardRule jobs) slots id me (4 * i + 1) (λ n. bit_or n mask)
      (wakes (step slots (4 * i + 1) mask 0 none) me)
  waking mask main within s k _ at _ = let w : View = with_wake me.0 i mask in (
    w,
    keeps,
    tt,
    turned jobs s (set s.words (4 * i + 1) (bit_or (black_at s.words i) mask)) i id me.0 w k at lt
        (woken s k at mask main within) s.homes,
    ap (λ (n : ℕ). (with_wake me.0 n mask, me.1)) (sym (quarter_one i)),
  )

  -- once no helper's seat is left, an arena that main noted as not ready is done, since nobody holds its claim
  alone_done : (s : State (Unit {0}) View) → BoardRule jobs s → get_elem? s.views id ≡ some me.0 → me.0.role ≡ Main
      → IsNoted me.0 i → me.0.helpers ≡ 0 → state_at s.words i ≡ 2
  alone_done s k at main noted alone =
      let up = noted_up jobs s.words me.0 i (k.seats id me.0 at) noted in
      let low = (k.arenas i lt).low in
      let counts = (k.mains id me.0 at main).counts in
      let most = total-le (λ x. claim_of i x.stage) (λ x. helper_weight x.role) s.views
      (λ other u there. (k.seats other u there).idle i) in
      let claims = k.claims i lt in
      let unclaimed : state_at s.words i ≢ 1 = λ e. let w : weight (eqb (state_at s.words i) 1) ≡ 1 =
      ap (λ (n : ℕ). weight (eqb n 1)) e in omega arith in
      omega arith

  -- and where none is left, an arena that is done was swept by main's own, which took over what each helper's seat
  -- swept
  alone_swept : (s : State (Unit {0}) View) → BoardRule jobs s → get_elem? s.views id ≡ some me.0 → me.0.role ≡ Main
      → state_at s.words i ≡ 2 → me.0.helpers ≡ 0 → IsSwept me.0 i
  alone_swept s k at main two alone =
      let mine = k.mains id me.0 at main in
      let counts = mine.counts in
      let none : (other : ℕ) (u : View) → other ≢ id → get_elem? s.views other ≡ some u → sweeps_of i u ≡ 0 =
      λ other u ne there. by other u ne there u.role refl in
      let only = total-only (sweeps_of i) s.views id me.0 at none in
      let sweeps = k.sweeps i lt in
      let one : weight (eqb (state_at s.words i) 2) ≡ 1 = ap weight (eq-eqb (state_at s.words i) 2 two) in
      times-contains i me.0.swept (omega arith) where
        by : (other : ℕ) (u : View) → other ≢ id → get_elem? s.views other ≡ some u
            → (role : Role) → u.role ≡ role → sweeps_of i u ≡ 0
        by other u ne there Main is =
            absurd (ne ((k.mains other u there is).first ∙ sym (k.mains id me.0 at main).first))
        by other u ne there Helper is =
            let one : helper_weight u.role ≡ 1 = ap helper_weight is in
            let least = total-at (λ x. helper_weight x.role) s.views other u there in
            let counts = (k.mains id me.0 at main).counts in
            absurd (omega arith)
        by other u ne there Spent is = ap (times i) ((k.seats other u there).spent is)

  pub looking : me.0.role ≡ Main
      → Allows (BoardRule jobs) slots id me (4 * i) (λ n. n) (looks (step slots (4 * i) 0 0 none) me)
  looking main s k _ at _ =
      let x : ℕ = state_at s.words i in
      let fit = k.seats id me.0 at in
      let alone : IsNoted me.0 ((4 * i) / 4) → me.0.helpers ≡ 0
      → x ≡ 2 = subst (λ n. IsNoted me.0 n → me.0.helpers ≡ 0 → x ≡ 2) (sym (quarter i)) (alone_done s k at main) in
      let known : IsDone me.0 ((4 * i) / 4)
      → x ≡ 2 = subst (λ n. IsDone me.0 n → x ≡ 2) (sym (quarter i))
      (All-contains (λ a. state_at s.words a ≡ 2) me.0.finished i fit.finished) in
      let swept : x ≡ 2 → me.0.helpers ≡ 0 → IsSwept me.0 ((4 * i) / 4) =
      subst (λ n. x ≡ 2 → me.0.helpers ≡ 0 → IsSwept me.0 n) (sym (quarter i)) (alone_swept s k at main) in
      dite (ℕ_discrete x 2)
      (λ hit. let w : View = with_done me.0 i in (
        w,
        keeps,
        tt,
        loaded jobs s i id me.0 w k at lt (4 * i) s.homes
            (still jobs s i id me.0 w k at lt (λ a. refl)
            (record {
              stage = fit.stage;
              idle = fit.idle;
              passed = fit.passed;
              finished = All-cons
                  (λ a. state_at s.words a ≡ 2) i me.0.finished hit fit.finished;
              taken = fit.taken;
              spent = fit.spent;
            })
            refl refl refl refl),
        (let P : Type 0 = (w, me.1) ≡ (with_done me.0 ((4 * i) / 4), me.1) in let Q : Type 0 =
            (w, me.1) ≡ (with_look me.0 ((4 * i) / 4) x, me.1) in (
              subst (λ b. MatchBool b P Q) (sym (eq-eqb x 2 hit))
                  (ap (λ (n : ℕ). (with_done me.0 n, me.1)) (sym (quarter i))),
              known,
              alone,
              swept,
            )),
      ))
      (λ miss. let w : View = with_look me.0 i x in (
        w,
        keeps,
        tt,
        loaded jobs s i id me.0 w k at lt (4 * i) s.homes
            (still jobs s i id me.0 w k at lt (λ a. refl)
            (record {
              stage = fit.stage;
              idle = fit.idle;
              passed = fit.passed;
              finished = fit.finished;
              taken =
                  fit.taken;
              spent = fit.spent;
            }) refl refl refl refl),
        (let P : Type 0 = (w, me.1) ≡ (with_done me.0 ((4 * i) / 4), me.1) in let Q : Type 0 =
            (w, me.1) ≡ (with_look me.0 ((4 * i) / 4) x, me.1) in (
              subst (λ b. MatchBool b P Q) (sym (ne_eqb x 2 miss))
                  (ap (λ (n : ℕ). (with_look me.0 n x, me.1)) (sym (quarter i))),
              known,
              alone,
              swept,
            )),
      ))

  pub reading_freed : me.0.jobs ≡ jobs
      → Allows (BoardRule jobs) slots id me (4 * i + 3) (λ n. n) (reads_freed (step slots (4 * i + 3) 0 0 none) me)
  reading_freed same s k _ at _ = let x : ℕ = freed_at s.words i in let fit = k.seats id me.0 at in (
    me.0,
    keeps,
    tt,
    loaded jobs s i id me.0 me.0 k at lt (4 * i + 3) s.homes
        (still jobs s i id me.0 me.0 k at lt (λ a. refl) fit refl refl refl refl),
    (
      refl,
      subst (λ n. Contains me.0.finished n → x ≡ white (job_at me.0.jobs n)) (sym (quarter_three i))
          (λ has. (k.arenas i lt).freed-is (All-contains (λ a. state_at s.words a ≡ 2) me.0.finished i fit.finished has)
          ∙ ap (λ (js : List Job). white (job_at js i)) (sym same)),
    ),
  )

  black_read : (s : State (Unit {0}) View) → BoardRule jobs s → get_elem? s.views id ≡ some me.0 → me.0.jobs ≡ jobs
      → me.0.role ≡ Main → black_at s.words i ≡ (bits_now me.0 ((4 * i + 1) / 4)).black
  black_read s k at same main = (k.mains id me.0 at main).woken i lt
      ∙ ap (λ (js : List Job). bit_or (job_at js i).bits.black (mask_at me.0.woken i)) (sym same)
      ∙ ap (λ (n : ℕ). (bits_now me.0 n).black) (sym (quarter_one i))

  pub reading_black : me.0.jobs ≡ jobs → me.0.role ≡ Main
      → Allows (BoardRule jobs) slots id me (4 * i + 1) (λ n. n) (reads_black (step slots (4 * i + 1) 0 0 none) me)
  reading_black same main s k _ at _ = let fit = k.seats id me.0 at in (
    me.0,
    keeps,
    tt,
    loaded jobs s i id me.0 me.0 k at lt (4 * i + 1) s.homes
        (still jobs s i id me.0 me.0 k at lt (λ a. refl) fit refl refl refl refl),
    (refl, black_read s k at same main),
  )

  pub taking : me.0.jobs ≡ jobs → me.0.role ≡ Main → IsDone me.0 i
      → Allows (BoardRule jobs) slots id me (4 * i + 1) (λ n. n) (takes (step slots (4 * i + 1) 0 0 none) me)
  taking same main seen s k _ at _ = let w : View = with_taken me.0 i in let fit = k.seats id me.0 at in (
    w,
    keeps,
    tt,
    loaded jobs s i id me.0 w k at lt (4 * i + 1) s.homes
        (still jobs s i id me.0 w k at lt (λ a. refl) (record {
          stage = fit.stage;
          idle = fit.idle;
          passed = fit.passed;
          finished = fit.finished;
          taken = All-cons (λ a. state_at s.words a ≡ 2) i me.0.taken
              (All-contains (λ a. state_at s.words a ≡ 2) me.0.finished i fit.finished seen) fit.taken;
          spent = fit.spent;
        }) refl refl refl refl),
    (ap (λ (n : ℕ). (with_taken me.0 n, me.1)) (sym (quarter_one i)), black_read s k at same main),
  )
