-- Each step of a helper's seat keeps the rule, and tells the seat what its kind of step says.
use Rattle.std.proofs.Common.{◌≡◌, ◌≢◌, ℕ, ◌+◌, ◌*◌, ◌/◌, ◌<◌, ◌≤◌, eqb, List, ◌∷◌, length, set, sym, refl, ap, ◌∙◌}
use Rattle.std.proofs.Common.{subst, inl, inr, ⊎_elim, arith, length-set, get_or-set_same, get_or-set_other, eq-eqb}
use Rattle.std.proofs.Common.{ne_eqb, bit_or, bit_and, All, MatchBool}
use Rattle.std.specs.Int.{bit_not, w64}
use Rattle.std.proofs.lemmas.List.Elements.{All-cons, All-contains}
use mathlib.Core.Logic.{dite}
use mathlib.Core.Option.{none, some}
use native.Mathlib.Decide.{ℕ_discrete}
use lib.ListN.{get_elem?}
use prog.Atomic.{either}
use Rattle.atomic_table.specs.Table.{State, step, keeps, stepped, Allows}
use Rattle.cell_bits.specs.declared.jobs.Job.{Job}
use Rattle.cell_bits.specs.Colours.{white_mask_of}
use Rattle.sweep_board.specs.declared.view.Role.TheVariants.{Helper}
use Rattle.sweep_board.specs.declared.view.Stage.TheVariants.{Free, Claimed, LoadedBlack, LoadedBoth, StoredFreed}
use Rattle.sweep_board.specs.declared.view.View.{View}
use Rattle.cell_bits.specs.Jobs.{job_at}
use Rattle.sweep_board.specs.Rule.{state_at, black_at, gob_at, freed_at, white, weight, helper_weight, claim_of}
use Rattle.sweep_board.specs.Rule.{IsWoken, StageRule, SeatRule, BoardRule}
use Rattle.sweep_board.specs.Views.{at_stage, with_passed, with_gate, with_finished, IsNoted}
use Rattle.sweep_board.specs.Steps.{BoardSeat, arena_of, black_of, claims, passes_gate, loads_black, loads_gob}
use Rattle.sweep_board.specs.Steps.{stores_freed, stores_done}
use Rattle.sweep_board.proofs.Words.{or_within}
use Rattle.sweep_board.proofs.Sweeps.{times-same, times-other}
use Rattle.sweep_board.proofs.Turns.{Same, Turn, turned, weight_le, self_claim, other_claim, is_claimed, elsewhere}
use Rattle.sweep_board.proofs.Turns.{passed_on, done_on, still, loaded}

pub quarter : (i : ℕ) → (4 * i) / 4 ≡ i
quarter i = omega arith

-- an arena that a seat noted isn't ready
pub noted_up : (jobs : List Job) (words : List ℕ) (v : View) (i : ℕ) → SeatRule jobs words v → IsNoted v i
    → 0 < state_at words i
noted_up jobs words v i fit noted = ⊎_elim
    (λ has. All-contains (λ a. 0 < state_at words a) v.passed i fit.passed has)
    (λ has. let two = All-contains (λ a. state_at words a ≡ 2) v.finished i fit.finished has in omega arith)
    noted

-- what was loaded gives the white cells of hand-out, though main may have woken cells before the load
loaded_white : (job : Job) (black gob : ℕ) → IsWoken job.bits black → gob ≡ job.bits.gob
    → white_mask_of record { black = black; gob = gob } job.alloc_word ≡ white job
loaded_white job black gob woken is = ap (λ (z : ℕ). bit_and job.alloc_word (bit_not w64 z))
    (ap (λ (z : ℕ). bit_or black z) is ∙ ap (λ (z : ℕ). bit_or z job.bits.gob) woken.1
    ∙ or_within job.bits.black woken.0 job.bits.gob woken.2)

module _ (jobs : List Job) (slots id : ℕ) (me : BoardSeat) (i : ℕ) (lt : i < length jobs) where
  won : (s : State (Unit {0}) View) → BoardRule jobs s → get_elem? s.views id ≡ some me.0 → me.0.stage ≡ Free
      → me.0.role ≡ Helper → state_at s.words i ≡ 0
      → Turn jobs s.words (set s.words (4 * i) 1) i me.0 (at_stage me.0 (Claimed i))
  won s k at free helper is_ready =
      let old : List ℕ = s.words in
      let new : List ℕ = set old (4 * i) 1 in
      let sized = k.sized in
      let away : (a : ℕ) → a ≢ i → Same old new a = elsewhere old i (4 * i) 1 (omega arith) (omega arith) in
      let now : state_at new i ≡ 1 = get_or-set_same old (4 * i) 1 0 (omega arith) in
      let black : black_at new i ≡ black_at old i = get_or-set_other old (4 * i) (4 * i + 1) 1 0 (λ e. omega arith) in
      let gob : gob_at new i ≡ gob_at old i = get_or-set_other old (4 * i) (4 * i + 2) 1 0 (λ e. omega arith) in
      let freed : freed_at new i ≡ freed_at old i = get_or-set_other old (4 * i) (4 * i + 3) 1 0 (λ e. omega arith) in
      let arena = k.arenas i lt in
      let fit = k.seats id me.0 at in
      let up : state_at old i ≤ state_at new i = omega arith in
      let low : state_at new i ≤ 2 = omega arith in
      let none_before : (a : ℕ) → claim_of a me.0.stage ≡ 0 = λ a. ap (claim_of a) free in
      let is : helper_weight me.0.role ≡ 1 = ap helper_weight helper in record {
        long = length-set old (4 * i) 1;
        away = away;
        arena = record {
          low = low;
          black-is = subst (λ z. IsWoken (job_at jobs i).bits z) (sym black) arena.black-is;
          gob-is = gob ∙ arena.gob-is;
          untouched = λ zero. absurd (omega arith);
          freed-is = λ two. absurd
              (omega arith);
        };
        up = up;
        claim = let a = self_claim i in let b = none_before i in let c : weight (eqb (state_at old i) 1) ≡ 0 =
            ap (λ (n : ℕ). weight (eqb n 1)) is_ready in let d : weight (eqb (state_at new i) 1) ≡ 1 =
            ap (λ (n : ℕ). weight (eqb n 1)) now in omega arith;
        claims = λ a ne. other_claim i a ne ∙ sym (none_before a);
        sweep =
            let c : weight (eqb (state_at old i) 2) ≡ 0 = ap (λ (n : ℕ). weight (eqb n 2)) is_ready in
            let d : weight (eqb (state_at new i) 2) ≡ 0 = ap (λ (n : ℕ). weight (eqb n 2)) now in omega arith;
        sweeps = λ a ne. refl;
        freed = inl freed;
        fits = record {
          stage = lt;
          idle = λ a. let le = weight_le (eqb i a) in omega arith;
          passed = passed_on old new
              i away up me.0.passed fit.passed;
          finished = done_on old new i away up low me.0.finished fit.finished;
          taken = done_on old new i away up low me.0.taken fit.taken;
          spent = fit.spent;
        };
        role = refl;
        helpers = refl;
        masks = λ a ne. refl;
        mask = λ m was. black ∙ was;
        black = inl black;
      }

  pub claiming : me.0.stage ≡ Free → me.0.role ≡ Helper
      → Allows (BoardRule jobs) slots id me (4 * i) (λ n. either (eqb n 0) 1 n)
      (claims (step slots (4 * i) 0 1 none) me)
  claiming free helper s k _ at _ =
      let x : ℕ = state_at s.words i in
      let fit = k.seats id me.0 at in
      let known : IsNoted me.0 ((4 * i) / 4)
      → x ≢ 0 = subst (λ n. IsNoted me.0 n → x ≢ 0) (sym (quarter i))
      (λ noted zero. let up = noted_up jobs s.words me.0 i fit noted in omega arith) in
      dite (ℕ_discrete x 0)
      (λ hit. let w : View = at_stage me.0 (Claimed i) in (
        w,
        keeps,
        tt,
        subst (λ b. BoardRule jobs (stepped s (4 * i) (either b 1 x) id me.1 w keeps)) (sym (eq-eqb x 0 hit))
            (turned jobs s (set s.words (4 * i) 1) i id me.0 w k at lt (won s k at free helper hit) s.homes),
        (let P : Type 0 = (w, me.1) ≡ (at_stage me.0 (Claimed ((4 * i) / 4)), me.1) in let Q : Type 0 =
            (w, me.1) ≡ (with_passed me.0 ((4 * i) / 4), me.1) in (
              subst (λ b. MatchBool b P Q) (sym (eq-eqb x 0 hit))
                  (ap (λ (n : ℕ). (at_stage me.0 (Claimed n), me.1)) (sym (quarter i))),
              known,
            )),
      ))
      (λ miss. let w : View = with_passed me.0 i in (
        w,
        keeps,
        tt,
        subst (λ b. BoardRule jobs (stepped s (4 * i) (either b 1 x) id me.1 w keeps)) (sym (ne_eqb x 0 miss))
            (loaded jobs s i id me.0 w k at lt (4 * i) s.homes
            (still jobs s i id me.0 w k at lt (λ a. refl)
            (record {
              stage = fit.stage;
              idle = fit.idle;
              passed = All-cons (λ a. 0 < state_at s.words a) i
                  me.0.passed (omega arith) fit.passed;
              finished = fit.finished;
              taken = fit.taken;
              spent = fit.spent;
            })
            refl refl refl refl)),
        (let P : Type 0 = (w, me.1) ≡ (at_stage me.0 (Claimed ((4 * i) / 4)), me.1) in let Q : Type 0 =
            (w, me.1) ≡ (with_passed me.0 ((4 * i) / 4), me.1) in (
              subst (λ b. MatchBool b P Q) (sym (ne_eqb x 0 miss))
                  (ap (λ (n : ℕ). (with_passed me.0 n, me.1)) (sym (quarter i))),
              known,
            )),
      ))

  pub passing_gate : (name : ℕ)
      → Allows (BoardRule jobs) slots id me (4 * i) (λ n. n) (passes_gate name (step slots (4 * i) 0 0 none) me)
  passing_gate name s k _ at _ =
      let fit = k.seats id me.0 at in
      let w : View = with_gate me.0 i name in (
        w,
        keeps,
        tt,
        loaded jobs s i id me.0 w k at lt (4 * i) s.homes
            (still jobs s i id me.0 w k at lt (λ a. refl)
            (record {
              stage = fit.stage;
              idle = fit.idle;
              passed = fit.passed;
              finished = fit.finished;
              taken =
                  fit.taken;
              spent = fit.spent;
            }) refl refl refl refl),
        ap (λ (n : ℕ). (with_gate me.0 n name, me.1)) (sym (quarter i)),
      )

  pub loading_black : me.0.stage ≡ Claimed i
      → Allows (BoardRule jobs) slots id me (4 * i + 1) (λ n. n) (loads_black (step slots (4 * i + 1) 0 0 none) me)
  loading_black is s k _ at _ =
      let x : ℕ = black_at s.words i in
      let fit = k.seats id me.0 at in
      let j : arena_of me.0.stage ≡ i = ap arena_of is in
      let w : View = at_stage me.0 (LoadedBlack (arena_of me.0.stage) x) in
      let same : (a : ℕ) → claim_of a w.stage ≡ claim_of a me.0.stage = λ a. ap (λ (n : ℕ). weight (eqb n a)) j
      ∙ sym (ap (claim_of a) is) in
      let stage : StageRule jobs s.words w.stage = subst (λ n. StageRule jobs s.words (LoadedBlack n x)) (sym j)
      (lt, (k.arenas i lt).black-is) in (
        w,
        keeps,
        tt,
        loaded jobs s i id me.0 w k at lt (4 * i + 1) s.homes
            (still jobs s i id me.0 w k at lt same
            (record {
              stage = stage;
              idle = λ a. let e = same a in let f = fit.idle a in omega arith;
              passed =
                  fit.passed;
              finished = fit.finished;
              taken = fit.taken;
              spent = fit.spent;
            }) refl refl refl refl),
        refl,
      )

  pub loading_gob : (b : ℕ) → me.0.stage ≡ LoadedBlack i b
      → Allows (BoardRule jobs) slots id me (4 * i + 2) (λ n. n) (loads_gob (step slots (4 * i + 2) 0 0 none) me)
  loading_gob b is s k _ at _ =
      let x : ℕ = gob_at s.words i in
      let fit = k.seats id me.0 at in
      let j : arena_of me.0.stage ≡ i = ap arena_of is in
      let y : black_of me.0.stage ≡ b = ap black_of is in
      let w : View = at_stage me.0 (LoadedBoth (arena_of me.0.stage) (black_of me.0.stage) x) in
      let same : (a : ℕ) → claim_of a w.stage ≡ claim_of a me.0.stage = λ a. ap (λ (n : ℕ). weight (eqb n a)) j
      ∙ sym (ap (claim_of a) is) in
      let saw : StageRule jobs s.words (LoadedBlack i b) = subst (StageRule jobs s.words) is fit.stage in
      let stage : StageRule jobs s.words w.stage = subst (λ (z : ℕ × ℕ). StageRule jobs s.words (LoadedBoth z.0 z.1 x))
      (λ p. (sym j p, sym y p)) (lt, saw.1, (k.arenas i lt).gob-is) in (
        w,
        keeps,
        tt,
        loaded jobs s i id me.0 w k at lt (4 * i + 2) s.homes
            (still jobs s i id me.0 w k at lt same
            (record {
              stage = stage;
              idle = λ a. let e = same a in let f = fit.idle a in omega arith;
              passed =
                  fit.passed;
              finished = fit.finished;
              taken = fit.taken;
              spent = fit.spent;
            }) refl refl refl refl),
        refl,
      )

  stored : (s : State (Unit {0}) View) → BoardRule jobs s → get_elem? s.views id ≡ some me.0 → (b g n : ℕ)
      → me.0.stage ≡ LoadedBoth i b g → n ≡ white (job_at jobs i)
      → Turn jobs s.words (set s.words (4 * i + 3) n) i me.0 (at_stage me.0 (StoredFreed (arena_of me.0.stage)))
  stored s k at b g n is whites =
      let old : List ℕ = s.words in
      let new : List ℕ = set old (4 * i + 3) n in
      let sized = k.sized in
      let away : (a : ℕ) → a ≢ i → Same old new a = elsewhere old i (4 * i + 3) n (omega arith) (omega arith) in
      let freed : freed_at new i ≡ n = get_or-set_same old (4 * i + 3) n 0 (omega arith) in
      let state : state_at new i ≡ state_at old i = get_or-set_other old (4 * i + 3) (4 * i) n 0 (λ e. omega arith) in
      let black : black_at new i ≡ black_at old i = get_or-set_other old (4 * i + 3) (4 * i + 1) n 0 (λ e. omega arith)
      in
      let gob : gob_at new i ≡ gob_at old i = get_or-set_other old (4 * i + 3) (4 * i + 2) n 0 (λ e. omega arith) in
      let arena = k.arenas i lt in
      let fit = k.seats id me.0 at in
      let was_low = arena.low in
      let up : state_at old i ≤ state_at new i = omega arith in
      let low : state_at new i ≤ 2 = omega arith in
      let j : arena_of me.0.stage ≡ i = ap arena_of is in
      let mine : claim_of i me.0.stage ≡ 1 = ap (claim_of i) is ∙ self_claim i in
      let one : state_at old i ≡ 1 = is_claimed jobs s i id me.0 k at lt mine in
      let w : View = at_stage me.0 (StoredFreed (arena_of me.0.stage)) in
      let same : (a : ℕ) → claim_of a w.stage ≡ claim_of a me.0.stage = λ a. ap (λ (n : ℕ). weight (eqb n a)) j
      ∙ sym (ap (claim_of a) is) in
      let stage : StageRule jobs new w.stage =
      subst (λ n. StageRule jobs new (StoredFreed n)) (sym j) (lt, freed ∙ whites) in record {
        long = length-set old (4 * i + 3) n;
        away = away;
        arena = record {
          low = low;
          black-is = subst (λ z. IsWoken (job_at jobs i).bits z) (sym black) arena.black-is;
          gob-is = gob ∙ arena.gob-is;
          untouched = λ zero. absurd (omega arith);
          freed-is = λ two. freed ∙ whites;
        };
        up = up;
        claim = let a = same i in let b = ap (λ (n : ℕ). weight (eqb n 1)) state in omega arith;
        claims = λ a ne. same a;
        sweep = let b = ap (λ (n : ℕ). weight (eqb n 2)) state in omega arith;
        sweeps = λ a ne. refl;
        freed = inr (omega arith);
        fits = record {
          stage = stage;
          idle = λ a. let e = same a in let f = fit.idle a in omega arith;
          passed =
              passed_on old new i away up me.0.passed fit.passed;
          finished = done_on old new i away up low me.0.finished
              fit.finished;
          taken = done_on old new i away up low me.0.taken fit.taken;
          spent = fit.spent;
        };
        role = refl;
        helpers = refl;
        masks = λ a ne. refl;
        mask = λ m was. black ∙ was;
        black = inl black;
      }

  pub storing_freed : (b g n : ℕ) → me.0.jobs ≡ jobs → me.0.stage ≡ LoadedBoth i b g
      → n ≡ white_mask_of record { black = b; gob = g } (job_at jobs i).alloc_word
      → Allows (BoardRule jobs) slots id me (4 * i + 3) (λ _. n)
      (λ _. stores_freed (step slots (4 * i + 3) n 0 none) me n)
  storing_freed b g n same_jobs is computed s k _ at _ =
      let fit = k.seats id me.0 at in
      let j : arena_of me.0.stage ≡ i = ap arena_of is in
      let saw : StageRule jobs s.words (LoadedBoth i b g) = subst (StageRule jobs s.words) is fit.stage in
      let whites : n ≡ white (job_at jobs i) = computed ∙ loaded_white (job_at jobs i) b g saw.1 saw.2 in
      let w : View = at_stage me.0 (StoredFreed (arena_of me.0.stage)) in (
        w,
        keeps,
        tt,
        turned jobs s (set s.words (4 * i + 3) n) i id me.0 w k at lt (stored s k at b g n is whites) s.homes,
        (refl, whites ∙ λ p. white (job_at (sym same_jobs p) (sym j p))),
      )

  finished : (s : State (Unit {0}) View) → BoardRule jobs s → get_elem? s.views id ≡ some me.0
      → me.0.stage ≡ StoredFreed i
      → Turn jobs s.words (set s.words (4 * i) 2) i me.0 (with_finished me.0 (arena_of me.0.stage))
  finished s k at is =
      let old : List ℕ = s.words in
      let new : List ℕ = set old (4 * i) 2 in
      let sized = k.sized in
      let away : (a : ℕ) → a ≢ i → Same old new a = elsewhere old i (4 * i) 2 (omega arith) (omega arith) in
      let now : state_at new i ≡ 2 = get_or-set_same old (4 * i) 2 0 (omega arith) in
      let black : black_at new i ≡ black_at old i = get_or-set_other old (4 * i) (4 * i + 1) 2 0 (λ e. omega arith) in
      let gob : gob_at new i ≡ gob_at old i = get_or-set_other old (4 * i) (4 * i + 2) 2 0 (λ e. omega arith) in
      let freed : freed_at new i ≡ freed_at old i = get_or-set_other old (4 * i) (4 * i + 3) 2 0 (λ e. omega arith) in
      let arena = k.arenas i lt in
      let fit = k.seats id me.0 at in
      let j : arena_of me.0.stage ≡ i = ap arena_of is in
      let mine : claim_of i me.0.stage ≡ 1 = ap (claim_of i) is ∙ self_claim i in
      let one : state_at old i ≡ 1 = is_claimed jobs s i id me.0 k at lt mine in
      let up : state_at old i ≤ state_at new i = omega arith in
      let low : state_at new i ≤ 2 = omega arith in
      let stored : StageRule jobs old (StoredFreed i) = subst (StageRule jobs old) is fit.stage in
      let list : All (λ a. state_at new a ≡ 2) (arena_of me.0.stage ∷ me.0.finished) =
      All-cons (λ a. state_at new a ≡ 2) (arena_of me.0.stage) me.0.finished
      (subst (λ z. state_at new z ≡ 2) (sym j) now) (done_on old new i away up low me.0.finished fit.finished) in
      record {
        long = length-set old (4 * i) 2;
        away = away;
        arena = record {
          low = low;
          black-is = subst (λ z. IsWoken (job_at jobs i).bits z) (sym black) arena.black-is;
          gob-is = gob ∙ arena.gob-is;
          untouched = λ zero. absurd (omega arith);
          freed-is = λ two. freed ∙ stored.1;
        };
        up = up;
        claim = let c : weight (eqb (state_at old i) 1) ≡ 1 = ap (λ (n : ℕ). weight (eqb n 1)) one in
            let d : weight (eqb (state_at new i) 1) ≡ 0 = ap (λ (n : ℕ). weight (eqb n 1)) now in omega arith;
        claims = λ a ne. sym (ap (claim_of a) is ∙ other_claim i a ne);
        sweep =
            let c : weight (eqb (state_at old i) 2) ≡ 0 = ap (λ (n : ℕ). weight (eqb n 2)) one in
            let d : weight (eqb (state_at new i) 2) ≡ 1 = ap (λ (n : ℕ). weight (eqb n 2)) now in
            let more = times-same i (arena_of me.0.stage) me.0.swept j in omega arith;
        sweeps = λ a ne. times-other a (arena_of me.0.stage) me.0.swept (λ e. ne (sym e ∙ j));
        freed = inl freed;
        fits = record {
          stage = tt;
          idle = λ a. omega arith;
          passed = passed_on old new i away up me.0.passed
              fit.passed;
          finished = list;
          taken = done_on old new i away up low me.0.taken fit.taken;
          spent = λ e.
              let none : helper_weight me.0.role ≡ 0 = ap helper_weight e in let f = fit.idle i in absurd (omega arith);
        };
        role = refl;
        helpers = refl;
        masks = λ a ne. refl;
        mask = λ m was. black ∙ was;
        black = inl black;
      }

  pub storing_done : me.0.stage ≡ StoredFreed i
      → Allows (BoardRule jobs) slots id me (4 * i) (λ _. 2) (λ _. stores_done (step slots (4 * i) 2 0 none) me 2)
  storing_done is s k _ at _ = let w : View = with_finished me.0 (arena_of me.0.stage) in
      (w, keeps, tt, turned jobs s (set s.words (4 * i) 2) i id me.0 w k at lt (finished s k at is) s.homes, refl)
