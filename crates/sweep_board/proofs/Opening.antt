-- A new board's words meet the rule.
use Rattle.std.proofs.Common.{◌≡◌, ℕ, zero, suc, ◌+◌, ◌*◌, ◌<◌, eqb, List, [], ◌∷◌, ◌++◌, length, get_or, take, sym}
use Rattle.std.proofs.Common.{refl, ap, ◌∙◌, subst, arith}
use Rattle.std.proofs.lemmas.List.{take_more}
use lib.Bits.{or_zero_r, or_zero_l}
use mathlib.Core.Option.{some, some-injective, some-ne-none}
use lib.ListN.{get_elem?}
use Rattle.atomic_table.specs.Table.{opening}
use Rattle.cell_bits.specs.declared.jobs.Job.{Job}
use Rattle.sweep_board.specs.declared.view.Role.TheVariants.{Main}
use Rattle.sweep_board.specs.declared.view.View.{View}
use Rattle.cell_bits.specs.Jobs.{no_job, job_at}
use Rattle.sweep_board.specs.Rule.{state_at, black_at, gob_at, freed_at, weight, opening_words}
use Rattle.sweep_board.specs.Rule.{SeatRule, MainRule, BoardRule}
use Rattle.sweep_board.specs.Views.{main_view}
use Rattle.sweep_board.proofs.SeatMoves.{fresh_fits}

pub opening_words-rest : (js : List Job) (rest : List ℕ) → opening_words js rest ≡ opening_words js [] ++ rest
opening_words-rest [] rest = refl
opening_words-rest (j ∷ js) rest = ap (λ (ws : List ℕ). 0 ∷ j.bits.black ∷ j.bits.gob ∷ 0 ∷ ws)
    (opening_words-rest js rest)

opening_words-append : (js ks : List Job) (rest : List ℕ)
    → opening_words (js ++ ks) rest ≡ opening_words js (opening_words ks rest)
opening_words-append [] ks rest = refl
opening_words-append (j ∷ js) ks rest = ap (λ (ws : List ℕ). 0 ∷ j.bits.black ∷ j.bits.gob ∷ 0 ∷ ws)
    (opening_words-append js ks rest)

pub length-opening_words : (js : List Job) (rest : List ℕ)
    → length (opening_words js rest) ≡ 4 * length js + length rest
length-opening_words [] rest = omega arith
length-opening_words (j ∷ js) rest = let r = length-opening_words js rest in omega arith

-- the words of one job more
pub one_more : (js : List Job) (i : ℕ) (words : List ℕ) → i < length js → words ≡ opening_words (take i js) []
    → words ++ 0 ∷ (job_at js i).bits.black ∷ (job_at js i).bits.gob ∷ 0 ∷ [] ≡ opening_words (take (i + 1) js) []
one_more js i words lt is =
    let j : Job = job_at js i in
    ap (λ (l : List ℕ). l ++ 0 ∷ j.bits.black ∷ j.bits.gob ∷ 0 ∷ []) is
    ∙ sym (ap (λ (l : List Job). opening_words l []) (take_more js i no_job lt)
    ∙ opening_words-append (take i js) (j ∷ []) []
    ∙ opening_words-rest (take i js) (0 ∷ j.bits.black ∷ j.bits.gob ∷ 0 ∷ []))

-- the four words of arena i
words_of : (js : List Job) (rest : List ℕ) (i : ℕ) → i < length js
    → (state_at (opening_words js rest) i ≡ 0) × (black_at (opening_words js rest) i ≡ (job_at js i).bits.black)
    × (gob_at (opening_words js rest) i ≡ (job_at js i).bits.gob) × (freed_at (opening_words js rest) i ≡ 0)
words_of [] rest i lt = absurd (omega arith)
words_of (j ∷ js) rest zero lt = (refl, refl, refl, refl)
words_of (j ∷ js) rest (suc i) lt =
    let r = words_of js rest i (omega arith) in
    let ws : List ℕ = opening_words (j ∷ js) rest in
    let e0 : 4 * suc i ≡ suc (suc (suc (suc (4 * i)))) = omega arith in
    let e1 : 4 * suc i + 1 ≡ suc (suc (suc (suc (4 * i + 1)))) = omega arith in
    let e2 : 4 * suc i + 2 ≡ suc (suc (suc (suc (4 * i + 2)))) = omega arith in
    let e3 : 4 * suc i + 3 ≡ suc (suc (suc (suc (4 * i + 3)))) = omega arith in (
      ap (λ (n : ℕ). get_or ws n 0) e0 ∙ r.0,
      ap (λ (n : ℕ). get_or ws n 0) e1 ∙ r.1,
      ap (λ (n : ℕ). get_or ws n 0) e2
          ∙ r.2,
      ap (λ (n : ℕ). get_or ws n 0) e3 ∙ r.3,
    )

only : (x v : View) (id : ℕ) → get_elem? (x ∷ []) id ≡ some v → (id ≡ 0) × (x ≡ v)
only x v zero e = (refl, some-injective x v e)
only x v (suc id) e = absurd (some-ne-none v (sym e))

pub opens : (js : List Job) (words : List ℕ) → words ≡ opening_words js (0 ∷ [])
    → BoardRule js (opening words [] (main_view js))
opens js words is = subst (λ l. BoardRule js (opening l [] (main_view js))) (sym is) (
    let ws : List ℕ = opening_words js (0 ∷ []) in
    let v : View = main_view js in record {
      sized = length-opening_words js (0 ∷ []);
      arenas = λ i lt. let r = words_of js (0 ∷ []) i lt in let e0 = r.0 in record {
        low = omega arith;
        black-is = (
          0,
          r.1 ∙ sym (or_zero_r (job_at js i).bits.black),
          or_zero_l
              (job_at js i).bits.gob,
        );
        gob-is = r.2;
        untouched = λ zero. r.3;
        freed-is = λ two. absurd (omega arith);
      };
      claims = λ i lt. let r = words_of js (0 ∷ []) i lt in let e : weight (eqb (state_at ws i) 1) ≡ 0 =
          ap (λ (n : ℕ). weight (eqb n 1)) r.0 in omega arith;
      sweeps = λ i lt.
          let r = words_of js (0 ∷ []) i lt in
          let e : weight (eqb (state_at ws i) 2) ≡ 0 = ap (λ (n : ℕ). weight (eqb n 2)) r.0 in omega arith;
      seats = λ id u there. subst (SeatRule js ws) ((only v u id there).1) (fresh_fits js js ws Main);
      mains = λ id u there main. let o = only v u id there in
          subst (λ (z : ℕ × View). MainRule js ws (v ∷ []) z.0 z.1) (λ p. (sym o.0 p, o.1 p))
          (let z : MainRule js ws (v ∷ []) 0 v =
          record {
            first = refl;
            counts = omega arith;
            woken = λ i lt. (words_of js (0 ∷ []) i lt).1
                ∙ sym (or_zero_r (job_at js i).bits.black);
          } in z);
    })
