-- The board rule gives each of its sentences.
use Rattle.std.proofs.Common.{◌≡◌, ℕ, suc, ◌<◌, ◌≤◌, true, eqb, List, [], ◌∷◌, sym, ap, ◌∙◌, subst, inl, inr, arith}
use Rattle.std.proofs.Common.{bit_or, All, eq-eqb, eqb-true, ne_eqb}
use Rattle.std.specs.List.{list_any}
use Rattle.std.specs.Int.Bits.{or_self}
use Rattle.std.proofs.lemmas.Bool.{cases_lt}
use Rattle.std.proofs.lemmas.List.Folds.{Any-from_list_any}
use mathlib.Core.Logic.{dite}
use mathlib.Core.Option.{some}
use native.Mathlib.Decide.{ℕ_discrete}
use lib.ListN.{get_elem?}
use Rattle.atomic_table.specs.Table.{State}
use Rattle.cell_bits.specs.declared.jobs.Job.{Job}
use Rattle.sweep_board.specs.declared.view.Stage.{Stage}
use Rattle.sweep_board.specs.declared.view.Stage.TheVariants.{Free, Claimed, LoadedBlack, LoadedBoth, StoredFreed}
use Rattle.sweep_board.specs.declared.view.View.{View}
use Rattle.cell_bits.specs.Jobs.{job_at}
use Rattle.sweep_board.specs.Rule.{state_at, weight, total, claim_of, sweeps_of, IsWoken, StageRule, BoardRule}
use Rattle.sweep_board.specs.InWords.{IsBlackOf, BoardRuleInWords}
use Rattle.sweep_board.proofs.Words.{or_assoc, or_within}
use Rattle.sweep_board.proofs.Totals.{total-at, total-two}
use Rattle.sweep_board.proofs.Sweeps.{times-contains, contains-times}
use Rattle.sweep_board.proofs.Turns.{is_claimed, weight_le}

-- a sum that isn't 0 has a view that isn't
total-some : (f : View → ℕ) (views : List View) → 0 < total f views → (id : ℕ) × (v : View)
    × (get_elem? views id ≡ some v) × (0 < f v)
total-some f [] more = absurd (omega arith)
total-some f (x ∷ xs) more = elim (cases_lt 0 (f x)) [
  | inl here ↦ (0, x, (λ i. some x), here)
  | inr none ↦ (let rest = total-some f xs (omega arith) in (suc rest.0, rest.1, rest.2, rest.3))
]

claim_le : (i : ℕ) (stage : Stage) → claim_of i stage ≤ 1
claim_le i Free = omega arith
claim_le i (Claimed k) = weight_le (eqb k i)
claim_le i (LoadedBlack k black) = weight_le (eqb k i)
claim_le i (LoadedBoth k black gob) = weight_le (eqb k i)
claim_le i (StoredFreed k) = weight_le (eqb k i)

-- what holds of each element holds of one that a search finds
at_found : (P : ℕ → Type 0) (xs : List ℕ) (i : ℕ) → All P xs → list_any (λ t. eqb t i) xs ≡ true → P i
at_found P xs i all found =
    let a = Any-from_list_any (λ t. eqb t i) xs found in
    subst P (a.3 ∙ eqb-true a.1 i a.4) (all a.0 a.1 a.2)

black_of : (job : Job) (black : ℕ) → IsWoken job.bits black → IsBlackOf job black
black_of job black woken = (
  ap (bit_or job.bits.black) woken.1 ∙ sym (or_assoc job.bits.black job.bits.black woken.0)
      ∙ ap (λ (n : ℕ). bit_or n woken.0) (or_self job.bits.black) ∙ sym woken.1,
  ap (λ (n : ℕ). bit_or n job.bits.gob) woken.1 ∙ or_within job.bits.black woken.0 job.bits.gob woken.2,
)

pub in_words : (jobs : List Job) (s : State (Unit {0}) View) → BoardRule jobs s → BoardRuleInWords jobs s
in_words jobs s k = record {
  held = λ i lt is.
      let one : weight (eqb (state_at s.words i) 1) ≡ 1 = ap weight (eq-eqb (state_at s.words i) 1 is) in
      let sum = k.claims i lt in
      let some_view = total-some (λ v. claim_of i v.stage) s.views (omega arith) in
      let le = claim_le i some_view.1.stage in
      let more = some_view.3 in
      (some_view.0, some_view.1, some_view.2, omega arith);
  holds = λ i lt id v at has. is_claimed jobs s i id v k at lt has;
  one-claimer = λ i lt a b v u at there has has'. dite (ℕ_discrete a b) (λ e. e) (λ ne.
      let two = total-two (λ x. claim_of i x.stage) s.views a b v u (λ e. ne (sym e)) at there in
      let sum = k.claims i lt in
      let le = weight_le (eqb (state_at s.words i) 1) in
      absurd (omega arith));
  made-done = λ i lt is.
      let one : weight (eqb (state_at s.words i) 2) ≡ 1 = ap weight (eq-eqb (state_at s.words i) 2 is) in
      let sum = k.sweeps i lt in
      let some_view = total-some (sweeps_of i) s.views (omega arith) in
      (some_view.0, some_view.1, some_view.2, times-contains i some_view.1.swept some_view.3);
  swept-is-done = λ i lt id v at has. dite (ℕ_discrete (state_at s.words i) 2) (λ e. e) (λ ne.
      let least = total-at (sweeps_of i) s.views id v at in
      let sum = k.sweeps i lt in
      let some = contains-times i v.swept has in
      let none : weight (eqb (state_at s.words i) 2) ≡ 0 = ap weight (ne_eqb (state_at s.words i) 2 ne) in
      absurd (omega arith));
  one-sweeper = λ i lt a b v u at there has has'. dite (ℕ_discrete a b) (λ e. e) (λ ne.
      let two = total-two (sweeps_of i) s.views a b v u (λ e. ne (sym e)) at there in
      let sum = k.sweeps i lt in
      let le = weight_le (eqb (state_at s.words i) 2) in
      let here = contains-times i v.swept has in
      let other = contains-times i u.swept has' in
      absurd (omega arith));
  swept-once = λ i lt id v at.
      let least = total-at (sweeps_of i) s.views id v at in
      let sum = k.sweeps i lt in
      let le = weight_le (eqb (state_at s.words i) 2) in
      omega arith;
  taken-is-done = λ i id v at taken. at_found (λ a. state_at s.words a ≡ 2) v.taken i (k.seats id v at).taken taken;
  black-is = λ i lt id v at main. (k.mains id v at main).woken i lt;
  black-within = λ i lt. black_of (job_at jobs i) _ (k.arenas i lt).black-is;
  gob-is = λ i lt. (k.arenas i lt).gob-is;
  untouched = λ i lt is. (k.arenas i lt).untouched is;
  stored-is = λ i id v at is. let rule : StageRule jobs s.words (StoredFreed i) =
      subst (StageRule jobs s.words) is (k.seats id v at).stage in rule.1;
  freed-is = λ i lt is. (k.arenas i lt).freed-is is;
  loaded-black = λ i black id v at is. let rule : StageRule jobs s.words (LoadedBlack i black) =
      subst (StageRule jobs s.words) is (k.seats id v at).stage in black_of (job_at jobs i) black rule.1;
  loaded-both = λ i black gob id v at is. let rule : StageRule jobs s.words (LoadedBoth i black gob) =
      subst (StageRule jobs s.words) is (k.seats id v at).stage in (black_of (job_at jobs i) black rule.1, rule.2);
  passed-is = λ id v at. (k.seats id v at).passed;
  finished-is = λ id v at. (k.seats id v at).finished;
  counts = λ id v at main. (k.mains id v at main).counts;
  one-main = λ a b v u at there main main'. (k.mains a v at main).first ∙ sym (k.mains b u there main').first;
}
