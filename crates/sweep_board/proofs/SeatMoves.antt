-- Splitting a helper's seat off main's, and joining it again, keep the rule.
use Rattle.std.proofs.Common.{◌≡◌, ℕ, ◌+◌, ◌<◌, List, [], ◌∷◌, ◌++◌, set, refl, sym, ap, ◌∙◌, subst, ⊎_elim, arith}
use Rattle.std.proofs.lemmas.List.Elements.{All-nil, All-append}
use mathlib.Core.Option.{some}
use lib.ListN.{get_elem?}
use Rattle.atomic_table.specs.Table.{Splits, Joins}
use Rattle.atomic_table.proofs.Lists.{at_set, at_snoc}
use Rattle.cell_bits.specs.declared.jobs.Job.{Job}
use Rattle.sweep_board.specs.declared.view.Role.{Role}
use Rattle.sweep_board.specs.declared.view.Role.TheVariants.{Main, Helper, Spent}
use Rattle.sweep_board.specs.declared.view.Stage.TheVariants.{Free}
use Rattle.sweep_board.specs.declared.view.View.{View}
use Rattle.sweep_board.specs.Rule.{state_at, total, helper_weight, claim_of, sweeps_of, SeatRule, MainRule, BoardRule}
use Rattle.sweep_board.specs.Views.{helper_view, spent_view, fresh_view, with_helper, joined_view}
use Rattle.sweep_board.proofs.Totals.{total-set, total-snoc}
use Rattle.sweep_board.proofs.Sweeps.{times-append}

-- a view that has learned nothing meets the rule
pub fresh_fits : (jobs known : List Job) (words : List ℕ) (role : Role) → SeatRule jobs words (fresh_view known role)
fresh_fits jobs known words role = record {
  stage = tt;
  idle = λ a. omega arith;
  passed = All-nil
      (λ a. 0 < state_at words a);
  finished = All-nil (λ a. state_at words a ≡ 2);
  taken = All-nil
      (λ a. state_at words a ≡ 2);
  spent = λ e. refl;
}

pub splitting : (jobs : List Job) (id : ℕ) (v : View) → v.role ≡ Main
    → Splits (BoardRule jobs) id v (with_helper v) (helper_view v.jobs)
splitting jobs id v main s k at =
    let left : View = with_helper v in
    let right : View = helper_view v.jobs in
    let fit = k.seats id v at in
    let me = k.mains id v at main in
    let h : View → ℕ = λ x. helper_weight x.role in record {
      sized = k.sized;
      arenas = k.arenas;
      claims = λ a lt. let f : View → ℕ = λ x. claim_of a x.stage in let was = k.claims a lt in
          let t = total-set f s.views id v left at in let u = total-snoc f (set s.views id left) right in omega arith;
      sweeps = λ a lt.
          let f : View → ℕ = sweeps_of a in
          let was = k.sweeps a lt in
          let t = total-set f s.views id v left at in
          let u = total-snoc f (set s.views id left) right in omega arith;
      seats = λ other u there. ⊎_elim
          (λ inside. ⊎_elim (λ e. subst (SeatRule jobs s.words) e.1
          (let z : SeatRule jobs s.words left = record {
            stage = fit.stage;
            idle = fit.idle;
            passed = fit.passed;
            finished = fit.finished;
            taken = fit.taken;
            spent = fit.spent;
          } in z)) (λ e. k.seats other u e.1) (at_set s.views id other left u inside))
          (λ e. subst (SeatRule jobs s.words) e (fresh_fits jobs v.jobs s.words Helper))
          (at_snoc (set s.views id left) right u other there);
      mains = λ other u there is. ⊎_elim
          (λ inside. ⊎_elim
          (λ e. subst (λ (z : ℕ × View). MainRule jobs s.words (set s.views id left ++ right ∷ []) z.0 z.1)
          (λ p. (sym e.0 p, e.1 p))
          (let z : MainRule jobs s.words (set s.views id left ++ right ∷ []) id left = record {
            first = me.first;
            counts = let t = total-set h s.views id v left at in let u = total-snoc h (set s.views id left) right in
                let c = me.counts in omega arith;
            woken = me.woken;
          } in z))
          (λ e. let g = k.mains other u e.1 is in absurd (e.0 (g.first ∙ sym me.first)))
          (at_set s.views id other left u inside))
          (λ e. let no : Helper ≡ Main = ap (λ (x : View). x.role) e ∙ is in absurd (cc))
          (at_snoc (set s.views id left) right u other there);
    }

pub joining : (jobs : List Job) (id other : ℕ) (v w : View) → v.role ≡ Main → w.role ≡ Helper → w.stage ≡ Free
    → Joins (BoardRule jobs) id v other w (joined_view v w) spent_view
joining jobs id other v w main helper free s k at apart there =
    let both : View = joined_view v w in
    let fit = k.seats id v at in
    let me = k.mains id v at main in
    let was : get_elem? s.views other ≡ some w =
    ⊎_elim (λ e. absurd (apart e.0)) (λ e. e.1) (at_set s.views id other both w there) in
    let fit' = k.seats other w was in
    let h : View → ℕ = λ x. helper_weight x.role in
    let views : List View = set (set s.views id both) other spent_view in
    let counted : total h views + 1 ≡ total h s.views = let t = total-set h s.views id v both at in
    let u = total-set h (set s.views id both) other w spent_view there in let e : helper_weight w.role ≡ 1 =
    ap helper_weight helper in omega arith in record {
      sized = k.sized;
      arenas = k.arenas;
      claims = λ a lt. let f : View → ℕ = λ x. claim_of a x.stage in let was = k.claims a lt in
          let t = total-set f s.views id v both at in
          let u = total-set f (set s.views id both) other w spent_view there in let e : claim_of a w.stage ≡ 0 =
          ap (claim_of a) free in omega arith;
      sweeps = λ a lt.
          let f : View → ℕ = sweeps_of a in
          let was = k.sweeps a lt in
          let t = total-set f s.views id v both at in
          let u = total-set f (set s.views id both) other w spent_view there in
          let e = times-append a w.swept v.swept in omega arith;
      seats = λ o u at'. ⊎_elim
          (λ e. subst (SeatRule jobs s.words) e.1 (fresh_fits jobs [] s.words Spent))
          (λ e. ⊎_elim
          (λ f. subst (SeatRule jobs s.words) f.1 (let z : SeatRule jobs s.words both = record {
            stage = fit.stage;
            idle = fit.idle;
            passed = All-append (λ a. 0 < state_at s.words a) w.passed v.passed fit'.passed fit.passed;
            finished = All-append (λ a. state_at s.words a ≡ 2) w.finished v.finished fit'.finished fit.finished;
            taken = fit.taken;
            spent = λ e. let no : Spent ≡ Main = sym e ∙ main in absurd (cc);
          } in z))
          (λ f. k.seats o u f.1)
          (at_set s.views id o both u e.1))
          (at_set (set s.views id both) other o spent_view u at');
      mains = λ o u at' is. ⊎_elim
          (λ e. let no : Spent ≡ Main = ap (λ (x : View). x.role) e.1 ∙ is in absurd (cc))
          (λ e. ⊎_elim
          (λ f. subst (λ (z : ℕ × View). MainRule jobs s.words views z.0 z.1) (λ p. (sym f.0 p, f.1 p))
          (let z : MainRule jobs s.words views id both =
          record { first = me.first; counts = let c = me.counts in omega arith; woken = me.woken } in z))
          (λ f. let g = k.mains o u f.1 is in absurd (f.0 (g.first ∙ sym me.first)))
          (at_set s.views id o both u e.1))
          (at_set (set s.views id both) other o spent_view u at');
    }
