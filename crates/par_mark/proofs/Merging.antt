-- The books of both callers in one.
use Rattle.std.proofs.Common.{◌≡◌, ℕ, ◌+◌, ◌≤◌, Bool, true, false, List, [], ◌++◌, length, Option, ap, ◌∙◌}
use Rattle.std.proofs.Common.{subst, arith, All}
use Rattle.std.proofs.lemmas.List.Elements.{All-nil, All-same, All-append}
use Rattle.std.proofs.lemmas.List.{length-append}
use mathlib.Core.Logic.{dite}
use native.Mathlib.Decide.{ℕ_discrete}
use Rattle.crossbeam_queue.specs.Passes.{view}
use Rattle.mark_words.specs.declared.view.MarkView.{MarkView}
use Rattle.mark_words.specs.Sums.{weigh, only, times, whole}
use Rattle.mark_words.specs.Rule.{bit_of}
use Rattle.mark_words.specs.Steps.{KnowsAll}
use Rattle.mark_words.specs.Seats.{view_of}
use Rattle.mark_words.proofs.Counts.{weigh-append}
use Rattle.par_mark.specs.declared.donations.QueueView.{QueueView}
use Rattle.par_mark.specs.declared.caller.Caller.{Caller}
use Rattle.par_mark.specs.declared.lists.Lists.{Lists}
use Rattle.mark_ahead.specs.Edges.{out}
use Rattle.par_mark.specs.Accounts.{Accounts, HasRoom}
use Rattle.par_mark.specs.Donations.{Total}
use Rattle.par_mark.specs.Lists.{tries_of, outside_of}
use Rattle.par_mark.specs.Callers.{HasRun, HasSettled}
use Rattle.par_mark.specs.Tries.{TakenWasPut}
use Rattle.mark_ahead.proofs.Members.{from_times}
use Rattle.par_mark.proofs.Scanning.{weigh-one}
use Rattle.par_mark.proofs.Running.{within, outside_within}

pub once_known : (v : MarkView) → KnowsAll v → ((h : ℕ × ℕ → ℕ) → weigh h v.won ≤ weigh h v.known) → (q : ℕ × ℕ)
    → times q v.won ≤ 1
once_known v knows won_known q = dite (ℕ_discrete (times q v.won) 0)
    (λ z. omega arith)
    (λ n. let k = won_known (only q) in let one = from_times (λ (p : ℕ × ℕ). bit_of v.first p + times p v.won ≡ 1)
    v.known q knows (omega arith) in omega arith)

module _ (edge : ℕ × ℕ → ℕ → Option (ℕ × ℕ)) (marking : ℕ × ℕ → Bool) (P : ℕ × ℕ → Type 0) where
  pub merged : (fa fb ta tb oa ob : List (ℕ × ℕ)) (va vb v : MarkView) (da db d : QueueView)
      → Accounts edge marking P fa [] [] ta oa va da → Accounts edge marking P fb [] [] tb ob vb db
      → v.won ≡ va.won ++ vb.won → v.known ≡ va.known ++ vb.known → d.put ≡ da.put ++ db.put
      → d.taken ≡ da.taken ++ db.taken → va.first ≡ v.first → vb.first ≡ v.first → KnowsAll v
      → Accounts edge marking P (fa ++ fb) [] [] (ta ++ tb) (oa ++ ob) v d
  merged fa fb ta tb oa ob va vb v da db d a b won known put taken sa sb knows =
      let Fresh : ℕ × ℕ → Type 0 = λ q. bit_of v.first q ≡ 0 in
      let Marking : ℕ × ℕ → Type 0 = λ q. marking q ≡ true in
      let Beyond : ℕ × ℕ → Type 0 = λ q. marking q ≡ false in
      let won_weighs : (h : ℕ × ℕ → ℕ) → weigh h v.won ≡ weigh h va.won + weigh h vb.won = λ h. ap (weigh h) won
      ∙ weigh-append h va.won vb.won in
      let known_weighs : (h : ℕ × ℕ → ℕ) → weigh h v.known ≡ weigh h va.known + weigh h vb.known =
      λ h. ap (weigh h) known ∙ weigh-append h va.known vb.known in
      let put_weighs : (h : ℕ × ℕ → ℕ) → weigh h d.put ≡ weigh h da.put + weigh h db.put = λ h. ap (weigh h) put
      ∙ weigh-append h da.put db.put in
      let taken_weighs : (h : ℕ × ℕ → ℕ) → weigh h d.taken ≡ weigh h da.taken + weigh h db.taken =
      λ h. ap (weigh h) taken ∙ weigh-append h da.taken db.taken in
      let won_known : (h : ℕ × ℕ → ℕ) → weigh h v.won ≤ weigh h v.known = λ h. let p = a.won_known h in
      let q = b.won_known h in let x = won_weighs h in let y = known_weighs h in omega arith in record {
        balance = λ h.
            let p = a.balance h in
            let q = b.balance h in
            let w = won_weighs (out edge h) in
            let k = known_weighs h in
            let x = put_weighs h in
            let y = taken_weighs h in
            let f = weigh-append h fa fb in
            let t = weigh-append h ta tb in
            let o = weigh-append h oa ob in omega arith;
        taken = λ h. let p = a.taken h in let q = b.taken h in let k = known_weighs h in let y = taken_weighs h in
            let o = weigh-append h oa ob in omega arith;
        unscanned_won = λ h. omega arith;
        won_known = won_known;
        once = once_known v knows won_known;
        fresh = All-same Fresh v.won (va.won ++ vb.won) won
            (All-append Fresh va.won vb.won (subst (λ (l : List ℕ). All (λ (q : ℕ × ℕ). bit_of l q ≡ 0) va.won) sa
            a.fresh) (subst (λ (l : List ℕ). All (λ (q : ℕ × ℕ). bit_of l q ≡ 0) vb.won) sb b.fresh));
        inside = All-same Marking v.won (va.won ++ vb.won) won (All-append Marking va.won vb.won a.inside b.inside);
        tried_inside = All-same Marking v.known (va.known ++ vb.known) known
            (All-append Marking va.known vb.known a.tried_inside b.tried_inside);
        beyond = All-append Beyond oa ob a.beyond b.beyond;
        listed = All-nil P;
        tries_listed = All-append P ta tb a.tries_listed b.tries_listed;
        won_listed = All-same P v.won (va.won ++ vb.won) won (All-append P va.won vb.won a.won_listed b.won_listed);
      }

  -- both callers, and what main's seat and pass know
  pub record Together (fa fb : List (ℕ × ℕ)) (most : ℕ) (one two : Lists) (v : MarkView) (d : QueueView) : Type 0 where
    pub accounts : Accounts edge marking P (fa ++ fb) [] [] (tries_of one ++ tries_of two)
        (outside_of one ++ outside_of two) v d
    pub room : HasRoom edge marking P (weigh (λ _. 1) (fa ++ fb)) most
    pub tries_fit : length (tries_of one) + length (tries_of two) ≤ most
    pub outside_fit : length (outside_of one) + length (outside_of two) ≤ most

  pub together : (m n one two : Caller) (v0 v : MarkView) (d0 d : QueueView) (most : ℕ) → HasRun edge marking P m one
      → HasRun edge marking P n two
      → v.won ≡ (v0.won ++ (view_of one.seat).won) ++ (view_of two.seat).won
      → v.known ≡ (v0.known ++ (view_of one.seat).known) ++ (view_of two.seat).known
      → d.put ≡ (d0.put ++ (view one.pass).put) ++ (view two.pass).put
      → d.taken ≡ (d0.taken ++ (view one.pass).taken) ++ (view two.pass).taken
      → v0.won ≡ [] → v0.known ≡ [] → d0.put ≡ [] → d0.taken ≡ [] → (view_of one.seat).first ≡ v.first
      → (view_of two.seat).first ≡ v.first → KnowsAll v → TakenWasPut d
      → HasRoom edge marking P (weigh (λ _. 1) (tries_of m.lists) + weigh (λ _. 1) (tries_of n.lists)) most
      → Together (tries_of m.lists) (tries_of n.lists) most one.lists two.lists v d
  together m n one two v0 v d0 d most r s won known put taken w0 k0 p0 t0 sa sb knows tp has =
      let va = view_of one.seat in
      let vb = view_of two.seat in
      let da = view one.pass in
      let db = view two.pass in
      let fa = tries_of m.lists in
      let fb = tries_of n.lists in
      let won' : v.won ≡ va.won ++ vb.won = won ∙ ap (λ (l : List (ℕ × ℕ)). (l ++ va.won) ++ vb.won) w0 in
      let known' : v.known ≡ va.known ++ vb.known = known ∙ ap (λ (l : List (ℕ × ℕ)). (l ++ va.known) ++ vb.known) k0 in
      let put' : d.put ≡ da.put ++ db.put = put ∙ ap (λ (l : List (ℕ × ℕ)). (l ++ da.put) ++ db.put) p0 in
      let taken' : d.taken ≡ da.taken ++ db.taken = taken ∙ ap (λ (l : List (ℕ × ℕ)). (l ++ da.taken) ++ db.taken) t0 in
      let a = merged fa fb (tries_of one.lists) (tries_of two.lists) (outside_of one.lists) (outside_of two.lists) va
      vb v da db d r.accounts s.accounts won' known' put' taken' sa sb knows in
      let room : HasRoom edge marking P (weigh (λ _. 1) (fa ++ fb)) most = λ ps once all. let h = has ps once all in
      let f = weigh-append (λ _. 1) fa fb in omega arith in
      let w = within edge marking P (fa ++ fb) (tries_of one.lists ++ tries_of two.lists)
      (outside_of one.lists ++ outside_of two.lists) v d most a tp room in
      let oo = outside_within edge marking P (outside_of one.lists ++ outside_of two.lists) v in
      let lt = weigh-one (tries_of one.lists ++ tries_of two.lists) in
      let at = length-append (tries_of one.lists) (tries_of two.lists) in
      let ao = length-append (outside_of one.lists) (outside_of two.lists) in record {
        accounts = a;
        room = room;
        tries_fit = omega arith;
        outside_fit = omega arith;
      }

  -- at the end
  pub settled : (firsts outside : List (ℕ × ℕ)) (v : MarkView) (d : QueueView)
      → Accounts edge marking P firsts [] [] [] outside v d → d.parts ≡ whole → Total d [] → KnowsAll v
      → HasSettled edge marking P firsts outside v
  settled firsts outside v d a all total knows = record {
    settled = λ h. let b = a.balance h in let t = total all h in omega arith;
    once = a.once;
    fresh = a.fresh;
    inside = a.inside;
    tried_inside = a.tried_inside;
    beyond = a.beyond;
    listed = a.won_listed;
    knows = knows;
  }
