-- Each move keeps the rule of the queue.
use Rattle.std.proofs.Common.{◌≡◌, ℕ, zero, suc, ◌+◌, ◌<◌, List, [], ◌∷◌, ◌++◌, set, sym, refl, ap, ◌∙◌, subst, ⊎_elim}
use Rattle.std.proofs.Common.{arith, All}
use Rattle.std.proofs.lemmas.List.Elements.{All-cons, All-nil, All-append, All-head, All-tail}
use mathlib.Core.Option.{some, some-injective, some-ne-none}
use lib.ListN.{get_elem?}
use Rattle.crossbeam_queue.specs.Fifo.{Pushes, Pops, Forks, Merges, Learns}
use Rattle.crossbeam_queue.proofs.Lists.{at_set, at_snoc}
use Rattle.mark_words.specs.Sums.{weigh, total, whole}
use Rattle.mark_words.proofs.Counts.{total-set, total-snoc, total-alone, weigh-append, weigh-snoc}
use Rattle.par_mark.specs.declared.donations.QueueView.{QueueView}
use Rattle.par_mark.specs.Donations.{queue_view, moves_with, unused_view, IsIdle, Balanced, with_less, new_view}
use Rattle.par_mark.specs.Donations.{joined_view, spent_view, HasPut, HasTaken, Total}

there : (views : List QueueView) (id : ℕ) (d w : QueueView) → get_elem? views id ≡ some d
    → get_elem? (set views id w) id ≡ some w
there [] id d w e = absurd (some-ne-none d (sym e))
there (x ∷ xs) zero d w e = refl
there (x ∷ xs) (suc id) d w e = there xs id d w e

module _ (P : ℕ × ℕ → Type 0) where
  idle_set : (views : List QueueView) (id : ℕ) (w : QueueView) → IsIdle w
      → ((j : ℕ) (u : QueueView) → get_elem? views j ≡ some u → IsIdle u) → (j : ℕ) (u : QueueView)
      → get_elem? (set views id w) j ≡ some u → IsIdle u
  idle_set views id w mine others j u e = ⊎_elim (λ x. subst IsIdle x.1 mine) (λ x. others j u x.1)
      (at_set views id j w u e)

  sole : (x d : QueueView) (id : ℕ) → get_elem? (x ∷ []) id ≡ some d → x ≡ d
  sole x d zero e = some-injective x d e
  sole x d (suc id) e = absurd (some-ne-none d (sym e))

  pub begins : Balanced P [] (unused_view ∷ [])
  begins = record {
    parts = omega arith;
    balance = λ h. omega arith;
    listed = All-nil P;
    idle = λ id d at. subst IsIdle (sole unused_view d id at) (λ none. (refl, refl));
  }

  pub puts : (n id : ℕ) (d : QueueView) (x : ℕ × ℕ) → 0 < d.parts → P x → Pushes (Balanced P) n id d x (HasPut d x)
  puts n id d x some_part listed items views room b at =
      let w : QueueView = queue_view d.parts (d.put ++ x ∷ []) d.taken (moves_with (x ∷ []) [] d.moves) in (
        w,
        record {
          parts = (let s = total-set (λ (u : QueueView). u.parts) views id d w at in let p = b.parts in omega arith);
          balance = λ h.
              let s = total-set (λ (u : QueueView). weigh h u.put) views id d w at in
              let t = total-set (λ (u : QueueView). weigh h u.taken) views id d w at in
              let p = b.balance h in
              let a = weigh-snoc h d.put x in
              let i = weigh-snoc h items x in omega arith;
          listed = All-append P items (x ∷ []) b.listed (All-cons P x [] listed (All-nil P));
          idle = idle_set views id w (λ none. absurd (omega arith)) b.idle;
        },
        refl,
      )

  -- what counts for one with all parts counts for all
  alone : (views : List QueueView) → ((j : ℕ) (u : QueueView) → get_elem? views j ≡ some u → IsIdle u)
      → (id : ℕ) (d : QueueView) → get_elem? views id ≡ some d → total (λ u. u.parts) views ≡ d.parts → (h : ℕ × ℕ → ℕ)
      → (total (λ u. weigh h u.put) views ≡ weigh h d.put) × (total (λ u. weigh h u.taken) views ≡ weigh h d.taken)
  alone views idle id d at all h = (
    total-alone (λ (u : QueueView). u.parts) (λ (u : QueueView). weigh h u.put) views id d
        (λ j u e none. ap (weigh h) (idle j u e none).0) at all,
    total-alone (λ (u : QueueView). u.parts) (λ (u : QueueView). weigh h u.taken) views id d
        (λ j u e none. ap (weigh h) (idle j u e none).1) at all,
  )

  pub takes : (id : ℕ) (d : QueueView) → 0 < d.parts → Pops (Balanced P) id d (HasTaken P d)
  takes id d some_part x items views b at =
      let w : QueueView = queue_view d.parts d.put (d.taken ++ x ∷ []) (moves_with [] (x ∷ []) d.moves) in
      let idle = idle_set views id w (λ none. absurd (omega arith)) b.idle in
      let parts : total (λ u. u.parts) (set views id w) ≡ whole =
      (let s = total-set (λ (u : QueueView). u.parts) views id d w at in let p = b.parts in omega arith) in
      let balance : (h : ℕ × ℕ → ℕ) → total (λ u. weigh h u.put) (set views id w)
      ≡ total (λ u. weigh h u.taken) (set views id w) + weigh h items = λ h.
      let s = total-set (λ (u : QueueView). weigh h u.put) views id d w at in
      let t = total-set (λ (u : QueueView). weigh h u.taken) views id d w at in
      let p = b.balance h in
      let a = weigh-snoc h d.taken x in omega arith in
      let now : get_elem? (set views id w) id ≡ some w = there views id d w at in (
        w,
        record { parts = parts; balance = balance; listed = All-tail P x items b.listed; idle = idle },
        (
          refl,
          All-head P x items b.listed,
          λ all h. let a =
              alone (set views id w) idle id w now (parts ∙ sym all) h in let c = balance h in let a0 = a.0 in
              let a1 = a.1 in omega arith,
        ),
      )

  pub forks : (id : ℕ) (d : QueueView) → 1 < d.parts → Forks (Balanced P) id d (with_less d) new_view
  forks id d more items views b at = let l : QueueView = with_less d in let vs : List QueueView = set views id l in
      record {
        parts = (let s = total-set (λ (u : QueueView). u.parts) views id d l at in
            let t = total-snoc (λ (u : QueueView). u.parts) vs new_view in let p = b.parts in omega arith);
        balance = λ h.
            let s = total-set (λ (u : QueueView). weigh h u.put) views id d l at in
            let s' = total-snoc (λ (u : QueueView). weigh h u.put) vs new_view in
            let t = total-set (λ (u : QueueView). weigh h u.taken) views id d l at in
            let t' = total-snoc (λ (u : QueueView). weigh h u.taken) vs new_view in
            let p = b.balance h in omega arith;
        listed = b.listed;
        idle = λ j u e. ⊎_elim (λ x. idle_set views id l (λ none. absurd (omega arith)) b.idle j u x)
            (λ x. subst IsIdle x (λ none. (refl, refl))) (at_snoc vs new_view u j e);
      }

  empty_both : (xs ys : List (ℕ × ℕ)) → xs ≡ [] → ys ≡ [] → xs ++ ys ≡ []
  empty_both xs ys a b = ap (λ (l : List (ℕ × ℕ)). l ++ ys) a ∙ b

  pub merges : (id : ℕ) (d : QueueView) (other : ℕ) (f : QueueView)
      → Merges (Balanced P) id d other f (joined_view d f) spent_view
  merges id d other f items views b at apart at' =
      let x : QueueView = joined_view d f in
      let vs : List QueueView = set views id x in
      let was : get_elem? views other ≡ some f = ⊎_elim (λ e. absurd (apart e.0)) (λ e. e.1)
      (at_set views id other x f at') in
      let idle_d = b.idle id d at in
      let idle_f = b.idle other f was in
      let mine : IsIdle x = λ none. let dn = idle_d (omega arith) in let fn = idle_f (omega arith) in
      (empty_both d.put f.put dn.0 fn.0, empty_both d.taken f.taken dn.1 fn.1) in record {
        parts = (let s = total-set (λ (u : QueueView). u.parts) views id d x at in
            let t = total-set (λ (u : QueueView). u.parts) vs other f spent_view at' in let p = b.parts in omega arith);
        balance = λ h.
            let s = total-set (λ (u : QueueView). weigh h u.put) views id d x at in
            let s' = total-set (λ (u : QueueView). weigh h u.put) vs other f spent_view at' in
            let t = total-set (λ (u : QueueView). weigh h u.taken) views id d x at in
            let t' = total-set (λ (u : QueueView). weigh h u.taken) vs other f spent_view at' in
            let p = b.balance h in
            let a = weigh-append h d.put f.put in
            let c = weigh-append h d.taken f.taken in omega arith;
        listed = b.listed;
        idle = idle_set vs other spent_view (λ none. (refl, refl)) (idle_set views id x mine b.idle);
      }

  pub learns : (id : ℕ) (d : QueueView) → Learns (Balanced P) id d (Total d)
  learns id d items views b at all h = let a = alone views b.idle id d at (b.parts ∙ sym all) h in
      let p = b.balance h in let a0 = a.0 in let a1 = a.1 in omega arith

pub last_listed : (P : ℕ × ℕ → Type 0) (ps : List (ℕ × ℕ)) (p : ℕ × ℕ) → All P (ps ++ p ∷ []) → P p
last_listed P [] p all = All-head P p [] all
last_listed P (q ∷ ps) p all = last_listed P ps p (All-tail P q (ps ++ p ∷ []) all)
