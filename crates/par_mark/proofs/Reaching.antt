-- What is black in the end is what is reached.
use Rattle.std.proofs.Common.{◌≡◌, ℕ, zero, suc, ◌+◌, ◌<◌, ◌⊎◌, inl, inr, ⊎_elim, Bool, true, false, true≢false, List}
use Rattle.std.proofs.Common.{[], ◌∷◌, ◌++◌, length, Option, Some, None, sym, ap, ◌∙◌, subst, arith, All, Contains}
use Rattle.std.specs.Int.{bit_at}
use Rattle.std.proofs.lemmas.Nat.Bits.{bit_at-lt}
use Rattle.std.proofs.lemmas.List.Elements.{All-cons, All-nil, All-append, All-head, All-tail, All-contains}
use Rattle.std.proofs.lemmas.List.Elements.{All-contains_itself}
use mathlib.Core.Logic.{dite}
use native.Mathlib.Decide.{ℕ_discrete}
use Rattle.mark_words.specs.declared.view.MarkView.{MarkView}
use Rattle.mark_words.specs.Sums.{weigh, only, times}
use Rattle.mark_words.specs.Rule.{bit_of}
use Rattle.mark_words.proofs.Counts.{weigh-append, only-same, only-arena, only-slot}
use Rattle.mark_ahead.specs.Edges.{held, first_targets, targets, out, Leads}
use Rattle.par_mark.specs.Edges.{all_targets}
use Rattle.par_mark.specs.Callers.{HasSettled}
use Rattle.mark_ahead.specs.Blackening.{Reached, near, far}
use Rattle.par_mark.specs.Marking.{Sought, HasMarked}
use Rattle.par_mark.specs.Tries.{Serves}
use Rattle.par_mark.proofs.Accounting.{targets_listed}
use Rattle.mark_ahead.proofs.Members.{from_times, in_sum, times_in, in_times}

-- what counts as a place is that place
only_is : (q r : ℕ × ℕ) → 0 < only q r → r ≡ q
only_is q r lt = dite (ℕ_discrete r.0 q.0)
    (λ e. dite (ℕ_discrete r.1 q.1) (λ f. λ i. (e i, f i)) (λ n. let z = only-slot q r n in absurd (omega arith)))
    (λ n. let z = only-arena q r n in absurd (omega arith))

sum_has : (R : ℕ × ℕ → Type 0) (w : ℕ × ℕ → ℕ) (ps : List (ℕ × ℕ)) → All R ps → 0 < weigh w ps → (p : ℕ × ℕ) × R p
    × (0 < w p)
sum_has R w [] all lt = absurd (omega arith)
sum_has R w (p ∷ ps) all lt = dite (ℕ_discrete (w p) 0)
    (λ z. sum_has R w ps (All-tail R p ps all) (omega arith))
    (λ n. (p, All-head R p ps all, omega arith))

-- an edge counts among the targets, and what counts there is an edge
pub edge_counts : (field : ℕ → Option (ℕ × ℕ)) (q : ℕ × ℕ) (n i : ℕ) → i < n → field i ≡ Some q
    → 0 < weigh (only q) (first_targets field n)
edge_counts field q zero i lt e = absurd (omega arith)
edge_counts field q (suc n) i lt e = let a = weigh-append (only q) (first_targets field n) (held (field n)) in
    dite (ℕ_discrete i n)
    (λ same. let h : weigh (only q) (held (field n)) ≡ weigh (only q) (q ∷ []) =
    ap (λ (o : Option (ℕ × ℕ)). weigh (only q) (held o)) (ap field (sym same) ∙ e) in let o = only-same q in
    omega arith)
    (λ ne. let r = edge_counts field q n i (omega arith) e in omega arith)

held_is : (q : ℕ × ℕ) (o : Option (ℕ × ℕ)) → 0 < weigh (only q) (held o) → o ≡ Some q
held_is q None lt = absurd (omega arith)
held_is q (Some r) lt = ap Some (only_is q r (omega arith))

counts_edge : (field : ℕ → Option (ℕ × ℕ)) (q : ℕ × ℕ) (n : ℕ) → 0 < weigh (only q) (first_targets field n) → (i : ℕ)
    × (i < n) × (field i ≡ Some q)
counts_edge field q zero lt = absurd (omega arith)
counts_edge field q (suc n) lt = let a = weigh-append (only q) (first_targets field n) (held (field n)) in
    dite (ℕ_discrete (weigh (only q) (held (field n))) 0)
    (λ z. let r = counts_edge field q n (omega arith) in (r.0, (let l = r.1 in omega arith), r.2))
    (λ ne. (n, omega arith, held_is q (field n) (omega arith)))

module _ (edge : ℕ × ℕ → ℕ → Option (ℕ × ℕ)) (marking : ℕ × ℕ → Bool) (first : List ℕ) (from : List (ℕ × ℕ)) where
  leads_count : (p q : ℕ × ℕ) → Leads edge p q → 0 < out edge (only q) p
  leads_count p q l = edge_counts (edge p) q 8 l.0 l.1 l.2

  count_leads : (p q : ℕ × ℕ) → 0 < out edge (only q) p → Leads edge p q
  count_leads p q lt = counts_edge (edge p) q 8 lt

  module _ (has : ℕ × ℕ → Type 0) (here : All has from) (closed : (p q : ℕ × ℕ) → has p → Leads edge p q → has q) where
    pub reached_here : (q : ℕ × ℕ) → Reached edge marking first from q → has q
    reached_here q (near {p} c l m) = closed p q (All-contains has from p here c) l
    reached_here q (far {p} r w l m) = closed p q (reached_here p r) l

    sought_here : (q : ℕ × ℕ) → Sought edge marking first from q → has q
    sought_here q s = closed s.0 q (⊎_elim (λ c. All-contains has from s.0 here c) (λ r. reached_here s.0 r.0) s.1) s.2

    pub serves : (P : ℕ × ℕ → Type 0) → ((q : ℕ × ℕ) → P q → Sought edge marking first from q)
        → ((q : ℕ × ℕ) → Sought edge marking first from q → P q) → ((p : ℕ × ℕ) → has p → p.0 < length first)
        → Serves has edge marking first P
    serves P to of words = record {
      here = λ p x. sought_here p (to p x);
      word = λ p x. words p (sought_here p (to p x));
      closed = λ p q x m white l. of q (p, inr (reaches p (to p x) m, white), l);
    }
      where
        reaches : (p : ℕ × ℕ) → Sought edge marking first from p → marking p ≡ true → Reached edge marking first from p
        reaches p s m = ⊎_elim (λ c. near c s.2 m) (λ r. far r.0 r.1 s.2 m) s.1

  -- all that marking begins with is sought
  pub tries_sought : (P : ℕ × ℕ → Type 0) → ((q : ℕ × ℕ) → Sought edge marking first from q → P q)
      → (ps : List (ℕ × ℕ)) → All (Contains from) ps → All P (all_targets edge ps)
  tries_sought P of [] all = All-nil P
  tries_sought P of (p ∷ ps) all = All-append P (targets edge p) (all_targets edge ps)
      (targets_listed P (edge p) 8 (λ i q lt e. of q (p, inl (All-head (Contains from) p ps all), (i, lt, e))))
      (tries_sought P of ps (All-tail (Contains from) p ps all))

  module _ (P : ℕ × ℕ → Type 0) (to : (q : ℕ × ℕ) → P q → Sought edge marking first from q)
      (firsts outside : List (ℕ × ℕ)) (v : MarkView) (s : HasSettled edge marking P firsts outside v)
      (begun : (h : ℕ × ℕ → ℕ) → weigh h firsts ≡ weigh (out edge h) from) (same : v.first ≡ first) where
    abbrev IsBlack : ℕ × ℕ → Type 0
    IsBlack q = bit_of first q + times q v.won ≡ 1

    -- what was tried is black
    known_black : (q : ℕ × ℕ) → 0 < times q v.known → IsBlack q
    known_black q lt = let k = from_times (λ (p : ℕ × ℕ). bit_of v.first p + times p v.won ≡ 1) v.known q s.knows lt in
        let b : bit_of v.first q ≡ bit_of first q = ap (λ (l : List ℕ). bit_of l q) same in omega arith

    -- a target in a marking zone was tried
    target_black : (q : ℕ × ℕ) → marking q ≡ true → 0 < weigh (out edge (only q)) from + weigh (out edge (only q)) v.won
        → IsBlack q
    target_black q m lt = dite (ℕ_discrete (times q outside) 0)
        (λ z. let e = s.settled (only q) in let b = begun (only q) in known_black q (omega arith))
        (λ ne. absurd (true≢false (sym m ∙ from_times (λ (p : ℕ × ℕ). marking p ≡ false) outside q s.beyond
        (omega arith))))

    complete : (q : ℕ × ℕ) → Reached edge marking first from q → IsBlack q
    complete q (near {p} c l m) = let i = in_sum (out edge (only q)) from p c in let o = leads_count p q l in
        target_black q m (omega arith)
    complete q (far {p} r white l m) = let h = complete p r in
        let i = in_sum (out edge (only q)) v.won p (times_in v.won p (omega arith)) in let o = leads_count p q l in
        target_black q m (omega arith)

    sound : (q : ℕ × ℕ) → IsBlack q → (bit_of first q ≡ 1) ⊎ Reached edge marking first from q
    sound q b = dite (ℕ_discrete (bit_of first q) 1)
        (λ e. inl e)
        (λ ne. let l = bit_at-lt (Rattle.std.specs.List.slice_index first q.0) q.1 in
        let x = to q (from_times P v.won q s.listed (omega arith)) in
        let m = from_times (λ (p : ℕ × ℕ). marking p ≡ true) v.won q s.inside (omega arith) in
        inr (⊎_elim (λ c. near c x.2 m) (λ r. far r.0 r.1 x.2 m) x.1))

    still_black : (q : ℕ × ℕ) → bit_of first q ≡ 1 → IsBlack q
    still_black q e = dite (ℕ_discrete (times q v.won) 0)
        (λ z. omega arith)
        (λ ne. let f = from_times (λ (p : ℕ × ℕ). bit_of v.first p ≡ 0) v.won q s.fresh (omega arith) in
        let b : bit_of v.first q ≡ bit_of first q = ap (λ (l : List ℕ). bit_of l q) same in absurd (omega arith))

    source : (q : ℕ × ℕ) → 0 < weigh (out edge (only q)) from + weigh (out edge (only q)) v.won → (p : ℕ × ℕ)
        × (Contains from p ⊎ Contains v.won p) × Leads edge p q
    source q lt = dite (ℕ_discrete (weigh (out edge (only q)) from) 0)
        (λ z. let r = sum_has (Contains v.won) (out edge (only q)) v.won (All-contains_itself v.won) (omega arith) in
        (r.0, inr r.1, count_leads r.0 q r.2))
        (λ ne. let r = sum_has (Contains from) (out edge (only q)) from (All-contains_itself from) (omega arith) in
        (r.0, inl r.1, count_leads r.0 q r.2))

    -- no place outside the marking zones was tried, so each such target is outside, as often as it is a target
    outside_is_all : (q : ℕ × ℕ) → marking q ≡ false
        → times q outside ≡ weigh (out edge (only q)) from + weigh (out edge (only q)) v.won
    outside_is_all q m = let e = s.settled (only q) in let b = begun (only q) in dite (ℕ_discrete (times q v.known) 0)
        (λ z. omega arith)
        (λ ne. absurd (true≢false (sym (from_times (λ (r : ℕ × ℕ). marking r ≡ true) v.known q s.tried_inside
        (omega arith)) ∙ m)))

    is_outside : (q p : ℕ × ℕ) → marking q ≡ false → Contains from p ⊎ Contains v.won p → Leads edge p q
        → Contains outside q
    is_outside q p m side l =
        let o = leads_count p q l in
        let lt : 0 < weigh (out edge (only q)) from + weigh (out edge (only q)) v.won =
        ⊎_elim (λ c. let i = in_sum (out edge (only q)) from p c in omega arith)
        (λ c. let i = in_sum (out edge (only q)) v.won p c in omega arith) side in
        let t = outside_is_all q m in times_in outside q (omega arith)

    pub marked : HasMarked edge marking first from outside v
    marked = record {
      once = s.once;
      fresh = subst (λ (l : List ℕ). All (λ (q : ℕ × ℕ). bit_of l q ≡ 0) v.won) same s.fresh;
      inside = s.inside;
      black = λ q. (sound q, ⊎_elim (still_black q) (complete q));
      scanned = λ h. let e = s.settled h in let b = begun h in omega arith;
      outside_is = λ q. (
        (λ c. (
          All-contains (λ (p : ℕ × ℕ). marking p ≡ false) outside q s.beyond c,
          source q (let t = in_times outside q c in let e = s.settled (only q) in let b = begun (only q) in
              omega arith),
        )),
        (λ x. is_outside q x.1.0 x.0 x.1.1 x.1.2),
      );
      outside_times = outside_is_all;
    }

pub front_all : (P : ℕ × ℕ → Type 0) (xs ys : List (ℕ × ℕ)) → All P (xs ++ ys) → All P xs
front_all P [] ys all = All-nil P
front_all P (x ∷ xs) ys all = All-cons P x xs (All-head P x (xs ++ ys) all)
    (front_all P xs ys (All-tail P x (xs ++ ys) all))

pub back_all : (P : ℕ × ℕ → Type 0) (xs ys : List (ℕ × ℕ)) → All P (xs ++ ys) → All P ys
back_all P [] ys all = all
back_all P (x ∷ xs) ys all = back_all P xs ys (All-tail P x (xs ++ ys) all)
