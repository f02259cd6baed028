-- What turns do to a caller's account.
use Rattle.std.proofs.Common.{◌≡◌, ℕ, zero, suc, ◌+◌, ◌<◌, ◌≤◌, Bool, true, false, List, [], ◌∷◌, ◌++◌, length, Option}
use Rattle.std.proofs.Common.{Some, None, sym, refl, ap, ◌∙◌, subst, arith, All, append_assoc, append-nil}
use Rattle.std.proofs.lemmas.List.Elements.{All-cons, All-nil, All-append, All-head, All-tail, All-weaker}
use mathlib.Core.Logic.{dite}
use native.Mathlib.Decide.{ℕ_discrete}
use Rattle.mark_words.specs.declared.view.MarkView.{MarkView}
use Rattle.mark_words.specs.Sums.{weigh, only, times}
use Rattle.mark_words.specs.Rule.{bit_of}
use Rattle.mark_words.proofs.Counts.{weigh-append, weigh-snoc}
use Rattle.mark_words.proofs.Places.{all_front}
use Rattle.par_mark.specs.declared.donations.QueueView.{QueueView}
use Rattle.par_mark.specs.Donations.{HasTaken}
use Rattle.mark_ahead.specs.Edges.{held, first_targets, targets, out}
use Rattle.par_mark.specs.Edges.{all_targets}
use Rattle.par_mark.specs.Accounts.{Accounts, HasRoom}
use Rattle.par_mark.specs.Scans.{HasScanned}
use Rattle.par_mark.specs.States.{AccountsAt, CallerState}
use Rattle.par_mark.specs.Tries.{AreMade, IsTaken, own, queued, IsDonated, kept, given, IsTried, beyond, within, Serves}
use Rattle.par_mark.specs.Tries.{HasTriedSome, HasTurned}
use Rattle.par_mark.proofs.Cells.{weigh-all_targets}
use Rattle.mark_ahead.proofs.Members.{from_times}
use Rattle.par_mark.proofs.Listed.{listed_by_weight}
use Rattle.par_mark.proofs.Moving.{moved_none, moved_more, taken_moved, made_moved, beyond_moved}
use Rattle.par_mark.proofs.Moving.{scanned_moved, with_taken}
use Rattle.par_mark.proofs.Scanning.{weigh-one}

-- all targets are listed
pub targets_listed : (P : ℕ × ℕ → Type 0) (field : ℕ → Option (ℕ × ℕ)) (n : ℕ)
    → ((i : ℕ) (q : ℕ × ℕ) → i < n → field i ≡ Some q → P q) → All P (first_targets field n)
targets_listed P field zero all = All-nil P
targets_listed P field (suc n) all = All-append P (first_targets field n) (held (field n))
    (targets_listed P field n (λ i q lt. all i q (omega arith))) (one_held (field n) refl)
  where
    one_held : (o : Option (ℕ × ℕ)) → field n ≡ o → All P (held o)
    one_held None e = All-nil P
    one_held (Some q) e = All-cons P q [] (all n q (omega arith) e) (All-nil P)

module _ (edge : ℕ × ℕ → ℕ → Option (ℕ × ℕ)) (marking : ℕ × ℕ → Bool) (P : ℕ × ℕ → Type 0) where
  abbrev Books : List (ℕ × ℕ) → List (ℕ × ℕ) → List (ℕ × ℕ) → List (ℕ × ℕ) → List (ℕ × ℕ) → MarkView → QueueView
      → Type 0
  Books = Accounts edge marking P

  took_own : (firsts u tries outside : List (ℕ × ℕ)) (v : MarkView) (d : QueueView) (p : ℕ × ℕ)
      → Books firsts [] u (tries ++ p ∷ []) outside v d → Books firsts (p ∷ []) u tries outside v d
  took_own firsts u tries outside v d p a = record {
    balance = λ h. let b = a.balance h in let s = weigh-snoc h tries p in omega arith;
    taken = λ h. let b = a.taken h in omega arith;
    unscanned_won = a.unscanned_won;
    won_known = a.won_known;
    once = a.once;
    fresh = a.fresh;
    inside = a.inside;
    tried_inside = a.tried_inside;
    beyond = a.beyond;
    listed = All-cons P p [] (all_front P tries p a.tries_listed).1 (All-nil P);
    tries_listed = (all_front P tries p a.tries_listed).0;
    won_listed = a.won_listed;
  }

  took_queued : (firsts u tries outside : List (ℕ × ℕ)) (v : MarkView) (d d' : QueueView) (p : ℕ × ℕ)
      → HasTaken P d p d' → Books firsts [] u tries outside v d → Books firsts (p ∷ []) u tries outside v d'
  took_queued firsts u tries outside v d d' p t a = subst (Books firsts (p ∷ []) u tries outside v) (sym t.0) record {
    balance = λ h. let b = a.balance h in let s = weigh-snoc h d.taken p in omega arith;
    taken = λ h. let b = a.taken h in let s = weigh-snoc h d.taken p in omega arith;
    unscanned_won = a.unscanned_won;
    won_known = a.won_known;
    once = a.once;
    fresh = a.fresh;
    inside = a.inside;
    tried_inside = a.tried_inside;
    beyond = a.beyond;
    listed = All-cons P p [] t.1 (All-nil P);
    tries_listed = a.tries_listed;
    won_listed = a.won_listed;
  }

  pub took : (firsts u tries tries' outside : List (ℕ × ℕ)) (v : MarkView) (d d' : QueueView) (p : ℕ × ℕ)
      → IsTaken P p tries d tries' d' → Books firsts [] u tries outside v d
      → Books firsts (p ∷ []) u tries' outside v d'
  took firsts u tries tries' outside v d d' p (own e f) a =
      subst (Books firsts (p ∷ []) u tries' outside v) (sym f)
      (took_own firsts u tries' outside v d p (subst (λ (l : List (ℕ × ℕ)). Books firsts [] u l outside v d) e a))
  took firsts u tries tries' outside v d d' p (queued e f t) a =
      took_queued firsts u tries' outside v d d' p t (subst (λ (l : List (ℕ × ℕ)). Books firsts [] u l outside v d)
      (e ∙ sym f) a)

  -- what was taken is listed, and so is what is left
  pub listed_taken : (tries tries' : List (ℕ × ℕ)) (d d' : QueueView) (p : ℕ × ℕ) → IsTaken P p tries d tries' d'
      → All P tries → P p × All P tries'
  listed_taken tries tries' d d' p (own e f) all = let b = all_front P tries' p (subst (All P) e all) in (b.1, b.0)
  listed_taken tries tries' d d' p (queued e f t) all = (t.1, subst (All P) (sym f) (All-nil P))

  pub gave : (firsts tries tries' outside : List (ℕ × ℕ)) (v : MarkView) (d d' : QueueView)
      → IsDonated tries d tries' d' → Books firsts [] [] tries outside v d → Books firsts [] [] tries' outside v d'
  gave firsts tries tries' outside v d d' (kept e f) a =
      subst (λ (x : List (ℕ × ℕ) × QueueView). Books firsts [] [] x.0 outside v x.1) (λ i. (sym e i, sym f i)) a
  gave firsts tries tries' outside v d d' (given p e f) a = subst (Books firsts [] [] tries' outside v) (sym f)
      (let b = subst (λ (l : List (ℕ × ℕ)). Books firsts [] [] l outside v d) e a in record {
        balance = λ h. let c = b.balance h in let t = weigh-snoc h d.put p in omega arith;
        taken = b.taken;
        unscanned_won = b.unscanned_won;
        won_known = b.won_known;
        once = b.once;
        fresh = b.fresh;
        inside = b.inside;
        tried_inside = b.tried_inside;
        beyond = b.beyond;
        listed = b.listed;
        tries_listed = All-tail P p tries' b.tries_listed;
        won_listed = b.won_listed;
      })

  -- what tries in one step name is listed
  tried_listed : (made : ℕ) (p : ℕ × ℕ) (s s' : CallerState) → (m : AreMade marking made p s s') → P p
      → All P s.tries → All P m.tried × All P s'.tries
  tried_listed made p s s' m here all = let both : All P (p ∷ s.tries) = All-cons P p s.tries here all in (
    listed_by_weight P m.tried (p ∷ s.tries) (λ h. let t = m.tries_are h in omega arith) both,
    listed_by_weight P s'.tries (p ∷ s.tries) (λ h. let t = m.tries_are h in omega arith) both,
  )

  pub listed_tried : (made : ℕ) (p : ℕ × ℕ) (s s' : CallerState) → IsTried marking made p s s' → P p
      → All P s.tries → All P s'.tries
  listed_tried made p s s' (beyond m o e) here all = subst (λ (x : CallerState). All P x.tries) (sym e) all
  listed_tried made p s s' (within m) here all = (tried_listed made p s s' m here all).1

  -- places that were won once more, where they had not been won
  once_more : (v : MarkView) (won : List (ℕ × ℕ)) → All (λ p. times p v.won ≡ 0) won
      → ((q : ℕ × ℕ) → times q won ≤ 1) → ((q : ℕ × ℕ) → times q v.won ≤ 1) → (q : ℕ × ℕ)
      → times q (v.won ++ won) ≤ 1
  once_more v won unwon once' once q =
      let a = weigh-append (only q) v.won won in
      let o = once q in
      let p = once' q in
      dite (ℕ_discrete (times q won) 0)
      (λ none. omega arith)
      (λ some'. let z = from_times (λ (p : ℕ × ℕ). times p v.won ≡ 0) won q unwon (omega arith) in omega arith)

  -- tries that were made in one step keep the books
  made_books : (firsts u : List (ℕ × ℕ)) (made : ℕ) (p : ℕ × ℕ) (s s' : CallerState)
      → (m : AreMade marking made p s s') → AccountsAt edge marking P firsts (p ∷ []) u s
      → AccountsAt edge marking P firsts [] (u ++ m.won) s'
  made_books firsts u made p s s' m a =
      let v : MarkView = s.seat in
      let Fresh : ℕ × ℕ → Type 0 = λ q. bit_of v.first q ≡ 0 in
      let Marking : ℕ × ℕ → Type 0 = λ q. marking q ≡ true in
      let l = tried_listed made p s s' m (All-head P p [] a.listed) a.tries_listed in
      subst (λ (x : List (ℕ × ℕ) × (MarkView × QueueView)). Books firsts [] (u ++ m.won) s'.tries x.0 x.1.0 x.1.1)
      (λ i. (sym m.outside_is i, (sym m.wins.view_is i, sym m.pass_is i))) record {
        balance = λ h. let b = a.balance h in let t = m.tries_are h in let k = weigh-append h v.known m.tried in
            let w = weigh-append (out edge h) v.won m.won in let n = weigh-append (out edge h) u m.won in omega arith;
        taken = λ h. let b = a.taken h in let k = weigh-append h v.known m.tried in let f = m.first_tried h in
            omega arith;
        unscanned_won = λ h. let b = a.unscanned_won h in let w = weigh-append h v.won m.won in
            let n = weigh-append h u m.won in omega arith;
        won_known = λ h. let b = a.won_known h in let w = weigh-append h v.won m.won in
            let k = weigh-append h v.known m.tried in let t = m.won_tried h in omega arith;
        once = once_more v m.won m.wins.unwon m.once a.once;
        fresh = All-append Fresh v.won m.won a.fresh m.wins.white;
        inside = All-append Marking v.won m.won a.inside (listed_by_weight Marking m.won m.tried m.won_tried m.inside);
        tried_inside = All-append Marking v.known m.tried a.tried_inside m.inside;
        beyond = a.beyond;
        listed = All-nil P;
        tries_listed = l.1;
        won_listed = All-append P v.won m.won a.won_listed (listed_by_weight P m.won m.tried m.won_tried l.0);
      }

  -- so does one that lies outside the marking zones
  beyond_books : (firsts u : List (ℕ × ℕ)) (p : ℕ × ℕ) (s : CallerState) → marking p ≡ false
      → AccountsAt edge marking P firsts (p ∷ []) u s
      → AccountsAt edge marking P firsts [] u (record s { outside = s.outside ++ p ∷ [] })
  beyond_books firsts u p s m a = let Beyond : ℕ × ℕ → Type 0 = λ q. marking q ≡ false in record {
    balance = λ h. let b = a.balance h in let t = weigh-snoc h s.outside p in omega arith;
    taken = λ h. let b = a.taken h in let t = weigh-snoc h s.outside p in omega arith;
    unscanned_won = a.unscanned_won;
    won_known = a.won_known;
    once = a.once;
    fresh = a.fresh;
    inside = a.inside;
    tried_inside = a.tried_inside;
    beyond = All-append Beyond s.outside (p ∷ []) a.beyond (All-cons Beyond p [] m (All-nil Beyond));
    listed = All-nil P;
    tries_listed = a.tries_listed;
    won_listed = a.won_listed;
  }

  -- a try was taken and made
  pub tried_one : (s s' : CallerState) (tries : List (ℕ × ℕ)) (d : QueueView) (made : ℕ) (p : ℕ × ℕ)
      → IsTaken P p s.tries s.pass tries d → IsTried marking made p (with_taken s tries d) s'
      → (won : List (ℕ × ℕ)) × HasTriedSome edge marking P made won s s'
  tried_one s s' tries d made p t (beyond m o e) = (
    [],
    subst (λ (x : ℕ × CallerState). HasTriedSome edge marking P x.0 [] s x.1) (λ i. (sym o i, sym e i)) record {
      moved = moved_more 0 1 1 [] [] s (with_taken s tries d) _ (omega arith) (taken_moved P s tries d p t)
          (beyond_moved (with_taken s tries d) p);
      won_is = sym (append-nil s.won);
      accounts = λ firsts u a. subst (λ (l : List (ℕ × ℕ)). AccountsAt edge marking P firsts [] l
          (record s { tries = tries; pass = d; outside = s.outside ++ p ∷ [] })) (sym (append-nil u))
          (beyond_books firsts u p (with_taken s tries d) m
          (took firsts u s.tries tries s.outside s.seat s.pass d p t a));
      tries_listed = λ all. (listed_taken s.tries tries s.pass d p t all).1;
    },
  )
  tried_one s s' tries d made p t (within m) = (
    m.won,
    record {
      moved = moved_more 0 made made [] m.won s (with_taken s tries d) s' (omega arith) (taken_moved P s tries d p t)
          (made_moved marking (with_taken s tries d) s' made p m);
      won_is = m.won_is;
      accounts = λ firsts u a. made_books firsts u made p (with_taken s tries d) s' m
          (took firsts u s.tries tries s.outside s.seat s.pass d p t a);
      tries_listed = λ all. let l = listed_taken s.tries tries s.pass d p t all in
          (tried_listed made p (with_taken s tries d) s' m l.0 l.1).1;
    },
  )

  pub tried_none : (s : CallerState) → HasTriedSome edge marking P 0 [] s s
  tried_none s = record {
    moved = moved_none s;
    won_is = sym (append-nil s.won);
    accounts = λ firsts u a. subst (λ (l : List (ℕ × ℕ)). AccountsAt edge marking P firsts [] l s)
        (sym (append-nil u)) a;
    tries_listed = λ all. all;
  }

  pub tried_more : (n m : ℕ) (xs ys : List (ℕ × ℕ)) (a b c : CallerState) → HasTriedSome edge marking P n xs a b
      → HasTriedSome edge marking P m ys b c → HasTriedSome edge marking P (n + m) (xs ++ ys) a c
  tried_more n m xs ys a b c x y = record {
    moved = moved_more n m (n + m) xs ys a b c refl x.moved y.moved;
    won_is = y.won_is ∙ ap (λ (l : List (ℕ × ℕ)). l ++ ys) x.won_is ∙ append_assoc a.won xs ys;
    accounts = λ firsts u k. subst (λ (l : List (ℕ × ℕ)). AccountsAt edge marking P firsts [] l c)
        (append_assoc u xs ys) (y.accounts firsts (u ++ xs) (x.accounts firsts u k));
    tries_listed = λ all. y.tries_listed (x.tries_listed all);
  }

  pub turned_none : (s : CallerState) → s.won ≡ [] → HasTurned edge marking P 0 s s
  turned_none s none = record { won = []; moved = moved_none s; none_left = none; accounts = λ firsts a. a }

  pub turned_more : (n m k : ℕ) (a b c : CallerState) → n + m ≡ k → HasTurned edge marking P n a b
      → HasTurned edge marking P m b c → HasTurned edge marking P k a c
  turned_more n m k a b c e x y = record {
    won = x.won ++ y.won;
    moved = moved_more n m k x.won y.won a b c e x.moved y.moved;
    none_left = y.none_left;
    accounts = λ firsts l. y.accounts firsts (x.accounts firsts l);
  }

  -- there is room for the targets of the cells that were won and not scanned yet
  pub room_for : (firsts u tries outside : List (ℕ × ℕ)) (v : MarkView) (d : QueueView) (room : ℕ)
      → Books firsts [] u tries outside v d → HasRoom edge marking P (weigh (λ _. 1) firsts) room
      → length tries + length (all_targets edge u) ≤ room
  room_for firsts u tries outside v d room a has =
      let b = a.balance (λ _. 1) in
      let t = a.taken (λ _. 1) in
      let r = has v.won a.once a.won_listed in
      let l = weigh-one tries in
      let w = weigh-all_targets edge (λ _. 1) u in
      let m = weigh-one (all_targets edge u) in omega arith

  -- scanning them keeps the books
  module _ (has : ℕ × ℕ → Type 0) (first : List ℕ) (serves : Serves has edge marking first P) where
    leads_listed : (u : List (ℕ × ℕ)) → All P u → All (λ q. marking q ≡ true) u → All (λ q. bit_of first q ≡ 0) u
        → All P (all_targets edge u)
    leads_listed [] listed inside white = All-nil P
    leads_listed (p ∷ u) listed inside white = All-append P (targets edge p) (all_targets edge u)
        (targets_listed P (edge p) 8 (λ i q lt is. serves.closed p q (All-head P p u listed)
        (All-head (λ (q : ℕ × ℕ). marking q ≡ true) p u inside)
        (All-head (λ (q : ℕ × ℕ). bit_of first q ≡ 0) p u white) (i, lt, is)))
        (leads_listed u (All-tail P p u listed) (All-tail (λ (q : ℕ × ℕ). marking q ≡ true) p u inside)
        (All-tail (λ (q : ℕ × ℕ). bit_of first q ≡ 0) p u white))

    -- the cells that were won are there, and their targets are listed
    pub won_here : (firsts u tries outside : List (ℕ × ℕ)) (v : MarkView) (d : QueueView) → v.first ≡ first
        → Books firsts [] u tries outside v d → All has u × All P (all_targets edge u)
    won_here firsts u tries outside v d same a =
        let Marking : ℕ × ℕ → Type 0 = λ q. marking q ≡ true in
        let White : ℕ × ℕ → Type 0 = λ q. bit_of first q ≡ 0 in
        let listed : All P u = listed_by_weight P u v.won a.unscanned_won a.won_listed in (
          All-weaker P has serves.here u listed,
          leads_listed u listed (listed_by_weight Marking u v.won a.unscanned_won a.inside)
              (listed_by_weight White u v.won a.unscanned_won
              (subst (λ (l : List ℕ). All (λ (q : ℕ × ℕ). bit_of l q ≡ 0) v.won) same a.fresh)),
        )

    -- scanned cells leave nothing that is not accounted for
    scanned : (firsts u tries outside tries' : List (ℕ × ℕ)) (v w : MarkView) (d : QueueView) → v.first ≡ first
        → Books firsts [] u tries outside v d → HasScanned marking (all_targets edge u) (tries, v) (tries', w)
        → Books firsts [] [] tries' outside w d
    scanned firsts u tries outside tries' v w d same a s =
        let Marking : ℕ × ℕ → Type 0 = λ q. marking q ≡ true in
        let won_is : w.won ≡ v.won = ap (λ (x : MarkView). x.won) s.looked.view_is ∙ append-nil v.won in
        let known_is : w.known ≡ v.known ++ s.seen = ap (λ (x : MarkView). x.known) s.looked.view_is in
        let first_is : w.first ≡ v.first = ap (λ (x : MarkView). x.first) s.looked.view_is in
        let known : (h : ℕ × ℕ → ℕ) → weigh h w.known ≡ weigh h v.known + weigh h s.seen = λ h.
        ap (weigh h) known_is ∙ weigh-append h v.known s.seen in record {
          balance = λ h.
              let b = a.balance h in
              let t = ap (weigh h) s.tries_are ∙ weigh-append h tries s.rest in
              let p = s.parts_are h in
              let k = known h in
              let o = ap (weigh (out edge h)) won_is in
              let x = weigh-all_targets edge h u in omega arith;
          taken = λ h. let t = a.taken h in let k = known h in omega arith;
          unscanned_won = λ h. omega arith;
          won_known = λ h. let o = ap (weigh h) won_is in let t = a.won_known h in let k = known h in omega arith;
          once = λ p. let o = ap (times p) won_is in let t = a.once p in omega arith;
          fresh = subst (λ (x : List ℕ × List (ℕ × ℕ)). All (λ (q : ℕ × ℕ). bit_of x.0 q ≡ 0) x.1)
              (λ i. (sym first_is i, sym won_is i)) a.fresh;
          inside = subst (All Marking) (sym won_is) a.inside;
          tried_inside = subst (All Marking) (sym known_is) (All-append Marking v.known s.seen a.tried_inside
              s.inside);
          beyond = a.beyond;
          listed = All-nil P;
          tries_listed = subst (All P) (sym s.tries_are) (All-append P tries s.rest a.tries_listed
              (listed_by_weight P s.rest (all_targets edge u) (λ h. let p = s.parts_are h in omega arith)
              (won_here firsts u tries outside v d same a).1));
          won_listed = subst (All P) (sym won_is) a.won_listed;
        }

    -- a turn: tries were made, and then the cells that were won were scanned
    pub turned : (n : ℕ) (won : List (ℕ × ℕ)) (s m s' : CallerState) → s.seat.first ≡ first
        → HasTriedSome edge marking P n won s m
        → HasScanned marking (all_targets edge won) (m.tries, m.seat) (s'.tries, s'.seat) → s'.won ≡ []
        → s'.outside ≡ m.outside → s'.pass ≡ m.pass → HasTurned edge marking P n s s'
    turned n won s m s' same t x none outside pass = record {
      won = won ++ [];
      moved = moved_more n 0 n won [] s m s' (omega arith) t.moved
          (scanned_moved marking (all_targets edge won) m s' x outside pass);
      none_left = none;
      accounts = λ firsts a. subst (λ (y : List (ℕ × ℕ) × QueueView). Books firsts [] [] s'.tries y.0 s'.seat y.1)
          (λ i. (sym outside i, sym pass i)) (scanned firsts won m.tries m.outside s'.tries m.seat s'.seat m.pass
          (t.moved.first_is ∙ same) (t.accounts firsts [] a) x);
    }
