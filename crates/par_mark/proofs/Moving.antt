-- What tries add up to.
use Rattle.std.proofs.Common.{◌≡◌, ℕ, ◌+◌, ◌≤◌, Bool, List, [], ◌∷◌, ◌++◌, length, sym, refl, ap, ◌∙◌, subst}
use Rattle.std.proofs.Common.{arith, append-nil, length-append}
use Rattle.mark_words.specs.declared.view.MarkView.{MarkView}
use Rattle.mark_words.specs.Sums.{weigh}
use Rattle.mark_words.proofs.Counts.{weigh-append}
use Rattle.par_mark.specs.declared.donations.QueueView.{QueueView}
use Rattle.par_mark.specs.Scans.{HasScanned}
use Rattle.par_mark.specs.States.{CallerState}
use Rattle.par_mark.specs.Tries.{AreMade, IsTaken, own, queued, HasMoved, TakenWasPut}
use Rattle.par_mark.specs.Tries.{done}
use Rattle.par_mark.proofs.Growing.{grown_none, grown_more, logs_none, moves_none}
use Rattle.par_mark.proofs.Scanning.{weigh-one}

pub moved_none : (s : CallerState) → HasMoved 0 [] s s
moved_none s = record {
  grown = grown_none s.outside s.seat s.pass;
  grown_won = refl;
  made = omega arith;
  few = omega arith;
  first_is = refl;
  parts_is = refl;
  queue_parts = refl;
  whole_taken = λ _ t. t;
}

pub moved_more : (n m k : ℕ) (xs ys : List (ℕ × ℕ)) (a b c : CallerState) → n + m ≡ k → HasMoved n xs a b
    → HasMoved m ys b c → HasMoved k (xs ++ ys) a c
moved_more n m k xs ys a b c e x y = record {
  grown = grown_more a.outside b.outside c.outside a.seat b.seat c.seat a.pass b.pass c.pass x.grown y.grown;
  grown_won = (λ i. x.grown_won i ++ y.grown_won i);
  made = (let p = x.made in let q = y.made in let t = weigh-append (λ _. 1) x.grown.tried y.grown.tried in
      let o = weigh-append (λ _. 1) x.grown.beyond y.grown.beyond in omega arith);
  few = (let p = x.few in let q = y.few in let w = weigh-append (λ _. 1) x.grown.won y.grown.won in
      let o = weigh-append (λ _. 1) x.grown.beyond y.grown.beyond in omega arith);
  first_is = y.first_is ∙ x.first_is;
  parts_is = y.parts_is ∙ x.parts_is;
  queue_parts = y.queue_parts ∙ x.queue_parts;
  whole_taken = λ all t. y.whole_taken (x.queue_parts ∙ all) (x.whole_taken all t);
}

-- the state in which a try was taken
abbrev pub with_taken : CallerState → List (ℕ × ℕ) → QueueView → CallerState
with_taken s tries d = record s { tries = tries; pass = d }

pub taken_moved : (P : ℕ × ℕ → Type 0) (s : CallerState) (tries : List (ℕ × ℕ)) (d : QueueView) (p : ℕ × ℕ)
    → IsTaken P p s.tries s.pass tries d → HasMoved 0 [] s (with_taken s tries d)
taken_moved P s tries d p (own e f) = subst (λ (x : QueueView). HasMoved 0 [] s (with_taken s tries x)) (sym f) record {
  grown = grown_none s.outside s.seat s.pass;
  grown_won = refl;
  made = omega arith;
  few = omega arith;
  first_is = refl;
  parts_is = refl;
  queue_parts = refl;
  whole_taken = λ _ t. t;
}
taken_moved P s tries d p (queued e f t) = record {
  grown = record {
    won = [];
    tried = [];
    taken = p ∷ [];
    beyond = [];
    won_is = sym (append-nil s.seat.won);
    tried_is = sym (append-nil s.seat.known);
    taken_is = ap (λ (x : QueueView). x.taken) t.0;
    beyond_is = sym (append-nil s.outside);
    put_is = ap (λ (x : QueueView). x.put) t.0;
    logs_are = logs_none s.seat.logs;
    moves_are = ap (λ (x : QueueView). x.moves) t.0;
    won_tried = λ h. omega arith;
  };
  grown_won = refl;
  made = omega arith;
  few = omega arith;
  first_is = refl;
  parts_is = refl;
  queue_parts = ap (λ (x : QueueView). x.parts) t.0;
  whole_taken = λ all _. t.2 all;
}

-- tries were made in one step
pub made_moved : (marking : ℕ × ℕ → Bool) (s s' : CallerState) (made : ℕ) (p : ℕ × ℕ)
    → (m : AreMade marking made p s s') → HasMoved made m.won s s'
made_moved marking s s' made p m = record {
  grown = record {
    won = m.won;
    tried = m.tried;
    taken = [];
    beyond = [];
    won_is = ap (λ (x : MarkView). x.won) m.wins.view_is;
    tried_is = ap (λ (x : MarkView). x.known) m.wins.view_is;
    taken_is = ap (λ (x : QueueView). x.taken) m.pass_is ∙ sym (append-nil s.pass.taken);
    beyond_is = m.outside_is ∙ sym (append-nil s.outside);
    put_is = ap (λ (x : QueueView). x.put) m.pass_is;
    logs_are = ap (λ (x : MarkView). x.logs) m.wins.view_is;
    moves_are = ap (λ (x : QueueView). x.moves) m.pass_is ∙ moves_none s.pass.moves;
    won_tried = m.won_tried;
  };
  grown_won = refl;
  made = (let l = weigh-one m.tried in let c = m.count in omega arith);
  few = (let l = weigh-one m.tried in let c = m.count in let w = m.won_tried (λ _. 1) in omega arith);
  first_is = ap (λ (x : MarkView). x.first) m.wins.view_is;
  parts_is = ap (λ (x : MarkView). x.parts) m.wins.view_is;
  queue_parts = ap (λ (x : QueueView). x.parts) m.pass_is;
  whole_taken = λ _ t. subst TakenWasPut (sym m.pass_is) t;
}

-- one was found outside the marking zones
pub beyond_moved : (s : CallerState) (p : ℕ × ℕ) → HasMoved 1 [] s (record s { outside = s.outside ++ p ∷ [] })
beyond_moved s p = record {
  grown = record {
    won = [];
    tried = [];
    taken = [];
    beyond = p ∷ [];
    won_is = sym (append-nil s.seat.won);
    tried_is = sym (append-nil s.seat.known);
    taken_is = sym (append-nil s.pass.taken);
    beyond_is = refl;
    put_is = refl;
    logs_are = logs_none s.seat.logs;
    moves_are = moves_none s.pass.moves;
    won_tried = λ h. omega arith;
  };
  grown_won = refl;
  made = omega arith;
  few = omega arith;
  first_is = refl;
  parts_is = refl;
  queue_parts = refl;
  whole_taken = λ _ t. t;
}

-- the cells that were won were scanned
pub scanned_moved : (marking : ℕ × ℕ → Bool) (targets : List (ℕ × ℕ)) (s s' : CallerState)
    → HasScanned marking targets (s.tries, s.seat) (s'.tries, s'.seat) → s'.outside ≡ s.outside → s'.pass ≡ s.pass
    → HasMoved 0 [] s s'
scanned_moved marking targets s s' x outside pass = record {
  grown = record {
    won = [];
    tried = x.seen;
    taken = [];
    beyond = [];
    won_is = ap (λ (v : MarkView). v.won) x.looked.view_is;
    tried_is = ap (λ (v : MarkView). v.known) x.looked.view_is;
    taken_is = ap (λ (d : QueueView). d.taken) pass ∙ sym (append-nil s.pass.taken);
    beyond_is = outside ∙ sym (append-nil s.outside);
    put_is = ap (λ (d : QueueView). d.put) pass;
    logs_are = ap (λ (v : MarkView). v.logs) x.looked.view_is;
    moves_are = ap (λ (d : QueueView). d.moves) pass ∙ moves_none s.pass.moves;
    won_tried = λ h. omega arith;
  };
  grown_won = refl;
  made = omega arith;
  few = omega arith;
  first_is = ap (λ (v : MarkView). v.first) x.looked.view_is;
  parts_is = ap (λ (v : MarkView). v.parts) x.looked.view_is;
  queue_parts = ap (λ (d : QueueView). d.parts) pass;
  whole_taken = λ _ t. subst TakenWasPut (sym pass) t;
}

-- no more was won, and no more found outside, than tries were made
pub within_made : (n : ℕ) (won : List (ℕ × ℕ)) (s s' : CallerState) → HasMoved n won s s'
    → (length won ≤ n) × (length s'.outside ≤ length s.outside + n)
within_made n won s s' m =
    let x = weigh-one won in
    let y : weigh (λ _. 1) m.grown.won ≡ weigh (λ _. 1) won = ap (weigh (λ _. 1)) m.grown_won in
    let f = m.few in
    let o = ap length m.grown.beyond_is in
    let b = length-append s.outside m.grown.beyond in
    let z = weigh-one m.grown.beyond in ((omega arith), (omega arith))

-- at least as much was done as tries were made
pub done_made : (n : ℕ) (won : List (ℕ × ℕ)) (s s' : CallerState) → HasMoved n won s s'
    → done s.seat s.outside + n ≤ done s'.seat s'.outside
done_made n won s s' m =
    let k : weigh (λ _. 1) s'.seat.known ≡ weigh (λ _. 1) s.seat.known + weigh (λ _. 1) m.grown.tried =
    ap (weigh (λ _. 1)) m.grown.tried_is ∙ weigh-append (λ _. 1) s.seat.known m.grown.tried in
    let o : weigh (λ _. 1) s'.outside ≡ weigh (λ _. 1) s.outside + weigh (λ _. 1) m.grown.beyond =
    ap (weigh (λ _. 1)) m.grown.beyond_is ∙ weigh-append (λ _. 1) s.outside m.grown.beyond in
    let c = m.made in omega arith
