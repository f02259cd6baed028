-- Targets that became tries, or that looks found black.
use Rattle.std.proofs.Common.{◌≡◌, ℕ, zero, suc, ◌+◌, ◌<◌, ◌≤◌, Bool, true, false, not, List, [], ◌∷◌, ◌++◌, length}
use Rattle.std.proofs.Common.{get_or, All}
use Rattle.std.proofs.Common.{Option, sym, refl, ap, subst, ◌∙◌, arith, append-nil, append_assoc, length-append}
use Rattle.std.proofs.lemmas.List.Elements.{All-cons, All-nil, All-append}
use Rattle.mark_words.specs.declared.view.MarkView.{MarkView}
use Rattle.mark_words.specs.Steps.{HasTried}
use Rattle.mark_words.specs.Views.{with_tried}
use Rattle.mark_words.proofs.Counts.{weigh-append}
use Rattle.mark_ahead.specs.Edges.{first_targets, held, targets}
use Rattle.par_mark.specs.Edges.{all_targets}
use Rattle.par_mark.specs.Scans.{HasScanned, Tries}
use Rattle.par_mark.proofs.Growing.{logs_none, logs_more}
use Rattle.par_mark.proofs.Listed.{listed_by_weight}
use Rattle.par_mark.proofs.Scanning.{weigh-one}

-- nothing was looked at
looked_none : (v : MarkView) → HasTried v [] [] v
looked_none v = record {
  view_is = λ i. record v {
    won = sym (append-nil v.won) i;
    known = sym (append-nil v.known) i;
    logs = logs_none v.logs i;
  };
  unwon = All-nil _;
  white = All-nil _;
}

-- looks one after the other
looked_more : (u v w : MarkView) (seen more : List (ℕ × ℕ)) → HasTried u seen [] v → HasTried v more [] w
    → HasTried u (seen ++ more) [] w
looked_more u v w seen more x y = record {
  view_is = y.view_is ∙ ap (λ (a : MarkView). with_tried a more []) x.view_is
      ∙ (λ i. record u {
        won = append-nil (u.won ++ []) i;
        known = append_assoc u.known seen more i;
        logs = logs_more u.logs [] seen [] more i;
      });
  unwon = All-nil _;
  white = All-nil _;
}

module _ (marking : ℕ × ℕ → Bool) where
  pub scanned_none : (s : Tries) → HasScanned marking [] s s
  scanned_none s = record {
    rest = [];
    seen = [];
    parts_are = λ h. omega arith;
    tries_are = sym (append-nil s.0);
    looked = looked_none s.1;
    inside = All-nil _;
  }

  -- one target that became a try, and one that was found black
  scanned_push : (q : ℕ × ℕ) (tries : List (ℕ × ℕ)) (v : MarkView)
      → HasScanned marking (q ∷ []) (tries, v) (tries ++ q ∷ [], v)
  scanned_push q tries v = record {
    rest = q ∷ [];
    seen = [];
    parts_are = λ h. omega arith;
    tries_are = refl;
    looked = looked_none v;
    inside = All-nil _;
  }

  scanned_look : (q : ℕ × ℕ) (tries : List (ℕ × ℕ)) (v w : MarkView) → marking q ≡ true
      → HasTried v (q ∷ []) [] w → HasScanned marking (q ∷ []) (tries, v) (tries, w)
  scanned_look q tries v w inside looked = record {
    rest = [];
    seen = q ∷ [];
    parts_are = λ h. omega arith;
    tries_are = sym (append-nil tries);
    looked = looked;
    inside = All-cons (λ (p : ℕ × ℕ). marking p ≡ true) q [] inside (All-nil _);
  }

  -- one that becomes a try unless it is black
  pub scanned_find : (q : ℕ × ℕ) (s t : Tries) (black : Bool)
      → (not black ≡ true → t.0 ≡ s.0 ++ q ∷ []) → (not black ≡ false → t.0 ≡ s.0)
      → (black ≡ false → t.1 ≡ s.1) → (black ≡ true → (marking q ≡ true) × HasTried s.1 (q ∷ []) [] t.1)
      → HasScanned marking (q ∷ []) s t
  scanned_find q s t true added kept same looked =
      subst (λ (l : List (ℕ × ℕ)). HasScanned marking (q ∷ []) s (l, t.1)) (sym (kept refl))
      (scanned_look q s.0 s.1 t.1 (looked refl).0 (looked refl).1)
  scanned_find q s t false added kept same looked =
      subst (λ (u : Tries). HasScanned marking (q ∷ []) s u) (λ i. (sym (added refl) i, sym (same refl) i))
      (scanned_push q s.0 s.1)

  -- targets and those behind them
  pub scanned_more : (ps qs : List (ℕ × ℕ)) (s t u : Tries) → HasScanned marking ps s t → HasScanned marking qs t u
      → HasScanned marking (ps ++ qs) s u
  scanned_more ps qs s t u x y = record {
    rest = x.rest ++ y.rest;
    seen = x.seen ++ y.seen;
    parts_are = λ h.
        let a = x.parts_are h in
        let b = y.parts_are h in
        let r = weigh-append h x.rest y.rest in
        let k = weigh-append h x.seen y.seen in
        let l = weigh-append h ps qs in omega arith;
    tries_are = y.tries_are ∙ ap (λ (l : List (ℕ × ℕ)). l ++ y.rest) x.tries_are ∙ append_assoc s.0 x.rest y.rest;
    looked = looked_more s.1 t.1 u.1 x.seen y.seen x.looked y.looked;
    inside = All-append (λ (p : ℕ × ℕ). marking p ≡ true) x.seen y.seen x.inside y.inside;
  }

  -- what was found stands behind the tries
  pub scanned_behind : (qs tries found more : List (ℕ × ℕ)) (v w : MarkView)
      → HasScanned marking qs (found, v) (more, w) → HasScanned marking qs (tries ++ found, v) (tries ++ more, w)
  scanned_behind qs tries found more v w x = record {
    rest = x.rest;
    seen = x.seen;
    parts_are = x.parts_are;
    tries_are = ap (λ (l : List (ℕ × ℕ)). tries ++ l) x.tries_are ∙ sym (append_assoc tries found x.rest);
    looked = x.looked;
    inside = x.inside;
  }

  -- no more tries than targets come, and the seat keeps its parts
  pub scanned_few : (ps : List (ℕ × ℕ)) (s t : Tries) → HasScanned marking ps s t
      → length t.0 ≤ length s.0 + length ps
  scanned_few ps s t x =
      let p = x.parts_are (λ _. 1) in
      let l = ap length x.tries_are in
      let a = length-append s.0 x.rest in
      let r = weigh-one x.rest in
      let k = weigh-one ps in omega arith

  pub scanned_parts : (ps : List (ℕ × ℕ)) (s t : Tries) → HasScanned marking ps s t → t.1.parts ≡ s.1.parts
  scanned_parts ps s t x = ap (λ (v : MarkView). v.parts) x.looked.view_is

  -- one field more
  pub scanned_field : (field : ℕ → Option (ℕ × ℕ)) (n : ℕ) (o : Option (ℕ × ℕ)) (s t u : Tries) → field n ≡ o
      → HasScanned marking (first_targets field n) s t → HasScanned marking (held o) t u
      → HasScanned marking (first_targets field (n + 1)) s u
  scanned_field field n o s t u e x y =
      let next : suc n ≡ n + 1 = omega arith in
      subst (λ (l : List (ℕ × ℕ)). HasScanned marking l s u)
      (ap (λ (p : Option (ℕ × ℕ)). first_targets field n ++ held p) (sym e) ∙ ap (first_targets field) next)
      (scanned_more (first_targets field n) (held o) s t u x y)

-- if the targets of all these cells are listed, so are those of one
pub cell_listed : (P : ℕ × ℕ → Type 0) (edge : ℕ × ℕ → ℕ → Option (ℕ × ℕ)) (cells : List (ℕ × ℕ)) (i : ℕ) (d : ℕ × ℕ)
    → i < length cells → All P (all_targets edge cells) → All P (targets edge (get_or cells i d))
cell_listed P edge [] i d lt all = absurd (omega (arith, lt))
cell_listed P edge (p ∷ ps) zero d lt all = listed_by_weight P (targets edge p) (all_targets edge (p ∷ ps))
    (λ h. let a = weigh-append h (targets edge p) (all_targets edge ps) in omega arith) all
cell_listed P edge (p ∷ ps) (suc i) d lt all = cell_listed P edge ps i d (omega (arith, lt))
    (listed_by_weight P (all_targets edge ps) (all_targets edge (p ∷ ps))
    (λ h. let a = weigh-append h (targets edge p) (all_targets edge ps) in omega arith) all)
