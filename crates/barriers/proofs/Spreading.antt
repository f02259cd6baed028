-- Steps one after another.
use Rattle.std.proofs.Common.{◌≡◌, inl, inr, refl, sym, ap, ◌∙◌, subst, arith, length, List, Contains, IsSomeAnd}
use Rattle.std.proofs.Common.{slice_get}
use Rattle.std.specs.Int.{bit_at}
use Rattle.gz_names.specs.declared.numbers.Place.{Place}
use Rattle.mark_stack.specs.Stack.{Piles, IsPushed}
use Rattle.mark_stack.specs.declared.stack.Pile.TheVariants as pile
use Rattle.mark_stack.proofs.Pushed.{black_wake, gray_wake, more_length}
use Rattle.heap_core.specs.Shape.{Shape, is_marking}
use Rattle.heap_core.specs.Heap.{HeapState}
use Rattle.barriers.specs.Colours.{HasGob, gobs}
use Rattle.barriers.specs.Spreading.{Blackens, Spreads, Grows}
use Rattle.barriers.proofs.Scans.{no_more_twice, none_more, pops_wake}

-- the shape is as it was
pub shape_is : (h k : HeapState) → k ≡ record h { colours = k.colours } → k.shape ≡ h.shape
shape_is h k e = ap (λ (z : HeapState). z.shape) e

rest_more : (h k l : HeapState) → k ≡ record h { colours = k.colours } → l ≡ record k { colours = l.colours }
    → l ≡ record h { colours = l.colours }
rest_more h k l e f = f ∙ ap (λ (z : HeapState). record z { colours = l.colours }) e

-- where the words of gray bits are as they were, no slot lost its gray bit
pub gob_kept : (h k : HeapState) → gobs k ≡ gobs h → (x : Place) → HasGob h x → HasGob k x
gob_kept h k e x has = subst (λ words. IsSomeAnd (slice_get words x.0) (λ word. bit_at word x.1 ≡ 1)) (sym e) has

pub blackens_none : (P : Place → Type 0) (h : HeapState) → Blackens P h h
blackens_none P h = record {
  rest = refl;
  sized = refl;
  kept = λ y b. b;
  gobs_is = refl;
  only = λ y b. inl b;
  others = λ y. inr refl;
  whites_less = omega arith;
}

pub blackens_more : (P Q R : Place → Type 0) (h k l : HeapState) → Blackens P h k → Blackens Q k l
    → ((y : Place) → P y → R y) → ((y : Place) → Q y → R y) → Blackens R h l
blackens_more P Q R h k l a b f g = record {
  rest = rest_more h k l a.rest b.rest;
  sized = b.sized ∙ a.sized;
  kept = λ y c. b.kept y (a.kept y c);
  gobs_is = b.gobs_is ∙ a.gobs_is;
  only = λ y c. elim (b.only y c) [
    | inl mid ↦ elim (a.only y mid) [ inl old ↦ inl old | inr new ↦ inr (f y new) ]
    | inr new ↦ inr (g y new)
  ];
  others = λ y. elim (b.others y) [
    | inl black ↦ inl black
    | inr e ↦ elim (a.others y) [ inl black ↦ inl (b.kept y black) | inr d ↦ inr (e ∙ d) ]
  ];
  whites_less = omega (arith, a.whites_less, b.whites_less);
}

pub blackens_within : (P R : Place → Type 0) (h k : HeapState) → Blackens P h k → ((y : Place) → P y → R y)
    → Blackens R h k
blackens_within P R h k a f = record {
  rest = a.rest;
  sized = a.sized;
  kept = a.kept;
  gobs_is = a.gobs_is;
  only = λ y c. elim (a.only y c) [ inl old ↦ inl old | inr new ↦ inr (f y new) ];
  others = a.others;
  whites_less = a.whites_less;
}

pub spreads_none : (P : Place → Type 0) (h : HeapState) (p : Piles) → Spreads P h p h p
spreads_none P h p = record {
  blackens = blackens_none P h;
  gray_is = refl;
  pile_kept = λ y c. c;
  fresh = λ y b m. inl b;
  left_less = omega arith;
  work = omega arith;
  grays = omega arith;
  scans = none_more h p;
}

pub spreads_more : (P Q R : Place → Type 0) (h : HeapState) (p : Piles) (k : HeapState) (q : Piles) (l : HeapState)
    (r : Piles) → Spreads P h p k q → Spreads Q k q l r → ((y : Place) → P y → R y) → ((y : Place) → Q y → R y)
    → Spreads R h p l r
spreads_more P Q R h p k q l r a b f g = record {
  blackens = blackens_more P Q R h k l a.blackens b.blackens f g;
  gray_is = b.gray_is ∙ a.gray_is;
  pile_kept = λ y c. b.pile_kept y (a.pile_kept y c);
  fresh = λ y c m. elim (b.fresh y c (ap (λ (s : Shape). is_marking s y) (shape_is h k a.blackens.rest) ∙ m)) [
    | inl mid ↦ elim (a.fresh y mid m) [ inl old ↦ inl old | inr new ↦ inr (b.pile_kept y new) ]
    | inr new ↦ inr new
  ];
  left_less = omega (arith, a.left_less, b.left_less);
  work = omega (arith, a.work, b.work);
  grays = omega (arith, a.grays, b.grays);
  scans = no_more_twice h p k q l r a.scans b.scans;
}

pub spreads_within : (P R : Place → Type 0) (h : HeapState) (p : Piles) (k : HeapState) (q : Piles) → Spreads P h p k q
    → ((y : Place) → P y → R y) → Spreads R h p k q
spreads_within P R h p k q a f = record {
  blackens = blackens_within P R h k a.blackens f;
  gray_is = a.gray_is;
  pile_kept = a.pile_kept;
  fresh = a.fresh;
  left_less = a.left_less;
  work = a.work;
  grays = a.grays;
  scans = a.scans;
}

pub grows_none : (P : Place → Type 0) (h : HeapState) (p : Piles) → Grows P h p h p
grows_none P h p = record {
  spreads = spreads_none P h p;
  wake_kept = λ y c. c;
  woken = λ y b m. inl b;
}

pub grows_within : (P R : Place → Type 0) (h : HeapState) (p : Piles) (k : HeapState) (q : Piles) → Grows P h p k q
    → ((y : Place) → P y → R y) → Grows R h p k q
grows_within P R h p k q a f = record {
  spreads = spreads_within P R h p k q a.spreads f;
  wake_kept = a.wake_kept;
  woken = a.woken;
}

pub grows_more : (P Q R : Place → Type 0) (h : HeapState) (p : Piles) (k : HeapState) (q : Piles) (l : HeapState)
    (r : Piles) → Grows P h p k q → Grows Q k q l r → ((y : Place) → P y → R y) → ((y : Place) → Q y → R y)
    → Grows R h p l r
grows_more P Q R h p k q l r a b f g = record {
  spreads = spreads_more P Q R h p k q l r a.spreads b.spreads f g;
  wake_kept = λ y c. b.wake_kept y (a.wake_kept y c);
  woken = λ y c m. elim (b.woken y c (ap (λ (s : Shape). is_marking s y) (shape_is h k a.spreads.blackens.rest) ∙ m)) [
    | inl mid ↦ elim (a.woken y mid m) [ inl old ↦ inl old | inr new ↦ inr (b.wake_kept y new) ]
    | inr new ↦ inr new
  ];
}

-- a woken cell is pending no more
pub spreads_pop : (P : Place → Type 0) (h : HeapState) (p q : Piles) (x : Place) → IsPushed q pile.Wake x p
    → Spreads P h p h q
spreads_pop P h p q x e =
    let black_is : p.black ≡ q.black = e.others pile.Black black_wake in
    let long = more_length q.wake p.wake x e.more in
    let same = ap (λ (ps : List Place). length ps) black_is in
    record {
      blackens = blackens_none P h;
      gray_is = sym (e.others pile.Gray gray_wake);
      pile_kept = λ y c. subst (λ (ps : List Place). Contains ps y) black_is c;
      fresh = λ y b m. inl b;
      left_less = omega arith;
      work = omega (arith, long, same);
      grays = omega (arith, long);
      scans = pops_wake h q p x e;
    }
