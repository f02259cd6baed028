-- A cell turns black, and goes on its zone's pile.
use Rattle.std.proofs.Common.{◌≡◌, ◌⊎◌, ◌+◌, ◌≤◌, true, false, inl, inr, refl, sym, ap, ◌∙◌, subst, arith, Contains}
use Rattle.std.proofs.Common.{Bool, List, length, if◌then◌else◌}
use Rattle.gz_names.specs.declared.numbers.Place.{Place}
use Rattle.cell_bits.specs.declared.bits.Bits.{Bits}
use Rattle.mark_stack.specs.Stack.{Piles, IsPushed, pile_of}
use Rattle.mark_stack.specs.declared.stack.Pile.TheVariants as pile
use Rattle.mark_stack.proofs.Pushed.{black_wake, gray_black, gray_wake, more_cases, more_has, more_kept, more_length}
use Rattle.mark_stack.proofs.Pushed.{wake_black}
use Rattle.heap_core.specs.Shape.{Shape, is_marking, IsPresent}
use Rattle.heap_core.specs.Heap.{HeapState, colour_of}
use Rattle.barriers.specs.Colours.{IsBlack, IsSeen}
use Rattle.barriers.specs.Invariant.{ColourInvariant, InvariantWhile, IsToFollow, PileInvariant}
use Rattle.barriers.specs.Scans.{ScansNoMore}
use Rattle.barriers.specs.Spreading.{Blackened, Grows, Turns}
use Rattle.barriers.proofs.Places.{same_or_other}
use Rattle.barriers.proofs.Blackening.{marking_or_not}
use Rattle.barriers.proofs.Scans.{turns_no_more}
use Rattle.barriers.proofs.Spreading.{grows_none}

-- the piles, with one place put on that of its zone
pub record Puts (s : Shape) (t : Place) (p q : Piles) : Type 0 where
  pub black_kept : (y : Place) → Contains p.black y → Contains q.black y
  pub wake_kept : (y : Place) → Contains p.wake y → Contains q.wake y
  pub black_only : (y : Place) → Contains q.black y → Contains p.black y ⊎ ((t ≡ y) × (is_marking s t ≡ true))
  pub wake_only : (y : Place) → Contains q.wake y → Contains p.wake y ⊎ ((t ≡ y) × (is_marking s t ≡ false))
  pub black_has : is_marking s t ≡ true → Contains q.black t
  pub wake_has : is_marking s t ≡ false → Contains q.wake t
  pub gray_is : q.gray ≡ p.gray
  pub both_more : length q.black + length q.wake ≤ (length p.black + length p.wake) + 1
  pub wake_exact : length q.wake ≡ length p.wake + (if is_marking s t then 0 else 1)

puts_black : (s : Shape) (t : Place) (p q : Piles) → is_marking s t ≡ true → IsPushed p pile.Black t q → Puts s t p q
puts_black s t p q m e =
    let wake_is : q.wake ≡ p.wake = e.others pile.Wake wake_black in
    let same = ap (λ (ps : List Place). length ps) wake_is in
    let long = more_length p.black q.black t e.more in
    record {
      black_kept = λ y c. more_kept p.black q.black t y e.more c;
      wake_kept = λ y c. subst (λ (ps : List Place). Contains ps y) (sym wake_is) c;
      black_only = λ y c. elim (more_cases p.black q.black t y e.more c) [ inl old ↦ inl old | inr is ↦ inr (is, m) ];
      wake_only = λ y c. inl (subst (λ (ps : List Place). Contains ps y) wake_is c);
      black_has = λ n. more_has p.black q.black t e.more;
      wake_has = λ n. cc (m, n);
      gray_is = e.others pile.Gray gray_black;
      both_more = omega (arith, long, same);
      wake_exact = rw m (omega (arith, same));
    }

puts_wake : (s : Shape) (t : Place) (p q : Piles) → is_marking s t ≡ false → IsPushed p pile.Wake t q → Puts s t p q
puts_wake s t p q m e =
    let black_is : q.black ≡ p.black = e.others pile.Black black_wake in
    let same = ap (λ (ps : List Place). length ps) black_is in
    let long = more_length p.wake q.wake t e.more in
    record {
      black_kept = λ y c. subst (λ (ps : List Place). Contains ps y) (sym black_is) c;
      wake_kept = λ y c. more_kept p.wake q.wake t y e.more c;
      black_only = λ y c. inl (subst (λ (ps : List Place). Contains ps y) black_is c);
      wake_only = λ y c. elim (more_cases p.wake q.wake t y e.more c) [ inl old ↦ inl old | inr is ↦ inr (is, m) ];
      black_has = λ n. cc (m, n);
      wake_has = λ n. more_has p.wake q.wake t e.more;
      gray_is = e.others pile.Gray gray_wake;
      both_more = omega (arith, long, same);
      wake_exact = rw m (omega (arith, long));
    }

module _ (h : HeapState) (ds : List Bits) (p q : Piles) (t : Place) (turned : Blackened h t (record h { colours = ds }))
    (puts : Puts h.shape t p q) where
  abbrev k : HeapState
  k = record h { colours = ds }

  kept : (y : Place) → IsBlack h y → IsBlack k y
  kept y b = elim (same_or_other y t) [
    | inl same ↦ subst (λ z. IsBlack k z) (sym same) turned.black
    | inr other ↦ turned.others y other ∙ b
  ]

  only : (y : Place) → IsBlack k y → IsBlack h y ⊎ (y ≡ t)
  only y b = elim (same_or_other y t) [ inl same ↦ inr same | inr other ↦ inl (sym (turned.others y other) ∙ b) ]

  others : (y : Place) → IsBlack k y ⊎ (colour_of k y ≡ colour_of h y)
  others y = elim (same_or_other y t) [
    | inl same ↦ inl (subst (λ z. IsBlack k z) (sym same) turned.black)
    | inr other ↦ inr (turned.others y other)
  ]

  seen : (y : Place) → IsSeen h y → IsSeen k y
  seen y s = elim (others y) [
    | inl b ↦ inr b
    | inr e ↦ elim s [ inl g ↦ inl (e ∙ g) | inr b ↦ inr (e ∙ b) ]
  ]

  grown : ScansNoMore h p k q → Grows (λ y. y ≡ t) h p k q
  grown scans = record {
    spreads = record {
      blackens = record {
        rest = refl;
        sized = turned.sized;
        kept = kept;
        gobs_is = turned.gobs_is;
        only = only;
        others = others;
        whites_less = turned.whites_less;
      };
      gray_is = puts.gray_is;
      pile_kept = puts.black_kept;
      fresh = λ y b m. elim (only y b) [
        | inl was ↦ inl was
        | inr e ↦ inr (subst (λ z. Contains q.black z) (sym e)
            (puts.black_has (subst (λ z. is_marking h.shape z ≡ true) e m)))
      ];
      left_less = omega (arith, turned.left_is);
      work = omega (arith, turned.left_is, puts.both_more);
      grays = omega (arith, turned.grays_is, puts.wake_exact);
      scans = scans;
    };
    wake_kept = puts.wake_kept;
    woken = λ y b m. elim (only y b) [
      | inl was ↦ inl was
      | inr e ↦ inr (subst (λ z. Contains q.wake z) (sym e)
          (puts.wake_has (subst (λ z. is_marking h.shape z ≡ false) e m)))
    ];
  }

  colours_kept : ColourInvariant h → ColourInvariant k
  colours_kept inv = record {
    shape = inv.shape;
    sized = turned.sized ∙ inv.sized;
    seen_present = λ y s. elim s [
      | inl g ↦ elim (others y) [ inl b ↦ cc (b, g) | inr e ↦ inv.seen_present y (inl (sym e ∙ g)) ]
      | inr b ↦ elim (only y b) [
        | inl was ↦ inv.seen_present y (inr was)
        | inr e
            ↦ subst (λ z. IsPresent h.shape z) (sym e) turned.present
      ]
    ];
    no_white = λ y present m. seen y (inv.no_white y present m);
    no_gray = λ y state g. elim (others y) [ inl b ↦ cc (b, g) | inr e ↦ inv.no_gray y state (sym e ∙ g) ];
    regs_black = λ y c. kept y (inv.regs_black y c);
  }

  piles_kept : PileInvariant h p → PileInvariant k q
  piles_kept inv = record {
    black = λ y c. elim (puts.black_only y c) [
      | inl was ↦ (kept y (inv.black y was).0, (inv.black y was).1)
      | inr n ↦ (subst (λ z. IsBlack k z) n.0 turned.black, subst (λ z. is_marking h.shape z ≡ true) n.0 n.1)
    ];
    wake = λ y c. elim (puts.wake_only y c) [
      | inl was ↦ (kept y (inv.wake y was).0, (inv.wake y was).1)
      | inr n ↦ (subst (λ z. IsBlack k z) n.0 turned.black, subst (λ z. is_marking h.shape z ≡ false) n.0 n.1)
    ];
    gray = λ y c. seen y (inv.gray y (subst (λ zs. Contains zs y) puts.gray_is c));
  }

  to_follow : (followed : List Place) → IsToFollow followed q t
  to_follow followed = elim (marking_or_not h.shape t)
      [ inl m ↦ inl (puts.black_has m) | inr m ↦ inr (inl (puts.wake_has m)) ]

  still_to_follow : (followed : List Place) (y : Place) → IsToFollow followed p y → IsToFollow followed q y
  still_to_follow followed y (inl c) = inl (puts.black_kept y c)
  still_to_follow followed y (inr (inl c)) = inr (inl (puts.wake_kept y c))
  still_to_follow followed y (inr (inr c)) = inr (inr c)

  -- a cell that is black now was so, or is still to be followed
  black_or_to_follow : (followed : List Place) (y : Place) → IsBlack k y → IsBlack h y ⊎ IsToFollow followed q y
  black_or_to_follow followed y b = elim (only y b) [
    | inl was ↦ inl was
    | inr is ↦ inr (subst (λ z. IsToFollow followed q z) (sym is) (to_follow followed))
  ]

  invariant_kept : (followed : List Place) → InvariantWhile followed h p → InvariantWhile followed k q
  invariant_kept followed inv = record {
    colours = colours_kept inv.colours;
    piles = piles_kept inv.piles;
    closed = λ x y b e. elim (black_or_to_follow followed x b) [
      | inl was ↦ elim (inv.closed x y was e)
          [ inl by ↦ inl (kept y by) | inr f ↦ inr (still_to_follow followed x f) ]
      | inr f ↦ inr f
    ];
    weak_closed = λ m n v e bm bn off. elim (black_or_to_follow followed m bm) [
      | inr f ↦ inr (inl f)
      | inl wm ↦ elim (black_or_to_follow followed n bn) [
        | inr f ↦ inr (inr f)
        | inl wn ↦ elim (inv.weak_closed m n v e wm wn off) [
          | inl b ↦ inl (kept v b)
          | inr (inl f) ↦ inr (inl (still_to_follow followed m f))
          | inr (inr f) ↦ inr (inr (still_to_follow followed n f))
        ]
      ]
    ];
    key_closed = λ m n v d e is bm bd. elim (black_or_to_follow followed m bm) [
      | inr f ↦ inr (inl f)
      | inl wm ↦ elim (black_or_to_follow followed d bd) [
        | inr f ↦ inr (inr (inl f))
        | inl wd ↦ elim (inv.key_closed m n v d e is wm wd) [
          | inl b ↦ inl (kept n b)
          | inr (inl f) ↦ inr (inl (still_to_follow followed m f))
          | inr (inr (inl f)) ↦ inr (inr (inl (still_to_follow followed d f)))
          | inr (inr (inr l)) ↦ inr (inr (inr l))
        ]
      ]
    ];
  }

-- a cell that is not black is not pending on the pile of its zone
pub fresh_pile : (h : HeapState) (p : Piles) (x : Place) (marks : Bool) → PileInvariant h p → (IsBlack h x → ⊥)
    → Contains (pile_of p (if marks then pile.Black else pile.Wake)) x → ⊥
fresh_pile h p x true inv not c = not (inv.black x c).0
fresh_pile h p x false inv not c = not (inv.wake x c).0

-- it turned black, and came onto that pile
pub turned_by : (h : HeapState) (p : Piles) (x : Place) (k : HeapState) (q : Piles) (marks : Bool) → Blackened h x k
    → is_marking h.shape x ≡ marks → IsPushed p (if marks then pile.Black else pile.Wake) x q → Turns h p x k q
turned_by h p x k q true turned m e = inr (inl (turned, m, e))
turned_by h p x k q false turned m e = inr (inr (turned, m, e))

-- what turning a cell black gives
pub record Effect (h : HeapState) (p : Piles) (t : Place) (k : HeapState) (q : Piles) : Type 0 where
  pub grows : Grows (λ y. y ≡ t) h p k q
  pub is_black : IsBlack k t
  pub invariant : (followed : List Place) → InvariantWhile followed h p → InvariantWhile followed k q

put_effect : (h : HeapState) (p : Piles) (t : Place) (k : HeapState) (q : Piles) → Blackened h t k → Puts h.shape t p q
    → ScansNoMore h p k q → Effect h p t k q
put_effect h p t k q turned puts scans =
    subst (λ (z : HeapState). Blackened h t z → ScansNoMore h p z q → Effect h p t z q) (sym turned.rest)
    (λ tu less. record {
      grows = grown h k.colours p q t tu puts less;
      is_black = tu.black;
      invariant = invariant_kept h k.colours p q t tu puts;
    }) turned scans

pub turn_effect : (h : HeapState) (p : Piles) (t : Place) (k : HeapState) (q : Piles) → Turns h p t k q
    → Effect h p t k q
turn_effect h p t k q (inl (b, ek, eq)) =
    subst (λ (z : HeapState). Effect h p t z q) (sym ek)
    (subst (λ (z : Piles). Effect h p t h z) (sym eq)
    (record { grows = grows_none (λ y. y ≡ t) h p; is_black = b; invariant = λ followed inv. inv }))
turn_effect h p t k q (inr (inl (turned, m, eq))) =
    put_effect h p t k q turned (puts_black h.shape t p q m eq)
    (turns_no_more h p t k q (inr (inl (turned, m, eq))))
turn_effect h p t k q (inr (inr (turned, m, eq))) =
    put_effect h p t k q turned (puts_wake h.shape t p q m eq)
    (turns_no_more h p t k q (inr (inr (turned, m, eq))))
