-- Cells turn gray, one after another.
use Rattle.std.proofs.Common.{◌≡◌, ◌⊎◌, inl, inr, refl, sym, ap, ◌∙◌, subst, arith, Contains, List, ◌∷◌}
use Rattle.std.specs.List.Sorted.{IsPermutation}
use Rattle.gz_names.specs.declared.numbers.Place.{Place}
use Rattle.cell_bits.specs.declared.bits.Bits.{Bits}
use Rattle.zones.specs.declared.states.State.TheVariants as state
use Rattle.mark_stack.specs.Stack.{Piles}
use Rattle.mark_stack.proofs.Pushed.{gray_alone, more_cases, more_has, more_kept, more_length}
use Rattle.heap_core.specs.Shape.{IsPresent, state_of}
use Rattle.heap_core.specs.Heap.{HeapState}
use Rattle.barriers.specs.Colours.{IsBlack, IsGray, IsSeen, IsWhite}
use Rattle.barriers.specs.Invariant.{InvariantWhile}
use Rattle.barriers.proofs.Places.{same_or_other}
use Rattle.barriers.proofs.LiveClosure.{white_or_seen}
use Rattle.barriers.proofs.Scans.{no_more_twice, none_more}
use Rattle.marker.specs.Shading.{Grayed, Shaded, Shades}
use Rattle.marker.proofs.Scans.{grayed_no_more}

rest_more : (h k l : HeapState) → k ≡ record h { colours = k.colours } → l ≡ record k { colours = l.colours }
    → l ≡ record h { colours = l.colours }
rest_more h k l e f = f ∙ ap (λ (z : HeapState). record z { colours = l.colours }) e

pub shaded_none : (P : Place → Type 0) (h : HeapState) (p : Piles) → Shaded P h p h p
shaded_none P h p = record {
  rest = refl;
  sized = refl;
  black_is = λ y. ((λ b. b), λ b. b);
  gob_kept = λ y b. b;
  kept = λ y s. s;
  only = λ y s. inl s;
  pile_kept = λ y c. c;
  pile_only = λ y c. inl c;
  pile_state = λ y c. inl c;
  fresh = λ y s. inl s;
  black_pile_is = refl;
  wake_is = refl;
  left_is = refl;
  grays_is = refl;
  work = refl;
  whites_less = omega arith;
  scans = none_more h p;
}

pub shaded_more : (P Q R : Place → Type 0) (h : HeapState) (p : Piles) (k : HeapState) (q : Piles) (l : HeapState)
    (r : Piles) → Shaded P h p k q → Shaded Q k q l r → ((y : Place) → P y → R y) → ((y : Place) → Q y → R y)
    → Shaded R h p l r
shaded_more P Q R h p k q l r a b f g = record {
  rest = rest_more h k l a.rest b.rest;
  sized = b.sized ∙ a.sized;
  black_is = λ y. ((λ c. (a.black_is y).0 ((b.black_is y).0 c)), λ c. (b.black_is y).1 ((a.black_is y).1 c));
  gob_kept = λ y c. b.gob_kept y (a.gob_kept y c);
  kept = λ y s. b.kept y (a.kept y s);
  only = λ y s. elim (b.only y s) [
    | inl mid ↦ elim (a.only y mid) [ inl old ↦ inl old | inr new ↦ inr (f y new) ]
    | inr new ↦ inr (g y new)
  ];
  pile_kept = λ y c. b.pile_kept y (a.pile_kept y c);
  pile_only = λ y c. elim (b.pile_only y c) [
    | inl mid ↦ elim (a.pile_only y mid) [ inl was ↦ inl was | inr new ↦ inr (new.0, b.kept y new.1) ]
    | inr new ↦ inr ((λ s. new.0 (a.kept y s)), new.1)
  ];
  pile_state = λ y c. elim (b.pile_state y c) [
    | inl mid ↦ a.pile_state y mid
    | inr takes ↦ inr (ap (λ (z : HeapState). state_of z.shape y) (sym a.rest) ∙ takes)
  ];
  fresh = λ y s. elim (b.fresh y s) [
    | inl mid ↦ elim (a.fresh y mid) [ inl old ↦ inl old | inr new ↦ inr (b.pile_kept y new) ]
    | inr new ↦ inr new
  ];
  black_pile_is = b.black_pile_is ∙ a.black_pile_is;
  wake_is = b.wake_is ∙ a.wake_is;
  left_is = b.left_is ∙ a.left_is;
  grays_is = b.grays_is ∙ a.grays_is;
  work = omega (arith, a.work, b.work);
  whites_less = omega (arith, a.whites_less, b.whites_less);
  scans = no_more_twice h p k q l r a.scans b.scans;
}

pub shaded_within : (P R : Place → Type 0) (h : HeapState) (p : Piles) (k : HeapState) (q : Piles) → Shaded P h p k q
    → ((y : Place) → P y → R y) → Shaded R h p k q
shaded_within P R h p k q a f = record {
  rest = a.rest;
  sized = a.sized;
  black_is = a.black_is;
  gob_kept = a.gob_kept;
  kept = a.kept;
  only = λ y s. elim (a.only y s) [ inl old ↦ inl old | inr new ↦ inr (f y new) ];
  pile_kept = a.pile_kept;
  pile_only = a.pile_only;
  pile_state = a.pile_state;
  fresh = a.fresh;
  black_pile_is = a.black_pile_is;
  wake_is = a.wake_is;
  left_is = a.left_is;
  grays_is = a.grays_is;
  work = a.work;
  whites_less = a.whites_less;
  scans = a.scans;
}

module _ (h : HeapState) (ds : List Bits) (p : Piles) (t : Place) (more : List Place)
    (is_more : IsPermutation (t ∷ p.gray) more) (grayed : Grayed h t (record h { colours = ds })) where
  abbrev k : HeapState
  k = record h { colours = ds }

  abbrev q : Piles
  q = record p { gray = more }

  black_kept : (y : Place) → IsBlack h y → IsBlack k y
  black_kept y b = elim (same_or_other y t) [
    | inl same ↦ (let w : IsWhite h y = subst (IsWhite h) (sym same) grayed.white in cc (w, b))
    | inr other ↦ grayed.others y other ∙ b
  ]

  black_only : (y : Place) → IsBlack k y → IsBlack h y
  black_only y b = elim (same_or_other y t) [
    | inl same ↦ (let g : IsGray k y = subst (IsGray k) (sym same) grayed.gray in cc (g, b))
    | inr other ↦ sym (grayed.others y other) ∙ b
  ]

  seen_kept : (y : Place) → IsSeen h y → IsSeen k y
  seen_kept y s = elim (same_or_other y t) [
    | inl same ↦ inl (subst (IsGray k) (sym same) grayed.gray)
    | inr other ↦ elim s [ inl g ↦ inl (grayed.others y other ∙ g) | inr b ↦ inr (grayed.others y other ∙ b) ]
  ]

  seen_only : (y : Place) → IsSeen k y → IsSeen h y ⊎ (y ≡ t)
  seen_only y s = elim (same_or_other y t) [
    | inl same ↦ inr same
    | inr other ↦ elim s [
      | inl g ↦ inl (inl (sym (grayed.others y other) ∙ g))
      | inr b
          ↦ inl (inr (sym (grayed.others y other) ∙ b))
    ]
  ]

  gray_only : (y : Place) → IsGray k y → IsGray h y ⊎ (y ≡ t)
  gray_only y g = elim (same_or_other y t) [ inl same ↦ inr same | inr other ↦ inl (sym (grayed.others y other) ∙ g) ]

  not_seen : IsSeen h t → ⊥
  not_seen s = (let w = grayed.white in elim s [ inl g ↦ cc (w, g) | inr b ↦ cc (w, b) ])

  one_shaded : Shaded (λ y. y ≡ t) h p k q
  one_shaded = record {
    rest = refl;
    sized = grayed.sized;
    black_is = λ y. (black_only y, black_kept y);
    gob_kept = grayed.gob_kept;
    kept = seen_kept;
    only = seen_only;
    pile_kept = λ y c. more_kept p.gray more t y is_more c;
    pile_only = λ y c. elim (more_cases p.gray more t y is_more c) [
      | inl was ↦ inl was
      | inr is ↦ inr ((λ s. not_seen (subst (IsSeen h) (sym is) s)), inl (subst (IsGray k) is grayed.gray))
    ];
    pile_state = λ y c. elim (more_cases p.gray more t y is_more c) [
      | inl was ↦ inl was
      | inr is ↦ inr (subst (λ z. state_of h.shape z ≡ state.MarkBlackAndGray) is grayed.takes)
    ];
    fresh = λ y s. elim (seen_only y s)
        [ inl was ↦ inl was | inr e ↦ inr (subst (λ z. Contains q.gray z) (sym e) (more_has p.gray more t is_more)) ];
    black_pile_is = refl;
    wake_is = refl;
    left_is = grayed.left_is;
    grays_is = grayed.grays_is;
    work = omega (arith, more_length p.gray more t is_more, grayed.whites_is);
    whites_less = omega (arith, grayed.whites_is);
    scans = grayed_no_more h p t more k is_more grayed;
  }

  shaded_invariant : (followed : List Place) → InvariantWhile followed h p → InvariantWhile followed k q
  shaded_invariant followed inv = record {
    colours = record {
      shape = inv.colours.shape;
      sized = grayed.sized ∙ inv.colours.sized;
      seen_present = λ y s. elim (seen_only y s) [
        | inl was ↦ inv.colours.seen_present y was
        | inr e
            ↦ subst (IsPresent h.shape) (sym e) grayed.present
      ];
      no_white = λ y there off. seen_kept y (inv.colours.no_white y there off);
      no_gray = λ y st g. elim (gray_only y g) [
        | inl was ↦ inv.colours.no_gray y st was
        | inr e ↦ (let other : state_of h.shape y ≡ state.MarkBlackAndGray =
            subst (λ z. state_of h.shape z ≡ state.MarkBlackAndGray) (sym e) grayed.takes in cc (st, other))
      ];
      regs_black = λ y c. black_kept y (inv.colours.regs_black y c);
    };
    piles = record {
      black = λ y c. (black_kept y (inv.piles.black y c).0, (inv.piles.black y c).1);
      wake = λ y c. (black_kept y (inv.piles.wake y c).0, (inv.piles.wake y c).1);
      gray = λ y c. elim (more_cases p.gray more t y is_more c) [
        | inl was ↦ seen_kept y (inv.piles.gray y was)
        | inr is ↦ inl (subst (IsGray k) is grayed.gray)
      ];
    };
    closed = λ x y b e. elim (inv.closed x y (black_only x b) e) [
      | inl by ↦ inl (black_kept y by)
      | inr pend
          ↦ inr pend
    ];
    weak_closed = λ m n v e bm bn off. elim (inv.weak_closed m n v e (black_only m bm) (black_only n bn) off)
        [ inl b ↦ inl (black_kept v b) | inr pend ↦ inr pend ];
    key_closed = λ m n v d e is bm bd. elim (inv.key_closed m n v d e is (black_only m bm) (black_only d bd))
        [ inl b ↦ inl (black_kept n b) | inr pend ↦ inr pend ];
  }

-- what shading a cell gives
pub record ShadeEffect (h : HeapState) (p : Piles) (t : Place) (k : HeapState) (q : Piles) : Type 0 where
  pub shaded : Shaded (λ y. y ≡ t) h p k q
  pub seen : state_of h.shape t ≡ state.MarkBlackAndGray → IsSeen k t
  pub invariant : (followed : List Place) → InvariantWhile followed h p → InvariantWhile followed k q

gray_effect : (h : HeapState) (p : Piles) (t : Place) (more : List Place) (k : HeapState)
    → IsPermutation (t ∷ p.gray) more → Grayed h t k → ShadeEffect h p t k (record p { gray = more })
gray_effect h p t more k is_more grayed =
    subst (λ (z : HeapState). Grayed h t z → ShadeEffect h p t z (record p { gray = more })) (sym grayed.rest)
    (λ g. record {
      shaded = one_shaded h k.colours p t more is_more g;
      seen = λ st. inl g.gray;
      invariant = shaded_invariant h k.colours p t more is_more g;
    }) grayed

pub shade_effect : (h : HeapState) (p : Piles) (t : Place) (k : HeapState) (q : Piles) → Shades h p t k q
    → ShadeEffect h p t k q
shade_effect h p t k q (inl (none, ek, eq)) =
    subst (λ (z : HeapState). ShadeEffect h p t z q) (sym ek)
    (subst (λ (z : Piles). ShadeEffect h p t h z) (sym eq) (record {
      shaded = shaded_none (λ y. y ≡ t) h p;
      seen = λ st. elim (white_or_seen h t) [ inl white ↦ absurd (none white st) | inr seen ↦ seen ];
      invariant = λ followed inv. inv;
    }))
shade_effect h p t k q (inr (grayed, eq)) =
    subst (λ (z : Piles). ShadeEffect h p t k z) (sym (gray_alone p q t eq)) (gray_effect h p t q.gray k eq.more grayed)
