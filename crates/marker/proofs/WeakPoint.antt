-- What gray marking and looks do to the point on weak entries, and what follows where nothing is left.
use Rattle.std.proofs.Common.{◌≡◌, [], ℕ, true, inl, inr, sym, ap, subst, Contains}
use Rattle.gz_names.specs.declared.numbers.Place.{Place}
use Rattle.zones.specs.declared.states.State.TheVariants as state
use Rattle.mark_stack.specs.Stack.{Piles}
use Rattle.weak_maps.specs.WeakMaps.{NoneLeft}
use Rattle.weak_maps.specs.declared.colours.MarkColour.{MarkColour}
use Rattle.weak_maps.specs.declared.colours.MarkColour.TheVariants as mark
use Rattle.heap_core.specs.Shape.{IsDelegate, Shape, is_marking, state_of, zone_of}
use Rattle.heap_core.specs.Heap.{HeapState}
use Rattle.barriers.specs.Reached.{HasEntry}
use Rattle.barriers.specs.Colours.{IsBlack, IsSeen}
use Rattle.barriers.specs.Invariant.{IsToFollow, MarkingInvariant}
use Rattle.barriers.specs.WeakPoint.{BlackOrLeft, IsPiled, Left, SeenOrLeft, SeenOrLeftKey, WeakPoint, left_of}
use Rattle.barriers.proofs.Places.{nothing_in_none}
use Rattle.barriers.proofs.StayingLeft.{none_left}
use Rattle.barriers.proofs.WeakPoint.{LeavesOthers, left_same, looks_keep, one_value}
use Rattle.marker.specs.Looks.{IsScanned, cell_colour}
use Rattle.marker.specs.Shading.{Shaded, Shades}
use Rattle.marker.specs.Units.{AreFor, IsFixed}
use Rattle.marker.proofs.Shading.{shade_effect}

-- gray spread: what turned gray is on the gray pile
module _ (P : Place → Type 0) (h : HeapState) (p : Piles) (k : HeapState) (q : Piles) (left : Left)
    (sh : Shaded P h p k q) (w : WeakPoint h p left) where
  alike : k.shape ≡ h.shape
  alike = ap (λ (z : HeapState). z.shape) sh.rest

  black_pile : (x : Place) → Contains p.black x → Contains q.black x
  black_pile x c = subst (λ zs. Contains zs x) (sym sh.black_pile_is) c

  piled_still : (x : Place) → IsPiled p x → IsPiled q x
  piled_still x (inl c) = inl (black_pile x c)
  piled_still x (inr c) = inr (sh.pile_kept x c)

  black_at : (m n v : Place) → HasEntry h.shape m n v → IsBlack k m → IsBlack k n → is_marking h.shape v ≡ true
      → BlackOrLeft k q left m n v
  black_at m n v e bm bn on = elim (w.black m n v e ((sh.black_is m).0 bm) ((sh.black_is n).0 bn) on) [
    | inl b ↦ inl ((sh.black_is v).1 b)
    | inr (inl c) ↦ inr (inl (black_pile m c))
    | inr (inr (inl c)) ↦ inr (inr (inl (black_pile n c)))
    | inr (inr (inr l)) ↦ inr (inr (inr l))
  ]

  gray_at : (m n v : Place) → HasEntry h.shape m n v → IsSeen k m → IsSeen k n
      → state_of h.shape v ≡ state.MarkBlackAndGray → SeenOrLeft k q left m n v
  gray_at m n v e sm sn takes = elim (sh.fresh m sm) [
    | inr c ↦ inr (inl (inr c))
    | inl wm ↦ elim (sh.fresh n sn) [
      | inr c ↦ inr (inr (inl (inr c)))
      | inl wn ↦ elim (w.gray m n v e wm wn takes) [
        | inl s ↦ inl (sh.kept v s)
        | inr (inl c) ↦ inr (inl (piled_still m c))
        | inr (inr (inl c)) ↦ inr (inr (inl (piled_still n c)))
        | inr (inr (inr l)) ↦ inr (inr (inr l))
      ]
    ]
  ]

  gray_key_at : (m n v d : Place) → HasEntry h.shape m n v → IsDelegate h.shape n d → IsSeen k m → IsSeen k d
      → state_of h.shape n ≡ state.MarkBlackAndGray → SeenOrLeftKey k q left m d n
  gray_key_at m n v d e is sm sd takes = elim (sh.fresh m sm) [
    | inr c ↦ inr (inl (inr c))
    | inl wm ↦ elim (sh.fresh d sd) [
      | inr c ↦ inr (inr (inl (inr c)))
      | inl wd ↦ elim (w.gray_key m n v d e is wm wd takes) [
        | inl s ↦ inl (sh.kept n s)
        | inr (inl c) ↦ inr (inl (piled_still m c))
        | inr (inr (inl c)) ↦ inr (inr (inl (piled_still d c)))
        | inr (inr (inr l)) ↦ inr (inr (inr l))
      ]
    ]
  ]

  pub shaded_keep : WeakPoint k q left
  shaded_keep = record {
    black = λ m n v e bm bn on. black_at m n v (subst (λ (s : Shape). HasEntry s m n v) alike e) bm bn
        (subst (λ (s : Shape). is_marking s v ≡ true) alike on);
    gray = λ m n v e sm sn takes. gray_at m n v (subst (λ (s : Shape). HasEntry s m n v) alike e) sm sn
        (subst (λ (s : Shape). state_of s v ≡ state.MarkBlackAndGray) alike takes);
    gray_key = λ m n v d e is sm sd takes. gray_key_at m n v d (subst (λ (s : Shape). HasEntry s m n v) alike e)
        (subst (λ (s : Shape). IsDelegate s n d) alike is) sm sd
        (subst (λ (s : Shape). state_of s n ≡ state.MarkBlackAndGray) alike takes);
  }

pub shaded_point : (P : Place → Type 0) (h : HeapState) (p : Piles) (k : HeapState) (q : Piles) → Shaded P h p k q
    → WeakPoint h p (left_of h) → WeakPoint k q (left_of k)
shaded_point P h p k q sh w = left_same h p k q sh.rest (shaded_keep P h p k q (left_of h) sh w)

-- a look at an entry whose map and key are seen and not both black, and whose value's zone takes gray or is marked
-- black
-- only
pub look_gray : (h : HeapState) (p : Piles) (a b v : Place) (k : HeapState) (q : Piles) (old new : Left)
    → WeakPoint h p old → HasEntry h.shape a b v → IsSeen h b → (IsBlack h a → IsBlack h b → ⊥) → Shades h p v k q
    → LeavesOthers a b old new → WeakPoint k q new
look_gray h p a b v k q old new w e seen not shades others =
    let ef = shade_effect h p v k q shades in
    let alike : k.shape ≡ h.shape = ap (λ (z : HeapState). z.shape) ef.shaded.rest in
    looks_keep k q a b old new (shaded_keep (λ y. y ≡ v) h p k q old ef.shaded w) (record {
      others = others;
      black = λ u f ba bb on. absurd (not ((ef.shaded.black_is a).0 ba) ((ef.shaded.black_is b).0 bb));
      gray = λ u f sa sb t.
          subst (λ z. IsSeen k z) (one_value h.shape a b v u e (subst (λ (s : Shape). HasEntry s a b u) alike f))
          (ef.seen (subst (λ z. state_of h.shape z ≡ state.MarkBlackAndGray)
          (sym (one_value h.shape a b v u e (subst (λ (s : Shape). HasEntry s a b u) alike f)))
          (subst (λ (s : Shape). state_of s u ≡ state.MarkBlackAndGray) alike t)));
      gray_key = λ d f sa sd t. ef.shaded.kept b seen;
    })

-- where no cell is to be scanned and no entry to be looked at, the weak rule has no work
pub fixed_by : (c : MarkColour) (h : HeapState) (p : Piles) (zones : ℕ) → MarkingInvariant h p → NoneLeft c h.looks
    → IsScanned c p h.looks → AreFor h.shape (cell_colour c) zones → IsFixed h (cell_colour c) zones
fixed_by mark.Black h p zones inv none bare are = record {
  values = λ m n v e bm bn here. elim (inv.weak.black m n v e bm bn (are (zone_of h.shape v) here)) [
    | inl b ↦ b
    | inr (inl c) ↦ absurd (nothing_in_none m (subst (λ zs. Contains zs m) bare c))
    | inr (inr (inl c)) ↦ absurd (nothing_in_none n (subst (λ zs. Contains zs n) bare c))
    | inr (inr (inr l)) ↦ absurd (none_left h mark.Black none none m n v e l)
  ];
  keys = λ m n v d e is bm bd here. elim (inv.holds.key_closed m n v d e is bm bd) [
    | inl b ↦ b
    | inr (inl f) ↦ absurd (none_to_follow m f)
    | inr (inr (inl f)) ↦ absurd (none_to_follow d f)
    | inr (inr (inr l)) ↦ absurd (none_left h mark.Black none none m n v e l)
  ];
}
  where
    none_to_follow : (x : Place) → IsToFollow [] p x → ⊥
    none_to_follow x (inl c) = nothing_in_none x (subst (λ zs. Contains zs x) bare c)
    none_to_follow x (inr (inl c)) = nothing_in_none x (subst (λ zs. Contains zs x) inv.none_woken c)
    none_to_follow x (inr (inr c)) = nothing_in_none x c
fixed_by mark.Gray h p zones inv none (bare, gray, black) are = record {
  values = λ m n v e sm sn here. elim (inv.weak.gray m n v e sm sn ((are (zone_of h.shape v)).0 here)) [
    | inl b ↦ b
    | inr (inl c) ↦ absurd (empty m c)
    | inr (inr (inl c)) ↦ absurd (empty n c)
    | inr (inr (inr l)) ↦ absurd (none_left h mark.Gray none black m n v e l)
  ];
  keys = λ m n v d e is sm sd here. elim (inv.weak.gray_key m n v d e is sm sd ((are (zone_of h.shape n)).0 here)) [
    | inl b ↦ b
    | inr (inl c) ↦ absurd (empty m c)
    | inr (inr (inl c)) ↦ absurd (empty d c)
    | inr (inr (inr l)) ↦ absurd (none_left h mark.Gray none black m n v e l)
  ];
}
  where
    empty : (x : Place) → IsPiled p x → ⊥
    empty x (inl c) = nothing_in_none x (subst (λ zs. Contains zs x) bare c)
    empty x (inr c) = nothing_in_none x (subst (λ zs. Contains zs x) gray c)
