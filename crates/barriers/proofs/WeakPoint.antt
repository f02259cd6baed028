-- What keeps the point on weak entries.
use Rattle.std.proofs.Common.{◌≡◌, ◌⊎◌, true, inl, inr, refl, sym, ap, ◌∙◌, subst, Contains, List, ◌∷◌, Option}
use Rattle.std.proofs.Common.{Some, arith}
use Rattle.std.specs.Prelude.{unwrap_or}
use Rattle.std.specs.List.Sorted.{IsPermutation}
use Rattle.gz_names.specs.declared.numbers.Place.{Place}
use Rattle.zones.specs.declared.states.State.TheVariants as state
use Rattle.mark_stack.specs.Stack.{Piles, IsPushed}
use Rattle.mark_stack.specs.declared.stack.Pile.TheVariants as pile
use Rattle.mark_stack.proofs.Pushed.{black_alone, gray_alone, more_cases}
use Rattle.weak_maps.specs.WeakMaps.{WeakTableState, delegate_of}
use Rattle.weak_maps.specs.declared.colours.MarkColour.{MarkColour}
use Rattle.weak_maps.specs.declared.colours.MarkColour.TheVariants as mark
use Rattle.heap_core.specs.Shape.{IsDelegate, Shape, is_marking, is_marking_state, state_in, state_of, zone_of}
use Rattle.heap_core.specs.Heap.{HeapState, colour_of}
use Rattle.barriers.specs.Reached.{HasEntry}
use Rattle.barriers.specs.Colours.{IsBlack, IsGray, IsSeen}
use Rattle.barriers.specs.Invariant.{ColourInvariant, ShapeInvariant}
use Rattle.barriers.specs.Spreading.{Spreads, Turns}
use Rattle.barriers.specs.WeakPoint.{BlackOrLeft, IsPiled, Left, SeenOrLeft, SeenOrLeftKey, WeakPoint, left_of}
use Rattle.barriers.proofs.Blackening.{marking_or_not}
use Rattle.barriers.proofs.Turning.{turn_effect}

-- a zone that takes gray is marking
pub takes_marking : (s : Shape) (v : Place) → state_of s v ≡ state.MarkBlackAndGray → is_marking s v ≡ true
takes_marking s v e = ap is_marking_state e

-- a cell of an entry whose value's zone is marking lies in a marking zone
same_zone : (s : Shape) (x v : Place) → zone_of s x ≡ zone_of s v → is_marking s v ≡ true → is_marking s x ≡ true
same_zone s x v e on = ap (λ z. is_marking_state (state_in s z)) e ∙ on

-- black spread: what turned black is on the black pile
module _ (P : Place → Type 0) (h : HeapState) (p : Piles) (k : HeapState) (q : Piles) (left : Left)
    (sp : Spreads P h p k q) (colours : ColourInvariant h) (w : WeakPoint h p left) where
  abbrev shape : ShapeInvariant h.shape
  shape = colours.shape

  same : k.shape ≡ h.shape
  same = ap (λ (z : HeapState). z.shape) sp.blackens.rest

  was_black : (x v : Place) → zone_of h.shape x ≡ zone_of h.shape v → is_marking h.shape v ≡ true → IsBlack k x
      → IsBlack h x ⊎ Contains q.black x
  was_black x v e on b = sp.fresh x b (same_zone h.shape x v e on)

  was_seen : (x v : Place) → zone_of h.shape x ≡ zone_of h.shape v → is_marking h.shape v ≡ true → IsSeen k x
      → IsSeen h x ⊎ Contains q.black x
  was_seen x v e on (inr b) = elim (was_black x v e on b) [ inl was ↦ inl (inr was) | inr c ↦ inr c ]
  was_seen x v e on (inl g) = elim (sp.blackens.others x) [ inl b ↦ cc (b, g) | inr d ↦ inl (inl (sym d ∙ g)) ]

  seen_still : (x : Place) → IsSeen h x → IsSeen k x
  seen_still x (inr b) = inr (sp.blackens.kept x b)
  seen_still x (inl g) = elim (sp.blackens.others x) [ inl b ↦ inr b | inr d ↦ inl (d ∙ g) ]

  piled : (x : Place) → IsPiled p x → IsPiled q x
  piled x (inl c) = inl (sp.pile_kept x c)
  piled x (inr c) = inr (subst (λ zs. Contains zs x) (sym sp.gray_is) c)

  black_here : (m n v : Place) → HasEntry h.shape m n v → IsBlack k m → IsBlack k n → is_marking h.shape v ≡ true
      → BlackOrLeft k q left m n v
  black_here m n v e bm bn on = elim (was_black m v (shape.one_zone m n v e).0 on bm) [
    | inr c ↦ inr (inl c)
    | inl wm ↦ elim (was_black n v (shape.one_zone m n v e).1 on bn) [
      | inr c ↦ inr (inr (inl c))
      | inl wn ↦ elim (w.black m n v e wm wn on) [
        | inl b ↦ inl (sp.blackens.kept v b)
        | inr (inl c) ↦ inr (inl (sp.pile_kept m c))
        | inr (inr (inl c)) ↦ inr (inr (inl (sp.pile_kept n c)))
        | inr (inr (inr l)) ↦ inr (inr (inr l))
      ]
    ]
  ]

  gray_here : (m n v : Place) → HasEntry h.shape m n v → IsSeen k m → IsSeen k n
      → state_of h.shape v ≡ state.MarkBlackAndGray → SeenOrLeft k q left m n v
  gray_here m n v e sm sn takes = elim (was_seen m v (shape.one_zone m n v e).0 (takes_marking h.shape v takes) sm) [
    | inr c ↦ inr (inl (inl c))
    | inl wm ↦ elim (was_seen n v (shape.one_zone m n v e).1 (takes_marking h.shape v takes) sn) [
      | inr c ↦ inr (inr (inl (inl c)))
      | inl wn ↦ elim (w.gray m n v e wm wn takes) [
        | inl s ↦ inl (seen_still v s)
        | inr (inl c) ↦ inr (inl (piled m c))
        | inr (inr (inl c)) ↦ inr (inr (inl (piled n c)))
        | inr (inr (inr l)) ↦ inr (inr (inr l))
      ]
    ]
  ]

  -- a delegate may lie in any zone
  delegate_seen : (n d : Place) → IsDelegate h.shape n d → IsSeen k d → IsSeen h d ⊎ Contains q.black d
  delegate_seen n d is s = elim (marking_or_not h.shape d) [
    | inl on ↦ was_seen d d refl on s
    | inr off ↦ inl (colours.no_white d (shape.targets n d (0, omega arith, is.1)) off)
  ]

  gray_key_here : (m n v d : Place) → HasEntry h.shape m n v → IsDelegate h.shape n d → IsSeen k m → IsSeen k d
      → state_of h.shape n ≡ state.MarkBlackAndGray → SeenOrLeftKey k q left m d n
  gray_key_here m n v d e is sm sd takes =
      let zones = shape.one_zone m n v e in
      elim (was_seen m n (zones.0 ∙ sym zones.1) (takes_marking h.shape n takes) sm) [
        | inr c ↦ inr (inl (inl c))
        | inl wm ↦ elim (delegate_seen n d is sd) [
          | inr c ↦ inr (inr (inl (inl c)))
          | inl wd ↦ elim (w.gray_key m n v d e is wm wd takes) [
            | inl s ↦ inl (seen_still n s)
            | inr (inl c) ↦ inr (inl (piled m c))
            | inr (inr (inl c)) ↦ inr (inr (inl (piled d c)))
            | inr (inr (inr l)) ↦ inr (inr (inr l))
          ]
        ]
      ]

  pub spreads_keep : WeakPoint k q left
  spreads_keep = record {
    black = λ m n v e bm bn on. black_here m n v (subst (λ (s : Shape). HasEntry s m n v) same e) bm bn
        (subst (λ (s : Shape). is_marking s v ≡ true) same on);
    gray = λ m n v e sm sn takes. gray_here m n v (subst (λ (s : Shape). HasEntry s m n v) same e) sm sn
        (subst (λ (s : Shape). state_of s v ≡ state.MarkBlackAndGray) same takes);
    gray_key = λ m n v d e is sm sd takes. gray_key_here m n v d (subst (λ (s : Shape). HasEntry s m n v) same e)
        (subst (λ (s : Shape). IsDelegate s n d) same is) sm sd
        (subst (λ (s : Shape). state_of s n ≡ state.MarkBlackAndGray) same takes);
  }

-- other colours, and what is left as it was
pub left_same : (h : HeapState) (p : Piles) (k : HeapState) (q : Piles) → k ≡ record h { colours = k.colours }
    → WeakPoint k q (left_of h) → WeakPoint k q (left_of k)
left_same h p k q rest w = subst (λ (z : HeapState). WeakPoint k q (left_of z)) (sym rest) w

pub spread_point : (P : Place → Type 0) (h : HeapState) (p : Piles) (k : HeapState) (q : Piles) → Spreads P h p k q
    → ColourInvariant h → WeakPoint h p (left_of h) → WeakPoint k q (left_of k)
spread_point P h p k q sp colours w =
    left_same h p k q sp.blackens.rest (spreads_keep P h p k q (left_of h) sp colours w)

-- the entries of a map, and those of a key, are left in a colour now, and each that was left still is
pub record StartsEntries (s : Shape) (c : MarkColour) (x : Place) (old new : Left) : Type 0 where
  pub kept : (d : MarkColour) (m k : Place) → old d m k → new d m k
  pub as_map : (k : Place) → new c x k
  pub as_key : (m : Place) → new c m x
  pub as_delegate : (m k : Place) → delegate_of s.weak m k ≡ Some x → new c m k

-- what is left in black is left in gray too
abbrev pub IsWeaker : Left → Type 0
IsWeaker left = (m k : Place) → left mark.Black m k → left mark.Gray m k

-- a cell was taken from the black pile, and its entries are left in black now
black_taken : (h : HeapState) (p : Piles) (x : Place) (more : List Place) (old new : Left)
    → IsPermutation (x ∷ p.black) more → WeakPoint h (record p { black = more }) old
    → ShapeInvariant h.shape → StartsEntries h.shape mark.Black x old new → IsWeaker new → WeakPoint h p new
black_taken h p x more old new is_more w shape s weaker = record {
  black = λ m n v e bm bn on. elim (w.black m n v e bm bn on) [
    | inl b ↦ inl b
    | inr (inl c) ↦ elim (more_cases p.black more x m is_more c)
        [ inl still ↦ inr (inl still) | inr is ↦ inr (inr (inr (at_map m n is))) ]
    | inr (inr (inl c)) ↦ elim (more_cases p.black more x n is_more c)
        [ inl still ↦ inr (inr (inl still)) | inr is ↦ inr (inr (inr (at_key m n is))) ]
    | inr (inr (inr l)) ↦ inr (inr (inr (s.kept mark.Black m n l)))
  ];
  gray = λ m n v e sm sn takes. elim (w.gray m n v e sm sn takes) [
    | inl b ↦ inl b
    | inr (inl (inr c)) ↦ inr (inl (inr c))
    | inr (inl (inl c)) ↦ elim (more_cases p.black more x m is_more c)
        [ inl still ↦ inr (inl (inl still)) | inr is ↦ inr (inr (inr (weaker m n (at_map m n is)))) ]
    | inr (inr (inl (inr c))) ↦ inr (inr (inl (inr c)))
    | inr (inr (inl (inl c))) ↦ elim (more_cases p.black more x n is_more c)
        [ inl still ↦ inr (inr (inl (inl still))) | inr is ↦ inr (inr (inr (weaker m n (at_key m n is)))) ]
    | inr (inr (inr l)) ↦ inr (inr (inr (s.kept mark.Gray m n l)))
  ];
  gray_key = λ m n v d e is sm sd takes. elim (w.gray_key m n v d e is sm sd takes) [
    | inl b ↦ inl b
    | inr (inl (inr c)) ↦ inr (inl (inr c))
    | inr (inl (inl c)) ↦ elim (more_cases p.black more x m is_more c)
        [ inl still ↦ inr (inl (inl still)) | inr at ↦ inr (inr (inr (weaker m n (at_map m n at)))) ]
    | inr (inr (inl (inr c))) ↦ inr (inr (inl (inr c)))
    | inr (inr (inl (inl c))) ↦ elim (more_cases p.black more x d is_more c) [
      | inl still ↦ inr (inr (inl (inl still)))
      | inr at ↦ inr (inr (inr (weaker m n (at_delegate m n v d e is at))))
    ]
    | inr (inr (inr l)) ↦ inr (inr (inr (s.kept mark.Gray m n l)))
  ];
}
  where
    at_delegate : (m n v d : Place) → HasEntry h.shape m n v → IsDelegate h.shape n d → x ≡ d → new mark.Black m n
    at_delegate m n v d e is at =
        s.as_delegate m n ((shape.delegates m n v d e).0 is ∙ ap (λ z. Some z) (sym at))

    at_map : (m n : Place) → x ≡ m → new mark.Black m n
    at_map m n is = subst (λ z. new mark.Black z n) is (s.as_map n)

    at_key : (m n : Place) → x ≡ n → new mark.Black m n
    at_key m n is = subst (λ z. new mark.Black m z) is (s.as_key m)

pub black_starts : (h : HeapState) (p q : Piles) (x : Place) (old new : Left) → IsPushed p pile.Black x q
    → WeakPoint h q old → ShapeInvariant h.shape → StartsEntries h.shape mark.Black x old new → IsWeaker new
    → WeakPoint h p new
black_starts h p q x old new e w shape s weaker = black_taken h p x q.black old new e.more
    (subst (λ (z : Piles). WeakPoint h z old) (black_alone p q x e) w) shape s weaker

gray_taken : (h : HeapState) (p : Piles) (x : Place) (more : List Place) (old new : Left)
    → IsPermutation (x ∷ p.gray) more → WeakPoint h (record p { gray = more }) old
    → ShapeInvariant h.shape → StartsEntries h.shape mark.Gray x old new → WeakPoint h p new
gray_taken h p x more old new is_more w shape s = record {
  black = λ m n v e bm bn on. elim (w.black m n v e bm bn on) [
    | inl b ↦ inl b
    | inr (inl c) ↦ inr (inl c)
    | inr (inr (inl c)) ↦ inr (inr (inl c))
    | inr (inr (inr l)) ↦ inr (inr (inr (s.kept mark.Black m n l)))
  ];
  gray = λ m n v e sm sn takes. elim (w.gray m n v e sm sn takes) [
    | inl b ↦ inl b
    | inr (inl (inl c)) ↦ inr (inl (inl c))
    | inr (inl (inr c)) ↦ elim (more_cases p.gray more x m is_more c)
        [ inl still ↦ inr (inl (inr still)) | inr is ↦ inr (inr (inr (at_map m n is))) ]
    | inr (inr (inl (inl c))) ↦ inr (inr (inl (inl c)))
    | inr (inr (inl (inr c))) ↦ elim (more_cases p.gray more x n is_more c)
        [ inl still ↦ inr (inr (inl (inr still))) | inr is ↦ inr (inr (inr (at_key m n is))) ]
    | inr (inr (inr l)) ↦ inr (inr (inr (s.kept mark.Gray m n l)))
  ];
  gray_key = λ m n v d e is sm sd takes. elim (w.gray_key m n v d e is sm sd takes) [
    | inl b ↦ inl b
    | inr (inl (inl c)) ↦ inr (inl (inl c))
    | inr (inl (inr c)) ↦ elim (more_cases p.gray more x m is_more c)
        [ inl still ↦ inr (inl (inr still)) | inr at ↦ inr (inr (inr (at_map m n at))) ]
    | inr (inr (inl (inl c))) ↦ inr (inr (inl (inl c)))
    | inr (inr (inl (inr c))) ↦ elim (more_cases p.gray more x d is_more c) [
      | inl still ↦ inr (inr (inl (inr still)))
      | inr at ↦ inr (inr (inr (s.as_delegate m n ((shape.delegates m n v d e).0 is ∙ ap (λ z. Some z) (sym at)))))
    ]
    | inr (inr (inr l)) ↦ inr (inr (inr (s.kept mark.Gray m n l)))
  ];
}
  where
    at_map : (m n : Place) → x ≡ m → new mark.Gray m n
    at_map m n is = subst (λ z. new mark.Gray z n) is (s.as_map n)

    at_key : (m n : Place) → x ≡ n → new mark.Gray m n
    at_key m n is = subst (λ z. new mark.Gray m z) is (s.as_key m)

-- a cell was taken from the gray pile, and its entries are left in gray now
pub gray_starts : (h : HeapState) (p q : Piles) (x : Place) (old new : Left) → IsPushed p pile.Gray x q
    → WeakPoint h q old → ShapeInvariant h.shape → StartsEntries h.shape mark.Gray x old new → WeakPoint h p new
gray_starts h p q x old new e w shape s = gray_taken h p x q.gray old new e.more
    (subst (λ (z : Piles). WeakPoint h z old) (gray_alone p q x e) w) shape s

-- each other entry that was left still is
abbrev pub LeavesOthers : Place → Place → Left → Left → Type 0
LeavesOthers a b old new = (d : MarkColour) (m k : Place) → old d m k → new d m k ⊎ ((m ≡ a) × (k ≡ b))

-- one entry was looked at: its value has at least the weaker of the colours of its map and its key, and its key is seen
-- if its map and its delegate are
pub record Looks (h : HeapState) (a b : Place) (old new : Left) : Type 0 where
  pub others : LeavesOthers a b old new
  pub black : (v : Place) → HasEntry h.shape a b v → IsBlack h a → IsBlack h b → is_marking h.shape v ≡ true
      → IsBlack h v
  pub gray : (v : Place) → HasEntry h.shape a b v → IsSeen h a → IsSeen h b
      → state_of h.shape v ≡ state.MarkBlackAndGray → IsSeen h v
  pub gray_key : (d : Place) → IsDelegate h.shape b d → IsSeen h a → IsSeen h d
      → state_of h.shape b ≡ state.MarkBlackAndGray → IsSeen h b

pub looks_keep : (h : HeapState) (p : Piles) (a b : Place) (old new : Left) → WeakPoint h p old → Looks h a b old new
    → WeakPoint h p new
looks_keep h p a b old new w s = record {
  black = λ m n v e bm bn on. elim (w.black m n v e bm bn on) [
    | inl d ↦ inl d
    | inr (inl c) ↦ inr (inl c)
    | inr (inr (inl c)) ↦ inr (inr (inl c))
    | inr (inr (inr l)) ↦ elim (s.others mark.Black m n l)
        [ inl still ↦ inr (inr (inr still)) | inr is ↦ inl (done_black m n v is.0 is.1 e bm bn on) ]
  ];
  gray = λ m n v e sm sn takes. elim (w.gray m n v e sm sn takes) [
    | inl d ↦ inl d
    | inr (inl c) ↦ inr (inl c)
    | inr (inr (inl c)) ↦ inr (inr (inl c))
    | inr (inr (inr l)) ↦ elim (s.others mark.Gray m n l)
        [ inl still ↦ inr (inr (inr still)) | inr is ↦ inl (done_gray m n v is.0 is.1 e sm sn takes) ]
  ];
  gray_key = λ m n v d e is sm sd takes. elim (w.gray_key m n v d e is sm sd takes) [
    | inl b ↦ inl b
    | inr (inl c) ↦ inr (inl c)
    | inr (inr (inl c)) ↦ inr (inr (inl c))
    | inr (inr (inr l)) ↦ elim (s.others mark.Gray m n l)
        [ inl still ↦ inr (inr (inr still)) | inr at ↦ inl (done_key m n d at.0 at.1 is sm sd takes) ]
  ];
}
  where
    done_key : (m n d : Place) → m ≡ a → n ≡ b → IsDelegate h.shape n d → IsSeen h m → IsSeen h d
        → state_of h.shape n ≡ state.MarkBlackAndGray → IsSeen h n
    done_key m n d e f = subst (λ z. IsDelegate h.shape n d → IsSeen h z → IsSeen h d
        → state_of h.shape n ≡ state.MarkBlackAndGray → IsSeen h n) (sym e)
        (subst (λ z. IsDelegate h.shape z d → IsSeen h a → IsSeen h d → state_of h.shape z ≡ state.MarkBlackAndGray
        → IsSeen h z) (sym f) (s.gray_key d))

    done_black : (m n v : Place) → m ≡ a → n ≡ b → HasEntry h.shape m n v → IsBlack h m → IsBlack h n
        → is_marking h.shape v ≡ true → IsBlack h v
    done_black m n v e f = subst (λ z. HasEntry h.shape z n v → IsBlack h z → IsBlack h n → is_marking h.shape v ≡ true
        → IsBlack h v) (sym e)
        (subst (λ z. HasEntry h.shape a z v → IsBlack h a → IsBlack h z → is_marking h.shape v ≡ true → IsBlack h v)
        (sym f) (s.black v))

    done_gray : (m n v : Place) → m ≡ a → n ≡ b → HasEntry h.shape m n v → IsSeen h m → IsSeen h n
        → state_of h.shape v ≡ state.MarkBlackAndGray → IsSeen h v
    done_gray m n v e f =
        subst (λ z. HasEntry h.shape z n v → IsSeen h z → IsSeen h n → state_of h.shape v ≡ state.MarkBlackAndGray
        → IsSeen h v) (sym e)
        (subst (λ z. HasEntry h.shape a z v → IsSeen h a → IsSeen h z → state_of h.shape v ≡ state.MarkBlackAndGray
        → IsSeen h v) (sym f) (s.gray v))

-- an entry has one value
pub one_value : (s : Shape) (a b v w : Place) → HasEntry s a b v → HasEntry s a b w → v ≡ w
one_value s a b v w e f = ap (λ (o : Option Place). unwrap_or o v) (sym e ∙ f)

-- the key of an entry is seen if its map and its delegate are, where its zone takes gray
abbrev pub IsKeyRaised : HeapState → Place → Place → Type 0
IsKeyRaised h a b = (d : Place) → IsDelegate h.shape b d → IsSeen h a → IsSeen h d
    → state_of h.shape b ≡ state.MarkBlackAndGray → IsSeen h b

-- a look at an entry of a black map and a black key
pub look_black : (h : HeapState) (p : Piles) (a b v : Place) (k : HeapState) (q : Piles) (old new : Left)
    → ColourInvariant h → WeakPoint h p old → HasEntry h.shape a b v → IsBlack h b → Turns h p v k q
    → LeavesOthers a b old new → WeakPoint k q new
look_black h p a b v k q old new colours w e bb turns others =
    let ef = turn_effect h p v k q turns in
    let alike : k.shape ≡ h.shape = ap (λ (z : HeapState). z.shape) ef.grows.spreads.blackens.rest in
    let is : (u : Place) → HasEntry k.shape a b u
    → IsBlack k u = λ u f.
    subst (λ z. IsBlack k z) (one_value h.shape a b v u e (subst (λ (s : Shape). HasEntry s a b u) alike f))
    ef.is_black in
    looks_keep k q a b old new (spreads_keep (λ y. y ≡ v) h p k q old ef.grows.spreads colours w) (record {
      others = others;
      black = λ u f ba bb on. is u f;
      gray = λ u f sa sb takes. inr (is u f);
      gray_key = λ d f sa sd takes. inr (ef.grows.spreads.blackens.kept b bb);
    })

-- a look that has nothing to do: map and key are not both black, and not both seen where the zone takes gray
pub look_none : (h : HeapState) (p : Piles) (a b v : Place) (old new : Left) → WeakPoint h p old
    → HasEntry h.shape a b v → (IsBlack h a → IsBlack h b → ⊥)
    → (IsSeen h a → IsSeen h b → state_of h.shape v ≡ state.MarkBlackAndGray → ⊥) → IsKeyRaised h a b
    → LeavesOthers a b old new → WeakPoint h p new
look_none h p a b v old new w e not none raised others = looks_keep h p a b old new w (record {
  others = others;
  black = λ u f ba bb on. absurd (not ba bb);
  gray = λ u f sa sb t.
      absurd (none sa sb (subst (λ z. state_of h.shape z ≡ state.MarkBlackAndGray) (sym (one_value h.shape a b v u e f))
      t));
  gray_key = raised;
})

-- zones begin to take gray: no cell of theirs is gray, so the point of black covers values. Delegates may be gray
-- elsewhere: the entries of black maps whose key is a wrapper are left in gray
pub gray_begins : (h : HeapState) (p : Piles) (k : HeapState) (left : Left) → IsWeaker left → ShapeInvariant h.shape
    → ((x : Place) → state_of h.shape x ≡ state.MarkBlackOnly → IsGray h x → ⊥) → k.shape.weak ≡ h.shape.weak
    → ((x : Place) → colour_of k x ≡ colour_of h x) → ((x : Place) → is_marking k.shape x ≡ is_marking h.shape x)
    → ((n d : Place) → IsDelegate k.shape n d → IsDelegate h.shape n d)
    → ((v : Place) → state_of k.shape v ≡ state.MarkBlackAndGray → (state_of h.shape v ≡ state.MarkBlackAndGray)
    ⊎ (state_of h.shape v ≡ state.MarkBlackOnly))
    → ((m n v d : Place) → HasEntry h.shape m n v → IsDelegate h.shape n d → IsBlack h m
    → state_of h.shape n ≡ state.MarkBlackOnly → state_of k.shape n ≡ state.MarkBlackAndGray → left mark.Gray m n)
    → WeakPoint h p left → WeakPoint k p left
gray_begins h p k left weaker shape no_gray weak colours marking same_delegates states maps_left w = record {
  black = λ m n v e bm bn on.
      elim (w.black m n v (entry m n v e) (sym (colours m) ∙ bm) (sym (colours n) ∙ bn) (sym (marking v) ∙ on)) [
        | inl b ↦ inl (colours v ∙ b)
        | inr c ↦ inr c
      ];
  gray = λ m n v e sm sn takes. elim (states v takes) [
    | inl did ↦ elim (w.gray m n v (entry m n v e) (seen m sm) (seen n sn) did)
        [ inl s ↦ inl (seen_now v s) | inr c ↦ inr c ]
    | inr begins ↦ elim (w.black m n v (entry m n v e)
        (black m v (shape.one_zone m n v (entry m n v e)).0 begins (seen m sm))
        (black n v (shape.one_zone m n v (entry m n v e)).1 begins (seen n sn)) (ap is_marking_state begins)) [
          | inl b ↦ inl (inr (colours v ∙ b))
          | inr (inl c) ↦ inr (inl (inl c))
          | inr (inr (inl c)) ↦ inr (inr (inl (inl c)))
          | inr (inr (inr l)) ↦ inr (inr (inr (weaker m n l)))
        ]
  ];
  gray_key = λ m n v d e is sm sd takes.
      let zones = shape.one_zone m n v (entry m n v e) in
      elim (states n takes) [
        | inl did ↦ elim (w.gray_key m n v d (entry m n v e) (same_delegates n d is) (seen m sm) (seen d sd) did)
            [ inl s ↦ inl (seen_now n s) | inr c ↦ inr c ]
        | inr begins ↦ inr (inr (inr (maps_left m n v d (entry m n v e) (same_delegates n d is)
            (black m n (zones.0 ∙ sym zones.1) begins (seen m sm)) begins takes)))
      ];
}
  where
    entry : (m n v : Place) → HasEntry k.shape m n v → HasEntry h.shape m n v
    entry m n v e = subst (λ (z : WeakTableState). HasEntry (record h.shape { weak = z }) m n v) weak e

    seen : (x : Place) → IsSeen k x → IsSeen h x
    seen x (inl g) = inl (sym (colours x) ∙ g)
    seen x (inr b) = inr (sym (colours x) ∙ b)

    seen_now : (x : Place) → IsSeen h x → IsSeen k x
    seen_now x (inl g) = inl (colours x ∙ g)
    seen_now x (inr b) = inr (colours x ∙ b)

    black : (x v : Place) → zone_of h.shape x ≡ zone_of h.shape v → state_of h.shape v ≡ state.MarkBlackOnly
        → IsSeen h x → IsBlack h x
    black x v e st (inr b) = b
    black x v e st (inl g) = absurd (no_gray x (ap (state_in h.shape) e ∙ st) g)
