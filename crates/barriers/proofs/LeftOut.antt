-- The walk of exposure while zones are being prepared.
use Rattle.std.proofs.Common.{◌≡◌, ◌⊎◌, ◌+◌, ◌<◌, ◌∷◌, ℕ, inl, inr, sym, ap, subst, ◌∙◌, arith}
use Rattle.std.proofs.Common.{List, [], Contains, Option, Some, None, length}
use Rattle.std.specs.List.Sorted.{IsPermutation}
use Rattle.std.proofs.lemmas.Option.{slice_get_within}
use Rattle.gz_names.specs.declared.numbers.Place.{Place}
use Rattle.cell_bits.specs.declared.bits.Bits.{Bits}
use Rattle.mark_stack.specs.Stack.{IsPushed, Piles, no_places}
use Rattle.mark_stack.specs.declared.stack.Pile.TheVariants as pile
use Rattle.mark_stack.proofs.Pushed.{black_wake, gray_wake, more_cases, more_has, more_kept, wake_alone}
use Rattle.weak_maps.specs.WeakMaps.{delegate_of}
use Rattle.weak_maps.specs.declared.entries.WeakEntry.{WeakEntry}
use Rattle.heap_core.specs.MarkBits.{TakesBlack}
use Rattle.heap_core.specs.Shape.{Shape, HasEdge, IsDelegate, IsPresent, field_at, is_prepare_state, state_in}
use Rattle.heap_core.specs.Heap.{HeapState, colour_in, colour_of, without_delayed}
use Rattle.barriers.specs.declared.parts.Part.{Part}
use Rattle.barriers.specs.declared.parts.Part.TheVariants as part
use Rattle.barriers.specs.Reached.{HasEntry}
use Rattle.barriers.specs.Colours.{IsBlack}
use Rattle.barriers.specs.Exposing.{BlackOr}
use Rattle.barriers.specs.Following.{Follows, IsWaiting}
use Rattle.barriers.specs.Invariant.{IsToFollow, ShapeInvariant}
use Rattle.barriers.specs.LeftOut.{Counts, ExposesLeftOut, IsFollowedLeftOut, PreparingColours, PreparingInvariant}
use Rattle.barriers.specs.LeftOut.{PreparingWhile, ReachedLeftOut, TurnsLeftOut, TurnsWithLeftOut}
use Rattle.barriers.specs.LeftOut as reached
use Rattle.barriers.specs.Pending.{pending}
use Rattle.barriers.specs.Spreading.{Blackened, Blackens, Grows, Turns}
use Rattle.barriers.proofs.Blackening.{arena_there, turned_black}
use Rattle.barriers.proofs.Following.{follows_kept, from_wake, newly_black, split_followed, waits_then}
use Rattle.barriers.proofs.LiveClosure.{seen_kept}
use Rattle.barriers.proofs.Places.{nothing_in_none}
use Rattle.barriers.proofs.Slots.{not_black_bit}
use Rattle.barriers.proofs.Queueing.{pending_same}
use Rattle.barriers.proofs.Spreading.{blackens_more, blackens_none, grows_none, grows_within, shape_is}
use Rattle.barriers.proofs.Turning.{turn_effect}
use Rattle.barriers.proofs.Walks.{Drains, EntriesFollowed, FollowSteps, Scanned, Walk, all_followed, follow_grows}
use Rattle.barriers.proofs.Walks.{grows_on, same_shape, scan_step, still_black}

-- the arena of a present cell has bits
pub within_left_out : (h : HeapState) (p : Piles) (x : Place) → PreparingColours (without_delayed h) p
    → IsPresent h.shape x → x.0 < length h.colours
within_left_out h p x inv present =
    let arena = arena_there h.shape x present in
    omega (arith, slice_get_within h.shape.arenas x.0 arena.0 arena.1, inv.sized)

-- what is reached from cells that are reached
pub left_out_from : (s : Shape) (P Q : Place → Type 0) → ((y : Place) → Counts s y → P y → ReachedLeftOut s Q y)
    → {x : Place} → ReachedLeftOut s P x → ReachedLeftOut s Q x
left_out_from s P Q f (reached.from counts p) = f _ counts p
left_out_from s P Q f (reached.along r e counts) = reached.along (left_out_from s P Q f r) e counts
left_out_from s P Q f (reached.weak e counts m k) =
    reached.weak e counts (left_out_from s P Q f m) (left_out_from s P Q f k)
left_out_from s P Q f (reached.delegate e is counts m d) =
    reached.delegate e is counts (left_out_from s P Q f m) (left_out_from s P Q f d)

-- what is reached counts
pub reached_counts : (s : Shape) (P : Place → Type 0) {x : Place} → ReachedLeftOut s P x → Counts s x
reached_counts s P (reached.from counts p) = counts
reached_counts s P (reached.along r e counts) = counts
reached_counts s P (reached.weak e counts m k) = counts
reached_counts s P (reached.delegate e is counts m d) = counts

-- a cell whose colour counts turned black by its bits
taken_black : (h m : HeapState) (p : Piles) (x : Place) → PreparingColours (without_delayed h) p → IsPresent h.shape x
    → Counts h.shape x → TakesBlack h x m → Blackened (without_delayed h) x (without_delayed m)
taken_black h m p x inv present counts t =
    let fresh : IsBlack h x
    → ⊥ = λ b. not_black_bit t.before x.1 t.sets.was (sym (ap (λ (o : Option Bits). colour_in o x.1) t.found) ∙ b) in
    subst (λ (z : HeapState). Blackened (without_delayed h) x z)
    (sym (ap (λ (z : HeapState). without_delayed z) t.new_is))
    (turned_black (without_delayed h) x t.before t.after (λ off. inv.seen x present counts) present t.found t.sets
    fresh)

module _ (h m : HeapState) (s : Piles) (x : Place) (inv : PreparingColours (without_delayed h) (pending h s))
    (present : IsPresent h.shape x) (counts : Counts h.shape x) (takes : TakesBlack h x m) where
  turned : Blackened (without_delayed h) x (without_delayed m)
  turned = taken_black h m (pending h s) x inv present counts takes

  same_pending : pending m s ≡ pending h s
  same_pending = pending_same h m s (ap (λ (z : HeapState). z.delayed) takes.new_is)

  -- it was not pending, and now it is
  pub not_pending : Contains (pending m s).wake x → ⊥
  not_pending c = turned.was (inv.wake x (subst (λ (q : Piles). Contains q.wake x) same_pending c)).0

  pub turned_left_out : (k : HeapState) (t : Piles) → IsPushed (pending m s) pile.Wake x (pending k t)
      → k ≡ record m { delayed = k.delayed } → Turns (without_delayed h) (pending h s) x (without_delayed k) (pending
      k t)
  turned_left_out k t pushed rest = inr (inr (
    subst (λ (z : HeapState). Blackened (without_delayed h) x z)
        (sym (ap (λ (z : HeapState). without_delayed z) rest)) turned,
    inv.none_marking x,
    subst (λ (q : Piles). IsPushed q pile.Wake x (pending k t)) same_pending pushed,
  ))

-- what turning a cell black keeps, and what spreading on does
module _ (h : HeapState) (ds : List Bits) (p q : Piles) where
  abbrev dark : HeapState
  dark = record h { colours = ds }

  colours_kept : (t : Place) → Blackened h t dark → IsPushed p pile.Wake t q → Counts h.shape t → PreparingColours h p
      → PreparingColours dark q
  colours_kept t turned pushed counts inv =
      let bl : Blackens (λ y. y ≡ t) h dark =
      (turn_effect h p t dark q (inr (inr (turned, inv.none_marking t, pushed)))).grows.spreads.blackens in
      record {
        shape = inv.shape;
        sized = turned.sized ∙ inv.sized;
        none_out = inv.none_out;
        none_marking = inv.none_marking;
        seen_present = λ y seen. elim (bl.others y) [
          | inl b ↦ elim (bl.only y b) [
            | inl was ↦ inv.seen_present y (inr was)
            | inr is ↦ subst (λ z. IsPresent h.shape z) (sym is) turned.present
          ]
          | inr e ↦ elim seen [
            | inl g ↦ inv.seen_present y (inl (sym e ∙ g))
            | inr b ↦ inv.seen_present y (inr (sym e ∙ b))
          ]
        ];
        seen = λ y present c. seen_kept (λ z. z ≡ t) h dark bl y (inv.seen y present c);
        regs_black = λ y c d. bl.kept y (inv.regs_black y c d);
        black = pushed.others pile.Black black_wake ∙ inv.black;
        gray = pushed.others pile.Gray gray_wake ∙ inv.gray;
        wake = λ y c. elim (more_cases p.wake q.wake t y pushed.more c) [
          | inl old ↦ (bl.kept y (inv.wake y old).0, (inv.wake y old).1)
          | inr is ↦ (subst (λ z. IsBlack dark z) is turned.black, subst (λ z. Counts h.shape z) is counts)
        ];
      }

  module _ (P : Place → Type 0) (followed : List Place) (grows : Grows P h p dark q) where
    to : (x : Place) → IsToFollow followed p x → IsToFollow followed q x
    to x (inl c) = inl (grows.spreads.pile_kept x c)
    to x (inr (inl c)) = inr (inl (grows.wake_kept x c))
    to x (inr (inr c)) = inr (inr c)

    was_or_to : (x : Place) → IsBlack dark x → IsBlack h x ⊎ IsToFollow followed q x
    was_or_to x b = elim (newly_black P h p dark q x grows b) [
      | inl was ↦ inl was
      | inr w ↦ inr (waits_then followed q
          x w)
    ]

    holds_kept : PreparingWhile followed h p → PreparingColours dark q → PreparingWhile followed dark q
    holds_kept inv colours = record {
      colours = colours;
      closed = λ x y cx bx e cy. elim (was_or_to x bx) [
        | inr f ↦ inr f
        | inl was ↦ elim (inv.closed x y cx was e cy)
            [ inl by ↦ inl (grows.spreads.blackens.kept y by) | inr f ↦ inr (to x f) ]
      ];
      weak_closed = λ m n v e cv bm bn. elim (was_or_to m bm) [
        | inr f ↦ inr (inl f)
        | inl wm ↦ elim (was_or_to n bn) [
          | inr f ↦ inr (inr f)
          | inl wn ↦ elim (inv.weak_closed m n v e cv wm wn) [
            | inl bv ↦ inl (grows.spreads.blackens.kept v bv)
            | inr (inl f) ↦ inr (inl (to m f))
            | inr (inr f) ↦ inr (inr (to n f))
          ]
        ]
      ];
      key_closed = λ m n v d e is cn cd bm bd. elim (was_or_to m bm) [
        | inr f ↦ inr (inl f)
        | inl wm ↦ elim (was_or_to d bd) [
          | inr f ↦ inr (inr f)
          | inl wd ↦ elim (inv.key_closed m n v d e is cn cd wm wd) [
            | inl bn ↦ inl (grows.spreads.blackens.kept n bn)
            | inr (inl f) ↦ inr (inl (to m f))
            | inr (inr f) ↦ inr (inr (to d f))
          ]
        ]
      ];
    }

-- what turning a cell black gives, if its colour counts
pub record EffectLeftOut (h : HeapState) (p : Piles) (t : Place) (k : HeapState) (q : Piles) : Type 0 where
  pub grows : Grows (λ y. (y ≡ t) × Counts h.shape y) h p k q
  pub is_black : Counts h.shape t → IsBlack k t
  pub holds : (followed : List Place) → PreparingWhile followed h p → PreparingWhile followed k q

none_left_out : (h : HeapState) (p : Piles) (t : Place) (k : HeapState) (q : Piles) → (Counts h.shape t → IsBlack h t)
    → k ≡ h → q ≡ p → EffectLeftOut h p t k q
none_left_out h p t k q black ek eq =
    subst (λ (z : HeapState). EffectLeftOut h p t z q) (sym ek)
    (subst (λ (z : Piles). EffectLeftOut h p t h z) (sym eq)
    (record { grows = grows_none (λ y. (y ≡ t) × Counts h.shape y) h p; is_black = black; holds = λ followed w. w }))

pub effect_left_out : (h : HeapState) (p : Piles) (t : Place) (k : HeapState) (q : Piles) → PreparingColours h p
    → TurnsLeftOut h p t k q → EffectLeftOut h p t k q
effect_left_out h p t k q inv (inl (counts, inl (black, ek, eq))) = none_left_out h p t k q (λ c. black) ek eq
effect_left_out h p t k q inv (inl (counts, inr (inl (turned, on, pushed)))) =
    absurd (let off = inv.none_marking t in cc (on, off))
effect_left_out h p t k q inv (inl (counts, inr (inr (turned, off, pushed)))) =
    subst (λ (z : HeapState). Blackened h t z → EffectLeftOut h p t z q) (sym turned.rest)
    (λ tu. record {
      grows = grows_within (λ y. y ≡ t) (λ y. (y ≡ t) × Counts h.shape y) h p (record h { colours = k.colours }) q
          (turn_effect h p t (record h { colours = k.colours }) q (inr (inr (tu, off, pushed)))).grows
          (λ y is. (is, subst (λ z. Counts h.shape z) (sym is) counts));
      is_black = λ c. tu.black;
      holds = λ followed w. holds_kept h k.colours p q (λ y. y ≡ t) followed
          (turn_effect h p t (record h { colours = k.colours }) q (inr (inr (tu, off, pushed)))).grows w
          (colours_kept h k.colours p q t tu pushed counts w.colours);
    }) turned
effect_left_out h p t k q inv (inr (not, ek, eq)) = none_left_out h p t k q (λ c. absurd (not c)) ek eq

-- an entry that was followed stays so
pub kept_left_out : (h : HeapState) (p : Piles) (l : HeapState) (q : Piles) (e : WeakEntry)
    → Grows (ReachedLeftOut h.shape (IsBlack h)) h p l q → IsFollowedLeftOut h p e.map e.key e.value
    → IsFollowedLeftOut l q e.map e.key e.value
kept_left_out h p l q e grows was =
    let R : Place → Type 0 = ReachedLeftOut h.shape (IsBlack h) in
    let is : l.shape ≡ h.shape = same_shape R h p l q grows in
    let counts : (x : Place) → Counts l.shape x → Counts h.shape x = λ x c. subst (λ (s : Shape). Counts s x) is c in
    record {
      value = λ c. follows_kept R h p l q e.map e.key e.value grows (was.value (counts e.value c));
      key = λ d at ck cd. follows_kept R h p l q e.map d e.key grows
          (was.key d (subst (λ (s : Shape). IsDelegate s e.key d) is at) (counts e.key ck) (counts d cd));
    }

-- this walk: some cells are being followed, it turns black what is reached where colours count, and leaves out the rest
abbrev pub left_out_walk : List Place → Walk
left_out_walk followed = record {
  Holds = PreparingWhile followed;
  MayTurn = λ h. ReachedLeftOut h.shape (IsBlack h);
  Follows = λ h p e. IsFollowedLeftOut h p e.map e.key e.value;
  on = λ h k bl y r. left_out_from h.shape (IsBlack k) (IsBlack h)
      (λ z counts b. elim (bl.only z b) [ inl was ↦ reached.from counts was | inr s ↦ s ])
      (subst (λ s. ReachedLeftOut s (IsBlack k) y) (shape_is h k bl.rest) r);
  keep = kept_left_out;
}

-- the fields of a cell below a number were followed
abbrev pub ScannedLeftOut : Place → ℕ → HeapState → Piles → HeapState → Piles → Type 0
ScannedLeftOut place i h0 = Scanned (PreparingWhile (place ∷ [])) (λ y. Counts h0.shape y) place i h0

pub turn_scanned_left_out : (place t : Place) (i : ℕ) (h0 : HeapState) (p0 : Piles) (h : HeapState) (p : Piles)
    (k : HeapState) (q : Piles) → i < 8 → ScannedLeftOut place i h0 p0 h p → field_at h.shape place i ≡ Some t
    → TurnsLeftOut h p t k q → ScannedLeftOut place (i + 1) h0 p0 k q
turn_scanned_left_out place t i h0 p0 h p k q below sc at turns =
    let ef = effect_left_out h p t k q sc.holds.colours turns in
    let is = same_shape (λ y. HasEdge h0.shape place y × Counts h0.shape y) h0 p0 h p sc.grows in
    scan_step (PreparingWhile (place ∷ [])) (λ y. Counts h0.shape y) place i h0 p0 h p sc t k q below at
    (grows_within (λ y. (y ≡ t) × Counts h.shape y) (λ y. (y ≡ t) × Counts h0.shape y) h p k q ef.grows
    (λ y e. (e.0, subst (λ (s : Shape). Counts s y) is e.1)))
    (λ c. ef.is_black (subst (λ (s : Shape). Counts s t) (sym is) c)) (ef.holds (place ∷ []) sc.holds)

-- a cell turned black with another one
module _ (h : HeapState) (p : Piles) (other x : Place) (l : HeapState) (q : Piles) (inv : PreparingColours h p)
    (turns : TurnsWithLeftOut h p other x l q) where
  pub turned_grows : (P : Place → Type 0) → (Counts h.shape other → IsBlack h other → Counts h.shape x → P x)
      → Grows P h p l q
  turned_grows P reach = elim turns [
    | inl (counts, b, did) ↦ grows_within (λ y. (y ≡ x) × Counts h.shape y) P h p l q
        (effect_left_out h p x l q inv did).grows
        (λ y is. subst P (sym is.0) (reach counts b (subst (λ z. Counts h.shape z) is.0 is.1)))
    | inr (none, el, eq) ↦ subst (λ (z : HeapState). Grows P h p z q) (sym el)
        (subst (λ (z : Piles). Grows P h p h z) (sym eq) (grows_none P h p))
  ]

  pub turned_holds : (followed : List Place) → PreparingWhile followed h p → PreparingWhile followed l q
  turned_holds followed w = elim turns [
    | inl (counts, b, did) ↦ (effect_left_out h p x l q inv did).holds followed w
    | inr (none, el, eq) ↦ subst (λ (z : HeapState). PreparingWhile followed z q) (sym el)
        (subst (λ (z : Piles). PreparingWhile followed h z) (sym eq) w)
  ]

  pub turned_follows : Counts h.shape other → Counts h.shape x → (a : Place) → Follows l q a other x
  turned_follows co cx a ba bo = elim turns [
    | inl (counts, b, did) ↦ inl ((effect_left_out h p x l q inv did).is_black cx)
    | inr (none, el, eq) ↦ absurd (none co (subst (λ (z : HeapState). IsBlack z other) el bo))
  ]

-- the cells of an entry lie in one zone
module _ (s : Shape) (m k v : Place) (inv : ShapeInvariant s) (e : HasEntry s m k v) where
  pub key_counts : Counts s v → Counts s k
  key_counts c = ap (λ z. is_prepare_state (state_in s z)) (inv.one_zone m k v e).1 ∙ c

  pub value_counts : Counts s k → Counts s v
  value_counts c = ap (λ z. is_prepare_state (state_in s z)) (sym (inv.one_zone m k v e).1) ∙ c

  pub map_counts : Counts s v → Counts s m
  map_counts c = ap (λ z. is_prepare_state (state_in s z)) (inv.one_zone m k v e).0 ∙ c

-- the delegate of an entry of a black map
module _ (followed : List Place) (h : HeapState) (p : Piles) (m k v : Place) (inv : PreparingWhile followed h p)
    (e : HasEntry h.shape m k v) where
  delegate_is : (d : Place) → Some d ≡ delegate_of h.shape.weak m k → IsDelegate h.shape k d
  delegate_is d is = (inv.colours.shape.delegates m k v d e).1 (sym is)

  pub delegate_present : (d : Place) → Some d ≡ delegate_of h.shape.weak m k → IsPresent h.shape d
  delegate_present d is = inv.colours.shape.targets k d (0, omega arith, (delegate_is d is).1)

  pub turned_key : (d : Place) (l : HeapState) (q : Piles) → Some d ≡ delegate_of h.shape.weak m k
      → TurnsWithLeftOut h p d k l q → (other : Place) → IsDelegate h.shape k other → Counts h.shape k
      → Counts h.shape other → Follows l q m other k
  turned_key d l q is turns other at ck co =
      let same : d ≡ other = cc ((delegate_is d is).1, at.1) in
      subst (λ z. Follows l q m z k) same
      (turned_follows h p d k l q inv.colours turns (subst (λ z. Counts h.shape z) (sym same) co) ck m)

  pub no_delegate : (l : HeapState) (q : Piles) → None ≡ delegate_of h.shape.weak m k → (d : Place)
      → IsDelegate h.shape k d → Counts h.shape k → Counts h.shape d → Follows l q m d k
  no_delegate l q none d at ck cd =
      absurd (let is : delegate_of h.shape.weak m k ≡ Some d = (inv.colours.shape.delegates m k v d e).0 at in
      cc (none, is))

  -- the key turned black with the delegate
  pub key_grows : (d : Place) (l : HeapState) (q : Piles) → Some d ≡ delegate_of h.shape.weak m k → IsBlack h m
      → TurnsWithLeftOut h p d k l q → Grows (ReachedLeftOut h.shape (IsBlack h)) h p l q
  key_grows d l q is black turns = turned_grows h p d k l q inv.colours turns (ReachedLeftOut h.shape (IsBlack h))
      (λ cd bd ck. reached.delegate e (delegate_is d is) ck
      (reached.from (map_counts h.shape m k v inv.colours.shape e (value_counts h.shape m k v inv.colours.shape e ck))
      black) (reached.from cd bd))

-- and then the value with the key
module _ (h : HeapState) (p : Piles) (m k v : Place) (inv : ShapeInvariant h.shape) (e : HasEntry h.shape m k v)
    (black : IsBlack h m) (a : HeapState) (r : Piles) (grows : Grows (ReachedLeftOut h.shape (IsBlack h)) h p a r)
    (colours : PreparingColours a r) (l : HeapState) (q : Piles) (turns : TurnsWithLeftOut a r k v l q) where
  a_is : a.shape ≡ h.shape
  a_is = same_shape (ReachedLeftOut h.shape (IsBlack h)) h p a r grows

  there : HasEntry a.shape m k v
  there = subst (λ (s : Shape). HasEntry s m k v) (sym a_is) e

  value_grows : Grows (ReachedLeftOut a.shape (IsBlack a)) a r l q
  value_grows = turned_grows a r k v l q colours turns (ReachedLeftOut a.shape (IsBlack a))
      (λ ck bk cv. reached.weak there cv
      (reached.from (map_counts a.shape m k v colours.shape there cv) (grows.spreads.blackens.kept m black))
      (reached.from ck bk))

  pub entry_grows : Grows (ReachedLeftOut h.shape (IsBlack h)) h p l q
  entry_grows = grows_on (left_out_walk []) h p a r l q grows value_grows

  pub entry_followed : ((d : Place) → IsDelegate h.shape k d → Counts h.shape k → Counts h.shape d → Follows a r m d k)
      → IsFollowedLeftOut l q m k v
  entry_followed key =
      let is : l.shape ≡ h.shape = same_shape (ReachedLeftOut h.shape (IsBlack h)) h p l q entry_grows in
      let back : (x : Place) → Counts l.shape x
      → Counts h.shape x = λ x c. subst (λ (s : Shape). Counts s x) is c in
      let forth : (x : Place) → Counts h.shape x
      → Counts a.shape x = λ x c. subst (λ (s : Shape). Counts s x) (sym a_is) c in
      record {
        value = λ c. turned_follows a r k v l q colours turns
            (forth k (key_counts h.shape m k v inv e (back v c))) (forth v (back v c)) m;
        key = λ d at ck cd. follows_kept (ReachedLeftOut a.shape (IsBlack a)) a r l q m d k value_grows
            (key d (subst (λ (s : Shape). IsDelegate s k d) is at) (back k ck) (back d cd));
      }

-- an entry of a map that is not black, or whose colour does not count, is followed
pub pale_followed : (h : HeapState) (p : Piles) (m k v : Place) → ShapeInvariant h.shape → HasEntry h.shape m k v
    → (Counts h.shape m × IsBlack h m → ⊥) → IsFollowedLeftOut h p m k v
pale_followed h p m k v inv e pale = record {
  value = λ c bm bk. absurd (pale (map_counts h.shape m k v inv e c, bm));
  key = λ d is ck cd bm bd. absurd (pale
      (map_counts h.shape m k v inv e (value_counts h.shape m k v inv e ck), bm));
}

-- what a cell names was followed
module _ (x : Place) (h : HeapState) (p : Piles) (k : HeapState) (q : Piles) (l : HeapState) (r : Piles) (m : HeapState)
    (t : Piles) (n : HeapState) (u : Piles) (steps : FollowSteps (left_out_walk (x ∷ [])) h p k q l r m t n u) where
  abbrev w : Walk
  w = left_out_walk (x ∷ [])

  pub follow_holds : PreparingWhile (x ∷ []) n u
      → ((y : Place) → HasEdge h.shape x y → Counts h.shape y → IsBlack k y)
      → EntriesFollowed w part.Map x k l r → EntriesFollowed w part.Key x l m t
      → EntriesFollowed w part.Delegate x m n u → PreparingWhile [] n u
  follow_holds inv edges maps keys delegates = record {
    colours = inv.colours;
    closed = λ y z cy by e cz. elim (inv.closed y z cy by e cz) [
      | inl bz ↦ inl bz
      | inr f ↦ elim (split_followed [] u x y f) [
        | inl at ↦ inl (still_black w x h p k q l r m t n u steps z (edges z
            (subst (λ (s : Shape). HasEdge s x z) is (subst (λ o. HasEdge n.shape o z) (sym at) e))
            (subst (λ (s : Shape). Counts s z) is cz)))
        | inr g ↦ inr g
      ]
    ];
    weak_closed = λ o y v e cv bo by. elim (inv.weak_closed o y v e cv bo by) [
      | inl b ↦ inl b
      | inr (inl f) ↦ elim (split_followed [] u x o f) [
        | inl at ↦ value o y v ((all part.Map o y v e (sym at)).value cv bo by)
        | inr g ↦ inr (inl g)
      ]
      | inr (inr f) ↦ elim (split_followed [] u x y f) [
        | inl at ↦ value o y v ((all part.Key o y v e (sym at)).value cv bo by)
        | inr g ↦ inr (inr g)
      ]
    ];
    key_closed = λ o y v d e at cy cd bo bd. elim (inv.key_closed o y v d e at cy cd bo bd) [
      | inl b ↦ inl b
      | inr (inl f) ↦ elim (split_followed [] u x o f) [
        | inl here ↦ value o d y ((all part.Map o y v e (sym here)).key d at cy cd bo bd)
        | inr g ↦ inr (inl g)
      ]
      | inr (inr f) ↦ elim (split_followed [] u x d f) [
        | inl here ↦ value o d y
            ((all part.Delegate o y v e (subst (λ z. IsDelegate n.shape y z) (sym here) at)).key d at cy cd bo bd)
        | inr g ↦ inr (inr g)
      ]
    ];
  }
    where
      is : n.shape ≡ h.shape
      is = same_shape (ReachedLeftOut h.shape (IsBlack h)) h p n u (follow_grows w x h p k q l r m t n u steps)

      all : (on : Part) → EntriesFollowed w on x n n u
      all = all_followed w x h p k q l r m t n u steps maps keys delegates

      value : (a b v : Place) → IsBlack n v ⊎ (IsWaiting u a ⊎ IsWaiting u b)
          → IsBlack n v ⊎ (IsToFollow [] u a ⊎ IsToFollow [] u b)
      value a b v (inl black) = inl black
      value a b v (inr (inl c)) = inr (inl (waits_then [] u a c))
      value a b v (inr (inr c)) = inr (inr (waits_then [] u b c))

-- the edges of a black cell lead to what is reached
pub grows_along : (h : HeapState) (p : Piles) (x : Place) (k : HeapState) (q : Piles) → Counts h.shape x → IsBlack h x
    → Grows (λ y. HasEdge h.shape x y × Counts h.shape y) h p k q → Grows (ReachedLeftOut h.shape (IsBlack h)) h p k q
grows_along h p x k q counts black a =
    grows_within (λ y. HasEdge h.shape x y × Counts h.shape y) (ReachedLeftOut h.shape (IsBlack h)) h p k q a
    (λ y e. reached.along (reached.from counts black) e.0 e.1)

-- a woken cell was taken from its pile
pub record TakenLeftOut (h : HeapState) (q : Piles) (x : Place) : Type 0 where
  pub holds : PreparingWhile (x ∷ []) h q
  pub black : IsBlack h x
  pub counts : Counts h.shape x

take_left_out : (h : HeapState) (q : Piles) (x : Place) (more : List Place) → IsPermutation (x ∷ q.wake) more
    → PreparingWhile [] h (record q { wake = more }) → TakenLeftOut h q x
take_left_out h q x more is_more inv =
    let to = from_wake [] q x more is_more in
    record {
      holds = record {
        colours = record {
          shape = inv.colours.shape;
          sized = inv.colours.sized;
          none_out = inv.colours.none_out;
          none_marking = inv.colours.none_marking;
          seen_present = inv.colours.seen_present;
          seen = inv.colours.seen;
          regs_black = inv.colours.regs_black;
          black = inv.colours.black;
          gray = inv.colours.gray;
          wake = λ y c. inv.colours.wake y (more_kept q.wake more x y is_more c);
        };
        closed = λ y z cy by e cz. elim (inv.closed y z cy by e cz) [ inl bz ↦ inl bz | inr f ↦ inr (to y f) ];
        weak_closed = λ m k v e cv bm bk. elim (inv.weak_closed m k v e cv bm bk) [
          | inl b ↦ inl b
          | inr (inl f) ↦ inr (inl (to m f))
          | inr (inr f) ↦ inr (inr (to k f))
        ];
        key_closed = λ m k v d e is ck cd bm bd. elim (inv.key_closed m k v d e is ck cd bm bd) [
          | inl b ↦ inl b
          | inr (inl f) ↦ inr (inl (to m f))
          | inr (inr f) ↦ inr (inr (to d f))
        ];
      };
      black = (inv.colours.wake x (more_has q.wake more x is_more)).0;
      counts = (inv.colours.wake x (more_has q.wake more x is_more)).1;
    }

pub taken_left_out : (h : HeapState) (p q : Piles) (x : Place) → PreparingWhile [] h p → IsPushed q pile.Wake x p
    → TakenLeftOut h q x
taken_left_out h p q x inv e =
    take_left_out h q x p.wake e.more (subst (λ (z : Piles). PreparingWhile [] h z) (wake_alone q p x e) inv)

-- a cell whose colour does not count keeps its colour
uncounted_same : (P : Place → Type 0) (h k : HeapState) → Blackens P h k → ((y : Place) → P y → Counts h.shape y)
    → (y : Place) → (Counts h.shape y → ⊥) → colour_of k y ≡ colour_of h y
uncounted_same P h k bl counted y not = elim (bl.others y) [
  | inr same ↦ same
  | inl black ↦ elim (bl.only y black) [ inl was ↦ black ∙ sym was | inr new ↦ absurd (not (counted y new)) ]
]

none_to_follow : (q : Piles) (x : Place) → q ≡ no_places → IsToFollow [] q x → ⊥
none_to_follow q x empty (inl c) = nothing_in_none x (subst (λ (z : Piles). Contains z.black x) empty c)
none_to_follow q x empty (inr (inl c)) = nothing_in_none x (subst (λ (z : Piles). Contains z.wake x) empty c)
none_to_follow q x empty (inr (inr c)) = nothing_in_none x c

-- between calls black holds all that is reached from it where colours count
pub left_out_closed : (h : HeapState) (p : Piles) → PreparingInvariant h p → {x : Place}
    → ReachedLeftOut h.shape (IsBlack h) x → IsBlack h x
left_out_closed h p inv (reached.from counts b) = b
left_out_closed h p inv (reached.along {x} {y} r e counts) =
    elim (inv.holds.closed x y (reached_counts h.shape (IsBlack h) r) (left_out_closed h p inv r) e counts)
    [ inl b ↦ b | inr f ↦ absurd (none_to_follow p x inv.empty f) ]
left_out_closed h p inv (reached.weak {m} {k} {v} e counts a b) =
    elim (inv.holds.weak_closed m k v e counts (left_out_closed h p inv a) (left_out_closed h p inv b)) [
      | inl black ↦ black
      | inr (inl f) ↦ absurd (none_to_follow p m inv.empty f)
      | inr (inr f) ↦ absurd (none_to_follow p k inv.empty f)
    ]
left_out_closed h p inv (reached.delegate {m} {k} {v} {d} e is counts a b) =
    elim (inv.holds.key_closed m k v d e is counts (reached_counts h.shape (IsBlack h) b) (left_out_closed h p inv a)
    (left_out_closed h p inv b)) [
      | inl black ↦ black
      | inr (inl f) ↦ absurd (none_to_follow p m inv.empty f)
      | inr (inr f) ↦ absurd (none_to_follow p d inv.empty f)
    ]

-- black spread to what is reached from an exposed cell, which is black if its colour counts
exposes_left_out : (h : HeapState) (x : Place) (k : HeapState) (q : Piles)
    → Blackens (ReachedLeftOut h.shape (BlackOr h x)) h k → (Counts h.shape x → IsBlack k x) → PreparingInvariant k q
    → (p : Piles) → ExposesLeftOut h p x k q
exposes_left_out h x k q bl black inv p = record {
  invariant = inv;
  exact = λ y counts. (
    λ b. elim (bl.only y b) [ inl was ↦ reached.from counts (inl was) | inr r ↦ r ],
    λ r. left_out_closed k q inv
        (left_out_from k.shape (BlackOr h x) (IsBlack k)
        (λ z c s. reached.from c (elim s [
          | inl was ↦ bl.kept z was
          | inr is ↦ subst (λ o. IsBlack k o) (sym is)
              (black (subst (λ (s : Shape). Counts s x) (shape_is h k bl.rest)
              (subst (λ o. Counts k.shape o) is c)))
        ])) (subst (λ s. ReachedLeftOut s (BlackOr h x) y) (sym (shape_is h k bl.rest)) r)),
  );
  others = uncounted_same (ReachedLeftOut h.shape (BlackOr h x)) h k bl
      (λ y r. reached_counts h.shape (BlackOr h x) r);
  rest = bl.rest;
  sized = bl.sized;
  gobs_is = bl.gobs_is;
}

-- it was black, so nothing had to be done
pub exposed_left_out : (h : HeapState) (p : Piles) (x : Place) → PreparingInvariant h p → IsBlack h x
    → ExposesLeftOut h p x h p
exposed_left_out h p x inv black =
    exposes_left_out h x h p (blackens_none (ReachedLeftOut h.shape (BlackOr h x)) h) (λ c. black) inv p

-- it turned black, and then all that was woken was followed
pub drained_left_out : (h : HeapState) (p : Piles) (x : Place) (k : HeapState) (q : Piles) (read : ℕ) (n : HeapState)
    (u : Piles) (now : ℕ) → EffectLeftOut h p x k q → Drains (left_out_walk []) k q read n u now → u.wake ≡ []
    → ExposesLeftOut h p x n u
drained_left_out h p x k q read n u now ef d none =
    let R : Place → Type 0 = ReachedLeftOut h.shape (BlackOr h x) in
    let same : k.shape ≡ h.shape = shape_is h k ef.grows.spreads.blackens.rest in
    let bl : Blackens R h n = blackens_more (λ y. (y ≡ x) × Counts h.shape y) (ReachedLeftOut k.shape (IsBlack k)) R h
    k n
    ef.grows.spreads.blackens d.spreads.blackens (λ y e. reached.from e.1 (inr e.0))
    (λ y r. left_out_from h.shape (IsBlack k) (BlackOr h x)
    (λ z c b. elim (ef.grows.spreads.blackens.only z b) [
      | inl was ↦ reached.from c (inl was)
      | inr e ↦ reached.from c (inr e.0)
    ]) (subst (λ s. ReachedLeftOut s (IsBlack k) y) same r)) in
    exposes_left_out h x n u bl (λ c. d.spreads.blackens.kept x (ef.is_black c)) (record {
      holds = d.holds;
      empty = (λ j. record {
        black = d.holds.colours.black j;
        gray = d.holds.colours.gray j;
        wake = none j;
      });
    }) p
