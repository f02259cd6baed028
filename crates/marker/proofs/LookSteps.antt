-- A look at one weak entry.
use Rattle.std.proofs.Common.{◌≡◌, ◌⊎◌, ◌↔◌, ◌+◌, ◌≤◌, ℕ, true, false, inl, inr, refl, sym, ap, ◌∙◌, subst, arith}
use Rattle.std.proofs.Common.{Contains, List, [], Option, None, Some, length, slice_get}
use Rattle.gz_names.specs.Zones.{HasZone}
use Rattle.gz_names.specs.declared.numbers.Place.{Place}
use Rattle.cell_bits.specs.declared.bits.Bits.{Bits}
use Rattle.cell_bits.specs.declared.bits.Colour.{Colour}
use Rattle.cell_bits.specs.declared.bits.Colour.TheVariants as colour
use Rattle.zones.specs.declared.states.State.{State}
use Rattle.zones.specs.declared.states.State.TheVariants as state
use Rattle.mark_stack.specs.Stack.{Piles, IsPushed}
use Rattle.mark_stack.specs.declared.stack.Pile.TheVariants as pile
use Rattle.mark_stack.proofs.Pushed.{more_cases, wake_black}
use Rattle.gray_lists.specs.Incoming.{Incoming}
use Rattle.weak_maps.specs.WeakMaps.{HasLooked, IsSound, LooksState, NoneLeft, WeakMapsState, WeakTableState}
use Rattle.weak_maps.specs.declared.colours.MarkColour.{MarkColour}
use Rattle.weak_maps.specs.declared.colours.MarkColour.TheVariants as mark
use Rattle.weak_maps.specs.declared.entries.WeakEntry.{WeakEntry}
use Rattle.heap_core.specs.Shape.{IsDelegate, Shape, is_marking, is_marking_state, state_in, state_of, state_or}
use Rattle.heap_core.specs.Shape.{zone_of}
use Rattle.heap_core.specs.Heap.{HeapState, colour_of, joined, weak_of}
use Rattle.barriers.specs.Reached.{HasEntry, Reached}
use Rattle.barriers.specs.Reached as reached
use Rattle.barriers.specs.Colours.{HasGob, IsBlack, IsSeen, grays_outside}
use Rattle.barriers.specs.Pending.{pending}
use Rattle.barriers.specs.PendingBlack.{PendingBlack}
use Rattle.barriers.specs.PendingLive.{GrayInvariant, IsLiveStart}
use Rattle.barriers.specs.Invariant.{ColourInvariant, InvariantWhile, MarkingInvariant, PileInvariant}
use Rattle.barriers.specs.Exposing.{KeepsLive}
use Rattle.barriers.specs.Scans.{AreScannedOnce, ScansNoMore}
use Rattle.barriers.specs.Spreading.{Blackened, Covers, Grows, MayMark, Spreads, Turns}
use Rattle.barriers.specs.WeakPoint.{IsLeft, WeakPoint, left_of}
use Rattle.barriers.proofs.BlackClosure.{pending_is_reached, reached_is_pending, reached_more}
use Rattle.barriers.proofs.Listed.{stood_at}
use Rattle.barriers.proofs.LiveClosure.{seen_kept}
use Rattle.barriers.proofs.Loops.{marking_walk}
use Rattle.barriers.proofs.Places.{nothing_in_none, same_or_other}
use Rattle.barriers.proofs.Scans.{none_more, no_more_twice, once_kept}
use Rattle.barriers.proofs.Spreading.{gob_kept, grows_within, shape_is}
use Rattle.barriers.proofs.StayingLeft.{looked_before, looked_others}
use Rattle.barriers.proofs.Turning.{Effect, turn_effect}
use Rattle.barriers.proofs.Walks.{grows_on, spreads_on}
use Rattle.barriers.proofs.WeakPoint.{IsKeyRaised, LeavesOthers, left_same, look_black, look_none, spreads_keep}
use Rattle.marker.specs.GrayBits.{AreGraying}
use Rattle.marker.specs.Looks.{Raises, RaisesKey, RaisesTo, weaker, with_looks}
use Rattle.marker.specs.Shading.{Grayed, Shaded, Shades}
use Rattle.marker.specs.Units.{DoesLook, Marks}
use Rattle.marker.proofs.BlackSteps.{Follows, keeps_pending}
use Rattle.marker.proofs.GraySteps.{apart_after, gray_after, marks}
use Rattle.marker.proofs.Looking.{colours_on, gray_on, holds_on, live_on, marking_on, pending_on, point_on}
use Rattle.marker.proofs.Shading.{ShadeEffect, shade_effect}
use Rattle.marker.proofs.WeakPoint.{look_gray, shaded_keep, shaded_point}

-- what a step of a look does, with the looks as they were
pub record Raised (h : HeapState) (p : Piles) (k : HeapState) (q : Piles) : Type 0 where
  pub rest : k ≡ record h { colours = k.colours }
  pub invariant : MarkingInvariant k q
  pub black_kept : (y : Place) → IsBlack h y → IsBlack k y
  pub seen_kept : (y : Place) → IsSeen h y → IsSeen k y
  pub gob_kept : (y : Place) → HasGob h y → HasGob k y
  pub coloured : (y : Place) → IsBlack k y ⊎ ((colour_of k y ≡ colour_of h y) ⊎ (is_marking h.shape y ≡ true))
  pub gray_pile : (y : Place) → Contains q.gray y → Contains p.gray y ⊎ (state_of h.shape y ≡ state.MarkBlackAndGray)
  pub pending_black : (y : Place) → PendingBlack k q y ↔ PendingBlack h p y
  pub pending_live : KeepsLive h p k q
  pub scans : ScansNoMore h p k q

-- nothing was to be done
raised_none : (h : HeapState) (p : Piles) → MarkingInvariant h p → Raised h p h p
raised_none h p inv = record {
  rest = refl;
  invariant = inv;
  black_kept = λ y b. b;
  seen_kept = λ y s. s;
  gob_kept = λ y has. has;
  coloured = λ y. inr (inl refl);
  gray_pile = λ y c. inl c;
  pending_black = λ y. (λ b. b, λ b. b);
  pending_live = λ lists g. (g, λ y. (λ b. b, λ b. b));
  scans = none_more h p;
}

-- one step after another
raised_more : (h : HeapState) (p : Piles) (k : HeapState) (q : Piles) (l : HeapState) (r : Piles) → Raised h p k q
    → Raised k q l r → Raised h p l r
raised_more h p k q l r a b =
    let same : k.shape ≡ h.shape = shape_is h k a.rest in
    record {
      rest = b.rest ∙ ap (λ (z : HeapState). record z { colours = l.colours }) a.rest;
      invariant = b.invariant;
      black_kept = λ y c. b.black_kept y (a.black_kept y c);
      seen_kept = λ y c. b.seen_kept y (a.seen_kept y c);
      gob_kept = λ y c. b.gob_kept y (a.gob_kept y c);
      coloured = λ y. elim (b.coloured y) [
        | inl black ↦ inl black
        | inr (inl e) ↦ elim (a.coloured y) [
          | inl black ↦ inl (e ∙ black)
          | inr (inl was) ↦ inr (inl (e ∙ was))
          | inr (inr on) ↦ inr (inr on)
        ]
        | inr (inr on) ↦ inr (inr (subst (λ (s : Shape). is_marking s y ≡ true) same on))
      ];
      gray_pile = λ y c. elim (b.gray_pile y c) [
        | inl mid ↦ a.gray_pile y mid
        | inr takes ↦ inr (subst (λ (s : Shape). state_of s y ≡ state.MarkBlackAndGray) same takes)
      ];
      pending_black = λ y. (
        λ c. (a.pending_black y).0 ((b.pending_black y).0 c),
        λ c. (b.pending_black y).1 ((a.pending_black y).1 c),
      );
      pending_live = λ lists g. (
          let first = a.pending_live lists g in
          let then = b.pending_live lists first.0 in
          (then.0, λ y. (λ c. (first.1 y).0 ((then.1 y).0 c), λ c. (then.1 y).1 ((first.1 y).1 c))));
      scans = no_more_twice h p k q l r a.scans b.scans;
    }

-- black spread to what was pending
raised_spread : (h : HeapState) (p : Piles) (k : HeapState) (q : Piles) → MarkingInvariant h p → MarkingInvariant k q
    → Spreads (Reached h.shape (IsBlack h)) h p k q → Raised h p k q
raised_spread h p k q inv new sp =
    let bl = sp.blackens in
    let keeps : Follows h p k q = keeps_pending h p k q inv new sp.gray_is bl in
    record {
      rest = bl.rest;
      invariant = new;
      black_kept = bl.kept;
      seen_kept = seen_kept (Reached h.shape (IsBlack h)) h k bl;
      gob_kept = gob_kept h k bl.gobs_is;
      coloured = λ y. elim (bl.others y) [ inl black ↦ inl black | inr e ↦ inr (inl e) ];
      gray_pile = λ y c. inl (subst (λ (zs : List Place). Contains zs y) sp.gray_is c);
      pending_black = keeps.pending_black;
      pending_live = keeps.pending_live;
      scans = sp.scans;
    }

-- a cell turned gray
module _ (h : HeapState) (p : Piles) (v : Place) (k : HeapState) (q : Piles) (inv : MarkingInvariant h p)
    (reach : Reached h.shape (IsLiveStart h) v) (grayed : Grayed h v k) (pushes : IsPushed p pile.Gray v q) where
  abbrev P : Place → Type 0
  P = λ y. y ≡ v

  effect : ShadeEffect h p v k q
  effect = shade_effect h p v k q (inr (grayed, pushes))

  sh : Shaded P h p k q
  sh = effect.shaded

  now : MarkingInvariant k q
  now = record {
    holds = effect.invariant [] inv.holds;
    none_woken = sh.wake_is ∙ inv.none_woken;
    weak = shaded_point P h p k q sh inv.weak;
    once = once_kept h p k q sh.scans inv.once;
  }

  gray_shape : k.shape ≡ h.shape
  gray_shape = ap (λ (z : HeapState). z.shape) sh.rest

  black_same : (x : Place) → PendingBlack k q x ↔ PendingBlack h p x
  black_same x = (
    λ l. reached_is_pending h p inv
        (reached_more h.shape (IsBlack k) (IsBlack h) (λ y b. (sh.black_is y).0 b)
        (subst (λ s. Reached s (IsBlack k) x) gray_shape (pending_is_reached k q now l))),
    λ l. reached_is_pending k q now
        (subst (λ s. Reached s (IsBlack k) x) (sym gray_shape)
        (reached_more h.shape (IsBlack h) (IsBlack k) (λ y b. (sh.black_is y).1 b) (pending_is_reached h p inv l))),
  )

  gray_holds : (lists : Incoming) → GrayInvariant h p lists → GrayInvariant k q lists
  gray_holds lists g = gray_after P h h k p p q lists lists refl sh inv g
      (λ x y gray e covered. elim covered [
        | inl seen ↦ inl (sh.kept y seen)
        | inr (inl pending) ↦ inr (inl (sh.pile_kept x pending))
        | inr (inr (inl waits)) ↦ inr (inr (inl waits))
        | inr (inr (inr noted)) ↦ inr (inr (inr noted))
      ])
      (λ z y c. c)
      (λ c y i. sh.kept y (g.incoming_seen c y i))
      (apart_after P h h k p p q lists lists refl sh inv g (λ y c. c) (λ c y i. i))
      g.lists_apart (omega arith) refl

  marks_here : (lists : Incoming) → GrayInvariant h p lists → Marks h p lists k q lists
  marks_here lists g = marks P h h k p p q lists lists refl sh inv g inv.weak inv.once refl now.holds
      (gray_holds lists g)
      (λ y is. subst (λ z. Reached h.shape (IsLiveStart h) z) (sym is) reach)
      (λ z y c. c)
      (λ y c. inl c)

  gray_pile : (y : Place) → Contains q.gray y → Contains p.gray y ⊎ (state_of h.shape y ≡ state.MarkBlackAndGray)
  gray_pile y c = elim (more_cases p.gray q.gray v y pushes.more c) [
    | inl old ↦ inl old
    | inr is ↦ inr (subst (λ z. state_of h.shape z ≡ state.MarkBlackAndGray) is grayed.takes)
  ]

  raised_gray : Raised h p k q
  raised_gray = record {
    rest = sh.rest;
    invariant = now;
    black_kept = λ y b. (sh.black_is y).1 b;
    seen_kept = sh.kept;
    gob_kept = sh.gob_kept;
    coloured = λ y. elim (same_or_other y v) [
      | inl is ↦ inr (inr (subst (λ z. is_marking h.shape z ≡ true) (sym is) (ap is_marking_state grayed.takes)))
      | inr other ↦ inr (inl (grayed.others y other))
    ];
    gray_pile = gray_pile;
    pending_black = black_same;
    pending_live = λ lists g. (gray_holds lists g, (marks_here lists g).pending_live);
    scans = sh.scans;
  }

-- the same steps with other looks to come
module _ (looks : LooksState) (h : HeapState) (p : Piles) (v : Place) (k : HeapState) (q : Piles) where
  blackened_on : Blackened h v k → Blackened (with_looks h looks) v (with_looks k looks)
  blackened_on b = record {
    rest = ap (λ (z : HeapState). with_looks z looks) b.rest;
    sized = b.sized;
    present = b.present;
    was = b.was;
    black = b.black;
    gobs_is = b.gobs_is;
    others = b.others;
    left_is = b.left_is;
    whites_less = b.whites_less;
    grays_is = b.grays_is;
  }

  grayed_on : Grayed h v k → Grayed (with_looks h looks) v (with_looks k looks)
  grayed_on g = record {
    rest = ap (λ (z : HeapState). with_looks z looks) g.rest;
    sized = g.sized;
    present = g.present;
    white = g.white;
    takes = g.takes;
    gray = g.gray;
    gob_kept = g.gob_kept;
    others = g.others;
    left_is = g.left_is;
    whites_is = g.whites_is;
    grays_is = g.grays_is;
  }

  turns_on : Turns h p v k q → Turns (with_looks h looks) p v (with_looks k looks) q
  turns_on (inl (b, ek, eq)) = inl (b, ap (λ (z : HeapState). with_looks z looks) ek, eq)
  turns_on (inr (inl (b, on, pushes))) = inr (inl (blackened_on b, on, pushes))
  turns_on (inr (inr (b, off, pushes))) = inr (inr (blackened_on b, off, pushes))

  shades_on : Shades h p v k q → Shades (with_looks h looks) p v (with_looks k looks) q
  shades_on (inl (none, ek, eq)) = inl (none, ap (λ (z : HeapState). with_looks z looks) ek, eq)
  shades_on (inr (g, pushes)) = inr (grayed_on g, pushes)

spreads_looks : (looks : LooksState) (P : Place → Type 0) (h : HeapState) (p : Piles) (k : HeapState) (q : Piles)
    → Spreads P h p k q → Spreads P (with_looks h looks) p (with_looks k looks) q
spreads_looks looks P h p k q sp = record {
  blackens = record {
    rest = ap (λ (z : HeapState). with_looks z looks) sp.blackens.rest;
    sized = sp.blackens.sized;
    kept = sp.blackens.kept;
    gobs_is = sp.blackens.gobs_is;
    only = sp.blackens.only;
    others = sp.blackens.others;
    whites_less = sp.blackens.whites_less;
  };
  gray_is = sp.gray_is;
  pile_kept = sp.pile_kept;
  fresh = sp.fresh;
  left_less = sp.left_less;
  work = sp.work;
  grays = sp.grays;
  scans = record { black = sp.scans.black; gray = sp.scans.gray };
}

-- a cell that is white is not seen
seen_none : (h : HeapState) (x : Place) → colour_of h x ≡ colour.White → IsSeen h x → ⊥
seen_none h x e (inl g) = cc (e, g)
seen_none h x e (inr b) = cc (e, b)

-- what two cells are, by the weaker of their colours
abbrev AreAtLeast : HeapState → Place → Place → Colour → Type 0
AreAtLeast h x y colour.White = IsSeen h x → IsSeen h y → ⊥
AreAtLeast h x y colour.Gray = IsSeen h x × IsSeen h y × (IsBlack h x → IsBlack h y → ⊥)
AreAtLeast h x y colour.Black = IsBlack h x × IsBlack h y

at_least : (h : HeapState) (x y : Place) → AreAtLeast h x y (weaker (colour_of h x) (colour_of h y))
at_least h x y = go (colour_of h x) (colour_of h y) refl refl
  where
    go : (d e : Colour) → colour_of h x ≡ d → colour_of h y ≡ e → AreAtLeast h x y (weaker d e)
    go colour.White e is_x is_y = λ sx sy. seen_none h x is_x sx
    go colour.Gray colour.White is_x is_y = λ sx sy. seen_none h y is_y sy
    go colour.Gray colour.Gray is_x is_y = (inl is_x, inl is_y, λ bx by. cc (is_x, bx))
    go colour.Gray colour.Black is_x is_y = (inl is_x, inr is_y, λ bx by. cc (is_x, bx))
    go colour.Black colour.White is_x is_y = λ sx sy. seen_none h y is_y sy
    go colour.Black colour.Gray is_x is_y = (inr is_x, inl is_y, λ bx by. cc (is_y, by))
    go colour.Black colour.Black is_x is_y = (is_x, is_y)

-- the key of an entry was raised: so it has its colour, and no pending closure changed; or it turned black with its map
record KeyRaised (h : HeapState) (p : Piles) (e : WeakEntry) (looks : LooksState) (l : HeapState) (r : Piles) : Type 0
  where
    pub rest : l ≡ record (with_looks h looks) { colours = l.colours }
    pub holds : InvariantWhile [] (with_looks l h.looks) r
    pub point : WeakPoint l r (left_of h)
    pub once : AreScannedOnce l r
    pub seen : IsKeyRaised l e.map e.key
    pub black : (d : Place) → IsDelegate l.shape e.key d → IsBlack l e.map → IsBlack l d → IsBlack l e.key
    pub grays : grays_outside l + length r.wake ≤ grays_outside h + length p.wake
    pub calm : Raised h p (with_looks l h.looks) r
        ⊎ (Grows (Reached h.shape (IsBlack h)) h p (with_looks l h.looks) r × IsBlack l e.map × IsBlack l e.key)

-- and then its value
record ValueRaised (h : HeapState) (p : Piles) (e : WeakEntry) (looks : LooksState) (k : HeapState) (q : Piles) : Type 0
  where
    pub rest : k ≡ record (with_looks h looks) { colours = k.colours }
    pub holds : InvariantWhile [] (with_looks k h.looks) q
    pub point : WeakPoint k q (left_of (with_looks h looks))
    pub once : AreScannedOnce k q
    pub black : (d : Place) → IsDelegate k.shape e.key d → IsBlack k e.map → IsBlack k d → IsBlack k e.key
    pub grays : grays_outside k + length q.wake ≤ grays_outside h + length p.wake
    pub calm : Raised h p (with_looks k h.looks) q ⊎ Grows (Reached h.shape (IsBlack h)) h p (with_looks k h.looks) q

-- a look at an entry that is to be looked at no more
module _ (c : MarkColour) (h : HeapState) (p : Piles) (e : WeakEntry) (looks : LooksState)
    (inv : MarkingInvariant h p) (held : HasEntry h.shape e.map e.key e.value)
    (looked : HasLooked c e h.shape.weak h.looks looks) where
  abbrev m : HeapState
  m = with_looks h looks

  -- with the looks as they were
  abbrev back : HeapState → HeapState
  back z = with_looks z h.looks

  abbrev R : Place → Type 0
  R = Reached h.shape (IsBlack h)

  others : LeavesOthers e.map e.key (left_of h) (left_of m)
  others = looked_others h c e m refl looked

  point : WeakPoint m p (left_of h)
  point = point_on h looks p (left_of h) inv.weak

  colours : ColourInvariant m
  colours = colours_on h looks inv.holds.colours

  -- nothing was to be done for the key
  key_none : IsKeyRaised m e.map e.key
      → ((d : Place) → IsDelegate h.shape e.key d → IsBlack h e.map → IsBlack h d → IsBlack h e.key) → (l : HeapState)
      → (r : Piles) → l ≡ m → r ≡ p → KeyRaised h p e looks l r
  key_none seen black l r el er =
      subst (λ (z : HeapState). KeyRaised h p e looks z r) (sym el)
      (subst (λ (z : Piles). KeyRaised h p e looks m z) (sym er) (record {
        rest = refl;
        holds = inv.holds;
        point = point;
        once = record { black = inv.once.black; gray = inv.once.gray };
        seen = seen;
        black = black;
        grays = omega arith;
        calm = inl (raised_none h p inv);
      }))

  module _ (d : Place) (is : IsDelegate h.shape e.key d) where
    -- the delegate is this one
    other_is : (s : Shape) → s ≡ h.shape → (o : Place) → IsDelegate s e.key o → d ≡ o
    other_is s same o at = let there = subst (λ (z : Shape). IsDelegate z e.key o) same at in cc (is.1, there.1)

    key_gray : IsSeen m e.map → IsSeen m d → (IsBlack m e.map → IsBlack m d → ⊥) → (l : HeapState) (r : Piles)
        → Shades m p e.key l r → KeyRaised h p e looks l r
    key_gray sa sd not l r shades =
        let ef : ShadeEffect m p e.key l r = shade_effect m p e.key l r shades in
        let was : ShadeEffect h p e.key (back l) r = shade_effect h p e.key (back l) r
        (shades_on h.looks m p e.key l r shades) in
        let same : l.shape ≡ h.shape = ap (λ (z : HeapState). z.shape) ef.shaded.rest in
        record {
          rest = ef.shaded.rest;
          holds = was.invariant [] inv.holds;
          point = shaded_keep (λ y. y ≡ e.key) m p l r (left_of h) ef.shaded point;
          once = once_kept m p l r ef.shaded.scans (record { black = inv.once.black; gray = inv.once.gray });
          seen = λ o at so sd t. ef.seen (subst (λ (z : Shape). state_of z e.key ≡ state.MarkBlackAndGray) same t);
          black = λ o at ba bo. absurd (not ((ef.shaded.black_is e.map).0 ba)
              ((ef.shaded.black_is d).0 (subst (λ z. IsBlack l z) (sym (other_is l.shape same o at)) bo)));
          grays = omega (arith, ef.shaded.grays_is, ap (λ (zs : List Place). length zs) ef.shaded.wake_is);
          calm = inl (went shades);
        }
      where
        went : Shades m p e.key l r → Raised h p (back l) r
        went (inl (none, el, er)) =
            subst (λ (z : HeapState). Raised h p (back z) r) (sym el)
            (subst (λ (z : Piles). Raised h p h z) (sym er) (raised_none h p inv))
        went (inr (grayed, pushes)) = raised_gray h p e.key (back l) r inv
            (reached.delegate held is (reached.from (inl sa)) (reached.from (inl sd)))
            (grayed_on h.looks m p e.key l r grayed) pushes

    key_black : IsBlack m e.map → IsBlack m d → (l : HeapState) (r : Piles) → Turns m p e.key l r
        → KeyRaised h p e looks l r
    key_black ba bd l r turns =
        let ef : Effect m p e.key l r = turn_effect m p e.key l r turns in
        let was : Effect h p e.key (back l) r = turn_effect h p e.key (back l) r
        (turns_on h.looks m p e.key l r turns) in
        record {
          rest = ef.grows.spreads.blackens.rest;
          holds = was.invariant [] inv.holds;
          point = spreads_keep (λ y. y ≡ e.key) m p l r (left_of h) ef.grows.spreads colours point;
          once = once_kept m p l r ef.grows.spreads.scans
              (record { black = inv.once.black; gray = inv.once.gray });
          seen = λ o at so sd t. inr ef.is_black;
          black = λ o at bo bd. ef.is_black;
          grays = ef.grows.spreads.grays;
          calm = inr (
            grows_within (λ y. y ≡ e.key) R h p (back l) r was.grows
                (λ y at. subst R (sym at) (reached.delegate held is (reached.from ba) (reached.from bd))),
            ef.grows.spreads.blackens.kept e.map ba,
            ef.is_black,
          );
        }

    key_white : (IsSeen m e.map → IsSeen m d → ⊥) → (l : HeapState) (r : Piles) → l ≡ m → r ≡ p
        → KeyRaised h p e looks l r
    key_white not = key_none
        (λ o at so sd t. absurd (not so (subst (λ z. IsSeen m z) (sym (other_is h.shape refl o at)) sd)))
        (λ o at bo bd. absurd (not (inr bo) (subst (λ z. IsSeen m z) (sym (other_is h.shape refl o at)) (inr bd))))

    key_by : (g : Colour) → AreAtLeast m e.map d g → (l : HeapState) (r : Piles) → RaisesTo g m p e.key l r
        → KeyRaised h p e looks l r
    key_by colour.White not l r raises = key_white not l r raises.0 raises.1
    key_by colour.Gray (sa, sd, not) l r raises = key_gray sa sd not l r raises
    key_by colour.Black (ba, bd) l r raises = key_black ba bd l r raises

  key_raised : (l : HeapState) (r : Piles) → RaisesKey m p e.map e.key l r → KeyRaised h p e looks l r
  key_raised l r (inl (d, is, raises)) =
      key_by d is (weaker (colour_of m e.map) (colour_of m d)) (at_least m e.map d) l r raises
  key_raised l r (inr (none, el, er)) =
      key_none (λ d is sa sd t. absurd (none d is)) (λ d is ba bd. absurd (none d is)) l r el er

  module _ (l : HeapState) (r : Piles) (key : KeyRaised h p e looks l r) where
    key_shape : l.shape ≡ h.shape
    key_shape = ap (λ (z : HeapState). z.shape) key.rest

    held_then : HasEntry l.shape e.map e.key e.value
    held_then = subst (λ (s : Shape). HasEntry s e.map e.key e.value) (sym key_shape) held

    rest_then : (k : HeapState) → k ≡ record l { colours = k.colours } → k ≡ record m { colours = k.colours }
    rest_then k rest = rest ∙ ap (λ (z : HeapState). record z { colours = k.colours }) key.rest

    value_black : IsBlack l e.map → IsBlack l e.key → (k : HeapState) (q : Piles) → Turns l r e.value k q
        → ValueRaised h p e looks k q
    value_black ba bb k q turns =
        let ef : Effect l r e.value k q = turn_effect l r e.value k q turns in
        let now : Turns (back l) r e.value (back k) q = turns_on h.looks l r e.value k q turns in
        let was : Effect (back l) r e.value (back k) q = turn_effect (back l) r e.value (back k) q now in
        let reach : Grows (Reached l.shape (IsBlack l)) (back l) r (back k) q =
        grows_within (λ y. y ≡ e.value) (Reached l.shape (IsBlack l)) (back l) r (back k) q was.grows
        (λ y at. subst (Reached l.shape (IsBlack l)) (sym at)
        (reached.weak held_then (reached.from ba) (reached.from bb))) in
        record {
          rest = rest_then k ef.grows.spreads.blackens.rest;
          holds = was.invariant [] key.holds;
          point = look_black l r e.map e.key e.value k q (left_of h) (left_of m)
              (colours_on (back l) l.looks key.holds.colours) key.point held_then bb turns others;
          once = once_kept l r k q ef.grows.spreads.scans key.once;
          black = λ d is bo bd. ef.grows.spreads.blackens.kept e.key bb;
          grays = omega (arith, ef.grows.spreads.grays, key.grays);
          calm = elim key.calm [
            | inl raised ↦ inl (raised_more h p (back l) r (back k) q raised (went raised.invariant now reach))
            | inr grown ↦ inr (grows_on (marking_walk []) h p (back l) r (back k) q grown.0 reach)
          ];
        }
      where
        in_zone : (x : Place) → is_marking l.shape e.value ≡ false → zone_of l.shape x ≡ zone_of l.shape e.value
            → is_marking l.shape x ≡ true → ⊥
        in_zone x off zone on =
            let same_state = ap (λ z. is_marking_state (state_in l.shape z)) zone in cc (off, on, same_state)

        went : MarkingInvariant (back l) r → Turns (back l) r e.value (back k) q
            → Grows (Reached l.shape (IsBlack l)) (back l) r (back k) q → Raised (back l) r (back k) q
        went here (inl (was, ek, eq)) reach =
            subst (λ (z : HeapState). Raised (back l) r z q) (sym ek)
            (subst (λ (z : Piles). Raised (back l) r (back l) z) (sym eq) (raised_none (back l) r here))
        went here (inr (inl (turned, on, pushes))) reach =
            let ef : Effect (back l) r e.value (back k) q =
            turn_effect (back l) r e.value (back k) q (inr (inl (turned, on, pushes))) in
            raised_spread (back l) r (back k) q here (record {
              holds = ef.invariant [] here.holds;
              none_woken = pushes.others pile.Wake wake_black ∙ here.none_woken;
              weak = left_same (back l) r (back k) q ef.grows.spreads.blackens.rest
                  (spreads_keep (λ y. y ≡ e.value) (back l) r (back k) q (left_of (back l)) ef.grows.spreads
                  here.holds.colours here.weak);
              once = once_kept (back l) r (back k) q ef.grows.spreads.scans here.once;
            }) reach.spreads
        went here (inr (inr (turned, off, pushes))) reach =
            absurd (elim (here.holds.weak_closed e.map e.key e.value held_then ba bb off) [
              | inl black ↦ turned.was black
              | inr (inl (inl w)) ↦ in_zone e.map off
                  (here.holds.colours.shape.one_zone e.map e.key e.value held_then).0 (here.holds.piles.black e.map w).1
              | inr (inl (inr (inl w))) ↦ nothing_in_none e.map (subst (λ zs. Contains zs e.map) here.none_woken w)
              | inr (inl (inr (inr n))) ↦ nothing_in_none e.map n
              | inr (inr (inl w)) ↦ in_zone e.key off
                  (here.holds.colours.shape.one_zone e.map e.key e.value held_then).1 (here.holds.piles.black e.key w).1
              | inr (inr (inr (inl w))) ↦ nothing_in_none e.key (subst (λ zs. Contains zs e.key) here.none_woken w)
              | inr (inr (inr (inr n))) ↦ nothing_in_none e.key n
            ])

    value_gray : IsSeen l e.map → IsSeen l e.key → (IsBlack l e.map → IsBlack l e.key → ⊥) → (k : HeapState)
        → (q : Piles) → Shades l r e.value k q → ValueRaised h p e looks k q
    value_gray sa sb not k q shades =
        let ef : ShadeEffect l r e.value k q = shade_effect l r e.value k q shades in
        let was : ShadeEffect (back l) r e.value (back k) q = shade_effect (back l) r e.value (back k) q
        (shades_on h.looks l r e.value k q shades) in
        let then : k.shape ≡ l.shape = ap (λ (z : HeapState). z.shape) ef.shaded.rest in
        record {
          rest = rest_then k ef.shaded.rest;
          holds = was.invariant [] key.holds;
          point = look_gray l r e.map e.key e.value k q (left_of h) (left_of m) key.point held_then sb not shades
              others;
          once = once_kept l r k q ef.shaded.scans key.once;
          black = λ d is bo bd. (ef.shaded.black_is e.key).1
              (key.black d (subst (λ (s : Shape). IsDelegate s e.key d) then is) ((ef.shaded.black_is e.map).0 bo)
              ((ef.shaded.black_is d).0 bd));
          grays = omega (arith, ef.shaded.grays_is, ap (λ (zs : List Place). length zs) ef.shaded.wake_is, key.grays);
          calm = elim key.calm [
            | inl raised ↦ inl (raised_more h p (back l) r (back k) q raised (went raised.invariant shades))
            | inr grown ↦ absurd (not grown.1 grown.2)
          ];
        }
      where
        went : MarkingInvariant (back l) r → Shades l r e.value k q → Raised (back l) r (back k) q
        went here (inl (none, ek, eq)) =
            subst (λ (z : HeapState). Raised (back l) r (back z) q) (sym ek)
            (subst (λ (z : Piles). Raised (back l) r (back l) z) (sym eq) (raised_none (back l) r here))
        went here (inr (grayed, pushes)) = raised_gray (back l) r e.value (back k) q here
            (reached.weak held_then (reached.from (inl sa)) (reached.from (inl sb)))
            (grayed_on h.looks l r e.value k q grayed) pushes

    value_white : (IsSeen l e.map → IsSeen l e.key → ⊥) → (k : HeapState) (q : Piles) → k ≡ l → q ≡ r
        → ValueRaised h p e looks k q
    value_white not k q ek eq =
        subst (λ (z : HeapState). ValueRaised h p e looks z q) (sym ek)
        (subst (λ (z : Piles). ValueRaised h p e looks l z) (sym eq) (record {
          rest = key.rest;
          holds = key.holds;
          point = look_none l r e.map e.key e.value (left_of h) (left_of m) key.point held_then
              (λ ba bb. not (inr ba) (inr bb)) (λ sa sb takes. not sa sb) key.seen others;
          once = key.once;
          black = key.black;
          grays = key.grays;
          calm = elim key.calm [ inl raised ↦ inl raised | inr grown ↦ inr grown.0 ];
        }))

    value_by : (g : Colour) → AreAtLeast l e.map e.key g → (k : HeapState) (q : Piles) → RaisesTo g l r e.value k q
        → ValueRaised h p e looks k q
    value_by colour.White not k q raises = value_white not k q raises.0 raises.1
    value_by colour.Gray (sa, sb, not) k q raises = value_gray sa sb not k q raises
    value_by colour.Black (ba, bb) k q raises = value_black ba bb k q raises

    value_raised : (k : HeapState) (q : Piles) → Raises l r e.map e.key e.value k q → ValueRaised h p e looks k q
    value_raised = value_by (weaker (colour_of l e.map) (colour_of l e.key)) (at_least l e.map e.key)

  -- what following woken cells asks
  module _ (k : HeapState) (q : Piles) (done : ValueRaised h p e looks k q) where
    weak_is : weak_of (back k) ≡ weak_of h
    weak_is = ap (λ (z : HeapState). weak_of (back z)) done.rest

    weak_then : weak_of k ≡ weak_of m
    weak_then = ap weak_of done.rest

    -- entries that were left in black still are, or their keys are black
    still_left : (a n d : Place) → IsDelegate k.shape n d → IsBlack k a → IsBlack k d → left_of (back k) mark.Black a n
        → left_of k mark.Black a n ⊎ IsBlack k n
    still_left a n d is ba bd left =
        elim (others mark.Black a n (subst (λ (w : WeakMapsState). IsLeft w mark.Black a n) weak_is left)) [
          | inl still ↦ inl (subst (λ (w : WeakMapsState). IsLeft w mark.Black a n) (sym weak_then) still)
          | inr at ↦ inr (subst (λ z. IsBlack k z) (sym at.1)
              (done.black d (subst (λ z. IsDelegate k.shape z d) at.1 is) (subst (λ z. IsBlack k z) at.0 ba) bd))
        ]

    now_holds : InvariantWhile [] k q
    now_holds = holds_on (back k) k.looks q [] still_left done.holds

    now_point : WeakPoint k q (left_of k)
    now_point = left_same m p k q done.rest done.point

    -- woken cells were followed
    looked_does : (n : HeapState) (u : Piles) → MarkingInvariant n u
        → Spreads (Reached k.shape (IsBlack k)) k q n u → DoesLook c h p n u
    looked_does n u new sp =
        let was : MarkingInvariant (back n) u = marking_on n h.looks u new before in
        let spread = spreads_looks h.looks (Reached k.shape (IsBlack k)) k q n u sp in
        finish (elim done.calm [
          | inl raised ↦ raised_more h p (back k) q (back n) u raised
              (raised_spread (back k) q (back n) u raised.invariant was spread)
          | inr grows ↦ raised_spread h p (back n) u inv was
              (spreads_on (marking_walk []) h p (back k) q (back n) u grows.spreads spread)
        ]) was
      where
        rest_now : n ≡ record m { colours = n.colours }
        rest_now = sp.blackens.rest ∙ ap (λ (z : HeapState). record z { colours = n.colours }) done.rest

        before : (d : MarkColour) (x y : Place) → left_of n d x y → left_of (back n) d x y
        before d x y left =
            subst (λ (w : WeakMapsState). IsLeft w d x y)
            (sym (ap (λ (z : HeapState). weak_of (back z)) rest_now))
            (looked_before h c e m refl looked d x y
            (subst (λ (w : WeakMapsState). IsLeft w d x y) (ap weak_of rest_now) left))

        finish : Raised h p (back n) u → MarkingInvariant (back n) u → DoesLook c h p n u
        finish raised was = record {
          entry = e;
          there = held;
          looked = subst (λ (z : LooksState). HasLooked c e h.shape.weak h.looks z)
              (sym (ap (λ (z : HeapState). z.looks) rest_now)) looked;
          rest = ap (λ (z : HeapState). with_looks z n.looks) raised.rest;
          invariant = new;
          black_kept = raised.black_kept;
          seen_kept = raised.seen_kept;
          gob_kept = raised.gob_kept;
          coloured = raised.coloured;
          gray_pile = raised.gray_pile;
          pending_black = λ y. (
            λ d. (raised.pending_black y).0 ((pending_on (back n) n.looks u was new y).0 d),
            λ d. (pending_on (back n) n.looks u was new y).1 ((raised.pending_black y).1 d),
          );
          pending_live = λ lists g. (let both = raised.pending_live lists g in (
            gray_on (back n) n.looks u lists both.0,
            λ y. (
              λ d. (both.1 y).0 ((live_on (back n) n.looks u lists was new both.0 y).0 d),
              λ d. (live_on (back n) n.looks u lists was new both.0 y).1 ((both.1 y).1 d),
            ),
          ));
          scans = record { black = raised.scans.black; gray = raised.scans.gray };
        }

-- as it is called
pub record Handed (c : MarkColour) (h : HeapState) (flown : ℕ → Option Bits) (s : Piles) (e : WeakEntry)
    (m : HeapState) : Type 0 where
  pub inv : MarkingInvariant (joined h flown) (pending h s)
  pub rest : m ≡ record h { looks = m.looks }
  pub sound : IsSound m.shape.weak
  pub looked : HasLooked c e h.shape.weak h.looks m.looks

module _ (c : MarkColour) (h : HeapState) (flown : ℕ → Option Bits) (s : Piles) (e : WeakEntry) (m : HeapState)
    (at : Handed c h flown s e m) where
  same_weak : m.shape.weak ≡ h.shape.weak
  same_weak = ap (λ (z : HeapState). z.shape.weak) at.rest

  pub looked_held : HasEntry m.shape e.map e.key e.value
  looked_held = (at.sound.found e.map e.key e.value).0 (stood_at m.shape.weak.entries e at.looked.number
      (ap (λ (w : WeakTableState). slice_get w.entries at.looked.number) same_weak ∙ at.looked.there))

  held_before : HasEntry h.shape e.map e.key e.value
  held_before = subst (λ (w : WeakTableState). HasEntry (record h.shape { weak = w }) e.map e.key e.value) same_weak
      looked_held

  -- what is pending is as it was
  pending_looked : pending m s ≡ pending h s
  pending_looked = ap (λ (z : HeapState). pending z s) at.rest

  joined_is : joined m flown ≡ with_looks (joined h flown) m.looks
  joined_is = ap (λ (z : HeapState). joined z flown) at.rest

  -- the key may be marked
  pub looked_marks : Covers h.shape flown → MayMark m flown s
  looked_marks covers = record {
    covers = subst (λ (z : Shape). Covers z flown) (sym (ap (λ (z : HeapState). z.shape) at.rest)) covers;
    colours = subst (λ (z : HeapState). ColourInvariant z) (sym joined_is)
        (colours_on (joined h flown) m.looks at.inv.holds.colours);
    piles = subst (λ (z : HeapState). PileInvariant z (pending m s)) (sym joined_is)
        (subst (λ (q : Piles). PileInvariant (with_looks (joined h flown) m.looks) q) (sym pending_looked) (record {
          black = at.inv.holds.piles.black;
          wake = at.inv.holds.piles.wake;
          gray = at.inv.holds.piles.gray;
        }));
  }

  module _ (l : HeapState) (r : Piles) (key : RaisesKey (joined m flown) (pending m s) e.map e.key l r) where
    raised : KeyRaised (joined h flown) (pending h s) e m.looks l r
    raised = key_raised c (joined h flown) (pending h s) e m.looks at.inv held_before at.looked l r
        (subst (λ (z : HeapState). RaisesKey z (pending h s) e.map e.key l r) joined_is
        (subst (λ (q : Piles). RaisesKey (joined m flown) q e.map e.key l r) pending_looked key))

    -- then so may the value
    pub key_colours : ColourInvariant l
    key_colours = colours_on (with_looks l h.looks) l.looks raised.holds.colours

    pub key_piles : PileInvariant l r
    key_piles = record {
      black = raised.holds.piles.black;
      wake = raised.holds.piles.wake;
      gray = raised.holds.piles.gray;
    }

    pub key_held : HasEntry l.shape e.map e.key e.value
    key_held = subst (λ (z : Shape). HasEntry z e.map e.key e.value)
        (sym (ap (λ (z : HeapState). z.shape) raised.rest)) held_before

    module _ (k : HeapState) (q : Piles) (value : Raises l r e.map e.key e.value k q) where
      done : ValueRaised (joined h flown) (pending h s) e m.looks k q
      done = value_raised c (joined h flown) (pending h s) e m.looks at.inv held_before at.looked l r raised k q value

      pub value_rest : k ≡ record (with_looks (joined h flown) m.looks) { colours = k.colours }
      value_rest = done.rest

      pub value_holds : InvariantWhile [] k q
      value_holds = now_holds c (joined h flown) (pending h s) e m.looks at.inv held_before at.looked k q done

      pub value_point : WeakPoint k q (left_of k)
      value_point = now_point c (joined h flown) (pending h s) e m.looks at.inv held_before at.looked k q done

      pub value_once : AreScannedOnce k q
      value_once = done.once

      -- what woke were gray cells outside marking zones
      pub value_grays : grays_outside k + length q.wake ≤ grays_outside (joined h flown)
      value_grays = omega (arith, done.grays, ap (λ (zs : List Place). length zs) at.inv.none_woken)

      pub value_does : (n : HeapState) (u : Piles) → MarkingInvariant n u
          → Spreads (Reached k.shape (IsBlack k)) k q n u → DoesLook c (joined h flown) (pending h s) n u
      value_does = looked_does c (joined h flown) (pending h s) e m.looks at.inv held_before at.looked k q done

-- an entry was left
pub looked_some : (c : MarkColour) (e : WeakEntry) (weak : WeakTableState) (old new : LooksState)
    → HasLooked c e weak old new → NoneLeft c old → ⊥
looked_some c e weak old next looked none = elim looked.looked [
  | inl (was, _) ↦ (none.0 looked.number).0 was
  | inr (inl (was, _)) ↦ (none.0 looked.number).1 was
  | inr (inr (n, row, was, _)) ↦ none.1 n was
]

-- a cell got the colour that was read
pub raises_white : (h l : HeapState) (p : Piles) (a b v : Place) → weaker (colour_of h a) (colour_of h b) ≡ colour.White
    → l ≡ h → Raises h p a b v l p
raises_white h l p a b v is same =
    subst (λ d. RaisesTo d h p v l p) (sym is) (same, refl)

pub raises_gray : (h l : HeapState) (p : Piles) (a b v : Place) (k : HeapState) (q : Piles)
    → weaker (colour_of h a) (colour_of h b) ≡ colour.Gray → l ≡ h → Shades l p v k q → Raises h p a b v k q
raises_gray h l p a b v k q is same shades =
    subst (λ d. RaisesTo d h p v k q) (sym is) (subst (λ (z : HeapState). Shades z p v k q) same shades)

pub raises_black : (h l : HeapState) (p : Piles) (a b v : Place) (k : HeapState) (q : Piles)
    → weaker (colour_of h a) (colour_of h b) ≡ colour.Black → l ≡ h → Turns l p v k q → Raises h p a b v k q
raises_black h l p a b v k q is same turns =
    subst (λ d. RaisesTo d h p v k q) (sym is) (subst (λ (z : HeapState). Turns z p v k q) same turns)

-- the zones that are in the state of gray marking are exactly those that take gray
pub graying_by : (s : Shape) (zones : ℕ)
    → ((z : ℕ) → HasZone zones z ↔ (slice_get s.states z ≡ Some state.MarkBlackAndGray)) → AreGraying s zones
graying_by s zones by z =
    (λ has. there (slice_get s.states z) ((by z).0 has), λ is. (by z).1 (back (slice_get s.states z) is))
  where
    there : (o : Option State) → o ≡ Some state.MarkBlackAndGray → state_or o ≡ state.MarkBlackAndGray
    there o e = ap state_or e

    back : (o : Option State) → state_or o ≡ state.MarkBlackAndGray → o ≡ Some state.MarkBlackAndGray
    back None e = cc e
    back (Some t) e = ap (λ (u : State). Some u) e

pub shades_shape : (h : HeapState) (p : Piles) (v : Place) (k : HeapState) (q : Piles) → Shades h p v k q
    → k.shape ≡ h.shape
shades_shape h p v k q shades = ap (λ (z : HeapState). z.shape) (shade_effect h p v k q shades).shaded.rest
