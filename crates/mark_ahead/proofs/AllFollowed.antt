-- All that was pending in black was followed at once.
use Rattle.std.proofs.Common.{◌≡◌, ◌⊎◌, ◌↔◌, ◌+◌, ◌<◌, ◌≤◌, ℕ, zero, suc, true, false, List, [], inl, inr, refl, sym}
use Rattle.std.proofs.Common.{ap, ◌∙◌}
use Rattle.std.proofs.Common.{◌∷◌, subst, arith, length, Contains, slice_index}
use Rattle.std.specs.Int.{bit_at}
use Rattle.std.proofs.lemmas.Nat.Bits.{bit_at-lt}
use Rattle.gz_names.specs.declared.numbers.Place.{Place}
use Rattle.cell_bits.specs.declared.bits.Bits.{Bits}
use Rattle.mark_stack.specs.Stack.{Piles}
use Rattle.mark_words.specs.Rule.{bit_of}
use Rattle.mark_words.specs.Sums.{times}
use Rattle.weak_maps.specs.WeakMaps.{LooksState}
use Rattle.weak_maps.specs.declared.colours.MarkColour.TheVariants as mark
use Rattle.heap_core.specs.Shape.{AreWhole, HasEdge, IsPresent, Shape, field_at, is_marking}
use Rattle.heap_core.specs.Heap.{HeapState}
use Rattle.heap_core.proofs.Places.{present_within}
use Rattle.barriers.specs.Colours.{IsBlack}
use Rattle.barriers.specs.Invariant.{InvariantWhile, MarkingInvariant}
use Rattle.barriers.specs.PendingBlack.{PendingBlack}
use Rattle.barriers.specs.Exposing.{KeepsLive}
use Rattle.barriers.specs.Reached.{Reached}
use Rattle.barriers.specs.Reached as reached
use Rattle.barriers.specs.Scans.{ScansNoMore}
use Rattle.barriers.specs.Spreading.{Blackens, Grows, Spreads}
use Rattle.barriers.proofs.BlackClosure.{reached_from}
use Rattle.barriers.proofs.Blackening.{marking_or_not}
use Rattle.barriers.proofs.Scans.{no_more_twice, once_kept}
use Rattle.barriers.proofs.Spreading.{blackens_more, grows_more, shape_is}
use Rattle.barriers.proofs.WeakPoint.{spread_point}
use Rattle.mark_ahead.specs.Ahead.{FollowsAll, IsMarkedBlack, PopsAll, StartsEach, TakesWords, bits_in, black_bit}
use Rattle.mark_ahead.specs.Blackening.{HasBlackened}
use Rattle.mark_ahead.specs.Blackening as words
use Rattle.marker.specs.Looks.{looks_now, with_looks}
use Rattle.marker.specs.UnitsToCome.{units_at}
use Rattle.mark_ahead.proofs.AllStarted.{AllStarted, AreClosed, HasPresent, all_started, each_started, pops_there}
use Rattle.mark_ahead.proofs.BlackBits.{bit_is_black, black_is_bit}
use Rattle.marker.proofs.BlackSteps.{Follows, keeps_pending}
use Rattle.marker.proofs.Looking.{gray_on, live_on, marking_on, pending_on}
use Rattle.mark_ahead.proofs.Members.{in_times, times_in}
use Rattle.mark_ahead.proofs.PresentCells.{present_inside}
use Rattle.marker.proofs.UnitsToCome.{maps_no_more, others_keep, scans_no_more}
use Rattle.marker.proofs.Starting.{Stands}
use Rattle.mark_ahead.proofs.WonCells.{AreFresh, all_black, all_turn, same_bits, with_pending}

none_or_some : (n : ℕ) → (n ≡ 0) ⊎ (0 < n)
none_or_some zero = inl refl
none_or_some (suc n) = inr (omega arith)

-- what marking found, which began from the black cells of marking zones
pub record Found (h : HeapState) (first last : List ℕ) (from won outside : List Place) : Type 0 where
  pub from_is : (x : Place) → Contains from x ↔ IsMarkedBlack h x
  pub sized : length first ≡ length h.colours
  pub first_is : (x : Place) → is_marking h.shape x ≡ true → bit_of first x ≡ black_bit h.colours x
  pub marked : HasBlackened (field_at h.shape) (is_marking h.shape) first from last won outside

-- what lies outside turned black
pub record Exposed (outside : List Place) (h : HeapState) (p : Piles) (k : HeapState) (q : Piles) : Type 0 where
  pub holds : InvariantWhile [] k q
  pub grows : Grows (Contains outside) h p k q
  pub black : (x : Place) → Contains outside x → IsBlack k x

-- and so did the cells that were won, as if each of them were pending in black
pub record Won (won outside : List Place) (h : HeapState) (p : Piles) (k : HeapState) (q : Piles) : Type 0 where
  pub stands : Stands k q
  pub closed : AreClosed k
  pub grows : Grows (Reached h.shape (IsBlack h)) h p k q
  pub won_black : (x : Place) → Contains won x → IsBlack k x
  pub outside_black : (x : Place) → Contains outside x → IsBlack k x
  pub only : (x : Place) → IsMarkedBlack k x → IsBlack h x ⊎ Contains won x

module _ (h : HeapState) (p : Piles) (inv : MarkingInvariant h p) (whole : AreWhole h.shape.arenas)
    (first last : List ℕ) (from won outside : List Place) (found : Found h first last from won outside) where
  reaches : {x : Place} → words.Reached (field_at h.shape) (is_marking h.shape) first from x
      → Reached h.shape (IsBlack h) x
  reaches (words.near c e m) = reached.along (reached.from ((found.from_is _).0 c).0) e
  reaches (words.far r white e m) = reached.along (reaches r) e

  edge_within : (x y : Place) → HasEdge h.shape x y → y.0 < length first
  edge_within x y e =
      let within = present_within h.shape y (inv.holds.colours.shape.targets x y e) in
      omega (arith, within, found.sized, inv.holds.colours.sized)

  there : {x : Place} → words.Reached (field_at h.shape) (is_marking h.shape) first from x → IsPresent h.shape x
  there (words.near {p = x} {q = y} c e m) = inv.holds.colours.shape.targets x y e
  there (words.far {p = x} {q = y} r white e m) = inv.holds.colours.shape.targets x y e

  is_within : {x : Place} → words.Reached (field_at h.shape) (is_marking h.shape) first from x → x.0 < length first
  is_within (words.near {p = x} {q = y} c e m) = edge_within x y e
  is_within (words.far {p = x} {q = y} r white e m) = edge_within x y e

  inside : {x : Place} → words.Reached (field_at h.shape) (is_marking h.shape) first from x
      → is_marking h.shape x ≡ true
  inside (words.near c e m) = m
  inside (words.far r white e m) = m

  -- a cell that was won was not black
  won_bit : (x : Place) → Contains won x → bit_of first x ≡ 0
  won_bit x c =
      let turned = found.marked.turned x (is_within (found.marked.reached x c)) in
      let few = bit_at-lt (slice_index last x.0) x.1 in
      let some = in_times won x c in
      omega (arith, turned, few, some)

  won_once : (x : Place) → times x won ≤ 1
  won_once x = elim (none_or_some (times x won)) [
    | inl none ↦ omega (arith, none)
    | inr some ↦ (let turned = found.marked.turned x (is_within (found.marked.reached x (times_in won x some))) in
        let few = bit_at-lt (slice_index last x.0) x.1 in
        omega (arith, turned, few))
  ]

  outside_off : (x : Place) → Contains outside x → is_marking h.shape x ≡ false
  outside_off x c = ((found.marked.outside_is x).0 c).0

  outside_reached : (x : Place) → Contains outside x → Reached h.shape (IsBlack h) x
  outside_reached x c =
      let (off, (y, side, e)) = (found.marked.outside_is x).0 c in
      elim side [
        | inl began ↦ reached.along (reached.from ((found.from_is y).0 began).0) e
        | inr turned ↦ reached.along (reaches (found.marked.reached y turned)) e
      ]

  module _ (ds es : List Bits) (q : Piles) (exposed : Exposed outside h p (record h { colours = ds }) q)
      (takes : TakesWords last (record h { colours = ds }) (record h { colours = es })) where
    abbrev k : HeapState
    k = record h { colours = ds }

    abbrev l : HeapState
    l = record h { colours = es }

    abbrev r : Piles
    r = with_pending q won

    sized : length ds ≡ length h.shape.arenas
    sized = exposed.holds.colours.sized

    was_black : (x : Place) → is_marking h.shape x ≡ true → IsBlack k x → IsBlack h x
    was_black x on black = elim (exposed.grows.spreads.blackens.only x black) [
      | inl was ↦ was
      | inr c ↦ (let off = outside_off x c in cc (on, off))
    ]

    -- where a zone is marking, the bits are as they were
    bit_same : (x : Place) → is_marking h.shape x ≡ true → black_bit ds x ≡ black_bit h.colours x
    bit_same x on = go (black_bit ds x) (black_bit h.colours x) refl refl
      where
        go : (m n : ℕ) → black_bit ds x ≡ m → black_bit h.colours x ≡ n → m ≡ n
        go m n now was = elim (one_or_not m (bit_at-lt (bits_in ds x.0).black x.1) now) [
          | inl one ↦ (let black = bit_is_black k x (now ∙ one) in
              let bit = black_is_bit h x (was_black x on black) in
              omega (arith, one, bit, was))
          | inr none ↦ elim (one_or_not n (bit_at-lt (bits_in h.colours x.0).black x.1) was) [
            | inl one ↦ (let black = exposed.grows.spreads.blackens.kept x (bit_is_black h x (was ∙ one)) in
                let bit = black_is_bit k x black in
                omega (arith, one, bit, now, none))
            | inr nothing ↦ none ∙ sym nothing
          ]
        ]
          where
            one_or_not : {b : ℕ} (n : ℕ) → b < 2 → b ≡ n → (n ≡ 1) ⊎ (n ≡ 0)
            one_or_not zero few e = inr refl
            one_or_not (suc zero) few e = inl refl
            one_or_not (suc (suc n)) few e = absurd (omega (arith, few, e))

    fresh : AreFresh k won
    fresh = record {
      once = won_once;
      present = λ x c. there (found.marked.reached x c);
      slot = λ x c. (present_inside h.shape x whole (there (found.marked.reached x c))).1;
      marking = λ x c. inside (found.marked.reached x c);
      unmarked = λ x c. (let on = inside (found.marked.reached x c) in
          bit_same x on ∙ (sym (found.first_is x on) ∙ won_bit x c));
    }

    -- the words are those with the black bits of the cells that were won
    last_bit : (x : Place) → is_marking h.shape x ≡ true → x.0 < length ds → black_bit es x ≡ bit_of last x
    last_bit x on within = ap (λ (b : Bits). bit_at b.black x.1) (takes.marking x on within)

    bits_are : (x : Place) → x.0 < length ds → black_bit es x ≡ times x won + black_bit ds x
    bits_are x within = elim (marking_or_not h.shape x) [
      | inl on ↦ (let here = last_bit x on within in
          let turned = found.marked.turned x (omega (arith, within, sized, found.sized, inv.holds.colours.sized)) in
          let same = bit_same x on in
          let first_bit = found.first_is x on in
          omega (arith, here, turned, same, first_bit))
      | inr off ↦ (let here : black_bit es x ≡ black_bit ds x =
          ap (λ (b : Bits). bit_at b.black x.1) (takes.others x off) in
          let none : times x won ≡ 0 = none_won x off in
          omega (arith, here, none))
    ]
      where
        none_won : (x : Place) → is_marking h.shape x ≡ false → times x won ≡ 0
        none_won x off = elim (none_or_some (times x won)) [
          | inl none ↦ none
          | inr some ↦ (let on = inside (found.marked.reached x (times_in won x some)) in cc (on, off))
        ]

    gobs_are : (a : ℕ) → a < length ds → (bits_in es a).gob ≡ (bits_in ds a).gob
    gobs_are a within = elim (marking_or_not h.shape (a, 0)) [
      | inl on ↦ ap (λ (b : Bits). b.gob) (takes.marking (a, 0) on within)
      | inr off ↦ ap (λ (b : Bits). b.gob) (takes.others (a, 0) off)
    ]

    all_are : es ≡ all_black ds won
    all_are = same_bits k won es sized fresh takes.sized bits_are gobs_are

    turned : Grows (Contains won) k q l r × InvariantWhile [] l r
    turned =
        let all = all_turn k q sized won fresh in
        subst (λ (zs : List Bits). Grows (Contains won) k q (record h { colours = zs }) r
        × InvariantWhile [] (record h { colours = zs }) r) (sym all_are)
        (all.grows, all.invariant [] exposed.holds)

    grown : Grows (Reached h.shape (IsBlack h)) h p l r
    grown = grows_more (Contains outside) (Contains won) (Reached h.shape (IsBlack h)) h p k q l r exposed.grows
        turned.0 outside_reached (λ x c. reaches (found.marked.reached x c))

    only_won : (x : Place) → IsMarkedBlack l x → IsBlack h x ⊎ Contains won x
    only_won x (black, on) = elim (turned.0.spreads.blackens.only x black) [
      | inl was ↦ inl (was_black x on was)
      | inr c ↦ inr c
    ]

    now_black : (x : Place) → Contains won x → IsBlack l x
    now_black x c =
        let r = found.marked.reached x c in
        let on = inside r in
        let within = is_within r in
        bit_is_black l x (last_bit x on (omega (arith, within, sized, found.sized, inv.holds.colours.sized))
        ∙ (found.marked.black x within).1 (inr r))

    closed : AreClosed l
    closed x y black on e = elim (marking_or_not h.shape y) [
      | inl there ↦ bit_is_black l y (last_bit y there (omega (
        arith,
        edge_within x y e,
        sized,
        found.sized,
        inv.holds.colours.sized,
      )) ∙ (found.marked.black y (edge_within x y e)).1 (inr (onward there)))
      | inr off ↦ turned.0.spreads.blackens.kept y
          (exposed.black y ((found.marked.outside_is y).1 (off, (x, source, e))))
    ]
      where
        source : Contains from x ⊎ Contains won x
        source = elim (only_won x (black, on)) [ inl was ↦ inl ((found.from_is x).1 (was, on)) | inr c ↦ inr c ]

        onward : is_marking h.shape y ≡ true → words.Reached (field_at h.shape) (is_marking h.shape) first from y
        onward there = elim source [
          | inl began ↦ words.near began e there
          | inr c ↦ words.far (found.marked.reached x c) (won_bit x c) e there
        ]

    stands : Stands l r
    stands = record {
      holds = turned.1;
      weak = spread_point (Reached h.shape (IsBlack h)) h p l r grown.spreads inv.holds.colours inv.weak;
      once = once_kept h p l r grown.spreads.scans inv.once;
    }

    all_won : Won won outside h p l r
    all_won = record {
      stands = stands;
      closed = closed;
      grows = grown;
      won_black = now_black;
      outside_black = λ x c. turned.0.spreads.blackens.kept x (exposed.black x c);
      only = only_won;
    }

-- for heaps of which all but the colours is as it was
pub won_by : (h : HeapState) (p : Piles) → MarkingInvariant h p → AreWhole h.shape.arenas → (first last : List ℕ)
    (from won outside : List Place) → Found h first last from won outside → (k : HeapState) (q : Piles)
    (l : HeapState) → Exposed outside h p k q → TakesWords last k l → Won won outside h p l (with_pending q won)
won_by h p inv whole first last from won outside found k q l exposed takes =
    let first_rest = exposed.grows.spreads.blackens.rest in
    let rest : l ≡ record h { colours = l.colours } =
    takes.rest ∙ ap (λ (z : HeapState). record z { colours = l.colours }) first_rest in
    subst (λ (z : HeapState). Won won outside h p z (with_pending q won)) (sym rest)
    (all_won h p inv whole first last from won outside found k.colours l.colours q
    (subst (λ (z : HeapState). Exposed outside h p z q) first_rest exposed)
    (subst (λ (z : HeapState). TakesWords last z (record h { colours = l.colours })) first_rest
    (subst (λ (z : HeapState). TakesWords last k z) rest takes)))

-- the looks that are to come are others, and black spread
looks_blackens : (P : Place → Type 0) (h k : HeapState) (d : LooksState) → Blackens P h k
    → Blackens P (with_looks h d) (with_looks k d)
looks_blackens P h k d b = record {
  rest = ap (λ (z : HeapState). with_looks z d) b.rest;
  sized = b.sized;
  kept = b.kept;
  gobs_is = b.gobs_is;
  only = b.only;
  others = b.others;
  whites_less = b.whites_less;
}

-- the cells that are pending were started, and then what was woken was followed
module _ (h : HeapState) (p : Piles) (inv : MarkingInvariant h p) (first last : List ℕ) (from won outside : List Place)
    (found : Found h first last from won outside) (es : List Bits) (r : Piles)
    (all : Won won outside h p (record h { colours = es }) r) (x : Place) (xs : List Place) (d : LooksState) (q : Piles)
    (pops : PopsAll (record h { colours = es }) (x ∷ xs) h.looks r d q) where
  abbrev marked_heap : HeapState
  marked_heap = record h { colours = es }

  abbrev started_heap : HeapState
  started_heap = record h { colours = es; looks = d }

  pub started : AllStarted marked_heap h.looks d r q (x ∷ xs)
  started = all_started marked_heap all.closed (x ∷ xs) h.looks d r q all.stands pops

  module _ (t : HeapState) (u : Piles)
      (sp : Spreads (Reached h.shape (IsBlack marked_heap)) started_heap q t u) (new : MarkingInvariant t u) where
    same : t.shape ≡ h.shape
    same = shape_is started_heap t sp.blackens.rest

    looks_are : t.looks ≡ d
    looks_are = ap (λ (z : HeapState). z.looks) sp.blackens.rest

    marks : MarkingInvariant (with_looks h d) p
    marks = marking_on h d p inv started.left_kept

    was_reached : (y : Place) → IsBlack marked_heap y → Reached h.shape (IsBlack h) y
    was_reached y b = elim (all.grows.spreads.blackens.only y b) [
      | inl was ↦ reached.from was
      | inr z ↦ z
    ]

    spread : Blackens (Reached h.shape (IsBlack h)) (with_looks h d) t
    spread = blackens_more (Reached h.shape (IsBlack h)) (Reached h.shape (IsBlack marked_heap))
        (Reached h.shape (IsBlack h)) (with_looks h d) started_heap t
        (looks_blackens (Reached h.shape (IsBlack h)) h marked_heap d all.grows.spreads.blackens) sp.blackens
        (λ y z. z)
        (λ y z. reached_from h.shape (IsBlack marked_heap) (IsBlack h) was_reached z)

    gray_is : u.gray ≡ p.gray
    gray_is = sp.gray_is ∙ (started.gray_is ∙ all.grows.spreads.gray_is)

    follows : Follows (with_looks h d) p t u
    follows = keeps_pending (with_looks h d) p t u marks new gray_is spread

    pending_black : (y : Place) → PendingBlack t u y ↔ PendingBlack h p y
    pending_black y =
        let on = pending_on h d p inv marks y in
        (λ b. on.0 ((follows.pending_black y).0 b), λ b. (follows.pending_black y).1 (on.1 b))

    pending_live : KeepsLive h p t u
    pending_live lists g =
        let both = follows.pending_live lists (gray_on h d p lists g) in (
          both.0,
          λ y. (
            λ b. (live_on h d p lists inv marks g y).0 ((both.1 y).0 b),
            λ b. (both.1 y).1 ((live_on h d p lists inv marks g y).1 b),
          ),
        )

    gray_pile : (a b : Piles) → a.gray ≡ b.gray → (y : Place) → Contains a.gray y → Contains b.gray y
    gray_pile a b e y c = subst (λ (ys : List Place). Contains ys y) e c

    fewer : (cells : List Place) → HasPresent h cells → units_at t u cells < units_at h p cells
    fewer cells has =
        let scans = all.grows.spreads.scans in
        let turned = others_keep h p marked_heap r cells refl (scans_no_more h p marked_heap r refl scans)
        (maps_no_more h p marked_heap r refl scans inv.holds.colours.no_gray inv.once
        (λ y c. inl (gray_pile r p all.grows.spreads.gray_is y c))) (omega arith) in
        let lowered = started.lowers cells has in
        let weak = ap (λ (s : Shape). s.weak) same in
        let here : t.shape ≡ started_heap.shape = same in
        let looks = ap looks_now looks_are in
        let drained = others_keep started_heap q t u cells weak (scans_no_more started_heap q t u here sp.scans)
        (maps_no_more started_heap q t u here sp.scans started.stands.holds.colours.no_gray started.stands.once
        (λ y c. inl (gray_pile u q sp.gray_is y c))) (omega (arith, looks)) in
        omega (arith, turned, lowered, drained)

    scans_fewer : ScansNoMore h p t u
    scans_fewer = no_more_twice h p marked_heap r t u all.grows.spreads.scans
        (no_more_twice marked_heap r started_heap q t u started.scans sp.scans)

    black_kept : (y : Place) → IsBlack marked_heap y → IsBlack t y
    black_kept y b = sp.blackens.kept y b

    each : StartsEach mark.Black (IsMarkedBlack t) h h.looks d
    each = each_started (IsMarkedBlack t) h (x ∷ xs) h.looks d r q (λ y c. (
      black_kept y (started.black y c).0,
      ap (λ (s : Shape). is_marking s y) same ∙ (started.black y c).1,
    )) (pops_there marked_heap h (x ∷ xs) h.looks d r q refl pops)

    first_is : (y : Place) → is_marking h.shape y ≡ true → (bit_of first y ≡ 1) ↔ IsBlack h y
    first_is y on = (
      λ one. bit_is_black h y (sym (found.first_is y on) ∙ one),
      λ black. found.first_is y on ∙ black_is_bit h y black,
    )

    only : (y : Place) → IsMarkedBlack t y → IsBlack h y ⊎ (Contains won y ⊎ Contains u.black y)
    only y (black, on) =
        let here : is_marking h.shape y ≡ true = ap (λ (s : Shape). is_marking s y) (sym same) ∙ on in
        elim (sp.fresh y black here) [
          | inr c ↦ inr (inr c)
          | inl was ↦ elim (all.only y (was, here)) [ inl before ↦ inl before | inr c ↦ inr (inl c) ]
        ]

    pub follows_all : FollowsAll h p t u
    follows_all = record {
      invariant = new;
      blackens = subst (λ (z : LooksState). Blackens (Reached h.shape (IsBlack h)) (with_looks h z) t) (sym looks_are)
          spread;
      gray_is = gray_is;
      pending_black = pending_black;
      pending_live = pending_live;
      fewer = fewer;
      scans = scans_fewer;
      started = subst (λ (z : LooksState). StartsEach mark.Black (IsMarkedBlack t) h h.looks z) (sym looks_are) each;
      from = from;
      from_is = found.from_is;
      first = first;
      sized = found.sized;
      first_is = first_is;
      last = last;
      won = won;
      outside = outside;
      marked = found.marked;
      won_black = λ y c. black_kept y (all.won_black y c);
      outside_black = λ y c. black_kept y (all.outside_black y c);
      only = only;
    }
