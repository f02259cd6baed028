-- The steps by which all that was pending in black was followed at once.
use Rattle.std.proofs.Common.{◌≡◌, ◌≢◌, ◌↔◌, ◌+◌, ◌<◌, ◌≤◌, ◌++◌, ◌∷◌, ◌∙◌, ℕ, true, List, []}
use Rattle.std.proofs.Common.{All, Option, Some, None, Contains, inl, inr, refl, sym, ap, subst, arith, length, map}
use Rattle.std.proofs.Common.{is_some, slice_get, slice_index, unwrap_or}
use Rattle.std.specs.Int.{bit_at}
use Rattle.std.specs.Option.{option_map}
use Rattle.std.proofs.Math.ListN.{get_or-map}
use Rattle.std.proofs.lemmas.Bool.{cases_lt}
use Rattle.std.proofs.lemmas.List.{length-map}
use Rattle.std.proofs.lemmas.List.Elements.{All-contains_itself, All-weaker}
use Rattle.std.proofs.lemmas.Option.{slice_get-get_or, slice_get_past, unwrap_or-slice_get}
use Rattle.gz_names.specs.declared.numbers.Place.{Place}
use Rattle.cell_bits.specs.declared.bits.Bits.{Bits}
use Rattle.mark_stack.specs.Stack.{Piles}
use Rattle.mark_words.specs.Rule.{bit_of}
use Rattle.weak_maps.specs.WeakMaps.{AreParallel, IsSound, LooksState}
use Rattle.heap_core.specs.Shape.{AreWhole, HasEdge, IsPresent, Shape, field_at, is_marking, out_of}
use Rattle.heap_core.specs.Heap.{HeapState, colour_in, colour_of, flown_or, joined}
use Rattle.barriers.specs.Colours.{IsBlack, grays_outside}
use Rattle.barriers.specs.Draining.{MayDrain}
use Rattle.barriers.specs.Invariant.{InvariantWhile, MarkingInvariant}
use Rattle.barriers.specs.Pending.{pending}
use Rattle.barriers.specs.Reached.{Reached}
use Rattle.barriers.specs.Spreading.{Covers, Spreads}
use Rattle.barriers.proofs.Flying.{flown_get, flown_length, none_flown}
use Rattle.barriers.proofs.Places.{nothing_in_none}
use Rattle.barriers.proofs.Queueing.{pending_same}
use Rattle.mark_ahead.specs.Ahead.{FollowsAll, IsMarkedBlack, PopsAll, StartsAll, StartsPending, TakesWords, bits_in}
use Rattle.mark_ahead.specs.Blackening.{HasBlackened}
use Rattle.mark_ahead.proofs.AllFollowed.{Exposed, Found, Won, follows_all, started, won_by}
use Rattle.mark_ahead.proofs.AllStarted.{AllStarted, all_there, pops_there, pops_twice, starts_pop}
use Rattle.mark_ahead.proofs.NoEntries.{others_started, popped_sound}
use Rattle.mark_ahead.proofs.PresentCells.{present_inside}
use Rattle.marker.proofs.Starting.{Stands}
use Rattle.mark_ahead.proofs.WonCells.{with_pending}

-- the bits of an arena, by the heap's own and those in flight
joined_bits : (h : HeapState) (f : ℕ → Option Bits) (a : ℕ) → bits_in (joined h f).colours a
    ≡ unwrap_or (option_map (flown_or (f a)) (slice_get h.colours a)) (record { black = 0; gob = 0 })
joined_bits h f a = sym (unwrap_or-slice_get (joined h f).colours a (record { black = 0; gob = 0 }))
    ∙ ap (λ (o : Option Bits). unwrap_or o (record { black = 0; gob = 0 }))
    (flown_get f h.colours a 0 a (omega arith))

own : (o : Option Bits) → option_map (flown_or None) o ≡ o
own None = refl
own (Some b) = refl

-- an arena that is not in flight
own_slot : (h : HeapState) (f : ℕ → Option Bits) (a : ℕ) → f a ≡ None
    → slice_get (joined h f).colours a ≡ slice_get h.colours a
own_slot h f a none = flown_get f h.colours a 0 a (omega arith)
    ∙ ap (λ (o : Option Bits). option_map (flown_or o) (slice_get h.colours a)) none ∙ own (slice_get h.colours a)

own_bits : (h : HeapState) (f : ℕ → Option Bits) (a : ℕ) → f a ≡ None
    → bits_in (joined h f).colours a ≡ bits_in h.colours a
own_bits h f a none = sym (unwrap_or-slice_get (joined h f).colours a (record { black = 0; gob = 0 }))
    ∙ ap (λ (o : Option Bits). unwrap_or o (record { black = 0; gob = 0 })) (own_slot h f a none)
    ∙ unwrap_or-slice_get h.colours a (record { black = 0; gob = 0 })

own_colour : (h : HeapState) (f : ℕ → Option Bits) (x : Place) → f x.0 ≡ None
    → colour_of (joined h f) x ≡ colour_of h x
own_colour h f x none = ap (λ (o : Option Bits). colour_in o x.1) (own_slot h f x.0 none)

-- arenas that have the same bits
same_slot : (xs ys : List Bits) (a : ℕ) → length ys ≡ length xs → bits_in ys a ≡ bits_in xs a
    → slice_get ys a ≡ slice_get xs a
same_slot xs ys a long same = elim (cases_lt a (length xs)) [
  | inl within ↦ slice_get-get_or ys a (record { black = 0; gob = 0 }) (omega (arith, long, within))
      ∙ ap (λ (b : Bits). Some b) same ∙ sym (slice_get-get_or xs a (record { black = 0; gob = 0 }) within)
  | inr past ↦ slice_get_past ys a (omega (arith, long, past)) ∙ sym (slice_get_past xs a past)
]

-- no arena of a marking zone is in flight
none_in_flight : (h : HeapState) (f : ℕ → Option Bits) → Covers h.shape f
    → ((x : Place) → is_marking h.shape x ≡ true → out_of h.shape x.0 ≡ None) → (x : Place)
    → is_marking h.shape x ≡ true → f x.0 ≡ None
none_in_flight h f covers kept x on =
    none_flown (f x.0) (covers x.0 ∙ ap (λ (o : Option Bits). is_some o) (kept x on))

-- the heap's own bits, of each of its arenas
pub own_sized : (h : HeapState) (f : ℕ → Option Bits) (p : Piles) → InvariantWhile [] (joined h f) p
    → length h.colours ≡ length h.shape.arenas
own_sized h f p holds = sym (flown_length f 0 h.colours) ∙ holds.colours.sized

-- the cells from which marking begins are present
pub cells_present : (h : HeapState) (f : ℕ → Option Bits) (p : Piles) → MarkingInvariant (joined h f) p
    → Covers h.shape f → (from : List Place)
    → ((x : Place) → Contains from x ↔ ((x.1 < 64) × IsMarkedBlack h x)) → All (IsPresent h.shape) from
cells_present h f p inv covers from cells = All-weaker (Contains from) (IsPresent h.shape) (λ x c.
    let is = (cells x).0 c in
    let own = own_colour h f x (none_in_flight h f covers inv.holds.colours.shape.kept x is.1.1) in
    inv.holds.colours.seen_present x (inr (own ∙ is.1.0))) from (All-contains_itself from)

-- and so are those that lie outside
pub outside_present : (s : Shape) → ((x y : Place) → HasEdge s x y → IsPresent s y) → (first last : List ℕ)
    (from won outside : List Place) → HasBlackened (field_at s) (is_marking s) first from last won outside
    → All (IsPresent s) outside
outside_present s targets first last from won outside marked =
    All-weaker (Contains outside) (IsPresent s) (λ x c.
    let (off, (y, side, e)) = (marked.outside_is x).0 c in targets y x e) outside (All-contains_itself outside)

-- what marking began from, found and listed, and the heap, the bits in flight and the piles after each step: as all
-- was pending (h, f, p), as what lies outside was exposed (k, g, q), as the arenas took the words (l), as the listed
-- cells were started (m), and as those that were pending were, too (n, u)
pub record Moments : Type 0 where
  pub first : List ℕ
  pub last : List ℕ
  pub from : List Place
  pub won : List Place
  pub listed : List Place
  pub outside : List Place
  pub h : HeapState
  pub f : ℕ → Option Bits
  pub p : Piles
  pub k : HeapState
  pub g : ℕ → Option Bits
  pub q : Piles
  pub l : HeapState
  pub m : HeapState
  pub n : HeapState
  pub u : Piles

-- the steps that lead from one moment to the next
pub record Steps (t : Moments) : Type 0 where
  pub invariant : MarkingInvariant (joined t.h t.f) (pending t.h t.p)
  pub covers : Covers t.h.shape t.f
  pub whole : AreWhole t.h.shape.arenas
  pub some : (pending t.h t.p).black ≢ []
  pub cells : (x : Place) → Contains t.from x ↔ ((x.1 < 64) × IsMarkedBlack t.h x)
  pub words : t.first ≡ map (λ (bits : Bits). bits.black) t.h.colours
  pub marked : HasBlackened (field_at t.h.shape) (is_marking t.h.shape) t.first t.from t.last t.won t.outside
  pub listed_won : 0 < length t.h.shape.weak.entries → t.listed ≡ t.won
  pub exposed : Exposed t.outside (joined t.h t.f) (pending t.h t.p) (joined t.k t.g) (pending t.k t.q)
  pub still_covers : Covers t.k.shape t.g
  pub takes : TakesWords t.last t.k t.l
  pub looks : t.m ≡ record t.l { looks = t.m.looks }
  pub starts : StartsAll t.l t.listed t.l.looks t.m.looks
  pub pops : StartsPending t.m t.q t.n t.u

-- a list that has cells has a first one
first_of : (xs ys : List Place) → ys ≢ [] → (x : Place) × (rest : List Place) × (xs ++ ys ≡ x ∷ rest)
first_of [] [] some = absurd (some refl)
first_of [] (y ∷ ys) some = (y, ys, refl)
first_of (x ∷ xs) ys some = (x, xs ++ ys, refl)

module _ (ts : Moments) (st : Steps ts) where
  abbrev first : List ℕ
  first = ts.first

  abbrev last : List ℕ
  last = ts.last

  abbrev from : List Place
  from = ts.from

  abbrev won : List Place
  won = ts.won

  abbrev outside : List Place
  outside = ts.outside

  abbrev h : HeapState
  h = ts.h

  abbrev f : ℕ → Option Bits
  f = ts.f

  abbrev p : Piles
  p = ts.p

  abbrev k : HeapState
  k = ts.k

  abbrev g : ℕ → Option Bits
  g = ts.g

  abbrev q : Piles
  q = ts.q

  abbrev l : HeapState
  l = ts.l

  abbrev m : HeapState
  m = ts.m

  abbrev n : HeapState
  n = ts.n

  abbrev u : Piles
  u = ts.u

  abbrev here : HeapState
  here = joined h f

  in_heap : (x : Place) → is_marking h.shape x ≡ true → f x.0 ≡ None
  in_heap = none_in_flight h f st.covers st.invariant.holds.colours.shape.kept

  found : Found here first last from won outside
  found = record {
    from_is = λ x. (
      λ c. (let is = (st.cells x).0 c in (own_colour h f x (in_heap x is.1.1) ∙ is.1.0, is.1.1)),
      λ b. (st.cells x).1 (
        (present_inside h.shape x st.whole (st.invariant.holds.colours.seen_present x (inr b.0))).1,
        (sym (own_colour h f x (in_heap x b.1)) ∙ b.0, b.1),
      ),
    );
    sized = ap length st.words ∙ length-map h.colours (λ (bits : Bits). bits.black)
        ∙ sym (flown_length f 0 h.colours);
    first_is = λ x on. ap (λ ws. bit_of ws x) st.words
        ∙ ap (λ w. bit_at w x.1)
        (get_or-map (λ (bits : Bits). bits.black) h.colours x.0 (record { black = 0; gob = 0 }))
        ∙ ap (λ (b : Bits). bit_at b.black x.1) (sym (own_bits h f x.0 (in_heap x on)));
    marked = st.marked;
  }

  shape_is : k.shape ≡ h.shape
  shape_is = ap (λ (z : HeapState). z.shape) st.exposed.grows.spreads.blackens.rest

  kept_there : (x : Place) → is_marking k.shape x ≡ true → g x.0 ≡ None
  kept_there = none_in_flight k g st.still_covers st.exposed.holds.colours.shape.kept

  takes_there : TakesWords last (joined k g) (joined l g)
  takes_there = record {
    rest = ap (λ (z : HeapState). joined z g) st.takes.rest;
    sized = flown_length g 0 l.colours ∙ st.takes.sized ∙ sym (flown_length g 0 k.colours);
    marking = λ x on within. (let none = kept_there x on in
        own_bits l g x.0 none
        ∙ st.takes.marking x on (omega (arith, within, flown_length g 0 k.colours))
        ∙ ap (λ (b : Bits). record b { black = slice_index last x.0 }) (sym (own_bits k g x.0 none)));
    others = λ x off. joined_bits l g x.0
        ∙ ap (λ (o : Option Bits). unwrap_or (option_map (flown_or (g x.0)) o) (record { black = 0; gob = 0 }))
        (same_slot k.colours l.colours x.0 st.takes.sized (st.takes.others x off))
        ∙ sym (joined_bits k g x.0);
  }

  abbrev there : HeapState
  there = joined l g

  abbrev piled : Piles
  piled = with_pending (pending k q) won

  won_there : Won won outside here (pending h p) there piled
  won_there = won_by here (pending h p) st.invariant st.whole first last from won outside found (joined k g)
      (pending k q) there st.exposed takes_there

  rest_there : there ≡ record here { colours = there.colours }
  rest_there = won_there.grows.spreads.blackens.rest

  same_pending : pending m q ≡ pending k q
  same_pending = pending_same k m q (ap (λ (z : HeapState). z.delayed) st.looks
      ∙ ap (λ (z : HeapState). z.delayed) st.takes.rest)

  -- some cell was pending, so some were popped
  popped_some : st.pops.cells ≢ []
  popped_some none = go (pending h p).black refl
    where
      left : (pending n u).black ≡ (pending k q).black
      left =
          let same = subst (λ (xs : List Place). PopsAll m xs m.looks (pending m q) n.looks (pending n u)) none
          st.pops.pops in
          ap (λ (z : Piles). z.black) (same.1 ∙ same_pending)

      go : (xs : List Place) → (pending h p).black ≡ xs → ⊥
      go [] e = st.some e
      go (x ∷ xs) e =
          let was : Contains (pending h p).black x =
          subst (λ (ys : List Place). Contains ys x) (sym e) (0, omega arith, refl) in
          nothing_in_none x (subst (λ (ys : List Place). Contains ys x) (sym left ∙ st.pops.empty)
          (st.exposed.grows.spreads.pile_kept x was))

  -- the cells that were won were started, listed or not: without weak entries that changes nothing
  starts_won : StartsAll l won l.looks m.looks
  starts_won =
      let same : l.shape ≡ h.shape = ap (λ (z : HeapState). z.shape) st.takes.rest ∙ shape_is in
      let entries = ap (λ (s : Shape). length s.weak.entries) same in
      elim (cases_lt 0 (length l.shape.weak.entries)) [
        | inl some ↦ subst (λ (xs : List Place). StartsAll l xs l.looks m.looks)
            (st.listed_won (omega (arith, some, entries))) st.starts
        | inr few ↦ (let there = ap (λ (z : HeapState). z.shape) st.looks in
            let popped = popped_sound m st.pops.cells m.looks n.looks (pending m q) (pending n u) st.pops.pops
            popped_some in
            others_started l (subst (λ (s : Shape). IsSound s.weak) there popped.0) (omega (arith, few)) ts.listed won
            l.looks m.looks st.starts
            (subst (λ (s : Shape). AreParallel (record { table = s.weak; looks = m.looks })) there popped.1))
      ]

  all_pops : PopsAll there (won ++ st.pops.cells) l.looks piled n.looks (pending n u)
  all_pops =
      let second = subst (λ (z : Piles). PopsAll there st.pops.cells m.looks z n.looks (pending n u)) same_pending
      (pops_there m there st.pops.cells m.looks n.looks (pending m q) (pending n u)
      (sym (ap (λ (z : HeapState). z.shape) st.looks)) st.pops.pops) in
      pops_twice there won st.pops.cells l.looks m.looks n.looks piled (pending k q) (pending n u)
      (starts_pop there won l.looks m.looks (pending k q)
      (all_there l there won l.looks m.looks refl starts_won)) second

  begun : (x : Place) × (rest : List Place) × (won ++ st.pops.cells ≡ x ∷ rest)
  begun = first_of won st.pops.cells popped_some

  looks_are : l.looks ≡ h.looks
  looks_are = ap (λ (z : HeapState). z.looks) rest_there

  -- the heap that stands before the woken cells are followed
  end_is : joined n g ≡ record here { colours = there.colours; looks = n.looks }
  end_is = ap (λ (z : HeapState). joined z g) st.pops.rest
      ∙ (ap (λ (z : HeapState). record (joined z g) { looks = n.looks }) st.looks
      ∙ ap (λ (z : HeapState). record z { looks = n.looks }) rest_there)

  won_here : Won won outside here (pending h p) (record here { colours = there.colours }) piled
  won_here = subst (λ (z : HeapState). Won won outside here (pending h p) z piled) rest_there won_there

  pops_here : PopsAll (record here { colours = there.colours }) (begun.0 ∷ begun.1) h.looks piled n.looks (pending n u)
  pops_here =
      subst (λ (xs : List Place). PopsAll (record here { colours = there.colours }) xs h.looks piled n.looks
      (pending n u)) begun.2
      (subst (λ (d : LooksState). PopsAll (record here { colours = there.colours }) (won ++ st.pops.cells) d piled
      n.looks (pending n u)) looks_are
      (pops_there there (record here { colours = there.colours }) (won ++ st.pops.cells) l.looks n.looks piled
      (pending n u) (sym (ap (λ (z : HeapState). z.shape) rest_there)) all_pops))

  all : AllStarted (record here { colours = there.colours }) h.looks n.looks piled (pending n u) (begun.0 ∷ begun.1)
  all = started here (pending h p) st.invariant first last from won outside found there.colours piled won_here
      begun.0 begun.1 n.looks (pending n u) pops_here

  shape_end : n.shape ≡ k.shape
  shape_end = ap (λ (z : HeapState). z.shape) end_is ∙ sym shape_is

  stands : Stands (joined n g) (pending n u)
  stands = subst (λ (z : HeapState). Stands z (pending n u)) (sym end_is) all.stands

  pub may_drain : (ledger : ℕ) → h.ledger ≡ Some ledger → MayDrain ledger n g u
  may_drain ledger counted = record {
    counted = ap (λ (z : HeapState). z.ledger) end_is ∙ counted;
    covers = subst (λ (s : Shape). Covers s g) (sym shape_end) st.still_covers;
    holds = stands.holds;
    weak = stands.weak;
    once = stands.once;
  }

  pub all_followed : (t : HeapState) (v : Piles) → Spreads (Reached n.shape (IsBlack (joined n g))) (joined n g)
      (pending n u) t v → MarkingInvariant t v → FollowsAll here (pending h p) t v
  all_followed t v sp new = follows_all here (pending h p) st.invariant first last from won outside found
      there.colours piled won_here begun.0 begun.1 n.looks (pending n u) pops_here t v
      (subst (λ (z : HeapState). Spreads (Reached z.shape (IsBlack z)) z (pending n u) t v) end_is sp) new

  -- what was woken were gray cells outside marking zones
  pub grays_fewer : grays_outside (joined n g) + length (pending n u).wake ≤ grays_outside here
  grays_fewer =
      let same : grays_outside (joined n g) ≡ grays_outside there =
      ap grays_outside end_is ∙ sym (ap grays_outside rest_there) in
      let wake : length (pending n u).wake ≡ length piled.wake = ap length all.wake_is in
      let none : length (pending h p).wake ≡ 0 = ap length st.invariant.none_woken in
      omega (arith, won_there.grows.spreads.grays, same, wake, none)
