-- The arenas of marking zones, one after another.
use Rattle.std.proofs.Common.{◌≡◌, ◌≢◌, ◌⊎◌, ◌↔◌, ◌+◌, ◌<◌, ◌≤◌, ◌^◌, ◌==◌, ◌++◌, ◌∷◌, [], ℕ, zero, suc, Bool, true}
use Rattle.std.proofs.Common.{false, List}
use Rattle.std.proofs.Common.{Option, Some, None, IsSomeAnd, Contains, inl, inr, refl, sym, ap, ◌∙◌, subst, arith}
use Rattle.std.proofs.Common.{length}
use Rattle.std.proofs.Common.{slice_get, slice_index, slice_set, length-set, if◌then◌else◌, bit_and, w64, ◌-◌}
use Rattle.std.specs.Int.{bit_at, trailing_zeros}
use Rattle.std.proofs.lemmas.Bool.{cases_lt}
use Rattle.std.proofs.lemmas.Bool.Decides.{eqb_tells}
use Rattle.std.proofs.lemmas.List.{get_or-set_other, get_or-set_same}
use Rattle.std.proofs.lemmas.List.Elements.{Contains-append_left, Contains-push, Contains-push_cases}
use Rattle.std.proofs.lemmas.Nat.Bits.{bit_at-trailing_zeros, bit_at-zero, bit_at_above}
use Rattle.std.proofs.lemmas.Option.{get_or_from_slice_get, slice_get_past, slice_get_within}
use Rattle.gz_names.specs.Zones.{HasZone}
use Rattle.gz_names.specs.declared.numbers.Place.{Place}
use Rattle.cell_bits.specs.declared.bits.Bits.{Bits}
use Rattle.cell_bits.specs.declared.bits.Colour.TheVariants as colour
use Rattle.zones.specs.States.{IsMarking}
use Rattle.zones.specs.declared.states.State.{State}
use Rattle.zones.specs.declared.states.State.TheVariants as state
use Rattle.arena_table.proofs.LowestBit.{bit_at-rest}
use Rattle.heap_core.specs.Shape.{ArenaShape, Shape, is_marking, is_marking_state, is_owned, is_owned_in, out_of}
use Rattle.heap_core.specs.Shape.{state_in}
use Rattle.heap_core.specs.Shape.{state_or, zone_in}
use Rattle.heap_core.specs.Heap.{HeapState, colour_in, colour_of}
use Rattle.barriers.proofs.Places.{same_place}
use Rattle.mark_ahead.specs.Ahead.{IsMarkedBlack, IsSlotOf, TakesWords, bits_in, black_bit}
use Rattle.mark_ahead.proofs.BlackBits.{bit_is_black, black_is_bit}

-- the zones of a word are those that are marking
abbrev pub AreMarking : Shape → ℕ → Type 0
AreMarking s word = (z : ℕ) → HasZone word z ↔ IsSomeAnd (slice_get s.states z) IsMarking

has_zone : (word z : ℕ) → word < 2 ^ 64 → bit_at word z ≡ 1 → HasZone word z
unfolding HasZone
has_zone word z fits one = elim (cases_lt z 64) [
  | inl below ↦ (below, one)
  | inr past ↦ (let none = bit_at_above word 64 z fits past in absurd (omega (arith, one, none)))
]

zone_bit : (word z : ℕ) → HasZone word z → bit_at word z ≡ 1
unfolding HasZone
zone_bit word z has = has.1

marks : (o : Option State) → IsSomeAnd o IsMarking → is_marking_state (state_or o) ≡ true
marks None is = absurd is
marks (Some found) (inl e) = ap is_marking_state e
marks (Some found) (inr e) = ap is_marking_state e

marked : (o : Option State) → is_marking_state (state_or o) ≡ true → IsSomeAnd o IsMarking
marked None on = absurd (cc on)
marked (Some state.NoGC) on = absurd (cc on)
marked (Some state.Prepare) on = absurd (cc on)
marked (Some state.MarkBlackOnly) on = inl refl
marked (Some state.MarkBlackAndGray) on = inr refl
marked (Some state.Sweep) on = absurd (cc on)
marked (Some state.Finished) on = absurd (cc on)

module _ (s : Shape) (word : ℕ) (fits : word < 2 ^ 64) (are : AreMarking s word) where
  pub owned_marking : (x : Place) → is_owned s word x.0 ≡ true
      → (is_marking s x ≡ true) × (x.0 < length s.arenas)
  owned_marking x owned = go (slice_get s.arenas x.0) refl owned
    where
      go : (o : Option ArenaShape) → slice_get s.arenas x.0 ≡ o → is_owned_in word o ≡ true
          → (is_marking s x ≡ true) × (x.0 < length s.arenas)
      go None at is = absurd (cc is)
      go (Some arena) at is = elim (eqb_tells (bit_at word arena.zone) 1) [
        | inl one ↦ (
          ap (λ (o : Option ArenaShape). is_marking_state (state_in s (zone_in o))) at
              ∙ marks (slice_get s.states arena.zone) ((are arena.zone).0 (has_zone word arena.zone fits one.1)),
          slice_get_within s.arenas x.0 arena at,
        )
        | inr other ↦ (let no = other.0 in absurd (cc (no, is)))
      ]

  pub others_off : (x : Place) → is_owned s word x.0 ≡ false → x.0 < length s.arenas → is_marking s x ≡ false
  others_off x not within = go (slice_get s.arenas x.0) refl not
    where
      off : (b : Bool) → (b ≡ true → ⊥) → b ≡ false
      off true never = absurd (never refl)
      off false never = refl

      go : (o : Option ArenaShape) → slice_get s.arenas x.0 ≡ o → is_owned_in word o ≡ false
          → is_marking s x ≡ false
      go None at is = absurd (past x.0 s.arenas within at)
        where
          past : (a : ℕ) (xs : List ArenaShape) → a < length xs → slice_get xs a ≡ None → ⊥
          past a [] below none = absurd (omega (arith, below))
          past zero (y ∷ ys) below none = cc none
          past (suc a) (y ∷ ys) below none = past a ys (omega (arith, below)) none
      go (Some arena) at is =
          ap (λ (o : Option ArenaShape). is_marking_state (state_in s (zone_in o))) at
          ∙ off (is_marking_state (state_in s arena.zone)) (λ on.
          let one = zone_bit word arena.zone ((are arena.zone).1 (marked (slice_get s.states arena.zone) on)) in
          let yes : (bit_at word arena.zone == 1) ≡ true = ap (λ n. n == 1) one in
          cc (yes, is))

-- the slots of a word were pushed but for those that are left
pub record Pushed (arena word : ℕ) (old : List Place) (left : ℕ) (new : List Place) : Type 0 where
  pub places : (x : Place) → Contains new x ↔ (Contains old x ⊎ (IsSlotOf arena word x × (bit_at left x.1 ≡ 0)))
  pub within : (slot : ℕ) → bit_at left slot ≡ 1 → bit_at word slot ≡ 1

module _ (arena word : ℕ) (old : List Place) (left : ℕ) (new : List Place) (was : Pushed arena word old left new)
    (some : 0 < left) (fits : left < 2 ^ 64) (x : Place) (is : x ≡ (arena, trailing_zeros w64 left)) where
  abbrev lowest : ℕ
  lowest = trailing_zeros w64 left

  abbrev rest : ℕ
  rest = bit_and left (left - 1)

  here : bit_at rest lowest ≡ 0
  here = elim (eqb_tells lowest lowest) [
    | inl same ↦ bit_at-rest left lowest some fits ∙ ap (λ (t : Bool). if t then 0 else bit_at left lowest) same.0
    | inr other ↦ absurd (other.1 refl)
  ]

  elsewhere : (slot : ℕ) → slot ≢ lowest → bit_at rest slot ≡ bit_at left slot
  elsewhere slot n = elim (eqb_tells slot lowest) [
    | inl same ↦ absurd (n same.1)
    | inr other ↦ bit_at-rest left slot some fits ∙ ap (λ (t : Bool). if t then 0 else bit_at left slot) other.0
  ]

  still : (slot : ℕ) → bit_at rest slot ≡ 1 → bit_at left slot ≡ 1
  still slot one = elim (eqb_tells slot lowest) [
    | inl same ↦ (let zero : bit_at rest slot ≡ 0 = ap (bit_at rest) same.1 ∙ here in
        absurd (omega (arith, one, zero)))
    | inr other ↦ sym (elsewhere slot other.1) ∙ one
  ]

  gone : (slot : ℕ) → bit_at left slot ≡ 0 → bit_at rest slot ≡ 0
  gone slot none = elim (eqb_tells slot lowest) [
    | inl same ↦ ap (bit_at rest) same.1 ∙ here
    | inr other ↦ elsewhere slot other.1 ∙ none
  ]

  found : IsSlotOf arena word x × (bit_at rest x.1 ≡ 0)
  found =
      let lowest_is = bit_at-trailing_zeros w64 left some fits in
      let arena_is : x.0 ≡ arena = ap (λ (z : Place). z.0) is in
      let slot_is : x.1 ≡ lowest = ap (λ (z : Place). z.1) is in (
        (
          arena_is,
          subst (λ n. n < 64) (sym slot_is) lowest_is.0,
          subst (λ n. bit_at word n ≡ 1) (sym slot_is) (was.within lowest lowest_is.1),
        ),
        subst (λ n. bit_at rest n ≡ 0) (sym slot_is) here,
      )

  to : (y : Place) → Contains (new ++ x ∷ []) y → Contains old y ⊎ (IsSlotOf arena word y × (bit_at rest y.1 ≡ 0))
  to y c = elim (Contains-push_cases new x y c) [
    | inl before ↦ elim ((was.places y).0 before) [
      | inl o ↦ inl o
      | inr slot ↦ inr (slot.0, gone y.1 slot.1)
    ]
    | inr same ↦ inr (subst (λ z. IsSlotOf arena word z × (bit_at rest z.1 ≡ 0)) same found)
  ]

  from : (y : Place) → Contains old y ⊎ (IsSlotOf arena word y × (bit_at rest y.1 ≡ 0)) → Contains (new ++ x ∷ []) y
  from y (inl o) = Contains-append_left new (x ∷ []) y ((was.places y).1 (inl o))
  from y (inr slot) = elim (eqb_tells y.1 lowest) [
    | inl same ↦ (let is_x : x ≡ y = is ∙ sym (same_place y (arena, lowest) slot.0.0 same.1) in
        subst (λ z. Contains (new ++ x ∷ []) z) is_x (Contains-push new x))
    | inr other ↦ Contains-append_left new (x ∷ []) y
        ((was.places y).1 (inr (slot.0, sym (elsewhere y.1 other.1) ∙ slot.1)))
  ]

  pub one_pushed : Pushed arena word old (bit_and left (left - 1)) (new ++ x ∷ [])
  one_pushed = record {
    places = λ y. (λ c. to y c, λ c. from y c);
    within = λ slot one. was.within slot (still slot one);
  }

pub all_pushed : (arena word : ℕ) (old : List Place) (left : ℕ) (new : List Place) → Pushed arena word old left new
    → left ≡ 0 → (x : Place) → Contains new x ↔ (Contains old x ⊎ IsSlotOf arena word x)
all_pushed arena word old left new was none x = (
  λ c. elim ((was.places x).0 c) [ inl o ↦ inl o | inr slot ↦ inr slot.0 ],
  λ c. elim c [
    | inl o ↦ (was.places x).1 (inl o)
    | inr slot ↦ (was.places x).1 (inr (slot, ap (λ n. bit_at n x.1) none ∙ bit_at-zero x.1))
  ],
)

-- the arenas of marking zones below a number were visited, and this one is the next
module _ (h : HeapState) (word : ℕ) (fits : word < 2 ^ 64) (are : AreMarking h.shape word)
    (sized : length h.colours ≡ length h.shape.arenas) (from : ℕ) where
  -- no arena in between lies in a marking zone
  pub skipped : (arena : ℕ) → arena < length h.shape.arenas
      → ((other : ℕ) → from ≤ other → other < arena → is_owned h.shape word other ≡ false)
      → (x : Place) → from ≤ x.0 → x.0 < arena → is_marking h.shape x ≡ false
  skipped arena within lowest x past below =
      others_off h.shape word fits are x (lowest x.0 past below) (omega (arith, below, within))

-- the black cells below a number are listed
abbrev pub Listed : HeapState → ℕ → List Place → Type 0
Listed h from cells = (x : Place) → Contains cells x ↔ ((x.0 < from) × (x.1 < 64) × IsMarkedBlack h x)

pub listed_next : (h : HeapState) (word : ℕ) → word < 2 ^ 64 → AreMarking h.shape word
    → length h.colours ≡ length h.shape.arenas → (from arena : ℕ) (cells new : List Place) (b : Bits)
    → Listed h from cells → from ≤ arena → is_owned h.shape word arena ≡ true
    → ((other : ℕ) → from ≤ other → other < arena → is_owned h.shape word other ≡ false)
    → slice_get h.colours arena ≡ Some b
    → ((x : Place) → Contains new x ↔ (Contains cells x ⊎ IsSlotOf arena b.black x)) → Listed h (arena + 1) new
listed_next h word fits are sized from arena cells new b was past owned lowest at pushed x = (
  λ c. elim ((pushed x).0 c) [
    | inl before ↦ (let l = (was x).0 before in (omega (arith, l.0, past), l.1, l.2))
    | inr slot ↦ (
      omega (arith, slot.0),
      slot.1,
      (bit_is_black h x (bit x slot.0 ∙ slot.2), (owned_marking h.shape word fits are x (owned_at x slot.0)).0),
    )
  ],
  λ c. elim (cases_lt x.0 from) [
    | inl below ↦ (pushed x).1 (inl ((was x).1 (below, c.1, c.2)))
    | inr later ↦ elim (eqb_tells x.0 arena) [
      | inl same ↦ (pushed x).1 (inr (same.1, c.1, sym (bit x same.1) ∙ black_is_bit h x c.2.0))
      | inr other ↦ (
          let on = c.2.1 in
          let made = (owned_marking h.shape word fits are (arena, 0) owned).1 in
          let ne = other.1 in
          let less : x.0 < arena = omega (arith, c.0, ne) in
          let off = skipped h word fits are sized from arena made lowest x later less in
          absurd (cc (on, off)))
    ]
  ],
)
  where
    owned_at : (x : Place) → x.0 ≡ arena → is_owned h.shape word x.0 ≡ true
    owned_at x e = ap (is_owned h.shape word) e ∙ owned

    bit : (x : Place) → x.0 ≡ arena → black_bit h.colours x ≡ bit_at b.black x.1
    bit x e = ap (λ a. bit_at (bits_in h.colours a).black x.1) e
        ∙ ap (λ (d : Bits). bit_at d.black x.1)
        (get_or_from_slice_get h.colours arena b (record { black = 0; gob = 0 }) at)

pub all_listed : (h : HeapState) (word : ℕ) → word < 2 ^ 64 → AreMarking h.shape word
    → length h.colours ≡ length h.shape.arenas → (from : ℕ) (cells : List Place) → Listed h from cells
    → ((other : ℕ) → from ≤ other → is_owned h.shape word other ≡ false)
    → (x : Place) → Contains cells x ↔ ((x.1 < 64) × IsMarkedBlack h x)
all_listed h word fits are sized from cells was none x = (
  λ c. (let l = (was x).0 c in (l.1, l.2)),
  λ c. elim (cases_lt x.0 from) [
    | inl below ↦ (was x).1 (below, c.0, c.1)
    | inr later ↦ elim (cases_lt x.0 (length h.colours)) [
      | inl within ↦ (let on = c.1.1 in
          let off = others_off h.shape word fits are x (none x.0 later) (omega (arith, within, sized)) in
          absurd (cc (on, off)))
      | inr past ↦ (let black = c.1.0 in
          let pale : colour_of h x ≡ colour.White =
          ap (λ (o : Option Bits). colour_in o x.1) (slice_get_past h.colours x.0 past) in
          absurd (cc (black, pale)))
    ]
  ],
)

-- the arenas of marking zones below a number have these black words
pub record TakesBelow (words : List ℕ) (h : HeapState) (from : ℕ) (k : HeapState) : Type 0 where
  pub rest : k ≡ record h { colours = k.colours }
  pub sized : length k.colours ≡ length h.colours
  pub marking : (x : Place) → is_marking h.shape x ≡ true → x.0 < from → x.0 < length h.colours
      → bits_in k.colours x.0 ≡ record (bits_in h.colours x.0) { black = slice_index words x.0 }
  pub later : (x : Place) → from ≤ x.0 → bits_in k.colours x.0 ≡ bits_in h.colours x.0
  pub others : (x : Place) → is_marking h.shape x ≡ false → bits_in k.colours x.0 ≡ bits_in h.colours x.0

module _ (words : List ℕ) (h : HeapState) (word : ℕ) (fits : word < 2 ^ 64) (are : AreMarking h.shape word)
    (sized : length h.colours ≡ length h.shape.arenas) (from : ℕ) (k : HeapState) (was : TakesBelow words h from k)
    (arena : ℕ) (past : from ≤ arena) (owned : is_owned k.shape word arena ≡ true) where
  shape_same : k.shape ≡ h.shape
  shape_same = ap (λ (z : HeapState). z.shape) was.rest

  owned_here : is_owned h.shape word arena ≡ true
  owned_here = ap (λ (z : Shape). is_owned z word arena) (sym shape_same) ∙ owned

  pub arena_made : arena < length h.shape.arenas
  arena_made = (owned_marking h.shape word fits are (arena, 0) owned_here).1

  pub arena_kept : ((x : Place) → is_marking h.shape x ≡ true → out_of h.shape x.0 ≡ None) → out_of k.shape arena ≡ None
  arena_kept kept = ap (λ (z : Shape). out_of z arena) shape_same
      ∙ kept (arena, 0) (owned_marking h.shape word fits are (arena, 0) owned_here).0

  pub takes_next : ((other : ℕ) → from ≤ other → other < arena → is_owned k.shape word other ≡ false) → (b : Bits)
      → slice_get k.colours arena ≡ Some b → (d : Bits) → d.black ≡ slice_index words arena → d.gob ≡ b.gob
      → TakesBelow words h (arena + 1) (record k { colours = slice_set k.colours arena d })
  takes_next lowest b at d black gob = record {
    rest = ap (λ (z : HeapState). record z { colours = slice_set k.colours arena d }) was.rest;
    sized = length-set k.colours arena d ∙ was.sized;
    marking = λ x on below within. elim (eqb_tells x.0 arena) [
      | inl same ↦ here x same.1
      | inr other ↦ elsewhere x other.1 ∙ elim (cases_lt x.0 from) [
        | inl before ↦ was.marking x on before within
        | inr later ↦ (
            let ne = other.1 in
            let less : x.0 < arena = omega (arith, below, ne) in
            let off = skipped h word fits are sized from arena arena_made lowest_here x later less in
            absurd (cc (on, off)))
      ]
    ];
    later = λ x after. elsewhere x (λ e. omega (arith, e, after)) ∙ was.later x (omega (arith, after, past));
    others = λ x off. elsewhere x (λ e. (
        let on = (owned_marking h.shape word fits are x (ap (is_owned h.shape word) e ∙ owned_here)).0 in
        cc (on, off))) ∙ was.others x off;
  }
    where
      lowest_here : (other : ℕ) → from ≤ other → other < arena → is_owned h.shape word other ≡ false
      lowest_here other ge lt = ap (λ (z : Shape). is_owned z word other) (sym shape_same) ∙ lowest other ge lt

      elsewhere : (x : Place) → x.0 ≢ arena → bits_in (slice_set k.colours arena d) x.0 ≡ bits_in k.colours x.0
      elsewhere x n = get_or-set_other k.colours arena x.0 d (record { black = 0; gob = 0 }) n

      is_d : d ≡ record (bits_in h.colours arena) { black = slice_index words arena }
      is_d =
          let before : bits_in k.colours arena ≡ bits_in h.colours arena = was.later (arena, 0) past in
          let found : bits_in k.colours arena ≡ b =
          get_or_from_slice_get k.colours arena b (record { black = 0; gob = 0 }) at in
          let gobs : d.gob ≡ (bits_in h.colours arena).gob =
          gob ∙ ap (λ (z : Bits). z.gob) (sym found ∙ before) in
          ap {B = Bits} (λ (n : ℕ). record { black = n; gob = d.gob }) black
          ∙ ap {B = Bits} (λ (n : ℕ). record { black = slice_index words arena; gob = n }) gobs

      here : (x : Place) → x.0 ≡ arena → bits_in (slice_set k.colours arena d) x.0
          ≡ record (bits_in h.colours x.0) { black = slice_index words x.0 }
      here x e = subst (λ a. bits_in (slice_set k.colours arena d) a
          ≡ record (bits_in h.colours a) { black = slice_index words a }) (sym e)
          (get_or-set_same k.colours arena d (record { black = 0; gob = 0 })
          (slice_get_within k.colours arena b at) ∙ is_d)

pub all_taken : (words : List ℕ) (h : HeapState) (word : ℕ) → word < 2 ^ 64 → AreMarking h.shape word
    → length h.colours ≡ length h.shape.arenas → (from : ℕ) (k : HeapState) → TakesBelow words h from k
    → ((other : ℕ) → from ≤ other → is_owned k.shape word other ≡ false) → TakesWords words h k
all_taken words h word fits are sized from k was none = record {
  rest = was.rest;
  sized = was.sized;
  marking = λ x on within. elim (cases_lt x.0 from) [
    | inl below ↦ was.marking x on below within
    | inr later ↦ (
        let same : k.shape ≡ h.shape = ap (λ (z : HeapState). z.shape) was.rest in
        let off = others_off h.shape word fits are x
        (ap (λ (z : Shape). is_owned z word x.0) (sym same) ∙ none x.0 later) (omega (arith, within, sized)) in
        absurd (cc (on, off)))
  ];
  others = was.others;
}
