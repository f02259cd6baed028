-- The arenas of some zones are blackened, one after another.
use Rattle.std.proofs.Common.{◌≡◌, ◌≢◌, ◌⊎◌, ◌<◌, ◌≤◌, ◌+◌, ◌==◌, ◌^◌, ℕ, Bool, true, false, List}
use Rattle.std.proofs.Common.{length, length-set, Option, Some, None, IsSome, IsSomeAnd, is_some, slice_get, slice_set}
use Rattle.std.proofs.Common.{if◌then◌else◌, inl, inr, refl, sym, ap, subst, ◌∙◌, arith}
use Rattle.std.specs.Int.{bit_at}
use Rattle.std.proofs.lemmas.Bool.{cases_eq, cases_lt}
use Rattle.std.proofs.lemmas.Option.{slice_get_within}
use Rattle.gz_names.specs.Zones.{HasZone}
use Rattle.gz_names.specs.declared.numbers.Place.{Place}
use Rattle.gz_names.specs.declared.zone_sets.ZoneSet.{ZoneSet}
use Rattle.cell_bits.specs.declared.bits.Bits.{Bits}
use Rattle.cell_bits.specs.declared.bits.Colour.TheVariants as colour
use Rattle.cell_bits.specs.Colours as bits
use Rattle.arena_table.specs.Slots.{alloc_word_of, cell_in}
use Rattle.arena_table.proofs.Placing.{bit_at-alloc_word}
use Rattle.gray_lists.proofs.Reading.{slice_get-set_other, slice_get-set_same}
use Rattle.heap_core.specs.Heap.{HeapState, colour_in, colour_of}
use Rattle.heap_core.specs.Shape.{ArenaShape, IsPresent, Shape, cell_in_arena, is_owned, is_owned_in, out_in, out_of}
use Rattle.heap_core.specs.Shape.{present_in, zone_in, zone_of}
use Rattle.barriers.specs.Colours.{IsBlack, IsSeen}
use Rattle.slice_driver.specs.Resets.{BlackensAll}
use Rattle.slice_driver.proofs.clearing.Clearing.{owned_by}
use Rattle.slice_driver.proofs.clearing.ClearedArenas.{owned_has}

-- the arenas of these zones below a number are black
pub record BlackensBelow (h : HeapState) (zones : ZoneSet) (from : ℕ) (k : HeapState) : Type 0 where
  pub rest : k ≡ record h { colours = k.colours }
  pub sized : length k.colours ≡ length h.colours
  pub black : (x : Place) → x.0 < from → HasZone zones.bits (zone_of h.shape x) → IsPresent h.shape x → IsBlack k x
  pub seen : (x : Place) → HasZone zones.bits (zone_of h.shape x) → IsSeen k x → IsPresent h.shape x ⊎ IsSeen h x
  pub others : (x : Place) → (HasZone zones.bits (zone_of h.shape x) → ⊥) → colour_of k x ≡ colour_of h x

pub none_blackened : (h : HeapState) (zones : ZoneSet) → BlackensBelow h zones 0 h
none_blackened h zones = record {
  rest = refl;
  sized = refl;
  black = λ x lt. absurd (omega (arith, lt));
  seen = λ x has seen. inr seen;
  others = λ x not. refl;
}

-- an arena was blackened
abbrev pub BlackensArena : HeapState → ℕ → HeapState → Type 0
BlackensArena h arena k = IsSomeAnd (slice_get h.shape.arenas arena) (λ a.
    IsSomeAnd (slice_get h.colours arena) (λ b.
    k ≡ record h { colours = slice_set h.colours arena (record { black = alloc_word_of a.slots; gob = b.gob }) }))

-- whether a cell is there tells its new colour
black_bit : (w g i : ℕ) → bit_at w i ≡ 1 → bits.colour_of (record { black = w; gob = g }) i ≡ colour.Black
black_bit w g i set = ap (λ n. if n == 1 then colour.Black else (if bit_at g i == 1 then colour.Gray else colour.White))
    set

gray_bit : (w g i : ℕ) → bit_at w i ≡ 0 → (bits.colour_of (record { black = w; gob = g }) i ≡ colour.White)
    ⊎ ((bits.colour_of (record { black = w; gob = g }) i ≡ colour.Gray) × (bit_at g i == 1 ≡ true))
gray_bit w g i clear = go (bit_at g i == 1) refl
  where
    own : bits.colour_of (record { black = w; gob = g }) i ≡ (if bit_at g i == 1 then colour.Gray else colour.White)
    own = ap (λ n. if n == 1 then colour.Black else (if bit_at g i == 1 then colour.Gray else colour.White)) clear

    go : (b : Bool) → (bit_at g i == 1) ≡ b → (bits.colour_of (record { black = w; gob = g }) i ≡ colour.White)
        ⊎ ((bits.colour_of (record { black = w; gob = g }) i ≡ colour.Gray) × (bit_at g i == 1 ≡ true))
    go true e = inr (own ∙ ap (λ (b : Bool). if b then colour.Gray else colour.White) e, e)
    go false e = inl (own ∙ ap (λ (b : Bool). if b then colour.Gray else colour.White) e)

-- a slot with a gray bit is gray or black
seen_bit : (b : Bits) (i : ℕ) → (bit_at b.gob i == 1 ≡ true) → (bits.colour_of b i ≡ colour.Gray)
    ⊎ (bits.colour_of b i ≡ colour.Black)
seen_bit b i set = go (bit_at b.black i == 1) refl
  where
    go : (t : Bool) → (bit_at b.black i == 1) ≡ t → (bits.colour_of b i ≡ colour.Gray)
        ⊎ (bits.colour_of b i ≡ colour.Black)
    go true e = inr (ap (λ (u : Bool). if u then colour.Black
        else (if bit_at b.gob i == 1 then colour.Gray else colour.White)) e)
    go false e = inl (ap (λ (u : Bool). if u then colour.Black
        else (if bit_at b.gob i == 1 then colour.Gray else colour.White)) e
        ∙ ap (λ (u : Bool). if u then colour.Gray else colour.White) set)

module _ (h : HeapState) (zones : ZoneSet) (from : ℕ) (k : HeapState) (below : BlackensBelow h zones from k)
    (small : zones.bits < 2 ^ 64) (none_out : (a : ℕ) → out_of h.shape a ≡ None)
    (sized : length h.colours ≡ length h.shape.arenas) (arena : ℕ) (ge : from ≤ arena)
    (owned : is_owned k.shape zones.bits arena ≡ true)
    (lowest : (other : ℕ) → from ≤ other → other < arena → is_owned k.shape zones.bits other ≡ false) where
  shape_is : k.shape ≡ h.shape
  shape_is = ap (λ (z : HeapState). z.shape) below.rest

  owned_here : is_owned h.shape zones.bits arena ≡ true
  owned_here = ap (λ (s : Shape). is_owned s zones.bits arena) (sym shape_is) ∙ owned

  has_here : HasZone zones.bits (zone_in (slice_get h.shape.arenas arena))
  has_here = owned_has zones small (slice_get h.shape.arenas arena) owned_here

  pub arena_made : arena < length k.shape.arenas
  arena_made = go (slice_get k.shape.arenas arena) refl owned
    where
      go : (o : Option ArenaShape) → slice_get k.shape.arenas arena ≡ o → is_owned_in zones.bits o ≡ true
          → arena < length k.shape.arenas
      go None at e = absurd (cc e)
      go (Some a) at e = slice_get_within k.shape.arenas arena a at

  pub arena_kept : out_of k.shape arena ≡ None
  arena_kept = ap (λ (s : Shape). out_of s arena) shape_is ∙ none_out arena

  -- a present cell has an arena
  arena_there : (x : Place) → IsPresent h.shape x → IsSome (slice_get h.shape.arenas x.0)
  arena_there x there = go (slice_get h.shape.arenas x.0) there
    where
      go : (o : Option ArenaShape) → IsSome (cell_in_arena o x.1) → IsSome o
      go None e = absurd (cc e)
      go (Some a) e = refl

  module _ (l : HeapState) (blackens : BlackensArena k arena l) where
    abbrev Found : ArenaShape → Bits → Type 0
    Found a b = (slice_get k.shape.arenas arena ≡ Some a) × (slice_get k.colours arena ≡ Some b)
        × (l ≡ record k { colours = slice_set k.colours arena (record { black = alloc_word_of a.slots; gob = b.gob }) })

    found : (a : ArenaShape) × (b : Bits) × Found a b
    found = go (slice_get k.shape.arenas arena) (slice_get k.colours arena) refl refl blackens
      where
        go : (o : Option ArenaShape) (u : Option Bits) → slice_get k.shape.arenas arena ≡ o
            → slice_get k.colours arena ≡ u → IsSomeAnd o (λ a. IsSomeAnd u (λ b.
            l ≡ record k {
              colours = slice_set k.colours arena (record { black = alloc_word_of a.slots; gob = b.gob });
            }))
            → (a : ArenaShape) × (b : Bits) × Found a b
        go None u at bits e = absurd e
        go (Some a) None at bits e = absurd e
        go (Some a) (Some b) at bits e = (a, b, (at, bits, e))

    abbrev after : Bits
    after = record { black = alloc_word_of found.0.slots; gob = found.1.gob }

    l_is : l ≡ record k { colours = slice_set k.colours arena after }
    l_is = found.2.2

    within : arena < length k.colours
    within = (let lt = arena_made in let same = ap (λ (s : Shape). length s.arenas) shape_is in
        let n = below.sized in omega (arith, lt, same, n, sized))

    colour_there : (x : Place) → x.0 ≡ arena → colour_of l x ≡ bits.colour_of after x.1
    colour_there x is = ap (λ (z : HeapState). colour_of z x) l_is
        ∙ (ap (λ o. colour_in o x.1) (ap (slice_get (slice_set k.colours arena after)) is
        ∙ slice_get-set_same k.colours arena after within))

    colour_else : (x : Place) → x.0 ≢ arena → colour_of l x ≡ colour_of k x
    colour_else x other = ap (λ (z : HeapState). colour_of z x) l_is
        ∙ ap (λ o. colour_in o x.1) (slice_get-set_other k.colours arena x.0 after other)

    found_in : (x : Place) → x.0 ≡ arena → slice_get h.shape.arenas x.0 ≡ Some found.0
    found_in x is = ap (slice_get h.shape.arenas) is
        ∙ (ap (λ (s : Shape). slice_get s.arenas arena) (sym shape_is) ∙ found.2.0)

    not_out : (x : Place) → x.0 ≡ arena → found.0.out ≡ None
    not_out x is = sym (ap out_in (found_in x is)) ∙ none_out x.0

    -- a present cell of the arena stands in a slot of its word
    word_bit : (x : Place) → x.0 ≡ arena → bit_at (alloc_word_of found.0.slots) x.1
        ≡ (if is_some (cell_in found.0.slots x.1) then 1 else 0)
    word_bit x is = bit_at-alloc_word found.0.slots x.1

    stands : (x : Place) → x.0 ≡ arena
        → cell_in_arena (slice_get h.shape.arenas x.0) x.1 ≡ cell_in found.0.slots x.1
    stands x is = ap (λ o. cell_in_arena o x.1) (found_in x is)
        ∙ ap (λ o. present_in o found.0.slots x.1) (not_out x is)

    pub blackens_next : BlackensBelow h zones (arena + 1) l
    blackens_next = record {
      rest = l_is ∙ (ap (λ (z : HeapState). record z { colours = slice_set k.colours arena after }) below.rest
          ∙ ap (λ (cs : List Bits). record h { colours = cs }) (sym (ap (λ (z : HeapState). z.colours) l_is)));
      sized = ap (λ (z : HeapState). length z.colours) l_is
          ∙ (length-set k.colours arena after ∙ below.sized);
      black = λ x lt has there. elim (cases_eq x.0 arena) [
        | inl is ↦ colour_there x is ∙ black_bit (alloc_word_of found.0.slots) found.1.gob x.1
            (word_bit x is ∙ ap (λ (b : Bool). if b then 1 else 0) (sym (ap is_some (stands x is)) ∙ there))
        | inr other ↦ colour_else x other ∙ elim (cases_lt x.0 from) [
          | inl before ↦ below.black x before has there
          | inr past ↦ absurd (
              let none = lowest x.0 past (omega (arith, lt, other)) in
              let own = owned_by zones (slice_get h.shape.arenas x.0) (arena_there x there) has in
              let same = ap (λ (s : Shape). is_owned s zones.bits x.0) shape_is in
              cc (none, own, same))
        ]
      ];
      seen = λ x has seen. elim (cases_eq x.0 arena) [
        | inr other ↦ below.seen x has (elim seen [
          | inl g ↦ inl (sym (colour_else x other) ∙ g)
          | inr b ↦ inr (sym (colour_else x other) ∙ b)
        ])
        | inl is ↦ by x has is seen (is_some (cell_in found.0.slots x.1)) refl
      ];
      others = λ x not. elim (cases_eq x.0 arena) [
        | inl is ↦ absurd (not (subst (λ a. HasZone zones.bits (zone_in (slice_get h.shape.arenas a))) (sym is)
            has_here))
        | inr other ↦ colour_else x other ∙ below.others x not
      ];
    }
      where
        by : (x : Place) → HasZone zones.bits (zone_of h.shape x) → x.0 ≡ arena → IsSeen l x → (t : Bool)
            → is_some (cell_in found.0.slots x.1) ≡ t → IsPresent h.shape x ⊎ IsSeen h x
        by x has is seen true e = inl (ap is_some (stands x is) ∙ e)
        by x has is seen false e =
            elim (gray_bit (alloc_word_of found.0.slots) found.1.gob x.1
            (word_bit x is ∙ ap (λ (b : Bool). if b then 1 else 0) e)) [
              | inl white ↦ absurd (elim seen [
                | inl g ↦ cc (g, colour_there x is, white)
                | inr b ↦ cc (b, colour_there x is, white)
              ])
              | inr gray ↦ (
                  let was = seen_bit found.1 x.1 gray.1 in
                  let old : colour_of k x ≡ bits.colour_of found.1 x.1 =
                  ap (λ o. colour_in o x.1) (ap (slice_get k.colours) is ∙ found.2.1) in
                  below.seen x has (elim was [ inl g ↦ inl (old ∙ g) | inr b ↦ inr (old ∙ b) ]))
            ]

-- where no arena of the zones is left, all are black
pub all_blackened : (h : HeapState) (zones : ZoneSet) (from : ℕ) (k : HeapState) → BlackensBelow h zones from k
    → ((other : ℕ) → from ≤ other → is_owned k.shape zones.bits other ≡ false) → BlackensAll h zones k
all_blackened h zones from k below none = record {
  rest = below.rest;
  sized = below.sized;
  black = λ x has there. elim (cases_lt x.0 from) [
    | inl before ↦ below.black x before has there
    | inr past ↦ absurd (
        let off = none x.0 past in
        let own = owned_by zones (slice_get h.shape.arenas x.0) (there_in (slice_get h.shape.arenas x.0) x.1 there)
        has in
        let same = ap (λ (s : Shape). is_owned s zones.bits x.0) (ap (λ (z : HeapState). z.shape) below.rest) in
        cc (off, own, same))
  ];
  seen = below.seen;
  others = below.others;
}
  where
    there_in : (o : Option ArenaShape) (i : ℕ) → IsSome (cell_in_arena o i) → IsSome o
    there_in None i e = absurd (cc e)
    there_in (Some a) i e = refl
