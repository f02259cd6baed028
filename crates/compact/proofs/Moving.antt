-- The cells of the arenas that are given up move, arena by arena.
use Rattle.std.proofs.Common.{◌≡◌, ◌<◌, ◌≤◌, ◌+◌, ◌*◌, ◌/◌, ◌%◌, ◌^◌, ℕ, suc, min, List}
use Rattle.std.proofs.Common.{[], length, take, Contains, Option, Some, None, IsSome, IsSomeAnd, is_some, slice_get}
use Rattle.std.proofs.Common.{nat_lt, option_map}
use Rattle.std.proofs.Common.{if◌then◌else◌, inl, inr, refl, sym, ◌∙◌, ap, subst, arith}
use Rattle.std.proofs.Common.{bit_and, ◌-◌}
use Rattle.std.specs.Int.{bit_at}
use Rattle.std.specs.Int.Count.{ones-ones}
use Rattle.std.specs.Int.RustNames.{count_ones}
use Rattle.std.proofs.lemmas.Bool.{cases_eq, cases_lt, le-ltb, lt-ltb}
use Rattle.std.proofs.lemmas.Grind.{div_ceil_times}
use Rattle.std.proofs.lemmas.Nat.Bits.{bit_at-zero}
use Rattle.std.proofs.lemmas.Option.{same_Some, slice_get_within}
use Rattle.gz_names.specs.Moves.{IsBefore}
use Rattle.gz_names.specs.declared.moves.Move.{Move}
use Rattle.gz_names.specs.declared.numbers.Place.{Place}
use Rattle.arena_table.specs.Cells.{CellState}
use Rattle.arena_table.specs.Slots.{alloc_word_of, bit_of}
use Rattle.arena_table.proofs.Placing.{bit_at-alloc_word}
use Rattle.colour_defs.specs.Compaction.{FillArenas}
use Rattle.heap_core.specs.Moving.{AreMoves}
use Rattle.heap_core.specs.Shape.{ArenaShape, AreWhole, IsPresent, Shape, cell_in_arena, cell_of, out_of, zone_in}
use Rattle.heap_core.specs.Shape.{zone_of}
use Rattle.compact.specs.Arenas.{IsNextArena, NoArenaFrom}
use Rattle.compact.specs.Holes.{IsBegun, IsCounted}
use Rattle.compact.specs.Packed.{AreCounted, HasRoom, IsMover, IsPacked}
use Rattle.compact.specs.Packing.{GoLowest, IsArenaAfter, count_below, free_below, held_of_zone}
use Rattle.compact.specs.declared.packing.Packing.{Packing}
use Rattle.compact.proofs.Counting.{all-below, held-sum, held_at, other-held, own-held, room-below}
use Rattle.compact.proofs.Counting.{sum-none, sum-part, sum-step, sum_from}
use Rattle.compact.proofs.Finding.{IsLowest}
use Rattle.compact.proofs.Ones.{ones-alloc, ones-rest}
use Rattle.compact.proofs.Walking.{begun-ahead, begun-at, begun-counted, kept-cell}

-- what is packed up to a place is so up to another, where no cell between them moves
pub packed-on : (s : Shape) (zone : ℕ) (q r : Place) (k : Packing) → ((p : Place) → IsBefore p q → IsBefore p r)
    → ((p : Place) → IsMover s zone k.first_given_up p → IsBefore p r → IsBefore p q)
    → IsPacked s zone q k → IsPacked s zone r k
packed-on s zone q r k on none packed = record {
  from = λ m has. (let is = packed.from m has in (is.0, on m.from is.1));
  all = λ p mover before. packed.all p mover (none p mover before);
  goals = packed.goals;
  apart = packed.apart;
  lowest = packed.lowest;
  zone_is = packed.zone_is;
  at = packed.at;
  ahead = packed.ahead;
  counted = packed.counted;
}

-- the arena of a place, if a cell is there
arena-of : (s : Shape) (p : Place) → IsPresent s p → (x : ArenaShape) × (slice_get s.arenas p.0 ≡ Some x)
arena-of s p held = by (slice_get s.arenas p.0) refl held
  where
    by : (o : Option ArenaShape) → slice_get s.arenas p.0 ≡ o → IsSome (cell_in_arena o p.1)
        → (x : ArenaShape) × (slice_get s.arenas p.0 ≡ Some x)
    by None at held = absurd (cc held)
    by (Some x) at held = (x, at)

-- the next arena of the zone
module _ (s : Shape) (zone from a : ℕ) (k : Packing) (next : IsNextArena s.arenas zone from a) where
  pub packed-next : IsPacked s zone (from, 0) k → IsPacked s zone (a, 0) k
  packed-next packed = packed-on s zone (from, 0) (a, 0) k later none packed
    where
      later : (p : Place) → IsBefore p (from, 0) → IsBefore p (a, 0)
      later p (inl lt) = inl (let le = next.from_is in omega (arith, lt, le))
      later p (inr (same, lt)) = absurd (omega (arith, lt))

      none : (p : Place) → IsMover s zone k.first_given_up p → IsBefore p (a, 0) → IsBefore p (from, 0)
      none p mover (inr (same, lt)) = absurd (omega (arith, lt))
      none p mover (inl lt) = elim (cases_lt p.0 from) [
        | inl under ↦ inl under
        | inr le ↦
            (let x = arena-of s p mover.present in
            absurd (next.lowest p.0 x.0 le lt x.1 (sym (ap zone_in x.1) ∙ mover.zone_is)))
      ]

  pub counted-next : AreCounted s zone from k → AreCounted s zone a k
  counted-next counted =
      let gap : from + (a - from) ≡ a = (let le = next.from_is in omega (arith, le)) in
      let same = sum-none (held_at zone) s.arenas from (a - from) (λ b y le lt at. other-held zone b y
      (next.lowest b y le (omega (arith, lt, gap)) at)) in
      let here = ap (λ n. sum_from (held_at zone) 0 (take n s.arenas)) gap in
      let was = held-sum zone 0 (take from s.arenas) in
      let now = held-sum zone 0 (take a s.arenas) in
      omega (arith, counted, same, here, was, now)

-- an arena of the zone, and the word of its cells
pub record IsMine (s : Shape) (zone first a word : ℕ) : Type 0 where
  pub arena : ArenaShape
  pub at : slice_get s.arenas a ≡ Some arena
  pub zone_is : arena.zone ≡ zone
  pub kept : out_of s a ≡ None
  pub word_is : option_map (λ (y : ArenaShape). alloc_word_of y.slots) (slice_get s.arenas a) ≡ Some word
  pub from : first ≤ a

-- the cells of an arena move, in the order of their slots
pub record IsMoving (s : Shape) (zone a word left n : ℕ) (k : Packing) : Type 0 where
  pub mine : IsMine s zone k.first_given_up a word
  pub bits : (i : ℕ) → bit_at left i ≡ (if nat_lt i n then 0 else bit_at word i)
  pub packed : IsPacked s zone (a, n) k
  pub counted : held_of_zone zone (take k.first_given_up s.arenas) + length k.moves + count_ones left
      ≡ held_of_zone zone (take (a + 1) s.arenas)

pub is-mine : (s : Shape) (zone first a word : ℕ)
    → IsSomeAnd (slice_get s.arenas a) (λ (x : ArenaShape). x.zone ≡ zone) → out_of s a ≡ None
    → option_map (λ (y : ArenaShape). alloc_word_of y.slots) (slice_get s.arenas a) ≡ Some word → first ≤ a
    → IsMine s zone first a word
is-mine s zone first a word own kept word_is from = by (slice_get s.arenas a) refl own
  where
    by : (o : Option ArenaShape) → slice_get s.arenas a ≡ o → IsSomeAnd o (λ (x : ArenaShape). x.zone ≡ zone)
        → IsMine s zone first a word
    by None at own = absurd own
    by (Some x) at own = record {
      arena = x;
      at = at;
      zone_is = own;
      kept = kept;
      word_is = word_is;
      from = from;
    }

pub within-mine : (arenas : List ArenaShape) (a zone : ℕ)
    → IsSomeAnd (slice_get arenas a) (λ (x : ArenaShape). x.zone ≡ zone) → a < length arenas
within-mine arenas a zone own = by (slice_get arenas a) refl own
  where
    by : (o : Option ArenaShape) → slice_get arenas a ≡ o → IsSomeAnd o (λ (x : ArenaShape). x.zone ≡ zone)
        → a < length arenas
    by None at own = absurd own
    by (Some x) at own = slice_get_within arenas a x at

pub next-mine : (arenas : List ArenaShape) (zone from a : ℕ) → IsNextArena arenas zone from a
    → IsSomeAnd (slice_get arenas a) (λ (x : ArenaShape). x.zone ≡ zone)
next-mine arenas zone from a next =
    subst (λ o. IsSomeAnd o (λ (x : ArenaShape). x.zone ≡ zone)) (sym next.at) next.zone_is

module _ (s : Shape) (zone first a word : ℕ) (mine : IsMine s zone first a word) where
  word-at : alloc_word_of mine.arena.slots ≡ word
  word-at = same_Some (alloc_word_of mine.arena.slots) word
      (ap (option_map (λ (y : ArenaShape). alloc_word_of y.slots)) (sym mine.at) ∙ mine.word_is)

  bit-cell : (i : ℕ) → bit_at word i ≡ bit_of (is_some (cell_of s (a, i)))
  bit-cell i = ap (λ w. bit_at w i) (sym word-at) ∙ bit_at-alloc_word mine.arena.slots i
      ∙ ap (λ o. bit_of (is_some o)) (sym (kept-cell s a i mine.arena mine.at mine.kept))

  -- the cells before the arena, and its own
  pub held-here : held_of_zone zone (take (a + 1) s.arenas)
      ≡ held_of_zone zone (take a s.arenas) + count_ones word
  held-here =
      let step = sum-step (held_at zone) s.arenas a a mine.arena (omega arith) mine.at
      (λ b y le lt at. absurd (omega (arith, le, lt))) in
      let was = held-sum zone 0 (take a s.arenas) in
      let now = held-sum zone 0 (take (a + 1) s.arenas) in
      let own = own-held zone a mine.arena mine.zone_is in
      let ones = sym (ap count_ones word-at) ∙ ones-alloc mine.arena.slots in
      omega (arith, step, was, now, own, ones)

pub moving-first : (s : Shape) (zone a word : ℕ) (k : Packing) → IsMine s zone k.first_given_up a word
    → IsPacked s zone (a, 0) k → AreCounted s zone a k → IsMoving s zone a word word 0 k
moving-first s zone a word k mine packed counted = record {
  mine = mine;
  bits = λ i. sym (ap (λ b. if b then 0 else bit_at word i) (le-ltb i 0 (omega arith)));
  packed = packed;
  counted = (let here = held-here s zone k.first_given_up a word mine in omega (arith, counted, here));
}

module _ (s : Shape) (zone a word left n : ℕ) (k : Packing) (is : IsMoving s zone a word left n k) where
  bit-of-cell : (i : ℕ) → bit_at word i ≡ bit_of (is_some (cell_of s (a, i)))
  bit-of-cell = bit-cell s zone k.first_given_up a word is.mine

  -- a bit that is left is one of a cell that moves
  module _ (t : ℕ) (low : IsLowest left t) where
    pub past : n ≤ t
    past = elim (cases_lt t n) [
      | inl lt ↦ absurd (let none : bit_at left t ≡ 0 = is.bits t
          ∙ ap (λ b. if b then 0 else bit_at word t) (lt-ltb t n lt) in
          let one = low.set in omega (arith, none, one))
      | inr le ↦ le
    ]

    in-word : bit_at word t ≡ 1
    in-word = sym (is.bits t ∙ ap (λ b. if b then 0 else bit_at word t) (le-ltb t n past)) ∙ low.set

    pub mover : IsMover s zone k.first_given_up (a, t)
    mover = record {
      present = some (cell_of s (a, t)) (sym (bit-of-cell t) ∙ in-word);
      zone_is = ap zone_in is.mine.at ∙ is.mine.zone_is;
      from = is.mine.from;
    }
      where
        some : (o : Option CellState) → bit_of (is_some o) ≡ 1 → IsSome o
        some None one = absurd (let no : 0 ≡ 1 = one in omega (arith, no))
        some (Some cell) one = cc

    pub packed-before : IsPacked s zone (a, t) k
    packed-before = packed-on s zone (a, n) (a, t) k later none is.packed
      where
        later : (p : Place) → IsBefore p (a, n) → IsBefore p (a, t)
        later p (inl lt) = inl lt
        later p (inr (e, lt)) = inr (e, (let le = past in omega (arith, lt, le)))

        none : (p : Place) → IsMover s zone k.first_given_up p → IsBefore p (a, t) → IsBefore p (a, n)
        none p mover (inl lt) = inl lt
        none p mover (inr (e, lt)) = elim (cases_lt p.1 n) [
          | inl under ↦ inr (e, under)
          | inr le ↦
              (let clear = sym (is.bits p.1 ∙ ap (λ b. if b then 0 else bit_at word p.1) (le-ltb p.1 n le))
              ∙ low.lowest p.1 lt in
              let here : IsSome (cell_of s (a, p.1)) =
              subst (λ b. IsSome (cell_in_arena (slice_get s.arenas b) p.1)) e mover.present in
              absurd (held-bit (cell_of s (a, p.1)) here (sym (bit-of-cell p.1) ∙ clear)))
        ]
          where
            held-bit : (o : Option CellState) → IsSome o → bit_of (is_some o) ≡ 0 → ⊥
            held-bit None held zero_there = cc held
            held-bit (Some cell) held zero_there = (let no : 1 ≡ 0 = zero_there in omega (arith, no))

  -- there is room for one more
  pub room-more : HasRoom s.arenas zone k.first_given_up → 0 < count_ones left
      → length k.moves < free_below zone k.first_given_up 0 s.arenas
  room-more room some =
      let counted = is.counted in
      let part = sum-part (held_at zone) 0 s.arenas (a + 1) in
      let taken = held-sum zone 0 (take (a + 1) s.arenas) in
      let all = held-sum zone 0 s.arenas in
      omega (arith, room, some, counted, part, taken, all)

  -- nothing is left
  pub moved-all : left ≡ 0 → IsPacked s zone (a + 1, 0) k
  moved-all empty = packed-on s zone (a, n) (a + 1, 0) k later none is.packed
    where
      later : (p : Place) → IsBefore p (a, n) → IsBefore p (a + 1, 0)
      later p (inl lt) = inl (omega (arith, lt))
      later p (inr (e, lt)) = inl (omega (arith, e))

      none : (p : Place) → IsMover s zone k.first_given_up p → IsBefore p (a + 1, 0) → IsBefore p (a, n)
      none p mover (inr (e, lt)) = absurd (omega (arith, lt))
      none p mover (inl lt) = elim (cases_lt p.0 a) [
        | inl under ↦ inl under
        | inr le ↦ elim (cases_lt p.1 n) [
          | inl under ↦ inr (omega (arith, lt, le), under)
          | inr past ↦
              (let e : p.0 ≡ a = omega (arith, lt, le) in
              let clear = sym (is.bits p.1 ∙ ap (λ b. if b then 0 else bit_at word p.1) (le-ltb p.1 n past))
              ∙ ap (λ w. bit_at w p.1) empty ∙ bit_at-zero p.1 in
              let here : IsSome (cell_of s (a, p.1)) =
              subst (λ b. IsSome (cell_in_arena (slice_get s.arenas b) p.1)) e mover.present in
              absurd (held-bit (cell_of s (a, p.1)) here (sym (bit-of-cell p.1) ∙ clear)))
        ]
      ]
        where
          held-bit : (o : Option CellState) → IsSome o → bit_of (is_some o) ≡ 0 → ⊥
          held-bit None held zero_there = cc held
          held-bit (Some cell) held zero_there = (let no : 1 ≡ 0 = zero_there in omega (arith, no))

  pub counted-all : left ≡ 0 → AreCounted s zone (a + 1) k
  counted-all empty =
      let counted = is.counted in
      let none = ap count_ones empty ∙ ones-ones 0 in
      omega (arith, counted, none)

-- the cell at the lowest bit that is left moves
pub record MovesNext (s : Shape) (zone a word left n t : ℕ) (k l : Packing) : Type 0 where
  pub moving : IsMoving s zone a word left n k
  pub low : IsLowest left t
  pub past : n ≤ t
  pub some : 0 < left
  pub fits : left < 2 ^ 64
  pub packed : IsPacked s zone (a, suc t) l
  pub count : length l.moves ≡ length k.moves + 1
  pub same : l.first_given_up ≡ k.first_given_up

-- one cell more has moved
pub moving-more : (s : Shape) (zone a word left n t : ℕ) (k l : Packing) → MovesNext s zone a word left n t k l
    → IsMoving s zone a word (bit_and left (left - 1)) (suc t) l
moving-more s zone a word left n t k l c = record {
  mine = subst (λ first. IsMine s zone first a word) (sym c.same) c.moving.mine;
  bits = bits-more;
  packed = c.packed;
  counted = (let counted = c.moving.counted in let one = ones-rest left c.some c.fits in let count = c.count in
      let firsts = ap (λ n. held_of_zone zone (take n s.arenas)) c.same in
      omega (arith, counted, one, count, firsts));
}
  where
    bits-more : (i : ℕ) → bit_at (bit_and left (left - 1)) i ≡ (if nat_lt i (suc t) then 0 else bit_at word i)
    bits-more i = elim (cases_lt i (suc t)) [
      | inl lt ↦ under i lt ∙ sym (ap (λ b. if b then 0 else bit_at word i) (lt-ltb i (suc t) lt))
      | inr le ↦ c.low.rest i (λ e. omega (arith, e, le)) ∙ c.moving.bits i
          ∙ ap (λ b. if b then 0 else bit_at word i) (le-ltb i n (let past = c.past in omega (arith, le, past)))
          ∙ sym (ap (λ b. if b then 0 else bit_at word i) (le-ltb i (suc t) le))
    ]
      where
        under : (i : ℕ) → i < suc t → bit_at (bit_and left (left - 1)) i ≡ 0
        under i lt = elim (cases_eq i t) [
          | inl e ↦ ap (bit_at (bit_and left (left - 1))) e ∙ c.low.gone
          | inr other ↦ c.low.rest i other ∙ c.low.lowest i (omega (arith, lt, other))
        ]

-- the packing begins
pub packed-first : (s : Shape) (zone : ℕ) (k : Packing) → k.moves ≡ [] → k.holes.zone ≡ zone → IsBegun k.holes
    → IsPacked s zone (k.first_given_up, 0) k
packed-first s zone k none zone_is begun = record {
  from = λ m has. absurd (nothing m has);
  all = λ p mover before. absurd (past p mover before);
  goals = λ m has. absurd (nothing m has);
  apart = λ i j d lt within. absurd (let long = ap length none in omega (arith, within, long));
  lowest = subst (λ (ms : List Move). GoLowest s zone k.first_given_up [] ms) (sym none) tt;
  zone_is = zone_is;
  at = begun-at s k.holes begun;
  ahead = λ p free. (λ ahead goal. nothing goal.0 goal.1, λ unused. begun-ahead k.holes p begun);
  counted = subst (λ n. IsCounted s k.holes k.first_given_up n) (sym (ap length none))
      (begun-counted s k.holes k.first_given_up begun);
}
  where
    nothing : (m : Move) → Contains k.moves m → ⊥
    nothing m has = (let long = ap length none in let lt = has.1 in omega (arith, lt, long))

    past : (p : Place) → IsMover s zone k.first_given_up p → IsBefore p (k.first_given_up, 0) → ⊥
    past p mover (inl lt) = (let le = mover.from in omega (arith, lt, le))
    past p mover (inr (e, lt)) = omega (arith, lt)

-- all have moved
pub moves-done : (s : Shape) (zone from : ℕ) (k : Packing) → NoArenaFrom s.arenas zone from
    → IsPacked s zone (from, 0) k → AreMoves s zone k.first_given_up k.moves
moves-done s zone from k none packed = record {
  from = λ m has. (let is = (packed.from m has).0 in (is.present, is.zone_is, is.from));
  all = λ p held own le. packed.all p (record { present = held; zone_is = own; from = le })
      (before p held own);
  made = λ m has. (let is = packed.goals m has in (is.0.made, is.0.zone_is, is.1));
  free = λ m has. (packed.goals m has).0.free;
  apart = packed.apart;
}
  where
    before : (p : Place) → IsPresent s p → zone_of s p ≡ zone → IsBefore p (from, 0)
    before p held own = elim (cases_lt p.0 from) [
      | inl lt ↦ inl lt
      | inr le ↦
          (let x = arena-of s p held in
          absurd (none p.0 x.0 le x.1 (sym (ap zone_in x.1) ∙ own)))
    ]

-- the arenas that are kept are as many as the cells fill
pub few-kept : (arenas : List ArenaShape) (zone count first : ℕ) → AreWhole arenas
    → count ≡ held_of_zone zone arenas / 64 + min 1 (held_of_zone zone arenas % 64)
    → IsArenaAfter arenas zone count first → FillArenas (held_of_zone zone arenas) (count_below zone first 0 arenas)
few-kept arenas zone count first whole is after =
    elim (cases_lt (count_below zone first 0 arenas) count) [
      | inl lt ↦
          (let end = after.all lt in
          let all = all-below zone first 0 first arenas whole (omega arith) (omega (arith, end)) in
          let top = fills.1 in (all, omega (arith, lt, top)))
      | inr le ↦
          (let most = after.most in
          let bottom = fills.0 in
          let top = fills.1 in (omega (arith, le, bottom), omega (arith, most, top)))
    ]
  where
    fills : (held_of_zone zone arenas ≤ count * 64) × (count * 64 < held_of_zone zone arenas + 64)
    fills = subst (λ c. (held_of_zone zone arenas ≤ c * 64) × (c * 64 < held_of_zone zone arenas + 64)) (sym is)
        (div_ceil_times (held_of_zone zone arenas) 64 (omega arith))

-- and have room for the others
pub has-room : (arenas : List ArenaShape) (zone first : ℕ) → AreWhole arenas
    → FillArenas (held_of_zone zone arenas) (count_below zone first 0 arenas) → HasRoom arenas zone first
has-room arenas zone first whole few =
    let both = room-below zone first 0 first arenas whole (omega arith) in
    let held = held-sum zone 0 (take first arenas) in
    omega (arith, both, held, few.0)
