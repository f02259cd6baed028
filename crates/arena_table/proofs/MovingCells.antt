-- Cells that go to other slots.
use Rattle.std.proofs.Common.{◌≡◌, ◌≢◌, ◌<◌, ◌≤◌, ◌*◌, ◌/◌, ◌%◌, ◌^◌, ◌==◌, ◌&&◌, ℕ, zero, suc, Bool, true}
use Rattle.std.proofs.Common.{false}
use Rattle.std.proofs.Common.{if◌then◌else◌, List, [], ◌∷◌, ◌++◌, length, All, Contains, Option, Some, None, IsSome}
use Rattle.std.proofs.Common.{IsSomeAnd, is_some, get_or, not, take, nat_lt, option_map}
use Rattle.std.proofs.Common.{slice_get, inl, inr, refl, sym, ◌∙◌, ap, subst, eq-eqb, ne_eqb, pow-suc, arith}
use Rattle.std.specs.Int.{bit_at}
use Rattle.std.specs.Option.{option_and_then}
use Rattle.std.proofs.lemmas.Bool.{cases_eq, and_from, and_left, and_right, lt-ltb}
use Rattle.std.proofs.lemmas.List.{get_or_default, get_or-take, length-set, length-take}
use Rattle.std.proofs.lemmas.List.Elements.{Contains-append_left, Contains-push, Contains-push_cases}
use Rattle.std.proofs.lemmas.Nat.Bits.{bit_at-pow_same, bit_at-pow_other}
use Rattle.std.proofs.lemmas.Option.{none-some, same_Some}
use Rattle.cell_bits.specs.declared.bits.Bits.{Bits}
use Rattle.gz_names.specs.Moves.{AreInOrder, IsBefore, IsGoal, IsLeft}
use Rattle.gz_names.specs.declared.moves.Move.{Move}
use Rattle.gz_names.specs.declared.numbers.Place.{Place}
use Rattle.arena_table.specs.Cells.{CellState}
use Rattle.arena_table.specs.Indexed.{is_open}
use Rattle.arena_table.specs.Stored.{IsHeadOf}
use Rattle.arena_table.specs.Table.{IsEmptyIfGivenUp}
use Rattle.arena_table.specs.declared.store.Head.{Head}
use Rattle.arena_table.specs.Moving.{AreBitsOf, AreClearBits, MayMove, MovesCells, black_bit, gob_bit, owner_of}
use Rattle.arena_table.specs.Slots.{Arena, cell_at, cell_in, change_at, is_out_at, taken_in, with_bits, with_cell}
use Rattle.arena_table.specs.Slots.{at_bits, has_free, held_by, names_of, without_freed}
use Rattle.gz_names.proofs.Moving.{before-apart, same-apart, same-true}
use Rattle.arena_table.proofs.CellsAt.{cell_at-set, cell_at-taken}
use Rattle.arena_table.proofs.AtBits.{at_bits-zero}
use Rattle.arena_table.proofs.GivenUp.{empty-change, owned-cell}
use Rattle.arena_table.proofs.Indexing.{All-at, IsOwned, at-number, head-zone}
use Rattle.arena_table.proofs.Putting.{held_by-change, held_by-taken, held_in-put}
use Rattle.arena_table.proofs.Storing.{cell_at-within}
use Rattle.arena_table.proofs.Changing.{length-change_at, slice_get-change_same, slice_get-change_other}

-- a part of the arenas that a change of one leaves alone
pub part-change : {Y : Type 0} (part : Arena → Y) (f : Arena → Arena) (xs : List Arena) (i a : ℕ)
    → ((x : Arena) → slice_get xs i ≡ Some x → part (f x) ≡ part x)
    → option_map part (slice_get (change_at f xs i) a) ≡ option_map part (slice_get xs a)
part-change part f [] i a same = refl
part-change part f (x ∷ xs) zero zero same = ap Some (same x refl)
part-change part f (x ∷ xs) zero (suc a) same = refl
part-change part f (x ∷ xs) (suc i) zero same = refl
part-change part f (x ∷ xs) (suc i) (suc a) same = part-change part f xs i a same

pub out-change : (f : Arena → Arena) (xs : List Arena) (i a : ℕ)
    → ((x : Arena) → slice_get xs i ≡ Some x → (f x).is_out ≡ x.is_out)
    → is_out_at (change_at f xs i) a ≡ is_out_at xs a
out-change f [] i a same = refl
out-change f (x ∷ xs) zero zero same = same x refl
out-change f (x ∷ xs) zero (suc a) same = refl
out-change f (x ∷ xs) (suc i) zero same = refl
out-change f (x ∷ xs) (suc i) (suc a) same = out-change f xs i a same

pub out-at : (xs : List Arena) (a : ℕ) (x : Arena) → slice_get xs a ≡ Some x → is_out_at xs a ≡ x.is_out
out-at [] a x at = absurd (none-some x at)
out-at (y ∷ xs) zero x at = ap (λ (z : Arena). z.is_out) (same_Some y x at)
out-at (y ∷ xs) (suc a) x at = out-at xs a x at

-- the bit of a slot in one of the words of an arena
abbrev pub word_bit : (Bits → ℕ) → Option Arena → ℕ → ℕ
word_bit word None k = 0
word_bit word (Some x) k = bit_at (word x.bits) k

pub as-black : (o : Option Arena) (k : ℕ) → black_bit o k ≡ word_bit (λ b. b.black) o k
as-black None k = refl
as-black (Some x) k = refl

pub as-gob : (o : Option Arena) (k : ℕ) → gob_bit o k ≡ word_bit (λ b. b.gob) o k
as-gob None k = refl
as-gob (Some x) k = refl

module _ (word : Bits → ℕ) (f : Arena → Arena) (xs : List Arena) (a : ℕ) where
  abbrev Sets : ℕ → ℕ → Type 0
  Sets s b = (x : Arena) → slice_get xs a ≡ Some x → (k : ℕ)
      → bit_at (word (f x).bits) k ≡ (if k == s then b else bit_at (word x.bits) k)

  pub bit-set : (s b : ℕ) → Sets s b → (x : Arena) → slice_get xs a ≡ Some x
      → word_bit word (slice_get (change_at f xs a) a) s ≡ b
  bit-set s b sets x at =
      ap (λ o. word_bit word o s) (slice_get-change_same f xs a ∙ ap (option_map f) at)
      ∙ sets x at s ∙ ap (λ t. if t then b else bit_at (word x.bits) s) (eq-eqb s s refl)

  at-other : (s b : ℕ) → Sets s b → (k : ℕ) → k ≢ s
      → word_bit word (slice_get (change_at f xs a) a) k ≡ word_bit word (slice_get xs a) k
  at-other s b sets k ne = ap (λ o. word_bit word o k) (slice_get-change_same f xs a) ∙ by (slice_get xs a) refl
    where
      by : (o : Option Arena) → slice_get xs a ≡ o → word_bit word (option_map f o) k ≡ word_bit word o k
      by None at = refl
      by (Some x) at = sets x at k ∙ ap (λ t. if t then b else bit_at (word x.bits) k) (ne_eqb k s ne)

  pub bit-other : (s b : ℕ) → Sets s b → (p : Place) → p ≢ (a, s)
      → word_bit word (slice_get (change_at f xs a) p.0) p.1 ≡ word_bit word (slice_get xs p.0) p.1
  bit-other s b sets (c, k) ne = elim (cases_eq c a) [
    | inl e ↦ ap (λ n. word_bit word (slice_get (change_at f xs a) n) k) e
        ∙ at-other s b sets k (λ d. ne (ap (λ n. (n, k)) e ∙ ap (λ n. (a, n)) d))
        ∙ ap (λ n. word_bit word (slice_get xs n) k) (sym e)
    | inr n ↦ ap (λ o. word_bit word o k) (slice_get-change_other f xs a c n)
  ]

  pub bit-kept : ((x : Arena) → (f x).bits ≡ x.bits) → (c k : ℕ)
      → word_bit word (slice_get (change_at f xs a) c) k ≡ word_bit word (slice_get xs c) k
  bit-kept same c k = elim (cases_eq c a) [
    | inl e ↦ ap (λ n. word_bit word (slice_get (change_at f xs a) n) k) e
        ∙ ap (λ o. word_bit word o k) (slice_get-change_same f xs a) ∙ by (slice_get xs a)
        ∙ ap (λ n. word_bit word (slice_get xs n) k) (sym e)
    | inr n ↦ ap (λ o. word_bit word o k) (slice_get-change_other f xs a c n)
  ]
    where
      by : (o : Option Arena) → word_bit word (option_map f o) k ≡ word_bit word o k
      by None = refl
      by (Some x) = ap (λ b. bit_at (word b) k) (same x)

-- only bits are changed
pub cell_at-bits : (bits : Bits) (xs : List Arena) (a : ℕ) (p : Place)
    → cell_at (change_at (with_bits bits) xs a) p ≡ cell_at xs p
cell_at-bits bits [] a p = refl
cell_at-bits bits (x ∷ xs) zero (zero, k) = refl
cell_at-bits bits (x ∷ xs) zero (suc c, k) = refl
cell_at-bits bits (x ∷ xs) (suc a) (zero, k) = refl
cell_at-bits bits (x ∷ xs) (suc a) (suc c, k) = cell_at-bits bits xs a (c, k)

-- one slot is freed
pub freed-here : (bits : Bits) (xs : List Arena) (p : Place) → cell_at (change_at (taken_in (2 ^ p.1) bits) xs p.0) p ≡
    None
freed-here bits xs p =
    cell_at-taken xs p.0 (2 ^ p.1) bits p
    ∙ ap (λ b. if b && (bit_at (2 ^ p.1) p.1 == 1) then None else cell_at xs p) (eq-eqb p.0 p.0 refl)
    ∙ ap (λ b. if b then None else cell_at xs p) (eq-eqb (bit_at (2 ^ p.1) p.1) 1 (bit_at-pow_same p.1))

pub freed-other : (bits : Bits) (xs : List Arena) (p q : Place) → q ≢ p
    → cell_at (change_at (taken_in (2 ^ p.1) bits) xs p.0) q ≡ cell_at xs q
freed-other bits xs p q ne = cell_at-taken xs p.0 (2 ^ p.1) bits q ∙ elim (cases_eq q.0 p.0) [
  | inl e ↦ ap (λ b. if b then None else cell_at xs q)
      (and_right (q.0 == p.0) (bit_at (2 ^ p.1) q.1 == 1)
      (ne_eqb (bit_at (2 ^ p.1) q.1) 1 (λ one.
      (let other : q.1 ≢ p.1 = λ d. ne (ap (λ n. (n, q.1)) e ∙ ap (λ n. (p.0, n)) d) in
      let none = bit_at-pow_other p.1 q.1 other in omega (arith, none, one)))))
  | inr n ↦ ap (λ b. if b then None else cell_at xs q) (and_left (q.0 == p.0) (bit_at (2 ^ p.1) q.1 == 1)
      (ne_eqb q.0 p.0 n))
]

length-freed : (w : ℕ) (slots : List (Option CellState)) → length (without_freed w slots) ≡ length slots
length-freed w [] = refl
length-freed w (o ∷ slots) = ap suc (length-freed (w / 2) slots)

only-move : (m n : Move) → Contains (m ∷ []) n → n ≡ m
only-move m n (zero, lt, at) = sym at
only-move m n (suc k, lt, at) = absurd (omega (arith, lt))

word-head : (word : Bits → ℕ) (h : Head) (k : ℕ) (o : Option Arena) → IsSomeAnd o (λ x. IsHeadOf x h)
    → bit_at (word h.bits) k ≡ word_bit word o k
word-head word h k None is = absurd is
word-head word h k (Some x) is = ap (λ (v : Bits). bit_at (word v) k) (sym is.bits)

-- one bit of a word is set, by other names of the bit and of what it is
pub bits-at : (old new s t b d : ℕ) → s ≡ t → b ≡ d
    → ((k : ℕ) → bit_at new k ≡ (if k == s then b else bit_at old k)) → (k : ℕ)
    → bit_at new k ≡ (if k == t then d else bit_at old k)
bits-at old new s t b d slot bit set k =
    set k ∙ ap (λ n. if k == n then b else bit_at old k) slot ∙ ap (λ n. if k == t then n else bit_at old k) bit

-- a cell, and a slot to which it may go
pub record MayGo (xs : List Arena) (m : Move) (cell : CellState) : Type 0 where
  pub here : cell_at xs m.from ≡ Some cell
  pub free : cell_at xs m.to ≡ None
  pub kept : is_out_at xs m.from.0 ≡ false
  pub made : m.to.0 < length xs
  pub long : (x : Arena) → slice_get xs m.to.0 ≡ Some x → m.to.1 < length x.slots

-- the steps of one move: its cell's slot is freed, the cell is put, and the bits go along
module _ (xs : List Arena) (m : Move) (cell : CellState) (before after : Bits) where
  abbrev pub freed : List Arena
  freed = change_at (taken_in (2 ^ m.from.1) before) xs m.from.0

  abbrev pub placed : List Arena
  placed = change_at (with_cell m.to.1 cell) freed m.to.0

  abbrev pub gone : List Arena
  gone = change_at (with_bits after) placed m.to.0

  -- the bits of a word are those of the arenas, without that of the slot that is left, and with it at the slot that is
  -- gone to
  pub record Carries (word : Bits → ℕ) : Type 0 where
    pub cleared : (x : Arena) → slice_get xs m.from.0 ≡ Some x → (k : ℕ)
        → bit_at (word before) k ≡ (if k == m.from.1 then 0 else bit_at (word x.bits) k)
    pub carried : (x : Arena) → slice_get placed m.to.0 ≡ Some x → (k : ℕ)
        → bit_at (word after) k
        ≡ (if k == m.to.1 then word_bit word (slice_get xs m.from.0) m.from.1 else bit_at (word x.bits) k)

  -- by what the heads of the two arenas say
  pub record HeadsSay (word : Bits → ℕ) (h i : Head) : Type 0 where
    pub of_from : IsSomeAnd (slice_get xs m.from.0) (λ x. IsHeadOf x h)
    pub of_to : IsSomeAnd (slice_get placed m.to.0) (λ x. IsHeadOf x i)
    pub clear : (k : ℕ) → bit_at (word before) k ≡ (if k == m.from.1 then zero else bit_at (word h.bits) k)
    pub carry : (k : ℕ)
        → bit_at (word after) k ≡ (if k == m.to.1 then bit_at (word h.bits) m.from.1 else bit_at (word i.bits) k)

  pub Carries-from : (word : Bits → ℕ) (h i : Head) → HeadsSay word h i → Carries word
  Carries-from word h i say = record {
    cleared = λ x at k. say.clear k
        ∙ ap (λ (v : Bits). if k == m.from.1 then zero else bit_at (word v) k)
        (sym (subst (λ o. IsSomeAnd o (λ y. IsHeadOf y h)) at say.of_from).bits);
    carried = λ x at k. say.carry k
        ∙ ap (λ n. if k == m.to.1 then n else bit_at (word i.bits) k)
        (word-head word h m.from.1 (slice_get xs m.from.0) say.of_from)
        ∙ ap (λ (v : Bits). if k == m.to.1 then word_bit word (slice_get xs m.from.0) m.from.1
        else bit_at (word v) k) (sym (subst (λ o. IsSomeAnd o (λ y. IsHeadOf y i)) at say.of_to).bits);
  }

  module _ (go : MayGo xs m cell) where
    ways : m.from ≢ m.to
    ways same = none-some cell (sym (ap (cell_at xs) same ∙ go.free) ∙ go.here)

    sized-freed : length freed ≡ length xs
    sized-freed = length-change_at (taken_in (2 ^ m.from.1) before) xs m.from.0

    sized-placed : length placed ≡ length xs
    sized-placed = length-change_at (with_cell m.to.1 cell) freed m.to.0 ∙ sized-freed

    slots-freed : (a : ℕ) → option_map (λ (x : Arena). length x.slots) (slice_get freed a)
        ≡ option_map (λ (x : Arena). length x.slots) (slice_get xs a)
    slots-freed a = part-change (λ (x : Arena). length x.slots) (taken_in (2 ^ m.from.1) before) xs m.from.0 a
        (λ x at. length-freed (2 ^ m.from.1) x.slots)

    pub long-freed : (x : Arena) → slice_get freed m.to.0 ≡ Some x → m.to.1 < length x.slots
    long-freed x at =
        let y = at-number xs m.to.0 go.made in
        let same = ap (option_map (λ (z : Arena). length z.slots)) (sym at) ∙ slots-freed m.to.0
        ∙ ap (option_map (λ (z : Arena). length z.slots)) y.1 in
        let count : length x.slots ≡ length y.0.slots = same_Some (length x.slots) (length y.0.slots) same in
        let fits = go.long y.0 y.1 in
        omega (arith, count, fits)

    within-freed : m.to.0 < length freed
    within-freed = (let made = go.made in omega (arith, made, sized-freed))

    put-here : cell_at placed m.to ≡ Some cell
    put-here =
        cell_at-set freed m.to cell m.to within-freed long-freed
        ∙ ap (λ b. if b then Some cell else cell_at freed m.to) (same-true m.to)

    put-other : (p : Place) → p ≢ m.to → cell_at placed p ≡ cell_at freed p
    put-other p ne =
        cell_at-set freed m.to cell p within-freed long-freed
        ∙ ap (λ b. if b then Some cell else cell_at freed p) (same-apart p m.to ne)

    module _ (word : Bits → ℕ) (carries : Carries word) where
      from-arena : (x : Arena) × (slice_get xs m.from.0 ≡ Some x)
      from-arena = at-number xs m.from.0 (cell_at-within xs m.from (ap is_some go.here))

      goes : word_bit word (slice_get gone m.to.0) m.to.1 ≡ word_bit word (slice_get xs m.from.0) m.from.1
      goes =
          let y = at-number placed m.to.0 (let made = go.made in omega (arith, made, sized-placed)) in
          bit-set word (with_bits after) placed m.to.0 m.to.1 (word_bit word (slice_get xs m.from.0) m.from.1)
          carries.carried y.0 y.1

      clears : word_bit word (slice_get gone m.from.0) m.from.1 ≡ 0
      clears =
          bit-other word (with_bits after) placed m.to.0 m.to.1 (word_bit word (slice_get xs m.from.0) m.from.1)
          carries.carried m.from ways
          ∙ bit-kept word (with_cell m.to.1 cell) freed m.to.0 (λ x. refl) m.from.0 m.from.1
          ∙ bit-set word (taken_in (2 ^ m.from.1) before) xs m.from.0 m.from.1 0 carries.cleared from-arena.0
          from-arena.1

      keeps : (p : Place) → p ≢ m.from → p ≢ m.to
          → word_bit word (slice_get gone p.0) p.1 ≡ word_bit word (slice_get xs p.0) p.1
      keeps p left goal =
          bit-other word (with_bits after) placed m.to.0 m.to.1 (word_bit word (slice_get xs m.from.0) m.from.1)
          carries.carried p goal
          ∙ bit-kept word (with_cell m.to.1 cell) freed m.to.0 (λ x. refl) p.0 p.1
          ∙ bit-other word (taken_in (2 ^ m.from.1) before) xs m.from.0 m.from.1 0 carries.cleared p left

    pub MovesCells-one : Carries (λ b. b.black) → Carries (λ b. b.gob) → MovesCells xs (m ∷ []) gone
    MovesCells-one black gob = record {
      sized = length-change_at (with_bits after) placed m.to.0 ∙ sized-placed;
      zones = λ a. part-change (λ (x : Arena). x.zone) (with_bits after) placed m.to.0 a (λ x at. refl)
          ∙ part-change (λ (x : Arena). x.zone) (with_cell m.to.1 cell) freed m.to.0 a (λ x at. refl)
          ∙ part-change (λ (x : Arena). x.zone) (taken_in (2 ^ m.from.1) before) xs m.from.0 a (λ x at. refl);
      outs = λ a. out-change (with_bits after) placed m.to.0 a (λ x at. refl)
          ∙ out-change (with_cell m.to.1 cell) freed m.to.0 a (λ x at. refl)
          ∙ out-change (taken_in (2 ^ m.from.1) before) xs m.from.0 a
          (λ x at. sym go.kept ∙ out-at xs m.from.0 x at);
      whole = λ a. part-change (λ (x : Arena). length x.slots) (with_bits after) placed m.to.0 a (λ x at. refl)
          ∙ part-change (λ (x : Arena). length x.slots) (with_cell m.to.1 cell) freed m.to.0 a
          (λ x at. length-set x.slots m.to.1 (Some cell))
          ∙ slots-freed a;
      gone = λ n has. (let e = only-move m n has in
          ap (λ (x : Move). cell_at gone x.to) e ∙ cell_at-bits after placed m.to.0 m.to ∙ put-here ∙ sym go.here
          ∙ ap (λ (x : Move). cell_at xs x.from) (sym e));
      left = λ p l. (let e : m.from ≡ p = sym (ap (λ (x : Move). x.from) (only-move m l.0 l.1)) ∙ l.2 in
          ap (cell_at gone) (sym e) ∙ cell_at-bits after placed m.to.0 m.from ∙ put-other m.from ways
          ∙ freed-here before xs m.from);
      others = λ p left goal.
          cell_at-bits after placed m.to.0 p ∙ put-other p (λ e. goal (m, (0, omega arith, refl), sym e))
          ∙ freed-other before xs m.from p (λ e. left (m, (0, omega arith, refl), sym e));
      bits = λ n has. (let e = only-move m n has in
          subst (λ (x : Move). AreBitsOf xs x.from gone x.to) (sym e) (record {
            black = as-black (slice_get gone m.to.0) m.to.1 ∙ goes (λ b. b.black) black
                ∙ sym (as-black (slice_get xs m.from.0) m.from.1);
            gob = as-gob (slice_get gone m.to.0) m.to.1 ∙ goes (λ b. b.gob) gob
                ∙ sym (as-gob (slice_get xs m.from.0) m.from.1);
          }));
      left_bits = λ p l. (let e : m.from ≡ p = sym (ap (λ (x : Move). x.from) (only-move m l.0 l.1)) ∙ l.2 in
          subst (AreClearBits gone) e (record {
            black = as-black (slice_get gone m.from.0) m.from.1 ∙ clears (λ b. b.black) black;
            gob = as-gob (slice_get gone m.from.0) m.from.1 ∙ clears (λ b. b.gob) gob;
          }));
      other_bits = λ p left goal. record {
        black = as-black (slice_get gone p.0) p.1
            ∙ keeps (λ b. b.black) black p (λ e. left (m, (0, omega arith, refl), sym e))
            (λ e. goal (m, (0, omega arith, refl), sym e))
            ∙ sym (as-black (slice_get xs p.0) p.1);
        gob = as-gob (slice_get gone p.0) p.1
            ∙ keeps (λ b. b.gob) gob p (λ e. left (m, (0, omega arith, refl), sym e))
            (λ e. goal (m, (0, omega arith, refl), sym e))
            ∙ sym (as-gob (slice_get xs p.0) p.1);
      };
    }

-- the owner of an arena by its zone
owner-from : Option ℕ → Option ℕ
owner-from None = None
owner-from (Some zone) = if nat_lt zone 64 then Some zone else None

owner-zone : (o : Option Arena) → owner_of o ≡ owner-from (option_map (λ (x : Arena). x.zone) o)
unfolding owner-from
owner-zone None = refl
owner-zone (Some x) = refl

owners : (o p : Option Arena) → option_map (λ (x : Arena). x.zone) o ≡ option_map (λ (x : Arena). x.zone) p
    → owner_of o ≡ owner_of p
owners o p same = owner-zone o ∙ ap owner-from same ∙ sym (owner-zone p)

-- a move after others
pub record ComesAfter (xs ys : List Arena) (done : List Move) (m : Move) : Type 0 where
  pub first : MovesCells xs done ys
  pub froms : (n : Move) → Contains done n → n.from ≢ m.from
  pub tos : (n : Move) → Contains done n → n.to ≢ m.to
  pub left : (n : Move) → Contains done n → n.from ≢ m.to
  pub goal : (n : Move) → Contains done n → n.to ≢ m.from

module _ (xs ys : List Arena) (done : List Move) (m : Move) (c : ComesAfter xs ys done m) where
  here : Contains (m ∷ []) m
  here = (0, omega arith, refl)

  not-left : (p : Place) → m.from ≢ p → IsLeft (m ∷ []) p → ⊥
  not-left p ne (n, has, is) = ne (sym (ap (λ (x : Move). x.from) (only-move m n has)) ∙ is)

  not-goal : (p : Place) → m.to ≢ p → IsGoal (m ∷ []) p → ⊥
  not-goal p ne (n, has, is) = ne (sym (ap (λ (x : Move). x.to) (only-move m n has)) ∙ is)

  -- what it finds at the place that it leaves, and at the place that it goes to
  pub found-from : cell_at ys m.from ≡ cell_at xs m.from
  found-from = c.first.others m.from (λ l. c.froms l.0 l.1 l.2) (λ g. c.goal g.0 g.1 g.2)

  pub found-to : cell_at ys m.to ≡ cell_at xs m.to
  found-to = c.first.others m.to (λ l. c.left l.0 l.1 l.2) (λ g. c.tos g.0 g.1 g.2)

  bits-from : AreBitsOf xs m.from ys m.from
  bits-from = c.first.other_bits m.from (λ l. c.froms l.0 l.1 l.2) (λ g. c.goal g.0 g.1 g.2)

  -- what the others leave it
  pub MayMove-next : MayMove xs (done ++ m ∷ []) → MayMove ys (m ∷ [])
  MayMove-next may = record {
    cells = λ n has. (let e = only-move m n has in
        subst (λ (x : Move). IsSome (cell_at ys x.from)) (sym e)
        (subst IsSome (sym found-from) (may.cells m (Contains-push done m))));
    zones = λ n has. (let e = only-move m n has in
        subst (λ (x : Move). owner_of (slice_get ys x.to.0) ≡ owner_of (slice_get ys x.from.0)) (sym e)
        (let to = owners (slice_get ys m.to.0) (slice_get xs m.to.0) (c.first.zones m.to.0) in
        let from = owners (slice_get ys m.from.0) (slice_get xs m.from.0) (c.first.zones m.from.0) in
        to ∙ may.zones m (Contains-push done m) ∙ sym from));
    made = λ n has. (let e = only-move m n has in
        subst (λ (x : Move). x.to.0 < length ys) (sym e)
        (let made = may.made m (Contains-push done m) in omega (arith, made, c.first.sized)));
    kept = λ n has. (let e = only-move m n has in
        subst (λ (x : Move). (is_out_at ys x.from.0 ≡ false) × (is_out_at ys x.to.0 ≡ false)) (sym e)
        (let kept = may.kept m (Contains-push done m) in
        (c.first.outs m.from.0 ∙ kept.0, c.first.outs m.to.0 ∙ kept.1)));
    apart = record {
      apart = λ i j d less within. absurd (omega (arith, less, within));
      free = λ p held g. (let at : m.to ≡ p = sym (ap (λ (x : Move). x.to) (only-move m g.0 g.1)) ∙ g.2 in
          may.apart.free m.to (subst IsSome found-to (subst (λ q. IsSome (cell_at ys q)) (sym at) held))
          (m, Contains-push done m, refl));
      clear = λ p l g. may.apart.clear p
          (m, Contains-push done m, sym (ap (λ (x : Move). x.from) (only-move m l.0 l.1)) ∙ l.2)
          (m, Contains-push done m, sym (ap (λ (x : Move). x.to) (only-move m g.0 g.1)) ∙ g.2);
    };
  }

  module _ (zs : List Arena) (last : MovesCells ys (m ∷ []) zs) where
    -- a place that it does not touch has what it had
    kept-cell : (p : Place) → m.from ≢ p → m.to ≢ p → cell_at zs p ≡ cell_at ys p
    kept-cell p from to = last.others p (not-left p from) (not-goal p to)

    bits-after : (p q r : Place) → AreBitsOf xs p ys q → AreBitsOf ys q zs r → AreBitsOf xs p zs r
    bits-after p q r one two = record { black = two.black ∙ one.black; gob = two.gob ∙ one.gob }

    pub MovesCells-more : MovesCells xs (done ++ m ∷ []) zs
    MovesCells-more = record {
      sized = last.sized ∙ c.first.sized;
      zones = λ a. last.zones a ∙ c.first.zones a;
      outs = λ a. last.outs a ∙ c.first.outs a;
      whole = λ a. last.whole a ∙ c.first.whole a;
      gone = λ n has. elim (Contains-push_cases done m n has) [
        | inl old ↦ kept-cell n.to (λ e. c.goal n old (sym e)) (λ e. c.tos n old (sym e)) ∙ c.first.gone n old
        | inr new ↦ subst (λ (x : Move). cell_at zs x.to ≡ cell_at xs x.from) new (last.gone m here ∙ found-from)
      ];
      left = λ p l. elim (Contains-push_cases done m l.0 l.1) [
        | inl old ↦ kept-cell p (λ e. c.froms l.0 old (l.2 ∙ sym e)) (λ e. c.left l.0 old (l.2 ∙ sym e))
            ∙ c.first.left p (l.0, old, l.2)
        | inr new ↦ last.left p (m, here, ap (λ (x : Move). x.from) new ∙ l.2)
      ];
      others = λ p l g.
          last.others p (λ one. l (
            m,
            Contains-push done m,
            sym (ap (λ (x : Move). x.from) (only-move m one.0 one.1)) ∙
                one.2,
          ))
          (λ one. g (m, Contains-push done m, sym (ap (λ (x : Move). x.to) (only-move m one.0 one.1)) ∙ one.2))
          ∙ c.first.others p (λ old. l (old.0, Contains-append_left done (m ∷ []) old.0 old.1, old.2))
          (λ old. g (old.0, Contains-append_left done (m ∷ []) old.0 old.1, old.2));
      bits = λ n has. elim (Contains-push_cases done m n has) [
        | inl old ↦ bits-after n.from n.to n.to (c.first.bits n old)
            (last.other_bits n.to (not-left n.to (λ e. c.goal n old (sym e)))
            (not-goal n.to (λ e. c.tos n old (sym e))))
        | inr new ↦ subst (λ (x : Move). AreBitsOf xs x.from zs x.to) new
            (bits-after m.from m.from m.to bits-from (last.bits m here))
      ];
      left_bits = λ p l. elim (Contains-push_cases done m l.0 l.1) [
        | inl old ↦ (let was = c.first.left_bits p (l.0, old, l.2) in
            let now = last.other_bits p (not-left p (λ e. c.froms l.0 old (l.2 ∙ sym e)))
            (not-goal p (λ e. c.left l.0 old (l.2 ∙ sym e))) in
            record { black = now.black ∙ was.black; gob = now.gob ∙ was.gob })
        | inr new ↦ last.left_bits p (m, here, ap (λ (x : Move). x.from) new ∙ l.2)
      ];
      other_bits = λ p l g. bits-after p p p
          (c.first.other_bits p (λ old. l (old.0, Contains-append_left done (m ∷ []) old.0 old.1, old.2))
          (λ old. g (old.0, Contains-append_left done (m ∷ []) old.0 old.1, old.2)))
          (last.other_bits p
          (λ one. l (m, Contains-push done m, sym (ap (λ (x : Move). x.from) (only-move m one.0 one.1)) ∙ one.2))
          (λ one. g (m, Contains-push done m, sym (ap (λ (x : Move). x.to) (only-move m one.0 one.1)) ∙ one.2)));
    }

-- no moves
pub MovesCells-none : (xs : List Arena) → MovesCells xs [] xs
MovesCells-none xs = record {
  sized = refl;
  zones = λ a. refl;
  outs = λ a. refl;
  whole = λ a. refl;
  gone = λ m has. (let lt = has.1 in absurd (omega (arith, lt)));
  left = λ p l. (let lt = l.1.1 in absurd (omega (arith, lt)));
  others = λ p l g. refl;
  bits = λ m has. (let lt = has.1 in absurd (omega (arith, lt)));
  left_bits = λ p l. (let lt = l.1.1 in absurd (omega (arith, lt)));
  other_bits = λ p l g. record { black = refl; gob = refl };
}

-- the first of some moves
Contains-take : (n : ℕ) (moves : List Move) (m : Move) → Contains (take n moves) m → Contains moves m
Contains-take n moves m (k, lt, at) =
    let few = length-take n moves in (
      k,
      omega (arith, lt, few),
      sym (get_or-take n moves k m (omega (arith, lt, few))) ∙ at,
    )

pub MayMove-take : (xs : List Arena) (n : ℕ) (moves : List Move) → MayMove xs moves → MayMove xs (take n moves)
MayMove-take xs n moves may = record {
  cells = λ m has. may.cells m (Contains-take n moves m has);
  zones = λ m has. may.zones m (Contains-take n moves m has);
  made = λ m has. may.made m (Contains-take n moves m has);
  kept = λ m has. may.kept m (Contains-take n moves m has);
  apart = record {
    apart = λ i j d less within. (let few = length-take n moves in λ same.
        may.apart.apart i j d less (omega (arith, within, few))
        (ap (λ (m : Move). m.to) (sym (get_or-take n moves i d (omega (arith, less, within, few)))) ∙ same
        ∙ ap (λ (m : Move). m.to) (get_or-take n moves j d (omega (arith, within, few)))));
    free = λ p held g. may.apart.free p held (g.0, Contains-take n moves g.0 g.1, g.2);
    clear = λ p l g. may.apart.clear p (l.0, Contains-take n moves l.0 l.1, l.2)
        (g.0, Contains-take n moves g.0 g.1, g.2);
  };
}

-- the next of some moves touches no place that those before it touch
module _ (xs : List Arena) (moves : List Move) (may : MayMove xs moves) (order : AreInOrder moves) (i : ℕ) (m : Move)
    (within : i < length moves) (at : m ≡ get_or moves i m) where
  its : Contains moves m
  its = (i, within, sym at)

  earlier : (n : Move) → Contains (take i moves) n → (k : ℕ) × (k < i) × (get_or moves k m ≡ n)
  earlier n (k, lt, is) =
      let few = length-take i moves in (
        k,
        omega (arith, lt, few),
        get_or-read k n is (omega (arith, lt, few)),
      )
    where
      get_or-read : (k : ℕ) (n : Move) → get_or (take i moves) k n ≡ n → k < i → get_or moves k m ≡ n
      get_or-read k n is lt =
          get_or_default moves k m n (omega (arith, lt, within)) ∙ sym (get_or-take i moves k n lt) ∙ is

  other-from : (n : Move) → Contains (take i moves) n → n.from ≢ m.from
  other-from n has =
      let e = earlier n has in
      before-apart n.from m.from
      (subst (λ (x : Move). IsBefore x.from m.from) e.2
      (subst (λ (x : Move). IsBefore (get_or moves e.0 m).from x.from) (sym at) (order e.0 i m e.1 within)))

  other-to : (n : Move) → Contains (take i moves) n → n.to ≢ m.to
  other-to n has same =
      let e = earlier n has in
      may.apart.apart e.0 i m e.1 within
      (ap (λ (x : Move). x.to) e.2 ∙ same ∙ ap (λ (x : Move). x.to) at)

  pub comes-after : (ys : List Arena) → MovesCells xs (take i moves) ys → ComesAfter xs ys (take i moves) m
  comes-after ys first = record {
    first = first;
    froms = other-from;
    tos = other-to;
    left = λ n has same. may.apart.clear m.to (n, Contains-take i moves n has, same) (m, its, refl);
    goal = λ n has same. may.apart.clear m.from (m, its, refl) (n, Contains-take i moves n has, same);
  }

-- a slot that is free makes an arena have a free one
pub free-at : (slots : List (Option CellState)) (s : ℕ) → s < length slots → cell_in slots s ≡ None
    → has_free slots ≡ true
free-at [] s lt none = absurd (omega arith)
free-at (None ∷ slots) s lt none = refl
free-at (Some x ∷ slots) zero lt none = absurd (none-some x (sym none))
free-at (Some x ∷ slots) (suc s) lt none = free-at slots s (omega (arith, lt)) none

-- one cell less, and one more
one-picked : (slots : List (Option CellState)) (s : ℕ) (cell : CellState) → cell_in slots s ≡ Some cell
    → length (names_of (at_bits (2 ^ s) slots)) ≡ 1
one-picked [] s cell at = absurd (none-some cell at)
one-picked (o ∷ slots) zero cell at =
    ap (λ rest. length (names_of (o ∷ rest))) (at_bits-zero slots) ∙ ap (λ p. length (names_of (p ∷ []))) at
one-picked (o ∷ slots) (suc s) cell at =
    let twice : 2 ^ suc s ≡ 2 ^ s * 2 = pow-suc 2 s in
    let even : 2 ^ suc s % 2 ≡ 0 = omega (arith, twice) in
    let half : 2 ^ suc s / 2 ≡ 2 ^ s = omega (arith, twice) in
    ap (λ b. length (names_of (if b then o ∷ at_bits (2 ^ suc s / 2) slots else at_bits (2 ^ suc s / 2) slots)))
    (ne_eqb (2 ^ suc s % 2) 1 (λ one. omega (arith, even, one)))
    ∙ ap (λ w. length (names_of (at_bits w slots))) half ∙ one-picked slots s cell at

at-slot : (xs : List Arena) (p : Place) (x : Arena) → slice_get xs p.0 ≡ Some x → cell_at xs p ≡ cell_in x.slots p.1
at-slot xs p x at = ap (option_and_then (λ (y : Arena). cell_in y.slots p.1)) at

pub held-gone : (xs : List Arena) (m : Move) (cell : CellState) (before after : Bits) → cell_at xs m.from ≡ Some cell
    → cell_at xs m.to ≡ None → m.to.0 < length xs
    → ((x : Arena) → slice_get (freed xs m cell before after) m.to.0 ≡ Some x → m.to.1 < length x.slots)
    → held_by (gone xs m cell before after) ≡ held_by xs
held-gone xs m cell before after here free made long =
    let ways : m.to ≢ m.from = λ same. none-some cell (sym free ∙ ap (cell_at xs) same ∙ here) in
    let x = at-number xs m.from.0 (cell_at-within xs m.from (ap is_some here)) in
    let taken = held_by-taken xs m.from.0 (2 ^ m.from.1) before (names_of (at_bits (2 ^ m.from.1) x.0.slots))
    (subst (λ o. IsSomeAnd o (λ y. names_of (at_bits (2 ^ m.from.1) x.0.slots) ≡ names_of
    (at_bits (2 ^ m.from.1) y.slots)))
    (sym x.1) refl) in
    let one = one-picked x.0.slots m.from.1 cell (sym (at-slot xs m.from x.0 x.1) ∙ here) in
    let fs = freed xs m cell before after in
    let y = at-number fs m.to.0
    (let sized = length-change_at (taken_in (2 ^ m.from.1) before) xs m.from.0 in omega (arith, made, sized)) in
    let none : cell_in y.0.slots m.to.1 ≡ None =
    sym (at-slot fs m.to y.0 y.1) ∙ freed-other before xs m.from m.to ways ∙ free in
    let more = held_in-put y.0.slots m.to.1 cell none (long y.0 y.1) in
    let put = held_by-change (with_cell m.to.1 cell) fs m.to.0 1 y.0 y.1 (omega (arith, more)) in
    let ps = placed xs m cell before after in
    let z = at-number ps m.to.0 (let a = length-change_at (with_cell m.to.1 cell) fs m.to.0 in
    let b = length-change_at (taken_in (2 ^ m.from.1) before) xs m.from.0 in omega (arith, made, a, b)) in
    let bits = held_by-change (with_bits after) ps m.to.0 0 z.0 z.1 (omega arith) in
    omega (arith, taken, one, put, bits)

-- a slot that is gone to is free
none-there : (xs : List Arena) (m : Move) → MayMove xs (m ∷ []) → cell_at xs m.to ≡ None
none-there xs m may = by (cell_at xs m.to) refl
  where
    by : (o : Option CellState) → cell_at xs m.to ≡ o → cell_at xs m.to ≡ None
    by None e = e
    by (Some x) e = absurd (may.apart.free m.to (ap is_some e) (m, (0, omega arith, refl), refl))

owner-is : (z : Arena) (zone : ℕ) → owner_of (Some z) ≡ Some zone → z.zone ≡ zone
owner-is z zone is = by (nat_lt z.zone 64) is
  where
    by : (b : Bool) → (if b then Some z.zone else None) ≡ Some zone → z.zone ≡ zone
    by true e = same_Some z.zone zone e
    by false e = absurd (none-some zone e)

-- one cell goes, of arenas that are whole
pub record GoesOne (xs : List Arena) (m : Move) (cell : CellState) : Type 0 where
  pub zones : All (λ (x : Arena). x.zone ≤ 64) xs
  pub empty : All IsEmptyIfGivenUp xs
  pub whole : All (λ (x : Arena). length x.slots ≡ 64) xs
  pub may : MayMove xs (m ∷ [])
  pub here : cell_at xs m.from ≡ Some cell
  pub slot : m.to.1 < 64

pub may-go : (xs : List Arena) (m : Move) (cell : CellState) → GoesOne xs m cell → MayGo xs m cell
may-go xs m cell c = record {
  here = c.here;
  free = none-there xs m c.may;
  kept = (c.may.kept m (0, omega arith, refl)).0;
  made = c.may.made m (0, omega arith, refl);
  long = λ x at. (let whole = All-at (λ (a : Arena). length a.slots ≡ 64) xs m.to.0 x c.whole at in
      let slot = c.slot in omega (arith, whole, slot));
}

-- the arena that is gone to takes the cell, once its slot is freed
pub takes-cell : (xs : List Arena) (m : Move) (cell : CellState) (before after : Bits) (h : Head)
    → GoesOne xs m cell → IsSomeAnd (slice_get xs m.from.0) (λ x. IsHeadOf x h)
    → is_open h.zone (slice_get (freed xs m cell before after) m.to.0) ≡ true
takes-cell xs m cell before after h c head =
    let its : Contains (m ∷ []) m = (0, omega arith, refl) in
    let made = c.may.made m its in
    let free = none-there xs m c.may in
    let ways : m.to ≢ m.from = λ same. none-some cell (sym free ∙ ap (cell_at xs) same ∙ c.here) in
    let x = at-number xs m.from.0 (cell_at-within xs m.from (ap is_some c.here)) in
    let own : x.0.zone ≢ 64 = subst IsOwned x.1 (owned-cell xs m.from c.empty (ap is_some c.here)) in
    let under : x.0.zone ≤ 64 = All-at (λ (y : Arena). y.zone ≤ 64) xs m.from.0 x.0 c.zones x.1 in
    let mine : x.0.zone ≡ h.zone = head-zone x.0 h (subst (λ o. IsSomeAnd o (λ y. IsHeadOf y h)) x.1 head) own in
    let z = at-number xs m.to.0 made in
    let owner : owner_of (Some z.0) ≡ Some x.0.zone =
    ap owner_of (sym z.1) ∙ c.may.zones m its ∙ ap owner_of x.1
    ∙ ap (λ t. if t then Some x.0.zone else None) (lt-ltb x.0.zone 64 (omega (arith, own, under))) in
    let same : z.0.zone ≡ x.0.zone = owner-is z.0 x.0.zone owner in
    let fs = freed xs m cell before after in
    let y = at-number fs m.to.0
    (let sized = length-change_at (taken_in (2 ^ m.from.1) before) xs m.from.0 in omega (arith, made, sized)) in
    let zone-kept : y.0.zone ≡ z.0.zone = same_Some y.0.zone z.0.zone
    (ap (option_map (λ (a : Arena). a.zone)) (sym y.1)
    ∙ part-change (λ (a : Arena). a.zone) (taken_in (2 ^ m.from.1) before) xs m.from.0 m.to.0 (λ a at. refl)
    ∙ ap (option_map (λ (a : Arena). a.zone)) z.1) in
    let kept = c.may.kept m its in
    let out : y.0.is_out ≡ false =
    sym (out-at fs m.to.0 y.0 y.1)
    ∙ out-change (taken_in (2 ^ m.from.1) before) xs m.from.0 m.to.0 (λ a at. sym kept.0 ∙ out-at xs m.from.0 a at)
    ∙ kept.1 in
    let long : length y.0.slots ≡ length z.0.slots = same_Some (length y.0.slots) (length z.0.slots)
    (ap (option_map (λ (a : Arena). length a.slots)) (sym y.1)
    ∙ part-change (λ (a : Arena). length a.slots) (taken_in (2 ^ m.from.1) before) xs m.from.0 m.to.0
    (λ a at. length-freed (2 ^ m.from.1) a.slots)
    ∙ ap (option_map (λ (a : Arena). length a.slots)) z.1) in
    let all = All-at (λ (a : Arena). length a.slots ≡ 64) xs m.to.0 z.0 c.whole z.1 in
    let slot = c.slot in
    let none : cell_in y.0.slots m.to.1 ≡ None =
    sym (at-slot fs m.to y.0 y.1) ∙ freed-other before xs m.from m.to ways ∙ free in
    let has = free-at y.0.slots m.to.1 (omega (arith, slot, long, all)) none in
    ap (is_open h.zone) y.1
    ∙ and_from (y.0.zone == h.zone) (not y.0.is_out && has_free y.0.slots)
    (eq-eqb y.0.zone h.zone (zone-kept ∙ same ∙ mine))
    (and_from (not y.0.is_out) (has_free y.0.slots) (ap not out) has)

-- the arena that is gone to is owned
goal-owned : (xs : List Arena) (m : Move) → All (λ (x : Arena). x.zone ≤ 64) xs → All IsEmptyIfGivenUp xs
    → MayMove xs (m ∷ []) → (z : Arena) → slice_get xs m.to.0 ≡ Some z → z.zone ≢ 64
goal-owned xs m zones empty may z at =
    let its : Contains (m ∷ []) m = (0, omega arith, refl) in
    let held = may.cells m its in
    let x = at-number xs m.from.0 (cell_at-within xs m.from held) in
    let own : x.0.zone ≢ 64 = subst IsOwned x.1 (owned-cell xs m.from empty held) in
    let under : x.0.zone ≤ 64 = All-at (λ (y : Arena). y.zone ≤ 64) xs m.from.0 x.0 zones x.1 in
    let owner : owner_of (Some z) ≡ Some x.0.zone =
    ap owner_of (sym at) ∙ may.zones m its ∙ ap owner_of x.1
    ∙ ap (λ t. if t then Some x.0.zone else None) (lt-ltb x.0.zone 64 (omega (arith, own, under))) in
    λ none. own (sym (owner-is z x.0.zone owner) ∙ none)

-- a change that keeps zones
own-kept : (f : Arena → Arena) → ((x : Arena) → (f x).zone ≡ x.zone) → (xs : List Arena) (i b : ℕ)
    → ((z : Arena) → slice_get xs b ≡ Some z → z.zone ≢ 64)
    → (x : Arena) → slice_get (change_at f xs i) b ≡ Some x → x.zone ≢ 64
own-kept f keeps xs i b own x at =
    by (slice_get xs b) refl (sym (ap (option_map (λ (a : Arena). a.zone)) at)
    ∙ part-change (λ (a : Arena). a.zone) f xs i b (λ y is. keeps y))
  where
    by : (o : Option Arena) → slice_get xs b ≡ o → Some x.zone ≡ option_map (λ (a : Arena). a.zone) o → x.zone ≢ 64
    by None is e = absurd (none-some x.zone (sym e))
    by (Some z) is e = λ none. own z is (sym (same_Some x.zone z.zone e) ∙ none)

empty-owned : (f : Arena → Arena) → ((x : Arena) → (f x).zone ≡ x.zone) → (xs : List Arena) (i : ℕ)
    → ((z : Arena) → slice_get xs i ≡ Some z → z.zone ≢ 64) → All IsEmptyIfGivenUp xs
    → All IsEmptyIfGivenUp (change_at f xs i)
empty-owned f keeps xs i own all =
    empty-change f xs i (λ x at none. absurd (own x at (sym (keeps x) ∙ none))) all

-- no arena that was given up gets a cell
pub empty-gone : (xs : List Arena) (m : Move) (cell : CellState) (before after : Bits)
    → All (λ (x : Arena). x.zone ≤ 64) xs → All IsEmptyIfGivenUp xs → MayMove xs (m ∷ [])
    → All IsEmptyIfGivenUp (gone xs m cell before after)
empty-gone xs m cell before after zones empty may =
    let held = may.cells m (0, omega arith, refl) in
    let goal = goal-owned xs m zones empty may in
    let fs = freed xs m cell before after in
    let ps = placed xs m cell before after in
    let at-freed = own-kept (taken_in (2 ^ m.from.1) before) (λ x. refl) xs m.from.0 m.to.0 goal in
    let at-placed = own-kept (with_cell m.to.1 cell) (λ x. refl) fs m.to.0 m.to.0 at-freed in
    empty-owned (with_bits after) (λ x. refl) ps m.to.0 at-placed
    (empty-owned (with_cell m.to.1 cell) (λ x. refl) fs m.to.0 at-freed
    (empty-owned (taken_in (2 ^ m.from.1) before) (λ x. refl) xs m.from.0
    (λ z at. subst IsOwned at (owned-cell xs m.from empty held)) empty))
