-- The names of the cells at the slots of a word.
use Rattle.std.proofs.Common.{◌≡◌, ◌≢◌, ◌<◌, ◌/◌, ◌%◌, ◌^◌, ◌-◌, ◌==◌, ℕ, suc, Bool, true, false, cond, if◌then◌else◌}
use Rattle.std.proofs.Common.{List, [], ◌∷◌, ◌++◌, length, map, get_or, Option, Some, None, IsSomeAnd, slice_get, refl}
use Rattle.std.proofs.Common.{sym, ◌∙◌, ap, subst, arith, bit_and, w64, length-append, append_assoc, append-nil}
use Rattle.std.proofs.Common.{eqb-true}
use Rattle.std.proofs.lemmas.List.{length-map}
use Rattle.std.proofs.lemmas.Nat.Bits.{bit_at_lowest, bit_at-suc, bit_at-trailing_zeros}
use Rattle.std.specs.Int.{bit_at, trailing_zeros}
use Rattle.gz_names.specs.declared.commands.Kind.TheVariants as kind
use Rattle.gz_names.specs.declared.names.Name.{Name}
use Rattle.arena_table.specs.Cells.{CellState, state_of}
use Rattle.arena_table.specs.Slots.{Arena, at_bits, names_of, IsWithin, alloc_word_of}
use Rattle.arena_table.specs.Stored.{arena_of, arenas_of, slots_of, AreStored}
use Rattle.arena_table.specs.declared.cells.Cell.{Cell}
use Rattle.arena_table.specs.declared.store.Head.{Head}
use Rattle.arena_table.proofs.Fields.{AreNullFrom-none}
use Rattle.arena_table.proofs.SlotBits.{alloc_word_of-slots_of}
use Rattle.arena_table.proofs.Storing.{cells_in, in_heads, long_at, no_head, slice_get-arenas_of}
use Rattle.arena_table.proofs.AtBits.{at_bits-lowest, at_bits-zero, length-at_bits}

abbrev pub no_cell : Cell
no_cell = record {
  kind = kind.Object 0;
  comp = record { 0 = 0 };
  fetched = false;
  fields = [];
  number = 0;
  few = omega arith;
  null_past = AreNullFrom-none 0;
}

abbrev pub names_in : List Cell → List Name
names_in cells = map (λ (c : Cell). (state_of c).name) cells

-- as long as a slot is left, there is room for its name
pub names-room : (names : List Name) (left word : ℕ) (cells : List Cell) (d : Cell)
    → names ++ names_in (at_bits left cells) ≡ names_in (at_bits word cells) → left ≢ 0 → left < 2 ^ 64
    → length cells ≡ 64 → length names < 64
names-room names left word cells d h some fits long =
    let lowest = bit_at-trailing_zeros w64 left (omega arith) fits in
    let within : trailing_zeros w64 left < length cells = omega (arith, lowest.0) in
    let first = ap length (at_bits-lowest left cells d (omega arith) fits within) in
    let all = ap length h in
    let parts = length-append names (names_in (at_bits left cells)) in
    let more = length-map (at_bits left cells) (λ (c : Cell). (state_of c).name) in
    let most = length-map (at_bits word cells) (λ (c : Cell). (state_of c).name) in
    let bound = length-at_bits word cells in
    omega arith

-- the name of the lowest slot that is left
pub names-next : (names : List Name) (left word : ℕ) (cells : List Cell) (cell : Cell)
    → cell ≡ get_or cells (trailing_zeros w64 left) cell
    → names ++ names_in (at_bits left cells) ≡ names_in (at_bits word cells) → left ≢ 0 → left < 2 ^ 64
    → length cells ≡ 64 → (names ++ (state_of cell).name ∷ [])
    ++ names_in (at_bits (bit_and left (left - 1)) cells) ≡ names_in (at_bits word cells)
names-next names left word cells cell here h some fits long =
    let lowest = bit_at-trailing_zeros w64 left (omega arith) fits in
    let within : trailing_zeros w64 left < length cells = omega (arith, lowest.0) in
    append_assoc names _ _
    ∙ (ap (λ cs. names ++ names_in cs) (ap (λ c. c ∷ at_bits (bit_and left (left - 1)) cells) here
    ∙ sym (at_bits-lowest left cells cell (omega arith) fits within)) ∙ h)

pub names-all : (names : List Name) (left word : ℕ) (cells : List Cell) → names ++ names_in (at_bits left cells)
    ≡ names_in (at_bits word cells) → left ≡ 0 → names ≡ names_in (at_bits word cells)
names-all names left word cells h none = sym (append-nil names)
    ∙ (ap (λ cs. names ++ names_in cs) (sym (ap (λ l. at_bits l cells) none ∙ at_bits-zero cells)) ∙ h)

-- the names by the slots, where a cell stands at each slot of the word
names_of-slots : (word w : ℕ) (cs : List Cell) → ((k : ℕ) → k < length cs → bit_at word k ≡ 1 → bit_at w k ≡ 1)
    → names_of (at_bits word (slots_of w cs)) ≡ names_in (at_bits word cs)
names_of-slots word w [] h = refl
names_of-slots word w (c ∷ cs) h =
    by (word % 2 == 1) refl
    (names_of-slots (word / 2) (w / 2) cs
    (λ k lt one. sym (bit_at-suc w k) ∙ h (suc k) (omega arith) (bit_at-suc word k ∙ one)))
  where
    slot : List (Option CellState) → Option CellState → List (Option CellState)
    slot rest o = o ∷ rest

    by : (b : Bool) → (word % 2 == 1) ≡ b → names_of (at_bits (word / 2) (slots_of (w / 2) cs))
        ≡ names_in (at_bits (word / 2) cs)
        → names_of (cond b ((if w % 2 == 1 then Some (state_of c) else None) ∷ at_bits (word / 2) (slots_of (w / 2) cs))
        (at_bits (word / 2) (slots_of (w / 2) cs)))
        ≡ names_in (cond b (c ∷ at_bits (word / 2) cs) (at_bits (word / 2) cs))
    by false e rest = rest
    by true e rest =
        let one : w % 2 ≡ 1 = sym (bit_at_lowest w) ∙ h 0 (omega arith) (bit_at_lowest word ∙ eqb-true _ _ e) in
        ap (λ n. names_of ((if n == 1 then Some (state_of c) else None) ∷ at_bits (word / 2) (slots_of (w / 2) cs))) one
        ∙ ap (λ ns. (state_of c).name ∷ ns) rest

-- the names of the cells of an arena
pub names_of-stored : (hs : List Head) (cs : List Cell) (arenas : List Arena) (i word : ℕ) (names : List Name)
    → AreStored hs cs → arenas_of hs cs ≡ arenas → i < length arenas
    → IsSomeAnd (slice_get arenas i) (λ a. IsWithin word (alloc_word_of a.slots))
    → names ≡ names_in (at_bits word (cells_in i cs))
    → IsSomeAnd (slice_get arenas i) (λ a. names ≡ names_of (at_bits word a.slots))
names_of-stored hs cs arenas i word names stored e lt within read =
    let inside = in_heads hs cs arenas i e lt in
    let h = get_or hs i no_head in
    let c = cells_in i cs in
    let long : length c ≡ 64 = long_at hs cs i stored inside in
    let here : slice_get arenas i ≡ Some (arena_of h c) = ap (λ as'. slice_get as' i) (sym e)
    ∙ slice_get-arenas_of hs cs i no_head inside in
    let bits : IsWithin word (alloc_word_of (slots_of h.alloc_word c)) =
    subst (λ (o : Option Arena). IsSomeAnd o (λ a. IsWithin word (alloc_word_of a.slots))) here within in
    let fits : h.alloc_word < 2 ^ length c = rw long (stored.words i no_head inside) in
    let all = alloc_word_of-slots_of h.alloc_word c fits in
    subst (λ (o : Option Arena). IsSomeAnd o (λ a. names ≡ names_of (at_bits word a.slots))) (sym here)
    (read ∙ sym (names_of-slots word h.alloc_word c
    (λ k less one. ap (λ v. bit_at v k) (sym all) ∙ bits k (omega arith) one)))
