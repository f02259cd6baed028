-- Arenas by their heads and the cells of all.
use Rattle.std.proofs.Common.{◌≡◌, ◌<◌, ◌≤◌, ◌^◌, ◌==◌, Bool, true, false, if◌then◌else◌, IsSome, IsSomeAnd, ℕ, zero}
use Rattle.std.proofs.Common.{suc, List, [], ◌∷◌, ◌++◌, length, get_or, set, take, drop, Option, Some, None, slice_get}
use Rattle.std.proofs.Common.{refl, sym, ◌∙◌, ap, subst, arith, length-set, length-append, length-drop, replicate, ◌+◌}
use Rattle.std.proofs.Common.{All, bit_or, bit_and, w64, ◌*◌, ◌%◌}
use Rattle.std.proofs.lemmas.List.{set-get_or, get_or_default, get_or-take, get_or-drop, drop-drop, length-take-le}
use Rattle.std.proofs.lemmas.List.{take_all, take-append-le, drop-append-le, take-set-le, drop-set-lt, drop-set-add}
use Rattle.std.proofs.lemmas.List.{length-replicate}
use Rattle.std.proofs.lemmas.List.Elements.{All-cons, All-nil, All-set, All-push}
use Rattle.std.proofs.lemmas.Nat.Bits.{bit_at_set_same, bit_at_set_other}
use Rattle.std.specs.Int.{bit_at, bit_not}
use Rattle.std.specs.Option.{option_and_then}
use Rattle.gz_names.specs.declared.numbers.Place.{Place}
use Rattle.cell_bits.specs.declared.bits.Bits.{Bits}
use Rattle.arena_table.specs.Cells.{CellState, state_of}
use Rattle.arena_table.specs.Slots.{Arena, change_at, change_cell, cell_at, cell_in, with_cell, taken_in, empty_arena}
use Rattle.arena_table.specs.Slots.{no_zone}
use Rattle.arena_table.specs.Stored.{arena_of, arenas_of, AreStored, IsHeadOf}
use Rattle.arena_table.proofs.Fields.{take-set_within}
use Rattle.arena_table.proofs.SlotBits.{length-slots_of, cell_in-slots_of, alloc_word_of-slots_of, slots_of-put}
use Rattle.arena_table.proofs.SlotBits.{slots_of-change, slots_of-freed, slots_of-zero, bit_at-minus}
use Rattle.arena_table.specs.declared.cells.Cell.{Cell}
use Rattle.arena_table.specs.declared.store.Head.{Head}

-- the cells of an arena among those of all
abbrev pub cells_in : ℕ → List Cell → List Cell
cells_in i cs = take 64 (drop (64 * i) cs)

cells_in-suc : (i : ℕ) (cs : List Cell) → cells_in i (drop 64 cs) ≡ cells_in (suc i) cs
cells_in-suc i cs =
    let past : 64 + 64 * i ≡ 64 * suc i = omega arith in
    ap (take 64) (drop-drop (64 * i) 64 cs ∙ ap (λ n. drop n cs) past)

pub length-cells_in : (i : ℕ) (cs : List Cell) → 64 * suc i ≤ length cs → length (cells_in i cs) ≡ 64
length-cells_in i cs le = length-take-le 64 (drop (64 * i) cs) (omega (arith, length-drop (64 * i) cs))

get_or-cells_in : (i s : ℕ) (cs : List Cell) (d : Cell) → s < 64 → get_or (cells_in i cs) s d ≡ get_or cs (64 * i + s) d
get_or-cells_in i s cs d lt = get_or-take 64 (drop (64 * i) cs) s d lt ∙ get_or-drop (64 * i) cs s d

pub length-arenas_of : (hs : List Head) (cs : List Cell) → length (arenas_of hs cs) ≡ length hs
length-arenas_of [] cs = refl
length-arenas_of (h ∷ hs) cs = ap suc (length-arenas_of hs (drop 64 cs))

pub slice_get-arenas_of : (hs : List Head) (cs : List Cell) (i : ℕ) (h : Head) → i < length hs
    → slice_get (arenas_of hs cs) i ≡ Some (arena_of (get_or hs i h) (cells_in i cs))
slice_get-arenas_of [] cs i h lt = absurd (omega arith)
slice_get-arenas_of (x ∷ hs) cs zero h lt = refl
slice_get-arenas_of (x ∷ hs) cs (suc i) h lt =
    slice_get-arenas_of hs (drop 64 cs) i h (omega arith)
    ∙ ap (λ c. Some (arena_of (get_or hs i h) c)) (cells_in-suc i cs)

pub arenas_of-push : (hs : List Head) (cs more : List Cell) (h : Head) → length cs ≡ 64 * length hs
    → length more ≡ 64 → arenas_of (hs ++ h ∷ []) (cs ++ more) ≡ arenas_of hs cs ++ arena_of h more ∷ []
arenas_of-push [] [] more h whole long = ap (λ c. arena_of h c ∷ []) (take_all 64 more (omega arith))
arenas_of-push [] (c ∷ cs) more h whole long = absurd (omega arith)
arenas_of-push (x ∷ hs) cs more h whole long =
    let shorter : length (drop 64 cs) ≡ 64 * length hs = omega (arith, length-drop 64 cs) in
    ap (λ c. arena_of x c ∷ arenas_of (hs ++ h ∷ []) (drop 64 (cs ++ more))) (take-append-le 64 cs more (omega arith))
    ∙ ap (λ rest. arena_of x (take 64 cs) ∷ rest)
    (ap (arenas_of (hs ++ h ∷ [])) (drop-append-le 64 cs more (omega arith))
    ∙ arenas_of-push hs (drop 64 cs) more h shorter long)

-- one arena is changed, in its head and in a cell
pub arenas_of-changed : (hs : List Head) (cs : List Cell) (i s j : ℕ) (h k : Head) (c : List Cell) (x : Cell)
    (f : Arena → Arena) → i < length hs → s < 64 → j ≡ 64 * i + s → h ≡ get_or hs i h → c ≡ cells_in i cs
    → arena_of k (set c s x) ≡ f (arena_of h c) → arenas_of (set hs i k) (set cs j x) ≡ change_at f (arenas_of hs cs) i
arenas_of-changed [] cs i s j h k c x f lt slot at read cells same = absurd (omega arith)
arenas_of-changed (y ∷ hs) cs zero s j h k c x f lt slot at read cells same =
    let here : j ≡ s = omega arith in
    ap (λ n. arenas_of (k ∷ hs) (set cs n x)) here
    ∙ (ap (λ d. arena_of k d ∷ arenas_of hs (drop 64 (set cs s x)))
    (take-set_within 64 cs s x ∙ ap (λ d. set d s x) (sym cells))
    ∙ (ap (λ d. arena_of k (set c s x) ∷ arenas_of hs d) (drop-set-lt 64 cs s x slot)
    ∙ ap (λ a. a ∷ arenas_of hs (drop 64 cs)) (same ∙ (ap (λ z. f (arena_of z c)) read
    ∙ ap (λ d. f (arena_of y d)) cells))))
arenas_of-changed (y ∷ hs) cs (suc i) s j h k c x f lt slot at read cells same =
    let later : j ≡ 64 + (64 * i + s) = omega arith in
    ap (λ d. arena_of y d ∷ arenas_of (set hs i k) (drop 64 (set cs j x))) (take-set-le 64 cs j x (omega arith))
    ∙ ap (λ rest. arena_of y (take 64 cs) ∷ rest)
    (ap (arenas_of (set hs i k)) (ap (λ n. drop 64 (set cs n x)) later ∙ drop-set-add 64 cs (64 * i + s) x)
    ∙ arenas_of-changed hs (drop 64 cs) i s (64 * i + s) h k c x f (omega arith) slot refl read
    (cells ∙ sym (cells_in-suc i cs)) same)

abbrev pub no_head : Head
no_head = record {
  alloc_word = 0;
  bits = record { black = 0; gob = 0 };
  zone = 0;
  is_out = false;
  is_given_up = false;
}

-- a number of an arena is one of a head
pub in_heads : (hs : List Head) (cs : List Cell) (arenas : List Arena) (i : ℕ) → arenas_of hs cs ≡ arenas
    → i < length arenas → i < length hs
in_heads hs cs arenas i e lt = omega (arith, length-arenas_of hs cs, ap length e)

-- a slot of an arena is one of a cell
pub in_cells : (hs : List Head) (cs : List Cell) (arenas : List Arena) (i s : ℕ) → AreStored hs cs
    → arenas_of hs cs ≡ arenas → i < length arenas → s < 64 → 64 * i + s < length cs
in_cells hs cs arenas i s stored e lt slot = (let within = in_heads hs cs arenas i e lt in omega (arith, stored.whole))

-- the cells of an arena are 64
pub long_at : (hs : List Head) (cs : List Cell) (i : ℕ) → AreStored hs cs → i < length hs → length (cells_in i cs) ≡ 64
long_at hs cs i stored lt = length-cells_in i cs (omega (arith, stored.whole))

-- where a cell stands there is an arena
pub cell_at-within : (arenas : List Arena) (p : Place) → IsSome (cell_at arenas p) → p.0 < length arenas
cell_at-within arenas (a, s) h = by arenas a h
  where
    by : (xs : List Arena) (i : ℕ) → IsSome (option_and_then (λ (x : Arena). cell_in x.slots s) (slice_get xs i))
        → i < length xs
    by [] i k = absurd (cc)
    by (x ∷ xs) zero k = omega arith
    by (x ∷ xs) (suc i) k = (let rest = by xs i k in omega arith)

-- the cell at a place, by its head and the cells
pub cell_at-stored : (hs : List Head) (cs : List Cell) (p : Place) (h : Head) (d : Cell) → AreStored hs cs
    → p.0 < length hs → p.1 < 64 → cell_at (arenas_of hs cs) p
    ≡ (if bit_at (get_or hs p.0 h).alloc_word p.1 == 1 then Some (state_of (get_or cs (64 * p.0 + p.1) d)) else None)
cell_at-stored hs cs p h d stored lt slot =
    let long = long_at hs cs p.0 stored lt in
    ap (option_and_then (λ (x : Arena). cell_in x.slots p.1)) (slice_get-arenas_of hs cs p.0 h lt)
    ∙ (cell_in-slots_of (get_or hs p.0 h).alloc_word (cells_in p.0 cs) p.1 d (omega arith)
    ∙ ap (λ (c : Cell). if bit_at (get_or hs p.0 h).alloc_word p.1 == 1 then Some (state_of c) else None)
    (get_or-cells_in p.0 p.1 cs d slot))

some-from_if : {X : Type 0} (b : Bool) (x : X) → IsSome (if b then Some x else None)
    → (if b then Some x else None) ≡ Some x
some-from_if true x h = refl
some-from_if false x h = cc

pub cell-read : (hs : List Head) (cs : List Cell) (arenas : List Arena) (p : Place) (d : Cell) → AreStored hs cs
    → arenas_of hs cs ≡ arenas → p.1 < 64 → IsSome (cell_at arenas p)
    → cell_at arenas p ≡ Some (state_of (get_or cs (64 * p.0 + p.1) d))
cell-read hs cs arenas p d stored e slot some =
    let lt = in_heads hs cs arenas p.0 e (cell_at-within arenas p some) in
    let read = ap (λ as'. cell_at as' p) (sym e) ∙ cell_at-stored hs cs p no_head d stored lt slot in
    read ∙ some-from_if _ _ (subst IsSome read some)

-- what a head says
pub IsHeadOf-stored : (hs : List Head) (cs : List Cell) (arenas : List Arena) (i : ℕ) (h : Head) → AreStored hs cs
    → arenas_of hs cs ≡ arenas → i < length arenas → h ≡ get_or hs i h
    → IsSomeAnd (slice_get arenas i) (λ a. IsHeadOf a h)
IsHeadOf-stored hs cs arenas i h stored e lt read =
    let within = in_heads hs cs arenas i e lt in
    let long = long_at hs cs i stored within in
    let here : slice_get arenas i ≡ Some (arena_of h (cells_in i cs)) = ap (λ as'. slice_get as' i) (sym e)
    ∙ (slice_get-arenas_of hs cs i h within ∙ ap (λ x. Some (arena_of x (cells_in i cs))) (sym read)) in
    let word : (get_or hs i h).alloc_word < 18446744073709551616 = stored.words i h within in
    let fits : h.alloc_word < 2 ^ length (cells_in i cs) =
    rw long (subst (λ (x : Head). x.alloc_word < 18446744073709551616) (sym read) word) in
    rw here (record {
      zone = refl;
      is_out = refl;
      bits = refl;
      alloc_word = alloc_word_of-slots_of h.alloc_word (cells_in i cs) fits;
      whole = length-slots_of h.alloc_word (cells_in i cs) ∙ long;
    })

-- a cell is put: its bit is set in the head, and it is written
pub AreStored-put : (hs : List Head) (cs : List Cell) (i j : ℕ) (k : Head) (cell : Cell) → AreStored hs cs
    → k.alloc_word < 18446744073709551616 → AreStored (set hs i k) (set cs j cell)
AreStored-put hs cs i j k cell stored word = record {
  whole = length-set cs j cell ∙ (stored.whole ∙ ap (λ n. 64 * n) (sym (length-set hs i k)));
  words = All-set (λ (x : Head). x.alloc_word < 18446744073709551616) hs i k word stored.words;
  few = rw length-set stored.few;
}

pub arenas_of-put : (hs : List Head) (cs : List Cell) (arenas : List Arena) (a s j : ℕ) (h : Head) (cell : Cell)
    → AreStored hs cs → arenas_of hs cs ≡ arenas → a < length arenas → s < 64 → j ≡ 64 * a + s → h ≡ get_or hs a h
    → arenas_of (set hs a (record h { alloc_word = bit_or h.alloc_word (1 * 2 ^ s % 18446744073709551616) }))
    (set cs j cell) ≡ change_at (with_cell s (state_of cell)) arenas a
arenas_of-put hs cs arenas a s j h cell stored e lt slot at read =
    let within = in_heads hs cs arenas a e lt in
    let c = cells_in a cs in
    let long : length c ≡ 64 = long_at hs cs a stored within in
    let put = slots_of-put (bit_or h.alloc_word (1 * 2 ^ s % 18446744073709551616)) h.alloc_word c s cell (omega arith)
    (bit_at_set_same w64 h.alloc_word s slot) (λ k _ n. bit_at_set_other w64 h.alloc_word s slot k n) in
    arenas_of-changed hs cs a s j h _ c cell (with_cell s (state_of cell)) within slot at read refl
    (ap (λ (slots : List (Option CellState)). record {
      zone = if h.is_given_up then no_zone else h.zone;
      is_out = h.is_out;
      bits = h.bits;
      slots = slots;
    }) put) ∙ ap (λ xs. change_at (with_cell s (state_of cell)) xs a) e

-- the cell of a place among those of all arenas
pub record IsCellOf (hs : List Head) (cs : List Cell) (arenas : List Arena) (p : Place) (j : ℕ) : Type 0 where
  pub stored : AreStored hs cs
  pub arenas_are : arenas_of hs cs ≡ arenas
  pub made : p.0 < length arenas
  pub slot : p.1 < 64
  pub at : j ≡ 64 * p.0 + p.1

-- a cell is changed
pub arenas_of-cell : (hs : List Head) (cs : List Cell) (arenas : List Arena) (p : Place) (j : ℕ)
    (g : CellState → CellState) (cell d : Cell) → IsCellOf hs cs arenas p j
    → state_of cell ≡ g (state_of (get_or cs j d)) → arenas_of hs (set cs j cell)
    ≡ change_at (λ (a : Arena). record a { slots = change_at (change_cell g) a.slots p.1 }) arenas p.0
arenas_of-cell hs cs arenas p j g cell d is written =
    let within = in_heads hs cs arenas p.0 is.arenas_are is.made in
    let h = get_or hs p.0 no_head in
    let same : set hs p.0 h ≡ hs = set-get_or hs p.0 no_head in
    let read : h ≡ get_or hs p.0 h = get_or_default hs p.0 no_head h within in
    let c = cells_in p.0 cs in
    let long : length c ≡ 64 = long_at hs cs p.0 is.stored within in
    let slot = is.slot in
    let there : get_or cs j d ≡ get_or c p.1 d =
    ap (λ n. get_or cs n d) is.at ∙ sym (get_or-cells_in p.0 p.1 cs d slot) in
    let changed = slots_of-change h.alloc_word c p.1 cell d g (omega arith)
    (written ∙ ap (λ (x : Cell). g (state_of x)) there) in
    let change = λ (a : Arena). record a { slots = change_at (change_cell g) a.slots p.1 } in
    ap (λ xs. arenas_of xs (set cs j cell)) (sym same)
    ∙ (arenas_of-changed hs cs p.0 p.1 j h h c cell change within slot is.at read refl
    (ap (λ (slots : List (Option CellState)). record {
      zone = if h.is_given_up then no_zone else h.zone;
      is_out = h.is_out;
      bits = h.bits;
      slots = slots;
    }) changed) ∙ ap (λ xs. change_at change xs p.0) is.arenas_are)

-- a cell is kept otherwise, but is the same
change_at-kept : {X : Type 0} (f : X → X) → ((x : X) → f x ≡ x) → (xs : List X) (i : ℕ) → change_at f xs i ≡ xs
change_at-kept f same [] i = refl
change_at-kept f same (x ∷ xs) zero = ap (λ y. y ∷ xs) (same x)
change_at-kept f same (x ∷ xs) (suc i) = ap (λ ys. x ∷ ys) (change_at-kept f same xs i)

pub arenas_of-kept : (hs : List Head) (cs : List Cell) (arenas : List Arena) (p : Place) (j : ℕ) (cell d : Cell)
    → IsCellOf hs cs arenas p j → state_of cell ≡ state_of (get_or cs j d) → arenas_of hs (set cs j cell) ≡ arenas
arenas_of-kept hs cs arenas p j cell d is same =
    arenas_of-cell hs cs arenas p j (λ x. x) cell d is same
    ∙ change_at-kept _ (λ (a : Arena). ap (λ (slots : List (Option CellState)). record a { slots = slots })
    (change_at-kept (change_cell (λ x. x)) cell_kept a.slots p.1)) arenas p.0
  where
    cell_kept : (o : Option CellState) → change_cell (λ x. x) o ≡ o
    cell_kept None = refl
    cell_kept (Some x) = refl

-- an arena is changed in its head alone
pub arenas_of-headed : (hs : List Head) (cs : List Cell) (arenas : List Arena) (i : ℕ) (h k : Head)
    (f : Arena → Arena) → AreStored hs cs → arenas_of hs cs ≡ arenas → i < length arenas → h ≡ get_or hs i h
    → ((c : List Cell) → length c ≡ 64 → arena_of k c ≡ f (arena_of h c))
    → arenas_of (set hs i k) cs ≡ change_at f arenas i
arenas_of-headed hs cs arenas i h k f stored e lt read same =
    let within = in_heads hs cs arenas i e lt in
    let long = long_at hs cs i stored within in
    by hs cs i within read (same (cells_in i cs) long) ∙ ap (λ xs. change_at f xs i) e
  where
    by : (hs : List Head) (cs : List Cell) (i : ℕ) → i < length hs → h ≡ get_or hs i h
        → arena_of k (cells_in i cs) ≡ f (arena_of h (cells_in i cs))
        → arenas_of (set hs i k) cs ≡ change_at f (arenas_of hs cs) i
    by [] cs i lt read same = absurd (omega arith)
    by (y ∷ hs) cs zero lt read same =
        ap (λ a. a ∷ arenas_of hs (drop 64 cs)) (same ∙ ap (λ z. f (arena_of z (take 64 cs))) read)
    by (y ∷ hs) cs (suc i) lt read same =
        ap (λ rest. arena_of y (take 64 cs) ∷ rest)
        (by hs (drop 64 cs) i (omega arith) read
        (subst (λ c. arena_of k c ≡ f (arena_of h c)) (sym (cells_in-suc i cs)) same))

-- the slots of a head that comes back from sweeping
pub arena_of-taken : (h : Head) (freed : ℕ) (bits : Bits) (c : List Cell) → freed < 2 ^ 64 → length c ≡ 64
    → arena_of (record {
      alloc_word = bit_and h.alloc_word (bit_not w64 freed);
      bits = bits;
      zone = h.zone;
      is_out = false;
      is_given_up = h.is_given_up;
    }) c ≡ taken_in freed bits (arena_of h c)
arena_of-taken h freed bits c fits long =
    ap (λ (slots : List (Option CellState)). record {
      zone = if h.is_given_up then no_zone else h.zone;
      is_out = false;
      bits = bits;
      slots = slots;
    })
    (slots_of-freed (bit_and h.alloc_word (bit_not w64 freed)) h.alloc_word freed c
    (λ k lt. bit_at-minus h.alloc_word freed k fits (omega arith)))

-- an arena without cells is made
pub AreStored-push : (hs : List Head) (cs : List Cell) (h : Head) (cell : Cell) → AreStored hs cs
    → h.alloc_word < 18446744073709551616 → length hs < 67108863
    → AreStored (hs ++ h ∷ []) (cs ++ replicate 64 cell)
AreStored-push hs cs h cell stored word few =
    let longer = length-append hs (h ∷ []) in record {
      whole = omega (arith, length-append cs (replicate 64 cell), length-replicate 64 cell, stored.whole);
      words = All-push (λ (x : Head). x.alloc_word < 18446744073709551616) hs h stored.words word;
      few = omega arith;
    }

-- the head of an arena that is made
abbrev pub new_head : ℕ → Head
new_head zone = record {
  alloc_word = 0;
  bits = record { black = 0; gob = 0 };
  zone = zone;
  is_out = false;
  is_given_up = false;
}

pub arenas_of-empty : (hs : List Head) (cs : List Cell) (arenas : List Arena) (zone : ℕ) (cell : Cell)
    → AreStored hs cs → arenas_of hs cs ≡ arenas
    → arenas_of (hs ++ new_head zone ∷ []) (cs ++ replicate 64 cell) ≡ arenas ++ empty_arena zone ∷ []
arenas_of-empty hs cs arenas zone cell stored e =
    arenas_of-push hs cs (replicate 64 cell) _ stored.whole (length-replicate 64 cell)
    ∙ (ap (λ xs. xs ++ arena_of (new_head zone) (replicate 64 cell) ∷ []) e
    ∙ ap (λ (slots : List (Option CellState)). arenas
    ++ record { zone = zone; is_out = false; bits = record { black = 0; gob = 0 }; slots = slots } ∷ [])
    (slots_of-zero 64 cell))

pub is_some-from : {X : Type 0} (P : X → Type 0) (o : Option X) → IsSomeAnd o P → IsSome o
is_some-from P None h = absurd h
is_some-from P (Some x) h = refl

-- each arena has 64 slots
whole-arenas : (hs : List Head) (cs : List Cell) → length cs ≡ 64 * length hs
    → All (λ (a : Arena). length a.slots ≡ 64) (arenas_of hs cs)
whole-arenas [] cs long = All-nil (λ (a : Arena). length a.slots ≡ 64)
whole-arenas (h ∷ hs) cs long =
    All-cons (λ (a : Arena). length a.slots ≡ 64) (arena_of h (take 64 cs)) (arenas_of hs (drop 64 cs))
    (length-slots_of h.alloc_word (take 64 cs) ∙ length-take-le 64 cs (omega (arith, long)))
    (whole-arenas hs (drop 64 cs) (let rest = length-drop 64 cs in omega (arith, long, rest)))

pub whole-stored : (hs : List Head) (cs : List Cell) (arenas : List Arena) → AreStored hs cs → arenas_of hs cs ≡ arenas
    → All (λ (a : Arena). length a.slots ≡ 64) arenas
whole-stored hs cs arenas stored is =
    subst (All (λ (a : Arena). length a.slots ≡ 64)) is (whole-arenas hs cs stored.whole)
