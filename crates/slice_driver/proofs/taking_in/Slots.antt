-- The slots of an arena that comes back from sweeping, and the names that it frees.
use Rattle.std.proofs.Common.{◌≡◌, ◌==◌, ◌&&◌, ◌/◌, ◌%◌, ◌<◌, ◌-◌, ℕ, zero, suc, Bool, true, false, not, cond, inl, inr}
use Rattle.std.proofs.Common.{refl, sym, ap, ◌∙◌, subst, arith, eqb-true, eq-eqb, min, max, bit_or, w64, Option, None}
use Rattle.std.proofs.Common.{Some, is_some, List, [], ◌∷◌, Contains, length}
use Rattle.std.specs.Int.{bit_at, bit_not}
use Rattle.std.specs.List.{AllByRecursion, IsDistinct}
use Rattle.std.proofs.lemmas.Nat.Bits.{bit_at_and, bit_at_lowest, bit_at_not, bit_at_or, bit_at-lt, bit_at-suc}
use Rattle.gz_names.specs.Order.{same_name}
use Rattle.gz_names.specs.declared.names.Name.{Name}
use Rattle.cell_bits.specs.Colours.{white_mask_of}
use Rattle.cell_bits.specs.declared.bits.Bits.{Bits}
use Rattle.arena_table.specs.Cells.{CellState}
use Rattle.arena_table.specs.Slots.{alloc_word_of, at_bits, bit_of, cell_in, names_of, without_freed}
use Rattle.arena_table.proofs.Placing.{bit_at-alloc_word}
use Rattle.colour_defs.proofs.Lists.{contains_cases, contains_head, contains_tail, nothing_in_none}
use Rattle.colour_defs.proofs.Names.{same_name-is}
use Rattle.heap_core.specs.Shape.{is_white, present_in}
use Rattle.slice_driver.specs.Sweeping.{FitsWords}

pub cell_in_freed : (freed : ℕ) (slots : List (Option CellState)) (i : ℕ) → cell_in (without_freed freed slots) i
    ≡ cond (bit_at freed i == 1) None (cell_in slots i)
cell_in_freed freed [] i = by (bit_at freed i == 1)
  where
    by : (b : Bool) → cell_in [] i ≡ cond b None (cell_in [] i)
    by true = refl
    by false = refl
cell_in_freed freed (o ∷ slots) zero = ap (λ n. cond (n == 1) None o) (sym (bit_at_lowest freed))
cell_in_freed freed (o ∷ slots) (suc i) = cell_in_freed (freed / 2) slots i
    ∙ ap (λ n. cond (n == 1) None (cell_in slots i)) (sym (bit_at-suc freed i))

pub length_freed : (freed : ℕ) (slots : List (Option CellState)) → length (without_freed freed slots) ≡ length slots
length_freed freed [] = refl
length_freed freed (o ∷ slots) = ap suc (length_freed (freed / 2) slots)

-- a slot of the freed word: a cell stands there, and it was white at hand-out
freed_bit : (bits : Bits) (slots : List (Option CellState)) (i : ℕ) → FitsWords bits → i < 64
    → (bit_at (white_mask_of bits (alloc_word_of slots)) i == 1) ≡ (is_some (cell_in slots i) && is_white bits i)
freed_bit bits slots i fits lt =
    ap (λ n. n == 1) (bit_at_and (alloc_word_of slots) (bit_not w64 (bit_or bits.black bits.gob)) i
    ∙ ap (λ n. min n (bit_at (bit_not w64 (bit_or bits.black bits.gob)) i)) (bit_at-alloc_word slots i)
    ∙ ap (λ n. min (bit_of (is_some (cell_in slots i))) n) (bit_at_not w64 (bit_or bits.black bits.gob) i fits lt
    ∙ ap (λ n. 1 - n) (bit_at_or bits.black bits.gob i))) ∙ by (is_some (cell_in slots i)) (bit_at bits.black i == 1)
    (bit_at bits.gob i == 1) refl refl
  where
    zero_if : (n : ℕ) → n < 2 → (n == 1) ≡ false → n ≡ 0
    zero_if zero lt e = refl
    zero_if (suc zero) lt e = absurd (cc e)
    zero_if (suc (suc n)) lt e = absurd (omega arith)

    value : (n : ℕ) (b : Bool) → n < 2 → (n == 1) ≡ b → n ≡ bit_of b
    value n true lt e = eqb-true n 1 e
    value n false lt e = zero_if n lt e

    at : (s b g : Bool) → (min (bit_of s) (1 - max (bit_of b) (bit_of g)) == 1) ≡ (s && (not b && not g))
    at true true true = refl
    at true true false = refl
    at true false true = refl
    at true false false = refl
    at false true true = refl
    at false true false = refl
    at false false true = refl
    at false false false = refl

    by : (s b g : Bool) → (bit_at bits.black i == 1) ≡ b → (bit_at bits.gob i == 1) ≡ g
        → (min (bit_of s) (1 - max (bit_at bits.black i) (bit_at bits.gob i)) == 1)
        ≡ (s && (not (bit_at bits.black i == 1) && not (bit_at bits.gob i == 1)))
    by s b g e f = ap (λ n. min (bit_of s) (1 - max n (bit_at bits.gob i)) == 1)
        (value (bit_at bits.black i) b (bit_at-lt bits.black i) e)
        ∙ ap (λ n. min (bit_of s) (1 - max (bit_of b) n) == 1) (value (bit_at bits.gob i) g (bit_at-lt bits.gob i) f)
        ∙ at s b g ∙ ap (λ t. s && (not t && not g)) (sym e) ∙ ap (λ t. s && (not (bit_at bits.black i == 1) && not t))
        (sym f)

-- past the slots of an arena there is no cell
cell_past : (slots : List (Option CellState)) (i : ℕ) → length slots ≡ 64 → (i < 64 → ⊥) → cell_in slots i ≡ None
cell_past slots i whole past = go slots i (omega (arith, whole))
  where
    go : (slots : List (Option CellState)) (i : ℕ) → (i < length slots → ⊥) → cell_in slots i ≡ None
    go [] i past = refl
    go (o ∷ slots) zero past = absurd (past (omega arith))
    go (o ∷ slots) (suc i) past = go slots i (λ lt. past (omega arith))

-- exactly the cells that were not white at hand-out are left
pub left_in : (bits : Bits) (slots : List (Option CellState)) (freed i : ℕ) → FitsWords bits → length slots ≡ 64
    → freed ≡ white_mask_of bits (alloc_word_of slots) → cell_in (without_freed freed slots) i
    ≡ present_in (Some bits) slots i
left_in bits slots freed i fits whole e = elim (Rattle.std.proofs.lemmas.Bool.cases_lt i 64) [
  | inl lt ↦ cell_in_freed freed slots i
      ∙ ap (λ b. cond b None (cell_in slots i)) (ap (λ n. bit_at n i == 1) e ∙ freed_bit bits slots i fits lt)
      ∙ same (cell_in slots i) (is_white bits i)
  | inr past ↦ (let none : cell_in slots i ≡ None = cell_past slots i whole (λ lt. omega arith) in
      cell_in_freed freed slots i ∙ ap (λ o. cond (bit_at freed i == 1) None o) none
      ∙ both (bit_at freed i == 1) (is_white bits i) ∙ ap (λ o. cond (is_white bits i) None o) (sym none))
]
  where
    same : (o : Option CellState) (t : Bool) → cond (is_some o && t) None o ≡ cond t None o
    same None true = refl
    same None false = refl
    same (Some x) t = refl

    both : (s t : Bool) → ◌≡◌ {A = Option CellState} (cond s None None) (cond t None None)
    both true true = refl
    both true false = refl
    both false true = refl
    both false false = refl

-- a cell at a freed slot was white, and a white cell's slot is freed
pub freed_white : (bits : Bits) (slots : List (Option CellState)) (freed i : ℕ) (cell : CellState) → FitsWords bits
    → length slots ≡ 64 → freed ≡ white_mask_of bits (alloc_word_of slots) → bit_at freed i ≡ 1
    → cell_in slots i ≡ Some cell → is_white bits i ≡ true
freed_white bits slots freed i cell fits whole e bit there = elim (Rattle.std.proofs.lemmas.Bool.cases_lt i 64) [
  | inl lt ↦ second (is_some (cell_in slots i)) (is_white bits i)
      (sym (ap (λ n. bit_at n i == 1) e ∙ freed_bit bits slots i fits lt) ∙ eq-eqb _ _ bit)
  | inr past ↦ absurd (cc (there, cell_past slots i whole (λ lt. omega arith)))
]
  where
    second : (a b : Bool) → (a && b) ≡ true → b ≡ true
    second true b h = h
    second false b h = absurd (cc h)

pub white_freed : (bits : Bits) (slots : List (Option CellState)) (freed i : ℕ) (cell : CellState) → FitsWords bits
    → length slots ≡ 64 → freed ≡ white_mask_of bits (alloc_word_of slots) → is_white bits i ≡ true
    → cell_in slots i ≡ Some cell → bit_at freed i ≡ 1
white_freed bits slots freed i cell fits whole e white there = elim (Rattle.std.proofs.lemmas.Bool.cases_lt i 64) [
  | inl lt ↦ eqb-true _ _ (ap (λ n. bit_at n i == 1) e ∙ freed_bit bits slots i fits lt
      ∙ ap (λ o. is_some o && is_white bits i) there ∙ white)
  | inr past ↦ absurd (cc (there, cell_past slots i whole (λ lt. omega arith)))
]

-- a cell at a slot of a word, by its name
pub record IsNamedAt (word : ℕ) (slots : List (Option CellState)) (x : Name) : Type 0 where
  pub slot : ℕ
  pub cell : CellState
  pub bit : bit_at word slot ≡ 1
  pub there : cell_in slots slot ≡ Some cell
  pub name_is : cell.name ≡ x

shifted : (word : ℕ) (o : Option CellState) (slots : List (Option CellState)) (x : Name) → IsNamedAt (word / 2) slots x
    → IsNamedAt word (o ∷ slots) x
shifted word o slots x n = record {
  slot = suc n.slot;
  cell = n.cell;
  bit = bit_at-suc word n.slot ∙ n.bit;
  there = n.there;
  name_is = n.name_is;
}

pub listed_named : (word : ℕ) (slots : List (Option CellState)) (x : Name) → Contains (names_of (at_bits word slots)) x
    → IsNamedAt word slots x
listed_named word [] x c = absurd (nothing_in_none x c)
listed_named word (o ∷ slots) x c = go (λ k. shifted word o slots x (listed_named (word / 2) slots x k)) o refl
    (word % 2 == 1) refl c
  where
    go : (Contains (names_of (at_bits (word / 2) slots)) x → IsNamedAt word (o ∷ slots) x) → (p : Option CellState)
        → o ≡ p → (b : Bool) → (word % 2 == 1) ≡ b
        → Contains (names_of (cond b (p ∷ at_bits (word / 2) slots) (at_bits (word / 2) slots))) x
        → IsNamedAt word (o ∷ slots) x
    go rest p at false e c = rest c
    go rest None at true e c = rest c
    go rest (Some cell) at true e c = elim (contains_cases cell.name (names_of (at_bits (word / 2) slots)) x c) [
      | inl is ↦ record { slot = 0; cell = cell; bit = bit_at_lowest word ∙ eqb-true _ _ e; there = at; name_is = is }
      | inr tail ↦ rest tail
    ]

pub named_listed : (word : ℕ) (slots : List (Option CellState)) (i : ℕ) (cell : CellState) → bit_at word i ≡ 1
    → cell_in slots i ≡ Some cell → Contains (names_of (at_bits word slots)) cell.name
named_listed word [] i cell bit there = absurd (cc there)
named_listed word (o ∷ slots) zero cell bit there = by (word % 2 == 1) (eq-eqb _ _ (sym (bit_at_lowest word) ∙ bit)) o
    there
  where
    by : (b : Bool) → b ≡ true → (p : Option CellState) → p ≡ Some cell
        → Contains (names_of (cond b (p ∷ at_bits (word / 2) slots) (at_bits (word / 2) slots))) cell.name
    by false e p at = absurd (cc e)
    by true e None at = absurd (cc at)
    by true e (Some d) at =
        (let same : d ≡ cell = cc at in
        subst (λ (z : CellState). Contains (d.name ∷ names_of (at_bits (word / 2) slots)) z.name) same
        (contains_head d.name (names_of (at_bits (word / 2) slots))))
named_listed word (o ∷ slots) (suc i) cell bit there =
    by (word % 2 == 1) o (named_listed (word / 2) slots i cell (sym (bit_at-suc word i) ∙ bit) there)
  where
    by : (b : Bool) (p : Option CellState) → Contains (names_of (at_bits (word / 2) slots)) cell.name
        → Contains (names_of (cond b (p ∷ at_bits (word / 2) slots) (at_bits (word / 2) slots))) cell.name
    by false p k = k
    by true None k = k
    by true (Some d) k = contains_tail d.name (names_of (at_bits (word / 2) slots)) cell.name k

-- no two cells at slots of a word have one name
abbrev pub AreNamedApart : ℕ → List (Option CellState) → Type 0
AreNamedApart word slots = (i j : ℕ) (c d : CellState) → bit_at word i ≡ 1 → bit_at word j ≡ 1
    → cell_in slots i ≡ Some c → cell_in slots j ≡ Some d → c.name ≡ d.name → i ≡ j

pub names_distinct : (word : ℕ) (slots : List (Option CellState)) → AreNamedApart word slots
    → IsDistinct same_name (names_of (at_bits word slots))
unfolding IsDistinct
names_distinct word [] apart = tt
names_distinct word (o ∷ slots) apart =
    by (names_distinct (word / 2) slots
    (λ i j c d bi bj ci cj e.
    back i j (apart (suc i) (suc j) c d (bit_at-suc word i ∙ bi) (bit_at-suc word j ∙ bj) ci cj e))) o refl
    (word % 2 == 1) refl
  where
    back : (i j : ℕ) → suc i ≡ suc j → i ≡ j
    back i j e = omega arith

    not_true : (b : Bool) → (b ≡ true → ⊥) → b ≡ false
    not_true true h = absurd (h refl)
    not_true false h = refl

    others : (x : Name) (xs : List Name) → ((y : Name) → Contains xs y → same_name x y ≡ true → ⊥)
        → AllByRecursion (λ y. same_name x y ≡ false) xs
    others x [] h = tt
    others x (y ∷ ys) h =
        (not_true (same_name x y) (h y (contains_head y ys)), others x ys (λ z c. h z (contains_tail y ys z c)))

    by : IsDistinct same_name (names_of (at_bits (word / 2) slots)) → (p : Option CellState) → o ≡ p → (b : Bool)
        → (word % 2 == 1) ≡ b
        → IsDistinct same_name (names_of (cond b (p ∷ at_bits (word / 2) slots) (at_bits (word / 2) slots)))
    by rest p at false e = rest
    by rest None at true e = rest
    by rest (Some c) at true e = (
      others c.name (names_of (at_bits (word / 2) slots)) (λ y k same. (
          let n = listed_named (word / 2) slots y k in
          let zero_is : 0 ≡ suc n.slot = apart 0 (suc n.slot) c n.cell (bit_at_lowest word ∙ eqb-true _ _ e)
          (bit_at-suc word n.slot ∙ n.bit) at n.there (same_name-is c.name y same ∙ sym n.name_is) in
          omega arith)),
      rest,
    )
