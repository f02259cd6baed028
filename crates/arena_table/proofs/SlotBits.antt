-- Slots by the bits of a word.
use Rattle.std.proofs.Common.{◌≡◌, ◌≢◌, ◌<◌, ◌+◌, ◌*◌, ◌/◌, ◌%◌, ◌^◌, ◌-◌, ◌==◌, ℕ, zero, suc, Bool, true, false, cond}
use Rattle.std.proofs.Common.{if◌then◌else◌, List, [], ◌∷◌, length, get_or, set, replicate, Some, None, is_some}
use Rattle.std.proofs.Common.{pow-suc, eqb-true, eq-eqb, refl, sym, ◌∙◌, ap, arith, bit_and, w64}
use Rattle.std.proofs.lemmas.Bool.{false≢true}
use Rattle.std.proofs.lemmas.Bool.Decides.{nat_tests}
use Rattle.std.proofs.lemmas.Nat.Bits.{bit_at_lowest, bit_at-suc, bit_at-lt, bit_at_and, bit_at_not}
use Rattle.std.specs.Int.{bit_at, bit_not}
use Rattle.arena_table.specs.Cells.{CellState, state_of}
use Rattle.arena_table.specs.Slots.{cell_in, alloc_word_of, without_freed, change_at, change_cell}
use Rattle.arena_table.specs.Stored.{slots_of}
use Rattle.arena_table.specs.declared.cells.Cell.{Cell}

pub length-slots_of : (w : ℕ) (cs : List Cell) → length (slots_of w cs) ≡ length cs
length-slots_of w [] = refl
length-slots_of w (c ∷ cs) = ap suc (length-slots_of (w / 2) cs)

-- the cell of a slot
pub cell_in-slots_of : (w : ℕ) (cs : List Cell) (s : ℕ) (d : Cell) → s < length cs
    → cell_in (slots_of w cs) s ≡ (if bit_at w s == 1 then Some (state_of (get_or cs s d)) else None)
cell_in-slots_of w [] s d h = absurd (omega arith)
cell_in-slots_of w (c ∷ cs) zero d h = by (w % 2 == 1) (ap (λ b. b == 1) (bit_at_lowest w))
  where
    by : (b : Bool) → (bit_at w 0 == 1) ≡ b → cell_in (cond b (Some (state_of c)) None ∷ slots_of (w / 2) cs) 0
        ≡ (if bit_at w 0 == 1 then Some (state_of c) else None)
    by true e = sym (ap (λ x. cond x (Some (state_of c)) None) e)
    by false e = sym (ap (λ x. cond x (Some (state_of c)) None) e)
cell_in-slots_of w (c ∷ cs) (suc s) d h =
    cell_in-slots_of (w / 2) cs s d (omega arith) ∙ ap (λ b. if b == 1 then Some (state_of (get_or cs s d)) else None)
    (sym (bit_at-suc w s))

-- the word of the slots
pub alloc_word_of-slots_of : (w : ℕ) (cs : List Cell) → w < 2 ^ length cs → alloc_word_of (slots_of w cs) ≡ w
alloc_word_of-slots_of w [] h = (let none : w < 1 = h in omega arith)
alloc_word_of-slots_of w (c ∷ cs) h =
    let twice : 2 ^ suc (length cs) ≡ 2 ^ length cs * 2 = pow-suc 2 (length cs) in
    let long : w < 2 ^ suc (length cs) = h in
    let half : w / 2 < 2 ^ length cs = omega arith in
    let rest = alloc_word_of-slots_of (w / 2) cs half in
    by (w % 2 == 1) refl rest
  where
    by : (b : Bool) → (w % 2 == 1) ≡ b → alloc_word_of (slots_of (w / 2) cs) ≡ w / 2
        → (if is_some (cond b (Some (state_of c)) None) then 1 else 0) + 2 * alloc_word_of (slots_of (w / 2) cs) ≡ w
    by true e rest = (let odd : w % 2 ≡ 1 = eqb-true _ _ e in omega arith)
    by false e rest = (let even : w % 2 ≢ 1 = λ f. false≢true (sym e ∙ eq-eqb _ _ f) in omega arith)

pub slots_of-zero : (n : ℕ) (c : Cell) → slots_of 0 (replicate n c) ≡ replicate n None
slots_of-zero zero c = refl
slots_of-zero (suc n) c = ap (λ xs. None ∷ xs) (slots_of-zero n c)

-- two words with the same bits make the same slots
lowest : (v w : ℕ) → bit_at v 0 ≡ bit_at w 0 → (v % 2 == 1) ≡ (w % 2 == 1)
lowest v w e = ap (λ b. b == 1) (sym (bit_at_lowest v) ∙ (e ∙ bit_at_lowest w))

shifted : (v w k : ℕ) → bit_at v (suc k) ≡ bit_at w (suc k) → bit_at (v / 2) k ≡ bit_at (w / 2) k
shifted v w k e = sym (bit_at-suc v k) ∙ (e ∙ bit_at-suc w k)

pub slots_of-same : (v w : ℕ) (cs : List Cell) → ((k : ℕ) → k < length cs → bit_at v k ≡ bit_at w k)
    → slots_of v cs ≡ slots_of w cs
slots_of-same v w [] bits = refl
slots_of-same v w (c ∷ cs) bits =
    ap (λ b. (if b then Some (state_of c) else None) ∷ slots_of (v / 2) cs) (lowest v w (bits 0 (omega arith)))
    ∙ ap (λ xs. (if w % 2 == 1 then Some (state_of c) else None) ∷ xs)
    (slots_of-same (v / 2) (w / 2) cs (λ k lt. shifted v w k (bits (suc k) (omega arith))))

-- a cell is put into a slot
pub slots_of-put : (v w : ℕ) (cs : List Cell) (s : ℕ) (c : Cell) → s < length cs → bit_at v s ≡ 1
    → ((k : ℕ) → k < length cs → k ≢ s → bit_at v k ≡ bit_at w k)
    → slots_of v (set cs s c) ≡ set (slots_of w cs) s (Some (state_of c))
slots_of-put v w [] s c h one bits = absurd (omega arith)
slots_of-put v w (x ∷ cs) zero c h one bits =
    ap (λ b. (if b == 1 then Some (state_of c) else None) ∷ slots_of (v / 2) cs) (sym (bit_at_lowest v) ∙ one)
    ∙ ap (λ xs. Some (state_of c) ∷ xs)
    (slots_of-same (v / 2) (w / 2) cs (λ k lt. shifted v w k (bits (suc k) (omega arith) (omega arith))))
slots_of-put v w (x ∷ cs) (suc s) c h one bits =
    ap (λ b. (if b then Some (state_of x) else None) ∷ slots_of (v / 2) (set cs s c))
    (lowest v w (bits 0 (omega arith) (omega arith)))
    ∙ ap (λ xs. (if w % 2 == 1 then Some (state_of x) else None) ∷ xs)
    (slots_of-put (v / 2) (w / 2) cs s c (omega arith) (sym (bit_at-suc v s) ∙ one)
    (λ k lt n. shifted v w k (bits (suc k) (omega arith) (omega arith))))

-- the cells of a word are taken out
pub slots_of-freed : (v w freed : ℕ) (cs : List Cell)
    → ((k : ℕ) → k < length cs → bit_at v k ≡ (if bit_at freed k == 1 then 0 else bit_at w k))
    → slots_of v cs ≡ without_freed freed (slots_of w cs)
slots_of-freed v w freed [] bits = refl
slots_of-freed v w freed (c ∷ cs) bits =
    let here : v % 2 ≡ (if freed % 2 == 1 then 0 else w % 2) =
    rw (bit_at_lowest v, bit_at_lowest freed, bit_at_lowest w) at (bits 0 (omega arith)) in
    let rest = slots_of-freed (v / 2) (w / 2) (freed / 2) cs
    (λ k lt. rw (bit_at-suc v k, bit_at-suc freed k, bit_at-suc w k) at (bits (suc k) (omega arith))) in
    ap (λ x. x ∷ slots_of (v / 2) cs) (by (freed % 2 == 1) here)
    ∙ ap (λ xs. (if freed % 2 == 1 then None else (if w % 2 == 1 then Some (state_of c) else None)) ∷ xs) rest
  where
    by : (b : Bool) → v % 2 ≡ cond b 0 (w % 2) → (if v % 2 == 1 then Some (state_of c) else None)
        ≡ cond b None (if w % 2 == 1 then Some (state_of c) else None)
    by true e = ap (λ n. if n == 1 then Some (state_of c) else None) e
    by false e = ap (λ n. if n == 1 then Some (state_of c) else None) e

-- a cell is changed where it stands
pub slots_of-change : (w : ℕ) (cs : List Cell) (s : ℕ) (c d : Cell) (g : CellState → CellState) → s < length cs
    → state_of c ≡ g (state_of (get_or cs s d)) → slots_of w (set cs s c) ≡ change_at (change_cell g) (slots_of w cs) s
slots_of-change w [] s c d g h e = absurd (omega arith)
slots_of-change w (x ∷ cs) zero c d g h e = ap (λ y. y ∷ slots_of (w / 2) cs) (by (w % 2 == 1))
  where
    by : (b : Bool) → (if b then Some (state_of c) else None) ≡ change_cell g (if b then Some (state_of x) else None)
    by true = ap (λ y. Some y) e
    by false = refl
slots_of-change w (x ∷ cs) (suc s) c d g h e = ap (λ xs. (if w % 2 == 1 then Some (state_of x) else None) ∷ xs)
    (slots_of-change (w / 2) cs s c d g (omega arith) e)

-- the bits of a word without those of another
pub bit_at-minus : (w freed k : ℕ) → freed < 2 ^ 64 → k < 64 → bit_at (bit_and w (bit_not w64 freed)) k
    ≡ (if bit_at freed k == 1 then 0 else bit_at w k)
bit_at-minus w freed k fits lt =
    let both : bit_at (bit_and w (bit_not w64 freed)) k ≡ _ = bit_at_and w (bit_not w64 freed) k in
    let other : bit_at (bit_not w64 freed) k ≡ 1 - bit_at freed k = bit_at_not w64 freed k fits lt in
    let p = bit_at-lt w k in
    let q = bit_at-lt freed k in
    grind (arith, nat_tests)
