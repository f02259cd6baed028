-- The set of the arenas that are handed to sweeping, after a change of the arenas.
use Rattle.std.proofs.Common.{◌≡◌, ◌≢◌, ◌<◌, ◌≤◌, ◌*◌, ◌==◌, ◌^◌, inl, inr, ℕ, zero, suc, Bool, true, false}
use Rattle.std.proofs.Common.{if◌then◌else◌, List, [], ◌∷◌, ◌++◌, length, length-append, refl, sym, ◌∙◌, ap, arith}
use Rattle.std.proofs.lemmas.Bool.{cases_eq}
use Rattle.std.proofs.lemmas.Nat.Bits.{bit_at-zero}
use Rattle.gz_names.specs.declared.numbers.Place.{Place}
use Rattle.arena_table.specs.Cells.{CellState}
use Rattle.arena_table.specs.Sets.{arena_bit}
use Rattle.arena_table.specs.Slots.{Arena, bit_of, change_at, empty_arena, is_out_at, with_cell}
use Rattle.arena_table.specs.Table.{AreOut, grown_to, put_at}
use Rattle.arena_table.proofs.Changing.{length-change_at}
use Rattle.arena_table.proofs.WordBits.{if_same, if_other}

-- one arena is changed
out-same : (f : Arena → Arena) (v : Bool) (xs : List Arena) (a : ℕ) → ((x : Arena) → (f x).is_out ≡ v) → a < length xs
    → is_out_at (change_at f xs a) a ≡ v
out-same f v [] a turns lt = absurd (omega arith)
out-same f v (x ∷ xs) zero turns lt = turns x
out-same f v (x ∷ xs) (suc a) turns lt = out-same f v xs a turns (omega arith)

out-other : (f : Arena → Arena) (xs : List Arena) (a b : ℕ) → b ≢ a → is_out_at (change_at f xs a) b ≡ is_out_at xs b
out-other f [] a b n = refl
out-other f (x ∷ xs) zero zero n = absurd (n refl)
out-other f (x ∷ xs) zero (suc b) n = refl
out-other f (x ∷ xs) (suc a) zero n = refl
out-other f (x ∷ xs) (suc a) (suc b) n = out-other f xs a b (λ e. n (ap suc e))

out-kept : (f : Arena → Arena) (xs : List Arena) (a b : ℕ) → ((x : Arena) → (f x).is_out ≡ x.is_out)
    → is_out_at (change_at f xs a) b ≡ is_out_at xs b
out-kept f [] a b keeps = refl
out-kept f (x ∷ xs) zero zero keeps = keeps x
out-kept f (x ∷ xs) zero (suc b) keeps = refl
out-kept f (x ∷ xs) (suc a) zero keeps = refl
out-kept f (x ∷ xs) (suc a) (suc b) keeps = out-kept f xs a b keeps

-- an arena is made
out-pushed : (xs : List Arena) (zone b : ℕ) → is_out_at (xs ++ empty_arena zone ∷ []) b ≡ is_out_at xs b
out-pushed [] zone zero = refl
out-pushed [] zone (suc b) = refl
out-pushed (x ∷ xs) zone zero = refl
out-pushed (x ∷ xs) zone (suc b) = out-pushed xs zone b

out-grown : (xs : List Arena) (zone a b : ℕ) → is_out_at (grown_to xs zone a) b ≡ is_out_at xs b
out-grown xs zone a b = by (a == length xs)
  where
    by : (t : Bool) → is_out_at (if t then xs ++ empty_arena zone ∷ [] else xs) b ≡ is_out_at xs b
    by true = out-pushed xs zone b
    by false = refl

pub AreOut-none : (xs : List Arena) (words : List ℕ) → xs ≡ [] → words ≡ [] → AreOut xs words
AreOut-none xs words e f = rw e (rw f (record { bits = λ a. bit_at-zero _; room = omega arith }))

-- a cell is put into an arena, which may be a new one
pub AreOut-put : (xs ys : List Arena) (words : List ℕ) (zone : ℕ) (p : Place) (cell : CellState) → AreOut xs words
    → ys ≡ put_at xs zone p cell → (p.0 ≡ length xs → length xs < 64 * length words) → AreOut ys words
AreOut-put xs ys words zone p cell h is room = rw is (record {
  bits = λ a. h.bits a
      ∙ ap bit_of (sym (out-kept (with_cell p.1 cell) (grown_to xs zone p.0) p.0 a (λ x. refl)
      ∙ out-grown xs zone p.0 a));
  room = (let same = length-change_at (with_cell p.1 cell) (grown_to xs zone p.0) p.0 in
      let long = grown-long in
      omega (arith, same, long));
})
  where
    grown-long : length (grown_to xs zone p.0) ≤ 64 * length words
    grown-long = elim (cases_eq p.0 (length xs)) [
      | inl e ↦ (let lt = room e in
          let longer = length-append xs (empty_arena zone ∷ []) in
          let old = h.room in
          by (p.0 == length xs) (omega arith) old)
      | inr n ↦ by-old n h.room
    ]
      where
        by : (t : Bool) → length (xs ++ empty_arena zone ∷ []) ≤ 64 * length words → length xs ≤ 64 * length words
            → length (if t then xs ++ empty_arena zone ∷ [] else xs) ≤ 64 * length words
        by true long short = long
        by false long short = short

        by-old : p.0 ≢ length xs → length xs ≤ 64 * length words → length (grown_to xs zone p.0) ≤ 64 * length words
        by-old n short = rw (Rattle.std.proofs.Common.ne_eqb p.0 (length xs) n) short

-- one arena goes out, or comes in
pub AreOut-turned : (f : Arena → Arena) (v : Bool) (xs ys : List Arena) (words now : List ℕ) (a : ℕ) → AreOut xs words
    → ((x : Arena) → (f x).is_out ≡ v) → a < length xs → ys ≡ change_at f xs a → length now ≡ length words
    → ((b : ℕ) → arena_bit now b ≡ (if b == a then bit_of v else arena_bit words b)) → AreOut ys now
AreOut-turned f v xs ys words now a h turns lt is long bits = rw is (record {
  bits = λ b. bits b ∙ elim (cases_eq b a) [
    | inl e ↦ (if_same b a (bit_of v) (arena_bit words b) e
        ∙ ap bit_of (sym (ap (is_out_at (change_at f xs a)) e ∙ out-same f v xs a turns lt)))
    | inr n ↦ (if_other b a (bit_of v) (arena_bit words b) n ∙ (h.bits b ∙ ap bit_of (sym (out-other f xs a b n))))
  ];
  room = (let same = length-change_at f xs a in let old = h.room in omega arith);
})

-- what the set says of an arena
pub out-yes : (xs : List Arena) (words : List ℕ) (a : ℕ) → AreOut xs words → arena_bit words a ≡ 1
    → is_out_at xs a ≡ true
out-yes xs words a h one = by (is_out_at xs a) (sym (h.bits a) ∙ one)
  where
    by : (b : Bool) → bit_of b ≡ 1 → b ≡ true
    by true e = refl
    by false e = absurd (omega arith)

pub out-no : (xs : List Arena) (words : List ℕ) (a : ℕ) → AreOut xs words → arena_bit words a ≡ 0
    → is_out_at xs a ≡ false
out-no xs words a h none = by (is_out_at xs a) (sym (h.bits a) ∙ none)
  where
    by : (b : Bool) → bit_of b ≡ 0 → b ≡ false
    by false e = refl
    by true e = absurd (omega arith)
