-- What a step does to the scans to come.
use Rattle.std.proofs.Common.{◌≡◌, ◌≢◌, ◌+◌, ◌<◌, ◌≤◌, true, false, inl, inr, refl, sym, ap, ◌∙◌, subst, arith}
use Rattle.std.proofs.Common.{ℕ, Bool, cond, List, ◌∷◌, [], Contains, count_by, get_or}
use Rattle.std.specs.List.Sorted.{IsPermutation}
use Rattle.std.proofs.lemmas.List.Sums.{get_or-le-sum_by}
use Rattle.gz_names.specs.declared.numbers.Place.{Place}
use Rattle.cell_bits.specs.declared.bits.Colour.{Colour}
use Rattle.cell_bits.specs.declared.bits.Colour.TheVariants as colour
use Rattle.arena_table.specs.Table.{is_place}
use Rattle.mark_stack.specs.Stack.{Piles, IsPushed}
use Rattle.mark_stack.specs.declared.stack.Pile.TheVariants as pile
use Rattle.heap_core.specs.Heap.{HeapState, colour_of}
use Rattle.mark_stack.proofs.Pushed.{black_gray, black_wake, gray_black, gray_wake, more_count}
use Rattle.heap_core.proofs.MakingCells.{same-place}
use Rattle.barriers.specs.Colours.{IsBlack}
use Rattle.barriers.specs.Scans.{AreScannedOnce, ScansNoMore, black_scans, black_turns, gray_scans, gray_turns}
use Rattle.barriers.specs.Spreading.{Turns}
use Rattle.barriers.proofs.Places.{same_or_other}

-- a place that comes onto a pile is on it once more, and each other as often as before
pub on_once_more : (ps qs : List Place) (x : Place) → IsPermutation (x ∷ ps) qs
    → count_by (is_place x) qs ≡ count_by (is_place x) ps + 1
on_once_more ps qs x more =
    more_count (is_place x) ps qs x more ∙ ap (λ b. count_by (is_place x) ps + cond b 1 0) here
  where
    here : is_place x x ≡ true
    here = elim (same-place x x) [ inl same ↦ same.1 | inr other ↦ absurd (other.0 refl) ]

pub on_as_before : (ps qs : List Place) (x y : Place) → IsPermutation (x ∷ ps) qs → y ≢ x
    → count_by (is_place y) qs ≡ count_by (is_place y) ps
on_as_before ps qs x y more n =
    more_count (is_place y) ps qs x more
    ∙ ap (λ b. count_by (is_place y) ps + cond b 1 0) there
    ∙ omega arith
  where
    there : is_place y x ≡ false
    there = elim (same-place y x) [ inl same ↦ absurd (n same.0) | inr other ↦ other.1 ]

-- so it is on it no less often
pub on_no_less : (ps qs : List Place) (x y : Place) → IsPermutation (x ∷ ps) qs
    → count_by (is_place y) ps ≤ count_by (is_place y) qs
on_no_less ps qs x y more = (let count = more_count (is_place y) ps qs x more in omega arith)

-- a place that is on a pile is counted there
pub on_counted : (ps : List Place) (x : Place) → Contains ps x → 0 < count_by (is_place x) ps
on_counted ps x c =
    let here : is_place x x ≡ true = elim (same-place x x) [ inl same ↦ same.1 | inr other ↦ absurd (other.0 refl) ] in
    let counts : Place → ℕ = λ z. cond (is_place x z) 1 0 in
    let one : counts (get_or ps c.0 x) ≡ 1 = ap counts c.2 ∙ ap (λ (b : Bool). cond b 1 0) here in
    let most : counts (get_or ps c.0 x) ≤ count_by (is_place x) ps = get_or-le-sum_by counts ps c.0 x c.1 in
    omega (arith, one, most)

-- so one that was taken from the gray pile is not on it any more, if it may be scanned once at most
pub taken_once : (h : HeapState) (p q : Piles) (x : Place) → IsPushed p pile.Gray x q → gray_scans h q x ≤ 1
    → Contains p.gray x → ⊥
taken_once h p q x e once c = omega (arith, once, on_once_more p.gray q.gray x e.more, on_counted p.gray x c)

pub none_more : (h : HeapState) (p : Piles) → ScansNoMore h p h p
none_more h p = record { black = λ x. omega arith; gray = λ x. omega arith }

pub no_more_same : (h : HeapState) (p : Piles) (k : HeapState) (q : Piles) → k ≡ h → q ≡ p → ScansNoMore h p k q
no_more_same h p k q e f =
    subst (λ (z : HeapState). ScansNoMore h p z q) (sym e)
    (subst (λ (z : Piles). ScansNoMore h p h z) (sym f) (none_more h p))

pub no_more_twice : (h : HeapState) (p : Piles) (k : HeapState) (q : Piles) (l : HeapState) (r : Piles)
    → ScansNoMore h p k q → ScansNoMore k q l r → ScansNoMore h p l r
no_more_twice h p k q l r a b = record {
  black = λ x. omega (arith, a.black x, b.black x);
  gray = λ x. omega (arith, a.gray x, b.gray x);
}

-- so each cell may still be scanned once at most
pub once_kept : (h : HeapState) (p : Piles) (k : HeapState) (q : Piles) → ScansNoMore h p k q → AreScannedOnce h p
    → AreScannedOnce k q
once_kept h p k q none once = record {
  black = λ x. omega (arith, none.black x, once.black x);
  gray = λ x. omega (arith, none.gray x, once.gray x);
}

pub once_alike : (h k : HeapState) (p : Piles) → ((x : Place) → colour_of k x ≡ colour_of h x) → AreScannedOnce h p
    → AreScannedOnce k p
once_alike h k p same once = record {
  black = λ x. (let alike = ap black_turns (same x) in omega (arith, alike, once.black x));
  gray = λ x. (let alike = ap gray_turns (same x) in omega (arith, alike, once.gray x));
}

black_few : (c : Colour) → black_turns c ≤ 1
black_few colour.White = omega arith
black_few colour.Gray = omega arith
black_few colour.Black = omega arith

gray_few : (c : Colour) → gray_turns c ≤ 1
gray_few colour.White = omega arith
gray_few colour.Gray = omega arith
gray_few colour.Black = omega arith

-- so it is where no cell is on a pile of marking
pub once_empty : (h : HeapState) (p : Piles) → p.black ≡ [] → p.gray ≡ [] → AreScannedOnce h p
once_empty h p black gray = record {
  black = λ x. (let none : count_by (is_place x) p.black ≡ 0 =
      ap (λ (ps : List Place). count_by (is_place x) ps) black in omega (arith, none, black_few (colour_of h x)));
  gray = λ x. (let none : count_by (is_place x) p.gray ≡ 0 =
      ap (λ (ps : List Place). count_by (is_place x) ps) gray in omega (arith, none, gray_few (colour_of h x)));
}

turns_unless_black : (c : Colour) → (c ≡ colour.Black → ⊥) → black_turns c ≡ 1
turns_unless_black colour.White n = refl
turns_unless_black colour.Gray n = refl
turns_unless_black colour.Black n = absurd (n refl)

-- a cell turned black: it turns in neither colour any more, and each other cell as often as before
module _ (h : HeapState) (x : Place) (k : HeapState) (was : IsBlack h x → ⊥) (black : IsBlack k x)
    (others : (y : Place) → y ≢ x → colour_of k y ≡ colour_of h y) where
  gray_less : (y : Place) → gray_turns (colour_of k y) ≤ gray_turns (colour_of h y)
  gray_less y = elim (same_or_other y x) [
    | inl same ↦ subst (λ z. gray_turns (colour_of k z) ≤ gray_turns (colour_of h z)) (sym same)
        (let none : gray_turns (colour_of k x) ≡ 0 = ap gray_turns black in omega (arith, none))
    | inr other ↦ (let alike = ap gray_turns (others y other) in omega (arith, alike))
  ]

  black_less : (y : Place) → black_turns (colour_of k y) ≤ black_turns (colour_of h y)
  black_less y = elim (same_or_other y x) [
    | inl same ↦ subst (λ z. black_turns (colour_of k z) ≤ black_turns (colour_of h z)) (sym same)
        (let none : black_turns (colour_of k x) ≡ 0 = ap black_turns black in omega (arith, none))
    | inr other ↦ (let alike = ap black_turns (others y other) in omega (arith, alike))
  ]

  pub pushed_black : (p q : Piles) → IsPushed p pile.Black x q → ScansNoMore h p k q
  pushed_black p q e = record { black = less; gray = λ y. omega (arith, gray_less y, count_same y) }
    where
      count_same : (y : Place) → count_by (is_place y) q.gray ≡ count_by (is_place y) p.gray
      count_same y = ap (λ ps. count_by (is_place y) ps) (e.others pile.Gray gray_black)

      less : (y : Place) → black_scans k q y ≤ black_scans h p y
      less y = elim (same_or_other y x) [
        | inl same ↦ subst (λ z. black_scans k q z ≤ black_scans h p z) (sym same)
            (let none : black_turns (colour_of k x) ≡ 0 = ap black_turns black in
            let one = turns_unless_black (colour_of h x) was in
            omega (arith, none, one, on_once_more p.black q.black x e.more))
        | inr other ↦ (let alike = ap black_turns (others y other) in
            omega (arith, alike, on_as_before p.black q.black x y e.more other))
      ]

  pushed_wake : (p q : Piles) → IsPushed p pile.Wake x q → ScansNoMore h p k q
  pushed_wake p q e = record {
    black = λ y. omega (arith, black_less y, black_same y);
    gray = λ y. omega (arith, gray_less y, gray_same y);
  }
    where
      black_same : (y : Place) → count_by (is_place y) q.black ≡ count_by (is_place y) p.black
      black_same y = ap (λ ps. count_by (is_place y) ps) (e.others pile.Black black_wake)

      gray_same : (y : Place) → count_by (is_place y) q.gray ≡ count_by (is_place y) p.gray
      gray_same y = ap (λ ps. count_by (is_place y) ps) (e.others pile.Gray gray_wake)

-- `turn` lets no cell be scanned more often
pub turns_no_more : (h : HeapState) (p : Piles) (x : Place) (k : HeapState) (q : Piles) → Turns h p x k q
    → ScansNoMore h p k q
turns_no_more h p x k q (inl was) = no_more_same h p k q was.1 was.2
turns_no_more h p x k q (inr (inl t)) =
    pushed_black h x k t.0.was t.0.black t.0.others p q t.2
turns_no_more h p x k q (inr (inr t)) =
    pushed_wake h x k t.0.was t.0.black t.0.others p q t.2

-- a cell that is taken from the wake pile may be scanned as often as before
pub pops_wake : (h : HeapState) (p q : Piles) (x : Place) → IsPushed p pile.Wake x q → ScansNoMore h q h p
pops_wake h p q x e = record {
  black = λ y. (let same = ap (λ ps. count_by (is_place y) ps) (e.others pile.Black black_wake) in omega (arith, same));
  gray = λ y. (let same = ap (λ ps. count_by (is_place y) ps) (e.others pile.Gray gray_wake) in omega (arith, same));
}

-- a cell that is taken from a pile of marking may be scanned once less, and each other no more often
pub pops_black : (h : HeapState) (p q : Piles) (x : Place) → IsPushed p pile.Black x q → ScansNoMore h q h p
pops_black h p q x e = record {
  black = λ y. omega (arith, on_no_less p.black q.black x y e.more);
  gray = λ y. (let same = ap (λ ps. count_by (is_place y) ps) (e.others pile.Gray gray_black) in omega (arith, same));
}

pub pops_black_once : (h : HeapState) (p q : Piles) (x : Place) → IsPushed p pile.Black x q
    → black_scans h p x < black_scans h q x
pops_black_once h p q x e = omega (arith, on_once_more p.black q.black x e.more)

pub pops_gray : (h : HeapState) (p q : Piles) (x : Place) → IsPushed p pile.Gray x q → ScansNoMore h q h p
pops_gray h p q x e = record {
  black = λ y. (let same = ap (λ ps. count_by (is_place y) ps) (e.others pile.Black black_gray) in omega (arith, same));
  gray = λ y. omega (arith, on_no_less p.gray q.gray x y e.more);
}

pub pops_gray_once : (h : HeapState) (p q : Piles) (x : Place) → IsPushed p pile.Gray x q
    → gray_scans h p x < gray_scans h q x
pops_gray_once h p q x e = omega (arith, on_once_more p.gray q.gray x e.more)
