-- The cells of an arena fit into its slots.
use Rattle.std.proofs.Common.{◌≡◌, ◌∙◌, ◌+◌, ◌<◌, ◌≤◌, ℕ, Bool, true, false, cond, List, [], ◌∷◌, ◌++◌, ◌||◌}
use Rattle.std.proofs.Common.{length, length-append, get_or, take, drop, map, Contains, Option, Some, None, eqb}
use Rattle.std.proofs.Common.{eqb-true, eq-eqb, refl, sym, ap, arith, subst}
use Rattle.std.specs.BTreeMap as tree
use Rattle.std.specs.List.{AllByRecursion, IsDistinct, filter, list_any}
use Rattle.std.proofs.lemmas.List.{drop_more, length-map, take-append-drop}
use Rattle.std.proofs.lemmas.List.Elements.{filter-append}
use Rattle.std.proofs.lemmas.Map.Steps.{length-le_from_distinct_below}
use Rattle.gz_names.specs.declared.names.Name.{Name}
use Rattle.gz_names.specs.declared.numbers.Place.{Place}
use Rattle.colour_defs.specs.Ends.{IsAscending}
use Rattle.colour_defs.proofs.Lists.{contains_head, contains_tail}
use Rattle.plain_graph.specs.Indexed.{order_of}
use Rattle.judge.specs.Cells.{Cells}
use Rattle.judge.specs.Places.{AreSpread}
use Rattle.judge.specs.Whites.{is_at, lies_in}
use Rattle.judge.proofs.FirstTally.{before_it, not_itself}
use Rattle.judge.proofs.Found.{ascending_left, left_was}

-- the slot of a place that there may be
abbrev slot_of : Option Place → ℕ
slot_of None = 0
slot_of (Some p) = p.1

abbrev slots_of : Cells → List Name → List ℕ
slots_of cells xs = map (λ x. slot_of (tree.get order_of cells x)) xs

-- where a cell lies that lies in an arena
in_arena : (cells : Cells) (arena : ℕ) (x : Name) → lies_in cells arena x ≡ true
    → tree.get order_of cells x ≡ Some (arena, slot_of (tree.get order_of cells x))
in_arena cells arena x lies = go (tree.get order_of cells x) lies
  where
    go : (o : Option Place) → is_at o arena ≡ true → o ≡ Some (arena, slot_of o)
    go None e = absurd (cc e)
    go (Some p) e = ap (λ a. Some (a, p.1)) (eqb-true p.0 arena e)

-- these cells lie in an arena
abbrev AreIn : Cells → ℕ → List Name → Type 0
AreIn cells arena xs = (x : Name) → Contains xs x → lies_in cells arena x ≡ true

in_rest : (cells : Cells) (arena : ℕ) (x : Name) (xs : List Name) → AreIn cells arena (x ∷ xs) → AreIn cells arena xs
in_rest cells arena x xs all = λ y c. all y (contains_tail x xs y c)

slot_among : (cells : Cells) (xs : List Name) (s : ℕ) → list_any (eqb s) (slots_of cells xs) ≡ true
    → (x : Name) × Contains xs x × (slot_of (tree.get order_of cells x) ≡ s)
slot_among cells [] s e = absurd (cc e)
slot_among cells (x ∷ xs) s e = go (λ h. slot_among cells xs s h) (eqb s (slot_of (tree.get order_of cells x))) refl
  where
    go : (list_any (eqb s) (slots_of cells xs) ≡ true
        → (y : Name) × Contains xs y × (slot_of (tree.get order_of cells y) ≡ s)) → (b : Bool)
        → eqb s (slot_of (tree.get order_of cells x)) ≡ b
        → (y : Name) × Contains (x ∷ xs) y × (slot_of (tree.get order_of cells y) ≡ s)
    go more true same = (x, contains_head x xs, sym (eqb-true s (slot_of (tree.get order_of cells x)) same))
    go more false other =
        let rest = sym (ap (λ b. b || list_any (eqb s) (slots_of cells xs)) other) ∙ e in
        let h = more rest in (h.0, contains_tail x xs h.0 h.1, h.2)

-- no two of them have one slot
slots_apart : (cells : Cells) (arena : ℕ) (xs : List Name) → AreSpread cells → IsAscending xs
    → AreIn cells arena xs → IsDistinct eqb (slots_of cells xs)
unfolding IsDistinct
slots_apart cells arena [] spread up all = tt
slots_apart cells arena (x ∷ xs) spread up all = (
  others xs (λ y c. c),
  slots_apart cells arena xs spread up.1 (in_rest cells arena x xs all),
)
  where
    others : (ys : List Name) → ((y : Name) → Contains ys y → Contains xs y)
        → AllByRecursion (λ s. eqb (slot_of (tree.get order_of cells x)) s ≡ false) (slots_of cells ys)
    others [] sub = tt
    others (y ∷ ys) sub = (
      go (eqb (slot_of (tree.get order_of cells x)) (slot_of (tree.get order_of cells y))) refl,
      others ys (λ z c. sub z (contains_tail y ys z c)),
    )
      where
        go : (b : Bool) → eqb (slot_of (tree.get order_of cells x)) (slot_of (tree.get order_of cells y)) ≡ b
            → b ≡ false
        go true same =
            let there = sub y (contains_head y ys) in
            let here = in_arena cells arena x (all x (contains_head x xs)) in
            let too = in_arena cells arena y (all y (contains_tail x xs y there)) in
            absurd (spread.apart x y (arena, slot_of (tree.get order_of cells x)) here
            (too ∙ ap (λ s. Some (arena, s)) (sym (eqb-true _ _ same)))
            (λ e. not_itself x y e (before_it x xs y up.0 there)))
        go false other = refl

few_in : (cells : Cells) (arena : ℕ) (xs : List Name) → AreSpread cells → IsAscending xs → AreIn cells arena xs
    → length xs ≤ 64
few_in cells arena xs spread up all =
    subst (λ n. n ≤ 64) (length-map xs (λ x. slot_of (tree.get order_of cells x)))
    (length-le_from_distinct_below (slots_of cells xs) 64 (slots_apart cells arena xs spread up all)
    (λ s e. let h = slot_among cells xs s e in
    subst (λ n. n < 64) h.2 (spread.below h.0 (arena, slot_of (tree.get order_of cells h.0))
    (in_arena cells arena h.0 (all h.0 h.1)))))

-- one more of some ascending cells fits into its arena
pub fits_more : (cells : Cells) (names : List Name) (i : ℕ) (d : Name) (p : Place) → AreSpread cells
    → IsAscending names → i < length names → tree.get order_of cells (get_or names i d) ≡ Some p
    → length (filter (lies_in cells p.0) (take i names)) < 64
fits_more cells names i d p spread up below at =
    omega (arith, most, split, length-append (filter f (take i names)) (filter f (drop i names)), here)
  where
    f : Name → Bool
    f = lies_in cells p.0

    most : length (filter f names) ≤ 64
    most = few_in cells p.0 (filter f names) spread (ascending_left f names up) (λ x c. (left_was f names x c).1)

    split : length (filter f names) ≡ length (filter f (take i names) ++ filter f (drop i names))
    split = ap (λ xs. length (filter f xs)) (sym (take-append-drop i names))
        ∙ ap length (filter-append f (take i names) (drop i names))

    here : 0 < length (filter f (drop i names))
    here =
        let x : Name = get_or names i d in
        let lies : f x ≡ true = ap (λ o. is_at o p.0) at ∙ eq-eqb p.0 p.0 refl in
        let first : filter f (drop i names) ≡ x ∷ filter f (drop (i + 1) names) =
        ap (filter f) (drop_more names i d below)
        ∙ ap (λ b. cond b (x ∷ filter f (drop (i + 1) names)) (filter f (drop (i + 1) names))) lies in
        let many = ap length first in omega (arith, many)
