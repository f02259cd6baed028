-- What is named weakly after a slot is filled, and after a cell is watched or is watched no longer.
use Rattle.std.proofs.Common.{◌≡◌, ◌⊎◌, ◌∷◌, ◌++◌, ◌-◌, ◌<◌, ℕ, Bool, true, false, not, cond}
use Rattle.std.proofs.Common.{if◌then◌else◌, List, [], length, Option, Some, None, Contains, refl, sym, ap, subst}
use Rattle.std.proofs.Common.{◌∙◌, inl, inr, arith, take, nat_lt, slice_index_or, slice_set, position, swap_remove}
use Rattle.std.specs.FinSet as set
use Rattle.std.specs.List.{AllByRecursion, IsDistinct, list_any, position_or_len}
use Rattle.std.specs.List.Sorted.{IsPermutation}
use Rattle.std.specs.Option.{ForSome, option_map_or}
use Rattle.std.specs.Ordering.{eq_by_cmp}
use Rattle.std.proofs.lemmas.Bool.{ltb-false}
use Rattle.std.proofs.lemmas.List.{get_or_default, map-set}
use Rattle.std.proofs.lemmas.List.Elements.{Contains-append_left, Contains-push, Contains-push_cases}
use Rattle.std.proofs.lemmas.List.Folds.{Any-from_list_any, list_any_at}
use Rattle.std.proofs.lemmas.List.Quantifiers.{position-Some}
use Rattle.std.proofs.lemmas.List.Sorted.{Contains-permutation, IsPermutation-swap_remove, IsPermutation-sym}
use Rattle.std.proofs.lemmas.List.Sums.{fails_before_first}
use Rattle.std.proofs.lemmas.Map.Keys.{IsDistinct-IsPermutation, IsDistinct-head, IsDistinct-push, IsDistinct-tail}
use Rattle.std.specs.Cmp.{IsEquivalence}
use Rattle.gz_names.specs.Order.{name_cmp, names_total}
use Rattle.gz_names.specs.declared.names.Name.{Name}
use Rattle.gz_names.specs.declared.numbers.Place.{Place}
use Rattle.gz_names.proofs.Moving.{same-places, same-true}
use Rattle.weak_refs.specs.WeakNames.{WeakNamesState, is_same, is_watched, with_slot, with_watched, without_watched}
use Rattle.colour_defs.specs.World.{Has, WeakNames}
use Rattle.colour_defs.proofs.Finite.{insert_cases}
use Rattle.colour_defs.proofs.Lists.{both_of, contains_cases, contains_set_cases, contains_tail}
use Rattle.colour_defs.proofs.Lists.{first_of_both, nothing_in_none, second_of_both}
use Rattle.colour_defs.proofs.Names.{eq_name-is, eq_name-refl}
use Rattle.colour_defs.proofs.ValidCommands.{in_insert, insert_has}
use Rattle.heap_core.specs.Shape.{IsPresent, Shape, held_name, name_at}
use Rattle.slice_driver.specs.Worlds.{NamesWeakly}
use Rattle.slice_driver.proofs.group_end.Cells.{same_test}

-- equality of places
same-flips : (p q : Place) → is_same p q ≡ is_same q p
same-flips p q = same_test _ _ (turn p q) (turn q p)
  where
    turn : (a b : Place) → is_same a b ≡ true → is_same b a ≡ true
    turn a b e = subst (λ (z : Place). is_same z a ≡ true) (same-places a b e) (same-true a)

same_places : IsEquivalence is_same
same_places = record {
  refl = same-true;
  symm = same-flips;
  congr = λ p q r e. ap (λ (z : Place). is_same z r) (same-places p q e);
}

-- a cell is found exactly where it is listed
found_listed : (ps : List Place) (p : Place) → list_any (is_same p) ps ≡ true → Contains ps p
found_listed ps p e =
    let at = Any-from_list_any (is_same p) ps e in
    subst (Contains ps) (sym (same-places p at.1 at.4)) (at.0, at.2, at.3)

pub listed_found : (ps : List Place) (p : Place) → Contains ps p → list_any (is_same p) ps ≡ true
listed_found ps p has = list_any_at (is_same p) ps has.0 p has.1 (ap (is_same p) has.2 ∙ same-true p)

all_have : {X : Type 0} (P : X → Type 0) (xs : List X) (x : X) → AllByRecursion P xs → Contains xs x → P x
all_have P [] x all has = absurd (nothing_in_none x has)
all_have P (y ∷ ys) x all has = elim (contains_cases y ys x has) [
  | inl same ↦ subst P same all.0
  | inr tail ↦ all_have P ys x all.1 tail
]

-- where a cell was watched, it is the one that is taken out
none_found : (ps : List Place) (p : Place) → position (is_same p) ps ≡ None → list_any (is_same p) ps ≡ true → ⊥
none_found ps p none there =
    let at = Any-from_list_any (is_same p) ps there in
    go (nat_lt (position_or_len (is_same p) ps) (length ps)) refl none at
  where
    go : (b : Bool) → nat_lt (position_or_len (is_same p) ps) (length ps) ≡ b
        → cond b (Some (position_or_len (is_same p) ps)) None ≡ None
        → (k : ℕ) × (x : Place) × (k < length ps) × (slice_index_or ps k x ≡ x) × (is_same p x ≡ true) → ⊥
    go true e none at = cc none
    go false e none at =
        let past = ltb-false (position_or_len (is_same p) ps) (length ps) e in
        let fails = fails_before_first (is_same p) ps at.0 at.1 (omega (arith, at.2, past)) in
        let passes = ap (is_same p) at.3 ∙ at.4 in
        cc (fails, passes)

-- what is left of a list, by where the one to be taken out stands
abbrev left_at : Place → List Place → Option ℕ → List Place
left_at x xs at = option_map_or (λ (i : ℕ). swap_remove (x ∷ xs) i x) at (x ∷ xs)

taken_out : (ps : List Place) (p : Place) → list_any (is_same p) ps ≡ true
    → IsPermutation ps (p ∷ (without_watched (record { slots = []; watched = ps }) p).watched)
taken_out [] p there = absurd (cc there)
taken_out (x ∷ xs) p there = go (position (is_same p) (x ∷ xs)) refl
  where
    found : (i : ℕ) → position (is_same p) (x ∷ xs) ≡ Some i
        → IsPermutation (x ∷ xs) (p ∷ swap_remove (x ∷ xs) i x)
    found i e =
        let at = position-Some (is_same p) (x ∷ xs) i p e in
        let moved = IsPermutation-swap_remove (x ∷ xs) i p at.0 (same-places p _ at.1) in
        let last = get_or_default (x ∷ xs) (length (x ∷ xs) - 1) p x (omega arith) in
        subst (λ (y : Place). IsPermutation (x ∷ xs)
        (p ∷ take (length (x ∷ xs) - 1) (slice_set (x ∷ xs) i y))) last moved

    go : (o : Option ℕ) → position (is_same p) (x ∷ xs) ≡ o
        → IsPermutation (x ∷ xs) (p ∷ (without_watched (record { slots = []; watched = x ∷ xs }) p).watched)
    go None e = absurd (none_found (x ∷ xs) p e there)
    go (Some i) e = subst (λ (o : Option ℕ). IsPermutation (x ∷ xs) (p ∷ left_at x xs o)) (sym e) (found i e)

-- where it was not watched, nothing is taken out
not_taken : (ps : List Place) (p : Place) → list_any (is_same p) ps ≡ false
    → (without_watched (record { slots = []; watched = ps }) p).watched ≡ ps
not_taken [] p none = refl
not_taken (x ∷ xs) p none = go (position (is_same p) (x ∷ xs)) refl
  where
    go : (o : Option ℕ) → position (is_same p) (x ∷ xs) ≡ o
        → (without_watched (record { slots = []; watched = x ∷ xs }) p).watched ≡ x ∷ xs
    go None e = ap (left_at x xs) e
    go (Some i) e = absurd (
        let at = position-Some (is_same p) (x ∷ xs) i x e in
        let there = list_any_at (is_same p) (x ∷ xs) i x at.0 at.1 in
        cc (there, none))

module _ (s : Shape) (h : WeakNamesState) (w : WeakNames) (n : NamesWeakly s h w) where
  -- a slot names a present cell, or becomes empty
  pub names_weaken : (q : ℕ) (v : Option Place) → ForSome v (IsPresent s)
      → NamesWeakly s (with_slot h q v) (record w { slots = slice_set w.slots q (held_name s v) })
  names_weaken q v there = record {
    slots_are = ap (λ (xs : List (Option Name)). slice_set xs q (held_name s v)) n.slots_are
        ∙ sym (map-set (held_name s) h.slots q v);
    slots_held = λ p has. elim (contains_set_cases h.slots q v (Some p) has) [
      | inl was ↦ n.slots_held p was
      | inr now ↦ there p now
    ];
    watched_are = n.watched_are;
    watched_held = n.watched_held;
    once = n.once;
  }

  module _ (p : Place) (x : Name) (there : IsPresent s p) (named : name_at s p ≡ Some x)
      (apart : (a b : Place) (y : Name) → name_at s a ≡ Some y → name_at s b ≡ Some y → a ≡ b) where
    -- a cell is watched exactly where its name is
    pub watched_same : is_watched h p ≡ set.contains w.watched x
    watched_same = same_test _ _
        (λ found. (n.watched_are x).1 (p, found_listed h.watched p found, named))
        (λ has. (
        let at = (n.watched_are x).0 has in
        let same : at.0 ≡ p = apart at.0 p x at.2 named in
        listed_found h.watched p (subst (Contains h.watched) same at.1)))

    -- a cell is watched from now on
    with_one : (b : Bool) → is_watched h p ≡ b
        → NamesWeakly s (record h { watched = if b then h.watched else h.watched ++ p ∷ [] })
        (record w { watched = set.insert w.watched x })
    with_one true was = record {
      slots_are = n.slots_are;
      slots_held = n.slots_held;
      watched_are = λ y. (
        (λ has. elim (insert_cases w.watched x y has) [
          | inl old ↦ (n.watched_are y).0 old
          | inr same ↦ (p, found_listed h.watched p was, named ∙ ap (λ (z : Name). Some z) same)
        ]),
        λ at. in_insert w.watched x y ((n.watched_are y).1 at),
      );
      watched_held = n.watched_held;
      once = n.once;
    }
    with_one false new = record {
      slots_are = n.slots_are;
      slots_held = n.slots_held;
      watched_are = λ y. (
        (λ has. elim (insert_cases w.watched x y has) [
          | inl old ↦ (
              let at = (n.watched_are y).0 old in
              (at.0, Contains-append_left h.watched (p ∷ []) at.0 at.1, at.2))
          | inr same ↦ (p, Contains-push h.watched p, named ∙ ap (λ (z : Name). Some z) same)
        ]),
        λ at. elim (Contains-push_cases h.watched p at.0 at.1) [
          | inl was ↦ in_insert w.watched x y ((n.watched_are y).1 (at.0, was, at.2))
          | inr same ↦ (
              let one : Some x ≡ Some y = sym named ∙ (ap (name_at s) same ∙ at.2) in
              let is : x ≡ y = cc one in
              subst (Has (set.insert w.watched x)) is (insert_has w.watched x))
        ],
      );
      watched_held = λ q has. elim (Contains-push_cases h.watched p q has) [
        | inl was ↦ n.watched_held q was
        | inr same ↦ subst (IsPresent s) same there
      ];
      once = IsDistinct-push same_places h.watched p n.once new;
    }

    pub names_watch : NamesWeakly s (with_watched h p) (record w { watched = set.insert w.watched x })
    names_watch = with_one (is_watched h p) refl

    -- a cell that was watched is watched no longer
    pub names_unwatch : is_watched h p ≡ true
        → NamesWeakly s (without_watched h p) (record w { watched = set.remove w.watched x })
    names_unwatch was =
        let rest : List Place = (without_watched h p).watched in
        let moved : IsPermutation h.watched (p ∷ rest) = taken_out h.watched p was in
        let once : IsDistinct is_same (p ∷ rest) =
        IsDistinct-IsPermutation is_same same-flips h.watched (p ∷ rest) moved n.once in
        let back : (q : Place) → Contains rest q → Contains h.watched q =
        λ q has. Contains-permutation (p ∷ rest) h.watched q (IsPermutation-sym h.watched (p ∷ rest) moved)
        (contains_tail p rest q has) in
        record {
          slots_are = n.slots_are;
          slots_held = n.slots_held;
          watched_are = λ y. (
            (λ has. (
                let both = sym (set.contains-remove names_total w.watched x y) ∙ has in
                let at = (n.watched_are y).0 (second_of_both _ _ both) in
                let other = first_of_both (not (eq_by_cmp name_cmp y x)) (set.contains w.watched y) both in (
                  at.0,
                  left at.0 y at.2 other
                      (contains_cases p rest at.0 (Contains-permutation h.watched (p ∷ rest) at.0 moved at.1)),
                  at.2,
                ))),
            λ at. set.contains-remove names_total w.watched x y
                ∙ both_of (not (eq_by_cmp name_cmp y x)) (set.contains w.watched y)
                (other_name rest once at.0 y at.1 at.2 (eq_by_cmp name_cmp y x) refl)
                ((n.watched_are y).1 (at.0, back at.0 at.1, at.2)),
          );
          watched_held = λ q has. n.watched_held q (back q has);
          once = IsDistinct-tail is_same p rest once;
        }
      where
        left : (q : Place) (y : Name) → name_at s q ≡ Some y → not (eq_by_cmp name_cmp y x) ≡ true
            → (p ≡ q) ⊎ Contains (without_watched h p).watched q → Contains (without_watched h p).watched q
        left q y at other (inl same) = absurd (
            let one : Some x ≡ Some y = sym named ∙ (ap (name_at s) same ∙ at) in
            let is : x ≡ y = cc one in
            let equal = subst (λ (z : Name). eq_by_cmp name_cmp z x ≡ true) is (eq_name-refl x) in
            cc (equal, other))
        left q y at other (inr tail) = tail

        other_name : (rest : List Place) → IsDistinct is_same (p ∷ rest) → (q : Place) (y : Name) → Contains rest q
            → name_at s q ≡ Some y → (b : Bool) → eq_by_cmp name_cmp y x ≡ b → not (eq_by_cmp name_cmp y x) ≡ true
        other_name rest once q y has at true e = absurd (
            let same : q ≡ p = apart q p x (at ∙ ap (λ (z : Name). Some z) (eq_name-is y x e)) named in
            let apart_from = all_have (λ (z : Place). is_same p z ≡ false) rest q
            (IsDistinct-head is_same p rest once) has in
            let none : is_same p p ≡ false = ap (is_same p) (sym same) ∙ apart_from in
            cc (none, same-true p))
        other_name rest once q y has at false e = ap not e

    -- one that was not is none then either
    pub names_unwatched : is_watched h p ≡ false → NamesWeakly s (without_watched h p) w
    names_unwatched none = subst (λ (ps : List Place). NamesWeakly s (record h { watched = ps }) w)
        (sym (not_taken h.watched p none)) (record {
          slots_are = n.slots_are;
          slots_held = n.slots_held;
          watched_are = n.watched_are;
          watched_held = n.watched_held;
          once = n.once;
        })
