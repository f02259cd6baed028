-- What is named weakly after a compaction: the same cells, where they went.
use Rattle.std.proofs.Common.{◌≡◌, Bool, true, false, List, [], ◌∷◌, map, Option, Some, None, Contains, refl}
use Rattle.std.proofs.Common.{sym, ap, subst, ◌∙◌, inl, inr}
use Rattle.std.specs.List.{AllByRecursion, IsDistinct}
use Rattle.std.specs.Option.{option_map}
use Rattle.gz_names.specs.Moves.{moved}
use Rattle.gz_names.specs.declared.names.Name.{Name}
use Rattle.gz_names.specs.declared.numbers.Place.{Place}
use Rattle.gz_names.proofs.Moving.{same-places, same-true}
use Rattle.weak_refs.specs.WeakNames.{is_same, names_forwarded}
use Rattle.colour_defs.specs.World.{World}
use Rattle.colour_defs.proofs.Lists.{contains_cases, contains_head, contains_tail, nothing_in_none}
use Rattle.heap_core.specs.Heap.{HeapState}
use Rattle.heap_core.specs.Shape.{IsPresent, Shape, held_name, name_at}
use Rattle.slice_driver.specs.Worlds.{NamesWeakly}
use Rattle.slice_driver.proofs.abstraction.Named.{name_of, named_present, some_one}
use Rattle.slice_driver.proofs.packing.Names.{name_went}
use Rattle.slice_driver.proofs.packing.Packed.{Packed}

-- the images of a list's elements
pub came : {X Y : Type 0} (f : X → Y) (xs : List X) (y : Y) → Contains (map f xs) y
    → (x : X) × Contains xs x × (f x ≡ y)
came f [] y c = absurd (nothing_in_none y c)
came f (x ∷ xs) y c = elim (contains_cases (f x) (map f xs) y c) [
  | inl e ↦ (x, contains_head x xs, e)
  | inr later ↦ (let r = came f xs y later in (r.0, contains_tail x xs r.0 r.1, r.2))
]

went : {X Y : Type 0} (f : X → Y) (xs : List X) (x : X) → Contains xs x → Contains (map f xs) (f x)
went f [] x c = absurd (nothing_in_none x c)
went f (y ∷ xs) x c = elim (contains_cases y xs x c) [
  | inl e ↦ subst (λ z. Contains (map f (y ∷ xs)) (f z)) e (contains_head (f y) (map f xs))
  | inr later ↦ contains_tail (f y) (map f xs) (f x) (went f xs x later)
]

module _ (h new : HeapState) (w : World) (packed : Packed h new w) where
  abbrev s : Shape
  s = h.shape

  pub went_there : (q : Place) → IsPresent s q → IsPresent new.shape (moved packed.moves q)
  went_there q there =
      let x = name_of s q there in
      named_present new.shape (moved packed.moves q) x.0 (name_went h new w packed x.0 q x.1)

  -- no two cells came to one place
  pub moved_one : (p q : Place) → IsPresent s p → IsPresent s q → moved packed.moves p ≡ moved packed.moves q → p ≡ q
  moved_one p q here there same =
      let x = name_of s p here in
      let y = name_of s q there in
      let name : x.0 ≡ y.0 = some_one x.0 y.0
      (sym (name_went h new w packed x.0 p x.1)
      ∙ (ap (name_at new.shape) same ∙ name_went h new w packed y.0 q y.1)) in
      packed.lies.shown.apart p q y.0 (subst (λ z. name_at s p ≡ Some z) name x.1) y.1

  pub moved_apart : (p q : Place) → IsPresent s p → IsPresent s q → is_same p q ≡ false
      → is_same (moved packed.moves p) (moved packed.moves q) ≡ false
  moved_apart p q here there apart = by (is_same (moved packed.moves p) (moved packed.moves q)) refl
    where
      by : (b : Bool) → is_same (moved packed.moves p) (moved packed.moves q) ≡ b
          → is_same (moved packed.moves p) (moved packed.moves q) ≡ false
      by false e = e
      by true e = absurd (
          let one = moved_one p q here there (same-places (moved packed.moves p) (moved packed.moves q) e) in
          let same = subst (λ z. is_same p z ≡ true) one (same-true p) in cc (same, apart))

  distinct_moved : (ps : List Place) → ((p : Place) → Contains ps p → IsPresent s p) → IsDistinct is_same ps
      → IsDistinct is_same (map (moved packed.moves) ps)
  unfolding IsDistinct
  distinct_moved [] there once = tt
  distinct_moved (p ∷ ps) there once = (
    others ps (λ q c. there q (contains_tail p ps q c)) once.0,
    distinct_moved ps (λ q c. there q (contains_tail p ps q c)) once.1,
  )
    where
      others : (qs : List Place) → ((q : Place) → Contains qs q → IsPresent s q)
          → AllByRecursion (λ q. is_same p q ≡ false) qs
          → AllByRecursion (λ q. is_same (moved packed.moves p) q ≡ false) (map (moved packed.moves) qs)
      others [] here all = tt
      others (q ∷ qs) here all = (
        moved_apart p q (there p (contains_head p ps)) (here q (contains_head q qs)) all.0,
        others qs (λ r c. here r (contains_tail q qs r c)) all.1,
      )

  slots_same : (xs : List (Option Place)) → ((p : Place) → Contains xs (Some p) → IsPresent s p)
      → map (held_name s) xs ≡ map (held_name new.shape) (map (option_map (moved packed.moves)) xs)
  slots_same [] there = refl
  slots_same (None ∷ xs) there = ap (λ (ys : List (Option Name)). None ∷ ys)
      (slots_same xs (λ p c. there p (contains_tail None xs (Some p) c)))
  slots_same (Some p ∷ xs) there =
      let rest = slots_same xs (λ q c. there q (contains_tail (Some p) xs (Some q) c)) in
      let x = name_of s p (there p (contains_head (Some p) xs)) in
      ap (λ (ys : List (Option Name)). name_at s p ∷ ys) rest
      ∙ ap (λ (o : Option Name). o ∷ map (held_name new.shape) (map (option_map (moved packed.moves)) xs))
      (x.1 ∙ sym (name_went h new w packed x.0 p x.1))

  pub names_weakly_moved : NamesWeakly new.shape (names_forwarded packed.moves h.weak_names) w.weak
  names_weakly_moved = record {
    slots_are = packed.lies.weak_are.slots_are ∙ slots_same h.weak_names.slots packed.lies.weak_are.slots_held;
    slots_held = λ p c. (let r = came (option_map (moved packed.moves)) h.weak_names.slots (Some p) c in
        held r.0 p r.1 r.2);
    watched_are = λ x. (
      λ has. (let r = (packed.lies.weak_are.watched_are x).0 has in (
        moved packed.moves r.0,
        went (moved packed.moves) h.weak_names.watched r.0 r.1,
        name_went h new w packed x r.0 r.2,
      )),
      λ r. (let from = came (moved packed.moves) h.weak_names.watched r.0 r.1 in
          let y = name_of s from.0 (packed.lies.weak_are.watched_held from.0 from.1) in
          let same : y.0 ≡ x = some_one y.0 x
          (sym (name_went h new w packed y.0 from.0 y.1)
          ∙ (ap (name_at new.shape) from.2 ∙ r.2)) in
          (packed.lies.weak_are.watched_are x).1
          (from.0, from.1, subst (λ z. name_at s from.0 ≡ Some z) same y.1)),
    );
    watched_held = λ p c. (let r = came (moved packed.moves) h.weak_names.watched p c in
        subst (IsPresent new.shape) r.2 (went_there r.0 (packed.lies.weak_are.watched_held r.0 r.1)));
    once = distinct_moved h.weak_names.watched packed.lies.weak_are.watched_held packed.lies.weak_are.once;
  }
    where
      held : (o : Option Place) (p : Place) → Contains h.weak_names.slots o → option_map (moved packed.moves) o ≡ Some p
          → IsPresent new.shape p
      held None p c e = absurd (cc e)
      held (Some q) p c e = subst (IsPresent new.shape) (some_one (moved packed.moves q) p e)
          (went_there q (packed.lies.weak_are.slots_held q c))
