-- Where a new cell lies.
use Rattle.std.proofs.Common.{◌≡◌, ◌∙◌, ◌⊎◌, inl, inr, ℕ, zero, suc, ◌<◌, ◌≤◌, Bool, true, false, List, [], ◌∷◌}
use Rattle.std.proofs.Common.{◌++◌, length}
use Rattle.std.proofs.Common.{reverse, Contains, Option, Some, None, refl, sym, ap, arith, subst}
use Rattle.std.specs.Prelude.{slice_get}
use Rattle.std.specs.BTreeMap as tree
use Rattle.std.specs.FinMap as map
use Rattle.std.proofs.lemmas.Option.{slice_get_within}
use Rattle.gz_names.specs.declared.names.Name.{Name}
use Rattle.gz_names.specs.declared.numbers.Place.{Place}
use Rattle.colour_defs.specs.World.{IsFreeSlot, IsPlaceFor, World}
use Rattle.plain_graph.specs.Indexed.{order_of}
use Rattle.judge.specs.Arenas.{AreSameSlots, HasSlots, flags_in, owners_in}
use Rattle.judge.specs.Cells.{Cells}
use Rattle.judge.specs.Places.{AreLaid, AreSpread, IsEmpty, place_order}
use Rattle.judge.specs.Slots.{IsFull, IsOpen}
use Rattle.judge.proofs.Slots.{at_least}
use Rattle.judge.specs.declared.arenas.Arenas.{Arenas}
use Rattle.std.proofs.lemmas.List.{reverse-append, reverse-reverse}
use Rattle.std.proofs.lemmas.List.Elements.{Contains-append_cases, Contains-append_left}
use Rattle.std.proofs.lemmas.List.Elements.{Contains-append_right}
use Rattle.judge.specs.Slots.{flags_of, owners_of}
use Rattle.judge.specs.declared.arenas.Arena.{Arena}

-- what is on a list that is turned round is on the list
contains_reversed : (xs : List ℕ) (n : ℕ) → Contains (reverse xs) n → Contains xs n
contains_reversed [] n c = c
contains_reversed (x ∷ xs) n c =
    elim (Contains-append_cases (reverse xs) (x ∷ []) n (subst (λ ns. Contains ns n) (reverse-append (x ∷ []) xs) c)) [
      | inl rest ↦ Contains-append_right (x ∷ []) xs n (contains_reversed xs n rest)
      | inr one ↦ Contains-append_left (x ∷ []) xs n one
    ]

-- an arena that is there says whether it is out
flag_at : (arenas : List Arena) (n : ℕ) (o : Option ℕ) → slice_get (owners_of arenas) n ≡ Some o
    → (slice_get (flags_of arenas) n ≡ Some true → ⊥) → slice_get (flags_of arenas) n ≡ Some false
flag_at [] n o at un = absurd (cc at)
flag_at (a ∷ arenas) zero o at un = go a.is_out refl
  where
    go : (b : Bool) → a.is_out ≡ b → Some a.is_out ≡ Some false
    go true e = absurd (un (ap Some e))
    go false e = ap Some e
flag_at (a ∷ arenas) (suc n) o at un = flag_at arenas n o at un

-- a slot is found: it is empty, and so is none below it, nor any in an arena below
pub record IsFound (a : Arenas) (z : ℕ) (p : Place) : Type 0 where
  pub opened : IsOpen (owners_in a) (flags_in a) z p.0
  pub below : p.1 < 64
  pub empty : IsEmpty a.lying p
  pub slots : (s : ℕ) → s < p.1 → IsEmpty a.lying (p.0, s) → ⊥
  pub arenas : (n : ℕ) → n < p.0 → IsFull (owners_in a) (flags_in a) a.lying z n

module _ (a : Arenas) (w : World) (has : HasSlots a w) (z : ℕ) where
  is_open : (q : ℕ × ℕ) → IsFreeSlot w z q → IsOpen (owners_in a) (flags_in a) z q.0
  is_open q f =
      let owned : slice_get (owners_in a) q.0 ≡ Some (Some z) =
      subst (λ os. slice_get os q.0 ≡ Some (Some z)) has.owners_are f.owned in (
        owned,
        flag_at a.arenas.items q.0 (Some z) owned (λ e. a.kept.flagged.only q.0 e (λ c. f.not_out
            (subst (λ os. Contains os q.0) (sym has.out_is) (contains_reversed (reverse a.out.items) q.0
            (subst (λ os. Contains os q.0) (sym (reverse-reverse a.out.items)) c))))),
      )

  none_in : (n : ℕ) → IsFull (owners_in a) (flags_in a) a.lying z n → (q : ℕ × ℕ) → q.0 ≡ n → IsFreeSlot w z q → ⊥
  none_in n full q at f =
      has.taken q (subst (λ k. IsFull (owners_in a) (flags_in a) a.lying z k) (sym at) full (is_open q f) q.1 f.below)
      f.free

  free_slot : (p : Place) → IsFound a z p → IsFreeSlot w z p
  free_slot p found = record {
    owned = subst (λ os. slice_get os p.0 ≡ Some (Some z)) (sym has.owners_are) found.opened.0;
    not_out = λ c. a.kept.flagged.said p.0 (contains_reversed a.out.items p.0
        (subst (λ os. Contains os p.0) has.out_is c)) (λ e. let no = found.opened.1 in cc (e, no));
    below = found.below;
    free = has.empty p found.empty;
  }

  lowest : (p : Place) → IsFound a z p → (q : ℕ × ℕ) → IsFreeSlot w z q
      → (p.0 < q.0) ⊎ ((p.0 ≡ q.0) × (p.1 ≤ q.1))
  lowest p found q f = elim (at_least q.0 p.0) [
    | inl most ↦ elim (at_least p.0 q.0) [
      | inl least ↦ inr (
        omega arith,
        elim (at_least q.1 p.1) [
          | inl le ↦ le
          | inr lower ↦
              let at : p.0 ≡ q.0 = omega arith in
              absurd (has.taken q (subst (λ k. IsEmpty a.lying (k, q.1) → ⊥) at (found.slots q.1 lower)) f.free)
        ],
      )
      | inr less ↦ inl less
    ]
    | inr less ↦ absurd (none_in q.0 (found.arenas q.0 less) q refl f)
  ]

pub found_place : (a : Arenas) (z : ℕ) (p : Place) → IsFound a z p → (w : World) → HasSlots a w
    → IsPlaceFor w z p (owners_in a)
found_place a z p found w has =
    inl (free_slot a w has z p found, sym has.owners_are, lowest a w has z p found)

pub found_in : (a b : Arenas) (z n : ℕ) (p : Place) → AreSameSlots a b → (p.0 ≡ n) × (p.1 < 64)
    × IsOpen (owners_in b) (flags_in b) z n × IsEmpty b.lying p × ((s : ℕ) → s < p.1 → IsEmpty b.lying (n, s) → ⊥)
    → ((m : ℕ) → m < n → IsFull (owners_in a) (flags_in a) a.lying z m) → IsFound a z p
found_in a b z n p same (at, below, opened, empty, slots) full = record {
  opened = subst (λ k. IsOpen (owners_in a) (flags_in a) z k) (sym at)
      (subst (λ os. IsOpen os (flags_in a) z n) same.arenas.owners
      (subst (λ fs. IsOpen (owners_in b) fs z n) same.flags opened));
  below = below;
  empty = subst (λ l. IsEmpty l p) same.lying empty;
  slots = λ s less e. slots s less (subst (λ k. IsEmpty b.lying (k, s)) at
      (subst (λ l. IsEmpty l (p.0, s)) (sym same.lying) e));
  arenas = λ m less. full m (subst (λ k. m < k) at less);
}

-- where each arena of a zone is full one is made
pub new_place : (a : Arenas) (z : ℕ) (p : Place) (owners : List (Option ℕ))
    → ((n : ℕ) → n < length (owners_in a) → IsFull (owners_in a) (flags_in a) a.lying z n)
    → p ≡ (length (owners_in a), 0) → owners ≡ owners_in a ++ Some z ∷ [] → (w : World) → HasSlots a w
    → IsPlaceFor w z p owners
new_place a z p owners full at is w has = inr (
  λ q f. none_in a w has z q.0 (full q.0 (slice_get_within (owners_in a) q.0 (Some z) (is_open a w has z q f).0)) q
      refl f,
  at ∙ ap (λ os. (length os, 0)) (sym has.owners_are),
  is ∙ ap (λ os. os ++ Some z ∷ []) (sym has.owners_are),
)

-- the judge's world stands for a world of the definitions in which its cells lie
pub slots_as : (cells : Cells) (a : Arenas) (w : World) → AreLaid cells a.lying → w.owner ≡ owners_in a
    → w.out ≡ reverse a.out.items → ((x : Name) → map.get w.places x ≡ tree.get order_of cells x) → HasSlots a w
slots_as cells a w laid owners out places = record {
  owners_are = owners;
  out_is = out;
  empty = λ p e x is. laid.there x p (sym (places x) ∙ is) (λ h. cc (h, e));
  taken = λ p un free. go p un free (tree.get place_order a.lying p) refl;
}
  where
    go : (p : Place) → (IsEmpty a.lying p → ⊥) → ((x : Name) → map.get w.places x ≡ Some p → ⊥) → (o : Option Name)
        → tree.get place_order a.lying p ≡ o → ⊥
    go p un free None e = un e
    go p un free (Some x) e = laid.back x p e (λ h. free x (places x ∙ h))

-- no two of its cells have one place
pub spread_of : (cells : Cells) (a : Arenas) → AreLaid cells a.lying → AreSpread cells
spread_of cells a laid = record {
  apart = λ x y p at too un. laid.there x p at (λ h. laid.there y p too (λ k.
      un (let e : Some x ≡ Some y = sym h ∙ k in cc e)));
  below = λ x p at. elim (at_least p.1 64) [
    | inl past ↦ absurd (laid.there x p at (λ h. a.kept.below p past (λ none. cc (h, none))))
    | inr less ↦ less
  ];
}
