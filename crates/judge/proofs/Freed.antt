-- The free slots of some arenas, ascending.
use Rattle.std.proofs.Common.{◌≡◌, ◌∙◌, inl, inr, ℕ, zero, suc, ◌+◌, ◌-◌, ◌<◌, ◌≤◌, Bool, true, false, cond, List}
use Rattle.std.proofs.Common.{[], ◌∷◌, ◌++◌, drop, get_or, length, Option, Some, None, Contains, is_some, refl, sym, ap}
use Rattle.std.proofs.Common.{subst, arith, eqb, eqb-true, eq-eqb}
use Rattle.std.specs.BTreeMap as tree
use Rattle.std.proofs.lemmas.List.{drop_more}
use Rattle.std.proofs.lemmas.List.Elements.{Contains-append_cases, Contains-append_left, Contains-append_right}
use Rattle.gz_names.specs.declared.names.Name.{Name}
use Rattle.gz_names.specs.declared.numbers.Place.{Place}
use Rattle.colour_defs.specs.Compaction.{IsBefore}
use Rattle.colour_defs.specs.Ends.{arenas_from}
use Rattle.colour_defs.specs.Graph.{is_among}
use Rattle.colour_defs.proofs.Lists.{nothing_in_none, contains_head, contains_tail, contains_cases}
use Rattle.judge.specs.Compaction.{AreSorted, free_in, free_slots}
use Rattle.judge.specs.Places.{Lying, place_order}
use Rattle.judge.proofs.Owners.{from_first}

-- the first of the slots that are left
pub slots_first : (taken : Lying) (a n : ℕ) → n < 64
    → free_slots taken a n (64 - n)
    ≡ cond (is_some (tree.get place_order taken (a, n))) (free_slots taken a (n + 1) (64 - (n + 1)))
    ((a, n) ∷ free_slots taken a (n + 1) (64 - (n + 1)))
unfolding free_slots
slots_first taken a n below = ap (free_slots taken a n) next
  where
    next : 64 - n ≡ suc (64 - (n + 1))
    next = omega arith

pub slots_over : (taken : Lying) (a n : ℕ) → 64 ≤ n → free_slots taken a n (64 - n) ≡ []
unfolding free_slots
slots_over taken a n over = ap (free_slots taken a n) none
  where
    none : 64 - n ≡ 0
    none = omega arith

-- the first of the arenas that are left
pub in_first : (taken : Lying) (arenas : List ℕ) (i d : ℕ) → i < length arenas
    → free_in taken (drop i arenas)
    ≡ free_slots taken (get_or arenas i d) 0 64 ++ free_in taken (drop (i + 1) arenas)
unfolding free_in
in_first taken arenas i d below = ap (free_in taken) (drop_more arenas i d below)

pub in_none : (taken : Lying) (arenas : List ℕ) → arenas ≡ [] → free_in taken arenas ≡ []
unfolding free_in
in_none taken arenas e = ap (free_in taken) e

-- places that ascend
pub sorted_both : (ps qs : List Place) → AreSorted ps → AreSorted qs
    → ((p q : Place) → Contains ps p → Contains qs q → IsBefore p q) → AreSorted (ps ++ qs)
sorted_both [] qs s t b = t
sorted_both (p ∷ ps) qs s t b = (
  λ q c. elim (Contains-append_cases ps qs q c) [
    | inl l ↦ s.0 q l
    | inr r ↦ b p q (contains_head p ps) r
  ],
  sorted_both ps qs s.1 t (λ x y c d. b x y (contains_tail p ps x c) d),
)

-- a free slot of an arena, from one slot on
pub record IsFreeSlot (taken : Lying) (a n count : ℕ) (p : Place) : Type 0 where
  pub of : p.0 ≡ a
  pub from : n ≤ p.1
  pub below : p.1 < n + count
  pub free : tree.get place_order taken p ≡ None

pub slots_has : (taken : Lying) (a n count : ℕ) (p : Place) → Contains (free_slots taken a n count) p
    → IsFreeSlot taken a n count p
unfolding free_slots
slots_has taken a n zero p c = absurd (nothing_in_none p c)
slots_has taken a n (suc count) p c =
    go (λ t. later (slots_has taken a (n + 1) count p t)) (tree.get place_order taken (a, n)) refl c
  where
    later : IsFreeSlot taken a (n + 1) count p → IsFreeSlot taken a n (suc count) p
    later h = record {
      of = h.of;
      from = omega (arith, h.from);
      below = omega (arith, h.below);
      free = h.free;
    }

    go : (Contains (free_slots taken a (n + 1) count) p → IsFreeSlot taken a n (suc count) p) → (o : Option Name)
        → tree.get place_order taken (a, n) ≡ o
        → Contains (cond (is_some o) (free_slots taken a (n + 1) count) ((a, n) ∷ free_slots taken a (n + 1) count)) p
        → IsFreeSlot taken a n (suc count) p
    go rest (Some x) is t = rest t
    go rest None is t = elim (contains_cases (a, n) (free_slots taken a (n + 1) count) p t) [
      | inl e ↦ record {
        of = ap (λ (q : Place). q.0) (sym e);
        from = (let at : n ≡ p.1 = ap (λ (q : Place). q.1) e in omega (arith, at));
        below = (let at : n ≡ p.1 = ap (λ (q : Place). q.1) e in omega (arith, at));
        free = ap (tree.get place_order taken) (sym e) ∙ is;
      }
      | inr l ↦ rest l
    ]

pub slots_from : (taken : Lying) (a n count : ℕ) (p : Place) → IsFreeSlot taken a n count p
    → Contains (free_slots taken a n count) p
unfolding free_slots
slots_from taken a n zero p f = absurd (omega (arith, f.from, f.below))
slots_from taken a n (suc count) p f =
    go (λ other. slots_from taken a (n + 1) count p (later other)) (tree.get place_order taken (a, n)) refl
  where
    later : (n ≡ p.1 → ⊥) → IsFreeSlot taken a (n + 1) count p
    later other = record {
      of = f.of;
      from = omega (arith, f.from, other);
      below = omega (arith, f.below);
      free = f.free;
    }

    it : n ≡ p.1 → (a, n) ≡ p
    it e = λ i. (sym f.of i, e i)

    go : ((n ≡ p.1 → ⊥) → Contains (free_slots taken a (n + 1) count) p) → (o : Option Name)
        → tree.get place_order taken (a, n) ≡ o
        → Contains (cond (is_some o) (free_slots taken a (n + 1) count) ((a, n) ∷ free_slots taken a (n + 1) count)) p
    go rest (Some x) is = rest (λ e. let t = sym is ∙ ap (tree.get place_order taken) (it e) ∙ f.free in cc t)
    go rest None is = by (eqb n p.1) refl
      where
        by : (b : Bool) → eqb n p.1 ≡ b → Contains ((a, n) ∷ free_slots taken a (n + 1) count) p
        by true e = subst (λ (q : Place). Contains ((a, n) ∷ free_slots taken a (n + 1) count) q)
            (it (eqb-true n p.1 e)) (contains_head (a, n) (free_slots taken a (n + 1) count))
        by false e = contains_tail (a, n) (free_slots taken a (n + 1) count) p
            (rest (λ same. let t = eq-eqb n p.1 same in cc (t, e)))

pub slots_sorted : (taken : Lying) (a n count : ℕ) → AreSorted (free_slots taken a n count)
unfolding free_slots
slots_sorted taken a n zero = tt
slots_sorted taken a n (suc count) =
    go (slots_sorted taken a (n + 1) count) (is_some (tree.get place_order taken (a, n)))
  where
    go : AreSorted (free_slots taken a (n + 1) count) → (b : Bool)
        → AreSorted (cond b (free_slots taken a (n + 1) count) ((a, n) ∷ free_slots taken a (n + 1) count))
    go rest true = rest
    go rest false = (
      λ q c. (let h = slots_has taken a (n + 1) count q c in inr (sym h.of, omega (arith, h.from))),
      rest,
    )

-- numbers that ascend, from one on
abbrev pub Ascend : ℕ → List ℕ → Type 0
Ascend n [] = Unit {0}
Ascend n (a ∷ ns) = (n ≤ a) × Ascend (a + 1) ns

pub ascend_from : (n m : ℕ) (ns : List ℕ) → m ≤ n → Ascend n ns → Ascend m ns
ascend_from n m [] le up = tt
ascend_from n m (a ∷ ns) le up = (omega (arith, le, up.0), up.1)

pub ascend_least : (n : ℕ) (ns : List ℕ) (b : ℕ) → Ascend n ns → Contains ns b → n ≤ b
ascend_least n [] b up c = absurd (nothing_in_none b c)
ascend_least n (a ∷ ns) b up c = elim (contains_cases a ns b c) [
  | inl e ↦ omega (arith, up.0, e)
  | inr t ↦ (let h = ascend_least (a + 1) ns b up.1 t in omega (arith, up.0, h))
]

pub ascend_first : (n : ℕ) (ns bs : List ℕ) → Ascend n (ns ++ bs) → Ascend n ns
ascend_first n [] bs up = tt
ascend_first n (a ∷ ns) bs up = (up.0, ascend_first (a + 1) ns bs up.1)

pub ascend_apart : (n : ℕ) (ns bs : List ℕ) → Ascend n (ns ++ bs) → (a b : ℕ) → Contains ns a → Contains bs b → a < b
ascend_apart n [] bs up a b c d = absurd (nothing_in_none a c)
ascend_apart n (x ∷ ns) bs up a b c d = elim (contains_cases x ns a c) [
  | inl e ↦ (let h = ascend_least (x + 1) (ns ++ bs) b up.1 (Contains-append_right ns bs b d) in omega (arith, h, e))
  | inr t ↦ ascend_apart (x + 1) ns bs up.1 a b t d
]

pub numbers_ascend : (n : ℕ) (os : List (Option ℕ)) (zones : List ℕ) → Ascend n (arenas_from n os zones)
numbers_ascend n [] zones = tt
numbers_ascend n (o ∷ os) zones =
    subst (Ascend n) (sym (from_first n o os zones)) (go (numbers_ascend (n + 1) os zones) (is_among zones o))
  where
    go : Ascend (n + 1) (arenas_from (n + 1) os zones) → (b : Bool)
        → Ascend n (cond b (n ∷ arenas_from (n + 1) os zones) (arenas_from (n + 1) os zones))
    go rest true = (omega arith, rest)
    go rest false = ascend_from (n + 1) n (arenas_from (n + 1) os zones) (omega arith) rest

-- they are numbers of arenas
pub numbers_below : (n : ℕ) (os : List (Option ℕ)) (zones : List ℕ) (a : ℕ) → Contains (arenas_from n os zones) a
    → a < n + length os
numbers_below n [] zones a c = absurd (nothing_in_none a c)
numbers_below n (o ∷ os) zones a c =
    go (λ d. numbers_below (n + 1) os zones a d) (is_among zones o)
    (subst (λ ns. Contains ns a) (from_first n o os zones) c)
  where
    go : (Contains (arenas_from (n + 1) os zones) a → a < n + 1 + length os) → (b : Bool)
        → Contains (cond b (n ∷ arenas_from (n + 1) os zones) (arenas_from (n + 1) os zones)) a
        → a < n + suc (length os)
    go more true c = elim (contains_cases n (arenas_from (n + 1) os zones) a c) [
      | inl e ↦ omega (arith, e)
      | inr t ↦ (let h = more t in omega (arith, h))
    ]
    go more false c = (let h = more c in omega (arith, h))

-- a free slot of some arenas
pub record IsFreeOf (taken : Lying) (arenas : List ℕ) (p : Place) : Type 0 where
  pub of : Contains arenas p.0
  pub below : p.1 < 64
  pub free : tree.get place_order taken p ≡ None

pub in_has : (taken : Lying) (arenas : List ℕ) (p : Place) → Contains (free_in taken arenas) p
    → IsFreeOf taken arenas p
unfolding free_in
in_has taken [] p c = absurd (nothing_in_none p c)
in_has taken (a ∷ arenas) p c =
    elim (Contains-append_cases (free_slots taken a 0 64) (free_in taken arenas) p c) [
      | inl l ↦ (let h = slots_has taken a 0 64 p l in record {
        of = subst (Contains (a ∷ arenas)) (sym h.of) (contains_head a arenas);
        below = omega (arith, h.below);
        free = h.free;
      })
      | inr r ↦ (let h = in_has taken arenas p r in record {
        of = contains_tail a arenas p.0 h.of;
        below = h.below;
        free = h.free;
      })
    ]

pub in_from : (taken : Lying) (arenas : List ℕ) (p : Place) → IsFreeOf taken arenas p
    → Contains (free_in taken arenas) p
unfolding free_in
in_from taken [] p f = absurd (nothing_in_none p.0 f.of)
in_from taken (a ∷ arenas) p f = elim (contains_cases a arenas p.0 f.of) [
  | inl e ↦ Contains-append_left (free_slots taken a 0 64) (free_in taken arenas) p (slots_from taken a 0 64 p (record {
    of = sym e;
    from = omega arith;
    below = omega (arith, f.below);
    free = f.free;
  }))
  | inr t ↦ Contains-append_right (free_slots taken a 0 64) (free_in taken arenas) p (in_from taken arenas p (record {
    of = t;
    below = f.below;
    free = f.free;
  }))
]

pub in_sorted : (taken : Lying) (n : ℕ) (arenas : List ℕ) → Ascend n arenas → AreSorted (free_in taken arenas)
unfolding free_in
in_sorted taken n [] up = tt
in_sorted taken n (a ∷ arenas) up =
    sorted_both (free_slots taken a 0 64) (free_in taken arenas) (slots_sorted taken a 0 64)
    (in_sorted taken (a + 1) arenas up.1)
    (λ p q c d. (let f = slots_has taken a 0 64 p c in
    let g = in_has taken arenas q d in
    let h = ascend_least (a + 1) arenas q.0 up.1 g.of in inl (omega (arith, f.of, h))))
