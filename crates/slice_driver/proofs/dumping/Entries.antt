-- The weak entries by names: all of them, and none twice.
use Rattle.std.proofs.Common.{◌≡◌, ◌↔◌, ◌<◌, ◌++◌, ◌∷◌, [], ℕ, zero, suc, Bool, true, false, List, Option, Some}
use Rattle.std.proofs.Common.{None, length, map, Contains, IsTrue, append-nil, slice_get, get_or, ◌+◌, refl, sym, ap}
use Rattle.std.proofs.Common.{subst, ◌∙◌, inl, inr, arith}
use Rattle.std.specs.List.{AllByRecursion, IsDistinct}
use Rattle.std.specs.List.Sorted.{IsPermutation, IsSorted}
use Rattle.std.specs.declared.cmp.Ordering.{Ordering}
use Rattle.std.specs.declared.cmp.Ordering.TheVariants.{Less, Equal, Greater}
use Rattle.std.specs.Ordering.{is_eq, is_lt, ordering_reverse, ordering_then}
use Rattle.std.specs.Cmp.{IsTotalOrder}
use Rattle.std.proofs.lemmas.Bool.{cases_lt}
use Rattle.std.proofs.lemmas.Cmp.{on_total, then_total}
use Rattle.std.proofs.lemmas.Option.{get_or_from_slice_get, slice_get-get_or, slice_get_within}
use Rattle.std.proofs.lemmas.List.{map-append}
use Rattle.std.proofs.lemmas.List.Elements.{Contains-append_cases, Contains-append_left, Contains-append_right}
use Rattle.std.proofs.lemmas.List.Sorted.{Contains-permutation, IsPermutation-map, IsPermutation-sym, sorted_far}
use Rattle.std.proofs.lemmas.List.MinMax.{ranks_by}
use Rattle.std.proofs.lemmas.Map.Keys.{IsDistinct-IsPermutation}
use Rattle.gz_names.specs.Order.{name_cmp, names_total}
use Rattle.gz_names.specs.declared.names.Name.{Name}
use Rattle.gz_names.specs.declared.names.Name.TheVariants.{Cell, Wrap}
use Rattle.gz_names.specs.declared.numbers.Place.{Place}
use Rattle.weak_maps.specs.WeakMaps.{IsSound, WeakTableState, value_of}
use Rattle.weak_maps.specs.Entries.{AreDistinct, value_at}
use Rattle.colour_defs.specs.Dumps.{IsAscendingWeak, WeakLine}
use Rattle.colour_defs.proofs.Lists.{contains_at, contains_cases, contains_head, contains_tail, nothing_in_none}
use Rattle.colour_defs.proofs.Names.{names_apart}
use Rattle.heap_core.specs.Shape.{Shape, name_at}
use Rattle.weak_maps.specs.declared.entries.WeakEntry.{WeakEntry}
use Rattle.slice_driver.specs.Listings.{AreNamedApart, IsEntryOf, ListsEntries, entries_below, entry_at, entry_in}
use Rattle.slice_driver.specs.Listings.{entry_named, listed_entry, weak_of}
use Rattle.slice_driver.specs.declared.listings.NamedEntry.{NamedEntry}
use Rattle.slice_driver.proofs.dumping.Worlds.{weak_from}

-- by map, then by key
abbrev pub key_cmp : WeakLine → WeakLine → Ordering
key_cmp e d = ordering_then (name_cmp (Cell e.map) (Cell d.map)) (name_cmp e.key d.key)

keys_total : IsTotalOrder key_cmp
keys_total = then_total (on_total (λ (e : WeakLine). Cell e.map) names_total)
    (on_total (λ (e : WeakLine). e.key) names_total)

abbrev same_key : WeakLine → WeakLine → Bool
same_key e d = is_eq (key_cmp e d)

eq_reverse : (o : Ordering) → is_eq (ordering_reverse o) ≡ is_eq o
eq_reverse Less = refl
eq_reverse Equal = refl
eq_reverse Greater = refl

flips : (e d : WeakLine) → same_key e d ≡ same_key d e
flips e d = ap is_eq (keys_total.antisymm e d) ∙ eq_reverse (key_cmp d e)

by_order : (e d : WeakLine) (o : Ordering) → key_cmp e d ≡ o → is_lt (key_cmp d e) ≡ false → same_key e d ≡ false
    → is_lt o ≡ true
by_order e d Less is later other = refl
by_order e d Equal is later other = absurd (let t = sym (ap is_eq is) ∙ other in cc t)
by_order e d Greater is later other =
    absurd (let t = sym (ap is_lt (keys_total.antisymm d e ∙ ap ordering_reverse is)) ∙ later in cc t)

below_all : (e : WeakLine) (es : List WeakLine)
    → ((k : ℕ) (d : WeakLine) → k < length es → is_lt (key_cmp (get_or es k d) e) ≡ false)
    → AllByRecursion (λ d. same_key e d ≡ false) es → AllByRecursion (λ d. IsTrue (is_lt (key_cmp e d))) es
below_all e [] up other = tt
below_all e (d ∷ es) up other = (
  by_order e d (key_cmp e d) refl (up 0 d (omega arith)) other.0,
  below_all e es (λ k d lt. up (suc k) d (omega arith)) other.1,
)

tail_sorted : (e : WeakLine) (es : List WeakLine) → IsSorted key_cmp (e ∷ es) → IsSorted key_cmp es
tail_sorted e es up =
    λ k d from below. subst (λ (j : ℕ). is_lt (key_cmp (get_or (e ∷ es) j d) (get_or es k d)) ≡ false)
    (let f : suc k + 1 ≡ suc (k + 1) = omega arith in f) (up (suc k) d (omega arith) (omega arith))

ascends : (es : List WeakLine) → IsSorted key_cmp es → IsDistinct same_key es → IsAscendingWeak es
unfolding IsDistinct
ascends [] up other = tt
ascends (e ∷ es) up other = (
  below_all e es (λ k d lt. sorted_far (λ a b. is_lt (key_cmp a b)) (ranks_by keys_total (λ (d : WeakLine). d))
      (e ∷ es) up 0 (suc k) d (omega arith) (omega arith)) other.0,
  ascends es (tail_sorted e es up) other.1,
)

-- one entry more that has another key
all_last : (e d : WeakLine) (es : List WeakLine) → AllByRecursion (λ x. same_key e x ≡ false) es
    → same_key e d ≡ false → AllByRecursion (λ x. same_key e x ≡ false) (es ++ d ∷ [])
all_last e d [] all last = (last, tt)
all_last e d (x ∷ es) all last = (all.0, all_last e d es all.1 last)

distinct_last : (es : List WeakLine) (d : WeakLine) → IsDistinct same_key es
    → ((e : WeakLine) → Contains es e → same_key e d ≡ false) → IsDistinct same_key (es ++ d ∷ [])
unfolding IsDistinct
distinct_last [] d all other = (tt, tt)
distinct_last (e ∷ es) d all other = (
  all_last e d es all.0 (other e (contains_head e es)),
  distinct_last es d all.1 (λ x c. other x (contains_tail e es x c)),
)

distinct_none : IsDistinct same_key []
unfolding IsDistinct
distinct_none = tt

-- what an entry by names says of its places
record IsNamed (s : Shape) (st : WeakEntry) (e : NamedEntry) : Type 0 where
  map_is : name_at s st.map ≡ Some (Cell e.map)
  key_is : name_at s st.key ≡ Some e.key
  value_is : name_at s st.value ≡ Some e.value

named : (s : Shape) (st : WeakEntry) (e : NamedEntry) → entry_in s (Some st) ≡ Some e → IsNamed s st e
named s st e is = go (name_at s st.map) (name_at s st.key) (name_at s st.value) refl refl refl is
  where
    go : (m k v : Option Name) → name_at s st.map ≡ m → name_at s st.key ≡ k → name_at s st.value ≡ v
        → entry_named m k v ≡ Some e → IsNamed s st e
    go None k v em ek ev is = absurd (cc is)
    go (Some (Wrap c t)) k v em ek ev is = absurd (cc is)
    go (Some (Cell n)) None v em ek ev is = absurd (cc is)
    go (Some (Cell n)) (Some k) None em ek ev is = absurd (cc is)
    go (Some (Cell n)) (Some k) (Some v) em ek ev is =
        let one : record { map = n; key = k; value = v } ≡ e = cc is in record {
          map_is = em ∙ ap (λ (d : NamedEntry). Some (Cell d.map)) one;
          key_is = ek ∙ ap (λ (d : NamedEntry). Some d.key) one;
          value_is = ev ∙ ap (λ (d : NamedEntry). Some d.value) one;
        }

entry_from : (s : Shape) (n : ℕ) (e : NamedEntry) → entry_at s n ≡ Some e → (st : WeakEntry)
    × (slice_get s.weak.entries n ≡ Some st) × IsNamed s st e
entry_from s n e is = go (slice_get s.weak.entries n) refl is
  where
    go : (o : Option WeakEntry) → slice_get s.weak.entries n ≡ o → entry_in s o ≡ Some e → (st : WeakEntry)
        × (slice_get s.weak.entries n ≡ Some st) × IsNamed s st e
    go None at is = absurd (cc is)
    go (Some st) at is = (st, at, named s st e is)

one_listed : (o : Option NamedEntry) (e : NamedEntry) → Contains (listed_entry o) e → o ≡ Some e
one_listed None e c = absurd (nothing_in_none e c)
one_listed (Some d) e c =
    elim (contains_cases d [] e c) [ inl is ↦ ap (λ z. Some z) is | inr none ↦ absurd (nothing_in_none e none) ]

below_listed : (s : Shape) (n : ℕ) (e : NamedEntry) → Contains (entries_below s n) e → (i : ℕ) × (i < n)
    × (entry_at s i ≡ Some e)
below_listed s zero e c = absurd (nothing_in_none e c)
below_listed s (suc n) e c = elim (Contains-append_cases (entries_below s n) (listed_entry (entry_at s n)) e c) [
  | inl early ↦ (let r = below_listed s n e early in (r.0, omega (arith, r.1), r.2))
  | inr last ↦ (n, omega arith, one_listed (entry_at s n) e last)
]

listed_below : (s : Shape) (n i : ℕ) (e : NamedEntry) → i < n → entry_at s i ≡ Some e → Contains (entries_below s n) e
listed_below s zero i e lt is = absurd (omega (arith, lt))
listed_below s (suc n) i e lt is = elim (cases_lt i n) [
  | inl less ↦ Contains-append_left (entries_below s n) (listed_entry (entry_at s n)) e (listed_below s n i e less is)
  | inr more ↦ (let at : i ≡ n = omega (arith, lt, more) in
      Contains-append_right (entries_below s n) (listed_entry (entry_at s n)) e
      (subst (λ o. Contains (listed_entry o) e) (sym (subst (λ j. entry_at s j ≡ Some e) at is))
      (contains_head e [])))
]

then_equal : (a b : Ordering) → is_eq (ordering_then a b) ≡ true → (a ≡ Equal) × (b ≡ Equal)
then_equal Less b is = absurd (cc is)
then_equal Equal Less is = absurd (cc is)
then_equal Equal Equal is = (refl, refl)
then_equal Equal Greater is = absurd (cc is)
then_equal Greater b is = absurd (cc is)

not_true : (b : Bool) → (b ≡ true → ⊥) → b ≡ false
not_true true h = absurd (h refl)
not_true false h = refl

-- each entry is found, and no key of a map has two
record IsFoundOnce (weak : WeakTableState) : Type 0 where
  distinct : AreDistinct weak.entries
  found : (m k v : Place) → Contains weak.entries (record { map = m; key = k; value = v })
      ↔ (value_of weak m k ≡ Some v)

found_once : (weak : WeakTableState) → (0 < length weak.entries → IsSound weak) → IsFoundOnce weak
found_once weak sound = go weak.entries refl
  where
    go : (es : List WeakEntry) → weak.entries ≡ es → IsFoundOnce weak
    go [] is = record {
      distinct = subst AreDistinct (sym is) (λ i j d lt below. absurd (omega (arith, below)));
      found = λ m k v. (
        (λ c. absurd (nothing_in_none _ (subst (λ es. Contains es (record { map = m; key = k; value = v })) is c))),
        (λ e. absurd (let f = sym (ap (λ es. value_at es m k) is) ∙ e in cc f)),
      );
    }
    go (e ∷ es) is =
        let all = sound (subst (λ xs. 0 < length xs) (sym is) (omega arith)) in
        record { distinct = all.distinct; found = all.found }

module _ (s : Shape) (apart : AreNamedApart s) (more : 0 < length s.weak.entries → IsSound s.weak) where
  sound : IsFoundOnce s.weak
  sound = found_once s.weak more

  -- entries at different indices have different keys
  keys_differ : (i n : ℕ) (d e : NamedEntry) → i < n → entry_at s i ≡ Some d → entry_at s n ≡ Some e
      → same_key (weak_of d) (weak_of e) ≡ false
  keys_differ i n d e lt at now = not_true (same_key (weak_of d) (weak_of e)) (λ same. (
      let one = entry_from s i d at in
      let two = entry_from s n e now in
      let both = then_equal (name_cmp (Cell d.map) (Cell e.map)) (name_cmp d.key e.key) same in
      let maps = apart one.0.map two.0.map (Cell e.map)
      (one.2.map_is ∙ ap (λ z. Some z) (names_apart (Cell d.map) (Cell e.map) both.0)) two.2.map_is in
      let keys = apart one.0.key two.0.key e.key
      (one.2.key_is ∙ ap (λ z. Some z) (names_apart d.key e.key both.1)) two.2.key_is in
      let first = get_or_from_slice_get s.weak.entries i one.0 one.0 one.1 in
      let second = get_or_from_slice_get s.weak.entries n two.0 one.0 two.1 in
      sound.distinct i n one.0 lt (slice_get_within s.weak.entries n two.0 two.1)
      (ap (λ (st : WeakEntry). st.map) first ∙ (maps ∙ sym (ap (λ (st : WeakEntry). st.map) second)))
      (ap (λ (st : WeakEntry). st.key) first ∙ (keys ∙ sym (ap (λ (st : WeakEntry). st.key) second)))))

  distinct_below : (n : ℕ) → IsDistinct same_key (map weak_of (entries_below s n))
  distinct_below zero = distinct_none
  distinct_below (suc n) =
      subst (λ es. IsDistinct same_key es)
      (sym (map-append weak_of (entries_below s n) (listed_entry (entry_at s n))))
      (go (distinct_below n) (entry_at s n) refl)
    where
      go : IsDistinct same_key (map weak_of (entries_below s n)) → (o : Option NamedEntry) → entry_at s n ≡ o
          → IsDistinct same_key (map weak_of (entries_below s n) ++ map weak_of (listed_entry o))
      go before None at = subst (λ es. IsDistinct same_key es) (sym (append-nil (map weak_of (entries_below s n))))
          before
      go before (Some e) at = distinct_last (map weak_of (entries_below s n)) (weak_of e) before (λ x c. (
          let r = weak_from (entries_below s n) x c in
          let i = below_listed s n r.0 r.1 in
          subst (λ z. same_key z (weak_of e) ≡ false) r.2 (keys_differ i.0 n r.0 e i.1 i.2 at)))

  -- sorted, they are exactly the entries by names
  pub entries_listed : (entries : List NamedEntry) → IsPermutation (entries_below s (length s.weak.entries)) entries
      → IsSorted key_cmp (map weak_of entries) → ListsEntries s entries
  entries_listed entries moved sorted = record {
    ascending = ascends (map weak_of entries) sorted
        (IsDistinct-IsPermutation same_key flips (map weak_of (entries_below s n)) (map weak_of entries)
        (IsPermutation-map weak_of (entries_below s n) entries moved) (distinct_below n));
    exact = λ e. (
      (λ c. out e (Contains-permutation entries (entries_below s n) e
          (IsPermutation-sym (entries_below s n) entries moved) c)),
      (λ i. Contains-permutation (entries_below s n) entries e moved (back e i)),
    );
  }
    where
      n : ℕ
      n = length s.weak.entries

      out : (e : NamedEntry) → Contains (entries_below s (length s.weak.entries)) e → IsEntryOf s e
      out e c =
          let r = below_listed s (length s.weak.entries) e c in
          let st = entry_from s r.0 e r.2 in
          record {
            map = st.0.map;
            key = st.0.key;
            value = st.0.value;
            found = (sound.found st.0.map st.0.key st.0.value).0 (contains_at s.weak.entries r.0 st.0 st.1);
            map_is = st.2.map_is;
            key_is = st.2.key_is;
            value_is = st.2.value_is;
          }

      back : (e : NamedEntry) → IsEntryOf s e → Contains (entries_below s (length s.weak.entries)) e
      back e i =
          let st : WeakEntry = record { map = i.map; key = i.key; value = i.value } in
          let c = (sound.found i.map i.key i.value).1 i.found in
          let at : slice_get s.weak.entries c.0 ≡ Some st =
          slice_get-get_or s.weak.entries c.0 st c.1 ∙ ap (λ z. Some z) c.2 in
          listed_below s (length s.weak.entries) c.0 e c.1 (ap (entry_in s) at
          ∙ ap (λ o. entry_named o (name_at s i.key) (name_at s i.value)) i.map_is
          ∙ ap (λ o. entry_named (Some (Cell e.map)) o (name_at s i.value)) i.key_is
          ∙ ap (λ o. entry_named (Some (Cell e.map)) (Some e.key) o) i.value_is)
