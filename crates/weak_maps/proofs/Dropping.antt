-- Entries that go with their maps and keys.
use Rattle.std.proofs.Common.{◌≡◌, ◌<◌, ◌≤◌, ◌-◌, ◌+◌, ◌^◌, ◌==◌, ◌&&◌, ◌||◌, ◌⊎◌, inl, inr, ℕ, Bool, true, false}
use Rattle.std.proofs.Common.{cond, not, nat_lt, List, length, set, get_or, slice_get, Contains, Option, Some, None}
use Rattle.std.proofs.Common.{refl, sym, ◌∙◌, ap, subst, arith, eqb-true, eq-eqb}
use Rattle.std.specs.Int.{bit_at}
use Rattle.std.specs.List.{swap_remove}
use Rattle.std.proofs.lemmas.Bool.{false≢true, cases_eq, cases_lt, lt-ltb, ltb-true}
use Rattle.std.proofs.lemmas.List.{length-take}
use Rattle.std.proofs.lemmas.Nat.Bits.{bit_at_above}
use Rattle.std.proofs.lemmas.Option.{slice_get_within, get_or_from_slice_get, same_Some}
use Rattle.gz_names.specs.declared.numbers.Place.{Place}
use Rattle.weak_maps.specs.Places.{is_same}
use Rattle.weak_maps.specs.WeakMaps.{Carries, IsSound, IsWithoutOwned, KeepsRows, WeakMapsState, WeakTableState}
use Rattle.weak_maps.specs.WeakMaps.{AreParallel, is_owned_by, is_slot_of, value_of}
use Rattle.weak_maps.specs.declared.entries.WeakEntry.{WeakEntry}
use Rattle.weak_maps.proofs.Places.{is_same-true}
use Rattle.weak_maps.proofs.Table.{and-true}
use Rattle.weak_maps.proofs.Reading.{swap_remove_cases}
use Rattle.weak_maps.proofs.Siding.{Contains-at}
use Rattle.weak_maps.proofs.SwapRemove.{at_other}
use Rattle.weak_maps.proofs.Sound.{Contains-found, stands_at}
use Rattle.weak_maps.proofs.Kept.{Carries-same, Carries-trans, KeepsRows-same, KeepsRows-trans}

abbrev entry_of : Place → Place → Place → WeakEntry
entry_of m k v = record { map = m; key = k; value = v }

-- where no map and no key meets the test
pub IsWithoutOwned-none : (test : Place → Bool) (weak : WeakTableState)
    → ((entry : WeakEntry) → Contains weak.entries entry → is_owned_by test entry ≡ false)
    → IsWithoutOwned test weak weak
IsWithoutOwned-none test weak none = record {
  exact = λ entry. (λ has. (has, none entry has), λ both. both.0);
  found = λ m k. by m k (value_of weak m k) refl;
}
  where
    same : (b : Bool) (o : Option Place) → b ≡ false → o ≡ cond b None o
    same true o e = absurd (false≢true (sym e))
    same false o e = refl

    nothing : (b : Bool) → ◌≡◌ {A = Option Place} None (cond b None None)
    nothing true = refl
    nothing false = refl

    by : (m k : Place) (o : Option Place) → value_of weak m k ≡ o → o ≡ cond (test m || test k) None o
    by m k None e = nothing (test m || test k)
    by m k (Some v) e =
        same (test m || test k) (Some v) (none (entry_of m k v) (Contains-found weak.entries m k v e))

-- by a test that has the same answers
pub IsWithoutOwned-same : (s t : Place → Bool) (old new : WeakTableState) → ((p : Place) → s p ≡ t p)
    → IsWithoutOwned s old new → IsWithoutOwned t old new
IsWithoutOwned-same s t old new same goes = record {
  exact = λ entry. (
    λ has. (let was = (goes.exact entry).0 has in (was.0, sym (both entry) ∙ was.1)),
    λ was. (goes.exact entry).1 (was.0, both entry ∙ was.1),
  );
  found = λ m k. goes.found m k ∙ (λ j. cond (same m j || same k j) None (value_of old m k));
}
  where
    both : (entry : WeakEntry) → is_owned_by s entry ≡ is_owned_by t entry
    both entry = λ j. same entry.map j || same entry.key j

-- by one test, and then by another
pub IsWithoutOwned-both : (s t u : Place → Bool) (old mid new : WeakTableState) → ((p : Place) → u p ≡ (s p || t p))
    → IsWithoutOwned s old mid → IsWithoutOwned t mid new → IsWithoutOwned u old new
IsWithoutOwned-both s t u old mid new is first second = record {
  exact = λ entry. (
    λ has. (let later = (second.exact entry).0 has in let sooner = (first.exact entry).0 later.0 in
        (sooner.0, wide entry ∙ neither (s entry.map) (t entry.map) (s entry.key) (t entry.key) sooner.1 later.1)),
    λ was. (let parts = apart (s entry.map) (t entry.map) (s entry.key) (t entry.key) (sym (wide entry) ∙ was.1) in
        (second.exact entry).1 ((first.exact entry).1 (was.0, parts.0), parts.1)),
  );
  found = λ m k. second.found m k
      ∙ (ap (λ o. cond (t m || t k) None o) (first.found m k)
      ∙ (joined (s m) (t m) (s k) (t k) (value_of old m k)
      ∙ (λ j. cond (sym (is m) j || sym (is k) j) None (value_of old m k))));
}
  where
    wide : (entry : WeakEntry) → is_owned_by u entry
        ≡ ((s entry.map || t entry.map) || (s entry.key || t entry.key))
    wide entry = λ j. is entry.map j || is entry.key j

    neither : (a b c d : Bool) → (a || c) ≡ false → (b || d) ≡ false → ((a || b) || (c || d)) ≡ false
    neither true b c d e f = absurd (false≢true (sym e))
    neither false true c d e f = absurd (false≢true (sym f))
    neither false false true d e f = absurd (false≢true (sym e))
    neither false false false d e f = f

    apart : (a b c d : Bool) → ((a || b) || (c || d)) ≡ false → ((a || c) ≡ false) × ((b || d) ≡ false)
    apart true b c d e = absurd (false≢true (sym e))
    apart false true c d e = absurd (false≢true (sym e))
    apart false false true d e = absurd (false≢true (sym e))
    apart false false false d e = (refl, e)

    joined : (a b c d : Bool) (o : Option Place)
        → cond (b || d) None (cond (a || c) None o) ≡ cond ((a || b) || (c || d)) None o
    joined true true c d o = refl
    joined true false c true o = refl
    joined true false c false o = refl
    joined false true c d o = refl
    joined false false true true o = refl
    joined false false true false o = refl
    joined false false false true o = refl
    joined false false false false o = refl

-- what is found after was found before
pub owned_before : (test : Place → Bool) (old new : WeakTableState) → IsWithoutOwned test old new → (m k v : Place)
    → value_of new m k ≡ Some v → value_of old m k ≡ Some v
owned_before test old new goes m k v there = by (test m || test k) (sym (goes.found m k) ∙ there)
  where
    by : (b : Bool) → cond b None (value_of old m k) ≡ Some v → value_of old m k ≡ Some v
    by true e = absurd (cc e)
    by false e = e

-- the entries of a place go, one at a time
pub record Dropping (place : Place) (old now : WeakMapsState) : Type 0 where
  pub inside : (m k v : Place) → value_of now.table m k ≡ Some v → value_of old.table m k ≡ Some v
  pub stays : (entry : WeakEntry) → Contains old.table.entries entry → is_owned_by (is_same place) entry ≡ false
      → Contains now.table.entries entry
  pub fewer : length now.table.entries ≤ length old.table.entries
  pub carries : Carries old now
  pub rows : (now ≡ old) ⊎ KeepsRows old.table now.table

pub Dropping-none : (place : Place) (weak : WeakMapsState) → Dropping place weak weak
Dropping-none place weak = record {
  inside = λ m k v there. there;
  stays = λ entry has free. has;
  fewer = omega arith;
  carries = Carries-same weak;
  rows = inl refl;
}

-- an entry of the place is taken out
pub record Takes (place : Place) (now new : WeakMapsState) (n : ℕ) : Type 0 where
  pub entry : WeakEntry
  pub there : slice_get now.table.entries n ≡ Some entry
  pub owned : is_owned_by (is_same place) entry ≡ true
  pub taken : new.table.entries ≡ swap_remove now.table.entries n entry
  pub was : IsSound now.table
  pub sound : IsSound new.table
  pub carries : Carries now new
  pub rows : KeepsRows now.table new.table

module _ (place : Place) (now new : WeakMapsState) (n : ℕ) (takes : Takes place now new n) where
  was_found : (m k v : Place) → value_of new.table m k ≡ Some v → value_of now.table m k ≡ Some v
  was_found m k v found =
      let at = stands_at new.table.entries (entry_of m k v) ((takes.sound.found m k v).1 found) in
      let read = swap_remove_cases now.table.entries n at.0 takes.entry (entry_of m k v)
      (sym (ap (λ (es : List WeakEntry). slice_get es at.0) takes.taken) ∙ at.1) in
      (takes.was.found m k v).0 (elim read.1 [
        | inl last ↦ Contains-at now.table.entries (length now.table.entries - 1) (entry_of m k v) last.1
        | inr other ↦ Contains-at now.table.entries at.0 (entry_of m k v) other.1
      ])

  less : n < length now.table.entries
  less = slice_get_within now.table.entries n takes.entry takes.there

  pub one_fewer : length new.table.entries < length now.table.entries
  one_fewer = omega (
    arith,
    less,
    ap (λ (es : List WeakEntry). length es) takes.taken,
    length-take (length now.table.entries - 1)
        (set now.table.entries n (get_or now.table.entries (length now.table.entries - 1) takes.entry)),
  )

  pub Dropping-more : (old : WeakMapsState) → Dropping place old now → Dropping place old new
  Dropping-more old drops = record {
    inside = λ m k v found. drops.inside m k v (was_found m k v found);
    stays = λ other has free.
        (elim (at_other now.table.entries n takes.entry other less (drops.stays other has free)) [
          | inl same ↦ absurd (false≢true (sym free
              ∙ (ap (is_owned_by (is_same place))
              (sym same ∙ get_or_from_slice_get now.table.entries n takes.entry other takes.there) ∙ takes.owned)))
          | inr here ↦ subst (λ (es : List WeakEntry). Contains es other) (sym takes.taken) here
        ]);
    fewer = omega (arith, drops.fewer, one_fewer);
    carries = Carries-trans old now new drops.carries takes.carries;
    rows = inr (elim drops.rows [
      | inl same ↦ subst (λ (w : WeakMapsState). KeepsRows w.table new.table) same takes.rows
      | inr kept ↦ KeepsRows-trans old.table now.table new.table was_found kept takes.rows
    ]);
  }

-- none is left
module _ (place : Place) (old now : WeakMapsState) (sound : IsSound now.table) (drops : Dropping place old now)
    (none : (entry : WeakEntry) → Contains now.table.entries entry → is_owned_by (is_same place) entry ≡ false) where
  pub dropped_rows : KeepsRows old.table now.table
  dropped_rows = elim drops.rows [
    | inl same ↦ subst (λ (w : WeakMapsState). KeepsRows w.table now.table) same (KeepsRows-same now.table sound)
    | inr kept ↦ kept
  ]

  pub dropped : IsWithoutOwned (is_same place) old.table now.table
  dropped = record {
    exact = λ entry. (
      λ has. (
        Contains-found old.table.entries entry.map entry.key entry.value
            (drops.inside entry.map entry.key entry.value
            ((sound.found entry.map entry.key entry.value).0 has)),
        none entry has,
      ),
      λ was. drops.stays entry was.0 was.1,
    );
    found = λ m k. by m k (value_of now.table m k) refl;
  }
    where
      free : (m k v : Place) (b : Bool) → b ≡ false → value_of old.table m k ≡ Some v
          → Some v ≡ cond b None (value_of old.table m k)
      free m k v true e was = absurd (false≢true (sym e))
      free m k v false e was = sym was

      gone : (m k : Place) (o : Option Place) → value_of old.table m k ≡ o → value_of now.table m k ≡ None → (b : Bool)
          → (is_same place m || is_same place k) ≡ b → None ≡ cond b None o
      gone m k o was now_none true e = refl
      gone m k None was now_none false e = refl
      gone m k (Some v) was now_none false e =
          absurd (cc (sym now_none ∙ (sound.found m k v).0
          (drops.stays (entry_of m k v) (Contains-found old.table.entries m k v was) e)))

      by : (m k : Place) (o : Option Place) → value_of now.table m k ≡ o
          → o ≡ cond (is_same place m || is_same place k) None (value_of old.table m k)
      by m k None e = gone m k (value_of old.table m k) refl e (is_same place m || is_same place k) refl
      by m k (Some v) e =
          free m k v (is_same place m || is_same place k) (none (entry_of m k v) ((sound.found m k v).1 e))
          (drops.inside m k v e)

-- whether a place is at one of these slots of an arena, from a slot on
abbrev pub is_slot_from : ℕ → ℕ → ℕ → Place → Bool
is_slot_from arena slots i p = is_slot_of arena slots p && not (nat_lt p.1 i)

-- the entries whose map or key meets a test are gone, and the others are to be looked at as they were
pub record Drops (test : Place → Bool) (old new : WeakMapsState) : Type 0 where
  pub dropped : IsWithoutOwned test old.table new.table
  pub fewer : length new.table.entries ≤ length old.table.entries
  pub rows : KeepsRows old.table new.table
  pub carries : Carries old new
  pub parallel : AreParallel new
  pub sound : IsSound new.table

-- by a test that has the same answers
Drops-same : (s t : Place → Bool) (old new : WeakMapsState) → ((p : Place) → s p ≡ t p) → Drops s old new
    → Drops t old new
Drops-same s t old new same drops = record {
  dropped = IsWithoutOwned-same s t old.table new.table same drops.dropped;
  fewer = drops.fewer;
  rows = drops.rows;
  carries = drops.carries;
  parallel = drops.parallel;
  sound = drops.sound;
}

-- by one test, and then by another
Drops-both : (s t u : Place → Bool) (old mid new : WeakMapsState) → ((p : Place) → u p ≡ (s p || t p))
    → Drops s old mid → Drops t mid new → Drops u old new
Drops-both s t u old mid new is first second = record {
  dropped = IsWithoutOwned-both s t u old.table mid.table new.table is first.dropped second.dropped;
  fewer = omega (arith, first.fewer, second.fewer);
  rows = KeepsRows-trans old.table mid.table new.table (owned_before t mid.table new.table second.dropped) first.rows
      second.rows;
  carries = Carries-trans old mid new first.carries second.carries;
  parallel = second.parallel;
  sound = second.sound;
}

-- the slots from one on were visited
abbrev pub Visited : ℕ → ℕ → ℕ → WeakMapsState → WeakMapsState → Type 0
Visited arena slots i old now = Drops (is_slot_from arena slots i) old now

both_true : (a b : Bool) → a ≡ true → b ≡ true → (a && b) ≡ true
both_true a b e f = λ j. e j && f j

or_cases : (a b : Bool) → (a || b) ≡ true → (a ≡ true) ⊎ (b ≡ true)
or_cases true b e = inl refl
or_cases false b e = inr e

or_left : (a b : Bool) → a ≡ true → (a || b) ≡ true
or_left a b e = ap (λ c. c || b) e

or_right : (a b : Bool) → b ≡ true → (a || b) ≡ true
or_right true b e = refl
or_right false b e = e

same_test : (a b : Bool) → (a ≡ true → b ≡ true) → (b ≡ true → a ≡ true) → a ≡ b
same_test true b f g = sym (f refl)
same_test false true f g = g refl
same_test false false f g = refl

never : (a : Bool) → (a ≡ true → ⊥) → a ≡ false
never true f = absurd (f refl)
never false f = refl

not_below : (a i : ℕ) → not (nat_lt a i) ≡ true → i ≤ a
not_below a i e = elim (cases_lt a i) [
  | inl lt ↦ absurd (false≢true (ap not (sym (lt-ltb a i lt)) ∙ e))
  | inr ge ↦ omega (arith, ge)
]

at_least : (a i : ℕ) → i ≤ a → not (nat_lt a i) ≡ true
at_least a i le = by (nat_lt a i) refl
  where
    by : (b : Bool) → nat_lt a i ≡ b → not b ≡ true
    by true e = absurd (let lt = ltb-true a i e in omega (arith, lt, le))
    by false e = refl

module _ (arena slots : ℕ) where
  from_slot : (i : ℕ) (p : Place) → is_slot_from arena slots i p ≡ true → (p.0 ≡ arena) × (bit_at slots p.1 ≡ 1)
      × (i ≤ p.1)
  from_slot i p e =
      let parts = and-true (is_slot_of arena slots p) (not (nat_lt p.1 i)) e in
      let of = and-true (p.0 == arena) (bit_at slots p.1 == 1) parts.0 in
      (eqb-true _ _ of.0, eqb-true _ _ of.1, not_below p.1 i parts.1)

  to_slot : (i : ℕ) (p : Place) → p.0 ≡ arena → bit_at slots p.1 ≡ 1 → i ≤ p.1 → is_slot_from arena slots i p ≡ true
  to_slot i p here set le =
      both_true (is_slot_of arena slots p) (not (nat_lt p.1 i))
      (both_true (p.0 == arena) (bit_at slots p.1 == 1) (eq-eqb _ _ here) (eq-eqb _ _ set)) (at_least p.1 i le)

  -- no slot is visited yet
  pub Visited-none : (weak : WeakMapsState) (i : ℕ) → slots < 2 ^ 64 → 64 ≤ i → AreParallel weak → IsSound weak.table
      → Visited arena slots i weak weak
  Visited-none weak i fits from parallel sound = record {
    dropped = IsWithoutOwned-none (is_slot_from arena slots i) weak.table
        (λ entry has. (λ j. none entry.map j || none entry.key j));
    fewer = omega arith;
    rows = KeepsRows-same weak.table sound;
    carries = Carries-same weak;
    parallel = parallel;
    sound = sound;
  }
    where
      none : (p : Place) → is_slot_from arena slots i p ≡ false
      none p = never (is_slot_from arena slots i p) (λ e. (let at = from_slot i p e in
          let clear = bit_at_above slots 64 p.1 fits (omega (arith, at.2, from)) in
          let set = at.1 in omega (arith, set, clear)))

  -- a slot that is not one of these
  pub Visited-passed : (old now : WeakMapsState) (i n : ℕ) → n + 1 ≡ i → (bit_at slots n ≡ 1 → ⊥)
      → Visited arena slots i old now → Visited arena slots n old now
  Visited-passed old now i n next clear visited =
      Drops-same (is_slot_from arena slots i) (is_slot_from arena slots n) old now
      (λ p. same_test _ _
      (λ e. (let at = from_slot i p e in to_slot n p at.0 at.1 (omega (arith, at.2, next))))
      (λ e. (let at = from_slot n p e in elim (cases_eq p.1 n) [
        | inl same ↦ absurd (clear (ap (bit_at slots) (sym same) ∙ at.1))
        | inr other ↦ to_slot i p at.0 at.1 (omega (arith, at.2, next, other))
      ]))) visited

  -- one that is
  pub Visited-more : (old now new : WeakMapsState) (n : ℕ) (place : Place)
      → (bit_at slots n ≡ 1) × (place ≡ (arena, n)) → Visited arena slots (n + 1) old now
      → Drops (is_same place) now new → Visited arena slots n old new
  Visited-more old now new n place (set_here, is) visited drops =
      Drops-both (is_slot_from arena slots (n + 1)) (is_same place) (is_slot_from arena slots n) old now new
      (λ p. same_test _ _ (split p) (joined p)) visited drops
    where
      split : (p : Place) → is_slot_from arena slots n p ≡ true
          → (is_slot_from arena slots (n + 1) p || is_same place p) ≡ true
      split p e = (let at = from_slot n p e in elim (cases_eq p.1 n) [
        | inl same ↦ or_right (is_slot_from arena slots (n + 1) p) (is_same place p)
            (both_true (place.0 == p.0) (place.1 == p.1)
            (eq-eqb _ _ (ap (λ (q : Place). q.0) is ∙ sym at.0)) (eq-eqb _ _ (ap (λ (q : Place). q.1) is ∙ sym same)))
        | inr other ↦ or_left (is_slot_from arena slots (n + 1) p) (is_same place p)
            (to_slot (n + 1) p at.0 at.1 (omega (arith, at.2, other)))
      ])

      joined : (p : Place) → (is_slot_from arena slots (n + 1) p || is_same place p) ≡ true
          → is_slot_from arena slots n p ≡ true
      joined p e = elim (or_cases (is_slot_from arena slots (n + 1) p) (is_same place p) e) [
        | inl later ↦ (let at = from_slot (n + 1) p later in to_slot n p at.0 at.1 (omega (arith, at.2)))
        | inr here ↦
            let same : (arena, n) ≡ p = sym is ∙ is_same-true place p here in
            to_slot n p (ap (λ (q : Place). q.0) (sym same))
            (ap (λ (q : Place). bit_at slots q.1) (sym same) ∙ set_here)
            (let at : n ≡ p.1 = ap (λ (q : Place). q.1) same in omega (arith, at))
      ]

  -- all slots were visited
  pub Visited-all : (old now : WeakMapsState) (i : ℕ) → i ≤ 0 → Visited arena slots i old now
      → IsWithoutOwned (is_slot_of arena slots) old.table now.table
  Visited-all old now i end visited =
      IsWithoutOwned-same (is_slot_from arena slots i) (is_slot_of arena slots) old.table now.table
      (λ p. same_test _ _ (λ e. (and-true (is_slot_of arena slots p) (not (nat_lt p.1 i)) e).0)
      (λ e. both_true (is_slot_of arena slots p) (not (nat_lt p.1 i)) e (at_least p.1 i (omega (arith, end)))))
      visited.dropped

  -- no map and no key lies in the arena
  pub none_owned : (weak : WeakTableState)
      → ((entry : WeakEntry) → Contains weak.entries entry → (entry.map.0 ≡ arena → ⊥) × (entry.key.0 ≡ arena → ⊥))
      → IsWithoutOwned (is_slot_of arena slots) weak weak
  none_owned weak none = IsWithoutOwned-none (is_slot_of arena slots) weak (λ entry has.
      (let apart = none entry has in (λ j. away entry.map apart.0 j || away entry.key apart.1 j)))
    where
      away : (p : Place) → (p.0 ≡ arena → ⊥) → is_slot_of arena slots p ≡ false
      away p apart = never (is_slot_of arena slots p)
          (λ e. apart (eqb-true _ _ (and-true (p.0 == arena) (bit_at slots p.1 == 1) e).0))

-- the place of a slot, if it is one of these
module _ (arena slots n : ℕ) where
  pub some_among : (place : Place) → Some place ≡ cond (bit_at slots n == 1) (Some (arena, n)) None
      → (bit_at slots n ≡ 1) × (place ≡ (arena, n))
  some_among place is = by (bit_at slots n == 1) refl is
    where
      by : (b : Bool) → (bit_at slots n == 1) ≡ b → Some place ≡ cond b (Some (arena, n)) None
          → (bit_at slots n ≡ 1) × (place ≡ (arena, n))
      by true e at = (eqb-true _ _ e, same_Some _ _ at)
      by false e at = absurd (cc at)

  pub none_among : ◌≡◌ {A = Option Place} None (cond (bit_at slots n == 1) (Some (arena, n)) None)
      → bit_at slots n ≡ 1 → ⊥
  none_among is one = by (bit_at slots n == 1) (eq-eqb _ _ one) is
    where
      by : (b : Bool) → b ≡ true → ◌≡◌ {A = Option Place} None (cond b (Some (arena, n)) None) → ⊥
      by true e at = cc at
      by false e at = false≢true e
