-- Weak entries that go with the white cells of jobs.
use Rattle.std.proofs.Common.{◌≡◌, ◌<◌, ◌≤◌, ◌+◌, ◌^◌, ◌==◌, ◌&&◌, ◌||◌, ◌↔◌, ◌⊎◌, inl, inr, ℕ, Bool, true, false, cond}
use Rattle.std.proofs.Common.{List, length, slice_get, Contains, Option, Some, None, refl, sym, ◌∙◌, ap, subst, arith}
use Rattle.std.proofs.Common.{eqb-true, eq-eqb}
use Rattle.std.specs.Int.{bit_at}
use Rattle.std.proofs.lemmas.Bool.{false≢true, cases_eq, cases_lt}
use Rattle.std.proofs.lemmas.Nat.Bits.{bit_at_above}
use Rattle.std.proofs.lemmas.Option.{slice_get_within, same_Some}
use Rattle.gz_names.specs.declared.numbers.Place.{Place}
use Rattle.cell_bits.specs.Colours.{colour_of}
use Rattle.cell_bits.specs.declared.bits.Colour.TheVariants as colour
use Rattle.cell_bits.specs.declared.jobs.Job.{Job}
use Rattle.weak_maps.specs.WeakMaps.{AreParallel, Carries, IsSound, IsWithoutDead, IsWithoutOwned, KeepsRows}
use Rattle.weak_maps.specs.WeakMaps.{WeakMapsState, WeakTableState, alive_value, is_dead_entry}
use Rattle.weak_maps.specs.WeakMaps.{is_slot_of, value_of}
use Rattle.weak_maps.specs.declared.entries.WeakEntry.{WeakEntry}
use Rattle.weak_maps.proofs.Kept.{Carries-same, Carries-trans, KeepsRows-same, KeepsRows-trans}
use Rattle.weak_maps.proofs.Siding.{Contains-at}
use Rattle.weak_maps.proofs.Sound.{stands_at}
use Rattle.weak_maps.proofs.Table.{and-true}
use Rattle.heap_core.specs.Sweeping.{AreWithout, IsWhiteAt, IsWhiteIn}

-- the jobs from one on were visited
pub record Visited (jobs : List Job) (i : ℕ) (old now : WeakMapsState) : Type 0 where
  pub inside : (entry : WeakEntry) → Contains now.table.entries entry → Contains old.table.entries entry
  pub free : (entry : WeakEntry) → Contains now.table.entries entry → (k : ℕ) (job : Job) → i ≤ k
      → slice_get jobs k ≡ Some job → (IsWhiteAt job entry.map → ⊥) × (IsWhiteAt job entry.key → ⊥)
  pub stays : (entry : WeakEntry) → Contains old.table.entries entry → (IsWhiteIn jobs entry.map → ⊥)
      → (IsWhiteIn jobs entry.key → ⊥) → Contains now.table.entries entry
  pub fewer : length now.table.entries ≤ length old.table.entries
  pub rows : KeepsRows old.table now.table
  pub carries : Carries old now
  pub parallel : AreParallel now
  pub sound : IsSound now.table

pub Visited-none : (jobs : List Job) (i : ℕ) (weak : WeakMapsState) → length jobs ≤ i → AreParallel weak
    → IsSound weak.table → Visited jobs i weak weak
Visited-none jobs i weak all parallel sound = record {
  inside = λ entry has. has;
  free = λ entry has k job le at. absurd (let less = slice_get_within jobs k job at in omega (arith, le, less, all));
  stays = λ entry has map key. has;
  fewer = omega arith;
  rows = KeepsRows-same weak.table sound;
  carries = Carries-same weak;
  parallel = parallel;
  sound = sound;
}

-- the white cells of a job, by a word of bits
module _ (job : Job) (word : ℕ) (fits : word < 2 ^ 64) (held_fits : job.alloc_word < 2 ^ 64)
    (slots : (s : ℕ) → s < 64
    → (bit_at word s ≡ 1) ↔ ((bit_at job.alloc_word s ≡ 1) × (colour_of job.bits s ≡ colour.White))) where
  small : (n s : ℕ) → n < 2 ^ 64 → bit_at n s ≡ 1 → s < 64
  small n s less set = elim (cases_lt s 64) [
    | inl lt ↦ lt
    | inr ge ↦ absurd (let clear = bit_at_above n 64 s less (omega (arith, ge)) in omega (arith, set, clear))
  ]

  white_slot : (p : Place) → IsWhiteAt job p → is_slot_of job.arena word p ≡ true
  white_slot p is =
      let set = (slots p.1 (small job.alloc_word p.1 held_fits is.held)).1 (is.held, is.white) in
      (λ j. eq-eqb p.0 job.arena is.arena j && eq-eqb (bit_at word p.1) 1 set j)

  slot_white : (p : Place) → is_slot_of job.arena word p ≡ true → IsWhiteAt job p
  slot_white p e =
      let parts = and-true (p.0 == job.arena) (bit_at word p.1 == 1) e in
      let set : bit_at word p.1 ≡ 1 = eqb-true _ _ parts.1 in
      let both = (slots p.1 (small word p.1 fits set)).0 set in
      record { arena = eqb-true _ _ parts.0; held = both.0; white = both.1 }

  neither : (a b : Bool) → (a || b) ≡ false → (a ≡ false) × (b ≡ false)
  neither true b e = absurd (false≢true (sym e))
  neither false b e = (refl, e)

  not_white : (p : Place) → is_slot_of job.arena word p ≡ false → IsWhiteAt job p → ⊥
  not_white p none white = false≢true (sym none ∙ white_slot p white)

  free_of : (p : Place) → (IsWhiteAt job p → ⊥) → is_slot_of job.arena word p ≡ false
  free_of p none = by (is_slot_of job.arena word p) refl
    where
      by : (b : Bool) → is_slot_of job.arena word p ≡ b → b ≡ false
      by false e = refl
      by true e = absurd (none (slot_white p e))

  -- the entries that go by their slots
  pub without_white : (old new : WeakTableState) → IsWithoutOwned (is_slot_of job.arena word) old new
      → AreWithout (IsWhiteAt job) old new
  without_white old new goes entry = (
    λ has. (let was = (goes.exact entry).0 has in
        let clear = neither (is_slot_of job.arena word entry.map) (is_slot_of job.arena word entry.key) was.1 in
        (was.0, not_white entry.map clear.0, not_white entry.key clear.1)),
    λ was. (goes.exact entry).1 (was.0, λ j. free_of entry.map was.1 j || free_of entry.key was.2 j),
  )

-- exactly the entries are gone whose map or key is such a place, and the others are to be looked at as they were
pub record Loses (P : Place → Type 0) (old new : WeakMapsState) : Type 0 where
  pub without : AreWithout P old.table new.table
  pub fewer : length new.table.entries ≤ length old.table.entries
  pub rows : KeepsRows old.table new.table
  pub carries : Carries old new
  pub parallel : AreParallel new
  pub sound : IsSound new.table

-- one job more
pub Visited-more : (jobs : List Job) (old now new : WeakMapsState) (n : ℕ) (job : Job) → slice_get jobs n ≡ Some job
    → Visited jobs (n + 1) old now → Loses (IsWhiteAt job) now new → Visited jobs n old new
Visited-more jobs old now new n job at visited loses = record {
  inside = λ entry has. visited.inside entry ((loses.without entry).0 has).0;
  free = λ entry has k other le there. (let was = (loses.without entry).0 has in elim (cases_eq k n) [
    | inl same ↦
        let is : other ≡ job = same_Some _ _ (sym there ∙ (ap (slice_get jobs) same ∙ at)) in (
          λ white. was.1 (subst (λ (x : Job). IsWhiteAt x entry.map) is white),
          λ white. was.2 (subst (λ (x : Job). IsWhiteAt x entry.key) is white),
        )
    | inr away ↦ visited.free entry was.0 k other (omega (arith, le, away)) there
  ]);
  stays = λ entry has map key. (loses.without entry).1 (
    visited.stays entry has map key,
    λ white. map (job, Contains-at jobs n job at, white),
    λ white. key (job, Contains-at jobs n job at, white),
  );
  fewer = omega (arith, visited.fewer, loses.fewer);
  rows = KeepsRows-trans old.table now.table new.table before visited.rows loses.rows;
  carries = Carries-trans old now new visited.carries loses.carries;
  parallel = loses.parallel;
  sound = loses.sound;
}
  where
    before : (m k v : Place) → value_of new.table m k ≡ Some v → value_of now.table m k ≡ Some v
    before m k v found = (visited.sound.found m k v).0
        ((loses.without (record { map = m; key = k; value = v })).0 ((loses.sound.found m k v).1 found)).0

-- all were visited
pub Visited-all : (jobs : List Job) (i : ℕ) (old now : WeakMapsState) → i ≤ 0 → Visited jobs i old now
    → AreWithout (IsWhiteIn jobs) old.table now.table
Visited-all jobs i old now end visited entry = (
  λ has. (
    visited.inside entry has,
    λ white. (let at = stands_at jobs white.0 white.1 in
        (visited.free entry has at.0 white.0 (omega (arith, end)) at.1).0 white.2),
    λ white. (let at = stands_at jobs white.0 white.1 in
        (visited.free entry has at.0 white.0 (omega (arith, end)) at.1).1 white.2),
  ),
  λ was. visited.stays entry was.0 was.1 was.2,
)

-- where there are no entries
pub none_white : (jobs : List Job) (weak : WeakTableState) → length weak.entries ≡ 0
    → AreWithout (IsWhiteIn jobs) weak weak
none_white jobs weak none entry = (λ has. absurd (omega (arith, none, has.1)), λ was. was.0)

-- exactly those go whose map or key is white, these are dead, and an entry with a dead cell has such a map or key
pub record LosesDead (is_dead : Place → Bool) (jobs : List Job) (old new : WeakTableState) : Type 0 where
  pub was : IsSound old
  pub sound : IsSound new
  pub goes : AreWithout (IsWhiteIn jobs) old new
  pub absent : (p : Place) → IsWhiteIn jobs p → is_dead p ≡ true
  pub owners : (m k v : Place) → value_of old m k ≡ Some v
      → is_dead_entry is_dead (record { map = m; key = k; value = v }) ≡ true → IsWhiteIn jobs m ⊎ IsWhiteIn jobs k

module _ (is_dead : Place → Bool) (jobs : List Job) (old new : WeakTableState)
    (loses : LosesDead is_dead jobs old new) where
  first : (a b c : Bool) → a ≡ true → (a || b || c) ≡ true
  first a b c e = ap (λ d. d || b || c) e

  second : (a b c : Bool) → b ≡ true → (a || b || c) ≡ true
  second true b c e = refl
  second false b c e = ap (λ d. d || c) e

  exact : (entry : WeakEntry) → Contains new.entries entry
      ↔ (Contains old.entries entry × (is_dead_entry is_dead entry ≡ false))
  exact entry = (
    λ has. (let stayed = (loses.goes entry).0 has in (stayed.0, living stayed (is_dead_entry is_dead entry) refl)),
    λ alive. (loses.goes entry).1 (
      alive.0,
      λ white. false≢true (sym alive.1
          ∙ first (is_dead entry.map) (is_dead entry.key) (is_dead entry.value) (loses.absent entry.map white)),
      λ white. false≢true (sym alive.1
          ∙ second (is_dead entry.map) (is_dead entry.key) (is_dead entry.value) (loses.absent entry.key white)),
    ),
  )
    where
      living : Contains old.entries entry × (IsWhiteIn jobs entry.map → ⊥) × (IsWhiteIn jobs entry.key → ⊥)
          → (b : Bool) → is_dead_entry is_dead entry ≡ b → is_dead_entry is_dead entry ≡ false
      living stayed false e = e
      living stayed true e = absurd (elim (loses.owners entry.map entry.key entry.value
          ((loses.was.found entry.map entry.key entry.value).0 stayed.0) e) [
            | inl map ↦ stayed.1 map
            | inr key ↦ stayed.2 key
          ])

  abbrev entry_of : Place → Place → Place → WeakEntry
  entry_of m k v = record { map = m; key = k; value = v }

  pub without_dead_from : IsWithoutDead is_dead old new
  without_dead_from = record {
    exact = exact;
    found = λ m k. by m k (value_of old m k) refl (value_of new m k) refl;
  }
    where
      by : (m k : Place) (o : Option Place) → value_of old m k ≡ o → (p : Option Place) → value_of new m k ≡ p
          → p ≡ alive_value is_dead m k o
      by m k None none None new_none = refl
      by m k None none (Some v) there =
          let has = (exact (entry_of m k v)).0 ((loses.sound.found m k v).1 there) in
          let before = (loses.was.found m k v).0 has.0 in
          cc
      by m k (Some v) before p now = judged (is_dead_entry is_dead (entry_of m k v)) refl p now
        where
          judged : (b : Bool) → is_dead_entry is_dead (entry_of m k v) ≡ b → (p : Option Place) → value_of new m k ≡ p
              → p ≡ cond b None (Some v)
          judged true dead None now = refl
          judged true dead (Some w) now =
              let stays = (exact (entry_of m k w)).0 ((loses.sound.found m k w).1 now) in
              let same : v ≡ w = same_Some _ _ (sym before ∙ (loses.was.found m k w).0 stays.0) in
              absurd (false≢true (sym stays.1
              ∙ (ap (λ (x : Place). is_dead_entry is_dead (entry_of m k x)) (sym same) ∙ dead)))
          judged false alive p now =
              sym now ∙ (loses.sound.found m k v).0
              ((exact (entry_of m k v)).1 ((loses.was.found m k v).1 before, alive))
