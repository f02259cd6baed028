-- The weak entries that go at the end of a group: the map or the key of each is white in a job.
use Rattle.std.proofs.Common.{◌≡◌, ◌+◌, ◌⊎◌, ◌&&◌, ◌||◌, ℕ, zero, suc, Bool, true, false, cond, inl, inr, Option, None}
use Rattle.std.proofs.Common.{Some, is_none, is_some, List, [], ◌∷◌, length, slice_get, Contains, refl, sym, ap, ◌∙◌}
use Rattle.std.proofs.Common.{subst, arith}
use Rattle.gz_names.specs.declared.numbers.Place.{Place}
use Rattle.gz_names.specs.declared.zone_sets.ZoneSet.{ZoneSet}
use Rattle.cell_bits.specs.declared.bits.Bits.{Bits}
use Rattle.cell_bits.specs.declared.jobs.Job.{Job}
use Rattle.arena_table.specs.Cells.{CellState}
use Rattle.arena_table.specs.Indexed.{in_zones}
use Rattle.arena_table.specs.Slots.{alloc_word_of, bit_of, cell_in}
use Rattle.arena_table.proofs.Placing.{bit_at-alloc_word}
use Rattle.colour_defs.proofs.Lists.{contains_head, contains_tail}
use Rattle.heap_core.specs.Shape.{ArenaShape, IsPresent, cell_in_arena, cell_of, out_in, out_of, present_in, zone_in}
use Rattle.heap_core.specs.Shape.{zone_of}
use Rattle.heap_core.specs.Heap.{HeapState, colour_in, colour_of}
use Rattle.heap_core.specs.Sweeping.{AreAbsent, HaveWhiteOwners, IsWhiteIn, handed, is_absent, jobs_of, with_handed}
use Rattle.slice_driver.specs.GroupEnd.{DieWithOwners, IsWhiteHere}
use Rattle.slice_driver.proofs.abstraction.Named.{some_one}
use Rattle.slice_driver.proofs.group_end.Cells.{bits_there, cell_at_end, is_dead, is_white_colour, white_test}
use Rattle.slice_driver.proofs.group_end.JobsHanded.{job_at}
use Rattle.slice_driver.proofs.group_end.Worlds.{is_white_test}

abbrev job_of : ℕ → ArenaShape → Bits → Job
job_of number arena own = record { arena = number; alloc_word = alloc_word_of arena.slots; bits = own }

-- each arena of the zones has its job
job_there : (word n : ℕ) (arenas : List ArenaShape) (colours : List Bits) (a : ℕ) (arena : ArenaShape) (own : Bits)
    → slice_get arenas a ≡ Some arena → slice_get colours a ≡ Some own → in_zones word arena.zone ≡ true
    → Contains (jobs_of word n arenas colours) (job_of (n + a) arena own)
job_there word n [] colours a arena own at too on = absurd (cc at)
job_there word n (x ∷ arenas) [] a arena own at too on = absurd (cc too)
job_there word n (x ∷ arenas) (b ∷ colours) zero arena own at too on =
    by (in_zones word x.zone) (ap (λ (z : ArenaShape). in_zones word z.zone) same ∙ on)
  where
    same : x ≡ arena
    same = some_one _ _ at

    first : job_of n x b ≡ job_of (n + 0) arena own
    first = (let number : n ≡ n + 0 = omega arith in let bits_are : b ≡ own = some_one _ _ too in
        λ i. job_of (number i) (same i) (bits_are i))

    by : (t : Bool) → t ≡ true
        → Contains (cond t (job_of n x b ∷ jobs_of word (suc n) arenas colours) (jobs_of word (suc n) arenas colours))
        (job_of (n + 0) arena own)
    by true e = subst (λ (j : Job). Contains (job_of n x b ∷ jobs_of word (suc n) arenas colours) j) first
        (contains_head (job_of n x b) (jobs_of word (suc n) arenas colours))
    by false e = absurd (cc e)
job_there word n (x ∷ arenas) (b ∷ colours) (suc a) arena own at too on =
    by (in_zones word x.zone) (subst (λ (k : ℕ). Contains (jobs_of word (suc n) arenas colours) (job_of k arena own))
    (let number : suc n + a ≡ n + suc a = omega arith in number)
    (job_there word (suc n) arenas colours a arena own at too on))
  where
    by : (t : Bool) → Contains (jobs_of word (suc n) arenas colours) (job_of (n + suc a) arena own)
        → Contains (cond t (job_of n x b ∷ jobs_of word (suc n) arenas colours) (jobs_of word (suc n) arenas colours))
        (job_of (n + suc a) arena own)
    by true rest = contains_tail (job_of n x b) (jobs_of word (suc n) arenas colours) (job_of (n + suc a) arena own)
        rest
    by false rest = rest

both_parts : (a b : Bool) → (a && b) ≡ true → (a ≡ true) × (b ≡ true)
both_parts true b e = (refl, e)
both_parts false b e = absurd (cc e)

one_of_three : (a b c : Bool) → (a || b || c) ≡ true → (a ≡ true) ⊎ ((b ≡ true) ⊎ (c ≡ true))
one_of_three true b c e = inl refl
one_of_three false true c e = inr (inl refl)
one_of_three false false c e = inr (inr e)

-- what is white in a job is not present
pub absent_in : (h : HeapState) (g : ZoneSet)
    → AreAbsent (jobs_of g.bits 0 h.shape.arenas h.colours) (with_handed h g.bits).shape
absent_in h g p (job, among, white) =
    let r = job_at g.bits 0 h.shape.arenas h.colours job among in
    let same : p.0 ≡ r.index = omega (arith, white.arena, r.number) in
    let there : slice_get (handed g.bits h.shape.arenas h.colours) p.0
    ≡ Some (record r.arena { out = Some job.bits }) =
    ap (λ a. slice_get (handed g.bits h.shape.arenas h.colours) a) same ∙ r.there in
    ap (λ o. is_none (cell_in_arena o p.1)) there
    ∙ ap (λ b. is_none (cond b None (cell_in r.arena.slots p.1)))
    (white_test job.bits p.1 ∙ ap is_white_colour white.white)

module _ (h : HeapState) (g : ZoneSet) (sized : length h.colours ≡ length h.shape.arenas)
    (kept : (a : ℕ) → out_of h.shape a ≡ None) where
  -- a white cell of the zones is so in a job
  white_in : (p : Place) → IsPresent h.shape p → IsWhiteHere h g p
      → IsWhiteIn (jobs_of g.bits 0 h.shape.arenas h.colours) p
  white_in p there here = by (slice_get h.shape.arenas p.0) refl
    where
      by : (o : Option ArenaShape) → slice_get h.shape.arenas p.0 ≡ o
          → IsWhiteIn (jobs_of g.bits 0 h.shape.arenas h.colours) p
      by None e = absurd (cc (sym (ap (λ o. is_some (cell_in_arena o p.1)) e) ∙ there))
      by (Some arena) e =
          let own = bits_there h.shape.arenas h.colours sized p.0 arena e in
          let whole : arena.out ≡ None = sym (ap out_in e) ∙ kept p.0 in
          let on : in_zones g.bits arena.zone ≡ true = sym (ap (λ o. in_zones g.bits (zone_in o)) e) ∙ here.0 in
          let cell : is_some (cell_in arena.slots p.1) ≡ true =
          sym (ap (λ o. is_some (present_in o arena.slots p.1)) whole)
          ∙ (sym (ap (λ o. is_some (cell_in_arena o p.1)) e) ∙ there) in (
            job_of (0 + p.0) arena own.0,
            job_there g.bits 0 h.shape.arenas h.colours p.0 arena own.0 e own.1 on,
            record {
              arena = omega arith;
              held = bit_at-alloc_word arena.slots p.1 ∙ ap bit_of cell;
              white = sym (ap (λ o. colour_in o p.1) own.1) ∙ here.1;
            },
          )

  -- what is not present after the zones are handed out was white in them
  gone : (p : Place) → IsPresent h.shape p → is_absent (with_handed h g.bits).shape p ≡ true → IsWhiteHere h g p
  gone p there absent = by (is_dead h g p) refl
    where
      none : (o : Option CellState) → is_some o ≡ true → is_none o ≡ true → ⊥
      none None some missing = cc some
      none (Some cell) some missing = cc missing

      by : (t : Bool) → is_dead h g p ≡ t → IsWhiteHere h g p
      by true dead =
          let parts = both_parts (in_zones g.bits (zone_of h.shape p)) (is_white_colour (colour_of h p)) dead in
          (parts.0, is_white_test h p parts.1)
      by false alive = absurd (none (cell_of h.shape p) there
          (sym (ap is_none (cell_at_end h (with_handed h g.bits) g refl sized kept p
          ∙ ap (λ b. cond b None (cell_of h.shape p)) alive)) ∙ absent))

  pub owners_in : DieWithOwners h g
      → HaveWhiteOwners (jobs_of g.bits 0 h.shape.arenas h.colours) (with_handed h g.bits).shape
  owners_in die m k v has dead =
      let there = die.present m k v has in
      elim (one_of_three (is_absent (with_handed h g.bits).shape m) (is_absent (with_handed h g.bits).shape k)
      (is_absent (with_handed h g.bits).shape v) dead) [
        | inl map ↦ inl (white_in m there.0 (gone m there.0 map))
        | inr (inl key) ↦ inr (white_in k there.1 (gone k there.1 key))
        | inr (inr value) ↦ elim (die.owned m k v has (gone v there.2 value)) [
          | inl map ↦ inl (white_in m there.0 map)
          | inr key ↦ inr (white_in k there.1 key)
        ]
      ]
