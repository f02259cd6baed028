-- The laws of the end of a group.
use Rattle.std.proofs.Common.{◌≡◌, ◌+◌, ◌<◌, ℕ, zero, suc, Bool, true, false, cond, refl, sym, ap, ◌∙◌, arith, eqb}
use Rattle.std.proofs.Common.{eqb-true, eq-eqb, Option, None, Some, List, [], ◌∷◌, length, slice_get}
use Rattle.gz_names.specs.Zones.{zones_in}
use Rattle.cell_bits.specs.declared.bits.Bits.{Bits}
use Rattle.arena_table.specs.Indexed.{in_zones}
use Rattle.colour_defs.specs.Lawful.{EndsGroup}
use Rattle.colour_defs.specs.Laws.{IsValid}
use Rattle.colour_defs.specs.World.{World}
use Rattle.heap_core.specs.Heap.{HeapState}
use Rattle.heap_core.specs.Shape.{ArenaShape, out_in, out_of}
use Rattle.heap_core.specs.Sweeping.{handed, jobs_of}
use Rattle.slice_driver.specs.Collector.{CollectorState, heap_with}
use Rattle.slice_driver.specs.Represents.{RepresentsMarking}
use Rattle.slice_driver.specs.GroupEnd.{AreJustFlown}
use Rattle.slice_driver.specs.Units.{flown_by}
use Rattle.slice_driver.proofs.group_end.Heaps.{valid}
use Rattle.slice_driver.proofs.group_end.Ready.{collection_of}
use Rattle.slice_driver.proofs.group_end.Runs.{represents_after}
use Rattle.slice_driver.proofs.group_end.WeakEnd.{ends_group}
use Rattle.slice_driver.proofs.group_end.Worlds.{ended}
use Rattle.slice_driver.proofs.group_end.Ending.{Ending, EndsOn}

pub group_ends : (c d : CollectorState) (flown flying : ℕ → Option Bits) (w : World) (on : EndsOn c d flying)
    → IsValid w → RepresentsMarking c flown w
    → (v : World) × EndsGroup w (zones_in on.group) on.lists.grays on.lists.told v × IsValid v
    × RepresentsMarking d flying v
group_ends c d flown flying w on ok s =
    let k = collection_of c (heap_with c flown) w on.ready.run on.ready.running s.phase.runs in
    let end : Ending c w d.heap = record {
      flown = flown;
      collection = k.0;
      group = on.group;
      rest = on.rest;
      ready = record { valid = ok; represents = s; ready = on.ready; running = k.1 };
      lists = on.lists;
      ended = on.ends.heap;
    } in (
      ended c.heap w k.0 on.group on.rest,
      ends_group c w d.heap end,
      valid c w d.heap end,
      represents_after c d w end on.ends flying on.flies,
    )

-- no job is that of an arena before the first
no_job : (word n : ℕ) (arenas : List ArenaShape) (colours : List Bits) (a : ℕ) → a < n
    → flown_by (jobs_of word n arenas colours) a ≡ None
no_job word n [] colours a lt = refl
no_job word n (arena ∷ arenas) [] a lt = refl
no_job word n (arena ∷ arenas) (own ∷ colours) a lt =
    by (in_zones word arena.zone) (no_job word (suc n) arenas colours a (omega arith))
  where
    other : (t : Bool) → eqb n a ≡ t → t ≡ false
    other true e = absurd (let same : n ≡ a = eqb-true n a e in omega arith)
    other false e = refl

    by : (t : Bool) → flown_by (jobs_of word (suc n) arenas colours) a ≡ None
        → flown_by (cond t (record {
          arena = n;
          alloc_word = Rattle.arena_table.specs.Slots.alloc_word_of arena.slots;
          bits = own;
        } ∷ jobs_of word (suc n) arenas colours) (jobs_of word (suc n) arenas colours)) a ≡ None
    by true rest = ap (λ b. cond b (Some own) (flown_by (jobs_of word (suc n) arenas colours) a)) (other (eqb n a) refl)
        ∙ rest
    by false rest = rest

job_bits : (word n : ℕ) (arenas : List ArenaShape) (colours : List Bits) → length colours ≡ length arenas
    → ((a : ℕ) → out_in (slice_get arenas a) ≡ None) → (a : ℕ) → flown_by (jobs_of word n arenas colours) (n + a)
    ≡ out_in (slice_get (handed word arenas colours) a)
job_bits word n [] colours sized kept a = refl
job_bits word n (arena ∷ arenas) [] sized kept a = absurd (omega arith)
job_bits word n (arena ∷ arenas) (own ∷ colours) sized kept zero =
    by (in_zones word arena.zone) (no_job word (suc n) arenas colours (n + 0) (omega arith))
  where
    same : eqb n (n + 0) ≡ true
    same = let e : n ≡ n + 0 = omega arith in eq-eqb n (n + 0) e

    by : (t : Bool) → flown_by (jobs_of word (suc n) arenas colours) (n + 0) ≡ None
        → flown_by (cond t (record {
          arena = n;
          alloc_word = Rattle.arena_table.specs.Slots.alloc_word_of arena.slots;
          bits = own;
        } ∷ jobs_of word (suc n) arenas colours) (jobs_of word (suc n) arenas colours)) (n + 0)
        ≡ (cond t (record arena { out = Some own }) arena).out
    by true none = ap (λ b. cond b (Some own) (flown_by (jobs_of word (suc n) arenas colours) (n + 0))) same
    by false none = none ∙ sym (kept 0)
job_bits word n (arena ∷ arenas) (own ∷ colours) sized kept (suc a) =
    by (in_zones word arena.zone) (job_bits word (suc n) arenas colours (omega arith) (λ i. kept (suc i)) a)
  where
    shift : n + suc a ≡ suc n + a
    shift = omega arith

    other : (t : Bool) → eqb n (n + suc a) ≡ t → t ≡ false
    other true e = absurd (let same : n ≡ n + suc a = eqb-true n (n + suc a) e in omega arith)
    other false e = refl

    by : (t : Bool) → flown_by (jobs_of word (suc n) arenas colours) (suc n + a)
        ≡ out_in (slice_get (handed word arenas colours) a)
        → flown_by (cond t (record {
          arena = n;
          alloc_word = Rattle.arena_table.specs.Slots.alloc_word_of arena.slots;
          bits = own;
        } ∷ jobs_of word (suc n) arenas colours) (jobs_of word (suc n) arenas colours)) (n + suc a)
        ≡ out_in (slice_get (handed word arenas colours) a)
    by true rest = ap (λ b. cond b (Some own) (flown_by (jobs_of word (suc n) arenas colours) (n + suc a)))
        (other (eqb n (n + suc a)) refl) ∙ ap (flown_by (jobs_of word (suc n) arenas colours)) shift ∙ rest
    by false rest = ap (flown_by (jobs_of word (suc n) arenas colours)) shift ∙ rest

pub jobs_flown : (h k : HeapState) (word : ℕ) → length h.colours ≡ length h.shape.arenas
    → ((a : ℕ) → out_of h.shape a ≡ None) → k.shape.arenas ≡ handed word h.shape.arenas h.colours
    → AreJustFlown k.shape (flown_by (jobs_of word 0 h.shape.arenas h.colours))
jobs_flown h k word sized kept e a =
    let same : a ≡ 0 + a = omega arith in
    ap (flown_by (jobs_of word 0 h.shape.arenas h.colours)) same ∙ job_bits word 0 h.shape.arenas h.colours sized kept a
    ∙ ap (λ (xs : List ArenaShape). out_in (slice_get xs a)) (sym e)
