-- A place is kept for a cell, and memory is taken for it.
use Rattle.std.proofs.Common.{◌≡◌, ◌<◌, ◌≤◌, ◌+◌, ◌*◌, ℕ, true, All, List, Option, Some, length, slice_get, sym, ap}
use Rattle.std.proofs.Common.{◌∙◌, subst, arith}
use Rattle.gz_names.specs.declared.numbers.Place.{Place}
use Rattle.arena_table.specs.Sets.{arena_bit}
use Rattle.arena_table.specs.Slots.{Arena, bit_of, held_by, is_out_at}
use Rattle.arena_table.specs.Delayed.{AreCovered, DelayedSets, IsAsRoomy}
use Rattle.arena_table.specs.Indexed.{IndexState, IsIndexed, is_open}
use Rattle.arena_table.specs.Placement.{place_for}
use Rattle.arena_table.specs.Stored.{StoreState}
use Rattle.arena_table.specs.Table.{AreArenas, HasRoom, IsEmptyIfGivenUp, IsReserved}
use Rattle.arena_table.specs.declared.arenas.Reserved.{Reserved}
use Rattle.arena_table.proofs.Placing.{open-within}

-- memory was taken, and nothing else changed
pub AreArenas-roomier : (store wider : StoreState) (index more : IndexState) (out longer : List ℕ)
    (delayed later : DelayedSets) (made held : ℕ) (reserved : Option Reserved)
    → AreArenas store index out delayed made held reserved → wider.arenas ≡ store.arenas
    → IsIndexed wider.arenas more → ((z : ℕ) → HasRoom store index z → HasRoom wider more z)
    → IsAsRoomy delayed later → length out ≤ length longer
    → ((a : ℕ) → arena_bit longer a ≡ arena_bit out a) → AreArenas wider more longer later made held reserved
AreArenas-roomier store wider index more out longer delayed later made held reserved h same indexed room roomy
    long bits =
    record {
      indexed = indexed;
      out_of = record {
        bits = λ a. bits a ∙ (h.out_of.bits a ∙ ap (λ xs. bit_of (is_out_at xs a)) (sym same));
        room = (let was = h.out_of.room in let sized = ap length same in omega arith);
      };
      covered = subst (λ (xs : List Arena). AreCovered later (length xs)) (sym same)
          (roomy (length store.arenas) h.covered);
      empty = subst (All IsEmptyIfGivenUp) (sym same) h.empty;
      few = h.few;
      counted = h.counted ∙ ap held_by (sym same);
      fewer = h.fewer;
      kept = λ r e. (let k = h.kept r e in record {
        zone = k.zone;
        place = k.place ∙ ap (λ xs. place_for xs r.zone) (sym same);
        few = k.few;
        room = λ end. room r.zone (k.room (end ∙ ap length same));
        out_room = λ end. (let old = k.out_room (end ∙ ap length same) in let sized = ap length same in omega arith);
        covered = λ end. subst (λ (xs : List Arena). AreCovered later (length xs + 1)) (sym same)
            (roomy (length store.arenas + 1) (k.covered (end ∙ ap length same)));
      });
    }

the-one : {X : Type 0} (P : X → Type 0) (x y : X) → Some x ≡ Some y → P x → P y
the-one P x y e h = subst P (cc) h

keeping : (store : StoreState) (index : IndexState) (out : List ℕ) (delayed : DelayedSets) (made held : ℕ)
    (old : Option Reserved) (r : Reserved) → AreArenas store index out delayed made held old
    → IsReserved store index out delayed made r → AreArenas store index out delayed made held (Some r)
keeping store index out delayed made held old r h k = record {
  indexed = h.indexed;
  out_of = h.out_of;
  covered = h.covered;
  empty = h.empty;
  few = h.few;
  counted = h.counted;
  fewer = h.fewer;
  kept = λ x e. the-one (IsReserved store index out delayed made) r x e k;
}

-- the place is in an arena that takes cells
pub AreArenas-kept_found : (store : StoreState) (index : IndexState) (out : List ℕ) (delayed : DelayedSets)
    (made held : ℕ) (old : Option Reserved) (zone : ℕ) (p : Place) → AreArenas store index out delayed made held old
    → zone < 64 → made < 4294967295 → p ≡ place_for store.arenas zone
    → is_open zone (slice_get store.arenas p.0) ≡ true
    → AreArenas store index out delayed made held (Some (record { zone = zone; place = p }))
AreArenas-kept_found store index out delayed made held old zone p h below few at takes =
    let within = open-within store.arenas zone p.0 takes in
    keeping store index out delayed made held old (record { zone = zone; place = p }) h (record {
      zone = below;
      place = at;
      few = few;
      room = λ end. absurd (omega arith);
      out_room = λ end. absurd (omega arith);
      covered = λ end. absurd (omega arith);
    })

-- the place is the first of a new arena, for which there is memory
pub AreArenas-kept_new : (store : StoreState) (index : IndexState) (out : List ℕ) (delayed : DelayedSets)
    (made held : ℕ) (old : Option Reserved) (zone : ℕ) (p : Place) (xs : List Arena)
    → AreArenas store index out delayed made held old → zone < 64 → made < 4294967295 → store.arenas ≡ xs
    → p ≡ (length xs, 0) → place_for xs zone ≡ (length xs, 0) → HasRoom store index zone
    → length xs < 64 * length out → AreCovered delayed (length xs + 1)
    → AreArenas store index out delayed made held (Some (record { zone = zone; place = p }))
AreArenas-kept_new store index out delayed made held old zone p xs h below few same at for room out_room covered =
    keeping store index out delayed made held old (record { zone = zone; place = p }) h (record {
      zone = below;
      place = at ∙ (sym for ∙ ap (λ ys. place_for ys zone) (sym same));
      few = few;
      room = λ end. room;
      out_room = λ end. (let sized = ap length same in omega arith);
      covered = λ end. subst (λ (ys : List Arena). AreCovered delayed (length ys + 1)) (sym same) covered;
    })
