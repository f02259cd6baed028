use Rattle.std.proofs.Common.{◌-◌, length, arith, refl, sym, subst, List}
use Rattle.std.specs.List.Sorted.{IsPermutation}
use Rattle.std.proofs.lemmas.List.Sorted.{IsPermutation-append_left, IsPermutation-trans}
use Rattle.gz_names.specs.declared.names.Name.{Name}
use Rattle.heap_core.specs.Heap.{HeapState}
use Rattle.heap_core.specs.Shape.{is_owned}
use Rattle.slice_driver.specs.Grays.{grays_below, grays_up_to}
use Rattle.slice_driver.proofs.group_end.Grays.{grays_more}
use Rattle.slice_driver.proofs.group_end.GraySlots.{arenas_skipped, owned_made}
use Rattle.slice_driver.proofs.ends.gray_names_in.Goals as goal

pub push_own_keys-requires-clause-present : goal.push_own_keys-requires-clause-present
push_own_keys-requires-clause-present c = λ slot gray. c.requires.present (c.in-Some.arena, slot) gray

pub loop-arena-preserved : goal.loop-arena-preserved
loop-arena-preserved c =
    let h : HeapState = c.args.heap.now in
    let test = is_owned h.shape c.args.zones.bits in
    let a = c.in-Some.arena in
    let on = c.in-Some.ensures.owned in
    let skipped = arenas_skipped h test (a - c.loop-arena.from) c.loop-arena.from a
    (omega (arith, on.0)) c.in-Some.ensures.lowest in
    let here = grays_below h a 64 in
    record {
      names = subst (λ (xs : List Name). IsPermutation xs c.push_own_keys.new.keys)
          (grays_more h test a (grays_up_to h test c.loop-arena.from) _ skipped on.1 refl)
          (IsPermutation-trans _ _ _
          (IsPermutation-append_left here _ c.loop-arena.keys c.loop-arena.invariant.names)
          c.in_ok-push_own_keys.ensures);
      within = (let lt = owned_made h.shape.arenas c.args.zones.bits a on.1 in omega (arith, lt));
    }

pub returns-clause-moved : goal.returns-clause-moved
returns-clause-moved c =
    let h : HeapState = c.args.heap.now in
    let test = is_owned h.shape c.args.zones.bits in
    let n = length h.shape.arenas in
    let skipped = arenas_skipped h test (n - c.loop-arena.from) c.loop-arena.from n
    (omega (arith, c.loop-arena.invariant.within))
    (λ k ge lt. c.in_default.ensures.none k ge) in
    subst (λ (xs : List Name). IsPermutation (grays_up_to h test n) xs) (sym c.from_vec.ensures)
    (IsPermutation-trans _ _ _
    (subst (λ (xs : List Name). IsPermutation xs c.loop-arena.keys) skipped c.loop-arena.invariant.names)
    c.in_ok-into_names.ensures.permutation)
