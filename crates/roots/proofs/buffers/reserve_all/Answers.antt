use Rattle.std.proofs.Common.{◌≡◌, ◌<◌, ◌+◌, ◌^◌, ℕ, arith, sym, subst, slice_index, replicate}
use Rattle.std.proofs.lemmas.List.{get_or-replicate}
use Rattle.roots.specs.Buffers.{count_in}
use Rattle.roots.proofs.buffers.reserve_all.Goals as goal

pub count_items-requires : goal.count_items-requires
count_items-requires c = λ z lt. subst (λ (n : ℕ). n < 2 ^ 63) (sym (get_or-replicate 64 z 0 0 lt)) (omega arith)

pub count_items-requires-2 : goal.count_items-requires-2
count_items-requires-2 c = λ z lt.
    let none : slice_index (replicate 64 0) z ≡ 0 = get_or-replicate 64 z 0 0 lt in
    let few : slice_index c.count_items.new.counts z < slice_index (replicate 64 0) z + 2 ^ 63 =
    c.count_items.ensures.few z lt in
    omega arith

pub reserve_counted-requires-clause-others : goal.reserve_counted-requires-clause-others
reserve_counted-requires-clause-others c = λ z lt out.
    let none : slice_index (replicate 64 0) z ≡ 0 = get_or-replicate 64 z 0 0 lt in
    let slots : slice_index c.count_items.new.counts z ≡ slice_index (replicate 64 0) z + count_in z c.args.slots.now =
    c.count_items.ensures.counts z lt in
    let no_slots : count_in z c.args.slots.now ≡ 0 =
    c.count_items.ensures.counted z (λ h. out (c.count_items-2.ensures.kept z h)) in
    let wrappers = c.count_items-2.ensures.counts z lt in
    let no_wrappers = c.count_items-2.ensures.counted z out in
    omega arith
