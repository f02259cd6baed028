use Rattle.std.proofs.Common.{[], ap, arith, subst, sym, length}
use Rattle.slice_driver.specs.GrayRoots.{Gathers, IsGrayAmong, IsInSlot}
use Rattle.slice_driver.specs.ListedWrappers.{is_outside}
use Rattle.slice_driver.proofs.beginning.GatheredRoots.{buffers_all, listed_most, on_ok_both}
use Rattle.slice_driver.proofs.gray_roots.buffer_gray_roots.Goals as goal

pub returns-clause-ok : goal.returns-clause-ok
returns-clause-ok g c =
    let h = c.args.heap.now in
    let zones = c.args.zones in
    let slots = c.deref.result.now in
    let wrappers = c.deref-2.result.now in
    let of_slots : Gathers (IsInSlot h.shape zones) [] slots =
    subst (λ new. Gathers (IsInSlot h.shape zones) [] new) (sym c.deref.ensures.value)
    (subst (λ old. Gathers
    (IsInSlot h.shape zones) old c.gather_slots.new.found.items) c.in_ok-slots.ensures.items
    c.in_ok-gather_slots.ensures.gathered) in
    let of_wrappers : Gathers (IsGrayAmong h zones (length h.shape.states)) [] wrappers =
    subst (λ new. Gathers (IsGrayAmong h zones (length h.shape.states)) [] new) (sym c.deref-2.ensures.value)
    (subst (λ old. Gathers (IsGrayAmong h zones
    (length h.shape.states)) old c.gather_wrappers.new.found.items) c.new-wrappers.ensures.items
    c.in_ok-gather_wrappers.ensures.gathered) in
    on_ok_both c.buffer_gray.result
    (λ is at. buffers_all h c.buffer_gray.new.self zones slots wrappers is at c.buffer_gray.ensures.sized of_slots
    of_wrappers
    (let few = c.in_ok-gather_slots.ensures.few in let none = ap (λ xs. length xs) c.in_ok-slots.ensures.items in
    let same = ap (λ xs. length xs) c.deref.ensures.value in omega (arith, few, none, same))
    (let few = c.in_ok-gather_wrappers.ensures.few in let none = ap (λ xs. length xs) c.new-wrappers.ensures.items in
    let same = ap (λ xs. length xs) c.deref-2.ensures.value in omega (arith, few, none, same)))
    c.buffer_gray.ensures.ok c.buffer_gray.ensures.zones

pub buffer_gray-requires : goal.buffer_gray-requires
buffer_gray-requires g c =
    let slots = c.in_ok-gather_slots.ensures.few in
    let no_slots = ap (λ xs. length xs) c.in_ok-slots.ensures.items in
    let as_slots = ap (λ xs. length xs) c.deref.ensures.value in
    let wrappers = c.in_ok-gather_wrappers.ensures.few in
    let no_wrappers = ap (λ xs. length xs) c.new-wrappers.ensures.items in
    let as_wrappers = ap (λ xs. length xs) c.deref-2.ensures.value in
    let most = listed_most c.args.heap.now.shape (is_outside c.args.zones) c.requires.gather.few
    (length c.args.heap.now.shape.states) in
    let zones = c.gather_wrappers.ensures.zones in
    record {
      few = omega
          (arith, slots, no_slots, as_slots, wrappers, no_wrappers, as_wrappers, most, zones, c.requires.empty);
    }
