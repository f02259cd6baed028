use Rattle.std.proofs.Common.{◌≡◌, ◌∙◌, ap, sym, subst, arith, length, slice_get, Some}
use Rattle.weak_maps.specs.WeakMaps.{IsSound, LooksState, WeakTableState, maps_delegated_in}
use Rattle.heap_core.specs.Heap.{HeapState}
use Rattle.slice_driver.proofs.marking.BlackMaps.{IsMapOf, fewer_maps, is_map_of, queued_weak, queues_all}
use Rattle.slice_driver.proofs.marking.BlackMaps.{queues_next, queues_none}
use Rattle.slice_driver.proofs.marking_steps.queue_black_maps.Goals as goal
use Rattle.slice_driver.proofs.marking_steps.queue_black_maps.Goals.{In-Some}

weak_is : (c : In-Some) → c.loop-map.heap.shape.weak ≡ c.args.heap.now.shape.weak
weak_is c = ap (λ (z : HeapState). z.shape.weak) c.loop-map.invariant.rest

found : (c : In-Some) → slice_get (maps_delegated_in c.args.heap.now.shape.weak c.args.zone) c.loop-map.index
    ≡ Some c.in-Some.map
found c = ap (λ (w : WeakTableState). slice_get (maps_delegated_in w c.args.zone) c.loop-map.index) (sym (weak_is c))
    ∙ sym c.map_delegated_in.ensures.map ∙ c.in-Some.is

here : (c : In-Some) → IsMapOf c.args.heap.now c.args.zone c.in-Some.map
here c = is_map_of c.args.heap.now c.args.zone c.loop-map.index c.in-Some.map c.requires.shape c.requires.homes
    (subst IsSound (weak_is c) c.map_delegated_in.ensures.sound) (found c)

pub loop-map-init : goal.loop-map-init
loop-map-init c = queues_none c.args.heap.now c.args.zone

pub queue_if_black-requires : goal.queue_if_black-requires
queue_if_black-requires c =
    let at = (goal.at.queue_if_black-requires c).In-Some in
    let within = (here at).within in
    let colours = ap (λ (z : HeapState). length z.colours) c.loop-map.invariant.rest in
    let sized = c.requires.sized in
    omega (arith, within, colours, sized)

pub loop-map-preserved : goal.loop-map-preserved
loop-map-preserved c =
    let at = (goal.at.loop-map-preserved c).In-Some in
    queues_next c.args.heap.now c.args.zone c.loop-map.index c.loop-map.heap c.loop-map.invariant c.in-Some.map
    (found at) (here at).zone_is c.queue_if_black.new.heap c.queue_if_black.ensures

pub loop-map-smaller : goal.loop-map-smaller
loop-map-smaller c =
    let weak = queued_weak c.loop-map.heap c.in-Some.map c.queue_if_black.new.heap c.queue_if_black.ensures in
    let maps = ap (λ (w : WeakTableState). length (maps_delegated_in w c.args.zone)) weak in
    let fewer = fewer_maps (maps_delegated_in c.loop-map.heap.shape.weak c.args.zone) c.loop-map.index c.in-Some.map
    (sym c.map_delegated_in.ensures.map ∙ c.in-Some.is) in
    omega (arith, maps, fewer)

pub returns-clause-rest : goal.returns-clause-rest
returns-clause-rest c =
    let is = c.loop-map.invariant.rest in
    is ∙ ap (λ (l : LooksState). record c.args.heap.now { looks = l }) (sym (ap (λ (z : HeapState). z.looks) is))

pub returns-clause-queued : goal.returns-clause-queued
returns-clause-queued c = queues_all c.args.heap.now c.args.zone c.loop-map.index c.loop-map.heap c.loop-map.invariant
    (ap (λ (w : WeakTableState). slice_get (maps_delegated_in w c.args.zone) c.loop-map.index)
    (sym (ap (λ (z : HeapState). z.shape.weak) c.loop-map.invariant.rest))
    ∙ sym c.map_delegated_in.ensures.map ∙ c.in_default.is) c.requires.shape c.requires.homes
    (subst IsSound (ap (λ (z : HeapState). z.shape.weak) c.loop-map.invariant.rest) c.map_delegated_in.ensures.sound)
