use Rattle.std.proofs.Common.{◌≡◌, ◌+◌, ℕ, List, [], ◌++◌, All, length, sym, ap, subst, ◌∙◌, arith, take}
use Rattle.std.proofs.Common.{append-nil, length-append}
use Rattle.std.proofs.lemmas.List.{take_all}
use Rattle.std.specs.VecDeque.{deque_capacity}
use Rattle.mark_words.specs.Seats.{view_of}
use Rattle.mark_ahead.specs.Edges.{targets}
use Rattle.par_mark.specs.Edges.{all_targets}
use Rattle.par_mark.specs.Scans.{HasScanned, Tries}
use Rattle.par_mark.proofs.Cells.{one_cell, one_room}
use Rattle.par_mark.proofs.Scanned.{cell_listed, scanned_behind, scanned_few, scanned_more, scanned_none, scanned_parts}
use Rattle.par_mark.proofs.scans.scan_all.Goals as goal

pub loop-place-init : goal.loop-place-init
loop-place-init g c =
    let m = g.H.Graph.marking c.args.heap.now in
    let s : Tries = (c.args.tries.now.items, view_of c.args.seat.now) in (
      c.requires.seat.0,
      c.requires.seat.1,
      subst (λ (l : List (ℕ × ℕ)). HasScanned m [] s (l, s.1))
          (sym (append-nil s.0) ∙ ap (λ (l : List (ℕ × ℕ)). s.0 ++ l) (sym c.new-found.ensures)) (scanned_none m s),
      λ i. deque_capacity c.args.tries.now,
    )

pub returns-then-not-have_fields-clause-scanned : goal.returns-then-not-have_fields-clause-scanned
returns-then-not-have_fields-clause-scanned g c =
    let m = g.H.Graph.marking c.args.heap.now in
    let s : Tries = (c.args.tries.now.items, view_of c.args.seat.now) in
    subst (λ (l : List (ℕ × ℕ)). HasScanned m l s s) (sym (c.have_fields.ensures c.if-not-have_fields.true))
    (scanned_none m s)

pub make_room-requires : goal.make_room-requires
make_room-requires g c =
    let edge = g.H.Graph.edge c.args.heap.now in
    let i = c.loop-place.place-index in
    let r = one_room edge c.args.cells.now i c.place-item.result c.loop-place-test.true in
    let few = scanned_few (g.H.Graph.marking c.args.heap.now) (all_targets edge (take i c.args.cells.now))
    (c.args.tries.now.items, view_of c.args.seat.now)
    (c.loop-place.tries.items ++ c.loop-place.found, view_of c.loop-place.seat) c.loop-place.invariant.2 in
    let a = length-append c.loop-place.tries.items c.loop-place.found in
    let o = c.loop-place.tries.ok.0 in
    let u = c.args.tries.now.ok.0 in
    let k = c.loop-place.invariant.3 in
    let m = c.requires.room in
    record { room = omega arith }

pub scan-requires-clause-listed : goal.scan-requires-clause-listed
scan-requires-clause-listed g c =
    let edge = g.H.Graph.edge c.args.heap.now in
    subst (λ (p : ℕ × ℕ). All g.L.PlaceList.places (targets edge p)) (sym c.place-item.is)
    (cell_listed g.L.PlaceList.places edge c.args.cells.now c.loop-place.place-index c.place-item.result
    c.loop-place-test.true c.requires.listed)

pub loop-place-preserved : goal.loop-place-preserved
loop-place-preserved g c =
    let m = g.H.Graph.marking c.args.heap.now in
    let edge = g.H.Graph.edge c.args.heap.now in
    let i = c.loop-place.invariant in
    let p = c.place-item.result in
    let before : List (ℕ × ℕ) = all_targets edge (take c.loop-place.place-index c.args.cells.now) in
    let tries = c.make_room.new.tries.items in
    let v = view_of c.loop-place.seat in
    let s : Tries = (c.args.tries.now.items, view_of c.args.seat.now) in
    let t : Tries = (c.loop-place.tries.items ++ c.loop-place.found, v) in
    let u : Tries = (tries ++ c.scan.new.found, view_of c.scan.new.seat) in
    let more : before ++ targets edge p ≡ all_targets edge (take (c.loop-place.place-index + 1) c.args.cells.now) =
    ap (λ (q : ℕ × ℕ). before ++ targets edge q) c.place-item.is
    ∙ sym (one_cell edge c.args.cells.now c.loop-place.place-index p c.loop-place-test.true) in
    let step : HasScanned m (targets edge p) t u
    = subst (λ (l : List (ℕ × ℕ)). HasScanned m (targets edge p) (l, v) u) c.make_room.ensures.all
    (scanned_behind m (targets edge p) tries c.make_room.new.self c.scan.new.found v u.1 c.scan.ensures.scanned) in (
      c.scan.ensures.seat,
      (let same = scanned_parts m (targets edge p) t u step in let k = i.1 in omega (arith, same, k)),
      subst (λ (l : List (ℕ × ℕ)). HasScanned m l s u) more (scanned_more m before (targets edge p) s t u i.2 step),
      c.make_room.ensures.room ∙ i.3,
    )

pub move_to-requires : goal.move_to-requires
move_to-requires g c =
    let edge = g.H.Graph.edge c.args.heap.now in
    let few = scanned_few (g.H.Graph.marking c.args.heap.now)
    (all_targets edge (take c.loop-place.place-index c.args.cells.now))
    (c.args.tries.now.items, view_of c.args.seat.now)
    (c.loop-place.tries.items ++ c.loop-place.found, view_of c.loop-place.seat) c.loop-place.invariant.2 in
    let whole : take c.loop-place.place-index c.args.cells.now ≡ c.args.cells.now
    = take_all c.loop-place.place-index c.args.cells.now (omega (arith, c.loop-place-test.false)) in
    let l = ap (λ (ps : List (ℕ × ℕ)). length (all_targets edge ps)) whole in
    let a = length-append c.loop-place.tries.items c.loop-place.found in
    let o = c.loop-place.tries.ok.0 in
    let u = c.args.tries.now.ok.0 in
    let k = c.loop-place.invariant.3 in
    let m = c.requires.room in
    record { room = omega arith }

pub returns-clause-scanned : goal.returns-clause-scanned
returns-clause-scanned g c =
    let edge = g.H.Graph.edge c.args.heap.now in
    let whole : take c.loop-place.place-index c.args.cells.now ≡ c.args.cells.now
    = take_all c.loop-place.place-index c.args.cells.now (omega (arith, c.loop-place-test.false)) in
    subst (λ (x : List (ℕ × ℕ) × List (ℕ × ℕ)). HasScanned (g.H.Graph.marking c.args.heap.now) (all_targets edge x.0)
    (c.args.tries.now.items, view_of c.args.seat.now) (x.1, view_of c.loop-place.seat))
    (λ i. (whole i, sym c.move_to.ensures.all i)) c.loop-place.invariant.2
