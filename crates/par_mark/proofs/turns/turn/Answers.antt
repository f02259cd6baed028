use Rattle.std.proofs.Common.{◌≡◌, ◌+◌, ◌≤◌, ℕ, List, [], ◌++◌, length, All, sym, ap, subst, ◌∙◌, arith}
use Rattle.std.specs.VecDeque.{deque_len, deque_capacity}
use Rattle.crossbeam_queue.specs.Passes.{view}
use Rattle.mark_words.specs.Seats.{first_of, view_of}
use Rattle.par_mark.specs.Edges.{all_targets}
use Rattle.par_mark.specs.Lists.{outside_of, tries_of}
use Rattle.par_mark.specs.Scans.{HasScanned}
use Rattle.par_mark.specs.States.{CallerState, state_of}
use Rattle.par_mark.specs.Tries.{HasTurned}
use Rattle.par_mark.proofs.Accounting.{room_for, turned, turned_none, won_here}
use Rattle.par_mark.proofs.turns.turn.Goals as goal

pub scan_all-requires-clause-present : goal.scan_all-requires-clause-present
scan_all-requires-clause-present g c =
    let edge = g.H.Graph.edge c.args.heap.now in
    let tried = c.try_places-made.ensures.tried in
    let won : List (ℕ × ℕ) = tried.0 in
    let fresh : c.deref.result.now ≡ won = c.deref.ensures.value ∙ tried.1.won_is
    ∙ ap (λ (l : List (ℕ × ℕ)). l ++ won) c.requires.ready.none_left in
    subst (All (g.H.Graph.has c.args.heap.now)) (sym fresh) (won_here edge (g.H.Graph.marking c.args.heap.now)
    g.L.PlaceList.places (g.H.Graph.has c.args.heap.now) (first_of c.args.marks.now) c.requires.serves
    c.requires.ready.firsts won (tries_of c.try_places-made.new.lists) (outside_of c.try_places-made.new.lists)
    (view_of c.try_places-made.new.seat) (view c.try_places-made.new.pass)
    (tried.1.moved.first_is ∙ c.requires.seat.0.1)
    (tried.1.accounts c.requires.ready.firsts [] c.requires.ready.accounts)).0

pub scan_all-requires-clause-room : goal.scan_all-requires-clause-room
scan_all-requires-clause-room g c =
    let edge = g.H.Graph.edge c.args.heap.now in
    let tried = c.try_places-made.ensures.tried in
    let won : List (ℕ × ℕ) = tried.0 in
    let fresh : c.deref.result.now ≡ won = c.deref.ensures.value ∙ tried.1.won_is
    ∙ ap (λ (l : List (ℕ × ℕ)). l ++ won) c.requires.ready.none_left in
    let r = room_for edge (g.H.Graph.marking c.args.heap.now) g.L.PlaceList.places
    c.requires.ready.firsts won (tries_of c.try_places-made.new.lists) (outside_of c.try_places-made.new.lists)
    (view_of c.try_places-made.new.seat) (view c.try_places-made.new.pass) _
    (tried.1.accounts c.requires.ready.firsts [] c.requires.ready.accounts) c.requires.ready.tries_have in
    let l = c.try_places-made.ensures.room.tries in
    let n = ap (λ v. length v.items) c.deref_mut.ensures.value in
    let o = c.deref_mut.result.now.ok.0 in
    let k = ap (λ v. deque_capacity v) c.deref_mut.ensures.value in
    let a = ap (λ (cells : List (ℕ × ℕ)). length (all_targets edge cells)) fresh in
    let goal_is : deque_len c.deref_mut.result.now + length (all_targets edge c.deref.result.now)
    ≤ deque_capacity c.deref_mut.result.now = omega arith in goal_is

pub scan_all-requires-clause-seat : goal.scan_all-requires-clause-seat
scan_all-requires-clause-seat g c =
    let p = c.try_places-made.ensures.tried.1.moved.parts_is in
    let o = c.requires.seat.1 in (c.try_places-made.ensures.seat, omega (arith, p, o))

pub scan_all-requires-clause-listed : goal.scan_all-requires-clause-listed
scan_all-requires-clause-listed g c =
    let edge = g.H.Graph.edge c.args.heap.now in
    let tried = c.try_places-made.ensures.tried in
    let won : List (ℕ × ℕ) = tried.0 in
    let fresh : c.deref.result.now ≡ won = c.deref.ensures.value ∙ tried.1.won_is
    ∙ ap (λ (l : List (ℕ × ℕ)). l ++ won) c.requires.ready.none_left in
    subst (λ (l : List (ℕ × ℕ)). All g.L.PlaceList.places (all_targets edge l)) (sym fresh)
    (won_here edge (g.H.Graph.marking c.args.heap.now) g.L.PlaceList.places (g.H.Graph.has c.args.heap.now)
    (first_of c.args.marks.now) c.requires.serves c.requires.ready.firsts won (tries_of c.try_places-made.new.lists)
    (outside_of c.try_places-made.new.lists) (view_of c.try_places-made.new.seat) (view c.try_places-made.new.pass)
    (tried.1.moved.first_is ∙ c.requires.seat.0.1)
    (tried.1.accounts c.requires.ready.firsts [] c.requires.ready.accounts)).1

pub returns-then-made-eq0-clause-turned : goal.returns-then-made-eq0-clause-turned
returns-then-made-eq0-clause-turned g c =
    let edge = g.H.Graph.edge c.args.heap.now in
    let m = g.H.Graph.marking c.args.heap.now in
    let s : CallerState = state_of c.args.lists.now (view_of c.args.seat.now) (view c.args.pass.now) in
    subst (λ (x : CallerState). HasTurned edge m g.L.PlaceList.places 0 s x)
    (sym (c.try_places-made.ensures.none c.if-made-eq0.true).same)
    (turned_none edge m g.L.PlaceList.places s c.requires.ready.none_left)

pub returns-clause-turned : goal.returns-clause-turned
returns-clause-turned g c =
    let edge = g.H.Graph.edge c.args.heap.now in
    let marking = g.H.Graph.marking c.args.heap.now in
    let tried = c.try_places-made.ensures.tried in
    let won : List (ℕ × ℕ) = tried.0 in
    let fresh : c.deref.result.now ≡ won = c.deref.ensures.value ∙ tried.1.won_is
    ∙ ap (λ (l : List (ℕ × ℕ)). l ++ won) c.requires.ready.none_left in
    let s = state_of c.args.lists.now (view_of c.args.seat.now) (view c.args.pass.now) in
    let m = state_of c.try_places-made.new.lists (view_of c.try_places-made.new.seat)
    (view c.try_places-made.new.pass) in
    turned edge marking g.L.PlaceList.places (g.H.Graph.has c.args.heap.now)
    (first_of c.args.marks.now) c.requires.serves c.try_places-made.result won s m _ c.requires.seat.0.1 tried.1
    (subst (λ (x : List (ℕ × ℕ) × List (ℕ × ℕ)). HasScanned marking x.0 (x.1, m.seat)
    (c.scan_all.new.tries.items, view_of c.scan_all.new.seat))
    (λ i. (all_targets edge (fresh i), ap (λ v. v.items) c.deref_mut.ensures.value i))
    c.scan_all.ensures.scanned) c.clear.ensures.items (λ i. m.outside) (λ i. m.pass)
