use Rattle.std.proofs.Common.{rules, ◌≡◌, ◌+◌, ◌-◌, ◌≤◌, ℕ, List, [], ◌∷◌, ◌++◌, length, vec_capacity, All, refl}
use Rattle.std.proofs.Common.{sym, ap, subst, ◌∙◌, arith, length-append}
use Rattle.crossbeam_queue.specs.Passes.{view}
use Rattle.mark_words.specs.Seats.{view_of}
use Rattle.mark_words.proofs.Places.{all_front}
use Rattle.par_mark.specs.declared.donations.QueueView.{QueueView}
use Rattle.par_mark.specs.Lists.{outside_of, tries_of, won_of}
use Rattle.par_mark.specs.States.{state_of}
use Rattle.par_mark.specs.Tries.{HasTriedSome, IsTaken, own}
use Rattle.par_mark.proofs.Accounting.{listed_taken, tried_one, tried_none, tried_more}
use Rattle.par_mark.proofs.Moving.{with_taken, within_made}
use Rattle.par_mark.proofs.turns.try_places.Goals as goal

pub returns-in_default-clause-tried : goal.returns-in_default-clause-tried
returns-in_default-clause-tried g c =
    let e = g.H.Graph.edge c.args.heap.now in
    let m = g.H.Graph.marking c.args.heap.now in
    let s = state_of c.args.lists.now (view_of c.args.seat.now) (view c.args.pass.now) in
    let n = c.in_default.ensures.none in
    let same : tries_of c.args.lists.now ≡ c.take.new.tries.items = ap (λ v. v.items) (sym c.deref_mut.ensures.value)
    ∙ n.0 ∙ sym n.1 in (
      [],
      subst (λ (x : List (ℕ × ℕ) × QueueView). HasTriedSome e m g.L.PlaceList.places 0 [] s (with_taken s x.0 x.1))
          (λ i. (same i, sym n.2 i)) (tried_none e m g.L.PlaceList.places s),
    )

pub try_place-made-requires-clause-listed : goal.try_place-made-requires-clause-listed
try_place-made-requires-clause-listed g c =
    let taken : IsTaken g.L.PlaceList.places c.in-Some.first (tries_of c.args.lists.now) (view c.args.pass.now)
    c.take.new.tries.items (view c.take.new.pass) =
    subst (λ (l : List (ℕ × ℕ)). IsTaken g.L.PlaceList.places c.in-Some.first l (view c.args.pass.now)
    c.take.new.tries.items (view c.take.new.pass)) (ap (λ v. v.items) c.deref_mut.ensures.value)
    c.in-Some.ensures.some in
    (listed_taken (g.H.Graph.edge c.args.heap.now) (g.H.Graph.marking c.args.heap.now) g.L.PlaceList.places
    (tries_of c.args.lists.now) c.take.new.tries.items (view c.args.pass.now) (view c.take.new.pass) c.in-Some.first
    taken c.requires.ready.accounts.tries_listed).1

pub try_place-made-requires-clause-place : goal.try_place-made-requires-clause-place
try_place-made-requires-clause-place g c =
    let taken : IsTaken g.L.PlaceList.places c.in-Some.first (tries_of c.args.lists.now) (view c.args.pass.now)
    c.take.new.tries.items (view c.take.new.pass) =
    subst (λ (l : List (ℕ × ℕ)). IsTaken g.L.PlaceList.places c.in-Some.first l (view c.args.pass.now)
    c.take.new.tries.items (view c.take.new.pass)) (ap (λ v. v.items) c.deref_mut.ensures.value)
    c.in-Some.ensures.some in
    (listed_taken (g.H.Graph.edge c.args.heap.now) (g.H.Graph.marking c.args.heap.now) g.L.PlaceList.places
    (tries_of c.args.lists.now) c.take.new.tries.items (view c.args.pass.now) (view c.take.new.pass) c.in-Some.first
    taken c.requires.ready.accounts.tries_listed).0

pub try_place-made-requires-clause-won_room : goal.try_place-made-requires-clause-won_room
try_place-made-requires-clause-won_room g c =
    let none = ap length c.requires.ready.none_left in
    let has = c.requires.ready.won_has in omega arith

pub loop-made-init : goal.loop-made-init
loop-made-init g c =
    let taken : IsTaken g.L.PlaceList.places c.in-Some.first (tries_of c.args.lists.now) (view c.args.pass.now)
    c.take.new.tries.items (view c.take.new.pass) =
    subst (λ (l : List (ℕ × ℕ)). IsTaken g.L.PlaceList.places c.in-Some.first l (view c.args.pass.now)
    c.take.new.tries.items (view c.take.new.pass)) (ap (λ v. v.items) c.deref_mut.ensures.value)
    c.in-Some.ensures.some in (
      search rules,
      search rules,
      search rules,
      search rules,
      search rules,
      tried_one (g.H.Graph.edge c.args.heap.now) (g.H.Graph.marking c.args.heap.now) g.L.PlaceList.places
          (state_of c.args.lists.now (view_of c.args.seat.now) (view c.args.pass.now))
          (state_of c.try_place-made.new.lists (view_of c.try_place-made.new.seat) (view c.take.new.pass))
          c.take.new.tries.items (view c.take.new.pass) c.try_place-made.result c.in-Some.first taken
          (c.try_place-made.ensures.tried (view c.take.new.pass)),
    )

pub try_place-made-requires-in-loop-made-clause-listed : goal.try_place-made-requires-in-loop-made-clause-listed
try_place-made-requires-in-loop-made-clause-listed g c =
    let P = g.L.PlaceList.places in
    let all : All P (tries_of c.loop-made.lists) = c.loop-made.invariant.5.1.tries_listed
    c.requires.ready.accounts.tries_listed in
    let items : tries_of c.loop-made.lists ≡ c.pop_back.new.self.items ++ c.in-Some-pop_back.place ∷ [] =
    ap (λ v. v.items) (sym c.deref_mut-in-loop-made.ensures.value) ∙ c.in-Some-pop_back.ensures.items in
    (all_front P c.pop_back.new.self.items c.in-Some-pop_back.place (subst (All P) items all)).0

pub try_place-made-requires-in-loop-made-clause-place : goal.try_place-made-requires-in-loop-made-clause-place
try_place-made-requires-in-loop-made-clause-place g c =
    let P = g.L.PlaceList.places in
    let all : All P (tries_of c.loop-made.lists) = c.loop-made.invariant.5.1.tries_listed
    c.requires.ready.accounts.tries_listed in
    let items : tries_of c.loop-made.lists ≡ c.pop_back.new.self.items ++ c.in-Some-pop_back.place ∷ [] =
    ap (λ v. v.items) (sym c.deref_mut-in-loop-made.ensures.value) ∙ c.in-Some-pop_back.ensures.items in
    (all_front P c.pop_back.new.self.items c.in-Some-pop_back.place (subst (All P) items all)).1

pub try_place-made-requires-in-loop-made-clause-won_room : goal.try_place-made-requires-in-loop-made-clause-won_room
try_place-made-requires-in-loop-made-clause-won_room g c =
    let i = c.loop-made.invariant in
    let w = (within_made c.loop-made.made i.5.0 (state_of c.args.lists.now (view_of c.args.seat.now)
    (view c.args.pass.now))
    (state_of c.loop-made.lists (view_of c.loop-made.seat) (view c.take.new.pass)) i.5.1.moved).0 in
    let won = ap length i.5.1.won_is in
    let a = length-append (won_of c.args.lists.now) i.5.0 in
    let none = ap length c.requires.ready.none_left in
    let r = c.requires.ready.won_has in
    let l = i.2.won in
    let m = i.4 in
    let goal_is : length (won_of c.loop-made.lists) + (c.args.most - c.loop-made.made)
    ≤ vec_capacity c.loop-made.lists.won = omega arith in goal_is

pub try_place-made-requires-in-loop-made-clause-outside_room :
    goal.try_place-made-requires-in-loop-made-clause-outside_room
try_place-made-requires-in-loop-made-clause-outside_room g c =
    let i = c.loop-made.invariant in
    let w = (within_made c.loop-made.made i.5.0 (state_of c.args.lists.now (view_of c.args.seat.now)
    (view c.args.pass.now))
    (state_of c.loop-made.lists (view_of c.loop-made.seat) (view c.take.new.pass)) i.5.1.moved).1 in
    let r = c.requires.ready.outside_has in
    let l = i.2.outside in
    let m = i.4 in
    let goal_is : length (outside_of c.loop-made.lists) + (c.args.most - c.loop-made.made)
    ≤ vec_capacity c.loop-made.lists.outside = omega arith in goal_is

pub loop-made-preserved : goal.loop-made-preserved
loop-made-preserved g c =
    let e = g.H.Graph.edge c.args.heap.now in
    let m = g.H.Graph.marking c.args.heap.now in
    let P = g.L.PlaceList.places in
    let i = c.loop-made.invariant in
    let d = view c.take.new.pass in
    let s = state_of c.args.lists.now (view_of c.args.seat.now) (view c.args.pass.now) in
    let t = state_of c.loop-made.lists (view_of c.loop-made.seat) d in
    let u = state_of c.try_place-made-in-loop-made.new.lists (view_of c.try_place-made-in-loop-made.new.seat) d in
    let made = c.try_place-made-in-loop-made.ensures.made in
    let more = made.1 in
    let positive = i.3 in
    let some' = c.loop-made-test.true in
    let room = c.try_place-made-in-loop-made.ensures.room in
    let items : tries_of c.loop-made.lists ≡ c.pop_back.new.self.items ++ c.in-Some-pop_back.place ∷ [] =
    ap (λ v. v.items) (sym c.deref_mut-in-loop-made.ensures.value) ∙ c.in-Some-pop_back.ensures.items in
    let one = tried_one e m P t u c.pop_back.new.self.items d c.try_place-made-in-loop-made.result
    c.in-Some-pop_back.place (own items refl) (c.try_place-made-in-loop-made.ensures.tried d) in (
      search rules,
      search rules,
      search rules,
      omega arith,
      omega arith,
      (
        i.5.0 ++ one.0,
        tried_more e m P c.loop-made.made c.try_place-made-in-loop-made.result i.5.0 one.0 s t u i.5.1 one.1,
      ),
    )
