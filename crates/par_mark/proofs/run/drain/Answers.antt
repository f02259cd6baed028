use Rattle.std.proofs.Common.{rules, ◌≡◌, ℕ, List, [], ap, subst, refl, ◌∙◌, arith}
use Rattle.crossbeam_queue.specs.Passes.{view}
use Rattle.mark_words.specs.Seats.{view_of}
use Rattle.par_mark.specs.Accounts.{Accounts}
use Rattle.par_mark.specs.Lists.{outside_of, tries_of}
use Rattle.par_mark.specs.States.{CallerState, state_of}
use Rattle.par_mark.proofs.Growing.{grown_more, grown_none}
use Rattle.par_mark.proofs.Moving.{done_made}
use Rattle.par_mark.proofs.Running.{still_room, less_left}
use Rattle.par_mark.proofs.run.drain.Goals as goal

pub turn-requires-clause-ready : goal.turn-requires-clause-ready
turn-requires-clause-ready g c =
    let b = c.requires.accounts in
    let i = c.loop.invariant in
    let a = i.7 b.firsts b.accounts in
    let r = still_room (g.H.Graph.edge c.args.heap.now) (g.H.Graph.marking c.args.heap.now) g.L.PlaceList.places
    c.loop.lists _ (view_of c.loop.seat) _ (view c.loop.pass) c.args.lists.now b a i.5 i.4 in record {
      firsts = b.firsts;
      accounts = a;
      tries_have = r.1;
      some_tries = omega arith;
      none_left = i.6;
      won_has = (let has = b.won_room in let same = i.4.won in omega arith);
      outside_has = (let has = r.0 in omega arith);
    }

pub loop-init : goal.loop-init
loop-init g c = (
  c.requires.seat.0,
  refl,
  c.requires.pass.0,
  c.requires.pass.1,
  record { tries = refl; won = refl; outside = refl },
  c.requires.accounts.taken_put,
  c.requires.accounts.none_left,
  λ firsts a. a,
  grown_none (outside_of c.args.lists.now) (view_of c.args.seat.now) (view c.args.pass.now),
)

pub loop-smaller : goal.loop-smaller
loop-smaller g c =
    let b = c.requires.accounts in
    let i = c.loop.invariant in
    let t = c.turn.ensures.turned in
    less_left (g.H.Graph.edge c.args.heap.now) (g.H.Graph.marking c.args.heap.now) g.L.PlaceList.places
    c.turn.result (outside_of c.loop.lists) (outside_of c.turn.new.lists) b.firsts
    (tries_of c.turn.new.lists) (view_of c.loop.seat) (view_of c.turn.new.seat) (view c.turn.new.pass) b.most _
    (omega (arith, c.loop-test.true)) (done_made c.turn.result t.won
    (state_of c.loop.lists (view_of c.loop.seat) (view c.loop.pass))
    (state_of c.turn.new.lists (view_of c.turn.new.seat) (view c.turn.new.pass)) t.moved)
    (t.accounts b.firsts (i.7 b.firsts b.accounts)) (t.moved.whole_taken i.3 i.5) b.room b.outside_most

pub loop-preserved : goal.loop-preserved
loop-preserved g c =
    let i = c.loop.invariant in
    let t = c.turn.ensures.turned in
    let l = c.turn.ensures.room in (
      search rules,
      t.moved.parts_is ∙ i.1,
      search rules,
      t.moved.queue_parts ∙ i.3,
      record { tries = l.tries ∙ i.4.tries; won = l.won ∙ i.4.won; outside = l.outside ∙ i.4.outside },
      t.moved.whole_taken i.3 i.5,
      t.none_left,
      λ firsts a. t.accounts firsts (i.7 firsts a),
      grown_more _ _ _ _ _ _ _ _ _ i.8 t.moved.grown,
    )

pub returns-clause-accounts : goal.returns-clause-accounts
returns-clause-accounts g c = λ firsts a.
    let n = c.turn.ensures.none (omega (arith, c.loop-test.false)) in
    let b = c.loop.invariant.7 firsts a in
    let empty : tries_of c.turn.new.lists ≡ [] = ap (λ (s : CallerState). s.tries) n.same ∙ n.no_tries in
    subst (λ (tries : List (ℕ × ℕ)). Accounts (g.H.Graph.edge c.args.heap.now) (g.H.Graph.marking c.args.heap.now)
    g.L.PlaceList.places firsts [] [] tries (outside_of c.turn.new.lists) (view_of c.turn.new.seat)
    (view c.turn.new.pass)) empty (c.turn.ensures.turned.accounts firsts b)
