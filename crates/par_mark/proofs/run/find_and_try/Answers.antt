use Rattle.std.proofs.Common.{refl, sym, subst, arith}
use Rattle.crossbeam_queue.specs.Passes.{view}
use Rattle.mark_words.specs.Seats.{view_of}
use Rattle.mark_words.specs.Sums.{weigh}
use Rattle.par_mark.specs.Accounts.{HasRoom}
use Rattle.par_mark.specs.States.{state_of}
use Rattle.par_mark.proofs.Accounting.{turned_none, turned_more}
use Rattle.par_mark.proofs.Moving.{within_made}
use Rattle.par_mark.proofs.run.find_and_try.Goals as goal

pub loop-look-init : goal.loop-look-init
loop-look-init g c = (
  c.requires.seat.0,
  c.requires.pass.0,
  record { tries = refl; won = refl; outside = refl },
  turned_none (g.H.Graph.edge c.args.heap.now) (g.H.Graph.marking c.args.heap.now) g.L.PlaceList.places
      (state_of c.args.lists.now (view_of c.args.seat.now) (view c.args.pass.now)) c.requires.ready.none_left,
)

pub turn-made-requires-clause-ready : goal.turn-made-requires-clause-ready
turn-made-requires-clause-ready g c =
    let r = c.requires.ready in
    let i = c.loop-look.invariant in
    let s = state_of c.args.lists.now (view_of c.args.seat.now) (view c.args.pass.now) in
    let t = state_of c.loop-look.lists (view_of c.loop-look.seat) (view c.loop-look.pass) in
    let tries = i.2.tries in
    let won = i.2.won in
    let outside = i.2.outside in
    let few = (within_made 0 i.3.won s t i.3.moved).1 in record {
      firsts = r.firsts;
      accounts = i.3.accounts r.firsts r.accounts;
      tries_have = subst (HasRoom (g.H.Graph.edge c.args.heap.now) (g.H.Graph.marking c.args.heap.now)
          g.L.PlaceList.places (weigh (λ _. 1) r.firsts)) (sym tries) r.tries_have;
      some_tries = r.some_tries;
      none_left = i.3.none_left;
      won_has = (let has = r.won_has in omega arith);
      outside_has = (let has = r.outside_has in omega arith);
    }

pub returns-then-made-ne0-clause-turned : goal.returns-then-made-ne0-clause-turned
returns-then-made-ne0-clause-turned g c =
    turned_more (g.H.Graph.edge c.args.heap.now) (g.H.Graph.marking c.args.heap.now) g.L.PlaceList.places 0
    c.turn-made.result c.turn-made.result
    (state_of c.args.lists.now (view_of c.args.seat.now) (view c.args.pass.now))
    (state_of c.loop-look.lists (view_of c.loop-look.seat) (view c.loop-look.pass))
    (state_of c.turn-made.new.lists (view_of c.turn-made.new.seat) (view c.turn-made.new.pass)) (omega arith)
    c.loop-look.invariant.3 c.turn-made.ensures.turned
