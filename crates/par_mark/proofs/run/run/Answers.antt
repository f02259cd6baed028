use Rattle.std.proofs.Common.{rules, All, sym, ap, subst, refl, ◌∙◌, arith}
use Rattle.std.specs.VecDeque.{deque_capacity}
use Rattle.crossbeam_queue.specs.Passes.{view}
use Rattle.mark_words.specs.Seats.{view_of}
use Rattle.mark_words.specs.Sums.{weigh}
use Rattle.par_mark.specs.declared.caller.Caller.{Caller}
use Rattle.par_mark.specs.Accounts.{HasRoom}
use Rattle.par_mark.specs.Lists.{tries_of}
use Rattle.par_mark.specs.Callers.{HasRun}
use Rattle.par_mark.specs.States.{state_of}
use Rattle.par_mark.specs.Tries.{IsDonated}
use Rattle.par_mark.proofs.Moving.{within_made}
use Rattle.par_mark.proofs.Running.{turned_on, donated_on}
use Rattle.par_mark.proofs.run.run.Goals as goal

pub donate-requires-clause-listed : goal.donate-requires-clause-listed
donate-requires-clause-listed g c = subst (λ v. All g.L.PlaceList.places v.items) (sym c.deref_mut.ensures.value)
    (c.find_and_try-made.ensures.turned.accounts (tries_of c.args.caller.lists)
    c.loop-left.invariant.2.accounts).tries_listed

pub find_and_try-made-requires-clause-ready : goal.find_and_try-made-requires-clause-ready
find_and_try-made-requires-clause-ready g c =
    let r = c.requires.ready in
    let ran = c.loop-left.invariant.2 in
    let few = c.loop-left.invariant.3 in
    let tries = ran.room.tries in
    let won = ran.room.won in
    let outside = ran.room.outside in
    let least = c.min.ensures in
    let left = c.loop-left-test.true in record {
      firsts = tries_of c.args.caller.lists;
      accounts = ran.accounts;
      tries_have = subst (HasRoom (g.H.Graph.edge c.args.heap.now) (g.H.Graph.marking c.args.heap.now)
          g.L.PlaceList.places (weigh (λ _. 1) (tries_of c.args.caller.lists))) (sym tries) r.room;
      some_tries = omega arith;
      none_left = ran.none_left;
      won_has = (let has = r.won_room in omega arith);
      outside_has = omega arith;
    }

pub loop-left-preserved : goal.loop-left-preserved
loop-left-preserved g c =
    let e = g.H.Graph.edge c.args.heap.now in
    let m = g.H.Graph.marking c.args.heap.now in
    let P = g.L.PlaceList.places in
    let i = c.loop-left.invariant in
    let old : Caller = c.loop-left.caller in
    let turn = c.find_and_try-made in
    let middle : Caller = record { seat = turn.new.seat; pass = turn.new.pass; lists = turn.new.lists } in
    let gave : IsDonated (tries_of middle.lists) (view middle.pass) c.donate.new.tries.items (view c.donate.new.pass) =
    subst (λ v. IsDonated v.items (view middle.pass) c.donate.new.tries.items (view c.donate.new.pass))
    c.deref_mut.ensures.value c.donate.ensures.donated in
    let ran : HasRun e m P c.args.caller middle = turned_on e m P c.args.caller old middle turn.result i.2
    turn.ensures.turned turn.ensures.room in
    let w = within_made turn.result turn.ensures.turned.won (state_of old.lists (view_of old.seat) (view old.pass))
    (state_of middle.lists (view_of middle.seat) (view middle.pass)) turn.ensures.turned.moved in
    let w1 = w.1 in
    let most = turn.ensures.most in
    let least = c.min.ensures in
    let i3 = i.3 in (
      search rules,
      search rules,
      donated_on e m P c.args.caller middle _ ran gave refl refl refl record {
        tries = c.donate.ensures.room ∙ ap (λ v. deque_capacity v) c.deref_mut.ensures.value;
        won = refl;
        outside = refl;
      },
      omega arith,
    )

pub returns-then-made-eq0-clause-ran : goal.returns-then-made-eq0-clause-ran
returns-then-made-eq0-clause-ran g c =
    turned_on (g.H.Graph.edge c.args.heap.now) (g.H.Graph.marking c.args.heap.now) g.L.PlaceList.places
    c.args.caller c.loop-left.caller _ c.find_and_try-made.result c.loop-left.invariant.2
    c.find_and_try-made.ensures.turned c.find_and_try-made.ensures.room
