use Rattle.std.proofs.Common.{rules, ◌≡◌, ℕ, List, [], ◌++◌, vec_capacity, sym, ap, subst, ◌∙◌, arith}
use Rattle.crossbeam_queue.specs.Passes.{view}
use Rattle.mark_words.specs.declared.view.MarkView.{MarkView}
use Rattle.mark_words.specs.Seats.{first_of, view_of}
use Rattle.mark_words.specs.Views.{first_view, with_less, joined}
use Rattle.par_mark.specs.declared.donations.QueueView.{QueueView}
use Rattle.par_mark.specs.Accounts.{Accounts}
use Rattle.par_mark.specs.Donations.{unused_view, joined_view}
use Rattle.par_mark.specs.Donations as donations
use Rattle.par_mark.specs.Lists.{tries_of, outside_of}
use Rattle.par_mark.proofs.Balancing.{forks}
use Rattle.par_mark.specs.Shares.{AreShared}
use Rattle.par_mark.proofs.Merging.{Together, together, settled}
use Rattle.par_mark.proofs.Sharing.{shared}
use Rattle.par_mark.proofs.callers.mark_from.Goals as goal

abbrev fewer_parts : QueueView → QueueView
fewer_parts d = donations.with_less d

pub another-requires-clause-rule : goal.another-requires-clause-rule
another-requires-clause-rule g c = forks g.L.PlaceList.places _ _ (search rules)

pub another-requires-2-clause-rule : goal.another-requires-2-clause-rule
another-requires-2-clause-rule g c = forks g.L.PlaceList.places _ _ (search rules)

pub append_lists-requires : goal.append_lists-requires
append_lists-requires g c =
    let e = g.H.Graph.edge c.args.heap.now in
    let m = g.H.Graph.marking c.args.heap.now in
    let P = g.L.PlaceList.places in
    let one = c.run_both-one.result.0 in
    let two = c.run_both-one.result.1 in
    let v0 : MarkView = view_of c.split-2.new.seat in
    let d0 : QueueView = view c.another-2.new.pass in
    let v : MarkView = view_of c.settle.new.seat in
    let d : QueueView = view c.settle.new.pass in
    let v_is : v ≡ joined (joined v0 (view_of one.seat)) (view_of two.seat) = c.settle.ensures.seat.1
    ∙ c.join_one-2.ensures.seat.1 ∙ ap (λ (u : MarkView). joined u (view_of two.seat)) c.join_one.ensures.seat.1 in
    let d_is : d ≡ joined_view (joined_view d0 (view one.pass)) (view two.pass) = c.settle.ensures.pass.1
    ∙ c.join_one-2.ensures.pass.1 ∙ ap (λ (u : QueueView). joined_view u (view two.pass))
    c.join_one.ensures.pass.1 in
    let v0_is : v0 ≡ with_less (with_less (first_view (first_of c.args.marks.now))) = c.split-2.ensures.old.1
    ∙ ap with_less (c.split.ensures.old.1 ∙ ap with_less c.requires.seat.1) in
    let d0_is : d0 ≡ fewer_parts (fewer_parts (unused_view)) = c.another-2.ensures.rule.0
    ∙ ap fewer_parts (c.another.ensures.rule.0 ∙ ap fewer_parts c.requires.queue) in
    let first_is = c.settle.ensures.seat.0.1 in
    let t : Together e m P (tries_of c.args.front) (tries_of c.args.back) c.requires.room.0 one.lists two.lists v d =
    together e m P _ _ one two v0 v d0 d c.requires.room.0 c.run_both-one.ensures.one c.run_both-one.ensures.two
    (ap (λ (u : MarkView). u.won) v_is) (ap (λ (u : MarkView). u.known) v_is) (ap (λ (u : QueueView). u.put) d_is)
    (ap (λ (u : QueueView). u.taken) d_is)
    (ap (λ (u : MarkView). u.won) v0_is) (ap (λ (u : MarkView). u.known) v0_is) (ap (λ (u : QueueView). u.put) d0_is)
    (ap (λ (u : QueueView). u.taken) d0_is)
    (c.run_both-one.ensures.seats.0.1 ∙ sym first_is) (c.run_both-one.ensures.seats.1.1 ∙ sym first_is)
    c.settle.ensures.knows c.settle.ensures.taken c.requires.room.3 in
    let r = c.run_both-one.ensures.one.room in
    let f = c.requires.room.1 in
    let tf = t.tries_fit in
    let of = t.outside_fit in
    let a = f.tries_have in
    let o = f.outside_has in
    let x = r.tries in
    let z = r.outside in record { tries = omega arith; outside = omega arith }

pub drain-requires-clause-accounts : goal.drain-requires-clause-accounts
drain-requires-clause-accounts g c =
    let e = g.H.Graph.edge c.args.heap.now in
    let m = g.H.Graph.marking c.args.heap.now in
    let P = g.L.PlaceList.places in
    let one = c.run_both-one.result.0 in
    let two = c.run_both-one.result.1 in
    let v0 : MarkView = view_of c.split-2.new.seat in
    let d0 : QueueView = view c.another-2.new.pass in
    let v : MarkView = view_of c.settle.new.seat in
    let d : QueueView = view c.settle.new.pass in
    let v_is : v ≡ joined (joined v0 (view_of one.seat)) (view_of two.seat) = c.settle.ensures.seat.1
    ∙ c.join_one-2.ensures.seat.1 ∙ ap (λ (u : MarkView). joined u (view_of two.seat)) c.join_one.ensures.seat.1 in
    let d_is : d ≡ joined_view (joined_view d0 (view one.pass)) (view two.pass) = c.settle.ensures.pass.1
    ∙ c.join_one-2.ensures.pass.1 ∙ ap (λ (u : QueueView). joined_view u (view two.pass))
    c.join_one.ensures.pass.1 in
    let v0_is : v0 ≡ with_less (with_less (first_view (first_of c.args.marks.now))) = c.split-2.ensures.old.1
    ∙ ap with_less (c.split.ensures.old.1 ∙ ap with_less c.requires.seat.1) in
    let d0_is : d0 ≡ fewer_parts (fewer_parts (unused_view)) = c.another-2.ensures.rule.0
    ∙ ap fewer_parts (c.another.ensures.rule.0 ∙ ap fewer_parts c.requires.queue) in
    let first_is = c.settle.ensures.seat.0.1 in
    let t : Together e m P (tries_of c.args.front) (tries_of c.args.back) c.requires.room.0 one.lists two.lists v d =
    together e m P _ _ one two v0 v d0 d c.requires.room.0 c.run_both-one.ensures.one c.run_both-one.ensures.two
    (ap (λ (u : MarkView). u.won) v_is) (ap (λ (u : MarkView). u.known) v_is) (ap (λ (u : QueueView). u.put) d_is)
    (ap (λ (u : QueueView). u.taken) d_is)
    (ap (λ (u : MarkView). u.won) v0_is) (ap (λ (u : MarkView). u.known) v0_is) (ap (λ (u : QueueView). u.put) d0_is)
    (ap (λ (u : QueueView). u.taken) d0_is)
    (c.run_both-one.ensures.seats.0.1 ∙ sym first_is) (c.run_both-one.ensures.seats.1.1 ∙ sym first_is)
    c.settle.ensures.knows c.settle.ensures.taken c.requires.room.3 in
    let r = c.run_both-one.ensures.one.room in
    let f = c.requires.room.1 in
    let n = c.append_lists.ensures in
    let a = f.tries_have in
    let b = f.won_has in
    let o = f.outside_has in
    let x = r.tries in
    let y = r.won in
    let z = r.outside in
    let p = n.room.0 in
    let q = n.room.1 in
    let won = ap (λ w. vec_capacity w) n.won in record {
      firsts = tries_of c.args.front ++ tries_of c.args.back;
      accounts = subst (λ (l : List (ℕ × ℕ) × List (ℕ × ℕ)). Accounts e m P
          (tries_of c.args.front ++ tries_of c.args.back) [] [] l.0 l.1 v d) (λ i. (sym n.tries i, sym n.outside i))
          t.accounts;
      taken_put = c.settle.ensures.taken;
      none_left = ap (λ w. w.items) n.won ∙ c.run_both-one.ensures.one.none_left;
      most = c.requires.room.0;
      room = t.room;
      tries_most = omega arith;
      won_room = omega arith;
      outside_most = omega arith;
    }

pub returns-clause-accounts : goal.returns-clause-accounts
returns-clause-accounts g c =
    let e = g.H.Graph.edge c.args.heap.now in
    let m = g.H.Graph.marking c.args.heap.now in
    let P = g.L.PlaceList.places in
    let one = c.run_both-one.result.0 in
    let two = c.run_both-one.result.1 in
    let v0 : MarkView = view_of c.split-2.new.seat in
    let d0 : QueueView = view c.another-2.new.pass in
    let v : MarkView = view_of c.settle.new.seat in
    let d : QueueView = view c.settle.new.pass in
    let v_is : v ≡ joined (joined v0 (view_of one.seat)) (view_of two.seat) = c.settle.ensures.seat.1
    ∙ c.join_one-2.ensures.seat.1 ∙ ap (λ (u : MarkView). joined u (view_of two.seat)) c.join_one.ensures.seat.1 in
    let d_is : d ≡ joined_view (joined_view d0 (view one.pass)) (view two.pass) = c.settle.ensures.pass.1
    ∙ c.join_one-2.ensures.pass.1 ∙ ap (λ (u : QueueView). joined_view u (view two.pass))
    c.join_one.ensures.pass.1 in
    let v0_is : v0 ≡ with_less (with_less (first_view (first_of c.args.marks.now))) = c.split-2.ensures.old.1
    ∙ ap with_less (c.split.ensures.old.1 ∙ ap with_less c.requires.seat.1) in
    let d0_is : d0 ≡ fewer_parts (fewer_parts (unused_view)) = c.another-2.ensures.rule.0
    ∙ ap fewer_parts (c.another.ensures.rule.0 ∙ ap fewer_parts c.requires.queue) in
    let first_is = c.settle.ensures.seat.0.1 in
    let t : Together e m P (tries_of c.args.front) (tries_of c.args.back) c.requires.room.0 one.lists two.lists v d =
    together e m P _ _ one two v0 v d0 d c.requires.room.0 c.run_both-one.ensures.one c.run_both-one.ensures.two
    (ap (λ (u : MarkView). u.won) v_is) (ap (λ (u : MarkView). u.known) v_is) (ap (λ (u : QueueView). u.put) d_is)
    (ap (λ (u : QueueView). u.taken) d_is)
    (ap (λ (u : MarkView). u.won) v0_is) (ap (λ (u : MarkView). u.known) v0_is) (ap (λ (u : QueueView). u.put) d0_is)
    (ap (λ (u : QueueView). u.taken) d0_is)
    (c.run_both-one.ensures.seats.0.1 ∙ sym first_is) (c.run_both-one.ensures.seats.1.1 ∙ sym first_is)
    c.settle.ensures.knows c.settle.ensures.taken c.requires.room.3 in
    let n = c.append_lists.ensures in
    let firsts : List (ℕ × ℕ) = tries_of c.args.front ++ tries_of c.args.back in
    let a = subst (λ (l : List (ℕ × ℕ) × List (ℕ × ℕ)). Accounts e m P firsts [] [] l.0 l.1 v d)
    (λ i. (sym n.tries i, sym n.outside i)) t.accounts in
    let b = c.drain.ensures.accounts firsts a in
    let same = c.settle-2.ensures.seat.1 in
    settled e m P firsts (outside_of c.drain.new.lists) (view_of c.settle-2.new.seat) (view c.drain.new.pass)
    (subst (λ (u : MarkView). Accounts e m P firsts [] [] [] (outside_of c.drain.new.lists) u
    (view c.drain.new.pass)) (sym same) b) c.drain.ensures.pass.1 c.drain.ensures.empty c.settle-2.ensures.knows

pub returns-clause-shares : goal.returns-clause-shares
returns-clause-shares g c =
    let e = g.H.Graph.edge c.args.heap.now in
    let m = g.H.Graph.marking c.args.heap.now in
    let P = g.L.PlaceList.places in
    let one = c.run_both-one.result.0 in
    let two = c.run_both-one.result.1 in
    let v0 : MarkView = view_of c.split-2.new.seat in
    let d0 : QueueView = view c.another-2.new.pass in
    let v : MarkView = view_of c.settle.new.seat in
    let d : QueueView = view c.settle.new.pass in
    let v_is : v ≡ joined (joined v0 (view_of one.seat)) (view_of two.seat) = c.settle.ensures.seat.1
    ∙ c.join_one-2.ensures.seat.1 ∙ ap (λ (u : MarkView). joined u (view_of two.seat)) c.join_one.ensures.seat.1 in
    let d_is : d ≡ joined_view (joined_view d0 (view one.pass)) (view two.pass) = c.settle.ensures.pass.1
    ∙ c.join_one-2.ensures.pass.1 ∙ ap (λ (u : QueueView). joined_view u (view two.pass))
    c.join_one.ensures.pass.1 in
    let v0_is : v0 ≡ with_less (with_less (first_view (first_of c.args.marks.now))) = c.split-2.ensures.old.1
    ∙ ap with_less (c.split.ensures.old.1 ∙ ap with_less c.requires.seat.1) in
    let d0_is : d0 ≡ fewer_parts (fewer_parts (unused_view)) = c.another-2.ensures.rule.0
    ∙ ap fewer_parts (c.another.ensures.rule.0 ∙ ap fewer_parts c.requires.queue) in
    let first_is = c.settle.ensures.seat.0.1 in
    let t : Together e m P (tries_of c.args.front) (tries_of c.args.back) c.requires.room.0 one.lists two.lists v d =
    together e m P _ _ one two v0 v d0 d c.requires.room.0 c.run_both-one.ensures.one c.run_both-one.ensures.two
    (ap (λ (u : MarkView). u.won) v_is) (ap (λ (u : MarkView). u.known) v_is) (ap (λ (u : QueueView). u.put) d_is)
    (ap (λ (u : QueueView). u.taken) d_is)
    (ap (λ (u : MarkView). u.won) v0_is) (ap (λ (u : MarkView). u.known) v0_is) (ap (λ (u : QueueView). u.put) d0_is)
    (ap (λ (u : QueueView). u.taken) d0_is)
    (c.run_both-one.ensures.seats.0.1 ∙ sym first_is) (c.run_both-one.ensures.seats.1.1 ∙ sym first_is)
    c.settle.ensures.knows c.settle.ensures.taken c.requires.room.3 in
    let n = c.append_lists.ensures in
    let firsts : List (ℕ × ℕ) = tries_of c.args.front ++ tries_of c.args.back in
    let a = subst (λ (l : List (ℕ × ℕ) × List (ℕ × ℕ)). Accounts e m P firsts [] [] l.0 l.1 v d)
    (λ i. (sym n.tries i, sym n.outside i)) t.accounts in
    let b = c.drain.ensures.accounts firsts a in
    let same = c.settle-2.ensures.seat.1 in
    let s = shared e m P _ _ one two (tries_of c.append_lists.new.lists) (outside_of c.append_lists.new.lists)
    (outside_of c.drain.new.lists) v (view_of c.drain.new.seat) d (view c.drain.new.pass)
    c.run_both-one.ensures.one c.run_both-one.ensures.two
    (ap (λ (u : MarkView). u.won) v_is ∙ ap (λ (u : MarkView). (u.won ++ (view_of one.seat).won)
    ++ (view_of two.seat).won) v0_is)
    (ap (λ (u : MarkView). u.known) v_is ∙ ap (λ (u : MarkView). (u.known ++ (view_of one.seat).known)
    ++ (view_of two.seat).known) v0_is)
    (ap (λ (u : MarkView). u.logs) v_is ∙ ap (λ (u : MarkView). (u.logs ++ (view_of one.seat).logs)
    ++ (view_of two.seat).logs) v0_is)
    (ap (λ (u : QueueView). u.put) d_is ∙ ap (λ (u : QueueView). (u.put ++ (view one.pass).put)
    ++ (view two.pass).put) d0_is)
    (ap (λ (u : QueueView). u.taken) d_is ∙ ap (λ (u : QueueView). (u.taken ++ (view one.pass).taken)
    ++ (view two.pass).taken) d0_is)
    (ap (λ (u : QueueView). u.moves) d_is ∙ ap (λ (u : QueueView). (u.moves ++ (view one.pass).moves)
    ++ (view two.pass).moves) d0_is)
    n.tries n.outside a b c.drain.ensures.grown c.drain.ensures.pass.1 c.drain.ensures.empty in
    subst (λ (x : MarkView × QueueView). AreShared e firsts (outside_of c.drain.new.lists) x.0 x.1)
    (λ i. (sym same i, sym c.settle-2.ensures.pass.1 i)) s
