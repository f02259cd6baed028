use Rattle.std.proofs.Common.{◌∙◌, [], sym, subst, List, ap, set, slice_get}
use Rattle.weak_maps.specs.Listings.{ListingState}
use Rattle.weak_maps.specs.Seats.{LooksAt}
use Rattle.weak_maps.proofs.Nexting.{list_known, passed, passed-same, looked, looked-queue}
use Rattle.weak_maps.proofs.Queueing.{contains_last, none_contains}
use Rattle.weak_maps.proofs.seats.next_left.Goals as goal

pub bounds-lists-list : goal.bounds-lists-list
bounds-lists-list c =
    let here = contains_last c.loop-list.queue.waiting c.in-Some.list (sym c.last.ensures ∙ c.in-Some.is) in
    list_known c.args.colour c.loop-list.lists c.loop-list.queue c.in-Some.list c.loop-list.invariant.queue
    here (record { entries = []; left = 0; colour = c.args.colour })

pub returns-in-Some-next-clause-some : goal.returns-in-Some-next-clause-some
returns-in-Some-next-clause-some c =
    let here = contains_last c.loop-list.queue.waiting c.in-Some.list (sym c.last.ensures ∙ c.in-Some.is) in
    subst (λ (ls : List ListingState). LooksAt c.args.colour c.in-Some-next.entry ls
    (set c.loop-list.lists c.in-Some.list c.next.new.self)) c.loop-list.invariant.same
    (looked c.args.colour c.loop-list.lists c.loop-list.queue c.in-Some.list c.loop-list.invariant.queue
    here c.index-lists-list.result c.in-Some-next.entry c.next.new.self c.in-Some-next.ensures.some)

pub returns-in-Some-next-clause-queue : goal.returns-in-Some-next-clause-queue
returns-in-Some-next-clause-queue c =
    let here = contains_last c.loop-list.queue.waiting c.in-Some.list (sym c.last.ensures ∙ c.in-Some.is) in
    looked-queue c.args.colour c.loop-list.lists c.loop-list.queue c.in-Some.list c.loop-list.invariant.queue
    here c.index-lists-list.result c.in-Some-next.entry c.next.new.self c.in-Some-next.ensures.some

pub loop-list-preserved : goal.loop-list-preserved
loop-list-preserved c =
    let here = contains_last c.loop-list.queue.waiting c.in-Some.list (sym c.last.ensures ∙ c.in-Some.is) in
    let same = passed-same c.args.colour c.loop-list.lists c.loop-list.queue c.in-Some.list c.loop-list.invariant.queue
    here c.index-lists-list.result c.next.new.self c.in_default-next.ensures.none.1 in
    record {
      same = same ∙ c.loop-list.invariant.same;
      queue = rw same (passed c.args.colour c.loop-list.lists c.loop-list.queue c.in-Some.list
          c.loop-list.invariant.queue here c.index-lists-list.result c.drop_last.new.self
          (c.drop_last.ensures c.in-Some.list (sym c.last.ensures ∙ c.in-Some.is)) c.in_default-next.ensures.none.0);
    }

pub returns-clause-none : goal.returns-clause-none
returns-clause-none c = (
  c.loop-list.invariant.same,
  λ j l at left. none_contains c.loop-list.queue.waiting j (sym c.last.ensures ∙ c.in_default.is)
      (c.loop-list.invariant.queue.waits j l (ap (λ (ls : List ListingState). slice_get ls j) c.loop-list.invariant.same
      ∙ at) left),
)
