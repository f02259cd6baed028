use Rattle.std.proofs.lemmas.Option.{slice_get_within}
use Rattle.std.proofs.Common.{◌∙◌, ap, length, length-set, arith, slice_get, List, ℕ, false}
use Rattle.weak_maps.proofs.Reading.{slice_get-push_at}
use Rattle.weak_maps.proofs.Queueing.{IsQueue-dropped, dropped_last}
use Rattle.weak_maps.proofs.queues.Queue.drop_last.Goals as goal

pub index_mut-requires : goal.index_mut-requires
index_mut-requires c =
    let all = c.in-Some.ensures.items in
    let rest : List ℕ = c.pop.new.self.items in
    let last = ap (λ (w : List ℕ). slice_get w (length rest)) all ∙ slice_get-push_at rest c.in-Some.list in
    let less = slice_get_within c.self.inside.waits.items c.in-Some.list _
    (c.self.invariant.marked (length rest) c.in-Some.list last) in
    omega (arith, less)

pub invariant_of-self : goal.invariant_of-self
invariant_of-self c =
    rw (c.in-Some.ensures.capacity)
    (IsQueue-dropped c.self.inside.waiting.items c.pop.new.self.items _ c.self.inside.waits.items c.in-Some.list
    c.self.invariant c.in-Some.ensures.items)

pub returns-in-Some : goal.returns-in-Some
returns-in-Some c = rw (← c.self.view_is)
    (dropped_last c.self.inside.waiting.items c.pop.new.self.items c.in-Some.list _ _ c.in-Some.ensures.items
    (length-set c.self.inside.waits.items c.in-Some.list false))
