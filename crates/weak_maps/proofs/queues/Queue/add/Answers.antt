use Rattle.std.proofs.Common.{ℕ, Contains, inl, inr, sym, true, subst, arith}
use Rattle.weak_maps.proofs.Queueing.{room_for, IsQueue-added, Contains-push, is_free, read_as}
use Rattle.weak_maps.proofs.queues.Queue.add.Goals as goal

pub push_reserved-requires : goal.push_reserved-requires
push_reserved-requires c =
    let less = rw (← c.self.view_is) at c.requires in
    let room = room_for c.self.inside.waiting.items _ c.self.inside.waits.items c.args.list c.self.invariant less
    (is_free c.self.inside.waits.items c.args.list c.index.result.now less c.index.ensures c.if-not-index.true) in
    omega (arith, room)

pub invariant_of-self : goal.invariant_of-self
invariant_of-self c =
    let less = rw (← c.self.view_is) at c.requires in
    rw (c.push_reserved.ensures.items, c.push_reserved.ensures.capacity)
    (IsQueue-added c.self.inside.waiting.items _ c.self.inside.waits.items c.args.list c.self.invariant less
    (is_free c.self.inside.waits.items c.args.list c.index.result.now less c.index.ensures c.if-not-index.true))

pub returns-then-not-index-clause-waiting : goal.returns-then-not-index-clause-waiting
returns-then-not-index-clause-waiting c = λ k.
    rw (c.push_reserved.ensures.items, ← c.self.view_is) (Contains-push c.self.inside.waiting.items c.args.list k)

pub returns-else-not-index-clause-waiting : goal.returns-else-not-index-clause-waiting
returns-else-not-index-clause-waiting c = λ k.
    let less = rw (← c.self.view_is) at c.requires in
    let there = c.self.invariant.there c.args.list
    (read_as c.self.inside.waits.items c.args.list c.index.result.now true less c.index.ensures
    c.if-not-index.false) in
    let here : Contains c.args.self.now.waiting c.args.list = rw (← c.self.view_is) there in (
      (λ has. inl has),
      λ has. elim has [
        | inl had ↦ had
        | inr is ↦ subst (λ (n : ℕ). Contains c.args.self.now.waiting n) (sym is) here
      ],
    )
