use Rattle.gray_lists.proofs.Headed.{AreHeaded-none}
use Rattle.gray_lists.proofs.Noting.{IsSound-empty}
use Rattle.gray_lists.proofs.incoming.Lists.clear.Goals as goal

pub invariant_of-self : goal.invariant_of-self
invariant_of-self c =
    let none = AreHeaded-none c.new-self-inside.result.words c.new-self-inside.ensures.none in
    rw (c.clear.ensures.items, c.clear.ensures.capacity)
    (IsSound-empty _ _ c.self.invariant.0.held c.self.invariant.0.limit, none, c.new-self-inside.ensures.end)
