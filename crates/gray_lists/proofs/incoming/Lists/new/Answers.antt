use Rattle.gray_lists.proofs.Noting.{IsSound-new}
use Rattle.gray_lists.proofs.Headed.{AreHeaded-none}
use Rattle.gray_lists.proofs.incoming.Lists.new.Goals as goal

pub invariant_of-result : goal.invariant_of-result
invariant_of-result c = rw c.new.ensures.items (
  IsSound-new _,
  AreHeaded-none c.new-2.result.words c.new-2.ensures.none,
  c.new-2.ensures.end,
)
