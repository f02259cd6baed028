use Rattle.std.proofs.Common.{arith}
use Rattle.gray_lists.proofs.incoming.Lists.reserve.Goals as goal

pub invariant_of-self : goal.invariant_of-self
invariant_of-self c =
    let old = c.self.invariant.0 in
    rw c.reserve.ensures.items (
      record {
        spare = old.spare;
        links = old.links;
        apart = old.apart;
        within = old.within;
        held = omega (arith, old.held, c.reserve.ensures.capacity);
        limit = old.limit;
      },
      c.self.invariant.1,
      c.self.invariant.2,
    )

pub invariant_of-self-2 : goal.invariant_of-self-2
invariant_of-self-2 c =
    let old = c.self.invariant.0 in
    rw c.reserve.ensures.items (
      record {
        spare = old.spare;
        links = old.links;
        apart = old.apart;
        within = omega (arith, old.within);
        held = omega (arith, old.within, c.in_ok-reserve.ensures.ok, c.self.inside.nodes.ok.0);
        limit = omega (arith, old.limit);
      },
      c.self.invariant.1,
      c.self.invariant.2,
    )
