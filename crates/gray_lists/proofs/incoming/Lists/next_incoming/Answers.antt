use Rattle.std.proofs.Common.{arith, ◌≡◌, ◌<◌, ◌∙◌, length, sum_by, ap, refl}
use Rattle.gray_lists.proofs.Headed.{AreHeaded-taken}
use Rattle.gray_lists.proofs.Noting.{list_at-headless, head-within, IsSound-taken, taken-lists, taken-once, count-more}
use Rattle.gray_lists.proofs.Noting.{comps-made}
use Rattle.gray_lists.proofs.incoming.Lists.next_incoming.Goals as goal

pub returns-in_err-at-clause-none : goal.returns-in_err-at-clause-none
returns-in_err-at-clause-none c =
    let within : c.args.comp.0 < length c.self.inside.heads = rw c.self.invariant.0.links.heads_made (omega arith) in
    rw (c.from_residual.ensures, ← c.self.view_is)
    (list_at-headless c.self.inside.nodes.items c.self.inside.heads c.args.comp.0 within c.in_err-at.was, refl)

pub take_node-node-requires : goal.take_node-node-requires
take_node-node-requires c = head-within _ _ _ _ _ c.args.comp.0 c.in_ok-at.at c.self.invariant.0.links (omega arith)
    c.in_ok-at.was

pub invariant_of-self : goal.invariant_of-self
invariant_of-self c =
    let made : length c.self.inside.heads ≡ 256 = c.self.invariant.0.links.heads_made in
    rw (c.take_node-node.ensures.capacity, c.take_node-node.ensures.free) (
      IsSound-taken _ _ _ _ _ c.args.comp.0 c.in_ok-at.at c.take_node-node.result _ c.self.invariant.0 (omega arith)
          c.in_ok-at.was c.take_node-node.ensures.node c.take_node-node.ensures.nodes,
      AreHeaded-taken _ _ _ c.args.comp.0 c.in_ok-at.at c.take_node-node.result.next (omega arith) c.in_ok-at.was
          c.self.invariant.1 c.leave_empty.ensures.some c.leave_empty.ensures.none,
      c.leave_empty.ensures.end,
    )

pub returns-clause-some : goal.returns-clause-some
returns-clause-some c =
    let lists = taken-lists _ _ _ _ _ c.args.comp.0 c.in_ok-at.at c.take_node-node.result _ c.self.invariant.0
    (omega arith) c.in_ok-at.was c.take_node-node.ensures.node c.take_node-node.ensures.nodes in
    rw (← c.self.view_is, lists) refl

pub returns-clause-once : goal.returns-clause-once
returns-clause-once c =
    taken-once _ _ _ _ _ c.args.comp.0 c.in_ok-at.at c.take_node-node.result _ c.self.invariant.0 (omega arith)
    c.in_ok-at.was c.take_node-node.ensures.node c.take_node-node.ensures.nodes

pub returns-clause-count : goal.returns-clause-count
returns-clause-count c =
    let lists = taken-lists _ _ _ _ _ c.args.comp.0 c.in_ok-at.at c.take_node-node.result _ c.self.invariant.0
    (omega arith) c.in_ok-at.was c.take_node-node.ensures.node c.take_node-node.ensures.nodes in
    let sound = IsSound-taken _ _ _ _ _ c.args.comp.0 c.in_ok-at.at c.take_node-node.result _ c.self.invariant.0
    (omega arith) c.in_ok-at.was c.take_node-node.ensures.node c.take_node-node.ensures.nodes in
    rw (← c.self.view_is)
    (ap (sum_by length) lists ∙ count-more _ c.args.comp.0 c.take_node-node.result.wrapper
    (rw (comps-made _ _ _ _ _ sound) (omega arith)))

pub returns-clause-apart : goal.returns-clause-apart
returns-clause-apart c =
    (IsSound-taken _ _ _ _ _ c.args.comp.0 c.in_ok-at.at c.take_node-node.result _ c.self.invariant.0 (omega arith)
    c.in_ok-at.was c.take_node-node.ensures.node c.take_node-node.ensures.nodes).apart
