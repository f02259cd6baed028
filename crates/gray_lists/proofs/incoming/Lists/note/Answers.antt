use Rattle.std.proofs.Common.{arith, ◌≡◌, ◌<◌, length, refl}
use Rattle.gray_lists.specs.Nodes.{lists_of}
use Rattle.gray_lists.proofs.Apart.{AreApart-noted}
use Rattle.gray_lists.proofs.Headed.{AreHeaded-noted}
use Rattle.gray_lists.proofs.Noting.{free-within, room-held, notes, IsSound-noted, count-more}
use Rattle.gray_lists.proofs.incoming.Lists.note.Goals as goal

pub put_node-at-requires-clause-free : goal.put_node-at-requires-clause-free
put_node-at-requires-clause-free c = free-within _ _ _ _ _ c.self.invariant.0.links

pub put_node-at-requires-clause-room : goal.put_node-at-requires-clause-room
put_node-at-requires-clause-room c = room-held _ _ _ _ _ c.self.invariant.0 (rw (← c.self.view_is) at c.requires.room)

pub invariant_of-self : goal.invariant_of-self
invariant_of-self c =
    let made : length c.self.inside.heads ≡ 256 = c.self.invariant.0.links.heads_made in
    rw c.put_node-at.ensures.capacity (
      IsSound-noted _ _ _ _ _ c.args.comp.0 c.put_node-at.result c.args.wrapper _ _ c.self.invariant.0 (omega arith)
          (rw (← c.self.view_is) at c.requires.room) (rw (← c.self.view_is) at c.requires.apart)
          c.put_node-at.ensures.puts,
      AreHeaded-noted _ _ _ c.args.comp.0 c.put_node-at.result _ (omega arith) refl c.self.invariant.1
          c.begin_waiting.ensures.some c.begin_waiting.ensures.none,
      c.begin_waiting.ensures.end,
    )

pub returns-clause-noted : goal.returns-clause-noted
returns-clause-noted c =
    let put = notes _ _ _ _ _ c.args.comp.0 c.put_node-at.result c.args.wrapper _ _ c.self.invariant.0.links
    (omega arith) c.put_node-at.ensures.puts in
    rw (← c.self.view_is, put.now) refl

pub returns-clause-count : goal.returns-clause-count
returns-clause-count c =
    let put = notes _ _ _ _ _ c.args.comp.0 c.put_node-at.result c.args.wrapper _ _ c.self.invariant.0.links
    (omega arith) c.put_node-at.ensures.puts in
    let fits : c.args.comp.0 < length (lists_of c.self.inside.nodes.items c.self.inside.heads) =
    rw c.self.invariant.0.links.lists_made (omega arith) in
    rw (← c.self.view_is, put.now)
    (count-more (lists_of c.self.inside.nodes.items c.self.inside.heads) c.args.comp.0 c.args.wrapper fits)

pub returns-clause-apart : goal.returns-clause-apart
returns-clause-apart c =
    let put = notes _ _ _ _ _ c.args.comp.0 c.put_node-at.result c.args.wrapper _ _ c.self.invariant.0.links
    (omega arith) c.put_node-at.ensures.puts in
    let fits : c.args.comp.0 < length (lists_of c.self.inside.nodes.items c.self.inside.heads) =
    rw c.self.invariant.0.links.lists_made (omega arith) in
    rw put.now (AreApart-noted (lists_of c.self.inside.nodes.items c.self.inside.heads) c.args.comp.0 c.args.wrapper
    fits (rw (← c.self.view_is) at c.requires.apart) c.self.invariant.0.apart)
