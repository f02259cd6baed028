use Rattle.std.proofs.Common.{List, sym, subst}
use Rattle.colour_defs.specs.declared.graph.Entry.{Entry}
use Rattle.plain_graph.specs.Indexed.{IsIndexed}
use Rattle.plain_graph.proofs.Indexes.{indexed_del}
use Rattle.plain_graph.proofs.graph.Graph.del_entry.Goals as goal

pub invariant_of-self : goal.invariant_of-self
invariant_of-self c =
    let r = c.self.inside in
    subst (λ (es : List Entry). IsIndexed r.wrappers.items r.known es c.remove.new.self r.waiting)
    (sym c.del_in.ensures)
    (indexed_del r.wrappers.items r.known r.entries.items r.values c.remove.new.self r.waiting c.args.map c.args.key
    c.self.invariant c.remove.ensures.updates.0)
