use Rattle.std.proofs.Common.{sym, arith}
use Rattle.std.proofs.lemmas.Grind.{common_steps}
use Rattle.std.proofs.lemmas.Result.{on_ok_weaker}
use Rattle.plain_graph.proofs.Indexes.{listed_after}
use Rattle.plain_graph.proofs.waiting.add_pair.Goals as goal

pub returns-in-Some-clause-kept : goal.returns-in-Some-clause-kept
returns-in-Some-clause-kept c =
    let at = sym c.in-Some.ensures.value in
    let updates = (c.get_mut.follows.holds c.push.new.self).3 (grind (arith, common_steps)) in
    listed_after c.args.waiting.now (c.get_mut.follows.lender c.push.new.self) c.args.number c.in-Some.pairs.now
    c.push.new.self at updates.0 c.push.ensures.kept

pub returns-in-Some-clause-ok : goal.returns-in-Some-clause-ok
returns-in-Some-clause-ok c =
    let updates = (c.get_mut.follows.holds c.push.new.self).3 (grind (arith, common_steps)) in
    on_ok_weaker c.push.result (λ h. (c.push.new.self, updates.1, h)) c.push.ensures.ok
