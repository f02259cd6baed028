use Rattle.std.proofs.Common.{◌∙◌, sym}
use Rattle.judge.proofs.DumpLines.{adds_one, adds_same}
use Rattle.judge.proofs.dumps.add_entry.Goals as goal

pub returns-in_default : goal.returns-in_default
returns-in_default c =
    adds_same c.args.graph.now c.args.world.now.places c.args.names c.args.found.now
    (λ v is. c.in_default.not-Some v (c.value_of.ensures ∙ is.found))

pub returns-then-not-is_present : goal.returns-then-not-is_present
returns-then-not-is_present c =
    adds_same c.args.graph.now c.args.world.now.places c.args.names c.args.found.now
    (λ v is. let t = c.is_present.ensures.1 is.map_present in cc (t, c.if-not-is_present.true))

pub returns-then-not-is_present-2 : goal.returns-then-not-is_present-2
returns-then-not-is_present-2 c =
    adds_same c.args.graph.now c.args.world.now.places c.args.names c.args.found.now
    (λ v is. let t = c.is_present-2.ensures.1 is.key_present in cc (t, c.if-not-is_present-2.true))

pub returns : goal.returns
returns c =
    adds_one c.args.graph.now c.args.world.now.places c.args.names c.in-Some.value c.args.found.now c.insert.new.self
    (record {
      found = sym c.in-Some.ensures;
      map_present = c.is_present.ensures.0 c.if-not-is_present.false;
      key_present = c.is_present-2.ensures.0 c.if-not-is_present-2.false;
    }) c.in_ok-insert.ensures.updates
