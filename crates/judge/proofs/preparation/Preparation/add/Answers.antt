use Rattle.std.proofs.Common.{refl}
use Rattle.judge.proofs.LeftOut.{adds_found, adds_inside, adds_new}
use Rattle.judge.proofs.preparation.Preparation.add.Goals as goal

pub returns-then-is_in : goal.returns-then-is_in
returns-then-is_in c =
    adds_inside c.args.graph.now c.args.self.now c.args.name (c.is_in.ensures.0 c.if-is_in.true)

pub returns-then-is_black : goal.returns-then-is_black
returns-then-is_black c =
    adds_found c.args.graph.now c.args.self.now c.args.name (c.is_black.ensures.0 c.if-is_black.true)

pub returns : goal.returns
returns c =
    adds_new c.args.graph.now c.args.self.now _ c.args.name
    (λ h. let t = c.is_in.ensures.1 h in cc (t, c.if-is_in.false))
    (record {
      zones_are = refl;
      found_are = c.in_ok-push.ensures.items;
      updates = c.in_ok-insert.ensures.updates;
    })
