use Rattle.std.proofs.Common.{◌∙◌, ◌++◌, ◌∷◌, ◌<◌, [], List, ap, length, subst, sym}
use Rattle.gz_names.specs.declared.names.Name.{Name}
use Rattle.judge.specs.Whites.{whites_in}
use Rattle.judge.proofs.Swept.{adds_none, adds_some, short_in, short_more, short_written}
use Rattle.judge.proofs.whites.Whites.add.Goals as goal

pub returns-in_default : goal.returns-in_default
returns-in_default c =
    adds_none c.args.self.now c.args.place c.args.name (λ p e. c.in_default.not-Some p e)

pub invariant_of-self : goal.invariant_of-self
invariant_of-self c =
    let few = short_more c.args.self.now c.arena-arena.result c.args.name c.take-names.result c.push.new.self
    c.take-names.ensures.taken c.in_ok-push.ensures.ok
    (subst (λ a. length (whites_in c.args.self.now a) < 64) (sym c.arena-arena.ensures)
    (c.requires c.in-Some.place c.in-Some.is)) in record {
      short = short_written c.insert.result c.take-names.new.self.names c.insert.new.self c.arena-arena.result
          c.push.new.self c.insert.ensures.updates c.insert.ensures.err few c.take-names.new.self.short;
    }

pub returns : goal.returns
returns c =
    let few = short_more c.args.self.now c.arena-arena.result c.args.name c.take-names.result c.push.new.self
    c.take-names.ensures.taken c.in_ok-push.ensures.ok
    (subst (λ a. length (whites_in c.args.self.now a) < 64) (sym c.arena-arena.ensures)
    (c.requires c.in-Some.place c.in-Some.is)) in
    adds_some c.args.self.now c.take-names.new.self (record c.take-names.new.self {
      names = c.insert.new.self;
      short = short_in c.take-names.new.self.names c.insert.new.self c.arena-arena.result c.push.new.self
          c.in_ok-insert.ensures.updates few c.take-names.new.self.short;
    }) c.args.place c.in-Some.place c.arena-arena.result c.args.name c.in-Some.is c.arena-arena.ensures (record {
      names = c.push.new.self;
      out = c.take-names.ensures.clears;
      more = c.in_ok-push.ensures.ok ∙ ap (λ (ns : List Name). ns ++ c.args.name ∷ []) c.take-names.ensures.taken;
      back = c.in_ok-insert.ensures.updates;
    })
