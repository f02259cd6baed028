use Rattle.std.proofs.Common.{◌∙◌, ap}
use Rattle.judge.specs.Whites.{names_or_none}
use Rattle.judge.proofs.Swept.{clears_of, short_out}
use Rattle.judge.proofs.whites.Whites.take.Goals as goal

pub returns-in-None-clause-taken : goal.returns-in-None-clause-taken
returns-in-None-clause-taken c = c.new.ensures ∙ ap names_or_none c.in-None.ensures.value

pub returns-in-None-clause-clears : goal.returns-in-None-clause-clears
returns-in-None-clause-clears c = clears_of c.args.self.now _ c.args.arena c.remove.ensures.updates

pub returns-in-Some-clause-taken : goal.returns-in-Some-clause-taken
returns-in-Some-clause-taken c = ap names_or_none c.in-Some.ensures.value

pub returns-in-Some-clause-clears : goal.returns-in-Some-clause-clears
returns-in-Some-clause-clears c = clears_of c.args.self.now _ c.args.arena c.remove.ensures.updates

pub invariant_of-self : goal.invariant_of-self
invariant_of-self c = record {
  short = short_out c.args.self.now.names c.remove.new.self c.args.arena c.remove.ensures.updates c.args.self.now.short;
}
