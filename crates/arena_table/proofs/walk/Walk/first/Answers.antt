use Rattle.std.proofs.Common.{◌*◌, ◌∙◌, arith}
use Rattle.std.proofs.lemmas.Option.{IfSome_then}
use Rattle.arena_table.proofs.Walking.{walk-no_left, walk-step}
use Rattle.arena_table.proofs.walk.Walk.first.Goals as goal

pub returns-then-self-eq0-clause-some : goal.returns-then-self-eq0-clause-some
returns-then-self-eq0-clause-some c = IfSome_then c.first_of_words.result c.first_of_words.ensures.some
    (λ arena found arenas owned.
    (let next = found arenas owned in (next.0, walk-no_left arenas c.args.self c.if-self-eq0.true ∙ next.1)))

pub returns-clause-some : goal.returns-clause-some
returns-clause-some c = λ arenas owned. (
  _,
  walk-step c.args.self.zones.bits c.args.self.left c.args.self.base
      (64 * c.args.self.at) arenas c.if-self-eq0.false (omega arith),
)
