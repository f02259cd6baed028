use Rattle.std.proofs.Common.{codes, refl}
use Rattle.std.specs.Str.Parse.{ExplainsUnsignedError, HasUnsignedDigitsIfOk, ParsesUnsigned}
use Rattle.clap.specs.Words.{found_of}
use Rattle.command_words.proofs.Reading.{gives}
use Rattle.command_words.proofs.line.storm_line.Goals as goal

pub returns-clause-numbers : goal.returns-clause-numbers
returns-clause-numbers c = (
  refl,
  gives (λ bs r. ParsesUnsigned 32 10 bs r × ExplainsUnsignedError 10 bs r × HasUnsignedDigitsIfOk bs r)
      (found_of c.args.matches.now) (codes "seed") c.in_ok-seed.seed c.in_ok-seed.ensures.none
      c.in_ok-seed.ensures.value (λ t g. g.0.1),
  gives (λ bs r. ParsesUnsigned 32 10 bs r × ExplainsUnsignedError 10 bs r × HasUnsignedDigitsIfOk bs r)
      (found_of c.args.matches.now) (codes "lines") c.in_ok-lines.lines c.in_ok-lines.ensures.none
      c.in_ok-lines.ensures.value (λ t g. g.0.1),
  c.in_ok-helpers.ensures.given,
)
