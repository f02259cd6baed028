use Rattle.std.proofs.Common.{codes}
use Rattle.std.specs.Str.Parse.{ExplainsUnsignedError, HasUnsignedDigitsIfOk, ParsesUnsigned}
use Rattle.clap.specs.Words.{found_of}
use Rattle.command_words.proofs.Reading.{gives}
use Rattle.command_words.proofs.line.markers_of.Goals as goal

pub returns-clause-given : goal.returns-clause-given
returns-clause-given c =
    gives (λ bs r. ParsesUnsigned 8 10 bs r × ExplainsUnsignedError 10 bs r × HasUnsignedDigitsIfOk bs r)
    (found_of c.args.matches.now) (codes "markers") c.in_ok-markers.markers c.in_ok-markers.ensures.none
    c.in_ok-markers.ensures.value (λ t g. g.0.1)
