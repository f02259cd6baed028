use Rattle.std.proofs.Common.{rules, ◌≡◌, [], ap, inl, map, Ok}
use Rattle.clap.specs.Words.{fault_of, subcommand_of}
use Rattle.command_words.specs.Numbers.{FoundSays}
use Rattle.command_words.specs.Program.{gczone}
use Rattle.command_words.proofs.Plain.{plain_read}
use Rattle.command_words.proofs.line.read_words.Goals as goal

pub returns-in-Some-line_of-clause-plain : goal.returns-in-Some-line_of-clause-plain
returns-in-Some-line_of-clause-plain c = λ line plain.
    let words = map (λ w. w.now) c.args.words.now in
    let says : FoundSays (subcommand_of gczone words) c.in-Some-line_of.line = search rules in
    inl (ap Ok ((plain_read words line plain).1 c.in-Some-line_of.line says))

pub returns-clause-plain : goal.returns-clause-plain
returns-clause-plain c = λ line plain.
    let words = map (λ w. w.now) c.args.words.now in
    let refused : fault_of gczone words ≡ [] → ⊥ = search rules in
    absurd (refused (plain_read words line plain).0)
