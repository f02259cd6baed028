use Rattle.std.proofs.Common.{◌++◌, refl, arith, drop}
use Rattle.storm_source.specs.Trace.{drawn_lines, tail_lines}
use Rattle.storm_source.proofs.Giving.{gives_drawn, gives_head, gives_tail, gives_told}
use Rattle.storm_source.proofs.source.StormSourceCommandSource.next.Goals as goal

pub returns-then-self-lt16-clause-gives : goal.returns-then-self-lt16-clause-gives
returns-then-self-lt16-clause-gives c =
    let s = c.self.inside in
    gives_told _ _ _ _ c.self.view_is
    (gives_head s.begun (drawn_lines s.lines s.generator.state ++ drop s.ended tail_lines) _ c.if-self-lt16.true
    c.head_command-command.ensures)

pub returns-then-self-gt0-clause-gives : goal.returns-then-self-gt0-clause-gives
returns-then-self-gt0-clause-gives c =
    let s = c.self.inside in
    gives_told _ _ _ _ c.self.view_is
    (gives_drawn s.begun s.lines _ s.generator.state _ (drop s.ended tail_lines) _
    (omega (arith, c.if-self-lt16.false)) c.if-self-gt0.true refl c.draw_command.ensures.state
    c.draw_command.ensures.command)

pub returns-then-self-lt3-clause-gives : goal.returns-then-self-lt3-clause-gives
returns-then-self-lt3-clause-gives c =
    let s = c.self.inside in
    gives_told _ _ _ _ c.self.view_is
    (gives_tail s.begun s.lines s.ended s.generator.state _ (omega (arith, c.if-self-lt16.false))
    (omega (arith, c.if-self-gt0.false)) c.if-self-lt3.true c.tail_command-command.ensures)
