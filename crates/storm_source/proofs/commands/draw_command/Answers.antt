use Rattle.std.proofs.Common.{arith}
use Rattle.storm_source.proofs.Rows.{collection_drawn, row_drawn, row_state}
use Rattle.storm_source.proofs.commands.draw_command.Goals as goal

pub returns-then-row-lt15-clause-state : goal.returns-then-row-lt15-clause-state
returns-then-row-lt15-clause-state c =
    row_state _ _ _ _ c.draw-row.ensures.state c.draw-row.ensures.choice c.if-row-lt15.true
    c.draw_graph_command.ensures.state

pub returns-then-row-lt15-clause-command : goal.returns-then-row-lt15-clause-command
returns-then-row-lt15-clause-command c =
    row_drawn _ _ _ _ c.draw-row.ensures.state c.draw-row.ensures.choice c.if-row-lt15.true
    c.draw_graph_command.ensures.command

pub returns-clause-command : goal.returns-clause-command
returns-clause-command c =
    collection_drawn _ _ _ _ c.draw-row.ensures.state c.draw-row.ensures.choice
    (omega (arith, c.if-row-lt15.false)) c.draw_collection.ensures.command
