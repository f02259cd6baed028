use Rattle.trace_cli.proofs.reading.replay.Given as goal

abbrev pub ghosts-answer_lines : goal.ghosts-answer_lines
ghosts-answer_lines g a = record { name = a.blank.name; parts = a.blank.parts }

abbrev pub ghosts-answer_storm : goal.ghosts-answer_storm
ghosts-answer_storm g a = record { name = a.blank.name; parts = a.blank.parts }
