use Rattle.slice_driver.proofs.session.Session.command.Given as goal

abbrev pub ghosts-command : goal.ghosts-command
ghosts-command g a = record { name = a.blank.name; parts = a.blank.parts }
