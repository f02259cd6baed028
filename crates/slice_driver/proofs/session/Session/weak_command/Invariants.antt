use Rattle.slice_driver.proofs.session.Session.weak_command.Given as goal

abbrev pub ghosts-weak_command : goal.ghosts-weak_command
ghosts-weak_command g a = record { name = a.blank.name; parts = a.blank.parts }
