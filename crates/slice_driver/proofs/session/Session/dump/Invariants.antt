use Rattle.slice_driver.proofs.session.Session.dump.Given as goal

abbrev pub ghosts-dump : goal.ghosts-dump
ghosts-dump g a = record { name = a.blank.name; parts = a.blank.parts }
