use Rattle.slice_driver.proofs.session.Session.reset.Given as goal

abbrev pub ghosts-reset : goal.ghosts-reset
ghosts-reset g a = record { name = a.blank.name; parts = a.blank.parts }
