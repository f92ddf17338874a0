use Rattle.dem_step.proofs.stepper.Dyn.prepare.Given as goal

abbrev pub ghosts-meet_uncounted : goal.ghosts-meet_uncounted
ghosts-meet_uncounted a = record { name = a.blank.name; parts = a.blank.parts }
