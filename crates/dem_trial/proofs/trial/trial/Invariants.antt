use Rattle.dem_trial.proofs.trial.trial.Given as goal

abbrev pub ghosts-side_by_side : goal.ghosts-side_by_side
ghosts-side_by_side a = record { name = a.blank.name; parts = a.blank.parts }
