use Rattle.dem_crew.proofs.finding.kinematics.Given as goal

abbrev pub ghosts-serve_until_stop : goal.ghosts-serve_until_stop
ghosts-serve_until_stop g a = record { name = a.blank.name; parts = a.blank.parts }
