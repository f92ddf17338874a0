use Rattle.dem_bench.proofs.stepping.run_scene.Given as goal

abbrev pub ghosts-make_steps : goal.ghosts-make_steps
ghosts-make_steps g a = record { name = a.blank.name; parts = a.blank.parts }
