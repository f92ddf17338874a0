use Rattle.dem_scene.proofs.wall.form.Goals as goal

pub returns-in-Some-None-clause-range : goal.returns-in-Some-None-clause-range
returns-in-Some-None-clause-range c = c.plane.ensures.range c.args.widest
