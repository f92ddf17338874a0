use Rattle.std.proofs.Common.{◌≡◌, take}
use Rattle.dem_model.specs.ReadingKinds.{greatest_radius}
use Rattle.dem_scene.proofs.template.widest.Given as goal

-- the greatest radius of the templates so far
abbrev pub invariant-loop-template : goal.invariant-loop-template
invariant-loop-template l = l.most ≡ greatest_radius (take l.template-index l.templates)
