use Rattle.std.proofs.Common.{◌^◌, refl}
use Rattle.dem_num.specs.Vectors.{widened}
use Rattle.dem_num.proofs.VectorSizes.{within_wider}
use Rattle.dem_force.proofs.pushing.sides.side_with.Goals as goal

pub turned_spin-requires-clause-spin : goal.turned_spin-requires-clause-spin
turned_spin-requires-clause-spin c = within_wider (widened c.args.body.now.w) c.args.shapes.now.spin (2 ^ 28) c.requires.body.body.w c.scene-scene.ensures.sound.spin.le_high

pub returns-clause-ranges : goal.returns-clause-ranges
returns-clause-ranges c = record {
  within = record {
    v = within_wider (widened c.args.body.now.v) c.args.shapes.now.speed (2 ^ 40) c.requires.body.body.v c.scene-scene.ensures.sound.speed.le_high;
    spin = c.turned_spin.ensures.size;
    lever = c.lever.ensures.size;
    r = c.ball_of-ball.ensures.within.r.le_high;
    mass = c.mass.ensures.range.le_high;
  };
  has_radius = c.ball_of-ball.ensures.within.r.low_le;
  has_mass = c.mass.ensures.range.low_le;
  no_wall = refl;
}
