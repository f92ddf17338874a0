use Rattle.std.proofs.Common.{arith}
use Rattle.dem_model.specs.Pairs.{sphere_at}
use Rattle.dem_shape.proofs.PoseFacts.{own_places}
use Rattle.dem_shape.proofs.pose.own_place.Goals as goal

pub returns : goal.returns
returns c = own_places c.args.bodies.now (sphere_at c.args.shapes.now c.args.s) c.clump_of.result _ (omega (arith, c.clump_of.ensures.within, c.requires.sound.count)) c.clump_of.ensures.value c.requires.offset
