use Rattle.std.proofs.Common.{◌^◌, sym, ◌∙◌, subst, arith}
use Rattle.dem_num.specs.declared.vector.Rows.{Rows}
use Rattle.dem_num.specs.Rotations.{EntriesWithin}
use Rattle.dem_model.specs.Pairs.{sphere_at}
use Rattle.dem_shape.proofs.PoseFacts.{turned_places, read_place}
use Rattle.dem_shape.proofs.centers.turned_place.Goals as goal

pub sphere_center-requires-clause-place : goal.sphere_center-requires-clause-place
sphere_center-requires-clause-place c = read_place c.args.shapes.now c.args.bodies.now c.clump_of-clump.result _ c.scene-scene.ensures.sound c.requires.sound c.clump_of-clump.ensures.within

pub sphere_center-requires-clause-entries : goal.sphere_center-requires-clause-entries
sphere_center-requires-clause-entries c = subst (λ (m : Rows). EntriesWithin m (2 ^ 30)) c.get.ensures (c.requires.matrices.small c.clump_of-clump.result c.clump_of-clump.ensures.within)

pub returns : goal.returns
returns c =
    turned_places c.args.bodies.now (sphere_at c.args.shapes.now c.args.s) c.clump_of-clump.result _ c.get.result.now c.ball_of-ball.result c.sphere_center.result
    (omega (arith, c.clump_of-clump.ensures.within, c.requires.sound.count)) c.clump_of-clump.ensures.value c.ball_of-ball.ensures.value
    (sym c.get.ensures ∙ c.requires.matrices.each c.clump_of-clump.result c.clump_of-clump.ensures.within) c.sphere_center.ensures
