use Rattle.std.proofs.Common.{◌≡◌, sym, ap, ◌∙◌, arith}
use Rattle.dem_num.specs.Vectors.{narrowed}
use Rattle.dem_model.specs.Pairs.{sphere_at}
use Rattle.dem_model.specs.Spheres.{center_of}
use Rattle.dem_model.specs.declared.shape.Ball.{Ball}
use Rattle.dem_shape.proofs.PutFacts.{IsPut-kept, IsPut-more, put_center, put_place}
use Rattle.dem_shape.proofs.centers.Centers.put.Goals as goal
use Rattle.dem_shape.proofs.centers.Centers.put.Goals.{then-clump_of-clump, else-clump_of-clump}

pub sphere_center-requires-clause-place : goal.sphere_center-requires-clause-place
sphere_center-requires-clause-place c = put_place _ _ _ c.scene-scene.ensures.sound c.requires.sound

pub loop-s-preserved : goal.loop-s-preserved
loop-s-preserved c = elim c.if-clump_of-clump.branch [
  | then-clump_of-clump w ↦ rw (w.self-inside-is) (IsPut-more _ _ _ _ _ _ _ c.loop-s.invariant (omega (arith, c.requires.made))
      (sym c.clump_of.ensures.value ∙ w.if-clump_of-clump.true)
      (put_center _ _ _ _ c.matrix-rows.ensures.value w.sphere_center.ensures ∙ ap (λ (b : Ball). narrowed (center_of c.args.body.now b)) w.ball_of.ensures.value))
  | else-clump_of-clump w ↦ rw (w.self-inside-is) (IsPut-kept _ _ _ _ _ _ c.loop-s.invariant
      (λ (e : (sphere_at c.args.shapes.now c.loop-s.s).clump ≡ c.args.clump). omega (arith, e, c.clump_of.ensures.value, w.if-clump_of-clump.false)))
]
