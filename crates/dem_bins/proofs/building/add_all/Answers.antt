use Rattle.std.proofs.Common.{sym, subst, ap, ◌∙◌, List}
use Rattle.std.proofs.lemmas.List.Sorted.{IsPermutation-sym, Contains-permutation}
use Rattle.dem_num.specs.declared.vector.Vec3.{Vec3}
use Rattle.dem_list.specs.Ascending.{HasSamePairs}
use Rattle.dem_model.specs.Centers.{centers_of}
use Rattle.dem_model.specs.Motion.{AreInside}
use Rattle.dem_model.specs.Near.{near_of}
use Rattle.dem_model.specs.declared.state.Pair.{Pair}
use Rattle.dem_model.proofs.SoundFacts.{centers_of-inside}
use Rattle.dem_bins.proofs.building.add_all.Goals as goal

pub add_pairs-requires-clause-centers : goal.add_pairs-requires-clause-centers
add_pairs-requires-clause-centers g c =
    subst (AreInside c.args.shapes.now) (sym (c.fill.ensures ∙ ap (centers_of c.args.shapes.now) c.as_slice.ensures))
    (centers_of-inside c.args.shapes.now c.args.snap.now.bodies c.scene-scene.ensures.sound c.requires.sound)

pub returns-clause-found : goal.returns-clause-found
returns-clause-found g c =
    subst (λ (cs : List Vec3). HasSamePairs c.gather.new.self.pairs (near_of c.args.shapes.now c.args.grid.now.drift cs))
    (c.fill.ensures ∙ ap (centers_of c.args.shapes.now) c.as_slice.ensures)
    (λ (p : Pair). (
      λ h. (c.in_ok-add_pairs.ensures.found p).0 (Contains-permutation _ _ p (IsPermutation-sym _ _ c.gather.ensures.moved) h),
      λ h. Contains-permutation _ _ p c.gather.ensures.moved ((c.in_ok-add_pairs.ensures.found p).1 h),
    ))
