use Rattle.std.proofs.Common.{◌≡◌, ◌<◌, Some, length, ap, sym, subst}
use Rattle.std.specs.Prelude.{slice_get}
use Rattle.std.proofs.lemmas.Option.{get_or_from_slice_get}
use Rattle.dem_model.specs.SceneValue.{SceneValue}
use Rattle.dem_model.specs.Step.{clump_at, no_clump}
use Rattle.dem_model.specs.declared.state.Clump.{Clump}
use Rattle.dem_model.proofs.SoundFacts.{clump_at-sound}
use Rattle.dem_save.proofs.bodies.template.Goals as goal

pub returns-clause-value : goal.returns-clause-value
unfolding clump_at
returns-clause-value c =
    let here : slice_get c.args.scene.now.clumps c.args.clump ≡ Some c.get.result.now = subst (λ (s : SceneValue). slice_get s.clumps c.args.clump ≡ Some c.get.result.now) c.scene.view_is c.get.ensures in
    ap (λ (x : Clump). x.t) (sym (get_or_from_slice_get c.args.scene.now.clumps c.args.clump c.get.result.now no_clump here))

pub returns-clause-there : goal.returns-clause-there
unfolding clump_at
returns-clause-there c =
    let here : slice_get c.args.scene.now.clumps c.args.clump ≡ Some c.get.result.now = subst (λ (s : SceneValue). slice_get s.clumps c.args.clump ≡ Some c.get.result.now) c.scene.view_is c.get.ensures in
    subst (λ (x : Clump). x.t < length c.args.scene.now.templates) (get_or_from_slice_get c.args.scene.now.clumps c.args.clump c.get.result.now no_clump here)
    (clump_at-sound c.args.scene.now c.args.clump c.requires.scene c.requires.clump).t
