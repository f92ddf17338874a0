use Rattle.std.proofs.Common.{◌<◌, length, ap, sym, subst}
use Rattle.std.proofs.lemmas.Option.{get_or_from_slice_get}
use Rattle.dem_model.specs.Step.{clump_at, no_clump}
use Rattle.dem_model.specs.declared.state.Clump.{Clump}
use Rattle.dem_model.proofs.SoundFacts.{clump_at-sound}
use Rattle.dem_force.proofs.advancing.clump.template_number.Goals as goal

pub returns-clause-value : goal.returns-clause-value
unfolding clump_at
returns-clause-value c = ap (λ (x : Clump). x.t) (sym (get_or_from_slice_get c.args.scene.now.clumps c.args.clump c.clump_in.result.now no_clump c.clump_in.ensures))

pub returns-clause-there : goal.returns-clause-there
unfolding clump_at
returns-clause-there c =
    subst (λ (x : Clump). x.t < length c.args.scene.now.templates) (get_or_from_slice_get c.args.scene.now.clumps c.args.clump c.clump_in.result.now no_clump c.clump_in.ensures)
    (clump_at-sound c.args.scene.now c.args.clump c.requires.scene c.requires.clump).t
