use Rattle.std.proofs.Common.{◌≡◌, ◌<◌, length, sym, ap, ◌∙◌, arith, Some}
use Rattle.std.specs.Prelude.{slice_get}
use Rattle.std.proofs.lemmas.List.{length-map}
use Rattle.std.proofs.lemmas.Option.{slice_get-get_or}
use Rattle.dem_num.specs.Vectors.{widened}
use Rattle.dem_model.specs.Centers.{body_at}
use Rattle.dem_model.specs.declared.state.Body.{Body}
use Rattle.dem_voxel.specs.Voxel.{packed}
use Rattle.dem_step.specs.Stored.{body_of}
use Rattle.dem_step.proofs.StoredFacts.{stored_read}
use Rattle.dem_step.proofs.stored.StoredBodies.voxel.Goals as goal

pub returns-clause-place : goal.returns-clause-place
returns-clause-place c =
    let lt : c.args.k < length c.self.inside.items.items = omega (arith, c.requires, ap length c.self.view_is, length-map c.self.inside.items.items body_of) in
    let there : slice_get c.self.inside.items.items c.args.k ≡ Some c.index.result.now =
    slice_get-get_or c.self.inside.items.items c.args.k c.index.result.now lt ∙ ap Some (sym c.index.ensures) in
    let read : body_at c.args.self.now c.args.k ≡ body_of c.index.result.now =
    ap (λ bs. body_at bs c.args.k) (sym c.self.view_is) ∙ stored_read c.self.inside.items.items c.args.k c.index.result.now there in
    ap (λ (b : Body). widened b.p) (sym read)

pub returns-clause-value : goal.returns-clause-value
returns-clause-value c = sym c.unpack-place.ensures.back ∙ ap packed (c.unpack-place.ensures.value ∙ returns-clause-place c)
