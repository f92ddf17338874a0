use Rattle.std.proofs.Common.{◌^◌, sym, ap, ◌∙◌, subst, arith}
use Rattle.dem_num.specs.declared.vector.Rows.{Rows}
use Rattle.dem_num.specs.Rotations.{matrix_of, EntriesWithin}
use Rattle.dem_num.specs.Vectors.{widened, sum_of, shifted_each}
use Rattle.dem_model.specs.Centers.{body_at}
use Rattle.dem_model.specs.declared.state.Body.{Body}
use Rattle.dem_plain.proofs.RunFacts.{body_sound}
use Rattle.dem_shape.proofs.PoseFacts.{body_read}
use Rattle.dem_step.proofs.StoredFacts.{advance-leads}
use Rattle.dem_step.specs.Advancing.{IsAdvanced}
use Rattle.dem_step.proofs.AdvanceFacts.{advanced-read}
use Rattle.dem_step.proofs.advancing.advance_one.Goals as goal

pub advance_by-requires-clause-body : goal.advance_by-requires-clause-body
advance_by-requires-clause-body c = body_sound c.args.shapes.now c.args.bodies.now c.args.clump _ c.requires.can.sound c.requires.there

pub advance_by-requires-clause-rows : goal.advance_by-requires-clause-rows
advance_by-requires-clause-rows c =
    sym c.get-rows.ensures
    ∙ c.requires.can.matrices.each c.args.clump c.requires.there
    ∙ ap (λ (b : Body). matrix_of b.q) (sym (body_read c.args.bodies.now c.args.clump _ (omega (arith, c.requires.there, c.requires.can.sound.count))))

pub advance_by-requires-clause-entries : goal.advance_by-requires-clause-entries
advance_by-requires-clause-entries c = subst (λ (m : Rows). EntriesWithin m (2 ^ 30)) c.get-rows.ensures (c.requires.can.matrices.small c.args.clump c.requires.there)

pub moved_with-requires-clause-sound : goal.moved_with-requires-clause-sound
moved_with-requires-clause-sound c = c.in-Ok.ensures.sound.body

pub moved_with-requires-clause-leads : goal.moved_with-requires-clause-leads
moved_with-requires-clause-leads c =
    advance-leads c.args.shapes.now _ _ c.in-Ok.body _ (sym c.advance_by.ensures.value ∙ c.in-Ok.is)
    ∙ ap (λ p. sum_of p (shifted_each (widened c.in-Ok.body.v) 16))
    (ap (λ (b : Body). widened b.p) (body_read c.args.bodies.now c.args.clump _ (omega (arith, c.requires.there, c.requires.can.sound.count)) ∙ ap (λ bs. body_at bs c.args.clump) (sym c.requires.can.same))
    ∙ sym c.voxel.ensures.place)

pub returns-in-Ok-clause-advanced : goal.returns-in-Ok-clause-advanced
returns-in-Ok-clause-advanced c =
    subst (IsAdvanced c.args.shapes.now c.args.bodies.now c.args.loads.now c.args.clump) (sym c.store.ensures) (record {
      value = advanced-read c.args.shapes.now c.args.bodies.now c.args.loads.now c.args.clump _ _ _
          (omega (arith, c.requires.there, c.requires.can.sound.count)) (omega (arith, c.requires.there, c.requires.can.within.count)) c.advance_by.ensures.value
          ∙ c.in-Ok.is;
      sound = c.in-Ok.ensures.sound;
    })

pub returns-in-Err-clause-ended : goal.returns-in-Err-clause-ended
returns-in-Err-clause-ended c =
    advanced-read c.args.shapes.now c.args.bodies.now c.args.loads.now c.args.clump _ _ _
    (omega (arith, c.requires.there, c.requires.can.sound.count)) (omega (arith, c.requires.there, c.requires.can.within.count)) c.advance_by.ensures.value
    ∙ c.in-Err.is
