use Rattle.std.proofs.Common.{◌^◌, sym, ap, ◌∙◌, subst, arith}
use Rattle.dem_num.specs.declared.vector.Rows.{Rows}
use Rattle.dem_num.specs.Rotations.{matrix_of, EntriesWithin}
use Rattle.dem_model.specs.Step.{side_of, side_at}
use Rattle.dem_model.specs.declared.state.Body.{Body}
use Rattle.dem_shape.proofs.PoseFacts.{body_read}
use Rattle.dem_force.proofs.TouchFacts.{body_of_sphere, body_at_sphere}
use Rattle.dem_force.proofs.pushing.sides.side_by.Goals as goal

pub side_with-requires-clause-body : goal.side_with-requires-clause-body
side_with-requires-clause-body c = body_of_sphere c.args.shapes.now c.args.bodies.now c.args.sphere c.clump_of-clump.result _ c.requires.sound c.clump_of-clump.ensures.value c.clump_of-clump.ensures.within

pub side_with-requires-clause-rows : goal.side_with-requires-clause-rows
side_with-requires-clause-rows c =
    sym c.get.ensures
    ∙ c.requires.matrices.each c.clump_of-clump.result c.clump_of-clump.ensures.within
    ∙ ap (λ (b : Body). matrix_of b.q) (sym (body_read c.args.bodies.now c.clump_of-clump.result _ (omega (arith, c.clump_of-clump.ensures.within, c.requires.sound.count))))

pub side_with-requires-clause-entries : goal.side_with-requires-clause-entries
side_with-requires-clause-entries c = subst (λ (m : Rows). EntriesWithin m (2 ^ 30)) c.get.ensures (c.requires.matrices.small c.clump_of-clump.result c.clump_of-clump.ensures.within)

pub returns-clause-value : goal.returns-clause-value
unfolding side_at
returns-clause-value c =
    c.side_with.ensures.value
    ∙ ap (λ b. side_of c.args.shapes.now b c.args.sphere) (body_at_sphere c.args.shapes.now c.args.bodies.now c.args.sphere c.clump_of-clump.result _ c.requires.sound c.clump_of-clump.ensures.value c.clump_of-clump.ensures.within)
