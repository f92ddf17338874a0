use Rattle.std.proofs.Common.{◌≡◌, ◌≢◌, ◌^◌, ◌<◌, get_or, set, subst, sym, ap, ◌∙◌, arith}
use Rattle.std.proofs.lemmas.List.{get_or-set_other}
use Rattle.dem_num.specs.Vectors.{Within}
use Rattle.dem_num.proofs.VectorSizes.{opposed_within}
use Rattle.dem_model.specs.Pairs.{sphere_count}
use Rattle.dem_model.specs.Step.{first_clump, no_load, load_plus}
use Rattle.dem_force.specs.Loads.{CanGrow}
use Rattle.dem_force.proofs.SumFacts.{two_clumps, one_load, two_loads}
use Rattle.dem_force.proofs.sums.loads.add_push.Goals as goal

pub add_to-requires-then-pair-spheres-clause-load : goal.add_to-requires-then-pair-spheres-clause-load
add_to-requires-then-pair-spheres-clause-load c =
    let sphere : c.args.pair.b < sphere_count c.args.shapes.now = omega (arith, c.if-pair-spheres.true, c.spheres.ensures) in
    let apart : c.clump_of-then-pair-spheres.result ≢ c.clump_of.result =
    λ f. two_clumps c.args.shapes.now c.args.pair c.requires.pair sphere (sym c.clump_of.ensures.value ∙ sym f ∙ c.clump_of-then-pair-spheres.ensures.value) in
    let e : get_or c.add_to.new.loads c.clump_of-then-pair-spheres.result no_load ≡ get_or c.args.loads.now c.clump_of-then-pair-spheres.result no_load =
    ap (λ ws. get_or ws c.clump_of-then-pair-spheres.result no_load) c.add_to.ensures
    ∙ get_or-set_other c.args.loads.now c.clump_of.result c.clump_of-then-pair-spheres.result (load_plus (get_or c.args.loads.now c.clump_of.result no_load) c.args.push.now.force c.args.push.now.torque_a) no_load apart in
    subst CanGrow (sym e) (c.requires.loads.each c.clump_of-then-pair-spheres.result c.clump_of-then-pair-spheres.ensures.within)

pub add_to-requires-then-pair-spheres-clause-force : goal.add_to-requires-then-pair-spheres-clause-force
add_to-requires-then-pair-spheres-clause-force c =
    subst (λ v. Within v (2 ^ 63)) (sym c.negated3.ensures) (opposed_within c.args.push.now.force (2 ^ 63) c.requires.push.force)

pub returns-then-pair-spheres : goal.returns-then-pair-spheres
unfolding first_clump
returns-then-pair-spheres c =
    let sphere : c.args.pair.b < sphere_count c.args.shapes.now = omega (arith, c.if-pair-spheres.true, c.spheres.ensures) in
    let apart : c.clump_of.result ≢ c.clump_of-then-pair-spheres.result =
    λ f. two_clumps c.args.shapes.now c.args.pair c.requires.pair sphere (sym c.clump_of.ensures.value ∙ f ∙ c.clump_of-then-pair-spheres.ensures.value) in
    c.add_to-then-pair-spheres.ensures
    ∙ ap (λ ws. set ws c.clump_of-then-pair-spheres.result (load_plus (get_or ws c.clump_of-then-pair-spheres.result no_load) c.negated3.result c.args.push.now.torque_b)) c.add_to.ensures
    ∙ ap (λ v. set (set c.args.loads.now c.clump_of.result (load_plus (get_or c.args.loads.now c.clump_of.result no_load) c.args.push.now.force c.args.push.now.torque_a)) c.clump_of-then-pair-spheres.result
    (load_plus (get_or (set c.args.loads.now c.clump_of.result (load_plus (get_or c.args.loads.now c.clump_of.result no_load) c.args.push.now.force c.args.push.now.torque_a)) c.clump_of-then-pair-spheres.result no_load) v c.args.push.now.torque_b)) c.negated3.ensures
    ∙ two_loads c.args.shapes.now c.args.loads.now (record { pair = c.args.pair; push = c.args.push.now }) c.clump_of.result c.clump_of-then-pair-spheres.result
    c.clump_of.ensures.value c.clump_of-then-pair-spheres.ensures.value apart
    (omega (arith, c.requires.loads.count, c.clump_of.ensures.within)) (omega (arith, c.requires.loads.count, c.clump_of-then-pair-spheres.ensures.within)) sphere

pub returns-else-pair-spheres : goal.returns-else-pair-spheres
unfolding first_clump
returns-else-pair-spheres c =
    c.add_to.ensures
    ∙ one_load c.args.shapes.now c.args.loads.now (record { pair = c.args.pair; push = c.args.push.now }) c.clump_of.result c.clump_of.ensures.value
    (omega (arith, c.requires.loads.count, c.clump_of.ensures.within)) (omega (arith, c.if-pair-spheres.false, c.spheres.ensures))
