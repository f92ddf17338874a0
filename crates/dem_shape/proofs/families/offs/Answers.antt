use Rattle.std.proofs.Common.{◌≡◌, ◌<◌, ◌^◌, ◌-◌, ◌+◌, ◌*◌, refl, ap, ◌∙◌, arith}
use Rattle.dem_shape.specs.Offs.{offs_from, offs_of}
use Rattle.dem_shape.proofs.FamilyFacts.{one_le, offs_from-small, offs_from-front}
use Rattle.dem_shape.proofs.families.offs.Goals as goal

pub loop-n-init : goal.loop-n-init
unfolding offs_from
loop-n-init c = refl

pub overflow_mul-bits : goal.overflow_mul-bits
overflow_mul-bits c =
    let small : offs_from c.args.off.now c.args.family (16 - c.loop-n.n) c.loop-n.n < 2 ^ 15 = offs_from-small c.args.off.now c.args.family (16 - c.loop-n.n) c.loop-n.n c.loop-n-test.true in
    omega (arith, small, c.loop-n.invariant)

pub overflow_add-bits : goal.overflow_add-bits
overflow_add-bits c =
    let small : offs_from c.args.off.now c.args.family (16 - c.loop-n.n) c.loop-n.n < 2 ^ 15 = offs_from-small c.args.off.now c.args.family (16 - c.loop-n.n) c.loop-n.n c.loop-n-test.true in
    omega (arith, small, c.loop-n.invariant, c.one_if_off.ensures, one_le c.args.off.now c.args.family (15 - c.loop-n.n))

pub loop-n-preserved : goal.loop-n-preserved
loop-n-preserved c =
    ap (λ b. b * 2 + c.one_if_off.result) c.loop-n.invariant
    ∙ ap (λ x. offs_from c.args.off.now c.args.family (16 - c.loop-n.n) c.loop-n.n * 2 + x) c.one_if_off.ensures
    ∙ offs_from-front c.args.off.now c.args.family c.loop-n.n c.loop-n-test.true

pub returns : goal.returns
unfolding offs_of
returns c =
    let end : c.loop-n.n ≡ 16 = omega (arith, c.loop-n-test.false, c.loop-n.auto.n-end) in
    c.loop-n.invariant ∙ ap (λ n. offs_from c.args.off.now c.args.family (16 - n) n) end
