use Rattle.std.proofs.Common.{arith, ◌+◌, ◌*◌, ◌^◌, ◌≤◌, unsigned_abs}
use Rattle.std.proofs.lemmas.Int.{to_z-of_z}
use Rattle.dem_num.specs.declared.vector.Quat.{Quat}
use Rattle.dem_num.specs.Rotations.{quat_norm2_of, QuatWithin, stepped_of, spun_a, spun_b, spun_c, spun_d}
use Rattle.dem_num.proofs.QuatSizes.{quat_norm2_le}
use Rattle.dem_turn.proofs.StepLength.{stepped_some}
use Rattle.dem_turn.proofs.stepping.stepped.Goals as goal

pub moved-requires-4-clause-part : goal.moved-requires-4-clause-part
moved-requires-4-clause-part c = grind (arith, to_z-of_z)

pub returns-clause-value : goal.returns-clause-value
unfolding stepped_of spun_a spun_b spun_c spun_d
returns-clause-value c = grind (arith, to_z-of_z)

pub returns-clause-some : goal.returns-clause-some
unfolding quat_norm2_of
returns-clause-some c =
    let a : 2 ^ 31 * unsigned_abs c.args.q.a ≤ unsigned_abs c.moved.result + (unsigned_abs c.args.q.b + unsigned_abs c.args.q.c + unsigned_abs c.args.q.d) * 2 ^ 28 = grind (arith, to_z-of_z) in
    let b : 2 ^ 31 * unsigned_abs c.args.q.b ≤ unsigned_abs c.moved-2.result + (unsigned_abs c.args.q.a + unsigned_abs c.args.q.c + unsigned_abs c.args.q.d) * 2 ^ 28 = grind (arith, to_z-of_z) in
    let d : 2 ^ 31 * unsigned_abs c.args.q.c ≤ unsigned_abs c.moved-3.result + (unsigned_abs c.args.q.a + unsigned_abs c.args.q.d + unsigned_abs c.args.q.b) * 2 ^ 28 = grind (arith, to_z-of_z) in
    let e : 2 ^ 31 * unsigned_abs c.args.q.d ≤ unsigned_abs c.moved-4.result + (unsigned_abs c.args.q.a + unsigned_abs c.args.q.b + unsigned_abs c.args.q.c) * 2 ^ 28 = grind (arith, to_z-of_z) in
    grind (
      arith,
      to_z-of_z,
      stepped_some (unsigned_abs c.args.q.a) (unsigned_abs c.args.q.b) (unsigned_abs c.args.q.c) (unsigned_abs c.args.q.d)
          (unsigned_abs c.moved.result) (unsigned_abs c.moved-2.result) (unsigned_abs c.moved-3.result) (unsigned_abs c.moved-4.result) c.requires.length a b d e,
    )

pub returns-clause-fits : goal.returns-clause-fits
returns-clause-fits c =
    let t : Quat = record { a = c.moved.result; b = c.moved-2.result; c = c.moved-3.result; d = c.moved-4.result } in
    let h : QuatWithin t (11 * 2 ^ 59) = record { a = c.moved.ensures.at_most; b = c.moved-2.ensures.at_most; c = c.moved-3.ensures.at_most; d = c.moved-4.ensures.at_most } in
    let l : quat_norm2_of t ≤ 4 * ((11 * 2 ^ 59) * (11 * 2 ^ 59)) = quat_norm2_le t (11 * 2 ^ 59) h in
    grind (arith, to_z-of_z, l)
