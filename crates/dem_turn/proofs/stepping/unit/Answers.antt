use Rattle.std.proofs.Common.{arith}
use Rattle.std.proofs.lemmas.Int.{to_z-of_z}
use Rattle.dem_num.specs.declared.vector.Quat.{Quat}
use Rattle.dem_num.specs.Rotations.{IsOrientation}
use Rattle.dem_turn.proofs.StepLength.{shares_orientation}
use Rattle.dem_turn.proofs.stepping.unit.Goals as goal

pub returns-clause-orientation : goal.returns-clause-orientation
returns-clause-orientation c =
    let u : Quat = record { a = c.share.result; b = c.share-2.result; c = c.share-3.result; d = c.share-4.result } in
    let h : IsOrientation u = shares_orientation c.args.t u c.length-length.result c.length-length.ensures.is_root c.length-length.ensures.some
    (record { below = grind (arith, to_z-of_z); above = grind (arith, to_z-of_z) })
    (record { below = grind (arith, to_z-of_z); above = grind (arith, to_z-of_z) })
    (record { below = grind (arith, to_z-of_z); above = grind (arith, to_z-of_z) })
    (record { below = grind (arith, to_z-of_z); above = grind (arith, to_z-of_z) }) in
    grind (arith, to_z-of_z, h)
