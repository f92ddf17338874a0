use Rattle.std.proofs.Common.{◌^◌, ◌≤◌, arith}
use Rattle.std.proofs.lemmas.Int.{to_z-of_z}
use Rattle.std.proofs.lemmas.Nat.{mul-le}
use Rattle.dem_margin.proofs.marking.left.Goals as goal

pub returns-clause-size : goal.returns-clause-size
returns-clause-size c =
    let le : c.saturating_sub-rest.result ≤ 2 ^ 37 = grind (arith, to_z-of_z) in
    mul-le c.saturating_sub-rest.result c.saturating_sub-rest.result (2 ^ 37) (2 ^ 37) le le
