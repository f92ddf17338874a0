use Rattle.std.proofs.Common.{◌^◌, ◌≤◌, arith, unsigned_abs}
use Rattle.std.proofs.lemmas.Int.{to_z-of_z}
use Rattle.dem_model.specs.Facet.{greatest_of}
use Rattle.dem_facet.proofs.BoxFacts.{greatest_small}
use Rattle.dem_facet.proofs.reach.highest.Goals as goal

pub add_short-requires : goal.add_short-requires
add_short-requires c =
    let small : unsigned_abs (greatest_of c.args.x c.args.y c.args.z) ≤ 2 ^ 36 =
    greatest_small c.args.x c.args.y c.args.z (2 ^ 36) c.requires.x_small c.requires.y_small c.requires.z_small in
    grind (arith, to_z-of_z)
