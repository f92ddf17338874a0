use Rattle.std.proofs.Common.{◌^◌, ◌≤◌, arith, unsigned_abs}
use Rattle.std.proofs.lemmas.Int.{to_z-of_z}
use Rattle.dem_model.specs.Facet.{least_of}
use Rattle.dem_facet.proofs.BoxFacts.{least_small}
use Rattle.dem_facet.proofs.reach.lowest.Goals as goal

pub sub_short-requires : goal.sub_short-requires
sub_short-requires c =
    let small : unsigned_abs (least_of c.args.x c.args.y c.args.z) ≤ 2 ^ 36 =
    least_small c.args.x c.args.y c.args.z (2 ^ 36) c.requires.x_small c.requires.y_small c.requires.z_small in
    grind (arith, to_z-of_z)
