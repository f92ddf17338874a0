use Rattle.std.proofs.Common.{◌≡◌, arith, pos, ◌-ℤ◌, true, false, to_z, of_z, w64}
use Rattle.std.specs.Prelude.{int_lt}
use Rattle.std.specs.Int.{int_min}
use Rattle.std.proofs.lemmas.Int.{to_z-of_z}
use Rattle.dem_model.specs.declared.limits.TheConstants.{MAX_OVERLAP}
use Rattle.dem_model.specs.Touch.{gap_of}
use Rattle.dem_wall.proofs.PlaneFacts.{gap_from, plane_touches, plane_misses}
use Rattle.dem_wall.proofs.plane.plane_touch.Goals as goal

pub returns-then-is_closer-clause-value : goal.returns-then-is_closer-clause-value
returns-then-is_closer-clause-value c =
    let gap : c.gap-gap.result ≡ gap_of c.args.at c.args.dir c.args.c = gap_from c.args.at c.args.dir c.args.c c.args.n c.gap-gap.result c.requires.normal c.gap-gap.ensures.value in
    let below : int_lt c.gap-gap.result (pos c.args.r) ≡ true = grind (arith, to_z-of_z) in
    let overlap : to_z w64 (of_z w64 c.overlap.result) ≡ int_min (pos c.args.r -ℤ c.gap-gap.result) (pos MAX_OVERLAP) = grind (arith, to_z-of_z) in
    plane_touches c.args.at c.args.dir c.args.c c.args.n c.args.r c.gap-gap.result _ c.requires.normal gap below overlap

pub returns-else-is_closer-clause-value : goal.returns-else-is_closer-clause-value
returns-else-is_closer-clause-value c =
    let gap : c.gap-gap.result ≡ gap_of c.args.at c.args.dir c.args.c = gap_from c.args.at c.args.dir c.args.c c.args.n c.gap-gap.result c.requires.normal c.gap-gap.ensures.value in
    let above : int_lt c.gap-gap.result (pos c.args.r) ≡ false = grind (arith, to_z-of_z) in
    plane_misses c.args.at c.args.dir c.args.c c.args.r c.gap-gap.result gap above
