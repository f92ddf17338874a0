use Rattle.std.proofs.Common.{◌≡◌, map, take}
use Rattle.dem_model.specs.Cells.{cells_of}
use Rattle.dem_model.specs.Packing.{stand_at}
use Rattle.dem_pack.specs.Layouts.{lattice_in, region_in}
use Rattle.dem_pack.proofs.packing.first_stands.Given as goal

abbrev pub invariant-loop-n : goal.invariant-loop-n
invariant-loop-n l = l.stands ≡ map (stand_at l.ask.t) (take l.n (cells_of (lattice_in l.layout) (region_in l.layout)))
