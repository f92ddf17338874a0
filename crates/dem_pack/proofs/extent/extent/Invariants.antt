use Rattle.std.proofs.Common.{◌≡◌, ◌≤◌, ◌^◌, take}
use Rattle.dem_model.specs.Cells.{extent_of}
use Rattle.dem_pack.proofs.extent.extent.Given as goal

abbrev pub invariant-loop-ball : goal.invariant-loop-ball
invariant-loop-ball l = (l.extent ≡ extent_of (take l.ball-index l.balls)) × (l.extent ≤ 2 ^ 27) × (1 ≤ l.ball-index → 1 ≤ l.extent)
