-- The rows of the pairs of a list.
use Rattle.std.specs.Prelude.{ℕ, List, [], Option, Some, None}
use Rattle.dem_num.specs.declared.vector.Vec3.{Vec3}
use Rattle.dem_model.specs.Frames.{pair_text}
use Rattle.dem_model.specs.declared.state.Pair.{Pair}

-- the row of a pair, where something is held of it
abbrev pub entry_text : Pair → Option Vec3 → List ℕ
entry_text p None = []
entry_text p (Some h) = pair_text p h
