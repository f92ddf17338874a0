-- The near list of a snapshot, and a pair that joins a list where it is near.
use Rattle.std.specs.Prelude.{ℕ, ◌≡◌, ◌&&◌, List, [], ◌∷◌, if◌then◌else◌}
use Rattle.dem_num.specs.declared.vector.Vec3.{Vec3}
use Rattle.dem_model.specs.SceneValue.{SceneValue}
use Rattle.dem_model.specs.Centers.{centers_of}
use Rattle.dem_model.specs.Near.{near, near_of}
use Rattle.dem_model.specs.Pairs.{apart}
use Rattle.dem_model.specs.declared.state.Pair.{Pair}
use Rattle.dem_shape.specs.declared.snapshot.Snapshot.{Snapshot}
use Rattle.dem_list.specs.Ascending.{Pairs}

-- a list is the near list of a snapshot: it has the near pairs of the bodies there, in ascending order, and is from that step
pub record IsNearListOf (s : SceneValue) (drift : ℕ) (snap : Snapshot) (list : Pairs) : Type 0 where
  pub pairs : list.pairs ≡ near_of s drift (centers_of s snap.bodies)
  pub from : list.from ≡ snap.step

-- a pair alone, where it is apart and near
abbrev pub pair_if_near : SceneValue → ℕ → List Vec3 → Pair → List Pair
pair_if_near s drift centers p = if apart s p && near s drift centers p then p ∷ [] else []
