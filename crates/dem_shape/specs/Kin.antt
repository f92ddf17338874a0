-- The family of a clump, and the families that are off with it.
use Rattle.std.specs.Prelude.{ℕ, ◌≡◌}
use Rattle.dem_model.specs.SceneValue.{SceneValue}
use Rattle.dem_model.specs.Families.{family_of}
use Rattle.dem_shape.specs.Offs.{offs_of}
use Rattle.dem_shape.specs.declared.families.Kin.{Kin}

-- the family is that of clump k, and the digits say which are off with it
pub record IsKin (s : SceneValue) (k : ℕ) (kin : Kin) : Type 0 where
  pub family : kin.family ≡ family_of s k
  pub offs : kin.offs ≡ offs_of s.off (family_of s k)
