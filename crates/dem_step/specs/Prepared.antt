-- What a step needs of the bodies alone: the bodies unpacked, their matrices, and where all spheres are and how they move.
use Rattle.std.specs.Prelude.{◌≡◌, true, false, List, length}
use Rattle.dem_model.specs.SceneValue.{SceneValue}
use Rattle.dem_model.specs.Centers.{centers_of}
use Rattle.dem_model.specs.declared.state.Body.{Body}
use Rattle.dem_shape.specs.Matrices.{AreMatrices}
use Rattle.dem_force.specs.Places.{HasPlaces}
use Rattle.dem_force.specs.Sides.{AreSides}
use Rattle.dem_force.specs.declared.pushing.spheres.Spheres.{Spheres}
use Rattle.dem_step.specs.declared.prepared.Prepared.{Prepared}

-- they are those of these bodies
pub record ArePrepared (s : SceneValue) (bodies unpacked : List Body) (spheres : Spheres) : Type 0 where
  pub bodies_are : unpacked ≡ bodies
  pub matrices_are : AreMatrices s bodies spheres.matrices
  pub centers_are : spheres.centers ≡ centers_of s bodies
  pub sides_are : AreSides s bodies spheres.sides

-- there is room for them, and where they are ready they are those of these bodies
pub record CanPrepare (s : SceneValue) (bodies : List Body) (prepared : Prepared) : Type 0 where
  pub places : HasPlaces s prepared.spheres
  pub each : length prepared.unpacked ≡ length s.clumps
  pub right : prepared.ready ≡ true → ArePrepared s bodies prepared.unpacked prepared.spheres

-- there is room for them, and they aren't ready
pub record IsUnprepared (s : SceneValue) (prepared : Prepared) : Type 0 where
  pub places : HasPlaces s prepared.spheres
  pub each : length prepared.unpacked ≡ length s.clumps
  pub not_ready : prepared.ready ≡ false
