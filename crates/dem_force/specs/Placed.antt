-- A clump that a step leaves where it may be: its body within the limits, and its spheres in the box.
use Rattle.std.specs.Prelude.{List, All, IsTrue}
use Rattle.dem_num.specs.Vectors.{widened}
use Rattle.dem_model.specs.SceneValue.{SceneValue}
use Rattle.dem_model.specs.Position.{in_box}
use Rattle.dem_model.specs.Sound.{IsBody}
use Rattle.dem_model.specs.Spheres.{center_of}
use Rattle.dem_model.specs.declared.shape.Ball.{Ball}
use Rattle.dem_model.specs.declared.state.Body.{Body}

-- the body and the center of each of its spheres are in the box
pub record IsInside (s : SceneValue) (balls : List Ball) (b : Body) : Type 0 where
  pub place : IsTrue (in_box s (widened b.p))
  pub centers : All (λ (x : Ball). IsTrue (in_box s (center_of b x))) balls

-- the body is within the limits, and the center of each of its spheres is in the box
pub record IsPlaced (s : SceneValue) (balls : List Ball) (b : Body) : Type 0 where
  pub body : IsBody s b
  pub centers : All (λ (x : Ball). IsTrue (in_box s (center_of b x))) balls
