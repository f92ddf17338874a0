-- The spheres of a scene: numbered through all clumps in order, and inside a clump in the template's order.
use Rattle.std.specs.Prelude.{ℕ, ◌+◌, List, [], ◌∷◌, ◌++◌, map, slice_get}
use Rattle.std.specs.Option.{option_map_or}
use Rattle.dem_num.specs.declared.vector.Wide3.{Wide3}
use Rattle.dem_num.specs.Vectors.{widened, sum_of}
use Rattle.dem_num.specs.Rotations.{turned_of}
use Rattle.dem_model.specs.SceneValue.{SceneValue}
use Rattle.dem_model.specs.declared.shape.Ball.{Ball}
use Rattle.dem_model.specs.declared.shape.Template.{Template}
use Rattle.dem_model.specs.declared.state.Body.{Body}
use Rattle.dem_model.specs.declared.state.Clump.{Clump}

-- a sphere: the clump that it belongs to, and what its template says of it
pub record Sphere : Type 0 where
  pub clump : ℕ
  pub ball : Ball

-- the spheres of a template, by its number
unfoldable pub balls_of : List Template → ℕ → List Ball
balls_of templates t = option_map_or (λ (x : Template). x.balls) (slice_get templates t) []

-- a sphere of a clump
abbrev pub sphere_of : ℕ → Ball → Sphere
sphere_of k b = record { clump = k; ball = b }

-- the spheres of one clump, by its number and that of its template, in the template's order
unfoldable pub spheres_of_clump : List Template → ℕ → ℕ → List Sphere
spheres_of_clump templates k t = map (sphere_of k) (balls_of templates t)

-- the spheres of the clumps from number k on, in order
unfoldable pub spheres_from : List Template → ℕ → List Clump → List Sphere
spheres_from templates k [] = []
spheres_from templates k (c ∷ cs) = spheres_of_clump templates k c.t ++ spheres_from templates (k + 1) cs

-- all spheres of a scene, in the order of their numbers
unfoldable pub spheres_of : SceneValue → List Sphere
spheres_of s = spheres_from s.templates 0 s.clumps

-- where the center of a sphere is: the clump's position and the turned offset
unfoldable pub center_of : Body → Ball → Wide3
center_of body ball = sum_of (widened body.p) (turned_of body.q (widened ball.at))
