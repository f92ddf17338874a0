-- A scene as the table gives it, whose clumps are within the limits and in the box, is sound.
use Rattle.std.proofs.Common.{ℕ, ◌+◌, ◌≤◌, ◌<◌, max, List, [], ◌∷◌, length, fold, All, arith}
use Rattle.std.proofs.lemmas.List.Elements.{All-nil, All-cons, All-weaker}
use Rattle.dem_model.specs.SceneValue.{SceneValue}
use Rattle.dem_model.specs.declared.shape.Ball.{Ball}
use Rattle.dem_model.specs.declared.shape.Template.{Template}
use Rattle.dem_model.specs.declared.shape.Form.{Form}
use Rattle.dem_model.specs.declared.shape.Form.TheVariants.{Plane, Cylinder}
use Rattle.dem_model.specs.declared.shape.Wall.{Wall}
use Rattle.dem_model.specs.Sound.{IsForm, IsWall, IsClump, IsSound}
use Rattle.dem_model.specs.ReadingKinds.{widest_of, greatest_radius}
use Rattle.dem_scene.specs.Walls.{IsFormBeyond, IsWallBeyond}
use Rattle.dem_scene.specs.Table.{KeepsTable}

-- the spheres of a template are at most as wide as the widest
AreAtMost : ℕ → Template → Type 0
AreAtMost most t = All (λ (b : Ball). b.r ≤ most) t.balls

-- the widest is at least what it began with
widest_of-start : (r : ℕ) (balls : List Ball) → r ≤ widest_of r balls
unfolding widest_of
widest_of-start r [] = omega arith
widest_of-start r (b ∷ balls) = omega (arith, widest_of-start (max r b.r) balls)

-- the widest is at least each sphere
widest_of-each : (r : ℕ) (balls : List Ball) → All (λ (b : Ball). b.r ≤ widest_of r balls) balls
unfolding widest_of
widest_of-each r [] = All-nil _
widest_of-each r (b ∷ balls) = All-cons (λ (x : Ball). x.r ≤ widest_of (max r b.r) balls) b balls (omega (arith, widest_of-start (max r b.r) balls)) (widest_of-each (max r b.r) balls)

-- the widest sphere of some templates, from a radius on
abbrev radius_from : ℕ → List Template → ℕ
radius_from m templates = fold (λ n (t : Template). widest_of n t.balls) m templates

-- the widest is at least what it began with
radius_from-start : (m : ℕ) (ts : List Template) → m ≤ radius_from m ts
radius_from-start m [] = omega arith
radius_from-start m (t ∷ ts) = omega (arith, widest_of-start m t.balls, radius_from-start (widest_of m t.balls) ts)

-- the widest is at least each sphere of each template
radius_from-each : (m : ℕ) (ts : List Template) → All (AreAtMost (radius_from m ts)) ts
unfolding AreAtMost
radius_from-each m [] = All-nil (AreAtMost (radius_from m []))
radius_from-each m (t ∷ ts) =
    let n : ℕ = radius_from (widest_of m t.balls) ts in
    let le : widest_of m t.balls ≤ n = radius_from-start (widest_of m t.balls) ts in
    All-cons (AreAtMost n) t ts
    (All-weaker (λ (b : Ball). b.r ≤ widest_of m t.balls) (λ (b : Ball). b.r ≤ n) (λ b h. omega (arith, h, le)) t.balls (widest_of-each m t.balls))
    (radius_from-each (widest_of m t.balls) ts)

-- a form that is wider than the widest sphere is wider than each
form-from_beyond : (ts : List Template) (f : Form) → IsFormBeyond (greatest_radius ts) f → IsForm ts f
unfolding greatest_radius AreAtMost
form-from_beyond ts (Plane at dir) h = h
form-from_beyond ts (Cylinder axis at r) h =
    let beyond : radius_from 0 ts + 1 ≤ r = h.1.low_le in (
      h.0,
      record { low_le = omega arith; le_high = h.1.le_high },
      All-weaker (AreAtMost (radius_from 0 ts)) (λ (t : Template). All (λ (b : Ball). b.r < r) t.balls)
          (λ t k. All-weaker (λ (b : Ball). b.r ≤ radius_from 0 ts) (λ (b : Ball). b.r < r) (λ b q. omega (arith, q, beyond)) t.balls k) ts (radius_from-each 0 ts),
    )

-- and so is a wall
wall-from_beyond : (materials : ℕ) (ts : List Template) (w : Wall) → IsWallBeyond materials (greatest_radius ts) w → IsWall materials ts w
wall-from_beyond materials ts w h = record { form = form-from_beyond ts w.form h.form; mat = h.mat }

-- what the table gives is sound, where each clump is
pub sound_from_table : (s : SceneValue) → KeepsTable s → All (IsClump s) s.clumps → IsSound s
sound_from_table s h clumps = record {
  nx = h.nx;
  ny = h.ny;
  nz = h.nz;
  steps = h.steps;
  every = h.every;
  speed = h.speed;
  spin = h.spin;
  gravity = h.gravity;
  material_count = h.material_count;
  materials = h.materials;
  template_count = h.template_count;
  templates = h.templates;
  wall_count = h.wall_count;
  walls = All-weaker (IsWallBeyond (length s.materials) (greatest_radius s.templates)) (IsWall (length s.materials) s.templates) (wall-from_beyond (length s.materials) s.templates) s.walls h.walls;
  clump_count = h.clump_count;
  clumps = clumps;
  sphere_count = h.sphere_count;
  motion_count = h.motion_count;
  motions = h.motions;
  ascending = h.ascending;
  off_count = h.off_count;
  off = h.off;
}
