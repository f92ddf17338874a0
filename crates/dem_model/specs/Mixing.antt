-- Two materials and two sides together: stiffness, damping, friction, rolling resistance, radius and mass.
use Rattle.std.specs.Prelude.{ℕ, ◌+◌, ◌*◌, ◌/◌, ◌==◌, max, min, if◌then◌else◌}
use Rattle.dem_model.specs.declared.law.Law.{Law}
use Rattle.dem_model.specs.declared.law.Side.{Side}
use Rattle.dem_model.specs.declared.shape.Material.{Material}

-- the product over the sum, as two springs in a row; nothing where both are nothing
unfoldable pub in_a_row : ℕ → ℕ → ℕ
in_a_row a b = if a + b == 0 then 0 else (a * b) / (a + b)

-- the law between two materials: springs in a row, the greater damping, the lesser friction and rolling resistance
unfoldable pub mixed_of : Material → Material → Law
mixed_of a b = record {
  kn = max 1 (in_a_row a.kn b.kn);
  kt = in_a_row a.kt b.kt;
  bn = max a.bn b.bn;
  bt = max a.bt b.bt;
  mu = min a.mu b.mu;
  mr = min a.mr b.mr;
}

-- the effective radius of a contact: that of the sphere alone at a wall
unfoldable pub radius_between : Side → Side → ℕ
radius_between a b = if b.wall then a.r else max 1 (in_a_row a.r b.r)

-- the effective mass of a contact: that of the clump alone at a wall
unfoldable pub mass_between : Side → Side → ℕ
mass_between a b = if b.wall then a.mass else max 1 (in_a_row a.mass b.mass)
