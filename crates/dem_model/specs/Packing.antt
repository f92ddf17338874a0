-- Packings: stands that lie in a region and don't touch each other.
use Rattle.std.specs.Prelude.{ℕ, pos, ◌≡◌, ◌≤◌, ◌+◌, ◌*◌, ◌+ℤ◌, ◌-ℤ◌, List, map, take, All, AllPairs, None}
use Rattle.dem_num.specs.declared.vector.Vec3.{Vec3}
use Rattle.dem_num.specs.declared.vector.Wide3.{Wide3}
use Rattle.dem_num.specs.Vectors.{difference_of, norm2_of}
use Rattle.dem_model.specs.Cells.{Lattice, region_between, cells_of}
use Rattle.dem_model.specs.Spheres.{balls_of, center_of}
use Rattle.dem_model.specs.Sound.{IsBetween}
use Rattle.dem_model.specs.Stands.{standing_body}
use Rattle.dem_model.specs.Touch.{spheres_touch}
use Rattle.dem_model.specs.declared.shape.Ball.{Ball}
use Rattle.dem_model.specs.declared.shape.Template.{Template}
use Rattle.dem_model.specs.declared.state.Stand.{Stand}

-- a stand of a template
abbrev pub stand_at : (t : ℕ) → Vec3 → Stand
stand_at t p = record { t = t; p = p }

-- the stands of a template at the first cells between two corners, so many
unfoldable pub first_stands : Lattice → (lo hi : Vec3) → (t count : ℕ) → List Stand
first_stands l lo hi t count = map (stand_at t) (take count (cells_of l (region_between lo hi)))

-- where the center of a sphere of a stand is
abbrev pub center_in : Stand → Ball → Wide3
center_in x b = center_of (standing_body x) b

-- a sphere lies with its whole radius between two corners
pub record LiesBetween (lo hi : Vec3) (center : Wide3) (r : ℕ) : Type 0 where
  pub x : IsBetween (lo.x +ℤ pos r) (hi.x -ℤ pos r) center.x
  pub y : IsBetween (lo.y +ℤ pos r) (hi.y -ℤ pos r) center.y
  pub z : IsBetween (lo.z +ℤ pos r) (hi.z -ℤ pos r) center.z

-- each sphere of a stand lies with its whole radius between two corners
abbrev pub StandsBetween : (lo hi : Vec3) → List Template → Stand → Type 0
StandsBetween lo hi templates x = All (λ (b : Ball). LiesBetween lo hi (center_in x b) b.r) (balls_of templates x.t)

-- two spheres don't touch, and there is the gap between them at least
pub record AreClear (gap : ℕ) (a b : Wide3) (ra rb : ℕ) : Type 0 where
  pub untouched : spheres_touch (difference_of a b) (ra + rb) ≡ None
  pub apart : (ra + rb + gap) * (ra + rb + gap) ≤ norm2_of (difference_of a b)

-- no sphere of a stand touches one of another, and there is the gap between each two of them at least
abbrev pub StandClear : (gap : ℕ) → List Template → Stand → Stand → Type 0
StandClear gap templates x y = All (λ (a : Ball). All (λ (b : Ball). AreClear gap (center_in x a) (center_in y b) a.r b.r) (balls_of templates y.t)) (balls_of templates x.t)

-- stands are a packing of a region: each lies in it, and each two are clear of each other
pub record IsPacking (lo hi : Vec3) (gap : ℕ) (templates : List Template) (stands : List Stand) : Type 0 where
  pub inside : All (StandsBetween lo hi templates) stands
  pub clear : AllPairs (StandClear gap templates) stands
