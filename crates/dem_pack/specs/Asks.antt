-- Asks: within which limits they are, which of them are refused and how, and the stands of the others.
use Rattle.std.specs.Prelude.{ℕ, ℤ, pos, ◌≡◌, ◌⊎◌, ◌≤◌, ◌<◌, ◌*◌, ◌^◌, Bool, true, false, not, ◌&&◌, List, [], ◌∷◌, length, Result, Ok, Err, IfOk, IfErr, nat_lt, int_le, if◌then◌else◌}
use Rattle.dem_num.specs.declared.vector.Vec3.{Vec3}
use Rattle.dem_num.specs.Vectors.{widened, is_zero}
use Rattle.dem_model.specs.SceneValue.{SceneValue}
use Rattle.dem_model.specs.Cells.{Lattice, grid, staggered, extent_of, region_between, cells_of}
use Rattle.dem_model.specs.Packing.{first_stands}
use Rattle.dem_model.specs.Sound.{IsFrom, EachBetween}
use Rattle.dem_model.specs.Spheres.{balls_of}
use Rattle.dem_model.specs.declared.shape.Ball.{Ball}
use Rattle.dem_model.specs.declared.state.Stand.{Stand}
use Rattle.dem_model.specs.declared.limits.TheConstants.{MAX_CLUMPS, MAX_SPHERES, MAX_TEMPLATES, VOXEL}
use Rattle.dem_pack.specs.declared.ask.Ask.{Ask}
use Rattle.dem_pack.specs.declared.ask.Kind.{Kind}
use Rattle.dem_pack.specs.declared.ask.Kind.TheVariants.{Grid, Staggered}
use Rattle.dem_pack.specs.declared.ask.PackFault.{PackFault}
use Rattle.dem_pack.specs.declared.ask.PackFault.TheVariants.{Index, Region, Shape, Spheres, Room, OutOfMemory}

-- ---- limits

-- no component of a corner is negative, or above 2^36
abbrev pub IsCorner : Vec3 → Type 0
IsCorner v = EachBetween (pos 0) (pos (2 ^ 36)) v

-- what is asked is within the limits
pub record IsAsk (a : Ask) : Type 0 where
  pub t : a.t < MAX_TEMPLATES
  pub gap : a.gap ≤ 2 ^ 26
  pub lo : IsCorner a.lo
  pub hi : IsCorner a.hi
  pub count : IsFrom 1 MAX_CLUMPS a.count

-- ---- refusals, in their order

-- whether a stretch isn't turned over, and ends within so many voxels
unfoldable pub fits_axis : (low high : ℤ) → (voxels : ℕ) → Bool
fits_axis low high voxels = int_le low high && int_le high (pos (voxels * VOXEL))

-- whether the region is in the box
unfoldable pub fits_box : SceneValue → Ask → Bool
fits_box s a = fits_axis a.lo.x a.hi.x s.nx && fits_axis a.lo.y a.hi.y s.ny && fits_axis a.lo.z a.hi.z s.nz

-- whether a template is one sphere without an offset
unfoldable pub is_one_sphere : List Ball → Bool
is_one_sphere [] = false
is_one_sphere (b ∷ []) = is_zero (widened b.at)
is_one_sphere (b ∷ c ∷ bs) = false

-- whether a template suits a kind: staggered layers want one sphere without an offset
unfoldable pub suits : Kind → List Ball → Bool
suits Grid balls = true
suits Staggered balls = is_one_sphere balls

-- the lattice of a kind
unfoldable pub lattice_of : Kind → (extent gap : ℕ) → Lattice
lattice_of Grid extent gap = grid extent gap
lattice_of Staggered extent gap = staggered extent gap

-- the stands at the first cells, where there are enough cells
unfoldable pub stands_in : Lattice → Ask → Result (List Stand) PackFault
stands_in l a =
    let cells = length (cells_of l (region_between a.lo a.hi)) in
    if nat_lt cells a.count then Err (Room cells) else Ok (first_stands l a.lo a.hi a.t a.count)

-- the stands of a template of these spheres, where it suits and they aren't too many
unfoldable pub stands_of : List Ball → Ask → Result (List Stand) PackFault
stands_of balls a =
    if not (suits a.kind balls) then Err Shape
    else (if nat_lt MAX_SPHERES (a.count * length balls) then Err Spheres else stands_in (lattice_of a.kind (extent_of balls) a.gap) a)

-- what is asked of a scene comes to these stands, or to the first refusal that holds
unfoldable pub answer_of : SceneValue → Ask → Result (List Stand) PackFault
answer_of s a =
    if not (nat_lt a.t (length s.templates)) then Err Index
    else (if not (fits_box s a) then Err Region else stands_of (balls_of s.templates a.t) a)

-- a call answers so, or memory was refused
pub record Answers (answer result : Result (List Stand) PackFault) : Type 0 where
  pub ok : IfOk result (λ stands. answer ≡ Ok stands)
  pub err : IfErr result (λ fault. (fault ≡ OutOfMemory) ⊎ (answer ≡ Err fault))
