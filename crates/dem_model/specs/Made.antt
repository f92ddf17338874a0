-- The made scene of a seed: spheres of four radii, each in a cell of its own of a cube of cells above a plane.
use Rattle.std.specs.Prelude.{ℕ, zero, suc, ℤ, pos, negsuc, ◌+◌, ◌*◌, ◌/◌, ◌%◌, ◌-ℤ◌, List, [], ◌∷◌, map, find, unwrap_or, nat_le}
use Rattle.std.specs.List.{range_with_len}
use Rattle.rand_xoshiro.specs.SplitMix64.{mix_u64}
use Rattle.dem_num.specs.declared.vector.Vec3.{Vec3}
use Rattle.dem_num.specs.Vectors.{narrowed, no_vector}
use Rattle.dem_model.specs.SceneValue.{SceneValue}
use Rattle.dem_model.specs.Centers.{still_body}
use Rattle.dem_model.specs.declared.shape.Ball.{Ball}
use Rattle.dem_model.specs.declared.shape.Form.TheVariants.{Plane}
use Rattle.dem_model.specs.declared.shape.Material.{Material}
use Rattle.dem_model.specs.declared.shape.Template.{Template}
use Rattle.dem_model.specs.declared.shape.Wall.{Wall}
use Rattle.dem_model.specs.declared.state.Clump.{Clump}

-- ---- words

-- the state of SplitMix64 after k words
unfoldable pub state_after : ℕ → ℕ → ℕ
state_after words zero = words
state_after words (suc k) = (mix_u64 (state_after words k)).1

-- word number k, from 0, from this state on
unfoldable pub word_of : ℕ → ℕ → ℕ
word_of words k = (mix_u64 (state_after words k)).0

-- ---- the parts

-- the one material
abbrev pub made_material : Material
made_material = record { kn = 45000000; kt = 50000000; bn = 26214; bt = 26214; mu = 32768; mr = 0 }

-- a sphere, whose radius takes one word
unfoldable pub made_ball : ℕ → Ball
made_ball words = record { at = narrowed no_vector; r = 1000000 + word_of words 0 % 32768; mat = 0 }

-- a template of one sphere
unfoldable pub made_template : ℕ → Template
made_template words = record {
  mass = 1048576;
  moments = record { x = pos 25600000000000; y = pos 25600000000000; z = pos 25600000000000 };
  balls = made_ball words ∷ [];
}

-- the floor: a plane on which the lowest cells stand
abbrev pub made_floor : Wall
made_floor = record {
  form = Plane (record { x = pos 0; y = pos 0; z = pos 2097152 }) (record { x = pos 0; y = pos 0; z = pos 1 });
  mat = 0;
}

-- the least number of cells along an edge with which the cube has a cell for each clump
unfoldable pub edge_of : ℕ → ℕ
edge_of count = unwrap_or (find (λ s. nat_le count (s * s * s)) (range_with_len 0 (count + 1))) 0

-- a place on one axis: near the middle of the cell of this number
unfoldable pub place_in : (cell word : ℕ) → ℤ
place_in cell word = pos (2097152 * (cell + 1) + 1048576 + word % 16384)

-- a velocity on one axis
unfoldable pub speed_from : ℕ → ℤ
speed_from word = pos (word % 16777216) -ℤ pos 8388608

-- the place of clump i, by three words: the cells are filled along x first, then along y, then along z
unfoldable pub made_place : (words edge i : ℕ) → Vec3
made_place words edge i = record {
  x = place_in (i % edge) (word_of words 0);
  y = place_in (i / edge % edge) (word_of words 1);
  z = place_in (i / (edge * edge)) (word_of words 2);
}

-- a velocity, by three words
unfoldable pub made_velocity : ℕ → Vec3
made_velocity words = record { x = speed_from (word_of words 0); y = speed_from (word_of words 1); z = speed_from (word_of words 2) }

-- clump i, by seven words: its template, its place, its velocity
unfoldable pub made_clump : (words edge i : ℕ) → Clump
made_clump words edge i = record {
  t = word_of words 0 % 4;
  family = 0;
  body = record still_body { p = made_place (state_after words 1) edge i; v = made_velocity (state_after words 4) };
}

-- ---- the scene

-- four templates, with one word each
unfoldable pub made_templates : ℕ → List Template
made_templates words = map (λ j. made_template (state_after words j)) (range_with_len 0 4)

-- so many clumps, with seven words each
unfoldable pub made_clumps : (words edge count : ℕ) → List Clump
made_clumps words edge count = map (λ i. made_clump (state_after words (7 * i)) edge i) (range_with_len 0 count)

-- the scene of a seed and a number of clumps: the words of the clumps come after those of the templates
unfoldable pub made_of : (seed count : ℕ) → SceneValue
made_of seed count = let voxels = 32 * (edge_of count + 2) in record {
  nx = voxels;
  ny = voxels;
  nz = voxels;
  steps = 100;
  every = 100;
  speed = 134217728;
  spin = 1048576;
  gravity = record { x = pos 0; y = pos 0; z = negsuc 641 };
  materials = made_material ∷ [];
  templates = made_templates seed;
  walls = made_floor ∷ [];
  clumps = made_clumps (state_after seed 4) (edge_of count) count;
  motions = [];
  off = [];
}
