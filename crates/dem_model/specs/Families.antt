-- Families of clumps: which are off with each other, and which have a motion.
use Rattle.std.specs.Prelude.{ℕ, ◌==◌, Bool, ◌&&◌, ◌||◌, List, find, slice_get, Option, Some, None}
use Rattle.std.specs.List.{list_any}
use Rattle.std.specs.Option.{option_map_or}
use Rattle.dem_num.specs.declared.vector.Wide3.{Wide3}
use Rattle.dem_num.specs.Vectors.{widened}
use Rattle.dem_model.specs.SceneValue.{SceneValue}
use Rattle.dem_model.specs.declared.family.Motion.{Motion}
use Rattle.dem_model.specs.declared.family.Off.{Off}
use Rattle.dem_model.specs.declared.state.Clump.{Clump}

-- the family of a clump, by its number
unfoldable pub family_of : SceneValue → ℕ → ℕ
family_of s k = option_map_or (λ (c : Clump). c.family) (slice_get s.clumps k) 0

-- whether an entry has two families, in either order
abbrev pub has_both : ℕ → ℕ → Off → Bool
has_both f g x = ((x.f == f) && (x.g == g)) || ((x.f == g) && (x.g == f))

-- whether two families are off: some entry has them
unfoldable pub is_off : List Off → ℕ → ℕ → Bool
is_off off f g = list_any (has_both f g) off

-- the motion of a family, if it has one
unfoldable pub motion_for : List Motion → ℕ → Option Motion
motion_for motions f = find (λ (m : Motion). m.id == f) motions

-- the motion of a clump's family, by the number of the clump
unfoldable pub motion_of : SceneValue → ℕ → Option Motion
motion_of s k = motion_for s.motions (family_of s k)

-- a velocity, or the one that a motion gives in its place
abbrev pub velocity_by : Option Motion → Wide3 → Wide3
velocity_by None v = v
velocity_by (Some m) v = widened m.v

-- a spin, or the one that a motion gives in its place
abbrev pub spin_by : Option Motion → Wide3 → Wide3
spin_by None w = w
spin_by (Some m) w = widened m.w
