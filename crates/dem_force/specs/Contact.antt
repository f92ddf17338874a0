-- What one pair does, from the bodies of its clumps alone.
use Rattle.std.specs.Prelude.{◌≡◌, Option, Some, None, IfSome, is_some, nat_lt}
use Rattle.std.specs.Option.{option_map}
use Rattle.std.specs.Borrow.{Bor}
use Rattle.dem_num.specs.declared.vector.Vec3.{Vec3}
use Rattle.dem_model.specs.SceneValue.{SceneValue}
use Rattle.dem_model.specs.Law.{contact_of}
use Rattle.dem_model.specs.Pairs.{sphere_count}
use Rattle.dem_model.specs.Ranges.{wall_side_of}
use Rattle.dem_model.specs.Sound.{IsBodyOf}
use Rattle.dem_model.specs.Step.{clump_of_sphere, law_of, side_of}
use Rattle.dem_model.specs.declared.law.Push.{Push}
use Rattle.dem_model.specs.declared.law.Side.{Side}
use Rattle.dem_model.specs.declared.law.Touch.{Touch}
use Rattle.dem_model.specs.declared.state.Body.{Body}
use Rattle.dem_model.specs.declared.state.Pair.{Pair}

-- the body that is lent, where one is
abbrev pub lent : Option (Bor Body) → Option Body
lent b = option_map (λ (x : Bor Body). x.now) b

-- the second side of a pair: that of its sphere, whose clump has this body, or a wall's where there is none
unfoldable pub second_side_with : SceneValue → Pair → Option Body → Side
second_side_with s p None = wall_side_of
second_side_with s p (Some b) = side_of s b p.b

-- what a pair does that touches so, where its clumps have these bodies and this displacement is stored
unfoldable pub contact_between : SceneValue → Body → Option Body → Pair → Vec3 → Touch → Push
contact_between s a b p h t = contact_of (law_of s p) (side_of s a p.a) (second_side_with s p b) t h

-- there is a second body exactly where the second of the pair is a sphere, and it is sound for that sphere's clump
pub record IsSecondBody (s : SceneValue) (p : Pair) (b : Option Body) : Type 0 where
  pub there : is_some b ≡ nat_lt p.b (sphere_count s)
  pub sound : IfSome b (IsBodyOf s (clump_of_sphere s p.b))
