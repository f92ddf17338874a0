-- What is held of the pairs of a list, by place.
use Rattle.std.specs.Prelude.{List, Option}
use Rattle.dem_num.specs.declared.vector.Vec3.{Vec3}
use Rattle.dem_list.specs.Ascending.{Pairs}

-- a list in use, and an entry by place: what is held of the pair there, or None
pub record HeldByPlace : Type 0 where
  pub list : Pairs
  pub entries : List (Option Vec3)
