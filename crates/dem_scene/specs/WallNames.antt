-- Which names are those of a wall's places.
use Rattle.dem_model.specs.declared.fault.Name.{Name}
use Rattle.dem_model.specs.declared.fault.Name.TheVariants as names

-- a name is that of a wall, of its form or of a number of that
abbrev pub IsWallName : Name → Type 0
IsWallName names.Walls = Unit {0}
IsWallName names.WallsForm = Unit {0}
IsWallName names.WallsPlane = Unit {0}
IsWallName names.WallsPlaneAt = Unit {0}
IsWallName names.WallsPlaneDir = Unit {0}
IsWallName names.WallsCylinder = Unit {0}
IsWallName names.WallsCylinderAxis = Unit {0}
IsWallName names.WallsCylinderAt = Unit {0}
IsWallName names.WallsCylinderR = Unit {0}
IsWallName names.WallsMat = Unit {0}
IsWallName _ = ⊥
