-- A body in the form in which a run stores it.
use Rattle.dem_num.specs.Vectors.{narrowed}
use Rattle.dem_model.specs.declared.state.Body.{Body}
use Rattle.dem_voxel.specs.Voxel.{unpacked}
use Rattle.dem_step.specs.declared.stored.Stored.{Stored}

-- the body of a stored form
abbrev pub body_of : Stored → Body
body_of x = record { p = narrowed (unpacked x.at); q = x.q; v = x.v; w = x.w }
