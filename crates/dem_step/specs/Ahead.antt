-- What the pairs of a list come to before the step that wants it, and what becomes of that where the next list is taken into use; no contract of a public call names any of it.
use Rattle.std.specs.Prelude.{ℕ, ◌≡◌, ◌≤◌, Bool, true, List, length, Option, Some, None, slice_index_or}
use Rattle.dem_num.specs.declared.vector.Vec3.{Vec3}
use Rattle.dem_model.specs.SceneValue.{SceneValue}
use Rattle.dem_model.specs.Centers.{centers_of}
use Rattle.dem_model.specs.Near.{Covers}
use Rattle.dem_model.specs.Step.{Meeting}
use Rattle.dem_model.specs.declared.law.Load.{Load}
use Rattle.dem_model.specs.declared.state.Body.{Body}
use Rattle.dem_list.specs.Ascending.{Pairs}
use Rattle.dem_hist.specs.Carrying.{HeldByPlace}
use Rattle.dem_step.specs.Contacts.{held_by}
use Rattle.dem_step.specs.Inside.{loads_after, displacement_of, HaveMet}
use Rattle.dem_step.specs.Stepper.{IsListOfRun, state_at}

-- a list is in use, and its pairs have met: the loads and the entries are those of their meetings
pub record IsMetAhead (s : SceneValue) (listed : Bool) (bodies : List Body) (contacts : HeldByPlace) (loads : List Load) (fresh : List (Option Vec3)) : Type 0 where
  pub in_use : listed ≡ true
  pub met : HaveMet s bodies (centers_of s bodies) (held_by contacts) contacts.list.pairs loads fresh

-- the pairs of the old list have met; both lists are of the plain run, and each pair that touches is near where the list in use was made
pub record CanHandOn (s : SceneValue) (drift : ℕ) (bodies : List Body) (centers : List Vec3) (old : Pairs) (contacts : HeldByPlace) (loads : List Load) (before : List (Option Vec3)) : Type 0 where
  pub was : IsListOfRun s drift old
  pub is : IsListOfRun s drift contacts.list
  pub covers : Covers s drift (centers_of s (state_at s contacts.list.from).bodies) centers
  pub met : HaveMet s bodies centers (held_by contacts) old.pairs loads before
  pub room : length old.pairs ≤ length before

-- the loads with what a pair does: they have it already where the pair has a place in the old list
abbrev pub loads_past : SceneValue → List Load → Option ℕ → Option Meeting → List Load
loads_past s ws (Some k) o = ws
loads_past s ws None o = loads_after s ws o

-- the displacement that a pair leaves: the one at its place in the old list, where it has one
abbrev pub entry_past : List (Option Vec3) → Option ℕ → Option Meeting → Option Vec3
entry_past before (Some k) o = slice_index_or before k None
entry_past before None o = displacement_of o
