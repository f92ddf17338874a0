-- What a run on lists keeps and what its own functions say; no contract of a public call names any of it.
use Rattle.std.specs.Prelude.{ℕ, ◌≡◌, ◌≤◌, Bool, true, All, IfSome, List, length, map, Option, Some, None, if◌then◌else◌}
use Rattle.std.specs.Option.{option_map}
use Rattle.dem_num.specs.declared.vector.Vec3.{Vec3}
use Rattle.dem_model.specs.SceneValue.{SceneValue}
use Rattle.dem_model.specs.Carry.{kept_of, Agrees}
use Rattle.dem_model.specs.Motion.{AreSound}
use Rattle.dem_model.specs.Plain.{plain_at}
use Rattle.dem_model.specs.Ranges.{IsSmall}
use Rattle.dem_model.specs.Sound.{IsSound}
use Rattle.dem_model.specs.Step.{Meeting, meetings, loads_of, held_in}
use Rattle.dem_model.specs.declared.law.Load.{Load}
use Rattle.dem_model.specs.declared.state.Body.{Body}
use Rattle.dem_model.specs.declared.state.Held.{Held}
use Rattle.dem_model.specs.declared.state.Pair.{Pair}
use Rattle.dem_model.specs.Step.{loads_with}
use Rattle.dem_model.specs.declared.limits.TheConstants.{MAX_DRIFT}
use Rattle.dem_hist.specs.Carrying.{HeldByPlace}
use Rattle.dem_step.specs.Contacts.{AreContacts, held_by, IsHeldIn}
use Rattle.dem_step.specs.Stepper.{IsListOfRun, state_at}

-- the step of the list in use, where one is
abbrev pub from_of : Bool → ℕ → Option ℕ
from_of listed from = if listed then Some from else None

-- what a run on lists keeps: it stands at a state of the plain run, with its bodies; its list is of that run, and has the displacements that the next step needs, and no other
pub record IsStepper (s : SceneValue) (drift step : ℕ) (listed : Bool) (bodies : List Body) (contacts : HeldByPlace) : Type 0 where
  pub scene : IsSound s
  pub drift_le : drift ≤ MAX_DRIFT
  pub plain : plain_at s step ≡ Some (state_at s step)
  pub bodies_are : bodies ≡ (state_at s step).bodies
  pub sound : AreSound s bodies
  pub contacts_are : AreContacts s contacts
  pub agrees : Agrees s (state_at s step) (held_by contacts)
  pub only : IsHeldIn (state_at s step) (held_by contacts)
  pub near : listed ≡ true → IsListOfRun s drift contacts.list
  pub past : listed ≡ true → contacts.list.from ≤ step

-- the room that was made for a step: a load and a body per clump, an entry per pair of the list
pub record HasRoom (s : SceneValue) (loads : List Load) (next : List Body) (pairs : List Pair) (fresh : List (Option Vec3)) : Type 0 where
  pub load_each : length loads ≡ length s.clumps
  pub body_each : length next ≡ length s.clumps
  pub entry_each : length pairs ≤ length fresh

-- the loads with one more meeting, where there is one
abbrev pub loads_after : SceneValue → List Load → Option Meeting → List Load
loads_after s ws None = ws
loads_after s ws (Some m) = loads_with s ws m

-- the displacement that a meeting leaves
abbrev pub displacement_of : Option Meeting → Option Vec3
displacement_of o = option_map (λ (m : Meeting). m.push.h) o

-- the push of a meeting is small, where there is one
abbrev pub IsSmallMeeting : Option Meeting → Type 0
IsSmallMeeting o = IfSome o (λ (m : Meeting). IsSmall m.push)

-- the loads are the sums over the meetings of these pairs, the entries have their displacements, and each push is small
pub record HaveMet (s : SceneValue) (bodies : List Body) (centers : List Vec3) (held : List Held) (ps : List Pair) (loads : List Load) (fresh : List (Option Vec3)) : Type 0 where
  pub sums : loads ≡ loads_of s (meetings s bodies centers held ps)
  pub kept : kept_of ps fresh ≡ map held_in (meetings s bodies centers held ps)
  pub small : All (λ (m : Meeting). IsSmall m.push) (meetings s bodies centers held ps)
