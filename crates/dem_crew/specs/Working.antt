-- What dynamics keeps while it works, and what its own functions say; no contract of a public call names any of it.
use Rattle.std.specs.Prelude.{ℕ, ◌≡◌, ◌+◌, ◌≤◌, List, length, Option, Some, None, Result, Ok, Err}
use Rattle.std.specs.Option.{IsSomeAnd}
use Rattle.atomic_table.specs.Seated.{TableId}
use Rattle.dem_outside.specs.Faults.{Rose}
use Rattle.dem_model.specs.SceneValue.{SceneValue}
use Rattle.dem_model.specs.Motion.{AreSound}
use Rattle.dem_model.specs.declared.state.Body.{Body}
use Rattle.dem_model.specs.declared.state.TakenRow.{TakenRow}
use Rattle.dem_model.specs.Exchange.{DynamicsView, terms_of, IsPostedLast}
use Rattle.dem_model.specs.ExchangeKinds.{HoldsHome, HasPosted}
use Rattle.dem_swap.specs.Seats.{DynSeatValue}
use Rattle.dem_swap.specs.declared.parcel.Parcel.{Parcel}
use Rattle.dem_model.specs.World.{Course}
use Rattle.dem_core.specs.Worlds.{IsOut}
use Rattle.dem_core.specs.SoFar.{HasWritten}
use Rattle.dem_core.specs.declared.did.WorldStop.{WorldStop}
use Rattle.dem_core.specs.declared.did.WorldStop.TheVariants.{WriteFault, OutOfMemory}
use Rattle.dem_crew.specs.declared.work.Work.{Work}

-- the most lists that a run may have taken into use whose list is from this step
abbrev pub lists_by : Option ℕ → ℕ
lists_by None = 0
lists_by (Some from) = from + 1

-- the snapshot posted last is of the run, and sound
pub record IsAway (s : SceneValue) (c : Course) (d : DynamicsView) : Type 0 where
  pub step : ℕ
  pub bodies : List Body
  pub posted_last : IsPostedLast d (record { step = step; bodies = bodies })
  pub out : IsOut s c (record { step = step; bodies = bodies })
  pub sound : AreSound s bodies

-- where the parcel is: at home, with room for a body per clump; or away
abbrev pub IsPlaced : SceneValue → Course → DynamicsView → Option Parcel → Type 0
IsPlaced s c d (Some p) = HoldsHome d × (length p.snap.bodies ≡ length s.clumps)
IsPlaced s c d None = HasPosted d × IsAway s c d

-- the parcel is at home, with room for a body per clump
abbrev pub IsHome : Work → Type 0
IsHome work = IsSomeAnd work.home (λ p. length p.snap.bodies ≡ length work.course.scene.clumps)

-- dynamics at its work: its seat is at this exchange, which is made for the scene and the drift limit of its run; the parcel is in its place
pub record IsAtWork (table : TableId) (seat : DynSeatValue) (work : Work) : Type 0 where
  pub seat_at : seat.table ≡ table
  pub terms_are : seat.view.terms ≡ Some (terms_of work.course.scene work.course.drift)
  pub placed : IsPlaced work.course.scene work.course.course seat.view work.home
  pub few : work.lists ≤ lists_by work.course.course.from

-- since these moments, the output gained what the run has written so far, and the notes a row for each list that it took into use
pub record IsKeptUp (out out_now note note_now : Option (List ℕ)) (work : Work) : Type 0 where
  pub rows : List TakenRow
  pub written : HasWritten work.course.scene work.course.drift out out_now note note_now rows work.course.course
  pub lists_are : work.lists ≡ length rows

-- the count of a sink rose where a put failed, and else stayed
abbrev pub HasCount : {A : Type 0} → (faults faults_now : ℕ) → Result A WorldStop → Type 0
HasCount faults faults_now (Ok _) = faults_now ≡ faults
HasCount faults faults_now (Err WriteFault) = Rose faults faults_now
HasCount faults faults_now (Err OutOfMemory) = faults_now ≡ faults
