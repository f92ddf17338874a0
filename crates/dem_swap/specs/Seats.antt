-- The seats of an exchange, as contracts see them.
use Rattle.std.specs.Prelude.{ℕ, ◌+◌, ◌≡◌, false, [], None}
use Rattle.atomic_table.specs.Seated.{TableId}
use Rattle.dem_swap.specs.declared.known.View.TheVariants.{OfDynamics, OfKinematics}
use Rattle.dem_model.specs.Exchange.{DynamicsView, KinematicsView}
use Rattle.dem_model.specs.ExchangeKinds.{HoldsHome, HasPosted, HoldsNone}
use Rattle.dem_swap.specs.Cycle.{Side, dynamics_in, kinematics_in, held_with}

-- the seat of dynamics: the exchange that it sits at, and what it knows
pub record DynSeatValue : Type 0 where
  pub table : TableId
  pub view : DynamicsView

-- the seat of kinematics: the exchange that it sits at, and what it knows
pub record KinSeatValue : Type 0 where
  pub table : TableId
  pub view : KinematicsView

-- a seat of dynamics in company: it has the slot, empty, exactly where it holds the parcel
pub record IsDynSeat (id : ℕ) (m : Side) : Type 0 where
  pub first : id ≡ 0
  pub view_is : m.0 ≡ OfDynamics (dynamics_in m.0)
  pub in_company : (dynamics_in m.0).alone ≡ false
  pub home : HoldsHome (dynamics_in m.0) → m.1 ≡ held_with None []
  pub out : HasPosted (dynamics_in m.0) → m.1 ≡ []

-- a seat of kinematics: it has the slot, empty, exactly where it holds the parcel
pub record IsKinSeat (m : Side) : Type 0 where
  pub view_is : m.0 ≡ OfKinematics (kinematics_in m.0)
  pub none_held : HoldsNone (kinematics_in m.0) → m.1 ≡ []
  pub one_held : (kinematics_in m.0).taken ≡ (kinematics_in m.0).delivered + 1 → m.1 ≡ held_with None []
