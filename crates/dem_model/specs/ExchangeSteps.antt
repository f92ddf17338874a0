-- The atomic steps of an exchange, and which exchanges they reach.
use Rattle.std.specs.Prelude.{◌≡◌, false, Some, None}
use Rattle.dem_model.specs.Exchange.{Terms, Cargo, Away, Empty, Full, KinematicsView, Exchange, IsSoundFor, IsAnswer}
use Rattle.dem_model.specs.ExchangeKinds.{HoldsHome, HoldsTaken, posting, taking, delivering, collecting, dynamics_looking, dynamics_checking, kinematics_looking, kinematics_checking, accompanied, beside, raising, beginning, opening_exchange}

-- what a step is: its kind and, where it needs one, the parcel or the terms
pub data Kind : Type 0 where
  Post : Cargo → Kind
  Take : Kind
  Deliver : Cargo → Kind
  Collect : Kind
  DynamicsSeesTurn : Kind
  DynamicsSeesStop : Kind
  KinematicsSeesTurn : Kind
  KinematicsSeesStop : Kind
  Split : Kind
  Raise : Kind
  Begin : Terms → Kind

-- a post: dynamics, in company, holds the parcel, and its snapshot is sound; turn word to 1, slot at home
pub record IsPost (x y : Exchange) (c : Cargo) : Type 0 where
  pub in_company : x.dynamics.alone ≡ false
  pub home : HoldsHome x.dynamics
  pub sound : IsSoundFor x.dynamics.terms c.snap
  pub becomes : y ≡ record x { turn = 1; slot = Full c; dynamics = posting x.dynamics c.snap }

-- a take: turn word from 1 to 2, the slot comes out
pub record IsTake (x y : Exchange) : Type 0 where
  pub cargo : Cargo
  pub view : KinematicsView
  pub turn_is : x.turn ≡ 1
  pub slot_is : x.slot ≡ Full cargo
  pub kinematics_is : x.kinematics ≡ Some view
  pub becomes : y ≡ record x { turn = 2; slot = Away; kinematics = Some (taking view cargo.snap) }

-- a delivery: kinematics holds the parcel with the taken snapshot, and its list answers it; turn word to 3, slot at home
pub record IsDelivery (x y : Exchange) (c : Cargo) : Type 0 where
  pub view : KinematicsView
  pub kinematics_is : x.kinematics ≡ Some view
  pub taken : HoldsTaken view c.snap
  pub answer : IsAnswer view.terms c
  pub becomes : y ≡ record x { turn = 3; slot = Full c; kinematics = Some (delivering view) }

-- a collection: turn word from 3 to 0, the slot comes out
pub record IsCollection (x y : Exchange) : Type 0 where
  pub cargo : Cargo
  pub turn_is : x.turn ≡ 3
  pub slot_is : x.slot ≡ Full cargo
  pub becomes : y ≡ record x { turn = 0; slot = Away; dynamics = collecting x.dynamics }

-- a step of kinematics that changes its view alone
abbrev pub Changes : Exchange → Exchange → (KinematicsView → KinematicsView) → Type 0
Changes x y f = (k : KinematicsView) × (x.kinematics ≡ Some k) × (y ≡ record x { kinematics = Some (f k) })

-- a split: dynamics is alone and knows the terms; kinematics begins
pub record IsSplit (x y : Exchange) : Type 0 where
  pub terms : Terms
  pub terms_are : x.dynamics.terms ≡ Some terms
  pub alone : x.kinematics ≡ None
  pub becomes : y ≡ record x { dynamics = accompanied x.dynamics; kinematics = Some (beside x.dynamics) }

-- a beginning: dynamics is alone and comes to know the terms; the slot comes out
pub record IsBeginning (x y : Exchange) (t : Terms) : Type 0 where
  pub alone : x.kinematics ≡ None
  pub slot_is : x.slot ≡ Empty
  pub becomes : y ≡ record x { slot = Away; dynamics = beginning x.dynamics t }

-- a step of this kind leads from one exchange to the other
abbrev pub Leads : Kind → Exchange → Exchange → Type 0
Leads (Post c) x y = IsPost x y c
Leads Take x y = IsTake x y
Leads (Deliver c) x y = IsDelivery x y c
Leads Collect x y = IsCollection x y
Leads DynamicsSeesTurn x y = y ≡ record x { dynamics = dynamics_looking x.dynamics x.turn }
Leads DynamicsSeesStop x y = y ≡ record x { dynamics = dynamics_checking x.dynamics x.stop }
Leads KinematicsSeesTurn x y = Changes x y (λ k. kinematics_looking k x.turn)
Leads KinematicsSeesStop x y = Changes x y (λ k. kinematics_checking k x.stop)
Leads Split x y = IsSplit x y
Leads Raise x y = y ≡ record x { stop = 1; dynamics = raising x.dynamics }
Leads (Begin t) x y = IsBeginning x y t

-- an exchange that some steps reach, in some order
pub data Reached : Exchange → Type 0 where
  opened : Reached opening_exchange
  made : (kind : Kind) (x y : Exchange) → Reached x → Leads kind x y → Reached y
