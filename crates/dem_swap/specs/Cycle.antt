-- The table of an exchange as plain data, the rule that it keeps, and what each step tells the side that makes it.
use Rattle.std.specs.Prelude.{ℕ, ◌≡◌, ◌≢◌, List, [], ◌∷◌, Option, Some, None}
use mathlib.Core.Option.{Option as Home, none, some}
use Rattle.atomic_table.specs.Table.{State, Me, Step}
use Rattle.dem_shape.specs.declared.snapshot.Snapshot.{Snapshot}
use Rattle.dem_swap.specs.declared.known.View.{View}
use Rattle.dem_swap.specs.declared.known.View.TheVariants.{OfDynamics, OfKinematics}
use Rattle.dem_swap.specs.declared.parcel.Parcel.{Parcel}
use Rattle.dem_model.specs.World.{Snap}
use Rattle.dem_model.specs.Exchange.{Terms, Cargo, Slot, Away, Empty, Full, DynamicsView, KinematicsView, Exchange, Follows, IsSoundFor, IsAnswer, IsPostedLast}
use Rattle.dem_model.specs.ExchangeKinds.{HoldsNone, posting, taking, delivering, collecting, dynamics_looking, kinematics_looking, kinematics_checking, accompanied, beside, raising, beginning, newcomer}

-- a snapshot as plain data
abbrev pub snap_of : Snapshot → Snap
snap_of s = record { step = s.step; bodies = s.bodies }

-- a parcel as plain data
abbrev pub cargo_of : Parcel → Cargo
cargo_of p = record { snap = snap_of p.snap; from = p.list.from; pairs = p.list.pairs; refused = p.refused }

-- the slot, by what lies at home
abbrev pub slot_of : Home (Option Parcel) → Slot
slot_of none = Away
slot_of (some None) = Empty
slot_of (some (Some p)) = Full (cargo_of p)

-- what kinematics knows, where it is there
abbrev pub others : Option KinematicsView → List View
others None = []
others (Some k) = OfKinematics k ∷ []

-- the table of an exchange: the turn word and the stop word, one slot, what dynamics knows and what kinematics knows
abbrev pub table_of : ℕ → ℕ → Home (Option Parcel) → DynamicsView → Option KinematicsView → State (Option Parcel) View
table_of turn stop home d k = record { words = turn ∷ stop ∷ []; homes = home ∷ []; views = OfDynamics d ∷ others k }

-- the exchange of a table
abbrev pub exchange_of : ℕ → ℕ → Home (Option Parcel) → DynamicsView → Option KinematicsView → Exchange
exchange_of turn stop home d k = record { turn = turn; stop = stop; slot = slot_of home; dynamics = d; kinematics = k }

-- the table is that of an exchange that follows the rule
pub record KeepsCycle (s : State (Option Parcel) View) : Type 0 where
  pub turn : ℕ
  pub stop : ℕ
  pub home : Home (Option Parcel)
  pub dynamics : DynamicsView
  pub kinematics : Option KinematicsView
  pub table : s ≡ table_of turn stop home dynamics kinematics
  pub follows : Follows (exchange_of turn stop home dynamics kinematics)

-- what dynamics knows, of its own view
abbrev pub dynamics_in : View → DynamicsView
dynamics_in (OfDynamics d) = d
dynamics_in (OfKinematics k) = newcomer

-- what kinematics knows, of its own view
abbrev pub kinematics_in : View → KinematicsView
kinematics_in (OfDynamics d) = beside d
kinematics_in (OfKinematics k) = k

-- what a side knows, and the slot where it holds it
abbrev pub Side : Type 0
Side = Me (Option Parcel) View

-- the slot is held, with this in it, above what else is held
abbrev pub held_with : Option Parcel → List (ℕ × Option Parcel) → List (ℕ × Option Parcel)
held_with content rest = (0, content) ∷ rest

-- a step at the turn word to 1 posts the parcel that lies in the held slot
abbrev pub Posts : Step (Option Parcel) → Side → ℕ → Side → Type 0
Posts st m r n = (p : Parcel) → m.1 ≡ held_with (Some p) [] → n ≡ (OfDynamics (posting (dynamics_in m.0) (snap_of p.snap)), [])

-- a step at the turn word from 1 takes a parcel with a sound snapshot; where it read another number, that is a look
abbrev pub Takes : Step (Option Parcel) → Side → ℕ → Side → Type 0
Takes st m r n =
    (r ≡ 1 → (p : Parcel) × (n ≡ (OfKinematics (taking (kinematics_in m.0) (snap_of p.snap)), held_with (Some p) m.1)) × HoldsNone (kinematics_in m.0) × IsSoundFor (kinematics_in m.0).terms (snap_of p.snap))
    × (r ≢ 1 → n ≡ (OfKinematics (kinematics_looking (kinematics_in m.0) r), m.1))

-- a step at the turn word to 3 delivers the parcel that lies in the held slot
abbrev pub Delivers : Step (Option Parcel) → Side → ℕ → Side → Type 0
Delivers st m r n = n ≡ (OfKinematics (delivering (kinematics_in m.0)), [])

-- a step at the turn word from 3 collects a parcel that answers the snapshot posted last; where it read another number, that is a look
abbrev pub Collects : Step (Option Parcel) → Side → ℕ → Side → Type 0
Collects st m r n =
    (r ≡ 3 → (p : Parcel) × (n ≡ (OfDynamics (collecting (dynamics_in m.0)), held_with (Some p) m.1)) × IsPostedLast (dynamics_in m.0) (snap_of p.snap) × IsAnswer (dynamics_in m.0).terms (cargo_of p))
    × (r ≢ 3 → n ≡ (OfDynamics (dynamics_looking (dynamics_in m.0) r), m.1))

-- a look at the stop word
abbrev pub Checks : Step (Option Parcel) → Side → ℕ → Side → Type 0
Checks st m r n = n ≡ (OfKinematics (kinematics_checking (kinematics_in m.0) r), m.1)

-- a step at the stop word to 1
abbrev pub Raises : Step (Option Parcel) → Side → ℕ → Side → Type 0
Raises st m r n = n ≡ (OfDynamics (raising (dynamics_in m.0)), m.1)

-- a load of the turn word by which dynamics comes to know the terms, and takes the slot
abbrev pub Begins : Terms → Step (Option Parcel) → Side → ℕ → Side → Type 0
Begins t st m r n = n ≡ (OfDynamics (beginning (dynamics_in m.0) t), held_with None [])

-- what dynamics knows once it has company
abbrev pub left_of : View → View
left_of v = OfDynamics (accompanied (dynamics_in v))

-- what kinematics knows at first
abbrev pub right_of : View → View
right_of v = OfKinematics (beside (dynamics_in v))
