-- The eight kinds of step of an exchange: when each may be made, and what it changes.
use Rattle.std.specs.Prelude.{ℕ, ◌+◌, ◌≡◌, true, false, [], ◌∷◌, length, Some, None}
use Rattle.dem_model.specs.World.{Snap}
use Rattle.dem_model.specs.Exchange.{Terms, Empty, Looks, DynamicsView, KinematicsView, Exchange}

-- no look was made
abbrev pub no_looks : Looks
no_looks = record { turn_looks = 0; stop_looks = 0; saw_turn = 0; saw_stop = 0 }

-- one more look at the turn word, which read this number
abbrev pub turn_seen : Looks → ℕ → Looks
turn_seen l n = record { turn_looks = l.turn_looks + 1; stop_looks = l.stop_looks; saw_turn = n; saw_stop = l.saw_stop }

-- one more look at the stop word, which read this number
abbrev pub stop_seen : Looks → ℕ → Looks
stop_seen l n = record { turn_looks = l.turn_looks; stop_looks = l.stop_looks + 1; saw_turn = l.saw_turn; saw_stop = n }

-- dynamics holds the parcel: it collected all that it posted
abbrev pub HoldsHome : DynamicsView → Type 0
HoldsHome d = length d.posted ≡ d.collected

-- a parcel of dynamics is out: one was posted that wasn't collected
abbrev pub HasPosted : DynamicsView → Type 0
HasPosted d = length d.posted ≡ d.collected + 1

-- kinematics holds no parcel: it delivered all that it took
abbrev pub HoldsNone : KinematicsView → Type 0
HoldsNone k = k.taken ≡ k.delivered

-- kinematics holds a parcel with this snapshot: it took one that it hasn't delivered
pub record HoldsTaken (k : KinematicsView) (s : Snap) : Type 0 where
  pub one : k.taken ≡ k.delivered + 1
  pub copy_is : k.copy ≡ Some s

-- 1 post: the snapshot joins the posted ones
abbrev pub posting : DynamicsView → Snap → DynamicsView
posting d s = record d { posted = s ∷ d.posted }

-- 2 take: taken grows by one, and a copy of the snapshot is kept
abbrev pub taking : KinematicsView → Snap → KinematicsView
taking k s = record k { taken = k.taken + 1; copy = Some s }

-- 3 deliver: delivered grows by one
abbrev pub delivering : KinematicsView → KinematicsView
delivering k = record k { delivered = k.delivered + 1 }

-- 4 collect: collected grows by one
abbrev pub collecting : DynamicsView → DynamicsView
collecting d = record d { collected = d.collected + 1 }

-- 5 look of dynamics: at the turn word
abbrev pub dynamics_looking : DynamicsView → ℕ → DynamicsView
dynamics_looking d n = record d { looks = turn_seen d.looks n }

-- 5 look of dynamics: at the stop word
abbrev pub dynamics_checking : DynamicsView → ℕ → DynamicsView
dynamics_checking d n = record d { looks = stop_seen d.looks n }

-- 5 look of kinematics: at the turn word
abbrev pub kinematics_looking : KinematicsView → ℕ → KinematicsView
kinematics_looking k n = record k { looks = turn_seen k.looks n }

-- 5 look of kinematics: at the stop word
abbrev pub kinematics_checking : KinematicsView → ℕ → KinematicsView
kinematics_checking k n = record k { looks = stop_seen k.looks n }

-- 6 split: dynamics is no longer alone
abbrev pub accompanied : DynamicsView → DynamicsView
accompanied d = record d { alone = false }

-- 6 split: kinematics begins with the terms, nothing taken, no copy, no look
abbrev pub beside : DynamicsView → KinematicsView
beside d = record { terms = d.terms; taken = 0; delivered = 0; copy = None; looks = no_looks }

-- 7 raise: dynamics raised the stop
abbrev pub raising : DynamicsView → DynamicsView
raising d = record d { raised = true }

-- 8 begin: dynamics knows the terms
abbrev pub beginning : DynamicsView → Terms → DynamicsView
beginning d t = record d { terms = Some t }

-- dynamics before it begins: alone, without terms, nothing posted, raised or seen
abbrev pub newcomer : DynamicsView
newcomer = record { terms = None; posted = []; collected = 0; alone = true; raised = false; looks = no_looks }

-- the exchange before it begins: both words 0, the slot at home without a parcel, dynamics alone
abbrev pub opening_exchange : Exchange
opening_exchange = record { turn = 0; stop = 0; slot = Empty; dynamics = newcomer; kinematics = None }

-- the sides of a new exchange, after it began and was split: nothing posted, taken, raised or seen
abbrev pub first_dynamics : Terms → DynamicsView
first_dynamics t = accompanied (beginning newcomer t)

-- kinematics of a new exchange
abbrev pub first_kinematics : Terms → KinematicsView
first_kinematics t = beside (beginning newcomer t)
