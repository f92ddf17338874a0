-- Which event of the engine each atomic step of an exchange is.
use Rattle.std.specs.Prelude.{ℕ, zero, suc, ◌≡◌, true, List, [], ◌∷◌}
use Rattle.dem_model.specs.World.{Snap, Parcel, Home, Posted, Taken, Delivered, is_home, is_posted, is_taken, is_delivered, carried_by}
use Rattle.dem_model.specs.Exchange.{Exchange}
use Rattle.dem_model.specs.ExchangeSteps.{Kind, Post, Take, Deliver, Collect, DynamicsSeesTurn, DynamicsSeesStop, KinematicsSeesTurn, KinematicsSeesStop, Split, Raise, Begin}

-- the first of some snapshots; one of no bodies where there is none
abbrev pub first_snap : List Snap → Snap
first_snap [] = record { step = 0; bodies = [] }
first_snap (s ∷ ss) = s

-- the place that a turn word stands for, with this snapshot
abbrev pub place_by : ℕ → Snap → Parcel
place_by zero s = Home
place_by (suc zero) s = Posted s
place_by (suc (suc zero)) s = Taken s
place_by (suc (suc (suc n))) s = Delivered s

-- where the parcel is, by the turn word and the snapshot posted last
abbrev pub place_of : Exchange → Parcel
place_of x = place_by x.turn (first_snap x.dynamics.posted)

-- what a step does to the parcel: the first four kinds are the turns of these names, and the others leave it where it is
abbrev pub Moves : Kind → Parcel → Parcel → Type 0
Moves (Post c) p q = (is_home p ≡ true) × (q ≡ Posted c.snap)
Moves Take p q = (is_posted p ≡ true) × (q ≡ Taken (carried_by p))
Moves (Deliver c) p q = (is_taken p ≡ true) × (q ≡ Delivered (carried_by p)) × (carried_by p ≡ c.snap)
Moves Collect p q = (is_delivered p ≡ true) × (q ≡ Home)
Moves DynamicsSeesTurn p q = q ≡ p
Moves DynamicsSeesStop p q = q ≡ p
Moves KinematicsSeesTurn p q = q ≡ p
Moves KinematicsSeesStop p q = q ≡ p
Moves Split p q = q ≡ p
Moves Raise p q = q ≡ p
Moves (Begin t) p q = q ≡ p
