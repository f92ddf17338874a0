-- The exchange between the two threads: what each side knows, the rule that always holds, and what each kind of step changes.
use Rattle.std.specs.Prelude.{ℕ, zero, suc, ◌+◌, ◌≡◌, ◌⊎◌, Bool, true, false, List, [], ◌∷◌, length, slice_get, Option, Some, None, IfSome, if◌then◌else◌}
use Rattle.dem_model.specs.SceneValue.{SceneValue}
use Rattle.dem_model.specs.Centers.{centers_of}
use Rattle.dem_model.specs.Motion.{AreSound}
use Rattle.dem_model.specs.Near.{near_of}
use Rattle.dem_model.specs.World.{Snap}
use Rattle.dem_model.specs.declared.state.Pair.{Pair}

-- what an exchange is made for: a scene, and the drift limit of its lists
pub record Terms : Type 0 where
  pub scene : SceneValue
  pub drift : ℕ

-- the terms of a scene and a drift limit
abbrev pub terms_of : SceneValue → ℕ → Terms
terms_of s drift = record { scene = s; drift = drift }

-- what travels: a snapshot, a list of pairs with the step that it was made from, and whether the list was refused
pub record Cargo : Type 0 where
  pub snap : Snap
  pub from : ℕ
  pub pairs : List Pair
  pub refused : Bool

-- the slot: out with a side, at home without a parcel, or at home with one
pub data Slot : Type 0 where
  Away : Slot
  Empty : Slot
  Full : Cargo → Slot

-- how often a side looked at the turn word and at the stop word, and what its last look at each read
pub record Looks : Type 0 where
  pub turn_looks : ℕ
  pub stop_looks : ℕ
  pub saw_turn : ℕ
  pub saw_stop : ℕ

-- what dynamics knows: the terms, the snapshots posted with the last one first, how many parcels it collected, whether it is alone, whether it raised the stop, its looks
pub record DynamicsView : Type 0 where
  pub terms : Option Terms
  pub posted : List Snap
  pub collected : ℕ
  pub alone : Bool
  pub raised : Bool
  pub looks : Looks

-- what kinematics knows: the terms, how many parcels it took and delivered, the snapshot taken last, its looks
pub record KinematicsView : Type 0 where
  pub terms : Option Terms
  pub taken : ℕ
  pub delivered : ℕ
  pub copy : Option Snap
  pub looks : Looks

-- an exchange at a moment: the turn word, the stop word, the slot, and what the sides know
pub record Exchange : Type 0 where
  pub turn : ℕ
  pub stop : ℕ
  pub slot : Slot
  pub dynamics : DynamicsView
  pub kinematics : Option KinematicsView

-- a snapshot is sound for the terms: its bodies are sound for the scene
abbrev pub IsSoundFor : Option Terms → Snap → Type 0
IsSoundFor None s = ⊥
IsSoundFor (Some t) s = AreSound t.scene s.bodies

-- a list is near of a snapshot: it was made from its step, and has exactly the near pairs of its centers
pub record IsNearOf (t : Terms) (s : Snap) (from : ℕ) (pairs : List Pair) : Type 0 where
  pub from_is : from ≡ s.step
  pub pairs_are : pairs ≡ near_of t.scene t.drift (centers_of t.scene s.bodies)

-- a list is near of a snapshot by the terms
abbrev pub IsNearFor : Option Terms → Snap → ℕ → List Pair → Type 0
IsNearFor None s from pairs = ⊥
IsNearFor (Some t) s from pairs = IsNearOf t s from pairs

-- a parcel is an answer: its list is near of its snapshot, or it was refused
abbrev pub IsAnswer : Option Terms → Cargo → Type 0
IsAnswer terms c = (c.refused ≡ true) ⊎ IsNearFor terms c.snap c.from c.pairs

-- each of these snapshots is sound
abbrev pub AreSoundFor : Option Terms → List Snap → Type 0
AreSoundFor terms [] = Unit {0}
AreSoundFor terms (s ∷ ss) = IsSoundFor terms s × AreSoundFor terms ss

-- the snapshot is the one that dynamics posted last
abbrev pub IsPostedLast : DynamicsView → Snap → Type 0
IsPostedLast d s = slice_get d.posted 0 ≡ Some s

-- the slot is at home with a parcel of which this holds
abbrev pub HasParcel : Slot → (Cargo → Type 0) → Type 0
HasParcel Away holds = ⊥
HasParcel Empty holds = ⊥
HasParcel (Full c) holds = holds c

-- a parcel in the slot at home has a sound snapshot
abbrev pub IsSoundSlot : Option Terms → Slot → Type 0
IsSoundSlot terms Away = Unit {0}
IsSoundSlot terms Empty = Unit {0}
IsSoundSlot terms (Full c) = IsSoundFor terms c.snap

-- so many more were posted, taken and delivered than were collected
abbrev pub Counts : DynamicsView → KinematicsView → ℕ → ℕ → ℕ → Type 0
Counts d k posted taken delivered = (length d.posted ≡ d.collected + posted) × (k.taken ≡ d.collected + taken) × (k.delivered ≡ d.collected + delivered)

-- kinematics has a copy of the snapshot posted last
abbrev pub HasCopy : DynamicsView → KinematicsView → Type 0
HasCopy d k = (s : Snap) × (k.copy ≡ Some s) × IsPostedLast d s

-- where the parcel is, by the turn word: 0 with dynamics, 1 posted, 2 with kinematics, 3 delivered; no other number
abbrev pub Turns : ℕ → Slot → DynamicsView → KinematicsView → Type 0
Turns zero slot d k = Counts d k 0 0 0 × (slot ≡ Away)
Turns (suc zero) slot d k = Counts d k 1 0 0 × HasParcel slot (λ c. IsPostedLast d c.snap)
Turns (suc (suc zero)) slot d k = Counts d k 1 1 0 × (slot ≡ Away) × HasCopy d k
Turns (suc (suc (suc zero))) slot d k = Counts d k 1 1 1 × HasParcel slot (λ c. IsPostedLast d c.snap × IsAnswer d.terms c)
Turns (suc (suc (suc (suc n)))) slot d k = ⊥

-- the slot while dynamics is alone: at home without a parcel until the terms are known, and then with dynamics
abbrev pub slot_alone : Option Terms → Slot
slot_alone None = Empty
slot_alone (Some t) = Away

-- a look that read 1 at the stop word read what still stands there
abbrev pub HasSeen : Looks → ℕ → Type 0
HasSeen looks stop = looks.saw_stop ≡ 1 → stop ≡ 1

-- dynamics is alone: nothing was posted, and the turn word is 0
pub record IsAlone (turn : ℕ) (slot : Slot) (d : DynamicsView) : Type 0 where
  pub alone : d.alone ≡ true
  pub turn_is : turn ≡ 0
  pub none_posted : d.posted ≡ []
  pub none_collected : d.collected ≡ 0
  pub slot_is : slot ≡ slot_alone d.terms

-- the two sides: the same terms, sound snapshots in the slot and in the copy, no copy before the first take, and the parcel by the turn word
pub record IsPaired (turn stop : ℕ) (slot : Slot) (d : DynamicsView) (k : KinematicsView) : Type 0 where
  pub alone : d.alone ≡ false
  pub terms_are : k.terms ≡ d.terms
  pub slot_sound : IsSoundSlot d.terms slot
  pub copy_sound : IfSome k.copy (IsSoundFor d.terms)
  pub no_copy : k.taken ≡ 0 → k.copy ≡ None
  pub saw_stop : HasSeen k.looks stop
  pub turns : Turns turn slot d k

-- dynamics alone, or both sides
abbrev pub FollowsWith : ℕ → ℕ → Slot → DynamicsView → Option KinematicsView → Type 0
FollowsWith turn stop slot d None = IsAlone turn slot d
FollowsWith turn stop slot d (Some k) = IsPaired turn stop slot d k

-- the rule of the exchange: the stop word is 1 exactly where dynamics raised it, what was posted is sound, and the sides agree
pub record Follows (x : Exchange) : Type 0 where
  pub stop_is : x.stop ≡ (if x.dynamics.raised then 1 else 0)
  pub saw_stop : HasSeen x.dynamics.looks x.stop
  pub posted_sound : AreSoundFor x.dynamics.terms x.dynamics.posted
  pub sides : FollowsWith x.turn x.stop x.slot x.dynamics x.kinematics
