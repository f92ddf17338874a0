-- A source or a sink before and after a call: what happens to its bytes, and to its count of faults.
use Rattle.std.specs.Prelude.{◌≡◌, ℕ, ◌+◌, ◌≤◌, List, length, Option}
use Rattle.std.specs.Io.KnownBytes.{Appends, Consumes, Keeps}
use Rattle.dem_outside.specs.Faults.{Rose}
use Rattle.dem_outside.specs.Known.{AppendsPrefix}

-- a source or a sink at one moment
pub record Stream : Type 0 where
  -- the bytes that are left, or held, where it tells them
  pub bytes : Option (List ℕ)
  -- how many reads or puts have failed
  pub faults : ℕ

-- a source or a sink before a call and after it
pub record Change : Type 0 where
  pub before : Stream
  pub after : Stream

-- the change of a value whose bytes and faults are told so
abbrev pub change : {A : Type 0} → (A → Option (List ℕ)) → (A → ℕ) → A → A → Change
change bytes faults old new = record { before = record { bytes = bytes old; faults = faults old }; after = record { bytes = bytes new; faults = faults new } }

-- it holds what it held, or has left what it had
abbrev pub IsKept : Change → Type 0
IsKept c = Keeps c.before.bytes c.after.bytes

-- a sink gained this text
abbrev pub Gains : Change → List ℕ → Type 0
Gains c text = Appends c.before.bytes c.after.bytes text

-- a sink gained a prefix of this text
abbrev pub GainsPrefix : Change → List ℕ → Type 0
GainsPrefix c text = AppendsPrefix c.before.bytes c.after.bytes text

-- a source lost at most so many bytes, and those from its beginning
abbrev pub LosesAtMost : ℕ → Change → Type 0
LosesAtMost n c = (taken : List ℕ) × Consumes c.before.bytes c.after.bytes taken × (length taken ≤ n)

-- no fault was counted
abbrev pub IsCalm : Change → Type 0
IsCalm c = c.after.faults ≡ c.before.faults

-- a fault was counted
abbrev pub Fails : Change → Type 0
Fails c = Rose c.before.faults c.after.faults
