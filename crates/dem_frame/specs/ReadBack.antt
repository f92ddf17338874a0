-- The frame of a state read back as that state.
use Rattle.std.specs.Prelude.{ℕ, ◌<◌, ◌≤◌, ◌^◌, ◌≡◌, All, true, ℤ, FitsSigned, List, [], ◌∷◌, length, Option, None, Some, ⊤, Result, Ok}
use Rattle.std.specs.List.{AllByRecursion}
use mir.Syntax.{w64}
use Rattle.dem_num.specs.Vectors.{widened, Within}
use Rattle.dem_model.specs.declared.state.Body.{Body}
use Rattle.dem_model.specs.declared.state.Held.{Held}
use Rattle.dem_model.specs.declared.state.State.{State}
use Rattle.dem_model.specs.Frames.{state_text}
use Rattle.dem_frame.specs.PartialFrames.{Gives}
use Rattle.dem_frame.specs.Records.{continues}
use Rattle.dem_frame.specs.declared.partial.FrameFault.{FrameFault}

-- each of these numbers fits 64 bits with its sign
abbrev pub FitEach : List ℤ → Type 0
FitEach numbers = AllByRecursion (FitsSigned w64) numbers

-- the numbers of a body: position, velocity, quaternion, spin
abbrev pub body_numbers : Body → List ℤ
body_numbers b = b.p.x ∷ b.p.y ∷ b.p.z ∷ b.v.x ∷ b.v.y ∷ b.v.z ∷ b.q.a ∷ b.q.b ∷ b.q.c ∷ b.q.d ∷ b.w.x ∷ b.w.y ∷ b.w.z ∷ []

-- the numbers of a body fit
abbrev pub BodyFits : Body → Type 0
BodyFits b = FitEach (body_numbers b)

-- the second of a pair comes after the first, and fits 32 bits
abbrev pub IsOrdered : Held → Type 0
IsOrdered e = (e.pair.a < e.pair.b) × (e.pair.b < 2 ^ 32)

-- each component of a displacement is at most 2^40 in size
abbrev pub IsStored : Held → Type 0
IsStored e = Within (widened e.h) (2 ^ 40)

-- each pair comes after the one before it
unfoldable pub Ascends : Option Held → List Held → Type 0
Ascends last [] = ⊤
Ascends last (e ∷ es) = (continues last e.pair ≡ true) × Ascends (Some e) es

-- a state that a frame can hold
pub record IsWritable (s : State) : Type 0 where
  pub few : length s.bodies ≤ 16384
  pub step : s.step ≤ 1000000000
  pub bodies : All BodyFits s.bodies
  pub ordered : All IsOrdered s.held
  pub stored : All IsStored s.held
  pub ascending : Ascends None s.held

-- the frame of any state that a frame can hold reads back as that state
abbrev pub ReadsBack : ℕ → List ℕ → Result State FrameFault → Type 0
ReadsBack clumps text result = (s : State) → IsWritable s → text ≡ state_text s → clumps ≡ length s.bodies → Gives result (Ok s)
