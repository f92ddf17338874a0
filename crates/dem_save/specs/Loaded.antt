-- Reading a saved frame of a scene: the state that its rows are, where a run of the scene may go on from it, or the first fault.
use Rattle.std.specs.Prelude.{ℕ, Bool, true, false, not, ◌&&◌, List, length, find, nat_lt, if◌then◌else◌, Option, Result, Ok, Err}
use Rattle.std.specs.List.{position, range_with_len}
use Rattle.std.specs.Option.{option_map_or}
use Rattle.dem_model.specs.SceneValue.{SceneValue}
use Rattle.dem_model.specs.Centers.{body_at}
use Rattle.dem_model.specs.Pairs.{sphere_count, limit_of, apart}
use Rattle.dem_model.specs.ReadingScene.{in_limits, is_inside}
use Rattle.dem_model.specs.ReadingVectors.{is_long}
use Rattle.dem_model.specs.Spheres.{balls_of}
use Rattle.dem_model.specs.Step.{clump_at}
use Rattle.dem_model.specs.declared.state.Body.{Body}
use Rattle.dem_model.specs.declared.state.Clump.{Clump}
use Rattle.dem_model.specs.declared.state.Held.{Held}
use Rattle.dem_model.specs.declared.state.Pair.{Pair}
use Rattle.dem_model.specs.declared.state.State.{State}
use Rattle.dem_frame.specs.Gives.{GivesUnless}
use Rattle.dem_frame.specs.PartialFrames.{frame_of}
use Rattle.dem_frame.specs.declared.partial.FrameFault.{FrameFault}
use Rattle.dem_frame.specs.declared.partial.FrameFault.TheVariants as frames
use Rattle.dem_save.specs.declared.fault.SaveFault.{SaveFault}
use Rattle.dem_save.specs.declared.fault.SaveFault.TheVariants as saves

-- ---- what a state of the scene is like

-- whether a body is sound for a clump: within the limits, of a length that turns, and inside the box with the center of each sphere
unfoldable pub is_body_of : SceneValue → Clump → Body → Bool
is_body_of s c b = in_limits s b && (is_long b.q && is_inside s b (balls_of s.templates c.t))

-- the first clump whose body isn't sound for it
unfoldable pub unsound_in : SceneValue → List Body → Option ℕ
unsound_in s bodies = find (λ k. not (is_body_of s (clump_at s k) (body_at bodies k))) (range_with_len 0 (length s.clumps))

-- whether a pair is one of all pairs that may touch
unfoldable pub is_pair : SceneValue → Pair → Bool
is_pair s p = nat_lt p.a (sphere_count s) && (nat_lt p.b (limit_of s) && apart s p)

-- the first place of what is held, from 0, whose pair may not touch
unfoldable pub stray_in : SceneValue → List Held → Option ℕ
stray_in s held = position (λ (e : Held). not (is_pair s e.pair)) held

-- ---- the whole

-- a state, where a run of the scene may go on from it; or what is wrong first: its step, a body, a pair that is held
unfoldable pub checked_of : SceneValue → State → Result State SaveFault
checked_of s st =
    if nat_lt s.steps st.step then Err saves.Step
    else option_map_or (λ k. Err (saves.Body k)) (unsound_in s st.bodies) (option_map_or (λ i. Err (saves.Held i)) (stray_in s st.held) (Ok st))

-- a fault of a frame, as one of what was saved
abbrev pub fault_of : FrameFault → SaveFault
fault_of (frames.Bad row) = saves.Bad row
fault_of (frames.Short rows) = saves.Short rows
fault_of frames.OutOfMemory = saves.OutOfMemory

-- the state of a frame, checked; or why it is no frame
abbrev pub then_checked : SceneValue → Result State FrameFault → Result State SaveFault
then_checked s (Ok st) = checked_of s st
then_checked s (Err fault) = Err (fault_of fault)

-- the state that these bytes are as a frame of the scene, checked; or the first fault: of the rows, then of the state
unfoldable pub loaded_of : SceneValue → List ℕ → Result State SaveFault
loaded_of s bytes = then_checked s (frame_of (length s.clumps) bytes)

-- ---- what an answer tells

-- whether a fault is want of memory, which tells nothing of the frame
abbrev pub is_memory : SaveFault → Bool
is_memory saves.OutOfMemory = true
is_memory fault = false

-- the answer is that of the definition, unless there was no memory
abbrev pub Gives : Result State SaveFault → Result State SaveFault → Type 0
Gives = GivesUnless is_memory
