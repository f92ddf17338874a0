-- A frame as far as it was read: record after record.
use Rattle.std.specs.Prelude.{ℕ, ◌-◌, ◌+◌, ◌++◌, Bool, true, false, List, [], ◌∷◌, length, nat_lt, if◌then◌else◌, Option, None, Some, option_map, ok_or, slice_get, Result, Err}
use Rattle.std.specs.Option.{option_map_or}
use Rattle.csv.specs.Reading.{default_config, records, strip_bom}
use Rattle.dem_model.specs.declared.state.State.{State}
use Rattle.dem_model.specs.declared.state.Held.{Held}
use Rattle.dem_frame.specs.Gives.{GivesUnless}
use Rattle.dem_frame.specs.Records.{head_of, clump_of, pair_of}
use Rattle.dem_frame.specs.declared.partial.PartialFrame.{PartialFrame}
use Rattle.dem_frame.specs.declared.partial.FrameFault.{FrameFault}
use Rattle.dem_frame.specs.declared.partial.FrameFault.TheVariants.{Bad, Short, OutOfMemory}

-- nothing was read yet
abbrev pub nothing_read : PartialFrame
nothing_read = record { step = None; bodies = []; held = [] }

-- the last pair that was read
abbrev pub last_held : List Held → Option Held
last_held held = slice_get held (length held - 1)

-- a clump's record while clumps are missing, and then a pair's
unfoldable pub with_body : ℕ → PartialFrame → List (List ℕ) → Option PartialFrame
with_body clumps frame fields =
    if nat_lt (length frame.bodies) clumps
    then option_map (λ b. record frame { bodies = frame.bodies ++ b ∷ [] }) (clump_of (length frame.bodies) fields)
    else option_map (λ e. record frame { held = frame.held ++ e ∷ [] }) (pair_of (last_held frame.held) fields)

-- the head's record first
unfoldable pub with_head : ℕ → PartialFrame → Option ℕ → List (List ℕ) → Option PartialFrame
with_head clumps frame None fields = option_map (λ n. record frame { step = Some n }) (head_of fields)
with_head clumps frame (Some n) fields = with_body clumps frame fields

-- what was read with one more record, where a good frame has it there
abbrev pub with_record : ℕ → PartialFrame → List (List ℕ) → Option PartialFrame
with_record clumps frame fields = with_head clumps frame frame.step fields

-- the state, where neither the head nor a clump is missing
unfoldable pub whole_frame : ℕ → PartialFrame → Option State
whole_frame clumps frame =
    if nat_lt (length frame.bodies) clumps then None
    else option_map (λ n. record { step = n; bodies = frame.bodies; held = frame.held }) frame.step

-- the state that these records give, behind so many that were read; or the first of them that no good frame has there, or how many there are where something is missing
unfoldable pub frame_from : ℕ → ℕ → PartialFrame → List (List (List ℕ)) → Result State FrameFault
frame_from clumps before frame [] = ok_or (whole_frame clumps frame) (Short before)
frame_from clumps before frame (row ∷ rows) =
    option_map_or (λ next. frame_from clumps (before + 1) next rows) (with_record clumps frame row) (Err (Bad (before + 1)))

-- the state that a text is, as a frame of so many clumps, or why it is none
unfoldable pub frame_of : ℕ → List ℕ → Result State FrameFault
frame_of clumps text = frame_from clumps 0 nothing_read (records default_config (strip_bom text))

-- whether a fault is want of memory, which tells nothing of the text
abbrev pub is_memory : FrameFault → Bool
is_memory OutOfMemory = true
is_memory fault = false

-- the answer is that of the definition, unless there was no memory
abbrev pub Gives : Result State FrameFault → Result State FrameFault → Type 0
Gives = GivesUnless is_memory
