-- What a run writes: the frames that are due, each once and in order, and then the end row.
use Rattle.std.specs.Prelude.{ℕ, ◌+◌, ◌-◌, ◌%◌, ◌==◌, Bool, ◌||◌, List, [], ◌++◌, Option, Some, None, option_and_then, if◌then◌else◌}
use Rattle.std.specs.List.{filter_map, flat_map, range_with_len}
use Rattle.dem_model.specs.SceneValue.{SceneValue}
use Rattle.dem_model.specs.Plain.{first_state, run_after, last_after}
use Rattle.dem_model.specs.Frames.{state_text, last_text}
use Rattle.dem_model.specs.declared.state.State.{State}

-- whether the frame of a state of this number is due: the first, the last, and each that `every` divides
unfoldable pub is_due : SceneValue → ℕ → Bool
is_due s n = (n % s.every == 0) || (n == s.steps)

-- the frame of a state, where it is due
unfoldable pub due_text : SceneValue → State → List ℕ
due_text s st = if is_due s st.step then state_text st else []

-- a state, where its frame is due
unfoldable pub due_state : SceneValue → State → Option State
due_state s st = if is_due s st.step then Some st else None

-- the states whose frames are due, of those that the run from a state reaches by these numbers of steps
unfoldable pub due_states : SceneValue → State → List ℕ → List State
due_states s st ns = filter_map (λ n. option_and_then (due_state s) (run_after s st n)) ns

-- the frames that are due of the run from a state, by these numbers of steps, and its end row
unfoldable pub run_text : SceneValue → State → List ℕ → List ℕ
run_text s st ns = flat_map state_text (due_states s st ns) ++ last_text (last_after s st)

-- the output of a scene: the frames of the plain run from the first on, and the end row
unfoldable pub output_of : SceneValue → List ℕ
output_of s = run_text s (first_state s) (range_with_len 0 (s.steps + 1))

-- what follows the frame of a state: the frames of the run from it, without its own, and the end row
unfoldable pub rest_of : SceneValue → State → List ℕ
rest_of s st = run_text s st (range_with_len 1 (s.steps - st.step))
