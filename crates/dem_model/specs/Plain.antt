-- The run from a state, by how many steps it has made, and how it ends; the plain run is that of the first state.
use Rattle.std.specs.Prelude.{ℕ, zero, suc, ◌-◌, List, [], ◌∷◌, map, Option, Some, None, nat_lt, option_and_then, if◌then◌else◌}
use Rattle.std.specs.List.{filter_map, range_with_len}
use Rattle.std.specs.Result.{result_ok, result_err}
use Rattle.dem_model.specs.SceneValue.{SceneValue}
use Rattle.dem_model.specs.Step.{step_of}
use Rattle.dem_model.specs.declared.state.Clump.{Clump}
use Rattle.dem_model.specs.declared.state.End.{End}
use Rattle.dem_model.specs.declared.state.Last.{Last}
use Rattle.dem_model.specs.declared.state.Last.TheVariants.{Done, Passed}
use Rattle.dem_model.specs.declared.state.State.{State}

-- the state after a state, where the run goes on from it
unfoldable pub state_after : SceneValue → State → Option State
state_after s st = if nat_lt st.step s.steps then result_ok (step_of s st) else None

-- the state that the run from a state reaches by so many steps, as far as it gets
unfoldable pub run_after : SceneValue → State → ℕ → Option State
run_after s st zero = Some st
run_after s st (suc n) = option_and_then (state_after s) (run_after s st n)

-- the limit that the next step passes when the run from a state has made so many
unfoldable pub end_after : SceneValue → State → ℕ → Option End
end_after s st n = option_and_then (λ (x : State). result_err (step_of s x)) (run_after s st n)

-- the first of some ends, or else that all steps are done
abbrev pub last_among : ℕ → List End → Last
last_among steps [] = Done steps
last_among steps (e ∷ es) = Passed e

-- how the run from a state ends: at the limit that one of its steps passes, or with the scene's last step
unfoldable pub last_after : SceneValue → State → Last
last_after s st = last_among s.steps (filter_map (end_after s st) (range_with_len 0 (s.steps - st.step)))

-- the state in which a scene's run starts: the scene's bodies, and nothing held
unfoldable pub first_state : SceneValue → State
first_state s = record { step = 0; bodies = map (λ (c : Clump). c.body) s.clumps; held = [] }

-- the states of the plain run by number, as far as it gets
unfoldable pub plain_at : SceneValue → ℕ → Option State
plain_at s n = run_after s (first_state s) n

-- the limit that the step from the state of this number passes
unfoldable pub end_at : SceneValue → ℕ → Option End
end_at s n = end_after s (first_state s) n

-- how the plain run ends
unfoldable pub last_of : SceneValue → Last
last_of s = last_after s (first_state s)
