-- The states that are due of a run, by the steps that are left.
use Rattle.std.proofs.Common.{◌≡◌, ℕ, zero, suc, ◌+◌, List, [], None, Some, Result, Ok, Err, refl, ap, ◌∙◌, add-one, arith}
use Rattle.std.specs.Prelude.{option_and_then}
use Rattle.std.specs.List.{filter_map, range_with_len, cons_option}
use Rattle.dem_model.specs.SceneValue.{SceneValue}
use Rattle.dem_model.specs.Step.{step_of}
use Rattle.dem_model.specs.Plain.{first_state, run_after}
use Rattle.dem_model.specs.Output.{due_state, due_states}
use Rattle.dem_model.specs.declared.state.State.{State}
use Rattle.dem_model.specs.declared.state.End.{End}
use Rattle.dem_output.proofs.RunLaw.{by_step, step_of-step, begins-at, run_after-next}
use Rattle.dem_output.proofs.WholeFacts.{first-step}

-- the states that are due in this many more steps
unfoldable pub dues_from : SceneValue → ℕ → State → List State
dues_from s zero st = []
dues_from s (suc k) st = by_step (λ next. cons_option (due_state s next) (dues_from s k next)) (λ _. []) (step_of s st)

-- no state after none
run_after-none : (s : SceneValue) (start : State) (n : ℕ) → run_after s start n ≡ None → run_after s start (n + 1) ≡ None
unfolding run_after
run_after-none s start n none = rw (add-one, none)

-- none is due after no state
dues-none : (s : SceneValue) (start : State) (k n : ℕ) → run_after s start n ≡ None → due_states s start (range_with_len n k) ≡ []
unfolding due_states
dues-none s start zero n none = refl
dues-none s start (suc k) n none =
    ap (λ o. cons_option (option_and_then (due_state s) o) (filter_map (λ m. option_and_then (due_state s) (run_after s start m)) (range_with_len (n + 1) k))) none
    ∙ dues-none s start k (n + 1) (run_after-none s start n none)

dues-step : (s : SceneValue) (start : State) (k n : ℕ) (r : Result State End) → run_after s start (n + 1) ≡ by_step Some (λ _. None) r
    → ((next : State) → r ≡ Ok next → run_after s start (n + 1) ≡ Some next → due_states s start (range_with_len (n + 1 + 1) k) ≡ dues_from s k next)
    → due_states s start (range_with_len (n + 1) (suc k)) ≡ by_step (λ next. cons_option (due_state s next) (dues_from s k next)) (λ _. []) r
unfolding due_states
dues-step s start k n (Ok next) here others =
    ap (λ o. cons_option (option_and_then (due_state s) o) (filter_map (λ m. option_and_then (due_state s) (run_after s start m)) (range_with_len (n + 1 + 1) k))) here
    ∙ ap (cons_option (due_state s next)) (others next refl here)
dues-step s start k n (Err e) here others = dues-none s start (suc k) (n + 1) here

-- the states that are due behind a state are those of the steps that are left
pub dues-left : (s : SceneValue) (start : State) (k n : ℕ) (st : State) → run_after s start n ≡ Some st → st.step + k ≡ s.steps
    → due_states s start (range_with_len (n + 1) k) ≡ dues_from s k st
unfolding due_states dues_from
dues-left s start zero n st here left = refl
dues-left s start (suc k) n st here left =
    dues-step s start k n (step_of s st) (run_after-next s start n st (omega arith) here)
    (λ next e there. dues-left s start k (n + 1) next there (omega (arith, step_of-step s st next e)))

-- the states that are due of a whole run: the first, where it is, and those of all steps
pub dues-first : (s : SceneValue) → due_states s (first_state s) (range_with_len 0 (s.steps + 1)) ≡ cons_option (due_state s (first_state s)) (dues_from s s.steps (first_state s))
unfolding due_states run_after
dues-first s =
    ap (λ k. due_states s (first_state s) (range_with_len 0 k)) (add-one s.steps)
    ∙ ap (cons_option (due_state s (first_state s))) (dues-left s (first_state s) s.steps 0 (first_state s) (begins-at s (first_state s)) (omega (arith, first-step s)))

-- after a step
pub dues-next : (s : SceneValue) (k : ℕ) (st next : State) → step_of s st ≡ Ok next → dues_from s (suc k) st ≡ cons_option (due_state s next) (dues_from s k next)
unfolding dues_from
dues-next s k st next e = ap (by_step (λ (x : State). cons_option (due_state s x) (dues_from s k x)) (λ _. [])) e

-- after the last step that passes no limit
pub dues-end : (s : SceneValue) (k : ℕ) (st : State) (e : End) → step_of s st ≡ Err e → dues_from s (suc k) st ≡ []
unfolding dues_from
dues-end s k st e passed = ap (by_step (λ (x : State). cons_option (due_state s x) (dues_from s k x)) (λ _. [])) passed

-- with no step left
pub dues-done : (s : SceneValue) (st : State) → dues_from s zero st ≡ []
unfolding dues_from
dues-done s st = refl
