-- A run from its beginning on, by the steps that are left: the frames that are still due, and how it ends.
use Rattle.std.proofs.Common.{◌≡◌, ℕ, zero, suc, ◌+◌, ◌-◌, ◌<◌, ◌≤◌, true, false, List, [], ◌∷◌, ◌++◌, Option, None, Some, Result, Ok, Err, refl, ap, ◌∙◌, add-one, arith}
use Rattle.std.specs.Prelude.{if◌then◌else◌, option_and_then}
use Rattle.std.specs.List.{flat_map, filter_map, range_with_len, cons_option}
use Rattle.std.specs.Option.{option_map_or}
use Rattle.std.specs.Result.{result_ok, result_err}
use Rattle.std.proofs.lemmas.Bool.{lt-ltb}
use Rattle.dem_model.specs.SceneValue.{SceneValue}
use Rattle.dem_model.specs.Step.{Meeting, step_of, step_with, state_with}
use Rattle.dem_model.specs.Plain.{state_after, run_after, end_after, last_among, last_after}
use Rattle.dem_model.specs.Frames.{state_text, last_text}
use Rattle.dem_model.specs.Output.{due_text, due_state, due_states, is_due, run_text, rest_of}
use Rattle.dem_model.specs.declared.state.Body.{Body}
use Rattle.dem_model.specs.declared.state.State.{State}
use Rattle.dem_model.specs.declared.state.End.{End}
use Rattle.dem_model.specs.declared.state.Last.{Last}
use Rattle.dem_model.specs.declared.state.Last.TheVariants.{Done, Passed}

-- ---- what is left of a run

-- by what a step leads to: the next state, or the end
abbrev pub by_step : {A : Type 0} → (State → A) → (End → A) → Result State End → A
by_step go stop (Ok next) = go next
by_step go stop (Err e) = stop e

-- the frames that are due in this many more steps
unfoldable pub frames_from : SceneValue → ℕ → State → List ℕ
frames_from s zero st = []
frames_from s (suc k) st = by_step (λ next. due_text s next ++ frames_from s k next) (λ _. []) (step_of s st)

-- how a run ends that has this many more steps
unfoldable pub last_from : SceneValue → ℕ → State → Last
last_from s zero st = Done s.steps
last_from s (suc k) st = by_step (λ next. last_from s k next) Passed (step_of s st)

-- ---- one step

state_with-step : (n : ℕ) (ms : List Meeting) (r : Result (List Body) End) (next : State) → state_with n ms r ≡ Ok next → next.step ≡ n
unfolding state_with
state_with-step n ms (Ok bodies) next e = cc
state_with-step n ms (Err e') next e = cc

-- a step leads to the next number
pub step_of-step : (s : SceneValue) (st next : State) → step_of s st ≡ Ok next → next.step ≡ st.step + 1
unfolding step_of step_with
step_of-step s st next e = state_with-step (st.step + 1) _ _ next e

-- a run begins where it begins
pub begins-at : (s : SceneValue) (beginning : State) → run_after s beginning 0 ≡ Some beginning
unfolding run_after
begins-at s beginning = refl

-- the state after one that is reached
pub run_after-next : (s : SceneValue) (beginning : State) (n : ℕ) (st : State) → st.step < s.steps → run_after s beginning n ≡ Some st
    → run_after s beginning (n + 1) ≡ by_step Some (λ _. None) (step_of s st)
unfolding run_after state_after
run_after-next s beginning n st below here =
    let lt = lt-ltb st.step s.steps below in
    rw (add-one, here, lt) (elim (step_of s st) as (λ r. result_ok r ≡ by_step Some (λ _. None) r) [ Ok next ↦ refl | Err e ↦ refl ])

-- no state after none
run_after-none : (s : SceneValue) (beginning : State) (n : ℕ) → run_after s beginning n ≡ None → run_after s beginning (n + 1) ≡ None
unfolding run_after
run_after-none s beginning n none = rw (add-one, none)

-- ---- the frames

-- the frame of a state, where there is one
abbrev frame_of : Option State → List ℕ
frame_of o = option_map_or state_text o []

frames-cons : (o : Option State) (sts : List State) → flat_map state_text (cons_option o sts) ≡ frame_of o ++ flat_map state_text sts
frames-cons (Some st) sts = refl
frames-cons None sts = refl

-- the frame of a state that is due is its text, where it is due
due-frame : (s : SceneValue) (st : State) → frame_of (due_state s st) ≡ due_text s st
unfolding due_state due_text
due-frame s st = elim (is_due s st.step) as (λ b. frame_of (if b then Some st else None) ≡ (if b then state_text st else [])) [ true ↦ refl | false ↦ refl ]

module _ (s : SceneValue) (beginning : State) where
  -- the frames that are due, of the states by these numbers of steps
  abbrev pub frames_at : List ℕ → List ℕ
  frames_at ns = flat_map state_text (due_states s beginning ns)

  -- the frame of a state that is reached, where it is due, and then the others
  pub frames-more : (n : ℕ) (ns : List ℕ) (st : State) → run_after s beginning n ≡ Some st → frames_at (n ∷ ns) ≡ due_text s st ++ frames_at ns
  unfolding due_states
  frames-more n ns st here =
      ap (λ o. flat_map state_text (cons_option (option_and_then (due_state s) o) (due_states s beginning ns))) here
      ∙ frames-cons (due_state s st) (due_states s beginning ns)
      ∙ ap (λ l. l ++ frames_at ns) (due-frame s st)

  -- no frame after no state
  frames-none : (k n : ℕ) → run_after s beginning n ≡ None → frames_at (range_with_len n k) ≡ []
  unfolding due_states
  frames-none zero n none = refl
  frames-none (suc k) n none =
      ap (λ o. flat_map state_text (cons_option (option_and_then (due_state s) o) (due_states s beginning (range_with_len (n + 1) k)))) none
      ∙ frames-none k (n + 1) (run_after-none s beginning n none)

  frames-step : (k n : ℕ) (r : Result State End) → run_after s beginning (n + 1) ≡ by_step Some (λ _. None) r
      → ((next : State) → r ≡ Ok next → run_after s beginning (n + 1) ≡ Some next → frames_at (range_with_len (n + 1 + 1) k) ≡ frames_from s k next)
      → frames_at (range_with_len (n + 1) (suc k)) ≡ by_step (λ next. due_text s next ++ frames_from s k next) (λ _. []) r
  frames-step k n (Ok next) here others =
      frames-more (n + 1) (range_with_len (n + 1 + 1) k) next here ∙ ap (λ l. due_text s next ++ l) (others next refl here)
  frames-step k n (Err e) here others = frames-none (suc k) (n + 1) here

  -- the frames that are due behind a state are those of the steps that are left
  pub frames-left : (k n : ℕ) (st : State) → run_after s beginning n ≡ Some st → st.step + k ≡ s.steps → frames_at (range_with_len (n + 1) k) ≡ frames_from s k st
  unfolding frames_from due_states
  frames-left zero n st here left = refl
  frames-left (suc k) n st here left =
      frames-step k n (step_of s st) (run_after-next s beginning n st (omega arith) here)
      (λ next e there. frames-left k (n + 1) next there (omega (arith, step_of-step s st next e)))

  -- ---- the end

  ends-step : (k n : ℕ) (r : Result State End) → end_after s beginning n ≡ result_err r
      → ((next : State) → r ≡ Ok next → last_among s.steps (filter_map (end_after s beginning) (range_with_len (n + 1) k)) ≡ last_from s k next)
      → last_among s.steps (filter_map (end_after s beginning) (range_with_len n (suc k))) ≡ by_step (λ next. last_from s k next) Passed r
  ends-step k n (Ok next) end others =
      ap (λ o. last_among s.steps (cons_option o (filter_map (end_after s beginning) (range_with_len (n + 1) k)))) end ∙ others next refl
  ends-step k n (Err e) end others =
      ap (λ o. last_among s.steps (cons_option o (filter_map (end_after s beginning) (range_with_len (n + 1) k)))) end

  -- the limit that the step from a reached state passes
  end-here : (n : ℕ) (st : State) → run_after s beginning n ≡ Some st → end_after s beginning n ≡ result_err (step_of s st)
  unfolding end_after
  end-here n st here = rw here

  -- how the run ends is how the steps that are left end
  pub last-left : (k n : ℕ) (st : State) → run_after s beginning n ≡ Some st → st.step + k ≡ s.steps
      → last_among s.steps (filter_map (end_after s beginning) (range_with_len n k)) ≡ last_from s k st
  unfolding last_from
  last-left zero n st here left = refl
  last-left (suc k) n st here left =
      ends-step k n (step_of s st) (end-here n st here)
      (λ next e. last-left k (n + 1) next (run_after-next s beginning n st (omega arith) here ∙ ap (by_step Some (λ _. None)) e) (omega (arith, step_of-step s st next e)))

-- ---- the rest behind a state

-- how the run from a state ends, by the steps that are left
pub last_after-left : (s : SceneValue) (st : State) → st.step ≤ s.steps → last_after s st ≡ last_from s (s.steps - st.step) st
unfolding last_after
last_after-left s st le = last-left s st (s.steps - st.step) 0 st (begins-at s st) (omega arith)

-- what follows the frame of a state, by the steps that are left
pub rest_of-left : (s : SceneValue) (st : State) → st.step ≤ s.steps → rest_of s st ≡ frames_from s (s.steps - st.step) st ++ last_text (last_after s st)
unfolding rest_of run_text
rest_of-left s st le = ap (λ l. l ++ last_text (last_after s st)) (frames-left s st (s.steps - st.step) 0 st (begins-at s st) (omega arith))
