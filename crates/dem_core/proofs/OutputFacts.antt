-- The output of a run, cut at a state that it reaches: the frames up to there, and what is left.
use Rattle.std.proofs.Common.{◌≡◌, ℕ, suc, ◌+◌, ◌-◌, ◌<◌, [], ◌++◌, Some, Err, sym, ap, ◌∙◌, arith}
use Rattle.dem_model.specs.SceneValue.{SceneValue}
use Rattle.dem_model.specs.Step.{step_of}
use Rattle.dem_model.specs.Plain.{first_state, plain_at, last_of}
use Rattle.dem_model.specs.Frames.{last_text}
use Rattle.dem_model.specs.Output.{due_text, due_states, rest_of, output_of}
use Rattle.dem_model.specs.declared.state.State.{State}
use Rattle.dem_model.specs.declared.state.End.{End}
use Rattle.dem_model.specs.declared.state.Last.TheVariants.{Done, Passed}
use Rattle.dem_output.proofs.RunLaw.{by_step, frames_from, last_from, last_after-left, rest_of-left}
use Rattle.dem_output.proofs.WholeFacts.{plain-is, frames-push, cut}
use Rattle.dem_core.specs.SoFar.{frames_to}

-- ---- how the run ends

-- as the steps end that are left at a state of it
pub last-here : (s : SceneValue) (n k : ℕ) (st : State) → plain_at s n ≡ Some st → n + k ≡ s.steps → last_of s ≡ last_from s k st
last-here s n k st h left =
    let c = cut s n st h in
    let more : s.steps - st.step ≡ k = omega (arith, c.number) in
    sym c.ends ∙ last_after-left s st (omega (arith, c.number)) ∙ ap (λ m. last_from s m st) more

-- a run that reaches its last state is done
pub last-done : (s : SceneValue) (st : State) → plain_at s s.steps ≡ Some st → last_of s ≡ Done s.steps
unfolding last_from
last-done s st h = last-here s s.steps 0 st h (omega arith)

-- a run whose step passes a limit ends there
pub last-passed : (s : SceneValue) (n : ℕ) (st : State) (e : End) → plain_at s n ≡ Some st → n < s.steps → step_of s st ≡ Err e → last_of s ≡ Passed e
last-passed s n st e h lt passed =
    let step : last_from s (suc (s.steps - (n + 1))) st ≡ Passed e = unfold last_from in ap (by_step (λ next. last_from s (s.steps - (n + 1)) next) Passed) passed in
    last-here s n (suc (s.steps - (n + 1))) st h (omega arith) ∙ step

-- ---- what is written

-- the frames up to the next state
pub frames_to-next : (s : SceneValue) (n : ℕ) (next : State) → plain_at s (n + 1) ≡ Some next → frames_to s (n + 1) ≡ frames_to s n ++ due_text s next
unfolding frames_to
frames_to-next s n next here = frames-push s (first_state s) (n + 1) next (sym (plain-is s (n + 1)) ∙ here)

-- the frames up to the first state
pub frames_to-first : (s : SceneValue) (st : State) → plain_at s 0 ≡ Some st → frames_to s 0 ≡ due_text s st
unfolding frames_to due_states
frames_to-first s st here = frames-push s (first_state s) 0 st (sym (plain-is s 0) ∙ here)

-- the output: the frames up to a state, and what follows its frame
pub output-cut : (s : SceneValue) (n : ℕ) (st : State) → plain_at s n ≡ Some st → output_of s ≡ frames_to s n ++ rest_of s st
unfolding frames_to
output-cut s n st here = (cut s n st here).output

-- what follows: the frames of the steps that are left, and the end row
rest-here : (s : SceneValue) (n k : ℕ) (st : State) → plain_at s n ≡ Some st → n + k ≡ s.steps → rest_of s st ≡ frames_from s k st ++ last_text (last_of s)
rest-here s n k st here left =
    let c = cut s n st here in
    let more : s.steps - st.step ≡ k = omega (arith, c.number) in
    rest_of-left s st (omega (arith, c.number))
    ∙ ap (λ l. frames_from s (s.steps - st.step) st ++ last_text l) c.ends
    ∙ ap (λ m. frames_from s m st ++ last_text (last_of s)) more

-- at the last state only the end row is left
pub output-done : (s : SceneValue) (st : State) → plain_at s s.steps ≡ Some st → output_of s ≡ frames_to s s.steps ++ last_text (last_of s)
unfolding frames_from
output-done s st here = output-cut s s.steps st here ∙ ap (λ l. frames_to s s.steps ++ l) (rest-here s s.steps 0 st here (omega arith))

-- and where the next step passes a limit
pub output-passed : (s : SceneValue) (n : ℕ) (st : State) (e : End) → plain_at s n ≡ Some st → n < s.steps → step_of s st ≡ Err e → output_of s ≡ frames_to s n ++ last_text (last_of s)
output-passed s n st e here lt passed =
    let none : frames_from s (suc (s.steps - (n + 1))) st ≡ [] = unfold frames_from in ap (by_step _ (λ _. [])) passed in
    output-cut s n st here
    ∙ ap (λ l. frames_to s n ++ l) (rest-here s n (suc (s.steps - (n + 1))) st here (omega arith) ∙ ap (λ l. l ++ last_text (last_of s)) none)
