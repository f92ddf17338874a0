-- What the parts of a run's loop promise, put together.
use Rattle.std.proofs.Common.{◌≡◌, ℕ, ◌-◌, ◌<◌, ◌≤◌, true, List, Option, None, Some, Result, Ok, Err, refl, sym, ap, ◌∙◌, arith, subst}
use Rattle.std.specs.Io.KnownBytes.{Appends}
use Rattle.dem_outside.specs.Faults.{Rose}
use Rattle.dem_outside.specs.Known.{AppendsPrefix}
use Rattle.dem_outside.proofs.Prefixes.{AppendsPrefix-kept, AppendsPrefix-longer, AppendsPrefix-after}
use Rattle.std.proofs.KnownBytes.{Appends-trans}
use Rattle.dem_model.specs.SceneValue.{SceneValue}
use Rattle.dem_model.specs.Step.{step_of}
use Rattle.dem_model.specs.Plain.{first_state}
use Rattle.dem_model.specs.Output.{due_text, output_of, rest_of}
use Rattle.dem_model.specs.declared.state.State.{State}
use Rattle.dem_model.specs.declared.state.End.{End}
use Rattle.dem_model.specs.declared.state.Last.{Last}
use Rattle.dem_model.specs.declared.state.Last.TheVariants.{Passed}
use Rattle.dem_plain.specs.Run.{Run}
use Rattle.dem_output.specs.declared.running.RunFault.{RunFault}
use Rattle.dem_output.specs.declared.running.RunFault.TheVariants.{WriteFault, OutOfMemory}
use Rattle.dem_output.specs.Running.{MakesStep, WritesRest, WritesRun}
use Rattle.dem_output.proofs.RunLaw.{step_of-step}
use Rattle.dem_output.proofs.RunFacts.{StandsAt, StandsAt-start, StandsAt-more, StandsAt-failed, StandsAt-front, StandsAt-end, LacksEnd, LacksEnd-kept}
use Rattle.dem_output.proofs.WholeFacts.{output_of-first, last_of-first, first-step}

-- a count rose that had not risen before
pub Rose-from : (faults mid now : ℕ) → mid ≡ faults → Rose mid now → Rose faults now
Rose-from faults mid now same rose = subst (λ n. Rose n now) same rose

-- ---- the loop

-- what the loop keeps: the run is of this scene, it stands at its state, and no put failed
pub record RunsOn (old now : Option (List ℕ)) (faults faults_now : ℕ) (s : SceneValue) (beginning : State) (run : Run) : Type 0 where
  pub scene_is : run.scene ≡ s
  pub stands : StandsAt old now s beginning run.state
  pub count : faults_now ≡ faults

-- before the first step
pub begun : (held : Option (List ℕ)) (faults : ℕ) (s : SceneValue) (run : Run) → run.scene ≡ s → run.state.step ≤ s.steps → RunsOn held held faults faults s run.state run
begun held faults s run same le = record { scene_is = same; stands = StandsAt-start held s run.state le; count = refl }

module _ (old mid now : Option (List ℕ)) (faults faults_mid faults_now : ℕ) (s : SceneValue) (beginning : State) (run new : Run) (keeps : RunsOn old mid faults faults_mid s beginning run)
    (below : run.state.step < s.steps) where
  -- a step was made
  went-on : (o : Option End) → o ≡ None → MakesStep run new mid now faults_mid faults_now (Ok o)
      → (step_of s run.state ≡ Ok new.state) × (new.scene ≡ s) × Appends mid now (due_text s new.state) × (faults_now ≡ faults_mid)
  went-on None none made =
      (subst (λ x. step_of x run.state ≡ Ok new.state) keeps.scene_is made.0, made.1 ∙ keeps.scene_is, subst (λ x. Appends mid now (due_text x new.state)) keeps.scene_is made.2, made.3)
  went-on (Some e) none made = cc

  pub goes-on : (o : Option End) → o ≡ None → MakesStep run new mid now faults_mid faults_now (Ok o) → RunsOn old now faults faults_now s beginning new
  goes-on o none made =
      let step = went-on o none made in
      record {
        scene_is = step.1;
        stands = StandsAt-more old mid now s beginning run.state new.state keeps.stands below step.0 step.2;
        count = step.3 ∙ keeps.count;
      }

  -- fewer steps are left
  pub comes-nearer : (o : Option End) → o ≡ None → MakesStep run new mid now faults_mid faults_now (Ok o) → s.steps - new.state.step < s.steps - run.state.step
  comes-nearer o none made = omega (arith, step_of-step s run.state new.state (went-on o none made).0)

  -- a step passes a limit
  pub comes-to-end : (o : Option End) (e : End) → o ≡ Some e → MakesStep run new mid now faults_mid faults_now (Ok o) → LacksEnd old now s beginning (Passed e) × (faults_now ≡ faults)
  comes-to-end None e some made = cc
  comes-to-end (Some e') e some made =
      let same : e' ≡ e = cc in
      let passed : step_of s run.state ≡ Err e = subst (λ x. step_of x run.state ≡ Err e') keeps.scene_is made.0 ∙ ap Err same in
      (LacksEnd-kept old mid now s beginning (Passed e) (StandsAt-end old mid s beginning run.state e keeps.stands below passed) made.1, made.2 ∙ keeps.count)

  -- a fault stops the run
  pub stopped : (f : RunFault) → MakesStep run new mid now faults_mid faults_now (Err f) → WritesRest s beginning old now faults faults_now (Err f)
  stopped WriteFault made = (
    StandsAt-failed old mid now s beginning run.state new.state keeps.stands below (subst (λ x. step_of x run.state ≡ Ok new.state) keeps.scene_is made.0)
        (subst (λ x. AppendsPrefix mid now (due_text x new.state)) keeps.scene_is made.1),
    subst (λ n. Rose n faults_now) keeps.count made.2,
  )
  stopped OutOfMemory made = (AppendsPrefix-kept old mid now (rest_of s beginning) (StandsAt-front old mid s beginning run.state keeps.stands) made.0, made.1 ∙ keeps.count)

-- ---- the whole run: its first frame, and the rest

-- the run at the first state
pub at-first : (s : SceneValue) (run : Run) → run ≡ record { scene = s; state = first_state s; from_first = true } → (run.scene ≡ s) × (run.state ≡ first_state s) × (run.state.step ≤ s.steps)
at-first s run new =
    let state_is : run.state ≡ first_state s = ap (λ (r : Run). r.state) new in
    (ap (λ (r : Run). r.scene) new, state_is, omega (arith, ap (λ (st : State). st.step) state_is, first-step s))

-- the put of the first frame failed
pub not-begun : (old now : Option (List ℕ)) (s : SceneValue) (run : Run) (st : State) → run ≡ record { scene = s; state = first_state s; from_first = true } → st ≡ run.state
    → AppendsPrefix old now (due_text s st) → AppendsPrefix old now (output_of s)
not-begun old now s run st new here front =
    subst (AppendsPrefix old now) (sym (output_of-first s))
    (AppendsPrefix-longer old now (due_text s (first_state s)) _ (subst (λ x. AppendsPrefix old now (due_text s x)) (here ∙ ap (λ (r : Run). r.state) new) front))

-- the first frame was written, and then the rest, or a part of it
whole-from : (old mid now : Option (List ℕ)) (faults faults_now : ℕ) (s : SceneValue) (r : Result Last RunFault) → Appends old mid (due_text s (first_state s))
    → WritesRest s (first_state s) mid now faults faults_now r → WritesRun s old now faults faults_now r
whole-from old mid now faults faults_now s (Ok last) frame rest = (
  rest.0 ∙ sym (last_of-first s),
  subst (Appends old now) (sym (output_of-first s)) (Appends-trans old mid now (due_text s (first_state s)) (rest_of s (first_state s)) frame rest.1),
  rest.2,
)
whole-from old mid now faults faults_now s (Err WriteFault) frame rest =
    (subst (AppendsPrefix old now) (sym (output_of-first s)) (AppendsPrefix-after old mid now (due_text s (first_state s)) (rest_of s (first_state s)) frame rest.0), rest.1)
whole-from old mid now faults faults_now s (Err OutOfMemory) frame rest =
    (subst (AppendsPrefix old now) (sym (output_of-first s)) (AppendsPrefix-after old mid now (due_text s (first_state s)) (rest_of s (first_state s)) frame rest.0), rest.1)

pub whole-run : (old mid now : Option (List ℕ)) (faults faults_mid faults_now : ℕ) (s : SceneValue) (run : Run) (st : State) (r : Result Last RunFault)
    → run ≡ record { scene = s; state = first_state s; from_first = true } → st ≡ run.state → Appends old mid (due_text s st) → faults_mid ≡ faults
    → WritesRest s run.state mid now faults_mid faults_now r → WritesRun s old now faults faults_now r
whole-run old mid now faults faults_mid faults_now s run st r new here frame count rest =
    let first : run.state ≡ first_state s = ap (λ (r : Run). r.state) new in
    whole-from old mid now faults faults_now s r (subst (λ x. Appends old mid (due_text s x)) (here ∙ first) frame)
    (subst (λ x. WritesRest s x mid now faults faults_now r) first (subst (λ n. WritesRest s run.state mid now n faults_now r) count rest))
