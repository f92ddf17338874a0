-- What the parts of a run that is looked at promise, put together.
use Rattle.std.proofs.Common.{◌≡◌, ℕ, ◌-◌, ◌<◌, List, true, length, Option, None, Some, Ok, Err, sym, ap, ◌∙◌, arith, subst}
use Rattle.std.specs.Io.KnownBytes.{Appends}
use Rattle.dem_outside.specs.Faults.{Rose}
use Rattle.dem_outside.specs.Known.{AppendsPrefix}
use Rattle.dem_outside.proofs.Prefixes.{AppendsPrefix-kept}
use Rattle.dem_model.specs.SceneValue.{SceneValue}
use Rattle.dem_model.specs.Plain.{first_state}
use Rattle.dem_model.specs.Look.{looked_at}
use Rattle.dem_model.specs.declared.state.State.{State}
use Rattle.dem_model.specs.declared.state.End.{End}
use Rattle.dem_model.specs.declared.state.Last.TheVariants.{Passed}
use Rattle.dem_plain.specs.Run.{Run}
use Rattle.dem_output.proofs.RunLaw.{step_of-step}
use Rattle.dem_look.specs.declared.looking.LookFault.{LookFault}
use Rattle.dem_look.specs.declared.looking.LookFault.TheVariants.{WriteFault, OutOfMemory}
use Rattle.dem_look.specs.Looker.{LookerValue, Shows}
use Rattle.dem_look.specs.Looking.{due_look, shown_after, MakesLook, WritesLook}
use Rattle.dem_look.proofs.LookFacts.{StandsLooking, StandsLooking-start, first-failed, StandsLooking-more, StandsLooking-failed, StandsLooking-front, StandsLooking-end, LacksEnd, LacksEnd-kept}

-- a new run of a scene, where the shapes are those of that scene
pub new-run : (shapes s : SceneValue) (run : Run) → run ≡ record { scene = s; state = first_state s; from_first = true } → shapes ≡ s → run ≡ record { scene = shapes; state = first_state shapes; from_first = true }
new-run shapes s run new same = new ∙ ap (λ (x : SceneValue). (let r : Run = record { scene = x; state = first_state x; from_first = true } in r)) (sym same)

-- what the loop keeps: the run is that of this scene from its first state, the looker shows the state that was due last, and no put failed
pub record LooksOn (old now : Option (List ℕ)) (faults faults_now : ℕ) (s : SceneValue) (run : Run) (looker : LookerValue) : Type 0 where
  pub before : Option State
  pub shows : Shows s looker before
  pub made : looker.clumps ≡ length s.clumps
  pub scene_is : run.scene ≡ s
  pub from_first : run.from_first ≡ true
  pub stands : StandsLooking old now s before run.state
  pub count : faults_now ≡ faults

-- the row of the first state was written
pub begun : (old now : Option (List ℕ)) (faults faults_now : ℕ) (s : SceneValue) (run : Run) (looker looker_now : LookerValue) → run ≡ record { scene = s; state = first_state s; from_first = true }
    → looker.clumps ≡ length s.clumps → looker_now.clumps ≡ looker.clumps → Shows s looker None
    → ((before : Option State) → Shows s looker before → Shows s looker_now (shown_after s before run.state))
    → ((before : Option State) → Shows s looker before → Appends old now (due_look s before run.state))
    → faults_now ≡ faults → LooksOn old now faults faults_now s run looker_now
begun old now faults faults_now s run looker looker_now new made kept fresh shows row count =
    let state_is : run.state ≡ first_state s = ap (λ (r : Run). r.state) new in
    record {
      before = shown_after s None run.state;
      shows = shows None fresh;
      made = kept ∙ made;
      scene_is = ap (λ (r : Run). r.scene) new;
      from_first = ap (λ (r : Run). r.from_first) new;
      stands = subst (λ x. StandsLooking old now s (shown_after s None x) x) (sym state_is) (StandsLooking-start old now s (subst (λ x. Appends old now (due_look s None x)) state_is (row None fresh)));
      count = count;
    }

-- its put failed
pub not-begun : (old now : Option (List ℕ)) (s : SceneValue) (run : Run) (looker : LookerValue) → run ≡ record { scene = s; state = first_state s; from_first = true } → Shows s looker None
    → ((before : Option State) → Shows s looker before → AppendsPrefix old now (due_look s before run.state)) → AppendsPrefix old now (looked_at s)
not-begun old now s run looker new fresh front =
    first-failed old now s (subst (λ x. AppendsPrefix old now (due_look s None x)) (ap (λ (r : Run). r.state) new) (front None fresh))

module _ (old mid now : Option (List ℕ)) (faults faults_mid faults_now : ℕ) (s : SceneValue) (run new : Run) (looker looker_now : LookerValue) (keeps : LooksOn old mid faults faults_mid s run looker) (below : run.state.step < s.steps) where
  pub goes-on : (o : Option End) → o ≡ None → looker_now.clumps ≡ looker.clumps → MakesLook s run new looker looker_now mid now faults_mid faults_now (Ok o) → LooksOn old now faults faults_now s new looker_now
  goes-on None none kept made = record {
    before = shown_after s keeps.before new.state;
    shows = made.4 keeps.before keeps.shows;
    made = kept ∙ keeps.made;
    scene_is = made.1 ∙ keeps.scene_is;
    from_first = made.2 ∙ keeps.from_first;
    stands = StandsLooking-more old mid now s keeps.before run.state new.state keeps.stands below made.0 (made.5 keeps.before keeps.shows);
    count = made.3 ∙ keeps.count;
  }
  goes-on (Some e) none kept made = cc

  -- fewer steps are left
  pub comes-nearer : (o : Option End) → o ≡ None → MakesLook s run new looker looker_now mid now faults_mid faults_now (Ok o) → s.steps - new.state.step < s.steps - run.state.step
  comes-nearer None none made = omega (arith, step_of-step s run.state new.state made.0)
  comes-nearer (Some e) none made = cc

  -- a step passes a limit
  pub comes-to-end : (o : Option End) (e : End) → o ≡ Some e → MakesLook s run new looker looker_now mid now faults_mid faults_now (Ok o) → LacksEnd old now s (Passed e) × (faults_now ≡ faults)
  comes-to-end None e some made = cc
  comes-to-end (Some e') e some made =
      let same : e' ≡ e = cc in
      (LacksEnd-kept old mid now s (Passed e) (StandsLooking-end old mid s keeps.before run.state e keeps.stands below (made.0 ∙ ap Err same)) made.1, made.2 ∙ keeps.count)

  -- a fault stops the run
  pub stopped : (f : LookFault) → MakesLook s run new looker looker_now mid now faults_mid faults_now (Err f) → WritesLook s old now faults faults_now (Err f)
  stopped WriteFault made = (
    StandsLooking-failed old mid now s keeps.before run.state new.state keeps.stands below made.0 (made.1 keeps.before keeps.shows),
    subst (λ n. Rose n faults_now) keeps.count made.2,
  )
  stopped OutOfMemory made = (AppendsPrefix-kept old mid now (looked_at s) (StandsLooking-front old mid s keeps.before run.state keeps.stands) made.0, made.1 ∙ keeps.count)
