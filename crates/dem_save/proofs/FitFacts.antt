-- Each state of the run from a fit state is fit, and so is each of the plain run.
use Rattle.std.proofs.Common.{◌≡◌, ℕ, zero, suc, ◌+◌, ◌<◌, ◌≤◌, Bool, true, false, List, map, Option, Some, None, Result, Ok, Err, All, if◌then◌else◌, refl, subst, arith}
use Rattle.std.specs.Prelude.{IfOk, IfSome, nat_lt, option_and_then}
use Rattle.std.specs.List.Sorted.{IsStrictlySortedBy}
use Rattle.std.specs.Result.{result_ok}
use Rattle.std.proofs.lemmas.Bool.{ltb-true}
use Rattle.std.proofs.lemmas.List.Elements.{All-nil}
use Rattle.dem_num.specs.Vectors.{widened, Within}
use Rattle.dem_model.specs.SceneValue.{SceneValue}
use Rattle.dem_model.specs.Centers.{centers_of}
use Rattle.dem_model.specs.Fit.{held_pairs, IsFit}
use Rattle.dem_model.specs.Motion.{IsPair}
use Rattle.dem_model.specs.Pairs.{all_pairs, pair_cmp}
use Rattle.dem_model.specs.Plain.{state_after, run_after, first_state, plain_at}
use Rattle.dem_model.specs.Sound.{IsSound}
use Rattle.dem_model.specs.Step.{Meeting, meetings, loads_of, held_in, state_with, step_with, step_of}
use Rattle.dem_model.specs.declared.limits.TheConstants.{MAX_DISPLACEMENT}
use Rattle.dem_model.specs.declared.state.Body.{Body}
use Rattle.dem_model.specs.declared.state.End.{End}
use Rattle.dem_model.specs.declared.state.Held.{Held}
use Rattle.dem_model.specs.declared.state.State.{State}
use Rattle.dem_plain.proofs.RunFacts.{first_sound}
use Rattle.dem_save.proofs.StepFacts.{EachSound, advanced-sound, each-of, sound-of}
use Rattle.dem_save.proofs.HeldFacts.{IsStored, meetings-stored, meetings-ascend, meetings-are_pairs}

-- what is held is such as a run of the scene may hold
record IsHeld (s : SceneValue) (held : List Held) : Type 0 where
  ascending : IsStrictlySortedBy pair_cmp (held_pairs held)
  pairs : All (λ (e : Held). IsPair s e.pair) held
  stored : All (λ (e : Held). IsStored e.h) held

-- a state that sound bodies and such entries lead to is fit
state_with-fit : (s : SceneValue) (n : ℕ) (ms : List Meeting) (r : Result (List Body) End) → n ≤ s.steps → IsHeld s (map held_in ms) → IfOk r (EachSound s s.clumps) → IfOk (state_with n ms r) (IsFit s)
unfolding state_with
state_with-fit s n ms (Err e) within held sound = tt
state_with-fit s n ms (Ok bodies) within held sound = record {
  step = within;
  bodies = sound-of s bodies sound;
  ascending = held.ascending;
  pairs = held.pairs;
  stored = held.stored;
}

-- the step of a fit state leaves a fit state
step_of-fit : (s : SceneValue) (st : State) → IsFit s st → st.step < s.steps → IfOk (step_of s st) (IsFit s)
unfolding step_of step_with
step_of-fit s st fit goes_on =
    let centers = centers_of s st.bodies in
    state_with-fit s (st.step + 1) (meetings s st.bodies centers st.held (all_pairs s)) _ (omega arith)
    (record {
      ascending = meetings-ascend s st.bodies centers st.held;
      pairs = meetings-are_pairs s st.bodies centers st.held;
      stored = meetings-stored s st.bodies centers st.held (all_pairs s);
    })
    (advanced-sound s (st.step + 1) 0 s.clumps st.bodies (loads_of s (meetings s st.bodies centers st.held (all_pairs s))) (each-of s st.bodies fit.bodies))

ok-fit : (s : SceneValue) (r : Result State End) → IfOk r (IsFit s) → IfSome (result_ok r) (IsFit s)
ok-fit s (Ok st) h = h
ok-fit s (Err e) h = tt

after-fit : (s : SceneValue) (st : State) → IsFit s st → IfSome (state_after s st) (IsFit s)
unfolding state_after
after-fit s st fit = by (nat_lt st.step s.steps) refl
  where
    by : (t : Bool) → nat_lt st.step s.steps ≡ t → IfSome (if t then result_ok (step_of s st) else None) (IsFit s)
    by true e = ok-fit s (step_of s st) (step_of-fit s st fit (ltb-true st.step s.steps e))
    by false e = tt

then-fit : (s : SceneValue) (o : Option State) → IfSome o (IsFit s) → IfSome (option_and_then (state_after s) o) (IsFit s)
then-fit s (Some st) h = after-fit s st h
then-fit s None h = tt

each-fit : (s : SceneValue) (beginning : State) (n : ℕ) → IsFit s beginning → IfSome (run_after s beginning n) (IsFit s)
unfolding run_after
each-fit s beginning zero fit = fit
each-fit s beginning (suc n) fit = then-fit s (run_after s beginning n) (each-fit s beginning n fit)

-- each state of the run from a fit state is fit
pub run-fit : (s : SceneValue) (n : ℕ) (beginning st : State) → IsFit s beginning → run_after s beginning n ≡ Some st → IsFit s st
run-fit s n beginning st fit e = subst (λ (o : Option State). IfSome o (IsFit s)) e (each-fit s beginning n fit)

-- the first state is fit
first-fit : (s : SceneValue) → IsSound s → IsFit s (first_state s)
unfolding first_state IsStrictlySortedBy
first-fit s sound = record {
  step = omega arith;
  bodies = first_sound s sound;
  ascending = tt;
  pairs = All-nil (λ (e : Held). IsPair s e.pair);
  stored = All-nil (λ (e : Held). Within (widened e.h) MAX_DISPLACEMENT);
}

-- each state of the plain run is fit
pub plain-fit : (s : SceneValue) → IsSound s → (n : ℕ) (st : State) → plain_at s n ≡ Some st → IsFit s st
unfolding plain_at
plain-fit s sound n st e = run-fit s n (first_state s) st (first-fit s sound) e
