-- No state of a run passes the swing limit: each body keeps a quaternion of some length, by which a step turns it.
use Rattle.std.proofs.Common.{ℕ, zero, suc, ◌+◌, ◌^◌, ◌≤◌, List, [], ◌∷◌, map, drop, Bool, true, false, Option, Some, None, Result, Ok, Err, All, IfSome, if◌then◌else◌, arith}
use Rattle.std.specs.Prelude.{◌≢◌, option_and_then}
use Rattle.std.specs.Result.{result_ok, result_err}
use Rattle.dem_num.specs.Rotations.{quat_norm2_of}
use Rattle.dem_model.specs.SceneValue.{SceneValue}
use Rattle.dem_model.specs.Advance.{advance_of}
use Rattle.dem_model.specs.Centers.{still_body}
use Rattle.dem_model.specs.Plain.{first_state, state_after, run_after, end_after, end_at}
use Rattle.dem_model.specs.Sound.{IsSound, IsClump}
use Rattle.dem_model.specs.Step.{Meeting, first_body, first_load, ended, joined, advanced_from, state_with, step_with, step_of}
use Rattle.dem_model.specs.declared.law.Load.{Load}
use Rattle.dem_model.specs.declared.state.Body.{Body}
use Rattle.dem_model.specs.declared.state.Clump.{Clump}
use Rattle.dem_model.specs.declared.state.End.{End}
use Rattle.dem_model.specs.declared.state.EndKind.{EndKind}
use Rattle.dem_model.specs.declared.state.EndKind.TheVariants.{Swing}
use Rattle.dem_model.specs.declared.state.State.{State}
use Rattle.dem_force.proofs.SwingFacts.{CanTurn, Turns, limited-turns}

-- each body can turn
abbrev AllTurn : List Body → Type 0
AllTurn [] = Unit {0}
AllTurn (b ∷ bs) = CanTurn b × AllTurn bs

-- the end is none by a swing
abbrev IsNoSwing : End → Type 0
IsNoSwing e = e.kind ≢ Swing

-- one body after a step, all bodies, and the state
abbrev OneTurns : Result Body End → Type 0
OneTurns (Ok b) = CanTurn b
OneTurns (Err e) = IsNoSwing e

abbrev BodiesTurn : Result (List Body) End → Type 0
BodiesTurn (Ok bs) = AllTurn bs
BodiesTurn (Err e) = IsNoSwing e

abbrev StateTurns : Result State End → Type 0
StateTurns (Ok st) = AllTurn st.bodies
StateTurns (Err e) = IsNoSwing e

-- the step of one clump
advance_of-turns : (s : SceneValue) (c : Clump) (b : Body) (load : Load) → CanTurn b → Turns (advance_of s c b load)
unfolding advance_of
advance_of-turns s c b load p = limited-turns s _ b _ _ p

ended-turns : (step k : ℕ) (r : Result Body EndKind) → Turns r → OneTurns (ended step k r)
unfolding ended
ended-turns step k (Ok b) h = h
ended-turns step k (Err e) h = h

joined-turns : (r : Result Body End) (rest : Result (List Body) End) → OneTurns r → BodiesTurn rest → BodiesTurn (joined r rest)
unfolding joined
joined-turns (Err e) rest h k = h
joined-turns (Ok b) (Err e) h k = k
joined-turns (Ok b) (Ok bs) h k = (h, k)

still-turns : CanTurn still_body
unfolding quat_norm2_of
still-turns = omega arith

first-turns : (bs : List Body) → AllTurn bs → CanTurn (first_body bs)
first-turns [] h = still-turns
first-turns (b ∷ bs) h = h.0

rest-turns : (bs : List Body) → AllTurn bs → AllTurn (drop 1 bs)
rest-turns [] h = tt
rest-turns (b ∷ bs) h = h.1

-- the step of all clumps
advanced-turns : (s : SceneValue) (step k : ℕ) (cs : List Clump) (bs : List Body) (ws : List Load) → AllTurn bs → BodiesTurn (advanced_from s step k cs bs ws)
unfolding advanced_from
advanced-turns s step k [] bs ws h = tt
advanced-turns s step k (c ∷ cs) bs ws h =
    joined-turns (ended step k (advance_of s c (first_body bs) (first_load ws))) (advanced_from s step (k + 1) cs (drop 1 bs) (drop 1 ws))
    (ended-turns step k (advance_of s c (first_body bs) (first_load ws)) (advance_of-turns s c (first_body bs) (first_load ws) (first-turns bs h)))
    (advanced-turns s step (k + 1) cs (drop 1 bs) (drop 1 ws) (rest-turns bs h))

state_with-turns : (step : ℕ) (ms : List Meeting) (r : Result (List Body) End) → BodiesTurn r → StateTurns (state_with step ms r)
unfolding state_with
state_with-turns step ms (Ok bs) h = h
state_with-turns step ms (Err e) h = h

-- the step of a state
step_of-turns : (s : SceneValue) (st : State) → AllTurn st.bodies → StateTurns (step_of s st)
unfolding step_of step_with
step_of-turns s st h = state_with-turns (st.step + 1) _ _ (advanced-turns s (st.step + 1) 0 s.clumps st.bodies _ h)

-- a state that is there has bodies that can turn
abbrev StateIf : Option State → Type 0
StateIf (Some st) = AllTurn st.bodies
StateIf None = Unit {0}

ok-turns : (r : Result State End) → StateTurns r → StateIf (result_ok r)
ok-turns (Ok st) h = h
ok-turns (Err e) h = tt

err-turns : (r : Result State End) → StateTurns r → IfSome (result_err r) IsNoSwing
err-turns (Ok st) h = tt
err-turns (Err e) h = h

in_time : (t : Bool) (o : Option State) → StateIf o → StateIf (if t then o else None)
in_time true o h = h
in_time false o h = tt

after-turns : (s : SceneValue) (st : State) → AllTurn st.bodies → StateIf (state_after s st)
unfolding state_after
after-turns s st h = in_time _ (result_ok (step_of s st)) (ok-turns (step_of s st) (step_of-turns s st h))

then-turns : (s : SceneValue) (o : Option State) → StateIf o → StateIf (option_and_then (state_after s) o)
then-turns s (Some st) h = after-turns s st h
then-turns s None h = tt

clump-turns : (s : SceneValue) (c : Clump) → IsClump s c → CanTurn c.body
clump-turns s c h = let long : 2 ^ 58 ≤ quat_norm2_of c.body.q = h.body.body.q.low_le in omega arith

first-all : (s : SceneValue) (cs : List Clump) → All (IsClump s) cs → AllTurn (map (λ (c : Clump). c.body) cs)
first-all s [] h = tt
first-all s (c ∷ cs) h = (clump-turns s c (h 0 c (omega arith)), first-all s cs (λ i d lt. h (suc i) d (omega (arith, lt))))

first_state-turns : (s : SceneValue) → IsSound s → AllTurn (first_state s).bodies
unfolding first_state
first_state-turns s h = first-all s s.clumps h.clumps

-- the states of the run from a state whose bodies can turn
run-turns : (s : SceneValue) (st : State) → AllTurn st.bodies → (n : ℕ) → StateIf (run_after s st n)
unfolding run_after
run-turns s st h zero = h
run-turns s st h (suc n) = then-turns s (run_after s st n) (run-turns s st h n)

end-turns : (s : SceneValue) (o : Option State) → StateIf o → IfSome (option_and_then (λ (st : State). result_err (step_of s st)) o) IsNoSwing
end-turns s (Some st) h = err-turns (step_of s st) (step_of-turns s st h)
end-turns s None h = tt

run-unswung : (s : SceneValue) (st : State) → AllTurn st.bodies → (n : ℕ) → IfSome (end_after s st n) IsNoSwing
unfolding end_after
run-unswung s st h n = end-turns s (run_after s st n) (run-turns s st h n)

-- no state of the run has an end by a swing
pub ends_unswung : (s : SceneValue) → IsSound s → (n : ℕ) → IfSome (end_at s n) (λ e. e.kind ≢ Swing)
unfolding end_at
ends_unswung s sound n = run-unswung s (first_state s) (first_state-turns s sound) n
