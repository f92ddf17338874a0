-- A step on a list is the plain step, and what a run on lists keeps.
use Rattle.std.proofs.Common.{◌≡◌, ℕ, zero, suc, ◌+◌, ◌-◌, ◌<◌, ◌≤◌, List, map, refl, sym, ap, ◌∙◌, arith, subst, Bool, true, false, Option, Some, Result, Ok, Err, add-one}
use Rattle.std.specs.Prelude.{IfOk, unwrap_or}
use Rattle.std.specs.Option.{IsSomeAnd}
use Rattle.std.proofs.lemmas.Bool.{lt-ltb}
use Rattle.std.proofs.lemmas.Result.{IfOk-at_ok}
use Rattle.dem_num.specs.declared.vector.Vec3.{Vec3}
use Rattle.dem_model.specs.SceneValue.{SceneValue}
use Rattle.dem_model.specs.Sound.{IsSound}
use Rattle.dem_model.specs.Carry.{kept_of, Agrees}
use Rattle.dem_model.specs.Centers.{centers_of}
use Rattle.dem_model.specs.Near.{near_of, Covers}
use Rattle.dem_model.specs.Pairs.{all_pairs}
use Rattle.dem_model.specs.Plain.{first_state, state_after, run_after, plain_at}
use Rattle.dem_model.specs.Step.{Meeting, meetings, held_in, loads_of, advanced_from, state_with, step_with, step_of}
use Rattle.dem_model.specs.declared.law.Load.{Load}
use Rattle.dem_model.specs.declared.state.Body.{Body}
use Rattle.dem_model.specs.declared.state.End.{End}
use Rattle.dem_model.specs.declared.state.Held.{Held}
use Rattle.dem_model.specs.declared.state.Pair.{Pair}
use Rattle.dem_model.specs.declared.state.State.{State}
use Rattle.dem_list.specs.Ascending.{Pairs}
use Rattle.dem_hist.specs.Carrying.{HeldByPlace}
use Rattle.dem_plain.proofs.RunFacts.{plain_first}
use Rattle.dem_margin.proofs.CoverFacts.{covers}
use Rattle.dem_step.specs.Contacts.{ArePairs, held_by}
use Rattle.dem_step.specs.Stepper.{state_at, IsListOfRun}
use Rattle.dem_step.specs.Inside.{from_of, IsStepper, HaveMet}
use Rattle.dem_step.proofs.DriftFacts.{has_before, run-moves, drifts-wider}
use Rattle.dem_step.proofs.ListFacts.{meetings-near, meetings-agree, near-pairs}

-- ---- the states of the plain run

-- the state of a number, where the plain run gets there
pub state_at-is : (s : SceneValue) (n : ℕ) (st : State) → plain_at s n ≡ Some st → state_at s n ≡ st
unfolding state_at
state_at-is s n st h = ap (λ o. unwrap_or o (first_state s)) h

-- a step leads to a state of the next number
state_with-number : (step : ℕ) (ms : List Meeting) (r : Result (List Body) End) → IfOk (state_with step ms r) (λ (x : State). x.step ≡ step)
unfolding state_with
state_with-number step ms (Err e) = tt
state_with-number step ms (Ok bodies) = refl

step_of-number : (s : SceneValue) (st next : State) → step_of s st ≡ Ok next → next.step ≡ st.step + 1
unfolding step_of step_with
step_of-number s st next ok =
    let ms : List Meeting = meetings s st.bodies (centers_of s st.bodies) st.held (all_pairs s) in
    IfOk-at_ok (λ (x : State). x.step ≡ st.step + 1) ok
    (state_with-number (st.step + 1) (meetings s st.bodies (centers_of s st.bodies) st.held (all_pairs s)) (advanced_from s (st.step + 1) 0 s.clumps st.bodies (loads_of s (meetings s st.bodies (centers_of s st.bodies) st.held (all_pairs s)))))

-- the states of the plain run have their numbers
pub plain-number : (s : SceneValue) (n : ℕ) (st : State) → plain_at s n ≡ Some st → st.step ≡ n
plain-number s zero st h =
    ap (λ (x : State). x.step) (sym (state_at-is s 0 st h) ∙ state_at-is s 0 (first_state s) (plain_first s)) ∙ unfold first_state in refl
plain-number s (suc n) st h =
    let p = has_before s n st h in
    step_of-number s p.before st p.step ∙ ap (λ m. m + 1) (plain-number s n p.before p.plain) ∙ add-one n

-- the state after a state of the plain run is one
pub plain-after : (s : SceneValue) (n : ℕ) (st next : State) → plain_at s n ≡ Some st → n < s.steps → step_of s st ≡ Ok next → plain_at s (n + 1) ≡ Some next
unfolding plain_at run_after state_after
plain-after s n st next plain lt ok =
    let below : st.step < s.steps = subst (λ m. m < s.steps) (sym (plain-number s n st plain)) lt in
    let here : plain_at s (suc n) ≡ Some next = rw (plain, lt-ltb st.step s.steps below, ok) refl in
    subst (λ m. plain_at s m ≡ Some next) (sym (add-one n)) here

-- ---- the list in use

-- a list whose step is told is in use
pub in_use : (listed : Bool) (from : ℕ) (P : ℕ → Type 0) → IsSomeAnd (from_of listed from) P → (listed ≡ true) × P from
in_use true from P h = (refl, h)
in_use false from P h = absurd h

-- a list that is near at its step covers the state where the run stands, if it isn't too old
pub list-covers : (s : SceneValue) (drift step : ℕ) (list : Pairs) → IsSound s → plain_at s step ≡ Some (state_at s step) → IsListOfRun s drift list →
    list.from ≤ step → step ≤ list.from + drift →
    Covers s drift (centers_of s (state_at s list.from).bodies) (centers_of s (state_at s step).bodies)
list-covers s drift step list sound plain near past young =
    let e : list.from + (step - list.from) ≡ step = omega arith in
    let late : plain_at s (list.from + (step - list.from)) ≡ Some (state_at s step) = subst (λ n. plain_at s n ≡ Some (state_at s step)) (sym e) plain in
    covers s drift (centers_of s (state_at s list.from).bodies) (centers_of s (state_at s step).bodies) sound
    (drifts-wider s (step - list.from) drift _ _ (run-moves s list.from (step - list.from) (state_at s list.from) (state_at s step) near.there late) (omega arith))

-- the pairs of a near list are pairs of all pairs
pub list-pairs : (s : SceneValue) (drift : ℕ) (list : Pairs) → IsSound s → IsListOfRun s drift list → ArePairs s list.pairs
list-pairs s drift list sound near = subst (ArePairs s) (sym near.pairs) (near-pairs s drift (centers_of s (state_at s list.from).bodies) sound)

-- a list in use that may be stepped on: it is near, it is old enough and not too old, it covers the state where the run stands
pub record IsUsable (s : SceneValue) (drift step : ℕ) (list : Pairs) : Type 0 where
  pub near : IsListOfRun s drift list
  pub cover : Covers s drift (centers_of s (state_at s list.from).bodies) (centers_of s (state_at s step).bodies)
  pub pairs : ArePairs s list.pairs
  pub past : list.from ≤ step
  pub late : step ≤ list.from + drift

pub usable : (s : SceneValue) (drift step : ℕ) (listed : Bool) (bodies : List Body) (contacts : HeldByPlace) → IsStepper s drift step listed bodies contacts →
    IsSomeAnd (from_of listed contacts.list.from) (λ from. (state_at s step).step ≤ from + drift) → IsUsable s drift step contacts.list
usable s drift step listed bodies contacts h young =
    let used = in_use listed contacts.list.from (λ from. (state_at s step).step ≤ from + drift) young in
    let past : contacts.list.from ≤ step = h.past used.0 in
    let late : step ≤ contacts.list.from + drift = subst (λ n. n ≤ contacts.list.from + drift) (plain-number s step (state_at s step) h.plain) used.1 in
    record {
      near = h.near used.0;
      cover = list-covers s drift step contacts.list h.scene h.plain (h.near used.0) past late;
      pairs = h.contacts_are.pairs;
      past = past;
      late = late;
    }

-- ---- the step

-- the meetings of a list that covers a state are those of all pairs
meetings-all : (s : SceneValue) (drift : ℕ) (from : List Vec3) (st : State) (ps : List Pair) (held : List Held) (bodies : List Body) (centers : List Vec3) →
    Covers s drift from (centers_of s st.bodies) → ps ≡ near_of s drift from → Agrees s st held → bodies ≡ st.bodies → centers ≡ centers_of s st.bodies →
    meetings s bodies centers held ps ≡ meetings s st.bodies (centers_of s st.bodies) st.held (all_pairs s)
meetings-all s drift from st ps held bodies centers cover pairs agrees b c =
    ap (λ x. meetings s x centers held ps) b
    ∙ ap (λ x. meetings s st.bodies x held ps) c
    ∙ ap (meetings s st.bodies (centers_of s st.bodies) held) pairs
    ∙ meetings-near s drift st.bodies from (centers_of s st.bodies) held cover
    ∙ meetings-agree s st.bodies (centers_of s st.bodies) held st.held (all_pairs s) agrees

-- what the pairs of a list have come to is what all pairs do
record IsMetAll (s : SceneValue) (st : State) (ps : List Pair) (loads : List Load) (fresh : List (Option Vec3)) : Type 0 where
  sums : loads ≡ loads_of s (meetings s st.bodies (centers_of s st.bodies) st.held (all_pairs s))
  kept : kept_of ps fresh ≡ map held_in (meetings s st.bodies (centers_of s st.bodies) st.held (all_pairs s))

met-all : (s : SceneValue) (drift : ℕ) (from : List Vec3) (st : State) (ps : List Pair) (held : List Held) (bodies : List Body) (centers : List Vec3) (loads : List Load) (fresh : List (Option Vec3)) →
    Covers s drift from (centers_of s st.bodies) → ps ≡ near_of s drift from → Agrees s st held → bodies ≡ st.bodies → centers ≡ centers_of s st.bodies →
    HaveMet s bodies centers held ps loads fresh → IsMetAll s st ps loads fresh
met-all s drift from st ps held bodies centers loads fresh cover pairs agrees b c met =
    let all = meetings-all s drift from st ps held bodies centers cover pairs agrees b c in
    record { sums = met.sums ∙ ap (loads_of s) all; kept = met.kept ∙ ap (map held_in) all }

-- the step of those loads is the plain step
step-is : (s : SceneValue) (st : State) (bodies : List Body) (loads : List Load) (r : Result (List Body) End) → bodies ≡ st.bodies →
    loads ≡ loads_of s (meetings s st.bodies (centers_of s st.bodies) st.held (all_pairs s)) → advanced_from s (st.step + 1) 0 s.clumps bodies loads ≡ r →
    step_of s st ≡ state_with (st.step + 1) (meetings s st.bodies (centers_of s st.bodies) st.held (all_pairs s)) r
unfolding step_of step_with
step-is s st bodies loads r b sums adv =
    let ms : List Meeting = meetings s st.bodies (centers_of s st.bodies) st.held (all_pairs s) in
    ap (λ ws. state_with (st.step + 1) (meetings s st.bodies (centers_of s st.bodies) st.held (all_pairs s)) (advanced_from s (st.step + 1) 0 s.clumps st.bodies ws)) (sym sums)
    ∙ ap (λ bs. state_with (st.step + 1) (meetings s st.bodies (centers_of s st.bodies) st.held (all_pairs s)) (advanced_from s (st.step + 1) 0 s.clumps bs loads)) (sym b)
    ∙ ap (state_with (st.step + 1) (meetings s st.bodies (centers_of s st.bodies) st.held (all_pairs s))) adv

-- the state that a step on a list leads to
abbrev pub next_state : ℕ → List Body → List Held → State
next_state step bodies held = record { step = step; bodies = bodies; held = held }

-- all that a step on a list starts from
pub record IsAbout (s : SceneValue) (drift step : ℕ) (bodies : List Body) (contacts : HeldByPlace) (centers : List Vec3) (loads : List Load) (fresh : List (Option Vec3)) : Type 0 where
  pub cover : Covers s drift (centers_of s (state_at s contacts.list.from).bodies) (centers_of s (state_at s step).bodies)
  pub pairs : contacts.list.pairs ≡ near_of s drift (centers_of s (state_at s contacts.list.from).bodies)
  pub agrees : Agrees s (state_at s step) (held_by contacts)
  pub bodies_are : bodies ≡ (state_at s step).bodies
  pub centers_are : centers ≡ centers_of s (state_at s step).bodies
  pub number : (state_at s step).step ≡ step
  pub met : HaveMet s bodies centers (held_by contacts) contacts.list.pairs loads fresh

about-all : (s : SceneValue) (drift step : ℕ) (bodies : List Body) (contacts : HeldByPlace) (centers : List Vec3) (loads : List Load) (fresh : List (Option Vec3)) →
    IsAbout s drift step bodies contacts centers loads fresh → IsMetAll s (state_at s step) contacts.list.pairs loads fresh
about-all s drift step bodies contacts centers loads fresh a =
    met-all s drift (centers_of s (state_at s contacts.list.from).bodies) (state_at s step) contacts.list.pairs (held_by contacts) bodies centers loads fresh
    a.cover a.pairs a.agrees a.bodies_are a.centers_are a.met

-- a step on a list that passes no limit is the plain step
pub step-made : (s : SceneValue) (drift step : ℕ) (bodies next : List Body) (contacts : HeldByPlace) (centers : List Vec3) (loads : List Load) (fresh : List (Option Vec3)) →
    IsAbout s drift step bodies contacts centers loads fresh → advanced_from s (step + 1) 0 s.clumps bodies loads ≡ Ok next →
    step_of s (state_at s step) ≡ Ok (next_state (step + 1) next (kept_of contacts.list.pairs fresh))
step-made s drift step bodies next contacts centers loads fresh a adv =
    let st : State = state_at s step in
    let all = about-all s drift step bodies contacts centers loads fresh a in
    let n : (state_at s step).step + 1 ≡ step + 1 = ap (λ m. m + 1) a.number in
    let adv' : advanced_from s ((state_at s step).step + 1) 0 s.clumps bodies loads ≡ Ok next = subst (λ m. advanced_from s m 0 s.clumps bodies loads ≡ Ok next) (sym n) adv in
    let held : state_with ((state_at s step).step + 1) (meetings s (state_at s step).bodies (centers_of s (state_at s step).bodies) (state_at s step).held (all_pairs s)) (Ok next)
    ≡ Ok (next_state ((state_at s step).step + 1) next (kept_of contacts.list.pairs fresh)) =
    unfold state_with in ap (λ es. Ok (next_state ((state_at s step).step + 1) next es)) (sym all.kept) in
    step-is s (state_at s step) bodies loads (Ok next) a.bodies_are all.sums adv'
    ∙ held
    ∙ ap (λ m. Ok (next_state m next (kept_of contacts.list.pairs fresh))) n

-- a step on a list ends where the plain step does
pub step-ends : (s : SceneValue) (drift step : ℕ) (bodies : List Body) (end : End) (contacts : HeldByPlace) (centers : List Vec3) (loads : List Load) (fresh : List (Option Vec3)) →
    IsAbout s drift step bodies contacts centers loads fresh → advanced_from s (step + 1) 0 s.clumps bodies loads ≡ Err end →
    step_of s (state_at s step) ≡ Err end
step-ends s drift step bodies end contacts centers loads fresh a adv =
    let all = about-all s drift step bodies contacts centers loads fresh a in
    let n : (state_at s step).step + 1 ≡ step + 1 = ap (λ m. m + 1) a.number in
    let adv' : advanced_from s ((state_at s step).step + 1) 0 s.clumps bodies loads ≡ Err end = subst (λ m. advanced_from s m 0 s.clumps bodies loads ≡ Err end) (sym n) adv in
    let none : state_with ((state_at s step).step + 1) (meetings s (state_at s step).bodies (centers_of s (state_at s step).bodies) (state_at s step).held (all_pairs s)) (Err end) ≡ Err end = unfold state_with in refl in
    step-is s (state_at s step) bodies loads (Err end) a.bodies_are all.sums adv' ∙ none

-- all of that, from what a run keeps and what its list has come to
pub about : (s : SceneValue) (drift step : ℕ) (listed : Bool) (bodies : List Body) (contacts : HeldByPlace) (centers : List Vec3) (loads : List Load) (fresh : List (Option Vec3)) →
    IsStepper s drift step listed bodies contacts → IsUsable s drift step contacts.list → centers ≡ centers_of s bodies →
    HaveMet s bodies centers (held_by contacts) contacts.list.pairs loads fresh → IsAbout s drift step bodies contacts centers loads fresh
about s drift step listed bodies contacts centers loads fresh h can filled met = record {
  cover = can.cover;
  pairs = can.near.pairs;
  agrees = h.agrees;
  bodies_are = h.bodies_are;
  centers_are = filled ∙ ap (centers_of s) h.bodies_are;
  number = plain-number s step (state_at s step) h.plain;
  met = met;
}
