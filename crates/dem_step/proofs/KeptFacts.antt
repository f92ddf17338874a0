-- What a run on lists keeps: at its start, after a step, after a list was taken into use.
use Rattle.std.proofs.Common.{◌≡◌, ℕ, ◌+◌, ◌<◌, ◌≤◌, List, [], length, get_or, take, refl, sym, ap, ◌∙◌, arith, subst, Bool, true, false, Option, Some, Ok}
use Rattle.std.specs.Prelude.{All}
use Rattle.std.proofs.lemmas.List.{length-take-le, length-map}
use Rattle.std.proofs.lemmas.List.Elements.{All-nil}
use Rattle.dem_num.specs.declared.vector.Vec3.{Vec3}
use Rattle.dem_model.specs.SceneValue.{SceneValue}
use Rattle.dem_model.specs.Sound.{IsSound}
use Rattle.dem_model.specs.Carry.{kept_of, carried, Agrees}
use Rattle.dem_model.specs.Centers.{centers_of}
use Rattle.dem_model.specs.Motion.{AreSound, IsPair}
use Rattle.dem_model.specs.Near.{near_of}
use Rattle.dem_model.specs.Pairs.{all_pairs}
use Rattle.dem_model.specs.Plain.{first_state, plain_at}
use Rattle.dem_model.specs.Step.{meetings, held_at, step_of}
use Rattle.dem_model.specs.declared.law.Load.{Load}
use Rattle.dem_model.specs.declared.state.Body.{Body}
use Rattle.dem_model.specs.declared.state.Held.{Held}
use Rattle.dem_model.specs.declared.state.Pair.{Pair}
use Rattle.dem_model.specs.declared.state.State.{State}
use Rattle.dem_model.specs.Counts.{pair_count}
use Rattle.dem_shape.specs.declared.snapshot.Snapshot.{Snapshot}
use Rattle.dem_model.specs.declared.limits.TheConstants.{MAX_DRIFT}
use Rattle.dem_force.specs.Stored.{AreStored, IsStored}
use Rattle.dem_list.specs.Ascending.{Pairs, IsAscending}
use Rattle.dem_list.proofs.AscendingFacts.{IsAscending-none}
use Rattle.dem_hist.specs.Carrying.{HeldByPlace}
use Rattle.dem_margin.specs.NearList.{IsNearListOf}
use Rattle.dem_hist.proofs.CarryFacts.{length-carried}
use Rattle.dem_plain.proofs.RunFacts.{stored_from, plain_first, first_sound}
use Rattle.dem_step.specs.Contacts.{ArePairs, IsHeldIn}
use Rattle.dem_step.specs.Stepper.{state_at, IsSnapshotOfRun, IsListOfRun}
use Rattle.dem_step.specs.Inside.{IsStepper, HaveMet}
use Rattle.dem_step.proofs.ListFacts.{kept_of-take, stored-within, carried-within, agrees-carried, only-carried}
use Rattle.dem_step.proofs.StepFacts.{state_at-is, plain-after, list-covers, list-pairs, next_state}

-- a list and what is held of its pairs
abbrev pub contacts_of : Pairs → List (Option Vec3) → HeldByPlace
contacts_of list entries = record { list = list; entries = entries }

-- what is held as in a state is what the next step needs
agrees-same : (s : SceneValue) (st : State) (held : List Held) → held ≡ st.held → Agrees s st held
agrees-same s st held e = λ k d lt touches. ap (λ es. held_at es (get_or (all_pairs s) k d)) e

-- what is held as in a state is held there
only-same : (st : State) (held : List Held) → held ≡ st.held → IsHeldIn st held
only-same st held e = λ p h found. ap (λ es. held_at es p) (sym e) ∙ found

-- no pairs are pairs, and few
no_pairs : (s : SceneValue) → ArePairs s []
no_pairs s = record { each = All-nil (IsPair s); few = λ c. unfold pair_count in omega arith }

-- the displacements of small pushes are within their range
fresh-within : (s : SceneValue) (bodies : List Body) (centers : List Vec3) (held : List Held) (ps : List Pair) (loads : List Load) (fresh : List (Option Vec3)) →
    length ps ≤ length fresh → HaveMet s bodies centers held ps loads fresh → All IsStored (take (length ps) fresh)
fresh-within s bodies centers held ps loads fresh room met =
    let stored : AreStored (kept_of ps fresh) = subst AreStored (sym met.kept) (stored_from (meetings s bodies centers held ps) met.small) in
    stored-within ps (take (length ps) fresh) (length-take-le (length ps) fresh room) (subst AreStored (sym (kept_of-take ps fresh)) stored)

-- after a step
pub stepper-next : (s : SceneValue) (drift step : ℕ) (listed : Bool) (bodies next : List Body) (list : Pairs) (entries fresh : List (Option Vec3)) (held : List Held) (centers : List Vec3) (loads : List Load) →
    IsStepper s drift step listed bodies (contacts_of list entries) → step < s.steps → step_of s (state_at s step) ≡ Ok (next_state (step + 1) next (kept_of list.pairs fresh)) →
    AreSound s next → length list.pairs ≤ length fresh → HaveMet s bodies centers held list.pairs loads fresh →
    IsStepper s drift (step + 1) listed next (contacts_of list (take (length list.pairs) fresh))
stepper-next s drift step listed bodies next list entries fresh held centers loads h lt made sound room met =
    let plain : plain_at s (step + 1) ≡ Some (next_state (step + 1) next (kept_of list.pairs fresh)) =
    plain-after s step (state_at s step) (next_state (step + 1) next (kept_of list.pairs fresh)) h.plain lt made in
    let is : state_at s (step + 1) ≡ next_state (step + 1) next (kept_of list.pairs fresh) = state_at-is s (step + 1) (next_state (step + 1) next (kept_of list.pairs fresh)) plain in
    record {
      scene = h.scene;
      drift_le = h.drift_le;
      plain = plain ∙ ap Some (sym is);
      bodies_are = ap (λ (x : State). x.bodies) (sym is);
      sound = sound;
      contacts_are = record {
        pairs = h.contacts_are.pairs;
        ascends = h.contacts_are.ascends;
        as_many = length-take-le (length list.pairs) fresh room;
        stored = fresh-within s bodies centers held list.pairs loads fresh room met;
      };
      agrees = agrees-same s (state_at s (step + 1)) (kept_of list.pairs (take (length list.pairs) fresh)) (kept_of-take list.pairs fresh ∙ ap (λ (x : State). x.held) (sym is));
      only = only-same (state_at s (step + 1)) (kept_of list.pairs (take (length list.pairs) fresh)) (kept_of-take list.pairs fresh ∙ ap (λ (x : State). x.held) (sym is));
      near = h.near;
      past = λ e. let p : list.from ≤ step = h.past e in omega arith;
    }

-- the state after a step is the next one
pub state-next : (s : SceneValue) (step : ℕ) (next : List Body) (held : List Held) → plain_at s step ≡ Some (state_at s step) → step < s.steps →
    step_of s (state_at s step) ≡ Ok (next_state (step + 1) next held) → state_at s (step + 1) ≡ next_state (step + 1) next held
state-next s step next held plain lt made =
    state_at-is s (step + 1) (next_state (step + 1) next held) (plain-after s step (state_at s step) (next_state (step + 1) next held) plain lt made)

-- after a list was taken into use
pub stepper-adopts : (s : SceneValue) (drift step : ℕ) (listed : Bool) (bodies : List Body) (old new : Pairs) (entries : List (Option Vec3)) →
    IsStepper s drift step listed bodies (contacts_of old entries) → IsListOfRun s drift new → IsAscending new.pairs → new.from ≤ step → step ≤ new.from + drift →
    IsStepper s drift step true bodies (contacts_of new (carried old.pairs entries new.pairs))
stepper-adopts s drift step listed bodies old new entries h near ascends past young = record {
  scene = h.scene;
  drift_le = h.drift_le;
  plain = h.plain;
  bodies_are = h.bodies_are;
  sound = h.sound;
  contacts_are = record {
    pairs = list-pairs s drift new h.scene near;
    ascends = ascends;
    as_many = length-carried old.pairs entries new.pairs;
    stored = carried-within old.pairs entries new.pairs h.contacts_are.stored;
  };
  agrees = agrees-carried s drift (state_at s step) (centers_of s (state_at s new.from).bodies) old.pairs new.pairs entries
      (list-covers s drift step new h.scene h.plain near past young) near.pairs h.agrees;
  only = only-carried (state_at s step) old.pairs new.pairs entries h.only;
  near = λ e. near;
  past = λ e. past;
}

-- nothing is held at the start
none_held : (s : SceneValue) → (first_state s).held ≡ []
unfolding first_state
none_held s = refl

none_kept : kept_of [] [] ≡ []
unfolding kept_of
none_kept = refl

-- at the start
pub stepper-first : (s : SceneValue) (drift : ℕ) (bodies : List Body) → IsSound s → drift ≤ MAX_DRIFT → bodies ≡ (first_state s).bodies →
    IsStepper s drift 0 false bodies (contacts_of (record { from = 0; pairs = [] }) [])
stepper-first s drift bodies sound le e =
    let is : state_at s 0 ≡ first_state s = state_at-is s 0 (first_state s) (plain_first s) in
    record {
      scene = sound;
      drift_le = le;
      plain = plain_first s ∙ ap Some (sym is);
      bodies_are = e ∙ ap (λ (x : State). x.bodies) (sym is);
      sound = subst (AreSound s) (sym e) (first_sound s sound);
      contacts_are = record { pairs = no_pairs s; ascends = IsAscending-none [] refl; as_many = refl; stored = All-nil IsStored };
      agrees = agrees-same s (state_at s 0) (kept_of [] []) (none_kept ∙ sym (none_held s) ∙ ap (λ (x : State). x.held) (sym is));
      only = only-same (state_at s 0) (kept_of [] []) (none_kept ∙ sym (none_held s) ∙ ap (λ (x : State). x.held) (sym is));
      near = λ (no : false ≡ true). cc;
      past = λ (no : false ≡ true). cc;
    }

-- a body for each clump at the start
pub first-count : (s : SceneValue) (bodies : List Body) → bodies ≡ (first_state s).bodies → length bodies ≡ length s.clumps
unfolding first_state
first-count s bodies e = ap length e ∙ length-map s.clumps _

-- the near list of a snapshot of the plain run is a list of the run
pub list-of-run : (s : SceneValue) (drift : ℕ) (snap : Snapshot) (list : Pairs) → IsSnapshotOfRun s snap → IsNearListOf s drift snap list → IsListOfRun s drift list
list-of-run s drift snap list shown near = record {
  there = subst (λ n. plain_at s n ≡ Some (state_at s n)) (sym near.from) shown.there;
  pairs = near.pairs
      ∙ ap (λ (bs : List Body). near_of s drift (centers_of s bs)) shown.bodies
      ∙ ap (λ n. near_of s drift (centers_of s (state_at s n).bodies)) (sym near.from);
}

-- the number and the bodies of the state where a run stands are a snapshot of the plain run
pub snapshot-of-run : (s : SceneValue) (n : ℕ) (bodies : List Body) (snap : Snapshot) → snap.step ≡ n → snap.bodies ≡ bodies →
    plain_at s n ≡ Some (state_at s n) → bodies ≡ (state_at s n).bodies → AreSound s bodies → IsSnapshotOfRun s snap
snapshot-of-run s n bodies snap number same plain are sound = record {
  there = subst (λ m. plain_at s m ≡ Some (state_at s m)) (sym number) plain;
  bodies = same ∙ are ∙ ap (λ m. (state_at s m).bodies) (sym number);
  sound = subst (AreSound s) (sym same) sound;
}
