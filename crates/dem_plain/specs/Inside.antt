-- What a plain run keeps and what its own functions say; no contract of a public call names any of it.
use Rattle.std.specs.Prelude.{ℕ, ◌≡◌, ◌+◌, All, Bool, true, List, [], ◌∷◌, map, Some, Result, Ok, Err, if◌then◌else◌}
use Rattle.dem_num.specs.declared.vector.Vec3.{Vec3}
use Rattle.dem_model.specs.SceneValue.{SceneValue}
use Rattle.dem_model.specs.Motion.{AreSound}
use Rattle.dem_model.specs.Pairs.{apart}
use Rattle.dem_model.specs.Plain.{plain_at}
use Rattle.dem_model.specs.Ranges.{IsSmall}
use Rattle.dem_model.specs.Sound.{IsSound}
use Rattle.dem_model.specs.Step.{Meeting, meetings, loads_of, held_in, advanced_from, step_of}
use Rattle.dem_model.specs.declared.law.Load.{Load}
use Rattle.dem_model.specs.declared.state.Body.{Body}
use Rattle.dem_model.specs.declared.state.Held.{Held}
use Rattle.dem_model.specs.declared.state.Pair.{Pair}
use Rattle.dem_model.specs.declared.state.State.{State}
use Rattle.dem_force.specs.Places.{HasPlaces}
use Rattle.dem_force.specs.declared.pushing.spheres.Spheres.{Spheres}
use Rattle.dem_force.specs.Stored.{AreStored}
use Rattle.dem_plain.specs.declared.met.Met.{Met}
use Rattle.dem_plain.specs.declared.stop.Stop.{Stop}
use Rattle.dem_plain.specs.declared.stop.Stop.TheVariants.{Ended, OutOfMemory}

-- what a run keeps: its state is that of the plain run where it began as that, its bodies are sound, what is held is within its range, and there is room for a step
pub record IsRun (s : SceneValue) (spheres : Spheres) (state : State) (from_first : Bool) : Type 0 where
  pub scene : IsSound s
  pub room : HasPlaces s spheres
  pub plain : from_first ≡ true → plain_at s state.step ≡ Some state
  pub bodies : AreSound s state.bodies
  pub held : AreStored state.held

-- a pair alone, where it is apart
abbrev pub one_apart : SceneValue → Pair → List Pair
one_apart s p = if apart s p then p ∷ [] else []

-- the loads are the sums over the meetings of these pairs, what is held is theirs, and each push is small
pub record Holds (s : SceneValue) (bodies : List Body) (centers : List Vec3) (held : List Held) (ps : List Pair) (met : Met) : Type 0 where
  pub sums : met.loads.items ≡ loads_of s (meetings s bodies centers held ps)
  pub kept : met.held ≡ map held_in (meetings s bodies centers held ps)
  pub small : All (λ (m : Meeting). IsSmall m.push) (meetings s bodies centers held ps)

-- the state after a state: that of the plain step, within all that a run keeps
pub record IsNext (s : SceneValue) (old new : State) : Type 0 where
  pub step : step_of s old ≡ Ok new
  pub number : new.step ≡ old.step + 1
  pub bodies : AreSound s new.bodies
  pub held : AreStored new.held

-- what comes after a state: the plain step, or its end
abbrev pub IsAfter : SceneValue → State → Result State Stop → Type 0
IsAfter s old (Ok new) = IsNext s old new
IsAfter s old (Err (Ended e)) = step_of s old ≡ Err e
IsAfter s old (Err OutOfMemory) = Unit {0}

-- the bodies after a step, each sound for its clump, or the first limit that one passes
abbrev pub Advances : SceneValue → ℕ → List Body → List Load → Result (List Body) Stop → Type 0
Advances s step bodies loads (Ok next) = (advanced_from s step 0 s.clumps bodies loads ≡ Ok next) × AreSound s next
Advances s step bodies loads (Err (Ended e)) = advanced_from s step 0 s.clumps bodies loads ≡ Err e
Advances s step bodies loads (Err OutOfMemory) = Unit {0}
