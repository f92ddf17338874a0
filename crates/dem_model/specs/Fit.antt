-- States that a run may go on from.
use Rattle.std.specs.Prelude.{◌≤◌, List, map, All}
use Rattle.std.specs.List.Sorted.{IsStrictlySortedBy}
use Rattle.dem_num.specs.Vectors.{widened, Within}
use Rattle.dem_model.specs.SceneValue.{SceneValue}
use Rattle.dem_model.specs.Motion.{AreSound, IsPair}
use Rattle.dem_model.specs.Pairs.{pair_cmp}
use Rattle.dem_model.specs.declared.limits.TheConstants.{MAX_DISPLACEMENT}
use Rattle.dem_model.specs.declared.state.Held.{Held}
use Rattle.dem_model.specs.declared.state.Pair.{Pair}
use Rattle.dem_model.specs.declared.state.State.{State}

-- the pairs of which something is held
abbrev pub held_pairs : List Held → List Pair
held_pairs held = map (λ (e : Held). e.pair) held

-- a state is fit for a scene: its number, its bodies and what is held are such as a run of the scene may have
pub record IsFit (s : SceneValue) (st : State) : Type 0 where
  pub step : st.step ≤ s.steps
  pub bodies : AreSound s st.bodies
  pub ascending : IsStrictlySortedBy pair_cmp (held_pairs st.held)
  pub pairs : All (λ (e : Held). IsPair s e.pair) st.held
  pub stored : All (λ (e : Held). Within (widened e.h) MAX_DISPLACEMENT) st.held
