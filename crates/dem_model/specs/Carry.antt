-- What is held of the pairs of a list, and how it goes on to the next list.
use Rattle.std.specs.Prelude.{◌≡◌, true, List, [], ◌∷◌, map, All, Option, is_some}
use Rattle.std.specs.List.{cons_option}
use Rattle.std.specs.Option.{option_map}
use Rattle.dem_num.specs.declared.vector.Vec3.{Vec3}
use Rattle.dem_model.specs.SceneValue.{SceneValue}
use Rattle.dem_model.specs.Pairs.{all_pairs}
use Rattle.dem_model.specs.Centers.{centers_of, touch_of}
use Rattle.dem_model.specs.Step.{held_at}
use Rattle.dem_model.specs.declared.state.Held.{Held}
use Rattle.dem_model.specs.declared.state.Pair.{Pair}
use Rattle.dem_model.specs.declared.state.State.{State}

-- what is held of a pair
abbrev pub held_of : Pair → Vec3 → Held
held_of p h = record { pair = p; h = h }

-- what is held of the pairs that have an entry, in order
unfoldable pub kept_of : List Pair → List (Option Vec3) → List Held
kept_of [] es = []
kept_of (p ∷ ps) [] = []
kept_of (p ∷ ps) (e ∷ es) = cons_option (option_map (held_of p) e) (kept_of ps es)

-- each pair of a new list keeps its entry, and a pair that had none has None
unfoldable pub carried : List Pair → List (Option Vec3) → List Pair → List (Option Vec3)
carried ps es new = map (held_at (kept_of ps es)) new

-- what is held of each pair that touches in a state is what the state holds of it
abbrev pub Agrees : SceneValue → State → List Held → Type 0
Agrees s st held = All (λ p. is_some (touch_of s (centers_of s st.bodies) p) ≡ true → held_at held p ≡ held_at st.held p) (all_pairs s)
