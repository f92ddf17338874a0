-- The plain step: every pair is tested, each touching pair pushes, the pushes are summed, and each body advances.
use Rattle.std.specs.Prelude.{ℕ, ◌+◌, ◌==◌, Bool, false, ◌&&◌, List, [], ◌∷◌, length, map, drop, fold, find, Option, Result, Ok, Err, nat_lt, slice_index_or, unwrap_or, if◌then◌else◌}
use Rattle.std.specs.List.{filter_map, range_with_len}
use Rattle.std.specs.Option.{option_map}
use Rattle.dem_num.specs.declared.vector.Vec3.{Vec3}
use Rattle.dem_num.specs.declared.vector.Wide3.{Wide3}
use Rattle.dem_num.specs.Vectors.{widened, narrowed, no_vector, sum_of, opposed}
use Rattle.dem_num.specs.Rotations.{turned_of}
use Rattle.dem_model.specs.SceneValue.{SceneValue}
use Rattle.dem_model.specs.Pairs.{sphere_count, sphere_at, wall_at, all_pairs}
use Rattle.dem_model.specs.Centers.{still_body, body_at, centers_of, touch_of}
use Rattle.dem_model.specs.Mixing.{mixed_of}
use Rattle.dem_model.specs.Law.{contact_of}
use Rattle.dem_model.specs.Ranges.{wall_side_of}
use Rattle.dem_model.specs.Advance.{mass_of, advance_of}
use Rattle.dem_model.specs.declared.law.Law.{Law}
use Rattle.dem_model.specs.declared.law.Load.{Load}
use Rattle.dem_model.specs.declared.law.Push.{Push}
use Rattle.dem_model.specs.declared.law.Side.{Side}
use Rattle.dem_model.specs.declared.law.Touch.{Touch}
use Rattle.dem_model.specs.declared.shape.Ball.{Ball}
use Rattle.dem_model.specs.declared.shape.Material.{Material}
use Rattle.dem_model.specs.declared.state.Body.{Body}
use Rattle.dem_model.specs.declared.state.Clump.{Clump}
use Rattle.dem_model.specs.declared.state.End.{End}
use Rattle.dem_model.specs.declared.state.EndKind.{EndKind}
use Rattle.dem_model.specs.declared.state.Held.{Held}
use Rattle.dem_model.specs.declared.state.Pair.{Pair}
use Rattle.dem_model.specs.declared.state.State.{State}

-- the material that stands where a number names none
abbrev pub no_material : Material
no_material = record { kn = 1; kt = 0; bn = 0; bt = 0; mu = 0; mr = 0 }

-- a material by its number
unfoldable pub material_at : SceneValue → ℕ → Material
material_at s i = slice_index_or s.materials i no_material

-- the clump that stands where a number names none
abbrev pub no_clump : Clump
no_clump = record { t = 0; family = 0; body = body_at [] 0 }

-- a clump by its number
unfoldable pub clump_at : SceneValue → ℕ → Clump
clump_at s k = slice_index_or s.clumps k no_clump

-- the material of the second of a pair: of its sphere or of its wall
unfoldable pub second_material_of : SceneValue → Pair → Material
second_material_of s p = if nat_lt p.b (sphere_count s) then material_at s (sphere_at s p.b).ball.mat else material_at s (wall_at s p.b).mat

-- the law between a pair
unfoldable pub law_of : SceneValue → Pair → Law
law_of s p = mixed_of (material_at s (sphere_at s p.a).ball.mat) (second_material_of s p)

-- the side of a sphere: the velocity and the world spin of its clump, its turned offset, its radius, its clump's mass
unfoldable pub side_with : ℕ → Body → Ball → Side
side_with mass b x = record {
  v = b.v;
  spin = narrowed (turned_of b.q (widened b.w));
  lever = narrowed (turned_of b.q (widened x.at));
  r = x.r;
  mass = mass;
  wall = false;
}

-- the clump of a sphere, by the number of the sphere
abbrev pub clump_of_sphere : SceneValue → ℕ → Clump
clump_of_sphere s i = clump_at s (sphere_at s i).clump

-- the side of a sphere by its number, where its clump has this body
unfoldable pub side_of : SceneValue → Body → ℕ → Side
side_of s b i = side_with (mass_of s.templates (clump_of_sphere s i).t) b (sphere_at s i).ball

-- the side of a sphere by its number
unfoldable pub side_at : SceneValue → List Body → ℕ → Side
side_at s bodies i = side_of s (body_at bodies (sphere_at s i).clump) i

-- the second side of a pair
unfoldable pub second_side_of : SceneValue → List Body → Pair → Side
second_side_of s bodies p = if nat_lt p.b (sphere_count s) then side_at s bodies p.b else wall_side_of

-- what a touching pair does, with the displacement stored for it
unfoldable pub push_of : SceneValue → List Body → Pair → Touch → Vec3 → Push
push_of s bodies p t h = contact_of (law_of s p) (side_at s bodies p.a) (second_side_of s bodies p) t h

-- a pair that touches, and what it does
pub record Meeting : Type 0 where
  pub pair : Pair
  pub push : Push

-- whether two pairs are one
unfoldable pub same_pair : Pair → Pair → Bool
same_pair p q = (p.a == q.a) && (p.b == q.b)

-- the displacement that is held for a pair
unfoldable pub held_at : List Held → Pair → Option Vec3
held_at es p = option_map (λ (e : Held). e.h) (find (λ (e : Held). same_pair e.pair p) es)

-- the meeting of a pair, where it touches
unfoldable pub meeting : SceneValue → List Body → List Vec3 → Pair → Option Vec3 → Option Meeting
meeting s bodies centers p h =
    option_map (λ (t : Touch). record { pair = p; push = push_of s bodies p t (unwrap_or h (narrowed no_vector)) }) (touch_of s centers p)

-- the meetings among these pairs, in their order
unfoldable pub meetings : SceneValue → List Body → List Vec3 → List Held → List Pair → List Meeting
meetings s bodies centers held ps = filter_map (λ p. meeting s bodies centers p (held_at held p)) ps

-- no force and no torque
abbrev pub no_load : Load
no_load = record { force = no_vector; torque = no_vector }

-- a load and what is added to it
abbrev pub load_plus : Load → Wide3 → Wide3 → Load
load_plus w force torque = record { force = sum_of w.force force; torque = sum_of w.torque torque }

-- the clump of the first of a pair
unfoldable pub first_clump : SceneValue → Pair → ℕ
first_clump s p = (sphere_at s p.a).clump

-- whether the second of a pair is a sphere of this clump
unfoldable pub is_second : SceneValue → ℕ → Pair → Bool
is_second s c p = nat_lt p.b (sphere_count s) && ((sphere_at s p.b).clump == c)

-- a clump's load with one more meeting: the push where its sphere is the first, the opposite push where it is the second
unfoldable pub load_with : SceneValue → ℕ → Load → Meeting → Load
load_with s c w m =
    if first_clump s m.pair == c then load_plus w m.push.force m.push.torque_a
    else (if is_second s c m.pair then load_plus w (opposed m.push.force) m.push.torque_b else w)

-- what a clump feels of these meetings
unfoldable pub load_on : SceneValue → List Meeting → ℕ → Load
load_on s ms c = fold (load_with s c) no_load ms

-- the load of each clump with one more meeting
unfoldable pub loads_with : SceneValue → List Load → Meeting → List Load
loads_with s ws m = map (λ c. load_with s c (slice_index_or ws c no_load) m) (range_with_len 0 (length ws))

-- what each clump feels of these meetings
unfoldable pub loads_of : SceneValue → List Meeting → List Load
loads_of s ms = map (load_on s ms) (range_with_len 0 (length s.clumps))

-- a limit that a clump passes in a step, with its number and that of the step
unfoldable pub ended : ℕ → ℕ → Result Body EndKind → Result Body End
ended step k (Ok b) = Ok b
ended step k (Err kind) = Err (record { step = step; kind = kind; clump = k })

-- a first result and later ones; the first refusal counts
unfoldable pub joined : Result Body End → Result (List Body) End → Result (List Body) End
joined (Err e) rest = Err e
joined (Ok b) (Err e) = Err e
joined (Ok b) (Ok bs) = Ok (b ∷ bs)

-- the first of some bodies; a clump for which there is none is at rest at the origin
abbrev pub first_body : List Body → Body
first_body [] = still_body
first_body (b ∷ bs) = b

-- the first of some loads; a clump for which there is none feels nothing
abbrev pub first_load : List Load → Load
first_load [] = no_load
first_load (w ∷ ws) = w

-- the bodies of the clumps from number k on after the step, or the first limit that one of them passes
unfoldable pub advanced_from : SceneValue → ℕ → ℕ → List Clump → List Body → List Load → Result (List Body) End
advanced_from s step k [] bs ws = Ok []
advanced_from s step k (c ∷ cs) bs ws =
    joined (ended step k (advance_of s c (first_body bs) (first_load ws))) (advanced_from s step (k + 1) cs (drop 1 bs) (drop 1 ws))

-- the pair and the new displacement of a meeting
unfoldable pub held_in : Meeting → Held
held_in m = record { pair = m.pair; h = m.push.h }

-- the state that these bodies and meetings lead to
unfoldable pub state_with : ℕ → List Meeting → Result (List Body) End → Result State End
state_with step ms (Err e) = Err e
state_with step ms (Ok bodies) = Ok (record { step = step; bodies = bodies; held = map held_in ms })

-- the step with these meetings, or its end
unfoldable pub step_with : SceneValue → State → List Meeting → Result State End
step_with s st ms = state_with (st.step + 1) ms (advanced_from s (st.step + 1) 0 s.clumps st.bodies (loads_of s ms))

-- the plain step of a state, or its end: every pair is tested
unfoldable pub step_of : SceneValue → State → Result State End
step_of s st = step_with s st (meetings s st.bodies (centers_of s st.bodies) st.held (all_pairs s))
