-- The made scene is sound: each range, each limit, and each sphere in the box.
use Rattle.std.proofs.Common.{◌≡◌, ℕ, ◌+◌, ◌*◌, ◌/◌, ◌%◌, ◌≤◌, ◌<◌, ℤ, pos, negsuc, List, [], ◌∷◌, length, refl, sym, ap, ◌∙◌, ⊎_elim, subst, arith, rules, map, Option, Some, Bool, ◌&&◌}
use Rattle.std.specs.Prelude.{All, IsTrue, ◌+ℤ◌, unsigned_abs}
use Rattle.std.specs.List.{range_with_len}
use Rattle.std.specs.Option.{option_map_or}
use Rattle.std.proofs.lemmas.Bool.{lt-ltb, le-ltb, cases_lt}
use Rattle.std.proofs.lemmas.Int.{ints}
use Rattle.std.proofs.lemmas.Nat.{mod_below, div_below, mul-le}
use Rattle.std.proofs.lemmas.List.{length-append, length-map}
use Rattle.std.proofs.lemmas.Option.{slice_get-get_or, slice_get_past}
use Rattle.std.proofs.lemmas.List.Elements.{All-nil, All-cons}
use Rattle.std.proofs.lemmas.List.FromFn.{get_or-map-range_with_len, length-map-range_with_len}
use Rattle.dem_num.specs.declared.vector.Vec3.{Vec3}
use Rattle.dem_num.specs.Vectors.{no_vector, widened, dot_of, sum_of, Within}
use Rattle.dem_num.specs.Numbers.{quotient, shifted}
use Rattle.dem_num.specs.Rotations.{quat_norm2_of, matrix_of, turned_by, turned_of, matrix_entry_of, axial, mixed_sum, mixed_difference}
use Rattle.dem_model.specs.SceneValue.{SceneValue}
use Rattle.dem_model.specs.Position.{in_box, in_voxels}
use Rattle.dem_model.specs.Spheres.{balls_of, spheres_of, spheres_from, spheres_of_clump, sphere_of, center_of}
use Rattle.dem_model.specs.Sound.{IsFrom, EachBetween, IsMaterial, IsBall, IsTemplate, IsClump, IsWall, IsMotion, IsOff, IsSound}
use Rattle.dem_model.specs.Centers.{still_body}
use Rattle.dem_model.specs.declared.limits.TheConstants.{MAX_MOMENT, MAX_OFFSET, MAX_SPHERES, MIN_NORM2, MAX_NORM2, VOXEL}
use Rattle.dem_model.specs.declared.shape.Ball.{Ball}
use Rattle.dem_model.specs.declared.shape.Material.{Material}
use Rattle.dem_model.specs.declared.shape.Template.{Template}
use Rattle.dem_model.specs.declared.shape.Wall.{Wall}
use Rattle.dem_model.specs.declared.state.Body.{Body}
use Rattle.dem_model.specs.declared.state.Clump.{Clump}
use Rattle.dem_model.specs.declared.family.Motion.{Motion}
use Rattle.dem_model.specs.declared.family.Off.{Off}
use Rattle.dem_model.specs.Made.{made_ball, made_clump, made_clumps, made_floor, made_material, made_place, made_template, made_templates, made_velocity, place_in, speed_from, state_after, word_of}

-- the scene with these lists
abbrev pub made_with : (edge : ℕ) → List Material → List Template → List Wall → List Clump → List Motion → List Off → SceneValue
made_with edge materials templates walls clumps motions off = record {
  nx = 32 * (edge + 2);
  ny = 32 * (edge + 2);
  nz = 32 * (edge + 2);
  steps = 100;
  every = 100;
  speed = 134217728;
  spin = 1048576;
  gravity = record { x = pos 0; y = pos 0; z = negsuc 641 };
  materials = materials;
  templates = templates;
  walls = walls;
  clumps = clumps;
  motions = motions;
  off = off;
}

-- ---- lists

All-map : {X : Type 0} (P : X → Type 0) (f : ℕ → X) (n : ℕ) → ((j : ℕ) → j < n → P (f j)) → All P (map f (range_with_len 0 n))
All-map P f n each = λ k d lt.
    let below : k < n = omega (arith, length-map-range_with_len f 0 n, lt) in
    subst P (sym (get_or-map-range_with_len f 0 n k k d below (omega arith))) (each k below)

-- ---- what doesn't depend on words

still : (m : ℕ) → Within no_vector m
still m = record { x = omega arith; y = omega arith; z = omega arith }

norm2 : IsFrom MIN_NORM2 MAX_NORM2 (quat_norm2_of still_body.q)
unfolding quat_norm2_of
norm2 = record { low_le = omega arith; le_high = omega arith }

material_sound : IsMaterial made_material
material_sound = record {
  kn = record { low_le = omega arith; le_high = omega arith };
  kt = omega arith;
  bn = omega arith;
  bt = omega arith;
  mu = omega arith;
  mr = omega arith;
}

no_offset : turned_of still_body.q no_vector ≡ no_vector
unfolding turned_by matrix_of matrix_entry_of axial mixed_sum mixed_difference quotient quat_norm2_of dot_of shifted
no_offset = refl

floor_sound : (templates : List Template) → IsWall 1 templates made_floor
floor_sound templates = record {
  form = (
    record {
      x = record { low_le = search rules; le_high = search rules };
      y = record { low_le = search rules; le_high = search rules };
      z = record { low_le = search rules; le_high = search rules };
    },
    record { x = omega arith; y = omega arith; z = omega arith },
    refl,
  );
  mat = omega arith;
}

-- ---- templates

moments_sound : (words : ℕ) → EachBetween (pos 1) (pos MAX_MOMENT) (made_template words).moments
unfolding made_template
moments_sound words = record {
  x = record { low_le = search rules; le_high = search rules };
  y = record { low_le = search rules; le_high = search rules };
  z = record { low_le = search rules; le_high = search rules };
}

ball_sound : (words : ℕ) → IsBall 1 (made_ball words)
unfolding made_ball
ball_sound words = record {
  at = still MAX_OFFSET;
  r = record { low_le = omega arith; le_high = omega (arith, mod_below (word_of words 0) 32768 (omega arith)) };
  mat = omega arith;
}

template_sound : (words : ℕ) → IsTemplate 1 (made_template words)
unfolding made_template
template_sound words = record {
  mass = record { low_le = omega arith; le_high = omega arith };
  moments = moments_sound words;
  count = record { low_le = omega arith; le_high = omega arith };
  balls = All-cons (IsBall 1) (made_ball words) [] (ball_sound words) (All-nil (IsBall 1));
}

templates_sound : (words : ℕ) → All (IsTemplate 1) (made_templates words)
unfolding made_templates
templates_sound words = All-map (IsTemplate 1) (λ j. made_template (state_after words j)) 4 (λ j lt. template_sound (state_after words j))

template_count : (words : ℕ) → length (made_templates words) ≡ 4
unfolding made_templates
template_count words = refl

balls_one : (words : ℕ) → (made_template words).balls ≡ made_ball words ∷ []
unfolding made_template
balls_one words = refl

-- the sphere of a template
balls_at : (words t : ℕ) → t < 4 → balls_of (made_templates words) t ≡ made_ball (state_after words t) ∷ []
unfolding balls_of made_templates
balls_at words t lt =
    let f = λ (j : ℕ). made_template (state_after words j) in
    let d = made_template words in
    let in_list : t < length (map f (range_with_len 0 4)) = omega (arith, length-map-range_with_len f 0 4, lt) in
    ap (λ (o : Option Template). option_map_or (λ (x : Template). x.balls) o [])
    (slice_get-get_or (map f (range_with_len 0 4)) t d in_list ∙ ap Some (get_or-map-range_with_len f 0 4 t t d lt (omega arith)))
    ∙ balls_one (state_after words t)

-- no sphere where there is no template
no_balls : (words t : ℕ) → 4 ≤ t → balls_of (made_templates words) t ≡ []
unfolding balls_of made_templates
no_balls words t le =
    ap (λ (o : Option Template). option_map_or (λ (x : Template). x.balls) o [])
    (slice_get_past (map (λ j. made_template (state_after words j)) (range_with_len 0 4)) t (omega (arith, length-map-range_with_len (λ j. made_template (state_after words j)) 0 4, le)))

-- ---- places

in_voxels-pos : (n m : ℕ) → m < n * VOXEL → IsTrue (in_voxels n (pos m))
unfolding in_voxels
in_voxels-pos n m lt =
    let a = le-ltb m 0 (omega arith) in
    let b = lt-ltb m (n * VOXEL) lt in
    rw (a, b) refl

place_inside : (edge cell word : ℕ) → cell < edge → IsTrue (in_voxels (32 * (edge + 2)) (place_in cell word))
unfolding place_in
place_inside edge cell word below =
    in_voxels-pos (32 * (edge + 2)) (2097152 * (cell + 1) + 1048576 + word % 16384) (omega (arith, mod_below word 16384 (omega arith)))

both : (x y z : Bool) → IsTrue x → IsTrue y → IsTrue z → IsTrue (x && y && z)
both x y z a b c = rw (a, b, c) refl

at_most : (z : ℤ) (m n : ℕ) → unsigned_abs z ≤ m → m ≤ n → unsigned_abs z ≤ n
at_most z m n a b = omega arith

speed_small : (word : ℕ) → unsigned_abs (speed_from word) ≤ 134217728
unfolding speed_from
speed_small word = omega (arith, ints, mod_below word 16777216 (omega arith))

velocity_sound : (words : ℕ) → Within (widened (made_velocity words)) 134217728
unfolding made_velocity
velocity_sound words = record { x = speed_small (word_of words 0); y = speed_small (word_of words 1); z = speed_small (word_of words 2) }

add-none : (z : ℤ) → z +ℤ pos 0 ≡ z
add-none z = omega (arith, ints)

unmoved : (p : Vec3) → sum_of (widened p) no_vector ≡ widened p
unmoved p = λ i. record { x = add-none p.x i; y = add-none p.y i; z = add-none p.z i }

module _ (words edge i : ℕ) (some : 1 ≤ edge) (room : i < edge * edge * edge) where
  cube : i < edge * (edge * edge)
  cube = grind arith

  place_sound : (s : SceneValue) → s.nx ≡ 32 * (edge + 2) → s.ny ≡ 32 * (edge + 2) → s.nz ≡ 32 * (edge + 2) → IsTrue (in_box s (widened (made_place words edge i)))
  unfolding in_box made_place
  place_sound s x y z =
      let area : 0 < edge * edge = grind (arith, mul-le 1 1 edge edge) in
      rw (x, y, z)
      (both _ _ _ (place_inside edge (i % edge) (word_of words 0) (mod_below i edge (omega arith)))
      (place_inside edge (i / edge % edge) (word_of words 1) (mod_below (i / edge) edge (omega arith)))
      (place_inside edge (i / (edge * edge)) (word_of words 2) (div_below i (edge * edge) edge area cube)))

-- a body as made, at this place and with this velocity
abbrev body_with : Vec3 → Vec3 → Body
body_with p v = record still_body { p = p; v = v }

center_is : (p v : Vec3) (words : ℕ) → center_of (body_with p v) (made_ball words) ≡ widened p
unfolding center_of made_ball
center_is p v words = ap (λ t. sum_of (widened p) t) no_offset ∙ unmoved p

-- one clump of a scene with these templates
module _ (words seed edge i : ℕ) (some : 1 ≤ edge) (room : i < edge * edge * edge) (materials : List Material) (walls : List Wall) (clumps : List Clump) where
  abbrev scene : SceneValue
  scene = made_with edge materials (made_templates seed) walls clumps [] []

  at : IsTrue (in_box scene (widened (made_place (state_after words 1) edge i)))
  at = place_sound (state_after words 1) edge i some room scene refl refl refl

  template_below : word_of words 0 % 4 < 4
  template_below = mod_below (word_of words 0) 4 (omega arith)

  abbrev body : Body
  body = body_with (made_place (state_after words 1) edge i) (made_velocity (state_after words 4))

  centers : All (λ (x : Ball). IsTrue (in_box scene (center_of body x))) (balls_of (made_templates seed) (word_of words 0 % 4))
  centers =
      let P = λ (x : Ball). IsTrue (in_box scene (center_of body x)) in
      let ball = state_after seed (word_of words 0 % 4) in
      subst (All P) (sym (balls_at seed (word_of words 0 % 4) template_below))
      (All-cons P (made_ball ball) []
      (subst (λ c. IsTrue (in_box scene c)) (sym (center_is (made_place (state_after words 1) edge i) (made_velocity (state_after words 4)) ball)) at)
      (All-nil P))

  clump_sound : IsClump scene (made_clump words edge i)
  unfolding made_clump
  clump_sound = record {
    t = omega (arith, template_below, template_count seed);
    family = omega arith;
    body = record {
      body = record { v = velocity_sound (state_after words 4); w = still 1048576; q = norm2; p = at };
      centers = centers;
    };
  }

-- ---- the count of spheres

balls_few : (words t : ℕ) → length (balls_of (made_templates words) t) ≤ 1
balls_few words t =
    ⊎_elim
    (λ (lt : t < 4). let one = ap length (balls_at words t lt) in omega (arith, one))
    (λ (le : 4 ≤ t). let none = ap length (no_balls words t le) in omega (arith, none))
    (cases_lt t 4)

spheres_few : (words k : ℕ) (cs : List Clump) → length (spheres_from (made_templates words) k cs) ≤ length cs
unfolding spheres_from spheres_of_clump
spheres_few words k [] = omega arith
spheres_few words k (c ∷ cs) =
    omega (
      arith,
      length-append (map (sphere_of k) (balls_of (made_templates words) c.t)) (spheres_from (made_templates words) (k + 1) cs),
      length-map (balls_of (made_templates words) c.t) (sphere_of k),
      balls_few words c.t,
      spheres_few words (k + 1) cs,
    )

-- ---- the scene

module _ (seed words edge count : ℕ) (some : 1 ≤ count) (many : count ≤ 16384) (few : edge ≤ 26) (least : 1 ≤ edge) (room : count ≤ edge * edge * edge) where
  abbrev made : SceneValue
  made = made_with edge (made_material ∷ []) (made_templates seed) (made_floor ∷ []) (made_clumps words edge count) [] []

  clumps_sound : All (IsClump made) (made_clumps words edge count)
  unfolding made_clumps
  clumps_sound =
      All-map (IsClump made) (λ i. made_clump (state_after words (7 * i)) edge i) count
      (λ i lt. clump_sound (state_after words (7 * i)) seed edge i least (omega arith) (made_material ∷ []) (made_floor ∷ []) (made_clumps words edge count))

  clump_count : length (made_clumps words edge count) ≡ count
  unfolding made_clumps
  clump_count = length-map-range_with_len (λ i. made_clump (state_after words (7 * i)) edge i) 0 count

  sphere_count : length (spheres_of made) ≤ MAX_SPHERES
  unfolding spheres_of
  sphere_count = omega (arith, spheres_few seed 0 (made_clumps words edge count), clump_count)

  sound : IsSound made
  sound = record {
    nx = record { low_le = omega arith; le_high = omega arith };
    ny = record { low_le = omega arith; le_high = omega arith };
    nz = record { low_le = omega arith; le_high = omega arith };
    steps = omega arith;
    every = record { low_le = omega arith; le_high = omega arith };
    speed = record { low_le = omega arith; le_high = omega arith };
    spin = record { low_le = omega arith; le_high = omega arith };
    gravity = record { x = omega arith; y = omega arith; z = omega arith };
    material_count = record { low_le = omega arith; le_high = omega arith };
    materials = All-cons IsMaterial made_material [] material_sound (All-nil IsMaterial);
    template_count = record { low_le = omega (arith, template_count seed); le_high = omega (arith, template_count seed) };
    templates = templates_sound seed;
    wall_count = omega arith;
    walls = All-cons (IsWall 1 (made_templates seed)) made_floor [] (floor_sound (made_templates seed)) (All-nil (IsWall 1 (made_templates seed)));
    clump_count = record { low_le = omega (arith, clump_count); le_high = omega (arith, clump_count) };
    clumps = clumps_sound;
    sphere_count = sphere_count;
    motion_count = omega arith;
    motions = All-nil IsMotion;
    ascending = record {};
    off_count = omega arith;
    off = All-nil IsOff;
  }

  -- the scene of lists that have these values
  pub sound_of : (materials : List Material) (templates : List Template) (walls : List Wall) (clumps : List Clump) (motions : List Motion) (off : List Off)
      → materials ≡ made_material ∷ [] → templates ≡ made_templates seed → walls ≡ made_floor ∷ [] → clumps ≡ made_clumps words edge count → motions ≡ [] → off ≡ []
      → IsSound (made_with edge materials templates walls clumps motions off)
  sound_of materials templates walls clumps motions off m t w c v o =
      subst (λ (z : List Material × List Template × List Wall × List Clump × List Motion × List Off). IsSound (made_with edge z.0 z.1 z.2 z.3 z.4 z.5))
      (λ j. (sym m j, sym t j, sym w j, sym c j, sym v j, sym o j)) sound
