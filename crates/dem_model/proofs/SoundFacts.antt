-- What a sound scene says of each of its spheres.
use Rattle.std.proofs.Common.{◌≡◌, ℕ, suc, ◌+◌, ◌<◌, ◌≤◌, List, [], ◌∷◌, length, get_or, map, refl, arith, subst, add-zero, zero-add, inl, inr, Some}
use Rattle.std.specs.Prelude.{All, slice_get}
use Rattle.std.proofs.lemmas.Option.{slice_get_cases, get_or_from_slice_get}
use Rattle.std.proofs.lemmas.List.{get_or-map, length-map}
use Rattle.std.proofs.lemmas.List.Elements.{All-append, All-head, All-map, All-nil, All-tail}
use Rattle.dem_num.specs.Vectors.{narrowed, no_vector}
use Rattle.dem_model.specs.SceneValue.{SceneValue}
use Rattle.dem_model.specs.Spheres.{Sphere, sphere_of, balls_of, spheres_of_clump, spheres_from, spheres_of}
use Rattle.dem_model.specs.Sound.{IsSound, IsBall, IsTemplate, IsClump}
use Rattle.dem_model.specs.Pairs.{sphere_at, sphere_count, no_sphere}
use Rattle.dem_model.specs.Centers.{body_at, center_at, placed, centers_of}
use Rattle.dem_model.specs.Step.{clump_at, no_clump}
use Rattle.dem_model.specs.Motion.{IsSphere, AreSound, AreInside}
use Rattle.dem_model.specs.declared.shape.Ball.{Ball}
use Rattle.dem_model.specs.declared.shape.Template.{Template}
use Rattle.dem_model.specs.declared.state.Body.{Body}
use Rattle.dem_model.specs.declared.state.Clump.{Clump}

-- a template that is there: its spheres, mass and moments are those that its number gives
pub record HasTemplate (s : SceneValue) (t : ℕ) : Type 0 where
  pub it : Template
  pub is_it : slice_get s.templates t ≡ Some it
  pub sound : IsTemplate (length s.materials) it

-- a number below the count names a template
pub has_template : (s : SceneValue) (t : ℕ) → IsSound s → t < length s.templates → HasTemplate s t
has_template s t sound there =
    elim (slice_get_cases s.templates t).1 [
      | inl w ↦ record { it = w.0; is_it = w.2; sound = subst (λ y. IsTemplate (length s.materials) y) w.3 (sound.templates t w.0 there) }
      | inr w ↦ absurd (omega arith)
    ]

-- the spheres of a template that is there are within their ranges
pub balls_of-sound : (s : SceneValue) (t : ℕ) → IsSound s → t < length s.templates → All (IsBall (length s.materials)) (balls_of s.templates t)
unfolding balls_of
balls_of-sound s t sound there = let h = has_template s t sound there in rw h.is_it h.sound.balls

-- what all spheres of the templates are narrower than, those of a template are narrower than
balls_of-narrower : (s : SceneValue) (t radius : ℕ) → IsSound s → t < length s.templates →
    All (λ (x : Template). All (λ (y : Ball). y.r < radius) x.balls) s.templates → All (λ (y : Ball). y.r < radius) (balls_of s.templates t)
unfolding balls_of
balls_of-narrower s t radius sound there all =
    let h = has_template s t sound there in
    rw h.is_it (subst (λ (x : Template). All (λ (y : Ball). y.r < radius) x.balls) (get_or_from_slice_get s.templates t h.it h.it h.is_it) (all t h.it there))

-- a template has a few spheres, or its number names none
pub balls_of-count : (s : SceneValue) (t : ℕ) → IsSound s → length (balls_of s.templates t) ≤ 16
unfolding balls_of
balls_of-count s t sound =
    elim (slice_get_cases s.templates t).1 [
      | inl w ↦ let h = has_template s t sound w.1 in rw h.is_it h.sound.count.le_high
      | inr w ↦ rw w.1 (omega arith)
    ]

-- a clump that is there is sound
pub clump_at-sound : (s : SceneValue) (k : ℕ) → IsSound s → k < length s.clumps → IsClump s (clump_at s k)
unfolding clump_at
clump_at-sound s k sound there = sound.clumps k no_clump there

-- the spheres of one clump are spheres of the scene
pub spheres_of_clump-sound : (s : SceneValue) (k : ℕ) → IsSound s → k < length s.clumps →
    All (IsSphere s) (spheres_of_clump s.templates k (clump_at s k).t)
unfolding spheres_of_clump
spheres_of_clump-sound s k sound there =
    let c = clump_at-sound s k sound there in
    All-map (IsSphere s) (sphere_of k) (balls_of s.templates (clump_at s k).t)
    (λ j d lt. record {
      clump = there;
      ball = balls_of-sound s (clump_at s k).t sound c.t j d lt;
      center = λ b h. h.centers j d lt;
    })

-- the same for the clumps from number k on
spheres_from-sound : (s : SceneValue) (k : ℕ) (cs : List Clump) → IsSound s → k + length cs ≤ length s.clumps →
    ((j : ℕ) → j < length cs → clump_at s (k + j) ≡ get_or cs j no_clump) →
    All (IsSphere s) (spheres_from s.templates k cs)
unfolding spheres_from
spheres_from-sound s k [] sound fits same = All-nil (IsSphere s)
spheres_from-sound s k (c ∷ cs) sound fits same =
    let first : clump_at s k ≡ c = rw add-zero at (same 0 (omega arith)) in
    All-append (IsSphere s) (spheres_of_clump s.templates k c.t) (spheres_from s.templates (k + 1) cs)
    (subst (λ x. All (IsSphere s) (spheres_of_clump s.templates k x.t)) first (spheres_of_clump-sound s k sound (omega arith)))
    (spheres_from-sound s (k + 1) cs sound (omega arith)
    (λ j lt. let e : k + suc j ≡ (k + 1) + j = omega arith in subst (λ n. clump_at s n ≡ get_or cs j no_clump) e (same (suc j) (omega arith))))

-- every sphere of a sound scene is within its ranges
pub spheres_of-sound : (s : SceneValue) → IsSound s → All (IsSphere s) (spheres_of s)
unfolding spheres_of clump_at
spheres_of-sound s sound = spheres_from-sound s 0 s.clumps sound (omega arith) (λ j lt. rw zero-add refl)

-- what all spheres of the templates are narrower than, each sphere is narrower than
spheres_from-narrower : (s : SceneValue) (radius k : ℕ) (cs : List Clump) → IsSound s → All (λ (c : Clump). c.t < length s.templates) cs →
    All (λ (x : Template). All (λ (y : Ball). y.r < radius) x.balls) s.templates → All (λ (x : Sphere). x.ball.r < radius) (spheres_from s.templates k cs)
unfolding spheres_from spheres_of_clump
spheres_from-narrower s radius k [] sound there all = All-nil (λ (x : Sphere). x.ball.r < radius)
spheres_from-narrower s radius k (c ∷ cs) sound there all =
    All-append (λ (x : Sphere). x.ball.r < radius) (map (sphere_of k) (balls_of s.templates c.t)) (spheres_from s.templates (k + 1) cs)
    (All-map (λ (x : Sphere). x.ball.r < radius) (sphere_of k) (balls_of s.templates c.t)
    (balls_of-narrower s c.t radius sound (All-head (λ (x : Clump). x.t < length s.templates) c cs there) all))
    (spheres_from-narrower s radius (k + 1) cs sound (All-tail (λ (x : Clump). x.t < length s.templates) c cs there) all)

-- a sphere by its number is narrower than what all spheres of the templates are narrower than
pub sphere_at-narrower : (s : SceneValue) (i radius : ℕ) → IsSound s → i < sphere_count s →
    All (λ (x : Template). All (λ (y : Ball). y.r < radius) x.balls) s.templates → (sphere_at s i).ball.r < radius
unfolding sphere_at sphere_count spheres_of
sphere_at-narrower s i radius sound there all =
    spheres_from-narrower s radius 0 s.clumps sound (λ j d lt. (sound.clumps j d lt).t) all i no_sphere there

-- a sphere by its number is within its ranges
pub sphere_at-sound : (s : SceneValue) (i : ℕ) → IsSound s → i < sphere_count s → IsSphere s (sphere_at s i)
unfolding sphere_at sphere_count
sphere_at-sound s i sound there = spheres_of-sound s sound i no_sphere there

-- where the bodies are sound, each center is in the box
pub centers_of-inside : (s : SceneValue) (bodies : List Body) → IsSound s → AreSound s bodies → AreInside s (centers_of s bodies)
unfolding centers_of center_at placed sphere_count sphere_at
centers_of-inside s bodies sound bodies_sound = record {
  count = length-map (spheres_of s) (placed bodies);
  each = λ i lt.
      let x = spheres_of-sound s sound i no_sphere lt in
      let e : get_or (map (placed bodies) (spheres_of s)) i (narrowed no_vector) ≡ placed bodies (get_or (spheres_of s) i no_sphere) = get_or-map (placed bodies) (spheres_of s) i no_sphere (narrowed no_vector) lt in
      rw e (x.center (body_at bodies (get_or (spheres_of s) i no_sphere).clump) (bodies_sound.each (get_or (spheres_of s) i no_sphere).clump x.clump));
}
