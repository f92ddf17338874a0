-- How the centers fill, sphere by sphere.
use Rattle.std.proofs.Common.{◌≡◌, ℕ, ◌+◌, ◌<◌, ◌≤◌, List, length, set, map, take, sym, ap, ◌∙◌, arith, ◌++◌, ◌∷◌, []}
use Rattle.std.proofs.lemmas.List.{length-set, take_more_set, map_more, take_all}
use Rattle.dem_num.specs.declared.vector.Vec3.{Vec3}
use Rattle.dem_model.specs.SceneValue.{SceneValue}
use Rattle.dem_model.specs.Spheres.{spheres_of}
use Rattle.dem_model.specs.Centers.{placed, centers_of}
use Rattle.dem_model.specs.Pairs.{sphere_count, sphere_at, no_sphere}
use Rattle.dem_model.specs.declared.state.Body.{Body}
use Rattle.dem_shape.specs.declared.pose.Pose.{Pose}
use Rattle.dem_shape.specs.Pose.{IsPose}

-- the centers below i are in place
pub record AreFilled (s : SceneValue) (bodies : List Body) (i : ℕ) (centers : List Vec3) : Type 0 where
  pub size : length centers ≡ sphere_count s
  pub done : take i centers ≡ map (placed bodies) (take i (spheres_of s))

-- one more center is in place
pub AreFilled-more : (s : SceneValue) (bodies : List Body) (i : ℕ) (centers : List Vec3) (c : Vec3) →
    AreFilled s bodies i centers → i < sphere_count s → c ≡ placed bodies (sphere_at s i) → AreFilled s bodies (i + 1) (set centers i c)
unfolding sphere_at sphere_count
AreFilled-more s bodies i centers c f lt e = record {
  size = length-set centers i c ∙ f.size;
  done = take_more_set centers i c (omega (arith, f.size))
      ∙ ap (λ xs. xs ++ c ∷ []) f.done
      ∙ ap (λ x. map (placed bodies) (take i (spheres_of s)) ++ x ∷ []) e
      ∙ sym (map_more (placed bodies) (spheres_of s) i no_sphere lt);
}

-- all centers are in place
pub AreFilled-all : (s : SceneValue) (bodies : List Body) (i : ℕ) (centers : List Vec3) →
    AreFilled s bodies i centers → sphere_count s ≤ i → centers ≡ centers_of s bodies
unfolding centers_of sphere_count
AreFilled-all s bodies i centers f le =
    sym (take_all i centers (omega (arith, f.size))) ∙ f.done ∙ ap (map (placed bodies)) (take_all i (spheres_of s) le)

-- the centers below i are in place, and the pose is that of its clump
pub record IsFilled (s : SceneValue) (bodies : List Body) (i : ℕ) (centers : List Vec3) (pose : Pose) : Type 0 where
  pub filled : AreFilled s bodies i centers
  pub pose_is : IsPose s bodies pose.clump pose

-- one more center is in place
pub IsFilled-more : (s : SceneValue) (bodies : List Body) (i : ℕ) (centers : List Vec3) (old new : Pose) (c : Vec3) →
    IsFilled s bodies i centers old → i < sphere_count s → c ≡ placed bodies (sphere_at s i) →
    IsPose s bodies new.clump new → IsFilled s bodies (i + 1) (set centers i c) new
IsFilled-more s bodies i centers old new c f lt e pose = record { filled = AreFilled-more s bodies i centers c f.filled lt e; pose_is = pose }
