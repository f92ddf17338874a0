-- How one clump's spheres are put, sphere by sphere.
use Rattle.std.proofs.Common.{◌≡◌, ◌≢◌, ℕ, ◌+◌, ◌<◌, ◌^◌, List, length, set, sym, ap, ◌∙◌, arith, subst, inl, inr}
use Rattle.std.proofs.lemmas.Bool.{cases_lt}
use Rattle.std.proofs.lemmas.List.{length-set, get_or-set_other}
use Rattle.std.proofs.lemmas.Grind.{get_or-set_at}
use Rattle.dem_num.specs.declared.vector.Vec3.{Vec3}
use Rattle.dem_num.specs.declared.vector.Rows.{Rows}
use Rattle.dem_num.specs.Vectors.{widened, narrowed, no_vector, sum_of, Within}
use Rattle.dem_num.specs.Rotations.{matrix_of, turned_by}
use Rattle.dem_model.specs.SceneValue.{SceneValue}
use Rattle.dem_model.specs.Spheres.{center_of}
use Rattle.dem_model.specs.Centers.{center_at}
use Rattle.dem_model.specs.Pairs.{sphere_at}
use Rattle.dem_model.specs.declared.shape.Ball.{Ball}
use Rattle.dem_model.specs.declared.state.Body.{Body}
use Rattle.dem_model.specs.declared.state.Clump.{Clump}
use Rattle.dem_model.specs.Sound.{IsSound, IsBodyOf}
use Rattle.dem_shape.proofs.PoseFacts.{in_box-small}

-- below i the clump's centers are where the body puts them, and all others are as before
pub record IsPut (s : SceneValue) (clump : ℕ) (body : Body) (before : List Vec3) (i : ℕ) (now : List Vec3) : Type 0 where
  pub size : length now ≡ length before
  pub own : (j : ℕ) → j < i → (sphere_at s j).clump ≡ clump → center_at now j ≡ narrowed (center_of body (sphere_at s j).ball)
  pub others : (j : ℕ) → (sphere_at s j).clump ≢ clump → center_at now j ≡ center_at before j

-- a sphere of another clump stays
pub IsPut-kept : (s : SceneValue) (clump : ℕ) (body : Body) (before : List Vec3) (i : ℕ) (now : List Vec3) →
    IsPut s clump body before i now → (sphere_at s i).clump ≢ clump → IsPut s clump body before (i + 1) now
IsPut-kept s clump body before i now h other = record {
  size = h.size;
  own = λ j lt e. elim (cases_lt j i) [
    | inl below ↦ h.own j below e
    | inr past ↦
        let same : j ≡ i = omega arith in
        absurd (other (subst (λ k. (sphere_at s k).clump ≡ clump) same e))
  ];
  others = h.others;
}

-- a sphere of the clump is put
pub IsPut-more : (s : SceneValue) (clump : ℕ) (body : Body) (before : List Vec3) (i : ℕ) (now : List Vec3) (c : Vec3) →
    IsPut s clump body before i now → i < length before → (sphere_at s i).clump ≡ clump → c ≡ narrowed (center_of body (sphere_at s i).ball) →
    IsPut s clump body before (i + 1) (set now i c)
unfolding center_at
IsPut-more s clump body before i now c h lt own e = record {
  size = length-set now i c ∙ h.size;
  own = λ j below mine. elim (cases_lt j i) [
    | inl less ↦ get_or-set_other now i j c (narrowed no_vector) (λ (q : j ≡ i). omega (arith, less, q)) ∙ h.own j less mine
    | inr past ↦
        let same : j ≡ i = omega arith in
        get_or-set_at now i j c (narrowed no_vector) same (omega (arith, h.size, lt)) ∙ e ∙ ap (λ k. narrowed (center_of body (sphere_at s k).ball)) (sym same)
  ];
  others = λ j other. get_or-set_other now i j c (narrowed no_vector) (λ (q : j ≡ i). other (ap (λ k. (sphere_at s k).clump) q ∙ own)) ∙ h.others j other;
}

-- where a body's matrix and place put a sphere
pub put_center : (body : Body) (rows : Rows) (at : Ball) (c : Vec3) → rows ≡ matrix_of body.q →
    widened c ≡ sum_of (widened body.p) (turned_by rows (widened at.at)) → c ≡ narrowed (center_of body at)
unfolding center_of
put_center body rows at c r e = ap narrowed e ∙ ap (λ m. narrowed (sum_of (widened body.p) (turned_by m (widened at.at)))) r

-- a sound body's place is small
pub put_place : (s : SceneValue) (c : Clump) (body : Body) → IsSound s → IsBodyOf s c body → Within (widened body.p) (2 ^ 37)
put_place s c body sound b =
    let small : Within (widened body.p) (2 ^ 36) = in_box-small s (widened body.p) sound b.body.p in
    record { x = omega (arith, small.x); y = omega (arith, small.y); z = omega (arith, small.z) }
