-- Clumps whose spheres all stand where the clump does: they leave the box where it does.
use Rattle.std.proofs.Common.{◌≡◌, true, false, List, get_or, refl, ap, ◌∙◌, inl, inr}
use Rattle.std.specs.Prelude.{not, All}
use Rattle.std.specs.List.{list_any}
use Rattle.std.proofs.lemmas.Bool.{cases_Bool, not-false}
use Rattle.std.proofs.lemmas.List.Folds.{list_any_none}
use Rattle.dem_num.specs.Vectors.{widened, is_zero}
use Rattle.dem_num.specs.Rotations.{matrix_of}
use Rattle.dem_turn.proofs.StillFacts.{sum_turned_zero}
use Rattle.dem_model.specs.SceneValue.{SceneValue}
use Rattle.dem_model.specs.Position.{in_box}
use Rattle.dem_model.specs.Spheres.{center_of}
use Rattle.dem_model.specs.Advance.{leaves_box}
use Rattle.dem_model.specs.declared.shape.Ball.{Ball}
use Rattle.dem_model.specs.declared.state.Body.{Body}
use Rattle.dem_force.proofs.LimitFacts.{none_pass}

-- each sphere stands where the clump does
each_centered : (balls : List Ball) → list_any (λ (x : Ball). not (is_zero (widened x.at))) balls ≡ false → All (λ (x : Ball). is_zero (widened x.at) ≡ true) balls
each_centered balls h = λ i d lt. not-false (is_zero (widened (get_or balls i d).at)) (none_pass (λ (x : Ball). not (is_zero (widened x.at))) balls h i d lt)

-- the center of such a sphere
own_center : (b : Body) (x : Ball) → is_zero (widened x.at) ≡ true → center_of b x ≡ widened b.p
unfolding center_of
own_center b x h = sum_turned_zero (widened b.p) (matrix_of b.q) (widened x.at) h

-- none of them is outside where the clump is inside
none_outside : (s : SceneValue) (balls : List Ball) (b : Body) → All (λ (x : Ball). is_zero (widened x.at) ≡ true) balls → in_box s (widened b.p) ≡ true
    → list_any (λ (x : Ball). not (in_box s (center_of b x))) balls ≡ false
none_outside s balls b each inside =
    list_any_none (λ (x : Ball). not (in_box s (center_of b x))) balls
    (λ i d lt. ap (λ p. not (in_box s p)) (own_center b (get_or balls i d) (each i d lt)) ∙ ap not inside)

-- such a clump leaves the box where its own place does
pub own_leaves : (s : SceneValue) (balls : List Ball) (b : Body) → list_any (λ (x : Ball). not (is_zero (widened x.at))) balls ≡ false
    → leaves_box s balls b ≡ not (in_box s (widened b.p))
unfolding leaves_box
own_leaves s balls b h = elim (cases_Bool (in_box s (widened b.p))) [
  | inl t ↦ rw (t, none_outside s balls b (each_centered balls h) t) refl
  | inr f ↦ rw f refl
]
