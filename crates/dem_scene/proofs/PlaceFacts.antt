-- Testing the spheres of a clump, and the clumps, one after the other.
use Rattle.std.proofs.Common.{◌≡◌, ℕ, ◌+◌, ◌<◌, true, ◌&&◌, List, [], ◌∷◌, length, get_or, drop, Ok, Result, ap, sym, ◌∙◌, add-one, drop-cons, arith, All, IsTrue, subst, inl, inr}
use Rattle.std.specs.Prelude.{⊤}
use Rattle.dem_num.specs.declared.vector.Wide3.{Wide3}
use Rattle.std.proofs.Math.Seq.{drop-length}
use Rattle.std.proofs.lemmas.List.Sums.{AllPass-from_list_all}
use Rattle.std.proofs.lemmas.Option.{slice_get_cases}
use Rattle.dem_model.specs.SceneValue.{SceneValue}
use Rattle.dem_model.specs.Position.{in_box}
use Rattle.dem_model.specs.Spheres.{balls_of, center_of}
use Rattle.dem_model.specs.Sound.{IsBall, IsTemplate}
use Rattle.dem_model.specs.declared.fault.SceneFault.{SceneFault}
use Rattle.dem_model.specs.declared.shape.Ball.{Ball}
use Rattle.dem_model.specs.declared.shape.Template.{Template}
use Rattle.dem_model.specs.declared.state.Body.{Body}
use Rattle.dem_model.specs.declared.state.Clump.{Clump}
use Rattle.dem_model.specs.Reading.{◌>>=◌}
use Rattle.dem_model.specs.ReadingScene.{centers_inside, check_clump, check_clumps}

-- the first of a list from a place on
first_at : {A : Type 0} (xs : List A) (i : ℕ) (d : A) → i < length xs → drop i xs ≡ get_or xs i d ∷ drop (i + 1) xs
first_at xs i d h = rw add-one (drop-cons xs i d h)

-- no sphere is left
pub centers_done : (s : SceneValue) (b : Body) (balls : List Ball) (i : ℕ) → i ≡ length balls → centers_inside s b (drop i balls) ≡ true
unfolding centers_inside
centers_done s b balls i e = let d : drop i balls ≡ [] = rw e (drop-length balls) in ap (centers_inside s b) d

-- one sphere, whose center is known, and then those after it
pub centers_step : (s : SceneValue) (b : Body) (balls : List Ball) (i : ℕ) (d : Ball) (place : Wide3) → i < length balls → place ≡ center_of b (get_or balls i d) → centers_inside s b (drop i balls) ≡ (in_box s place && centers_inside s b (drop (i + 1) balls))
unfolding centers_inside
centers_step s b balls i d place h e = ap (centers_inside s b) (first_at balls i d h) ∙ ap (λ p. in_box s p && centers_inside s b (drop (i + 1) balls)) (sym e)

-- where all are inside, each is
pub centers_in_box : (s : SceneValue) (b : Body) (balls : List Ball) → centers_inside s b balls ≡ true → All (λ (x : Ball). IsTrue (in_box s (center_of b x))) balls
unfolding centers_inside
centers_in_box s b balls h = AllPass-from_list_all (λ x. in_box s (center_of b x)) balls h

-- the spheres of a template are within their ranges
pub balls_in_range : (materials : ℕ) (templates : List Template) (t : ℕ) → All (IsTemplate materials) templates → t < length templates → All (IsBall materials) (balls_of templates t)
unfolding balls_of
balls_in_range materials templates t h there =
    elim (slice_get_cases templates t).1 [
      | inl w ↦ let k : IsTemplate materials w.0 = subst (λ y. IsTemplate materials y) w.3 (h t w.0 there) in rw w.2 k.balls
      | inr w ↦ absurd (omega arith)
    ]

-- no clump is left
pub clumps_checked : (s : SceneValue) (cs : List Clump) (i : ℕ) → i ≡ length cs → check_clumps s i (drop i cs) ≡ Ok tt
unfolding check_clumps
clumps_checked s cs i e = let d : drop i cs ≡ [] = rw e (drop-length cs) in ap (check_clumps s i) d

-- one clump, of which the answer is known, and then those after it
pub clumps_check : (s : SceneValue) (cs : List Clump) (i : ℕ) (d : Clump) (answer : Result ⊤ SceneFault) → i < length cs → answer ≡ check_clump s i (get_or cs i d) → check_clumps s i (drop i cs) ≡ (answer >>= λ _. check_clumps s (i + 1) (drop (i + 1) cs))
unfolding check_clumps
clumps_check s cs i d answer h e = ap (check_clumps s i) (first_at cs i d h) ∙ ap (λ r. r >>= λ _. check_clumps s (i + 1) (drop (i + 1) cs)) (sym e)
