-- The extent of a template: one sphere more, and what it bounds.
use Rattle.std.proofs.Common.{◌≡◌, ℕ, ◌+◌, ◌<◌, ◌≤◌, List, [], take, length, get_or, refl, ap, ◌∙◌}
use Rattle.std.specs.Prelude.{max, All}
use Rattle.std.proofs.lemmas.List.{take_more}
use Rattle.std.proofs.lemmas.List.Recursion.{max_bounds, max_push}
use Rattle.dem_model.specs.Cells.{extent_of, reach_of}
use Rattle.dem_model.specs.declared.shape.Ball.{Ball}

pub extent-none : 0 ≡ extent_of []
unfolding extent_of
extent-none = refl

pub extent-more : (balls : List Ball) (i : ℕ) (d : Ball) → i < length balls → extent_of (take (i + 1) balls) ≡ max (extent_of (take i balls)) (reach_of (get_or balls i d))
unfolding extent_of
extent-more balls i d there =
    ap extent_of (take_more balls i d there) ∙ max_push extent_of reach_of refl (λ x xs. refl) (take i balls) (get_or balls i d)

-- no sphere reaches farther
pub extent-bounds : (balls : List Ball) → All (λ (b : Ball). reach_of b ≤ extent_of balls) balls
unfolding extent_of
extent-bounds balls = λ k d lt. max_bounds extent_of reach_of refl (λ x xs. refl) balls k d lt
