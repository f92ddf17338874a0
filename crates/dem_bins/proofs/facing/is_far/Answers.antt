use Rattle.std.proofs.Common.{◌≡◌, ℕ, ◌+◌, ◌*◌, ◌-◌, ap, ap₂, sym, ◌∙◌, arith}
use Rattle.std.proofs.lemmas.Bool.{not-true}
use Rattle.std.proofs.lemmas.Int.{to_z-of_z}
use Rattle.std.specs.Prelude.{int_lt, not, pos}
use Rattle.dem_model.specs.Near.{drift_of}
use Rattle.dem_model.specs.Pairs.{sphere_at}
use Rattle.dem_model.specs.declared.shape.Ball.{Ball}
use Rattle.dem_num.specs.declared.vector.Vec3.{Vec3}
use Rattle.dem_num.specs.Numbers.{shifted}
use Rattle.dem_num.specs.Vectors.{widened, dot_of, difference_of}
use Rattle.dem_bins.proofs.FaceFacts.{far-apart, far-distance, far-near}
use Rattle.dem_bins.proofs.facing.is_far.Goals as goal

pub overflow_sub-most : goal.overflow_sub-most
overflow_sub-most c =
    omega (arith, ap (λ (b : Ball). b.r) c.ball_of-r.ensures.value, c.reach.ensures.value, far-apart c.args.shapes.now c.args.drift c.args.pair.a)

pub returns : goal.returns
returns c = λ h.
    let most : 3 * c.reach.result - 2 * c.ball_of-r.result.r ≡ (sphere_at c.args.shapes.now c.args.pair.a).ball.r + 3 * drift_of c.args.shapes.now c.args.drift c.args.pair.a =
    ap₂ (λ (m n : ℕ). 3 * m - 2 * n) c.reach.ensures.value (ap (λ (b : Ball). b.r) c.ball_of-r.ensures.value) ∙ far-distance c.args.shapes.now c.args.drift c.args.pair.a in
    let closer : c.is_closer.result ≡ int_lt c.gap.result (pos (3 * c.reach.result - 2 * c.ball_of-r.result.r)) = grind (arith, to_z-of_z) in
    far-near c.args.shapes.now c.args.drift c.args.centers.now c.args.pair c.args.face.now c.gap.result (3 * c.reach.result - 2 * c.ball_of-r.result.r) c.requires.later c.requires.face
    (c.gap.ensures ∙ ap (λ (v : Vec3). shifted (dot_of (widened c.args.face.now.normal) (difference_of (widened v) (widened c.args.face.now.at))) 30) c.center.ensures.value)
    most (not-true (int_lt c.gap.result (pos (3 * c.reach.result - 2 * c.ball_of-r.result.r))) (ap not (sym closer) ∙ h))
