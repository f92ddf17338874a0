use Rattle.std.proofs.Common.{ℕ, ◌≡◌, ◌∙◌, sym, ap, ap₂, arith, map}
use Rattle.std.specs.Prelude.{max}
use Rattle.std.specs.List.{fold, range_with_len}
use Rattle.dem_model.specs.Near.{reach_of}
use Rattle.dem_model.specs.Pairs.{sphere_count}
use Rattle.dem_bins.specs.Bins.{greatest_reach}
use Rattle.dem_bins.proofs.BlockFacts.{greatest-more, greatest_reach-some}
use Rattle.dem_bins.proofs.grid.greatest.Goals as goal

pub loop-i-preserved : goal.loop-i-preserved
loop-i-preserved c = (
  c.max-most.ensures ∙ ap₂ (λ (a b : ℕ). max a b) c.loop-i.invariant.0 c.reach.ensures.value ∙ sym (greatest-more (reach_of c.args.shapes.now c.args.drift) c.loop-i.i),
  omega (arith, c.max-most.ensures, c.loop-i.invariant.1, c.reach.ensures.size),
)

is_whole : goal.returns-clause-value
unfolding greatest_reach
is_whole c =
    let all : c.loop-i.i ≡ sphere_count c.args.shapes.now = omega arith in
    c.loop-i.invariant.0 ∙ ap (λ n. fold max 0 (map (reach_of c.args.shapes.now c.args.drift) (range_with_len 0 n))) all

pub returns-clause-value : goal.returns-clause-value
returns-clause-value c = is_whole c

pub returns-clause-some : goal.returns-clause-some
returns-clause-some c = omega (arith, is_whole c, greatest_reach-some c.args.shapes.now c.args.drift c.scene-scene.ensures.sound)
