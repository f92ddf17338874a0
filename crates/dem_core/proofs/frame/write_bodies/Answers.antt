use Rattle.std.proofs.Common.{◌∙◌, ap, length, arith}
use Rattle.std.proofs.lemmas.Result.{err_from_is_err_and}
use Rattle.dem_model.specs.SceneValue.{SceneValue}
use Rattle.dem_frame.proofs.StateFacts.{clumps-all}
use Rattle.dem_step.proofs.DriftFacts.{plain-count}
use Rattle.dem_core.proofs.EntryFacts.{bodies-more, bodies-failed}
use Rattle.dem_core.proofs.frame.write_bodies.Goals as goal

pub returns-in_err-write_clump-clause-written : goal.returns-in_err-write_clump-clause-written
returns-in_err-write_clump-clause-written g c =
    let p = err_from_is_err_and c.from_residual.result c.from_residual.ensures.1 in rw (p.1)
    (bodies-failed _ _ _ c.args.run.now.state.bodies c.loop-k.k _ c.body.ensures.value c.loop-k.invariant.0 c.in_err-write_clump.ensures.written)

pub loop-k-preserved : goal.loop-k-preserved
loop-k-preserved g c = (
  bodies-more _ _ _ c.args.run.now.state.bodies c.loop-k.k _ c.body.ensures.value c.loop-k.invariant.0 c.in_ok-write_clump.ensures.written,
  c.in_ok-write_clump.ensures.count ∙ c.loop-k.invariant.1,
)

pub returns-clause-written : goal.returns-clause-written
returns-clause-written g c =
    clumps-all _ _ c.args.run.now.state.bodies c.loop-k.k
    (omega (
      arith,
      plain-count c.args.run.now.scene c.args.run.now.state.step c.args.run.now.state c.now-step.ensures.plain,
      ap (λ (s : SceneValue). length s.clumps) (c.behind-shapes.view_is ∙ c.scene.ensures.value ∙ c.shapes.ensures),
      c.len-k-end.ensures,
    ))
    c.loop-k.invariant.0
