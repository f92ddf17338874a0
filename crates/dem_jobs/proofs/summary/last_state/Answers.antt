use Rattle.std.proofs.Common.{ap, subst}
use Rattle.std.specs.Prelude.{IfOk}
use Rattle.dem_model.specs.SceneValue.{SceneValue}
use Rattle.dem_core.specs.Worlds.{Turning}
use Rattle.dem_jobs.specs.Summaries.{IsLastState}
use Rattle.dem_jobs.proofs.summary.last_state.Goals as goal

pub returns-in-Ok : goal.returns-in-Ok
returns-in-Ok g c =
    subst (λ (s : SceneValue). IfOk c.state_at_end-answer.result (λ r. IsLastState s r.0 r.1)) (ap (λ (t : Turning). t.scene) c.in-Ok.ensures.0) c.state_at_end-answer.ensures
