use Rattle.std.proofs.Common.{refl}
use Rattle.dem_jobs.proofs.SummaryFacts.{is-last-state}
use Rattle.dem_jobs.proofs.summary.state_at_end.Goals as goal

pub returns : goal.returns
returns g c =
    let e = c.in-Ok.ensures in
    is-last-state c.args.world.now.scene c.args.world.now c.finish.new.self e.goes_on.turns c.in-Ok.last c.snapshot_into.new.snap refl e.goes_on.ends e.ends
    c.now-now.ensures.course c.snapshot_into.ensures.value c.snapshot_into.ensures.of_run
