use Rattle.dem_jobs.proofs.ResumedFacts.{goes-on}
use Rattle.dem_jobs.proofs.resuming.resume_law.Goals as goal

pub returns : goal.returns
returns c = λ n st text is within due takes.
    goes-on c.args.scene.now st text takes (c.load_law.ensures st (c.fit_law.ensures.plain n st is)) (c.rest_law.ensures.ends n st is within) (c.rest_law.ensures.rest n st is within due)
