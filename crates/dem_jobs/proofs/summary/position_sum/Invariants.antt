use Rattle.dem_jobs.proofs.SummaryFacts.{SumsSoFar}
use Rattle.dem_jobs.proofs.summary.position_sum.Given as goal

abbrev pub invariant-loop-body : goal.invariant-loop-body
invariant-loop-body l = SumsSoFar l.bodies l.body-index l.sum
