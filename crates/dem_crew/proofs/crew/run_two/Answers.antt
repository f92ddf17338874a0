use Rattle.dem_crew.proofs.GoingOnFacts.{noted-none}
use Rattle.dem_crew.proofs.crew.run_two.Goals as goal

pub returns-clause-noted : goal.returns-clause-noted
returns-clause-noted g c = noted-none c.args.shapes.now c.args.grid.now.drift (g.N.Sink.held c.args.note.now)
