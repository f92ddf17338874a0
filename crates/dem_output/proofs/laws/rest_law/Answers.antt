use Rattle.std.specs.List.{range_with_len}
use Rattle.dem_model.specs.Plain.{first_state}
use Rattle.dem_output.proofs.RunLaw.{frames_at}
use Rattle.dem_output.proofs.WholeFacts.{cut, output-due}
use Rattle.dem_output.proofs.laws.rest_law.Goals as goal

pub returns-clause-ends : goal.returns-clause-ends
returns-clause-ends c = λ n st here le. (cut c.args.scene.now n st here).ends

pub returns-clause-rest : goal.returns-clause-rest
returns-clause-rest c = λ n st here le due.
    (frames_at c.args.scene.now (first_state c.args.scene.now) (range_with_len 0 n), output-due c.args.scene.now n st here due)
