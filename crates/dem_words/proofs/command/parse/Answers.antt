use Rattle.dem_words.proofs.CommandFacts.{by_command, refused_by}
use Rattle.dem_words.proofs.command.parse.Goals as goal

pub returns-in-Ok : goal.returns-in-Ok
returns-in-Ok c = by_command _ _ _ c.in_ok-command.ensures c.in-Ok.ensures.matches c.in-Ok.ensures.kinds

pub returns-in-Err : goal.returns-in-Err
returns-in-Err c = refused_by _ _ c.in-Err.error _ c.in_ok-command.ensures c.fault_from.ensures c.in-Err.ensures.kinds
