use Rattle.std.proofs.Common.{◌≡◌, false, take}
use Rattle.dem_outside.specs.Change.{change}
use Rattle.dem_jobs.proofs.StandFacts.{StandsSince}
use Rattle.dem_jobs.proofs.turns.turn_by_turn.Given as goal

abbrev pub invariant-loop-turn : goal.invariant-loop-turn
invariant-loop-turn g l =
    (l.world.stopped ≡ false)
    × StandsSince l.fn.world (take l.turn-index l.turns) (change g.K.Sink.held g.K.Sink.faults l.fn.out l.out).before (change g.K.Sink.held g.K.Sink.faults l.fn.out l.out).after
    (change g.N.Sink.held g.N.Sink.faults l.fn.note l.note).before (change g.N.Sink.held g.N.Sink.faults l.fn.note l.note).after l.world
