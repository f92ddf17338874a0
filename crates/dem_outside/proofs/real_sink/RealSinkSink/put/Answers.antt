use Rattle.std.proofs.lemmas.List.{take_rest}
use Rattle.dem_outside.proofs.Written.{Written-take}
use Rattle.dem_outside.proofs.real_sink.RealSinkSink.put.Goals as goal

pub loop-rest-preserved : goal.loop-rest-preserved
loop-rest-preserved g c =
    rw take_rest (Written-take _ _ _ c.loop-rest.rest.now c.args.piece.now c.in-Ok.count c.loop-rest.invariant.0 c.in-Ok.ensures.bytes, c.loop-rest.invariant.1)
