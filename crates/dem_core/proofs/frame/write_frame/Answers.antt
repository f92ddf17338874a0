use Rattle.std.proofs.Common.{◌++◌}
use Rattle.std.proofs.KnownBytes.{Appends-trans}
use Rattle.std.proofs.lemmas.Result.{err_from_is_err_and}
use Rattle.dem_model.specs.Frames.{state_text, head_text, clumps_text, pairs_text}
use Rattle.dem_outside.proofs.Prefixes.{AppendsPrefix-longer, AppendsPrefix-after, PutAppends-after}
use Rattle.dem_core.proofs.frame.write_frame.Goals as goal

pub returns-in_err-write_head-clause-written : goal.returns-in_err-write_head-clause-written
unfolding state_text
returns-in_err-write_head-clause-written g c =
    let p = err_from_is_err_and c.from_residual.result c.from_residual.ensures.1 in rw (p.1)
    (AppendsPrefix-longer _ _ (head_text c.args.run.now.state.step ++ clumps_text 0 c.args.run.now.state.bodies) _
    (AppendsPrefix-longer _ _ (head_text c.args.run.now.state.step) _ (rw c.now.ensures.value at c.in_err-write_head.ensures.written)))

pub returns-in_err-write_bodies-clause-written : goal.returns-in_err-write_bodies-clause-written
unfolding state_text
returns-in_err-write_bodies-clause-written g c =
    let p = err_from_is_err_and c.from_residual-in_err-write_bodies.result c.from_residual-in_err-write_bodies.ensures.1 in rw (p.1)
    (AppendsPrefix-longer _ _ (head_text c.args.run.now.state.step ++ clumps_text 0 c.args.run.now.state.bodies) _
    (AppendsPrefix-after _ _ _ _ _ (rw c.now.ensures.value at c.in_ok-write_head.ensures.written) c.in_err-write_bodies.ensures.written))

pub returns-clause-written : goal.returns-clause-written
unfolding state_text
returns-clause-written g c =
    PutAppends-after _ _ _ c.write_held.result (head_text c.args.run.now.state.step ++ clumps_text 0 c.args.run.now.state.bodies) (pairs_text c.args.run.now.state.held)
    (Appends-trans _ _ _ _ _ (rw c.now.ensures.value at c.in_ok-write_head.ensures.written) c.in_ok-write_bodies.ensures.written)
    (rw (c.contacts.ensures.value, c.requires) at c.write_held.ensures.written)
