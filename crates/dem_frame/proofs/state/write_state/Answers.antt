use Rattle.std.proofs.Common.{◌++◌}
use Rattle.std.proofs.KnownBytes.{Appends-trans}
use Rattle.std.proofs.lemmas.Result.{err_from_is_err_and}
use Rattle.dem_model.specs.Frames.{state_text, head_text, clumps_text, pairs_text}
use Rattle.dem_outside.proofs.Prefixes.{AppendsPrefix-longer, AppendsPrefix-after, PutAppends-after}
use Rattle.dem_frame.proofs.state.write_state.Goals as goal

pub returns-in_err-write_head-clause-written : goal.returns-in_err-write_head-clause-written
unfolding state_text
returns-in_err-write_head-clause-written g c =
    let p = err_from_is_err_and c.from_residual.result c.from_residual.ensures.1 in rw (p.1)
    (AppendsPrefix-longer _ _ (head_text c.args.s.now.step ++ clumps_text 0 c.args.s.now.bodies) _ (AppendsPrefix-longer _ _ (head_text c.args.s.now.step) _ c.in_err-write_head.ensures.written))

pub returns-in_err-write_clumps-clause-written : goal.returns-in_err-write_clumps-clause-written
unfolding state_text
returns-in_err-write_clumps-clause-written g c =
    let p = err_from_is_err_and c.from_residual-in_err-write_clumps.result c.from_residual-in_err-write_clumps.ensures.1 in rw (p.1)
    (AppendsPrefix-longer _ _ (head_text c.args.s.now.step ++ clumps_text 0 c.args.s.now.bodies) _
    (AppendsPrefix-after _ _ _ _ _ c.in_ok-write_head.ensures.written (rw c.as_slice.ensures at c.in_err-write_clumps.ensures.written)))

pub returns-clause-written : goal.returns-clause-written
unfolding state_text
returns-clause-written g c =
    PutAppends-after _ _ _ c.write_pairs.result (head_text c.args.s.now.step ++ clumps_text 0 c.args.s.now.bodies) (pairs_text c.args.s.now.held)
    (Appends-trans _ _ _ _ _ c.in_ok-write_head.ensures.written (rw c.as_slice.ensures at c.in_ok-write_clumps.ensures.written))
    (rw c.as_slice-2.ensures at c.write_pairs.ensures.written)
