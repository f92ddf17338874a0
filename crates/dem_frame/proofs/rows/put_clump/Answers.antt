use Rattle.std.proofs.Common.{◌≡◌, pos, to_z, FitsSigned, w64, arith, rules}
use Rattle.std.proofs.lemmas.Int.{to_z-of_z, to_z_pos}
use Rattle.dem_model.specs.Frames.{clump_text}
use Rattle.dem_frame.proofs.rows.put_clump.Goals as goal

pub returns-clause-written : goal.returns-clause-written
unfolding clump_text
returns-clause-written g c =
    let p_x : FitsSigned w64 c.args.b.p.x = search rules in
    let p_y : FitsSigned w64 c.args.b.p.y = search rules in
    let p_z : FitsSigned w64 c.args.b.p.z = search rules in
    let v_x : FitsSigned w64 c.args.b.v.x = search rules in
    let v_y : FitsSigned w64 c.args.b.v.y = search rules in
    let v_z : FitsSigned w64 c.args.b.v.z = search rules in
    let q_a : FitsSigned w64 c.args.b.q.a = search rules in
    let q_b : FitsSigned w64 c.args.b.q.b = search rules in
    let q_c : FitsSigned w64 c.args.b.q.c = search rules in
    let q_d : FitsSigned w64 c.args.b.q.d = search rules in
    let w_x : FitsSigned w64 c.args.b.w.x = search rules in
    let w_y : FitsSigned w64 c.args.b.w.y = search rules in
    let w_z : FitsSigned w64 c.args.b.w.z = search rules in
    let i : to_z w64 c.args.i ≡ pos c.args.i = to_z_pos w64 c.args.i (omega arith) in
    simp (to_z-of_z, i) at c.put_row.ensures.written
