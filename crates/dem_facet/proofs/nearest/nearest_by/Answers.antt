use Rattle.dem_facet.proofs.CloseFacts.{good_close, ab_close, ac_close, bc_close}
use Rattle.dem_facet.proofs.nearest.nearest_by.Goals as goal

pub ab_point-requires-clause-close : goal.ab_point-requires-clause-close
ab_point-requires-clause-close c = ab_close c.args.a c.args.b c.args.c (good_close c.args.a c.args.b c.args.c c.requires.good)

pub ac_point-requires-clause-close : goal.ac_point-requires-clause-close
ac_point-requires-clause-close c = ac_close c.args.a c.args.b c.args.c (good_close c.args.a c.args.b c.args.c c.requires.good)

pub bc_point-requires-clause-close : goal.bc_point-requires-clause-close
bc_point-requires-clause-close c = bc_close c.args.a c.args.b c.args.c (good_close c.args.a c.args.b c.args.c c.requires.good)
