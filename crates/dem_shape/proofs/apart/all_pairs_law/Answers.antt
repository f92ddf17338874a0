use Rattle.dem_model.proofs.PairFacts.{all_pairs-are, all_pairs-all}
use Rattle.dem_shape.proofs.apart.all_pairs_law.Goals as goal

pub returns : goal.returns
returns c = (all_pairs-are c.args.shapes.now c.args.pair, all_pairs-all c.args.shapes.now c.args.pair)
