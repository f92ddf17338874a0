use Rattle.std.proofs.Common.{sym, ◌∙◌}
use Rattle.dem_model.specs.Pairs.{pair_of}
use Rattle.dem_model.proofs.PairFacts.{all_pairs-are, all_pairs-all}
use Rattle.dem_shape.proofs.shapes.Shapes.meets.Goals as goal

pub returns-clause-listed : goal.returns-clause-listed
returns-clause-listed c = (
  (λ t. all_pairs-all c.args.self.now (pair_of c.args.a c.args.b) (record { first = c.requires.first; second = c.requires.there; is_apart = sym c.is_apart.ensures ∙ t })),
  (λ h. c.is_apart.ensures ∙ (all_pairs-are c.args.self.now (pair_of c.args.a c.args.b) h).is_apart),
)
