-- Each of all pairs, by its place, is a pair.
use Rattle.std.proofs.Common.{get_or}
use Rattle.std.specs.Prelude.{All}
use Rattle.std.proofs.lemmas.List.Elements.{Contains-get_or}
use Rattle.dem_model.specs.SceneValue.{SceneValue}
use Rattle.dem_model.specs.Pairs.{all_pairs}
use Rattle.dem_model.specs.Motion.{IsPair}
use Rattle.dem_model.proofs.PairFacts.{all_pairs-are}

-- each pair of all pairs is one of a sphere with a later sphere of another clump, or with a wall
pub all_pairs-pairs : (s : SceneValue) → All (IsPair s) (all_pairs s)
all_pairs-pairs s = λ k d lt. all_pairs-are s (get_or (all_pairs s) k d) (Contains-get_or (all_pairs s) k d lt)
