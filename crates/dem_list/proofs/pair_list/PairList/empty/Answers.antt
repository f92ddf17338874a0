use Rattle.std.proofs.Common.{arith}
use Rattle.dem_list.proofs.AscendingFacts.{IsAscending-none}
use Rattle.dem_list.proofs.pair_list.PairList.empty.Goals as goal

pub invariant_of-result : goal.invariant_of-result
invariant_of-result c = (IsAscending-none _ c.new.ensures.items, omega (arith, c.new.ensures.len))
