use Rattle.std.proofs.Common.{◌≡◌, ℕ, ◌+◌, ◌<◌, get_or}
use Rattle.dem_model.specs.declared.state.Pair.{Pair}
use Rattle.dem_hist.proofs.carry.stretch.Given as goal

abbrev pub invariant-loop-count : goal.invariant-loop-count
invariant-loop-count l = (k : ℕ) (d : Pair) → k < l.count → get_or l.old.pairs (l.at + k) d ≡ get_or l.new.pairs (l.j + k) d
