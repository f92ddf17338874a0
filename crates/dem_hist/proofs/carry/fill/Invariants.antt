use Rattle.std.proofs.Common.{◌≡◌, ℕ, ◌<◌, ◌≤◌, ◌-◌, length, map, take, get_or}
use Rattle.dem_model.specs.declared.state.Pair.{Pair}
use Rattle.dem_model.specs.Step.{held_at}
use Rattle.dem_model.specs.Carry.{kept_of}
use Rattle.dem_hist.specs.Inside.{AllBefore}
use Rattle.dem_hist.proofs.carry.fill.Given as goal

abbrev pub invariant-loop-j : goal.invariant-loop-j
invariant-loop-j l = record {
  filled : l.spare.items ≡ map (held_at (kept_of l.old.pairs l.entries)) (take l.j l.new.pairs);
  within : l.at ≤ length l.old.pairs;
  before : (m : ℕ) (d : Pair) → l.j ≤ m → m < length l.new.pairs → AllBefore l.old.pairs l.at (get_or l.new.pairs m d);
}

abbrev pub decreases-loop-j : goal.decreases-loop-j
decreases-loop-j l = length l.new.pairs - l.j
