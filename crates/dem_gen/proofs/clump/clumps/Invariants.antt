use Rattle.std.proofs.Common.{◌≡◌, ◌*◌}
use Rattle.dem_model.specs.Made.{made_clumps, state_after}
use Rattle.dem_gen.proofs.clump.clumps.Given as goal

abbrev pub invariant-loop-i : goal.invariant-loop-i
invariant-loop-i l = (l.clumps ≡ made_clumps l.fn.words l.edge l.i) × (l.words ≡ state_after l.fn.words (7 * l.i))
