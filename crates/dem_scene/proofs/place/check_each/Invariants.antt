use Rattle.std.proofs.Common.{◌≡◌, All, take, drop}
use Rattle.dem_model.specs.ReadingScene.{check_clumps}
use Rattle.dem_model.specs.Sound.{IsClump}
use Rattle.dem_scene.proofs.place.check_each.Given as goal

-- those so far are sound, so the others decide
abbrev pub invariant-loop-i : goal.invariant-loop-i
invariant-loop-i l = record {
  rest : check_clumps l.draft l.i (drop l.i l.clumps) ≡ check_clumps l.draft 0 l.clumps;
  sound : All (IsClump l.draft) (take l.i l.clumps);
}
