use Rattle.dem_plain.proofs.plain_run.PlainRun.at.Goals as goal

pub invariant_of-result : goal.invariant_of-result
invariant_of-result c = record {
  scene = c.scene-scene.ensures.sound;
  room = c.in_ok-spheres.ensures;
  plain = c.requires.plain;
  bodies = c.requires.sound;
  held = c.requires.stored;
}
