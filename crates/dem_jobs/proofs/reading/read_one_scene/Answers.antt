use Rattle.std.proofs.Common.{ap, ◌∙◌, sym, subst}
use Rattle.std.proofs.lemmas.Result.{err_from_is_err_and}
use Rattle.dem_model.specs.ReadingScene.{scene_from}
use Rattle.dem_scene.specs.Gives.{Fails}
use Rattle.dem_jobs.proofs.SceneFacts.{scene-read, scene-refused}
use Rattle.dem_jobs.proofs.reading.read_one_scene.Goals as goal

pub returns-in_err-read_scene-clause-read : goal.returns-in_err-read_scene-clause-read
returns-in_err-read_scene-clause-read g c =
    let p = err_from_is_err_and c.from_residual-in_err-read_scene.result c.from_residual-in_err-read_scene.ensures.1 in
    let read = c.in_ok-bytes.ensures.read in
    rw (p.1, p.2)
    (scene-refused _ c.in_ok-bytes.bytes.items read.0 read.1 read.3 c.in_err-read_scene.field-0.0
    (subst (λ bytes. Fails c.in_err-read_scene.field-0.0 (scene_from bytes)) c.as_slice.ensures.value c.in_err-read_scene.ensures))

pub returns-clause-read : goal.returns-clause-read
returns-clause-read g c =
    let read = c.in_ok-bytes.ensures.read in
    scene-read _ c.in_ok-bytes.bytes.items read.0 read.1 read.3 _ (ap scene_from (sym c.as_slice.ensures.value) ∙ c.in_ok-read_scene.ensures)
