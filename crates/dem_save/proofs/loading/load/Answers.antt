use Rattle.std.proofs.Common.{◌∙◌, length, Ok, Err, ap, arith}
use Rattle.dem_model.specs.SceneValue.{SceneValue}
use Rattle.dem_frame.specs.declared.partial.FrameFault.TheVariants as frames
use Rattle.dem_save.proofs.LoadFacts.{frame-as, frame-kept, load-checked, load-fit, load-fails}
use Rattle.dem_save.proofs.loading.load.Goals as goal

pub checked-requires-clause-count : goal.checked-requires-clause-count
checked-requires-clause-count c =
    let clumps = c.len-clumps.ensures ∙ ap (λ (s : SceneValue). length s.clumps) (c.behind-shapes.view_is ∙ c.scene.ensures.value) in
    (frame-kept c.args.shapes.now c.args.bytes.now c.in-Ok.state (frame-as c.args.shapes.now _ c.args.bytes.now (Ok c.in-Ok.state) clumps c.in-Ok.ensures.value)).count

pub checked-requires-clause-few : goal.checked-requires-clause-few
checked-requires-clause-few c =
    let clumps = c.len-clumps.ensures ∙ ap (λ (s : SceneValue). length s.clumps) (c.behind-shapes.view_is ∙ c.scene.ensures.value) in
    let kept = frame-kept c.args.shapes.now c.args.bytes.now c.in-Ok.state (frame-as c.args.shapes.now _ c.args.bytes.now (Ok c.in-Ok.state) clumps c.in-Ok.ensures.value) in
    omega (arith, kept.few, c.requires.size)

pub returns-in-Ok-clause-value : goal.returns-in-Ok-clause-value
returns-in-Ok-clause-value c =
    let clumps = c.len-clumps.ensures ∙ ap (λ (s : SceneValue). length s.clumps) (c.behind-shapes.view_is ∙ c.scene.ensures.value) in
    load-checked c.args.shapes.now c.args.bytes.now c.in-Ok.state c.checked.result (frame-as c.args.shapes.now _ c.args.bytes.now (Ok c.in-Ok.state) clumps c.in-Ok.ensures.value) c.checked.ensures

pub returns-in-Ok-clause-fit : goal.returns-in-Ok-clause-fit
returns-in-Ok-clause-fit c =
    let clumps = c.len-clumps.ensures ∙ ap (λ (s : SceneValue). length s.clumps) (c.behind-shapes.view_is ∙ c.scene.ensures.value) in
    load-fit c.args.shapes.now c.args.bytes.now c.in-Ok.state c.checked.result (frame-as c.args.shapes.now _ c.args.bytes.now (Ok c.in-Ok.state) clumps c.in-Ok.ensures.value) c.checked.ensures

pub returns-in-Err-Bad-clause-value : goal.returns-in-Err-Bad-clause-value
returns-in-Err-Bad-clause-value c =
    let clumps = c.len-clumps.ensures ∙ ap (λ (s : SceneValue). length s.clumps) (c.behind-shapes.view_is ∙ c.scene.ensures.value) in
    load-fails c.args.shapes.now c.args.bytes.now (frames.Bad c.in-Err-Bad.row) (frame-as c.args.shapes.now _ c.args.bytes.now (Err (frames.Bad c.in-Err-Bad.row)) clumps (rw c.in-Err-Bad.field-0-is at c.in-Err-Bad.ensures.value))

pub returns-in-Err-Short-clause-value : goal.returns-in-Err-Short-clause-value
returns-in-Err-Short-clause-value c =
    let clumps = c.len-clumps.ensures ∙ ap (λ (s : SceneValue). length s.clumps) (c.behind-shapes.view_is ∙ c.scene.ensures.value) in
    load-fails c.args.shapes.now c.args.bytes.now (frames.Short c.in-Err-Short.rows) (frame-as c.args.shapes.now _ c.args.bytes.now (Err (frames.Short c.in-Err-Short.rows)) clumps (rw c.in-Err-Short.field-0-is at c.in-Err-Short.ensures.value))
