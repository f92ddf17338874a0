use Rattle.std.proofs.Common.{◌≡◌, length, ap, ◌∙◌, arith}
use Rattle.std.proofs.lemmas.List.{length-map, with_items_is}
use Rattle.dem_model.specs.SceneValue.{SceneValue}
use Rattle.dem_step.specs.Stored.{body_of}
use Rattle.dem_step.proofs.AdvanceFacts.{advances-all}
use Rattle.dem_step.proofs.advancing.advance_all.Goals as goal

pub returns-clause-advanced : goal.returns-clause-advanced
returns-clause-advanced c =
    let there : c.len-count.result ≡ length c.args.shapes.now.clumps = c.len-count.ensures ∙ ap (λ (s : SceneValue). length s.clumps) (c.behind-shapes.view_is ∙ c.scene.ensures.value) in
    let size : length c.advance_range.new.next ≡ length c.next.inside.items.items = c.advance_range.ensures.room ∙ ap length c.as_mut_slice-room.ensures.value in
    let room : length c.advance_range.new.next ≡ c.len-count.result = omega (arith, size, length-map c.next.inside.items.items body_of, ap length c.next.view_is, c.requires.room, there) in
    (advances-all c.args.shapes.now c.args.step c.args.bodies.now c.args.loads.now c.len-count.result c.advance_range.new.next _ c.advance_range.result there room c.requires.sound.count c.requires.loads.count
    (with_items_is c.next.inside.items c.advance_range.new.next (c.advance_range.ensures.room ∙ c.as_mut_slice-room.ensures.len)) c.advance_range.ensures.part).0

pub returns-clause-sound : goal.returns-clause-sound
returns-clause-sound c =
    let there : c.len-count.result ≡ length c.args.shapes.now.clumps = c.len-count.ensures ∙ ap (λ (s : SceneValue). length s.clumps) (c.behind-shapes.view_is ∙ c.scene.ensures.value) in
    let size : length c.advance_range.new.next ≡ length c.next.inside.items.items = c.advance_range.ensures.room ∙ ap length c.as_mut_slice-room.ensures.value in
    let room : length c.advance_range.new.next ≡ c.len-count.result = omega (arith, size, length-map c.next.inside.items.items body_of, ap length c.next.view_is, c.requires.room, there) in
    (advances-all c.args.shapes.now c.args.step c.args.bodies.now c.args.loads.now c.len-count.result c.advance_range.new.next _ c.advance_range.result there room c.requires.sound.count c.requires.loads.count
    (with_items_is c.next.inside.items c.advance_range.new.next (c.advance_range.ensures.room ∙ c.as_mut_slice-room.ensures.len)) c.advance_range.ensures.part).1

pub returns-clause-ended : goal.returns-clause-ended
returns-clause-ended c =
    let there : c.len-count.result ≡ length c.args.shapes.now.clumps = c.len-count.ensures ∙ ap (λ (s : SceneValue). length s.clumps) (c.behind-shapes.view_is ∙ c.scene.ensures.value) in
    let size : length c.advance_range.new.next ≡ length c.next.inside.items.items = c.advance_range.ensures.room ∙ ap length c.as_mut_slice-room.ensures.value in
    let room : length c.advance_range.new.next ≡ c.len-count.result = omega (arith, size, length-map c.next.inside.items.items body_of, ap length c.next.view_is, c.requires.room, there) in
    (advances-all c.args.shapes.now c.args.step c.args.bodies.now c.args.loads.now c.len-count.result c.advance_range.new.next _ c.advance_range.result there room c.requires.sound.count c.requires.loads.count
    (with_items_is c.next.inside.items c.advance_range.new.next (c.advance_range.ensures.room ∙ c.as_mut_slice-room.ensures.len)) c.advance_range.ensures.part).2
