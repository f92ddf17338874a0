use Rattle.std.proofs.Common.{◌≡◌, ◌∙◌, ◌<◌, length, subst, List, ap, sym}
use Rattle.std.specs.Prelude.{slice_get}
use Rattle.dem_model.specs.SceneValue.{SceneValue}
use Rattle.dem_model.specs.declared.shape.Template.{Template}
use Rattle.dem_model.specs.Packing.{IsPacking}
use Rattle.dem_model.specs.Sound.{IsSound}
use Rattle.dem_model.specs.Stands.{CanStand, with_stands}
use Rattle.dem_pack.proofs.AnswerFacts.{answer-by-template, balls-found, on-answer}
use Rattle.dem_pack.proofs.BodyFacts.{stands-can}
use Rattle.dem_pack.proofs.CanFacts.{stands-packed, stands-count}
use Rattle.dem_pack.specs.Starts.{BeginsApart}
use Rattle.dem_pack.proofs.StartFacts.{begins-apart}
use Rattle.dem_pack.proofs.packing.pack.Goals as goal

pub returns-clause-answer : goal.returns-clause-answer
returns-clause-answer c =
    let same : c.scene.inside.templates ≡ c.args.scene.now.templates = ap (λ (v : SceneValue). v.templates) c.scene.view_is in
    answer-by-template c.args.scene.now c.args.ask.now c.as_slice.result.now c.stands_of.result (subst (λ n. c.args.ask.now.t < n) (c.len.ensures ∙ ap (λ (xs : List Template). length xs) same) c.if-ask-len.false) (sym c.fits_box.ensures ∙ c.if-not-fits_box.false)
    (c.as_slice.ensures ∙ balls-found c.args.scene.now.templates c.args.ask.now.t c.get-template.result.now (ap (λ (xs : List Template). slice_get xs c.args.ask.now.t) (sym same) ∙ c.get-template.ensures)) c.stands_of.ensures

pub returns-clause-count : goal.returns-clause-count
returns-clause-count c =
    on-answer (λ stands. length stands ≡ c.args.ask.now.count) c.args.scene.now c.args.ask.now c.stands_of.result (returns-clause-answer c)
    (stands-count c.args.scene.now c.args.ask.now)

pub returns-clause-packing : goal.returns-clause-packing
returns-clause-packing c =
    on-answer (λ stands. IsPacking c.args.ask.now.lo c.args.ask.now.hi c.args.ask.now.gap c.args.scene.now.templates stands) c.args.scene.now c.args.ask.now c.stands_of.result (returns-clause-answer c)
    (λ stands is. stands-packed c.args.scene.now c.args.ask.now stands c.requires is)

pub returns-clause-sound : goal.returns-clause-sound
returns-clause-sound c =
    on-answer (λ stands. CanStand c.args.scene.now stands) c.args.scene.now c.args.ask.now c.stands_of.result (returns-clause-answer c)
    (λ stands is. stands-can c.args.scene.now c.args.ask.now stands (subst IsSound c.scene.view_is c.scene.invariant) c.requires is)

pub returns-clause-untouched : goal.returns-clause-untouched
returns-clause-untouched c =
    on-answer (λ stands. BeginsApart (with_stands c.args.scene.now stands)) c.args.scene.now c.args.ask.now c.stands_of.result (returns-clause-answer c)
    (λ stands is. begins-apart c.args.ask.now.gap c.args.scene.now stands (stands-packed c.args.scene.now c.args.ask.now stands c.requires is).clear)
