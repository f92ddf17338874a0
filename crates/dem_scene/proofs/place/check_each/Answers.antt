use Rattle.std.proofs.Common.{◌≡◌, take, Ok, Err, sym, ◌∙◌, arith}
use Rattle.std.proofs.lemmas.List.{take_all}
use Rattle.std.proofs.lemmas.List.Elements.{All-more}
use Rattle.std.proofs.lemmas.Result.{err_from_is_err_and}
use Rattle.dem_model.specs.Sound.{IsClump}
use Rattle.dem_scene.proofs.PlaceFacts.{clumps_checked, clumps_check}
use Rattle.dem_scene.proofs.place.check_each.Goals as goal

pub returns-in_err-check_clump-clause-value : goal.returns-in_err-check_clump-clause-value
returns-in_err-check_clump-clause-value c =
    let p = err_from_is_err_and c.from_residual.result c.from_residual.ensures.1 in
    rw (p.1, p.2) (sym (clumps_check c.args.draft.now c.args.clumps.now c.loop-i.i _ (Err c.in_err-check_clump.field-0.0) c.loop-i-test.true c.in_err-check_clump.ensures.value) ∙ c.loop-i.invariant.rest)

pub loop-i-preserved : goal.loop-i-preserved
loop-i-preserved c = record {
  rest = sym (clumps_check c.args.draft.now c.args.clumps.now c.loop-i.i _ (Ok c.in_ok-check_clump.field-0) c.loop-i-test.true c.in_ok-check_clump.ensures.value) ∙ c.loop-i.invariant.rest;
  sound = All-more (IsClump c.args.draft.now) c.args.clumps.now c.loop-i.i _ c.loop-i-test.true c.loop-i.invariant.sound c.in_ok-check_clump.ensures.sound;
}

pub returns-clause-value : goal.returns-clause-value
returns-clause-value c = sym (clumps_checked c.args.draft.now c.args.clumps.now c.loop-i.i (omega arith)) ∙ c.loop-i.invariant.rest

pub returns-clause-sound : goal.returns-clause-sound
returns-clause-sound c =
    let all : take c.loop-i.i c.args.clumps.now ≡ c.args.clumps.now = take_all c.loop-i.i c.args.clumps.now (omega arith) in
    rw all at c.loop-i.invariant.sound
