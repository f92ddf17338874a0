use Rattle.std.proofs.Common.{sym, ap₂, ◌∙◌, ℤ, FitsSigned, w64, rules}
use Rattle.std.specs.Prelude.{int_lt}
use Rattle.std.proofs.lemmas.Int.{to_z-of_z}
use Rattle.dem_model.specs.Look.{is_low}
use Rattle.dem_model.specs.declared.state.Body.{Body}
use Rattle.dem_look.proofs.MotionFacts.{body-read}
use Rattle.dem_look.proofs.middle.is_low.Goals as goal

pub returns : goal.returns
unfolding is_low
returns c =
    let height : FitsSigned w64 c.get.result.now.p.z = search rules in
    let middle : FitsSigned w64 c.middle.result = search rules in
    ap₂ int_lt (to_z-of_z w64 c.get.result.now.p.z height) (to_z-of_z w64 c.middle.result middle)
    ∙ ap₂ (λ (b : Body) (m : ℤ). int_lt b.p.z m) (sym (body-read c.args.state.now.bodies c.args.clump c.get.result.now c.get.ensures)) c.middle.ensures
