use Rattle.std.proofs.Common.{◌∙◌, sym, ap, subst}
use Rattle.std.specs.Str.{IsUtf8}
use Rattle.std.proofs.lemmas.Result.{IfOk-weaker}
use Rattle.serde_json.specs.View.{view}
use Rattle.serde_json.specs.Read.{read}
use Rattle.dem_scene.specs.Stands.{IsTextOf}
use Rattle.dem_scene.proofs.JsonFacts.{json_ok}
use Rattle.dem_scene.proofs.stand.text.Goals as goal

pub returns-in-Ok : goal.returns-in-Ok
returns-in-Ok c =
    IfOk-weaker c.listed.result _ (IsTextOf (view c.args.tree.now)) (λ text e.
    let same = e ∙ c.as_slice.ensures.value in
    record {
      compact = λ h. same ∙ c.in-Ok.ensures.text h;
      back = λ h. json_ok text (view c.args.tree.now) (subst IsUtf8 (sym same) c.in-Ok.ensures.utf8) (ap read same ∙ c.in-Ok.ensures.reads_back h);
    }) c.listed.ensures
