use Rattle.std.proofs.Common.{◌≡◌, false, IfOk, sym, subst, true≢false}
use Rattle.dem_model.specs.SceneValue.{SceneValue}
use Rattle.dem_model.specs.Motion.{AreSound}
use Rattle.dem_plain.specs.Run.{Run}
use Rattle.dem_plain.proofs.plain_run.PlainRun.resume.Goals as goal

pub at-requires-clause-sound : goal.at-requires-clause-sound
at-requires-clause-sound c = subst (λ (s : SceneValue). AreSound s c.args.state.bodies) (sym c.in_ok-shapes.ensures) c.requires.fit.bodies

pub at-requires-clause-stored : goal.at-requires-clause-stored
at-requires-clause-stored c = c.requires.fit.stored

pub at-requires-clause-plain : goal.at-requires-clause-plain
at-requires-clause-plain c = λ e. absurd (true≢false (sym e))

pub returns : goal.returns
returns c =
    let begun : SceneValue → Run = λ s. record { scene = s; state = c.args.state; from_first = false } in
    subst (λ (s : SceneValue). IfOk c.at.result (λ run. run ≡ begun s)) c.in_ok-shapes.ensures c.at.ensures
