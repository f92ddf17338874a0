use Rattle.std.proofs.Common.{◌≡◌, true, ℕ, List, Option, arith, rules}
use Rattle.dem_outside.specs.Known.{AppendsPrefix}
use Rattle.dem_model.specs.Output.{output_of}
use Rattle.dem_model.specs.World.{may_step}
use Rattle.dem_crew.specs.Working.{IsKeptUp}
use Rattle.dem_crew.proofs.WorkFacts.{on-err, few-stepped, run-tests, at_work-stepped, kept-stepped, prefix-stepped}
use Rattle.dem_crew.proofs.NotedFacts.{noted-kept}
use Rattle.dem_crew.specs.Running.{HasNoted}
use Rattle.dem_crew.proofs.work.Work.step.Goals as goal

pub returns-in_err-step_on-clause-few : goal.returns-in_err-step_on-clause-few
returns-in_err-step_on-clause-few g c = few-stepped c.args.self.now.lists _ _ c.args.self.now.course.course c.step_on.new.self c.step_on.ensures.stepped

pub returns-in_err-step_on-clause-at_work : goal.returns-in_err-step_on-clause-at_work
returns-in_err-step_on-clause-at_work g c = λ table seat h. at_work-stepped table seat c.args.self.now c.step_on.new.self c.step_on.ensures.stepped h

pub returns-in_err-step_on-clause-so_far : goal.returns-in_err-step_on-clause-so_far
returns-in_err-step_on-clause-so_far g c =
    let work = c.args.self.now in
    let may : may_step work.course.scene work.course.drift work.course.course ≡ true = search rules in
    let f : (o n note : Option (List ℕ)) → IsKeptUp o (g.K.Sink.held c.args.out.now) n note c.args.self.now → AppendsPrefix o (g.K.Sink.held c.step_on.new.out) (output_of c.args.self.now.course.scene) =
    λ o n note k. prefix-stepped o _ _ n note c.args.self.now c.now.ensures.course may c.in_err-step_on.ensures.written k in
    on-err _ f

pub returns-in_err-step_on-clause-counted : goal.returns-in_err-step_on-clause-counted
returns-in_err-step_on-clause-counted g c = omega (arith, run-tests _ _ c.args.self.now.course.course c.step_on.new.self c.step_on.ensures.stepped, c.step_on.ensures.counted)

pub returns-clause-few : goal.returns-clause-few
returns-clause-few g c = few-stepped c.args.self.now.lists _ _ c.args.self.now.course.course c.step_on.new.self c.step_on.ensures.stepped

pub returns-clause-at_work : goal.returns-clause-at_work
returns-clause-at_work g c = λ table seat h. at_work-stepped table seat c.args.self.now c.step_on.new.self c.step_on.ensures.stepped h

pub returns-clause-kept : goal.returns-clause-kept
returns-clause-kept g c =
    let work = c.args.self.now in
    let may : may_step work.course.scene work.course.drift work.course.course ≡ true = search rules in
    λ o n note k. kept-stepped o _ _ n note c.args.self.now c.step_on.new.self c.now.ensures.course may c.step_on.ensures.stepped c.in_ok-step_on.ensures.written k

pub returns-clause-counted : goal.returns-clause-counted
returns-clause-counted g c = omega (arith, run-tests _ _ c.args.self.now.course.course c.step_on.new.self c.step_on.ensures.stepped, c.step_on.ensures.counted)

pub returns-in_err-step_on-clause-noted : goal.returns-in_err-step_on-clause-noted
returns-in_err-step_on-clause-noted g c =
    let f : (o n note : Option (List ℕ)) → IsKeptUp o (g.K.Sink.held c.args.out.now) n note c.args.self.now → HasNoted c.args.self.now.course.scene c.args.self.now.course.drift n note =
    λ o n note k. noted-kept o _ n note c.args.self.now c.now.ensures.course k in
    on-err _ f
