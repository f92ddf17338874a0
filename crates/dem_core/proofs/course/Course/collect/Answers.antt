use Rattle.std.proofs.Common.{sym, subst}
use Rattle.dem_step.specs.Stepper.{IsListOfRun}
use Rattle.dem_core.specs.Courses.{Running, MayCollect, course_of}
use Rattle.dem_core.proofs.RunningFacts.{collect-in_time, takes-kept, takes-course, listed-view, row-writes}
use Rattle.dem_core.proofs.course.Course.collect.Goals as goal
use Rattle.dem_core.proofs.course.Course.collect.Goals.{in-Ok-write_taken, in-Err-write_taken}

pub adopt-requires-clause-in_time : goal.adopt-requires-clause-in_time
adopt-requires-clause-in_time g c =
    collect-in_time c.self.inside.run c.self.inside.taken_at c.self.inside.tests c.args.list.from c.self.inside.last c.self.invariant.0
    (subst (λ (r : Running). MayCollect r.course c.args.list.from) (sym c.self.view_is) c.requires.may)

pub invariant_of-self : goal.invariant_of-self
invariant_of-self g c =
    takes-kept c.self.inside.run c.adopt.new.self c.args.list c.self.inside.taken_at c.now.result c.self.inside.tests c.self.inside.last c.self.invariant.0 c.self.invariant.1
    (subst (λ (r : Running). MayCollect r.course c.args.list.from) (sym c.self.view_is) c.requires.may)
    (subst (λ (r : Running). IsListOfRun r.scene r.drift c.args.list) (sym c.self.view_is) c.requires.near)
    c.in-Ok.ensures.taken c.now.ensures.value

pub returns-after-write_taken : goal.returns-after-write_taken
returns-after-write_taken g c =
    let view =
    listed-view c.self.inside.run c.adopt.new.self c.self.inside.taken_at c.self.inside.tests c.args.list.from c.self.inside.last c.args.list.pairs (course_of c.adopt.new.self c.now.result c.self.inside.tests c.self.inside.last) _ c.self.view_is
    c.in-Ok.ensures.taken.scene c.in-Ok.ensures.taken.drift
    (takes-course c.self.inside.run c.adopt.new.self c.args.list c.self.inside.taken_at c.now.result c.self.inside.tests c.self.inside.last c.in-Ok.ensures.taken c.now.ensures.value) in
    let text = row-writes c.self.inside.run c.self.inside.taken_at c.self.inside.tests c.from.result c.now.result c.len.result c.args.list c.self.inside.last _ c.self.view_is c.from.ensures c.now.ensures.value c.len.ensures.value in
    elim c.match-write_taken.branch [
      | in-Ok-write_taken w ↦ rw w.result-is (view, rw text at w.in-Ok-write_taken.ensures.written, w.in-Ok-write_taken.ensures.count)
      | in-Err-write_taken w ↦ rw w.result-is (view, rw text at w.in-Err-write_taken.ensures.written, w.in-Err-write_taken.ensures.count)
    ]
