use Rattle.std.proofs.Common.{refl}
use Rattle.dem_crew.proofs.WorkFacts.{on-err, none-tested, kept-first, prefix-begun}
use Rattle.dem_crew.proofs.work.Work.new.Goals as goal

pub returns-in_err-course-clause-so_far : goal.returns-in_err-course-clause-so_far
returns-in_err-course-clause-so_far g c = on-err _ (prefix-begun _ _ _ 0 _ _ c.in_err-course.field-0.0 c.in_err-course.ensures)

pub returns-clause-none : goal.returns-clause-none
returns-clause-none g c = (refl, none-tested _ _ c.in_ok-course.course c.in_ok-course.ensures.0)

pub returns-clause-kept : goal.returns-clause-kept
returns-clause-kept g c = λ n. kept-first _ _ n _ _ c.in_ok-course.course _ c.in_ok-course.ensures.0 c.in_ok-course.ensures.1
