use Rattle.std.proofs.Common.{sym, ap, ◌∙◌}
use Rattle.dem_model.specs.World.{may_step}
use Rattle.dem_core.specs.Courses.{Running, course_of}
use Rattle.dem_core.proofs.CourseFacts.{may_step-told, may_step-closed, none-of}
use Rattle.dem_core.proofs.course.Course.can_step.Goals as goal

pub returns-then-is_none : goal.returns-then-is_none
returns-then-is_none c =
    may_step-told c.self.inside.run c.self.inside.taken_at c.self.inside.tests c.self.inside.last c.can_step.result (none-of c.self.inside.last c.if-is_none.ensures) c.can_step.ensures
    ∙ ap (λ (r : Running). may_step r.scene r.drift r.course) c.self.view_is

pub returns-else-is_none : goal.returns-else-is_none
returns-else-is_none c =
    c.if-is_none.false
    ∙ sym (may_step-closed c.self.inside.run.scene c.self.inside.run.drift (course_of c.self.inside.run c.self.inside.taken_at c.self.inside.tests c.self.inside.last) c.if-is_none.ensures)
    ∙ ap (λ (r : Running). may_step r.scene r.drift r.course) c.self.view_is
