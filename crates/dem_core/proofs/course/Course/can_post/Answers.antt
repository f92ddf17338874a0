use Rattle.std.proofs.Common.{sym, ap, ◌∙◌}
use Rattle.dem_model.specs.World.{may_post}
use Rattle.dem_core.specs.Courses.{Running, course_of}
use Rattle.dem_core.proofs.RunningFacts.{may_post-some, may_post-none, may_post-ended}
use Rattle.dem_core.proofs.course.Course.can_post.Goals as goal

pub returns-then-is_none : goal.returns-then-is_none
returns-then-is_none c =
    may_post-some (course_of c.self.inside.run c.self.inside.taken_at c.self.inside.tests c.self.inside.last) c.in-Some.from c.now.result (sym c.list_from.ensures.value ∙ c.in-Some.is) c.now.ensures.value c.if-is_none.ensures
    ∙ ap (λ (r : Running). may_post r.course) c.self.view_is

pub returns-else-is_none : goal.returns-else-is_none
returns-else-is_none c =
    c.if-is_none.false
    ∙ may_post-ended (course_of c.self.inside.run c.self.inside.taken_at c.self.inside.tests c.self.inside.last) c.if-is_none.ensures
    ∙ ap (λ (r : Running). may_post r.course) c.self.view_is

pub returns-in-None : goal.returns-in-None
returns-in-None c =
    may_post-none (course_of c.self.inside.run c.self.inside.taken_at c.self.inside.tests c.self.inside.last) c.is_none-in-None.result (sym c.list_from.ensures.value ∙ c.in-None.is) c.is_none-in-None.ensures
    ∙ ap (λ (r : Running). may_post r.course) c.self.view_is
