use Rattle.std.proofs.Common.{ap, ◌∙◌, subst}
use Rattle.dem_core.specs.Courses.{Running, HoldsRight}
use Rattle.dem_core.proofs.course.Course.now.Goals as goal

pub returns-clause-value : goal.returns-clause-value
returns-clause-value c = c.now.ensures.value ∙ ap (λ (r : Running). r.course.state.step) c.self.view_is

pub returns-clause-held : goal.returns-clause-held
returns-clause-held c = subst (λ (r : Running). HoldsRight r.scene r.course) c.self.view_is (record { agrees = c.contacts-contacts.ensures.agrees; only = c.contacts-contacts.ensures.only })
