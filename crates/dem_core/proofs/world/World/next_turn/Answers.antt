use Rattle.std.proofs.Common.{◌≡◌, true, sym, ap, ◌∙◌, subst}
use Rattle.dem_model.specs.World.{is_open, next_turn}
use Rattle.dem_core.specs.Worlds.{Turning, seen, parcel_of}
use Rattle.dem_core.proofs.TurningFacts.{next-step, next-post, next-take, next-deliver, next-collect}
use Rattle.dem_core.proofs.world.World.next_turn.Goals as goal

pub returns-then-can_step : goal.returns-then-can_step
returns-then-can_step c =
    next-step c.self.inside.course.scene c.self.inside.course.drift (record { course = c.self.inside.course.course; parcel = parcel_of c.self.inside.parcel.place c.self.inside.parcel.snap }) (sym c.can_step.ensures ∙ c.if-can_step.true) ∙ ap (λ (t : Turning). next_turn t.scene t.drift t.world) c.self.view_is

pub returns-in-Home : goal.returns-in-Home
unfolding parcel_of
returns-in-Home c =
    next-post c.self.inside.course.scene c.self.inside.course.drift c.self.inside.course.course (sym c.can_step.ensures ∙ c.if-can_step.false) (subst (λ (t : Turning). is_open t.world.course ≡ true) (sym c.self.view_is) c.requires)
    ∙ sym (ap (λ p. next_turn c.self.inside.course.scene c.self.inside.course.drift (record { course = c.self.inside.course.course; parcel = parcel_of p c.self.inside.parcel.snap })) c.in-Home.is)
    ∙ ap (λ (t : Turning). next_turn t.scene t.drift t.world) c.self.view_is

pub returns-in-Posted : goal.returns-in-Posted
unfolding parcel_of
returns-in-Posted c =
    next-take c.self.inside.course.scene c.self.inside.course.drift c.self.inside.course.course (seen c.self.inside.parcel.snap) (sym c.can_step.ensures ∙ c.if-can_step.false) (subst (λ (t : Turning). is_open t.world.course ≡ true) (sym c.self.view_is) c.requires)
    ∙ sym (ap (λ p. next_turn c.self.inside.course.scene c.self.inside.course.drift (record { course = c.self.inside.course.course; parcel = parcel_of p c.self.inside.parcel.snap })) c.in-Posted.is)
    ∙ ap (λ (t : Turning). next_turn t.scene t.drift t.world) c.self.view_is

pub returns-in-Taken : goal.returns-in-Taken
unfolding parcel_of
returns-in-Taken c =
    next-deliver c.self.inside.course.scene c.self.inside.course.drift c.self.inside.course.course (seen c.self.inside.parcel.snap) (sym c.can_step.ensures ∙ c.if-can_step.false) (subst (λ (t : Turning). is_open t.world.course ≡ true) (sym c.self.view_is) c.requires)
    ∙ sym (ap (λ p. next_turn c.self.inside.course.scene c.self.inside.course.drift (record { course = c.self.inside.course.course; parcel = parcel_of p c.self.inside.parcel.snap })) c.in-Taken.is)
    ∙ ap (λ (t : Turning). next_turn t.scene t.drift t.world) c.self.view_is

pub returns-in-Delivered : goal.returns-in-Delivered
unfolding parcel_of
returns-in-Delivered c =
    next-collect c.self.inside.course.scene c.self.inside.course.drift c.self.inside.course.course (seen c.self.inside.parcel.snap) (sym c.can_step.ensures ∙ c.if-can_step.false) (subst (λ (t : Turning). is_open t.world.course ≡ true) (sym c.self.view_is) c.requires)
    ∙ sym (ap (λ p. next_turn c.self.inside.course.scene c.self.inside.course.drift (record { course = c.self.inside.course.course; parcel = parcel_of p c.self.inside.parcel.snap })) c.in-Delivered.is)
    ∙ ap (λ (t : Turning). next_turn t.scene t.drift t.world) c.self.view_is
