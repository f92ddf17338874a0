use Rattle.std.proofs.Common.{sym, ap, ◌∙◌}
use Rattle.dem_model.specs.World.{enabled, may_post, is_open, is_home, is_posted, is_taken, is_delivered}
use Rattle.dem_model.specs.declared.state.Turn.TheVariants.{Post, Take, Deliver, Collect, Step}
use Rattle.dem_core.specs.Worlds.{Turning, parcel_of}
use Rattle.dem_core.proofs.TurningFacts.{and-then, and-else}
use Rattle.dem_core.proofs.world.World.may.Goals as goal

pub returns-then-can_post : goal.returns-then-can_post
unfolding enabled
returns-then-can_post c =
    rw c.in-Post.is (and-then (may_post c.self.inside.course.course) (is_home (parcel_of c.self.inside.parcel.place c.self.inside.parcel.snap)) c.is_home.result (sym c.can_post.ensures ∙ c.if-can_post.true) (c.is_home.ensures c.self.inside.parcel.snap) ∙ ap (λ (t : Turning). enabled t.scene t.drift t.world Post) c.self.view_is)

pub returns-else-can_post : goal.returns-else-can_post
unfolding enabled
returns-else-can_post c =
    rw c.in-Post.is (and-else (may_post c.self.inside.course.course) (is_home (parcel_of c.self.inside.parcel.place c.self.inside.parcel.snap)) c.can_post.result c.can_post.ensures c.if-can_post.false ∙ ap (λ (t : Turning). enabled t.scene t.drift t.world Post) c.self.view_is)

pub returns-then-is_open : goal.returns-then-is_open
unfolding enabled
returns-then-is_open c =
    rw c.in-Take.is (and-then (is_open c.self.inside.course.course) (is_posted (parcel_of c.self.inside.parcel.place c.self.inside.parcel.snap)) c.is_posted.result (sym c.is_open.ensures ∙ c.if-is_open.true) (c.is_posted.ensures c.self.inside.parcel.snap) ∙ ap (λ (t : Turning). enabled t.scene t.drift t.world Take) c.self.view_is)

pub returns-else-is_open : goal.returns-else-is_open
unfolding enabled
returns-else-is_open c =
    rw c.in-Take.is (and-else (is_open c.self.inside.course.course) (is_posted (parcel_of c.self.inside.parcel.place c.self.inside.parcel.snap)) c.is_open.result c.is_open.ensures c.if-is_open.false ∙ ap (λ (t : Turning). enabled t.scene t.drift t.world Take) c.self.view_is)

pub returns-then-is_open-2 : goal.returns-then-is_open-2
unfolding enabled
returns-then-is_open-2 c =
    rw c.in-Deliver.is (and-then (is_open c.self.inside.course.course) (is_taken (parcel_of c.self.inside.parcel.place c.self.inside.parcel.snap)) c.is_taken.result (sym c.is_open-in-Deliver.ensures ∙ c.if-is_open-2.true) (c.is_taken.ensures c.self.inside.parcel.snap) ∙ ap (λ (t : Turning). enabled t.scene t.drift t.world Deliver) c.self.view_is)

pub returns-else-is_open-2 : goal.returns-else-is_open-2
unfolding enabled
returns-else-is_open-2 c =
    rw c.in-Deliver.is (and-else (is_open c.self.inside.course.course) (is_taken (parcel_of c.self.inside.parcel.place c.self.inside.parcel.snap)) c.is_open-in-Deliver.result c.is_open-in-Deliver.ensures c.if-is_open-2.false ∙ ap (λ (t : Turning). enabled t.scene t.drift t.world Deliver) c.self.view_is)

pub returns-then-is_open-3 : goal.returns-then-is_open-3
unfolding enabled
returns-then-is_open-3 c =
    rw c.in-Collect.is (and-then (is_open c.self.inside.course.course) (is_delivered (parcel_of c.self.inside.parcel.place c.self.inside.parcel.snap)) c.is_delivered.result (sym c.is_open-in-Collect.ensures ∙ c.if-is_open-3.true) (c.is_delivered.ensures c.self.inside.parcel.snap) ∙ ap (λ (t : Turning). enabled t.scene t.drift t.world Collect) c.self.view_is)

pub returns-else-is_open-3 : goal.returns-else-is_open-3
unfolding enabled
returns-else-is_open-3 c =
    rw c.in-Collect.is (and-else (is_open c.self.inside.course.course) (is_delivered (parcel_of c.self.inside.parcel.place c.self.inside.parcel.snap)) c.is_open-in-Collect.result c.is_open-in-Collect.ensures c.if-is_open-3.false ∙ ap (λ (t : Turning). enabled t.scene t.drift t.world Collect) c.self.view_is)

pub returns-in-Step : goal.returns-in-Step
unfolding enabled
returns-in-Step c = rw c.in-Step.is (c.can_step.ensures ∙ ap (λ (t : Turning). enabled t.scene t.drift t.world Step) c.self.view_is)
