use Rattle.std.proofs.Common.{◌≡◌, true, None, Some, rules}
use Rattle.dem_model.specs.World.{may_post}
use Rattle.dem_crew.proofs.WorkFacts.{at_work-posted}
use Rattle.dem_crew.proofs.work.Work.post.Goals as goal

pub returns-in-Some-clause-at_work : goal.returns-in-Some-clause-at_work
returns-in-Some-clause-at_work g c =
    let work = c.args.self.now in
    let may : may_post work.course.course ≡ true = search rules in
    let was : work.home ≡ Some c.in-Some.parcel = search rules in
    let none : c.take.new.self ≡ None = search rules in
    at_work-posted _ _ _ work c.in-Some.parcel _ _ c.next_list.ensures.course may was none c.post_into.ensures.of_run c.post_into.ensures.value c.post.ensures c.requires.at_work
