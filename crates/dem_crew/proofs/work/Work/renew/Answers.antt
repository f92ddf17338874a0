use Rattle.std.proofs.Common.{◌≡◌, true, refl, ◌∙◌, rules}
use Rattle.dem_model.specs.World.{may_post}
use Rattle.dem_crew.proofs.WorkFacts.{on-err-then, kept-same, out-posted}
use Rattle.dem_crew.proofs.work.Work.renew.Goals as goal

pub take_up-requires-clause-out : goal.take_up-requires-clause-out
take_up-requires-clause-out g c =
    let may : may_post c.args.self.now.course.course ≡ true = search rules in
    out-posted _ _ _ _ c.next_list-nth.ensures.course may (c.answer-answered.ensures.snap ∙ c.post_into.ensures.value)

pub returns-in-Some-clause-noted : goal.returns-in-Some-clause-noted
returns-in-Some-clause-noted g c = on-err-then c.take_up.result (λ h o out n k. h o out n (kept-same o out n _ c.args.self.now _ refl refl k)) c.take_up.ensures.noted
