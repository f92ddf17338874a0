use Rattle.std.proofs.Common.{◌+◌, ◌≤◌, sym, subst, arith}
use Rattle.dem_model.specs.World.{with_list}
use Rattle.dem_core.specs.Courses.{Running}
use Rattle.dem_crew.specs.Working.{lists_by}
use Rattle.dem_crew.proofs.WorkFacts.{may-collect, list-of, not-refused, few-more, kept-with_list}
use Rattle.dem_crew.proofs.NotedFacts.{noted-kept, noted-refused}
use Rattle.dem_crew.proofs.work.Work.take_up.Goals as goal

pub collect-requires-clause-may : goal.collect-requires-clause-may
collect-requires-clause-may g c =
    let near = not-refused c.args.parcel.refused c.if-refused.false c.requires.answer in
    may-collect _ _ _ _ c.requires.goes_on c.requires.out near.from_is

pub returns-in-Ok-clause-few : goal.returns-in-Ok-clause-few
unfolding with_list
returns-in-Ok-clause-few g c =
    let near = not-refused c.args.parcel.refused c.if-refused.false c.requires.answer in
    let may = may-collect _ _ _ _ c.requires.goes_on c.requires.out near.from_is in
    let more = few-more c.args.self.now.course.course c.args.self.now.lists c.args.parcel.list.from c.requires.few may in
    let some : c.next_list-lists.result ≤ c.args.parcel.list.from + 1 = omega (arith, more, c.next_list-lists.ensures.value) in
    subst (λ (run : Running). c.next_list-lists.result ≤ lists_by run.course.from) (sym c.in-Ok.ensures.0) some

pub returns-in-Ok-clause-kept : goal.returns-in-Ok-clause-kept
returns-in-Ok-clause-kept g c =
    let near = not-refused c.args.parcel.refused c.if-refused.false c.requires.answer in
    let may = may-collect _ _ _ _ c.requires.goes_on c.requires.out near.from_is in
    let of_run = list-of _ _ _ _ c.args.parcel.list c.requires.out near in
    λ o out n k. kept-with_list o out n _ _ c.args.self.now c.collect.new.self _ c.args.parcel.list c.next_list-lists.result c.next_list-lists.ensures.value c.next_list-lists.ensures.course may of_run c.in-Ok.ensures.0 c.in-Ok.ensures.1 k

pub returns-then-refused-clause-noted : goal.returns-then-refused-clause-noted
returns-then-refused-clause-noted g c = λ o out n k. noted-kept o out n _ c.args.self.now c.next_list-lists.ensures.course k

pub returns-in-Err-clause-noted : goal.returns-in-Err-clause-noted
returns-in-Err-clause-noted g c =
    let near = not-refused c.args.parcel.refused c.if-refused.false c.requires.answer in
    let may = may-collect _ _ _ _ c.requires.goes_on c.requires.out near.from_is in
    let of_run = list-of _ _ _ _ c.args.parcel.list c.requires.out near in
    λ o out n k. noted-refused o out n _ _ _ _ c.args.self.now c.collect.new.self c.args.parcel.list _ _ c.next_list-lists.ensures.course may of_run c.in-Err.ensures k
