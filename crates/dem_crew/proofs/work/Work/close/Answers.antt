use Rattle.dem_crew.proofs.WorkFacts.{has-run, prefix-kept, on-err}
use Rattle.dem_crew.proofs.NotedFacts.{noted-tests}
use Rattle.std.proofs.Common.{ℕ, List, Option}
use Rattle.dem_crew.specs.Running.{HasNoted}
use Rattle.dem_crew.specs.Working.{IsKeptUp}
use Rattle.dem_crew.proofs.work.Work.close.Goals as goal

pub returns-in_err-write_tests-clause-so_far : goal.returns-in_err-write_tests-clause-so_far
returns-in_err-write_tests-clause-so_far g c = λ o out n m k. prefix-kept o out n m c.args.self.now c.now-course.ensures.course k

pub returns-clause-ran : goal.returns-clause-ran
returns-clause-ran g c =
    λ o out n k. has-run o out n _ _ c.args.self.now c.args.last c.tests_made.result c.now-course.ensures.course c.requires.ended c.tests_made.ensures c.in_ok-write_tests.ensures.written k

pub returns-clause-so_far : goal.returns-clause-so_far
returns-clause-so_far g c = λ o out n m k. prefix-kept o out n m c.args.self.now c.now-course.ensures.course k

pub returns-in_err-write_tests-clause-noted : goal.returns-in_err-write_tests-clause-noted
returns-in_err-write_tests-clause-noted g c =
    let f : (o out n : Option (List ℕ)) → IsKeptUp o out n (g.N.Sink.held c.args.note.now) c.args.self.now → HasNoted c.args.self.now.course.scene c.args.self.now.course.drift n (g.N.Sink.held c.write_tests.new.out) =
    λ o out n k. noted-tests o out n _ _ c.args.self.now c.args.last c.tests_made.result c.now-course.ensures.course c.requires.ended c.tests_made.ensures c.in_err-write_tests.ensures.written k in
    on-err _ f
