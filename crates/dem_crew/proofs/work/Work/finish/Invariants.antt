use Rattle.std.proofs.Common.{◌≡◌, ◌+◌, ◌≤◌, ℕ, List, Option}
use Rattle.dem_crew.specs.Working.{IsAtWork, IsKeptUp}
use Rattle.dem_crew.proofs.work.Work.finish.Given as goal

-- dynamics is at its work, what was written follows the run, no put has failed, and no more tests were counted than the steps have pairs
abbrev pub invariant-loop : goal.invariant-loop
invariant-loop g l =
    (goal.iterator-loop g).can_next l.iterator'
    × (goal.iterator-loop g).is_finite l.iterator'
    × (l.self.course.scene ≡ l.fn.self.course.scene)
    × (l.self.course.drift ≡ l.fn.self.course.drift)
    × (l.seat.table ≡ l.fn.seat.table)
    × IsAtWork l.fn.swap l.seat l.self
    × ((o n : Option (List ℕ)) → IsKeptUp o (g.K.Sink.held l.fn.out) n (g.N.Sink.held l.fn.note) l.fn.self → IsKeptUp o (g.K.Sink.held l.out) n (g.N.Sink.held l.note) l.self)
    × (g.K.Sink.faults l.out ≡ g.K.Sink.faults l.fn.out)
    × (g.N.Sink.faults l.note ≡ g.N.Sink.faults l.fn.note)
    × (l.tests + l.fn.self.course.course.tests ≤ l.fn.tests + l.self.course.course.tests)
