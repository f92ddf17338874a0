use Rattle.std.proofs.Common.{◌≡◌, ◌==◌, find}
use Rattle.std.specs.Prelude.{drop}
use Rattle.dem_outside.proofs.mem_sink.find_failure.Given as goal

abbrev pub invariant-loop-f : goal.invariant-loop-f
invariant-loop-f l = find (λ f. f.call == l.number) l.fails ≡ find (λ f. f.call == l.number) (drop l.f-index l.fails)
