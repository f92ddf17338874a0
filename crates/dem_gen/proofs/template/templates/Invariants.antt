use Rattle.std.proofs.Common.{◌≡◌}
use Rattle.dem_model.specs.Made.{state_after}
use Rattle.dem_gen.proofs.ListFacts.{first_templates}
use Rattle.dem_gen.proofs.template.templates.Given as goal

abbrev pub invariant-loop-j : goal.invariant-loop-j
invariant-loop-j l = (l.templates ≡ first_templates l.fn.words l._j) × (l.words ≡ state_after l.fn.words l._j)
