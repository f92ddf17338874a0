use Rattle.std.proofs.Common.{◌≡◌, drop}
use Rattle.dem_words.specs.Values.{turns_from as turns_of}
use Rattle.dem_words.proofs.TurnFacts.{with_before}
use Rattle.dem_words.proofs.value.turns_from.Given as goal

abbrev pub invariant-loop-letter : goal.invariant-loop-letter
invariant-loop-letter l = with_before l.turns (turns_of (drop l.letter-index l.letter-items)) ≡ turns_of l.letter-items
