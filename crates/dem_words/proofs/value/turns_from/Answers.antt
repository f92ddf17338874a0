use Rattle.std.proofs.Common.{◌≡◌, ◌∙◌, sym, ap, ◌+◌, drop, rules}
use Rattle.dem_words.specs.Values.{turns_from as turns_of}
use Rattle.dem_words.proofs.TurnFacts.{with_before, turns-start, turns-more, turns-bad, turns-done}
use Rattle.dem_words.proofs.value.turns_from.Goals as goal

pub returns-in-None : goal.returns-in-None
returns-in-None c =
    ap turns_of (sym c.as_bytes-letter-items.ensures.value)
    ∙ turns-bad c.loop-letter.turns c.as_bytes-letter-items.result.now c.loop-letter.letter-index _ c.loop-letter-test.true (search rules) c.loop-letter.invariant (sym c.in-None.ensures)

pub loop-letter-preserved : goal.loop-letter-preserved
loop-letter-preserved c =
    ap (λ ts. with_before ts (turns_of (drop (c.loop-letter.letter-index + 1) c.as_bytes-letter-items.result.now))) c.in_ok-push-in-Some.ensures.ok
    ∙ turns-more c.loop-letter.turns c.as_bytes-letter-items.result.now c.loop-letter.letter-index _ c.loop-letter-test.true (search rules) c.loop-letter.invariant c.in-Some.turn (sym c.in-Some.ensures)

pub returns : goal.returns
returns c =
    ap turns_of (sym c.as_bytes-letter-items.ensures.value)
    ∙ turns-done c.loop-letter.turns c.as_bytes-letter-items.result.now c.loop-letter.letter-index c.loop-letter-test.false c.loop-letter.invariant
