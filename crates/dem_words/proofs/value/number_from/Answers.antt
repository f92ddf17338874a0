use Rattle.std.proofs.Common.{rules, arith, ap, sym, ◌∙◌}
use Rattle.dem_words.specs.Values.{is_numeral}
use Rattle.dem_words.proofs.NumberFacts.{read-none}
use Rattle.dem_words.proofs.value.number_from.Goals as goal

pub returns-in_default-3-clause-value : goal.returns-in_default-3-clause-value
returns-in_default-3-clause-value c =
    read-none c.args.low c.args.high c.args.text.now c.parse.result (omega (arith, c.ranges.high.fits)) (ap is_numeral (sym c.as_bytes.ensures.value) ∙ sym c.is_numeral.ensures ∙ c.if-not-is_numeral.false) c.parse.ensures.value.0 c.in_default.field-0
    c.in_default.is
