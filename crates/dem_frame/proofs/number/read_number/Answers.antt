use Rattle.std.proofs.Common.{◌≡◌, FitsSigned, w64, sym, ◌∙◌, rules}
use Rattle.std.specs.Fmt.{signed_decimal}
use Rattle.std.proofs.lemmas.Int.{to_z-of_z}
use Rattle.std.proofs.lemmas.Bool.{false≢true}
use Rattle.std.proofs.lemmas.Bool.Decides.{Decides-eqb}
use Rattle.std.proofs.lemmas.Slice.Eq.{slice_eq-Decides}
use Rattle.dem_frame.specs.Records.{value_of}
use Rattle.dem_frame.proofs.NumberFacts.{number_of-bytes, number_of-unparsed, number_of-printed, number_of-other, parsed_value}
use Rattle.dem_frame.proofs.number.read_number.Goals as goal

pub returns-in_default : goal.returns-in_default
returns-in_default c = sym (number_of-bytes c.args.field.now c.in_default.ensures.cases.0)

pub returns-in_default-parse : goal.returns-in_default-parse
returns-in_default-parse c =
    sym (number_of-unparsed c.args.field.now c.in-Ok.text.now c.in_default-parse.field-0 c.in-Ok.ensures.cases.0 c.in_default-parse.ensures.value.0)

pub returns-then-eq : goal.returns-then-eq
returns-then-eq c =
    let fits : FitsSigned w64 c.in-Ok-parse.number = search rules in
    let n : c.in-Ok-parse.number ≡ value_of c.args.field.now = parsed_value c.args.field.now c.in-Ok.text.now c.in-Ok-parse.number c.in-Ok.ensures.cases.0 c.in-Ok-parse.ensures.value.0.1 in
    let same : signed_decimal c.in-Ok-parse.number ≡ c.args.field.now =
    rw (to_z-of_z w64 c.in-Ok-parse.number fits) at (sym c.format.ensures.text) ∙ sym c.as_bytes.ensures.value ∙ (slice_eq-Decides Decides-eqb _ _ _ c.eq.ensures).0 c.if-eq.true in
    rw (to_z-of_z w64 c.in-Ok-parse.number fits) (sym (number_of-printed c.args.field.now c.in-Ok-parse.number n fits same))

pub returns-else-eq : goal.returns-else-eq
returns-else-eq c =
    let fits : FitsSigned w64 c.in-Ok-parse.number = search rules in
    let n : c.in-Ok-parse.number ≡ value_of c.args.field.now = parsed_value c.args.field.now c.in-Ok.text.now c.in-Ok-parse.number c.in-Ok.ensures.cases.0 c.in-Ok-parse.ensures.value.0.1 in
    sym (number_of-other c.args.field.now c.in-Ok-parse.number n
    (λ same. false≢true (sym c.if-eq.false ∙ (slice_eq-Decides Decides-eqb _ _ _ c.eq.ensures).1 (c.as_bytes.ensures.value ∙ (rw (to_z-of_z w64 c.in-Ok-parse.number fits) at c.format.ensures.text) ∙ same))))
