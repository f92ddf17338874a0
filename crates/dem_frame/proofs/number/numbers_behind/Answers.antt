use Rattle.std.proofs.Common.{◌≡◌, ◌+◌, ◌++◌, ◌∷◌, [], FitsSigned, w64, length-append, sym, arith, refl, rules}
use Rattle.std.proofs.lemmas.Int.{to_z-of_z}
use Rattle.csv.proofs.RecordFacts.{field-there}
use Rattle.csv.specs.Records.{fields_of}
use Rattle.dem_frame.proofs.FieldFacts.{Reads-start, Reads-more, Reads-none, Reads-all}
use Rattle.dem_frame.proofs.number.numbers_behind.Goals as goal

pub loop-i-init : goal.loop-i-init
loop-i-init c = rw c.new-numbers.ensures (Reads-start _, refl)

pub returns-in_default-clause-numbers : goal.returns-in_default-clause-numbers
returns-in_default-clause-numbers c = absurd (field-there (fields_of c.args.row.now) (c.loop-i.i + 1) (omega arith) (sym c.in_default.ensures.value))

pub returns-in_default-read_number-clause-numbers : goal.returns-in_default-read_number-clause-numbers
returns-in_default-read_number-clause-numbers c =
    sym (Reads-none c.loop-i.numbers.items _ (fields_of c.args.row.now) (c.loop-i.i + 1) c.in-Some.field.now c.loop-i.invariant.0 (sym c.in-Some.ensures.value) (sym c.in_default-read_number.ensures))

pub loop-i-preserved : goal.loop-i-preserved
loop-i-preserved c =
    let fits : FitsSigned w64 c.in-Some-read_number.number = search rules in
    let items : c.push.new.self.items ≡ c.loop-i.numbers.items ++ c.in-Some-read_number.number ∷ [] = rw (to_z-of_z w64 c.in-Some-read_number.number fits) at c.push.ensures.items in (
      rw items
          (Reads-more c.loop-i.numbers.items _ (fields_of c.args.row.now) (c.loop-i.i + 1) c.in-Some.field.now c.in-Some-read_number.number c.loop-i.invariant.0 (sym c.in-Some.ensures.value) (sym c.in-Some-read_number.ensures)),
      rw items (omega (arith, length-append c.loop-i.numbers.items (c.in-Some-read_number.number ∷ []))),
    )

pub returns-clause-numbers : goal.returns-clause-numbers
returns-clause-numbers c = sym (Reads-all c.loop-i.numbers.items _ (fields_of c.args.row.now) (c.loop-i.i + 1) (omega arith) c.loop-i.invariant.0)
