-- A row is one record, and the lines of a text come one after the other.
use Rattle.std.proofs.Common.{◌≡◌, ℕ, ℤ, List, [], ◌∷◌, ◌++◌, map, false, Some, None, FitsSigned, w64, refl}
use Rattle.std.specs.Fmt.{signed_decimal}
use Rattle.std.specs.List.{AllByRecursion, list_any, flat_map}
use Rattle.csv.specs.Machine.{next_record}
use Rattle.csv.specs.Reading.{default_config}
use Rattle.csv.specs.Writing.{default_writer, needs_byte, fields_text, is_blank}
use Rattle.csv.specs.Writing as csv
use Rattle.csv.specs.declared.parser.State.TheVariants as st
use Rattle.csv.proofs.RoundTrip.{read-write-many}
use Rattle.dem_model.specs.Frames.{number_text, row_text}
use Rattle.dem_frame.proofs.DecimalFacts.{plain_decimal}

-- the fields of a row
abbrev pub row_fields : List ℕ → List ℤ → List (List ℕ)
row_fields name numbers = name ∷ map signed_decimal numbers

-- the numbers of a row as csv writes them
numbers_text : (zs : List ℤ) → AllByRecursion (FitsSigned w64) zs → fields_text default_writer (map signed_decimal zs) ≡ flat_map number_text zs
unfolding fields_text number_text
numbers_text [] fit = refl
numbers_text (z ∷ zs) fit = rw (plain_decimal z fit.0, numbers_text zs fit.1) refl

-- a row is what csv writes of its fields
row_as_csv : (name : List ℕ) (z : ℤ) (zs : List ℤ) → list_any (needs_byte default_writer) name ≡ false → AllByRecursion (FitsSigned w64) (z ∷ zs)
    → csv.row_text default_writer (row_fields name (z ∷ zs)) ≡ row_text name (z ∷ zs)
unfolding row_text is_blank
row_as_csv name z zs plain fit =
    rw (plain, numbers_text (z ∷ zs) fit) refl

-- a row with more behind it reads as its fields
pub read_row : (name : List ℕ) (z : ℤ) (zs : List ℤ) (tail : List ℕ) → list_any (needs_byte default_writer) name ≡ false → AllByRecursion (FitsSigned w64) (z ∷ zs)
    → next_record default_config st.StartRecord [] [] (row_text name (z ∷ zs) ++ tail) ≡ Some (row_fields name (z ∷ zs), st.StartRecord, tail)
read_row name z zs tail plain fit =
    rw (← row_as_csv name z zs plain fit) (read-write-many name (signed_decimal z) (map signed_decimal zs) tail)

-- these are the lines of a text, one after the other
unfoldable pub Lines : List ℕ → List (List (List ℕ)) → Type 0
Lines text [] = text ≡ []
Lines text (row ∷ rows) = (rest : List ℕ) × (next_record default_config st.StartRecord [] [] text ≡ Some (row, st.StartRecord, rest)) × Lines rest rows

-- a row before other lines
pub Lines-row : (name : List ℕ) (z : ℤ) (zs : List ℤ) (tail : List ℕ) (rows : List (List (List ℕ))) → list_any (needs_byte default_writer) name ≡ false
    → AllByRecursion (FitsSigned w64) (z ∷ zs) → Lines tail rows → Lines (row_text name (z ∷ zs) ++ tail) (row_fields name (z ∷ zs) ∷ rows)
unfolding Lines
Lines-row name z zs tail rows plain fit more = (tail, read_row name z zs tail plain fit, more)

-- no lines are left of an empty text
pub Lines-none : Lines [] []
unfolding Lines
Lines-none = refl

-- an empty text has no record
pub no_record : next_record default_config st.StartRecord [] [] [] ≡ None
unfolding next_record
no_record = refl
