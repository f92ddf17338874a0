-- When a field is the decimal form of a number.
use Rattle.std.proofs.Common.{◌≡◌, ℕ, ◌^◌, ℤ, pos, negsuc, List, true, Some, None, Err, FitsSigned, w64, sym, ap, ◌∙◌, refl, inl, inr}
use Rattle.std.specs.Prelude.{IsUtf8}
use Rattle.std.specs.Fmt.{signed_decimal}
use Rattle.std.specs.Str.{bytes_eq}
use Rattle.std.specs.Str.Parse.{ParsesSigned, signed_digits_value}
use Rattle.std.proofs.lemmas.Bool.{cases_Bool, ltb-true, lt-ltb}
use Rattle.std.proofs.lemmas.Slice.Eq.{bytes_eq-Decides}
use Rattle.std.proofs.lemmas.Fmt.{parse-signed_decimal, IsAscii-signed}
use Rattle.std.proofs.lemmas.Str.{IsUtf8-from_ascii}
use Rattle.dem_frame.specs.Records.{fits_64, read_as, value_of, number_of}

fits_from : (z : ℤ) → fits_64 z ≡ true → FitsSigned w64 z
fits_from (pos n) fits = record { sfits = ltb-true n (2 ^ 63) fits }
fits_from (negsuc n) fits = record { sfits = ltb-true n (2 ^ 63) fits }

fits_to : (z : ℤ) → FitsSigned w64 z → fits_64 z ≡ true
fits_to (pos n) fits = lt-ltb n (2 ^ 63) fits.sfits
fits_to (negsuc n) fits = lt-ltb n (2 ^ 63) fits.sfits

-- no number has this field as its decimal form
pub read_as-none : (z : ℤ) (field : List ℕ) → (FitsSigned w64 z → field ≡ signed_decimal z → ⊥) → read_as z field ≡ None
unfolding read_as
read_as-none z field never = elim (cases_Bool (bytes_eq (signed_decimal z) field)) [
  | inl same ↦ elim (cases_Bool (fits_64 z)) [
    | inl fits ↦ absurd (never (fits_from z fits) (sym ((bytes_eq-Decides (signed_decimal z) field).0 same)))
    | inr far ↦ rw (same, far) refl
  ]
  | inr other ↦ rw other refl
]

-- a number reads back from its decimal form
pub read_as-some : (z : ℤ) (field : List ℕ) → FitsSigned w64 z → field ≡ signed_decimal z → read_as z field ≡ Some z
unfolding read_as
read_as-some z field fits is = rw ((bytes_eq-Decides (signed_decimal z) field).1 (sym is), fits_to z fits) refl

-- a field that is no text is no number's decimal form
pub number_of-bytes : (field : List ℕ) → (IsUtf8 field → ⊥) → number_of field ≡ None
number_of-bytes field bytes =
    read_as-none (value_of field) field (λ fits is. bytes (let e = sym is in rw is (IsUtf8-from_ascii _ (IsAscii-signed (value_of field) fits.sfits))))

-- a text that isn't parsed is no number's decimal form
pub number_of-unparsed : {E : Type 0} (field text : List ℕ) (e : E) → text ≡ field → ParsesSigned w64 10 text (Err e) → number_of field ≡ None
number_of-unparsed field text e same parsed =
    read_as-none (value_of field) field (λ fits is. let r = parse-signed_decimal w64 (value_of field) text (Err e) fits fits.sfits (same ∙ is) parsed in cc)

-- the number that a text is parsed as
pub parsed_value : (field text : List ℕ) (n : ℤ) → text ≡ field → n ≡ signed_digits_value 10 text → n ≡ value_of field
unfolding value_of
parsed_value field text n same is = is ∙ ap (signed_digits_value 10) same

-- the number that was parsed, where it prints as the field
pub number_of-printed : (field : List ℕ) (n : ℤ) → n ≡ value_of field → FitsSigned w64 n → signed_decimal n ≡ field → number_of field ≡ Some n
number_of-printed field n is fits same = rw (← is) (read_as-some n field fits (sym same))

-- the number that was parsed, where it doesn't print as the field
pub number_of-other : (field : List ℕ) (n : ℤ) → n ≡ value_of field → (signed_decimal n ≡ field → ⊥) → number_of field ≡ None
number_of-other field n is other = rw (← is) (read_as-none n field (λ fits same. other (sym same)))
