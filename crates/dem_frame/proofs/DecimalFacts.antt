-- The decimal form of a number reads back, and calls for no quotes.
use Rattle.std.proofs.Common.{◌≡◌, ℕ, ℤ, pos, negsuc, neg_ℤ, List, [], ◌∷◌, map, false, Some, FitsSigned, w64, suc, ap, ◌∙◌, refl, arith}
use Rattle.std.specs.Prelude.{◌==◌}
use Rattle.std.specs.Fmt.{signed_decimal, decimal}
use Rattle.std.specs.List.{AllByRecursion, list_any}
use Rattle.std.specs.Str.Parse.{AllDigits, digits_value, signed_digits_value}
use Rattle.std.proofs.lemmas.Bool.{ne_eqb}
use Rattle.std.proofs.lemmas.Fmt.{decimal_is_IsNumeral}
use Rattle.std.proofs.lemmas.Str.Parse.{digit_from_value}
use Rattle.csv.specs.Writing.{default_writer, needs_byte}
use Rattle.dem_frame.specs.Records.{value_of, number_of, numbers_of}
use Rattle.dem_frame.proofs.NumberFacts.{read_as-some}

-- digits alone write their value
digits_alone : (ds : List ℕ) → AllDigits 10 ds → signed_digits_value 10 ds ≡ pos (digits_value 10 ds)
digits_alone [] d = refl
digits_alone (c ∷ cs) d =
    let r = digit_from_value c d.0 in
    let minus : (c == 45) ≡ false = ne_eqb c 45 (λ (e : c ≡ 45). omega arith) in
    let plus : (c == 43) ≡ false = ne_eqb c 43 (λ (e : c ≡ 43). omega arith) in
    rw (minus, plus) refl

-- the decimal form of a number writes that number
pub value_of-decimal : (z : ℤ) → FitsSigned w64 z → value_of (signed_decimal z) ≡ z
unfolding value_of
value_of-decimal (pos n) fits =
    let k = decimal_is_IsNumeral n (let s = fits.sfits in omega arith) in
    digits_alone (decimal n) k.0.1 ∙ ap (λ (m : ℕ). pos m) k.1
value_of-decimal (negsuc n) fits =
    let k = decimal_is_IsNumeral (suc n) (let s = fits.sfits in omega arith) in
    ap (λ (m : ℕ). neg_ℤ (pos m)) k.1

-- a field in decimal form reads as its number
pub number_of-decimal : (z : ℤ) → FitsSigned w64 z → number_of (signed_decimal z) ≡ Some z
number_of-decimal z fits = rw (value_of-decimal z fits) (read_as-some z (signed_decimal z) fits refl)

-- and so do many
pub numbers_of-decimals : (zs : List ℤ) → AllByRecursion (FitsSigned w64) zs → numbers_of (map signed_decimal zs) ≡ Some zs
unfolding numbers_of
numbers_of-decimals [] fit = refl
numbers_of-decimals (z ∷ zs) fit = rw (number_of-decimal z fit.0, numbers_of-decimals zs fit.1) refl

-- no digit calls for quotes
plain_digits : (ds : List ℕ) → AllDigits 10 ds → list_any (needs_byte default_writer) ds ≡ false
plain_digits [] d = refl
plain_digits (c ∷ cs) d =
    let r = digit_from_value c d.0 in
    let comma : (c == 44) ≡ false = ne_eqb c 44 (λ (e : c ≡ 44). omega arith) in
    let quote : (c == 34) ≡ false = ne_eqb c 34 (λ (e : c ≡ 34). omega arith) in
    let return : (c == 13) ≡ false = ne_eqb c 13 (λ (e : c ≡ 13). omega arith) in
    let feed : (c == 10) ≡ false = ne_eqb c 10 (λ (e : c ≡ 10). omega arith) in
    rw (comma, quote, return, feed) (plain_digits cs d.1)

-- no decimal form does
pub plain_decimal : (z : ℤ) → FitsSigned w64 z → list_any (needs_byte default_writer) (signed_decimal z) ≡ false
plain_decimal (pos n) fits = plain_digits (decimal n) (decimal_is_IsNumeral n (let s = fits.sfits in omega arith)).0.1
plain_decimal (negsuc n) fits = plain_digits (decimal (suc n)) (decimal_is_IsNumeral (suc n) (let s = fits.sfits in omega arith)).0.1
