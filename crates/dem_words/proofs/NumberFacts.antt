-- What the standard library's reading makes of a text of digits.
use Rattle.std.proofs.Common.{◌≡◌, ℕ, ◌<◌, ◌≤◌, ◌^◌, ◌&&◌, Bool, true, false, cond, List, [], ◌∷◌, length, Option, None, Some, Result, Ok, Err, refl, sym, ap, ◌∙◌, ⊎_elim, subst, arith, nat_lt, nat_le, ltb-true, le-ltb}
use Rattle.std.specs.List.{list_all}
use Rattle.std.specs.Char.{is_ascii_digit}
use Rattle.std.specs.Result.{OkIff}
use Rattle.std.specs.Str.Parse.{ParsesUnsigned, digits_value}
use Rattle.std.proofs.lemmas.Bool.{leb-true, le-leb, lt-leb, cases_lt}
use Rattle.std.proofs.lemmas.Str.Parse.{IsDigitsTest, numerals_by_value, parse_digits}
use Rattle.dem_words.specs.Values.{is_numeral, number_from}

both : (a b : Bool) → (a && b) ≡ true → (a ≡ true) × (b ≡ true)
both true b e = (refl, e)
both false b e = absurd (cc)

abbrev AllDigits : List ℕ → Type 0
AllDigits ds = list_all is_ascii_digit ds ≡ true

tells : IsDigitsTest AllDigits
tells = record {
  empty = refl;
  parts = λ c cs e. let k = both (is_ascii_digit c) (list_all is_ascii_digit cs) e in let m = both (nat_le 48 c) (nat_le c 57) k.0 in ((leb-true 48 c m.0, leb-true c 57 m.1), k.1);
  more = λ c cs k e i. (le-leb 48 c k.0 i && le-leb c 57 k.1 i) && e i;
}

past-by : (n high : ℕ) → (n ≤ high → ⊥) → high < n
past-by n high never-le = ⊎_elim (λ (lt : high < n). lt) (λ (le : n ≤ high). absurd (never-le le)) (cases_lt high n)

never : (b : Bool) → (b && false) ≡ false
never true = refl
never false = refl

module _ {E : Type 0} (low high : ℕ) (text : List ℕ) (r : Result ℕ E) (fits : high < 2 ^ 64) (good : is_numeral text ≡ true) (reads : ParsesUnsigned 64 10 text r) where
  parts : (nat_lt 0 (length text) ≡ true) × AllDigits text
  parts = both (nat_lt 0 (length text)) (list_all is_ascii_digit text) good

  read : OkIff r ((0 < length text) × (digits_value 10 text < 2 ^ 64)) (digits_value 10 text)
  read = parse_digits (numerals_by_value AllDigits tells) 64 text r reads parts.1

  by-value : (n : ℕ) → r ≡ Ok n → digits_value 10 text ≡ n
  by-value n ok = sym (subst (λ x. OkIff x ((0 < length text) × (digits_value 10 text < 2 ^ 64)) (digits_value 10 text)) ok read).1

  -- a number past the range of the type is past `high`
  pub read-none : (e : E) → r ≡ Err e → None ≡ number_from low high text
  unfolding number_from
  read-none e err =
      let past : ¬ ((0 < length text) × (digits_value 10 text < 2 ^ 64)) =
      subst (λ x. OkIff x ((0 < length text) × (digits_value 10 text < 2 ^ 64)) (digits_value 10 text)) err read in
      let high-past : nat_le (digits_value 10 text) high ≡ false = lt-leb (digits_value 10 text) high (past-by (digits_value 10 text) high (λ le. past (ltb-true 0 (length text) parts.0, omega arith))) in
      rw (good, high-past, never (nat_le low (digits_value 10 text))) refl

  pub read-number : (n : ℕ) → r ≡ Ok n → low ≤ n → n ≤ high → Some n ≡ number_from low high text
  unfolding number_from
  read-number n ok low-le high-le =
      let above : nat_le low n ≡ true = le-leb low n low-le in
      let below : nat_le n high ≡ true = le-leb n high high-le in
      rw (by-value n ok, good, above, below) refl

  pub read-low : (n : ℕ) → r ≡ Ok n → n < low → None ≡ number_from low high text
  unfolding number_from
  read-low n ok lt =
      let short : nat_le low n ≡ false = lt-leb low n lt in
      rw (by-value n ok, good, short) refl

  pub read-high : (n : ℕ) → r ≡ Ok n → high < n → None ≡ number_from low high text
  unfolding number_from
  read-high n ok lt =
      let long : nat_le n high ≡ false = lt-leb n high lt in
      rw (by-value n ok, good, long, never (nat_le low n)) refl
