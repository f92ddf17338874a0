-- The first comma, looked for from the front.
use Rattle.std.proofs.Common.{◌≡◌, ℕ, zero, suc, ◌+◌, ◌<◌, ◌≤◌, true, false, List, [], ◌∷◌, length, take, drop, get_or, None, Some, refl, sym, ap, ◌∙◌, arith}
use Rattle.std.specs.Prelude.{◌==◌, option_map, if◌then◌else◌}
use Rattle.dem_pack.specs.Rows.{field_before, longer}

-- no comma is among the first bytes
abbrev pub NoComma : List ℕ → ℕ → Type 0
NoComma bytes n = (k : ℕ) → k < n → (get_or bytes k 0 == 44) ≡ false

later : (b : ℕ) (bs : List ℕ) (n : ℕ) → NoComma (b ∷ bs) (suc n) → NoComma bs n
later b bs n none = λ k lt. none (suc k) (omega arith)

found : (bytes : List ℕ) (i : ℕ) → i < length bytes → NoComma bytes i → (get_or bytes i 0 == 44) ≡ true → field_before bytes ≡ Some (record { says = take i bytes; rest = drop (suc i) bytes })
unfolding field_before
found [] i there none is = absurd (omega arith)
found (b ∷ bs) zero there none is = ap (λ t. if t then Some (record { says = []; rest = bs }) else option_map (longer b) (field_before bs)) is
found (b ∷ bs) (suc i) there none is =
    ap (λ t. if t then Some (record { says = []; rest = bs }) else option_map (longer b) (field_before bs)) (none 0 (omega arith))
    ∙ ap (option_map (longer b)) (found bs i (omega arith) (later b bs i none) is)

-- a comma behind bytes without one
pub field-found : (bytes : List ℕ) (i : ℕ) → i < length bytes → NoComma bytes i → (get_or bytes i 0 == 44) ≡ true
    → Some (record { says = take i bytes; rest = drop (i + 1) bytes }) ≡ field_before bytes
field-found bytes i there none is =
    let next : suc i ≡ i + 1 = omega arith in
    sym (found bytes i there none is ∙ ap (λ n. Some (record { says = take i bytes; rest = drop n bytes })) next)

-- no comma at all
pub field-none : (bytes : List ℕ) (n : ℕ) → length bytes ≤ n → NoComma bytes n → None ≡ field_before bytes
unfolding field_before
field-none [] n all none = refl
field-none (b ∷ bs) zero all none = absurd (omega arith)
field-none (b ∷ bs) (suc n) all none =
    sym
    (ap (λ t. if t then Some (record { says = []; rest = bs }) else option_map (longer b) (field_before bs)) (none 0 (omega arith))
    ∙ ap (option_map (longer b)) (sym (field-none bs n (omega arith) (later b bs n none))))
