-- The first number that passes a test.
use Rattle.std.proofs.Common.{◌≡◌, ℕ, zero, suc, ◌+◌, ◌-◌, ◌*◌, ◌/◌, ◌<◌, ◌≤◌, Bool, true, false, Some, find, nat_le, unwrap_or, cond, sym, ap, ◌∙◌, ⊎_elim, subst, arith}
use Rattle.std.specs.List.{range_with_len}
use Rattle.std.proofs.lemmas.Bool.{le-leb, lt-leb, cases_lt}
use Rattle.std.proofs.lemmas.Nat.{mul-le}
use Rattle.dem_model.specs.Cells.{rise_of}

-- the search passes over what fails
find-first : (test : ℕ → Bool) (a j m : ℕ) → ((i : ℕ) → i < j → test (a + i) ≡ false) → test (a + j) ≡ true → j < m → find test (range_with_len a m) ≡ Some (a + j)
find-first test a j zero fails passes short = absurd (omega arith)
find-first test a zero (suc m) fails passes short =
    let here : a + 0 ≡ a = omega arith in
    ap (λ b. cond b (Some a) (find test (range_with_len (a + 1) m))) (ap test (sym here) ∙ passes) ∙ ap Some (sym here)
find-first test a (suc j) (suc m) fails passes short =
    let here : a + 0 ≡ a = omega arith in
    let there : a + suc j ≡ a + 1 + j = omega arith in
    ap (λ b. cond b (Some a) (find test (range_with_len (a + 1) m))) (ap test (sym here) ∙ fails 0 (omega arith))
    ∙ find-first test (a + 1) j m (λ i lt. let next : a + 1 + i ≡ a + suc i = omega arith in ap test next ∙ fails (suc i) (omega arith)) (ap test (sym there) ∙ passes) (omega arith)
    ∙ ap Some (sym there)

-- twice the square of half a pitch
pub half-square : (pitch : ℕ) → 2 * (pitch / 2 * (pitch / 2)) ≤ pitch * pitch
half-square pitch =
    let h = pitch / 2 in
    let half : 2 * h ≤ pitch = omega arith in
    let square = mul-le (2 * h) (2 * h) pitch pitch half half in
    let twice : 2 * h * (2 * h) ≡ 4 * (h * h) = grind arith in
    omega (arith, square, twice)

-- it is at most the pitch
pub rise-few : (pitch s : ℕ) → ((p : ℕ) → p < s → p * p < pitch * pitch - 2 * (pitch / 2 * (pitch / 2))) → s ≤ pitch
rise-few pitch s least =
    ⊎_elim
    (λ (lt : s < pitch + 1). omega arith)
    (λ (le : pitch + 1 ≤ s). absurd (let more = least pitch (omega arith) in omega (arith, more)))
    (cases_lt s (pitch + 1))

-- it isn't nothing
pub rise-some : (pitch s : ℕ) → 1 ≤ pitch → pitch * pitch - 2 * (pitch / 2 * (pitch / 2)) ≤ s * s → 1 ≤ s
rise-some pitch s some enough =
    let h = pitch / 2 in
    let half : 2 * h ≤ pitch = omega arith in
    let square = mul-le (2 * h) (2 * h) pitch pitch half half in
    let twice : 2 * h * (2 * h) ≡ 4 * (h * h) = grind arith in
    let one = mul-le 1 1 pitch pitch some some in
    ⊎_elim
    (λ (is : 0 < s). omega arith)
    (λ (none : s ≤ 0).
    let zero-root : s ≡ 0 = omega arith in
    absurd (let small : pitch * pitch - 2 * (h * h) ≤ 0 * 0 = subst (λ n. pitch * pitch - 2 * (h * h) ≤ n * n) zero-root enough in omega (arith, small, square, twice, one)))
    (cases_lt 0 s)

-- the least number whose square is enough is the rise
pub rise-is : (pitch s : ℕ) → pitch * pitch - 2 * (pitch / 2 * (pitch / 2)) ≤ s * s → ((p : ℕ) → p < s → p * p < pitch * pitch - 2 * (pitch / 2 * (pitch / 2))) → s ≡ rise_of pitch
unfolding rise_of
rise-is pitch s enough least =
    let x = pitch * pitch - 2 * (pitch / 2 * (pitch / 2)) in
    let small : s < pitch + 1 = omega (arith, rise-few pitch s least) in
    sym
    (ap (λ o. unwrap_or o 0)
    (find-first (λ p. nat_le x (p * p)) 0 s (pitch + 1)
    (λ i lt. let zero-first : 0 + i ≡ i = omega arith in ap (λ p. nat_le x (p * p)) zero-first ∙ lt-leb x (i * i) (least i lt))
    (let zero-first : 0 + s ≡ s = omega arith in ap (λ p. nat_le x (p * p)) zero-first ∙ le-leb x (s * s) enough) small)
    ∙ (let zero-first : 0 + s ≡ s = omega arith in zero-first))
