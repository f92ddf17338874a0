-- Places lie in their stretch.
use Rattle.std.proofs.Common.{ℕ, ◌+◌, ◌-◌, ◌*◌, ◌/◌, ◌<◌, ◌≤◌, Bool, sym, ⊎_elim, subst, arith}
use Rattle.std.specs.Prelude.{if◌then◌else◌}
use Rattle.std.proofs.lemmas.Bool.{le-leb, lt-leb, cases_lt}
use Rattle.std.proofs.lemmas.Nat.{div-add-mod', mul-le}
use Rattle.dem_model.specs.Cells.{Span, place_count}

-- what reaches so far from a place stays in the stretch
pub place-inside : (extent pitch : ℕ) (s : Span) (i : ℕ) → i < place_count extent pitch s → i * pitch + s.low + 2 * extent ≤ s.high
unfolding place_count
place-inside extent pitch s i there =
    let room = s.high - s.low - 2 * extent in
    let count = λ (b : Bool). if b then room / pitch + 1 else 0 in
    ⊎_elim
    (λ (short : s.high < s.low + 2 * extent). absurd (let none : i < 0 = subst (λ b. i < count b) (lt-leb (s.low + 2 * extent) s.high short) there in omega arith))
    (λ (long : s.low + 2 * extent ≤ s.high).
    let few : i < room / pitch + 1 = subst (λ b. i < count b) (le-leb (s.low + 2 * extent) s.high long) there in
    let few' : i ≤ room / pitch = omega arith in
    let within : i * pitch ≤ room / pitch * pitch = mul-le i pitch (room / pitch) pitch few' (omega arith) in
    let parts = div-add-mod' room pitch in
    let all : i * pitch ≤ room = omega arith in
    omega arith)
    (cases_lt s.high (s.low + 2 * extent))

-- a stretch has few places
pub count-few : (extent pitch : ℕ) (s : Span) → 1 ≤ pitch → place_count extent pitch s ≤ s.high + 1
unfolding place_count
count-few extent pitch s some =
    let room = s.high - s.low - 2 * extent in
    let count = λ (b : Bool). if b then room / pitch + 1 else 0 in
    ⊎_elim
    (λ (short : s.high < s.low + 2 * extent). subst (λ b. count b ≤ s.high + 1) (sym (lt-leb (s.low + 2 * extent) s.high short)) (omega arith))
    (λ (long : s.low + 2 * extent ≤ s.high).
    let parts = div-add-mod' room pitch in
    let scaled = mul-le (room / pitch) 1 (room / pitch) pitch (omega arith) some in
    let few : room / pitch ≤ room = omega (arith, parts, scaled) in
    subst (λ b. count b ≤ s.high + 1) (sym (le-leb (s.low + 2 * extent) s.high long)) (omega (arith, few)))
    (cases_lt s.high (s.low + 2 * extent))
