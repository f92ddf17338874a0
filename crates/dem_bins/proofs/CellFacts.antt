-- Cells without sign are the floors of quotients, four more: spans share as many cells as the intervals that they stand for.
use Rattle.std.proofs.Common.{◌≡◌, ℕ, ◌+◌, ◌*◌, ◌/◌, ◌%◌, ◌-◌, ◌<◌, ◌≤◌, sym, ap, ◌∙◌, arith, subst, ℤ, pos, negsuc, ◌+ℤ◌, ◌-ℤ◌, unsigned_abs}
use Rattle.std.specs.Prelude.{min, max}
use Rattle.std.specs.Int.{int_min, int_max}
use Rattle.std.proofs.lemmas.Int.{ints, clamps}
use Rattle.std.proofs.lemmas.Nat.{div_below, div-add-mod', div-mul-add, mod_below}
use Rattle.dem_bins.specs.Bins.{cell_at, cells_shared}
use Rattle.dem_bins.specs.Blocks.{interval_of, cells_of}
use Rattle.dem_bins.proofs.KeyFacts.{shared_on}

-- four bins more are four cells more
up-four : (m bin : ℕ) → 0 < bin → (m + 4 * bin) / bin ≡ m / bin + 4
up-four m bin some =
    let parts : m / bin * bin + m % bin ≡ m = div-add-mod' m bin in
    let sum : m + 4 * bin ≡ (m / bin + 4) * bin + m % bin = omega arith in
    ap (λ (n : ℕ). n / bin) sum ∙ div-mul-add (m / bin + 4) bin (m % bin) (mod_below m bin some)

-- below the origin: the cell of -(k + 1)
down-four : (k bin : ℕ) → 0 < bin → k < 4 * bin → (4 * bin - (k + 1)) / bin + (k / bin + 1) ≡ 4
down-four k bin some few =
    let q : ℕ = k / bin in
    let r : ℕ = k % bin in
    let parts : k / bin * bin + k % bin ≡ k = div-add-mod' k bin in
    let rest : k % bin < bin = mod_below k bin some in
    let small : k / bin < 4 = div_below k bin 4 some few in
    let three : (3 - k / bin) + k / bin ≡ 3 = omega arith in
    let spread : (3 - k / bin) * bin + k / bin * bin ≡ 3 * bin = omega (arith, ap (λ (n : ℕ). n * bin) three) in
    let sum : 4 * bin - (k + 1) ≡ (3 - k / bin) * bin + (bin - (k % bin + 1)) = omega arith in
    let is : (4 * bin - (k + 1)) / bin ≡ 3 - k / bin = ap (λ (n : ℕ). n / bin) sum ∙ div-mul-add (3 - k / bin) bin (bin - (k % bin + 1)) (omega arith) in
    omega arith

-- the cell of a number that lies at most four bins below the origin
pub cell_at-is : (z : ℤ) (bin n : ℕ) → 0 < bin → z +ℤ pos (4 * bin) ≡ pos n → cell_at bin z +ℤ pos 4 ≡ pos (n / bin)
unfolding cell_at
cell_at-is (pos m) bin n some e =
    let sum : n ≡ m + 4 * bin = omega (arith, ints) in
    let is : n / bin ≡ m / bin + 4 = ap (λ (x : ℕ). x / bin) sum ∙ up-four m bin some in
    omega (arith, ints)
cell_at-is (negsuc k) bin n some e =
    let few : k < 4 * bin = omega (arith, ints) in
    let sum : n ≡ 4 * bin - (k + 1) = omega (arith, ints) in
    let is : n / bin + (k / bin + 1) ≡ 4 = subst (λ (x : ℕ). x / bin + (k / bin + 1) ≡ 4) (sym sum) (down-four k bin some few) in
    omega (arith, ints)

-- four more at each end leave what is shared
shared-four : (l h m i : ℤ) (a b c d : ℕ) → l +ℤ pos 4 ≡ pos a → h +ℤ pos 4 ≡ pos b → m +ℤ pos 4 ≡ pos c → i +ℤ pos 4 ≡ pos d →
    min (b + 1) (d + 1) - max a c ≡ unsigned_abs (int_max (pos 0) (int_min h i +ℤ pos 1 -ℤ int_max l m))
shared-four l h m i a b c d p q r t = omega (arith, ints, clamps)

-- spans share as many cells as the intervals
pub shared_on-is : (bin r q : ℕ) (c d : ℤ) → 0 < bin → r ≤ 4 * bin → q ≤ 4 * bin → pos (unsigned_abs c) ≡ c → pos (unsigned_abs d) ≡ d →
    shared_on (cells_of bin (interval_of bin r (unsigned_abs c))) (cells_of bin (interval_of bin q (unsigned_abs d))) ≡ cells_shared bin c r d q
unfolding shared_on cells_of interval_of cells_shared
shared_on-is bin r q c d some rl ql cp dp =
    shared-four (cell_at bin (c -ℤ pos r)) (cell_at bin (c +ℤ pos r)) (cell_at bin (d -ℤ pos q)) (cell_at bin (d +ℤ pos q))
    ((unsigned_abs c + 4 * bin - r) / bin) ((unsigned_abs c + 4 * bin + r) / bin) ((unsigned_abs d + 4 * bin - q) / bin) ((unsigned_abs d + 4 * bin + q) / bin)
    (cell_at-is (c -ℤ pos r) bin (unsigned_abs c + 4 * bin - r) some (omega (arith, ints)))
    (cell_at-is (c +ℤ pos r) bin (unsigned_abs c + 4 * bin + r) some (omega (arith, ints)))
    (cell_at-is (d -ℤ pos q) bin (unsigned_abs d + 4 * bin - q) some (omega (arith, ints)))
    (cell_at-is (d +ℤ pos q) bin (unsigned_abs d + 4 * bin + q) some (omega (arith, ints)))
