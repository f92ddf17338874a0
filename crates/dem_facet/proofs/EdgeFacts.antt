-- A place beyond a side of a facet: the part of the side that leads to the nearest point is between nothing and the whole side.
use Rattle.std.proofs.Common.{◌≡◌, ℕ, ◌*◌, ◌/◌, ◌<◌, ◌≤◌, arith, ℤ, pos, ◌+ℤ◌, ◌-ℤ◌, ◌≤ℤ◌, ◌<ℤ◌, unsigned_abs, true, ◌&&◌}
use Rattle.std.specs.Prelude.{int_le}
use Rattle.std.proofs.lemmas.Int.{ints}
use Rattle.std.proofs.lemmas.Bool.{and_parts}
use Rattle.dem_num.specs.Vectors.{turn_product}
use Rattle.dem_num.proofs.ProductBounds.{part_le}
use Rattle.dem_model.specs.Facet.{past_ab, past_ac, past_bc}
use Rattle.dem_facet.proofs.CoverFacts.{le_from}

-- beyond the side from a to b
pub ab_low : (d1 d2 d3 d4 : ℤ) → past_ab d1 d2 d3 d4 ≡ true → pos 0 ≤ℤ d1
unfolding past_ab
ab_low d1 d2 d3 d4 h =
    let both = and_parts (int_le (turn_product d1 d4 d3 d2) (pos 0) && int_le (pos 0) d1) (int_le d3 (pos 0)) h in
    le_from (pos 0) d1 (and_parts (int_le (turn_product d1 d4 d3 d2) (pos 0)) (int_le (pos 0) d1) both.0).1

pub ab_high : (d1 d2 d3 d4 : ℤ) → past_ab d1 d2 d3 d4 ≡ true → d1 ≤ℤ (d1 -ℤ d3)
unfolding past_ab
ab_high d1 d2 d3 d4 h =
    let last : d3 ≤ℤ pos 0 = le_from d3 (pos 0) (and_parts (int_le (turn_product d1 d4 d3 d2) (pos 0) && int_le (pos 0) d1) (int_le d3 (pos 0)) h).1 in
    omega (arith, ints)

-- beyond the side from a to c
pub ac_low : (d1 d2 d5 d6 : ℤ) → past_ac d1 d2 d5 d6 ≡ true → pos 0 ≤ℤ d2
unfolding past_ac
ac_low d1 d2 d5 d6 h =
    let both = and_parts (int_le (turn_product d5 d2 d1 d6) (pos 0) && int_le (pos 0) d2) (int_le d6 (pos 0)) h in
    le_from (pos 0) d2 (and_parts (int_le (turn_product d5 d2 d1 d6) (pos 0)) (int_le (pos 0) d2) both.0).1

pub ac_high : (d1 d2 d5 d6 : ℤ) → past_ac d1 d2 d5 d6 ≡ true → d2 ≤ℤ (d2 -ℤ d6)
unfolding past_ac
ac_high d1 d2 d5 d6 h =
    let last : d6 ≤ℤ pos 0 = le_from d6 (pos 0) (and_parts (int_le (turn_product d5 d2 d1 d6) (pos 0) && int_le (pos 0) d2) (int_le d6 (pos 0)) h).1 in
    omega (arith, ints)

-- beyond the side from b to c
pub bc_low : (d3 d4 d5 d6 : ℤ) → past_bc d3 d4 d5 d6 ≡ true → pos 0 ≤ℤ (d4 -ℤ d3)
unfolding past_bc
bc_low d3 d4 d5 d6 h =
    let both = and_parts (int_le (turn_product d3 d6 d5 d4) (pos 0) && int_le (pos 0) (d4 -ℤ d3)) (int_le (pos 0) (d5 -ℤ d6)) h in
    le_from (pos 0) (d4 -ℤ d3) (and_parts (int_le (turn_product d3 d6 d5 d4) (pos 0)) (int_le (pos 0) (d4 -ℤ d3)) both.0).1

pub bc_high : (d3 d4 d5 d6 : ℤ) → past_bc d3 d4 d5 d6 ≡ true → (d4 -ℤ d3) ≤ℤ ((d4 -ℤ d3) +ℤ (d5 -ℤ d6))
unfolding past_bc
bc_high d3 d4 d5 d6 h =
    let last : pos 0 ≤ℤ (d5 -ℤ d6) = le_from (pos 0) (d5 -ℤ d6) (and_parts (int_le (turn_product d3 d6 d5 d4) (pos 0) && int_le (pos 0) (d4 -ℤ d3)) (int_le (pos 0) (d5 -ℤ d6)) h).1 in
    omega (arith, ints)

some_size : (w : ℤ) → pos 0 <ℤ w → 0 < unsigned_abs w
some_size w h = grind (arith, ints)

part_size : (p w : ℤ) → pos 0 ≤ℤ p → p ≤ℤ w → unsigned_abs p ≤ unsigned_abs w
part_size p w h k = grind (arith, ints)

-- a part of a side is at most the side
pub moved_le : (edge part whole : ℤ) (m : ℕ) → unsigned_abs edge ≤ m → pos 0 <ℤ whole → pos 0 ≤ℤ part → part ≤ℤ whole → unsigned_abs part * unsigned_abs edge / unsigned_abs whole ≤ m
moved_le edge part whole m h some low high =
    let most : unsigned_abs part * unsigned_abs edge / unsigned_abs whole ≤ unsigned_abs edge =
    part_le (unsigned_abs part) (unsigned_abs whole) (unsigned_abs edge) (some_size whole some) (part_size part whole low high) in
    omega arith
