-- How large an arm may be.
use Rattle.std.proofs.Common.{◌≡◌, ℕ, ◌+◌, ◌*◌, ◌-◌, ◌^◌, ◌≤◌, arith}
use Rattle.dem_num.specs.declared.vector.Wide3.{Wide3}
use Rattle.dem_num.specs.Numbers.{root_of}
use Rattle.dem_num.specs.Vectors.{Within, norm2_of}
use Rattle.dem_num.proofs.RootFacts.{root_le}
use Rattle.dem_num.proofs.VectorSizes.{norm2_le}

-- the root of a squared length, for an offset in range
pub offset_root_le : (o : Wide3) (n s : ℕ) → Within o (2 ^ 26) → n ≡ norm2_of o → s ≡ root_of n → s + 1 ≤ 2 ^ 27
offset_root_le o n s h e f = let small : norm2_of o ≤ 3 * (2 ^ 26 * 2 ^ 26) = norm2_le o (2 ^ 26) h in
    let below : root_of n ≤ 2 ^ 27 - 1 = root_le n (2 ^ 27 - 1) (omega arith) in
    omega arith
