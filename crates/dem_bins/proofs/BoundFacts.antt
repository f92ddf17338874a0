-- All pairs of blocks share as many bins as the boxes of all pairs of spheres both meet.
use Rattle.std.proofs.Common.{◌≡◌, ℕ, ◌+◌, ◌*◌, ◌<◌, ◌≤◌, List, length, sym, ap, ap₂, ◌∙◌, arith}
use Rattle.std.specs.List.{range_with_len, sum_by}
use Rattle.dem_num.specs.declared.vector.Vec3.{Vec3}
use Rattle.dem_model.specs.SceneValue.{SceneValue}
use Rattle.dem_model.specs.Centers.{center_at}
use Rattle.dem_model.specs.Near.{reach_of}
use Rattle.dem_model.specs.Pairs.{sphere_count}
use Rattle.dem_bins.specs.Bins.{GridValue, IsGridOf, bins_shared, most_tests}
use Rattle.dem_bins.specs.Blocks.{block_of, blocks_of, block_at}
use Rattle.dem_bins.specs.declared.blocks.Block.{Block}
use Rattle.dem_bins.proofs.SumFacts.{total, total-same, sum-range, sum-same}
use Rattle.dem_bins.proofs.CountFacts.{shared, all_shared}
use Rattle.dem_bins.proofs.BlockFacts.{blocks_of-count, blocks_of-at, reach_of-bins}
use Rattle.dem_bins.proofs.CellFacts.{shared_on-is}
use Rattle.dem_bins.proofs.NearFacts.{IsPlace}

-- two blocks
shared-is : (s : SceneValue) (g : GridValue) (cs : List Vec3) (a b : ℕ) → IsGridOf s g → a < sphere_count s → b < sphere_count s → IsPlace (center_at cs a) → IsPlace (center_at cs b) →
    shared g.bin (block_of s g cs a) (block_of s g cs b) ≡ bins_shared s g cs a b
unfolding shared block_of bins_shared
shared-is s g cs a b grid al bl ap' bp =
    let ra : reach_of s g.drift a ≤ 4 * g.bin = reach_of-bins s g a grid al in
    let rb : reach_of s g.drift b ≤ 4 * g.bin = reach_of-bins s g b grid bl in
    ap₂ (λ (m n : ℕ). m * n)
    (ap₂ (λ (m n : ℕ). m * n)
    (shared_on-is g.bin (reach_of s g.drift a) (reach_of s g.drift b) (center_at cs a).x (center_at cs b).x grid.some ra rb ap'.0 bp.0)
    (shared_on-is g.bin (reach_of s g.drift a) (reach_of s g.drift b) (center_at cs a).y (center_at cs b).y grid.some ra rb ap'.1 bp.1))
    (shared_on-is g.bin (reach_of s g.drift a) (reach_of s g.drift b) (center_at cs a).z (center_at cs b).z grid.some ra rb ap'.2 bp.2)

-- all pairs, and the walls
pub all_shared-is : (s : SceneValue) (g : GridValue) (cs : List Vec3) → IsGridOf s g → ((i : ℕ) → i < sphere_count s → IsPlace (center_at cs i)) →
    all_shared g.bin (blocks_of s g cs) + sphere_count s * length s.walls ≡ most_tests s g cs
unfolding all_shared most_tests
all_shared-is s g cs grid inside =
    let bs : List Block = blocks_of s g cs in
    let rows : total (λ b. total (λ a. shared g.bin (block_at (blocks_of s g cs) a) (block_at (blocks_of s g cs) b)) 0 b) 0 (sphere_count s) ≡ total (λ b. total (λ a. bins_shared s g cs a b) 0 b) 0 (sphere_count s) =
    total-same (λ b. total (λ a. shared g.bin (block_at (blocks_of s g cs) a) (block_at (blocks_of s g cs) b)) 0 b) (λ b. total (λ a. bins_shared s g cs a b) 0 b) 0 (sphere_count s)
    (λ b p q. total-same (λ a. shared g.bin (block_at (blocks_of s g cs) a) (block_at (blocks_of s g cs) b)) (λ a. bins_shared s g cs a b) 0 b
    (λ a l m.
    let al : a < sphere_count s = omega arith in
    let bl : b < sphere_count s = omega arith in
    ap₂ (shared g.bin) (blocks_of-at s g cs a al) (blocks_of-at s g cs b bl) ∙ shared-is s g cs a b grid al bl (inside a al) (inside b bl))) in
    let sums : sum_by (λ b. sum_by (λ a. bins_shared s g cs a b) (range_with_len 0 b)) (range_with_len 0 (sphere_count s)) ≡ total (λ b. total (λ a. bins_shared s g cs a b) 0 b) 0 (sphere_count s) =
    sum-same (λ b. sum_by (λ a. bins_shared s g cs a b) (range_with_len 0 b)) (λ b. total (λ a. bins_shared s g cs a b) 0 b) (range_with_len 0 (sphere_count s)) (λ b. sum-range (λ a. bins_shared s g cs a b) 0 b)
    ∙ sum-range (λ b. total (λ a. bins_shared s g cs a b) 0 b) 0 (sphere_count s) in
    ap (λ (n : ℕ). n + sphere_count s * length s.walls)
    (ap (λ (n : ℕ). total (λ b. total (λ a. shared g.bin (block_at (blocks_of s g cs) a) (block_at (blocks_of s g cs) b)) 0 b) 0 n) (blocks_of-count s g cs) ∙ rows ∙ sym sums)
