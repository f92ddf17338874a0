-- Blocks and sorted keys of a grid: what a walk over them needs, finds and costs.
use Rattle.std.proofs.Common.{◌≡◌, ℕ, ◌+◌, ◌*◌, ◌-◌, ◌^◌, ◌<◌, ◌≤◌, List, ◌++◌, length, get_or, sym, ap, ap₂, ◌∙◌, arith, subst, ℤ, pos, ◌≤ℤ◌, unsigned_abs}
use Rattle.std.specs.Prelude.{All}
use Rattle.std.specs.List.{Contains, range_with_len}
use Rattle.std.specs.List.Sorted.{IsPermutation, IsNonDecreasing}
use Rattle.std.proofs.lemmas.Int.{ints}
use Rattle.std.proofs.lemmas.Nat.{mul-le}
use Rattle.std.proofs.lemmas.List.Elements.{Contains-get_or}
use Rattle.std.proofs.lemmas.List.Sorted.{All-permutation}
use Rattle.dem_num.specs.declared.vector.Vec3.{Vec3}
use Rattle.dem_list.specs.Ascending.{HasSamePairs}
use Rattle.dem_model.specs.SceneValue.{SceneValue}
use Rattle.dem_model.specs.Sound.{IsSound, IsBetween, EachBetween}
use Rattle.dem_model.specs.Centers.{center_at}
use Rattle.dem_model.specs.Motion.{AreInside}
use Rattle.dem_model.specs.Near.{near_of}
use Rattle.dem_model.specs.Pairs.{sphere_count}
use Rattle.dem_model.specs.declared.state.Pair.{Pair}
use Rattle.dem_force.proofs.TouchFacts.{in_box-between}
use Rattle.dem_bins.specs.Bins.{GridValue, IsGridOf, most_tests}
use Rattle.dem_bins.specs.Blocks.{blocks_of, block_at, IsBlock}
use Rattle.dem_bins.specs.Keys.{column_of, key_of, cells_in, row_keys, own_keys, keys_of, IsKey}
use Rattle.dem_bins.specs.Walk.{AreBoxes, AreKeys, rows_of, rows_visits, walls_found}
use Rattle.dem_bins.specs.declared.blocks.Block.{Block}
use Rattle.dem_bins.specs.declared.keys.TheConstants.{CELLS, SPHERES}
use Rattle.dem_bins.proofs.ListFacts.{flat-from, map-from, range-from}
use Rattle.dem_bins.proofs.KeyFacts.{sphere_in-key, key_of-small, column_of-small}
use Rattle.dem_bins.proofs.CountFacts.{all_shared, block_at-good, block_at-any, rows_visits-le}
use Rattle.dem_bins.proofs.RoomFacts.{rows_of-le}
use Rattle.dem_bins.proofs.BlockFacts.{AreWide, block_of-good, blocks_of-count, blocks_of-at, blocks_of-wide}
use Rattle.dem_bins.proofs.NearFacts.{IsPlace, found-same, blocks_of-boxes}
use Rattle.dem_bins.proofs.BoundFacts.{all_shared-is}

-- ---- centers in the box

place-size : (z : ℤ) → IsBetween (pos 0) (pos (2 ^ 36)) z → pos (unsigned_abs z) ≡ z
place-size z h = let low : pos 0 ≤ℤ z = h.low_le in omega (arith, ints)

pub inside-between : (s : SceneValue) (cs : List Vec3) (i : ℕ) → IsSound s → AreInside s cs → i < sphere_count s → EachBetween (pos 0) (pos (2 ^ 36)) (center_at cs i)
inside-between s cs i sound inside l = in_box-between s (center_at cs i) sound (inside.each i l)

inside-place : (s : SceneValue) (cs : List Vec3) (i : ℕ) → IsSound s → AreInside s cs → i < sphere_count s → IsPlace (center_at cs i)
inside-place s cs i sound inside l =
    let b = inside-between s cs i sound inside l in
    (place-size (center_at cs i).x b.x, place-size (center_at cs i).y b.y, place-size (center_at cs i).z b.z)

pub blocks_of-good : (s : SceneValue) (g : GridValue) (cs : List Vec3) → IsSound s → IsGridOf s g → AreInside s cs → All IsBlock (blocks_of s g cs)
blocks_of-good s g cs sound grid inside = λ i d l.
    let there : i < sphere_count s = omega (arith, blocks_of-count s g cs) in
    subst IsBlock (sym (blocks_of-at s g cs i there) ∙ block_at-any (blocks_of s g cs) i d l)
    (block_of-good s g cs i grid there (inside-between s cs i sound inside there))

-- ---- keys

-- a key of the blocks is small, and names a sphere
keys_of-key : (bs : List Block) (k : ℕ) → All IsBlock bs → length bs ≤ SPHERES → Contains (keys_of bs) k → IsKey bs k
unfolding keys_of own_keys row_keys cells_in
keys_of-key bs k good few c =
    let i = flat-from (λ n. own_keys (block_at bs n) n) (range_with_len 0 (length bs)) k c in
    let b : Block = block_at bs i.it in
    let there : i.it < length bs = omega (arith, (range-from 0 (length bs) i.it i.there).high) in
    let fine : IsBlock (block_at bs i.it) = block_at-good bs i.it good there in
    let x = flat-from (row_keys (block_at bs i.it) i.it) (cells_in (block_at bs i.it).x) k i.has in
    let y = map-from (λ v. key_of (column_of x.it v) (block_at bs i.it).z.low i.it) (cells_in (block_at bs i.it).y) k x.has in
    let xl : x.it < CELLS = omega (arith, (range-from (block_at bs i.it).x.low ((block_at bs i.it).x.high + 1 - (block_at bs i.it).x.low) x.it x.there).high, fine.x.order, fine.x.small) in
    let yl : y.it < CELLS = omega (arith, (range-from (block_at bs i.it).y.low ((block_at bs i.it).y.high + 1 - (block_at bs i.it).y.low) y.it y.there).high, fine.y.order, fine.y.small) in
    let zl : (block_at bs i.it).z.low < CELLS = omega (arith, fine.z.order, fine.z.small) in
    let il : i.it < SPHERES = omega arith in
    subst (IsKey bs) y.is (record {
      small = key_of-small (column_of x.it y.it) (block_at bs i.it).z.low i.it (column_of-small x.it y.it xl yl) zl il;
      sphere = subst (λ (n : ℕ). n < length bs) (sym (sphere_in-key (column_of x.it y.it) (block_at bs i.it).z.low i.it il)) there;
    })

-- ---- the blocks and the sorted keys of a grid

pub record IsPlan (s : SceneValue) (g : GridValue) (cs : List Vec3) (bs : List Block) (es : List ℕ) : Type 0 where
  pub sound : IsSound s
  pub grid : IsGridOf s g
  pub inside : AreInside s cs
  pub blocks : bs ≡ blocks_of s g cs
  pub moved : IsPermutation (keys_of bs) es
  pub order : IsNonDecreasing es

pub plan-blocks : (s : SceneValue) (g : GridValue) (cs : List Vec3) (bs : List Block) → IsSound s → IsGridOf s g → AreInside s cs → bs ≡ blocks_of s g cs → All IsBlock bs × (length bs ≤ SPHERES)
unfolding sphere_count
plan-blocks s g cs bs sound grid inside e =
    let count : length bs ≡ sphere_count s = ap length e ∙ blocks_of-count s g cs in
    (subst (λ xs. All IsBlock xs) (sym e) (blocks_of-good s g cs sound grid inside), omega (arith, count, sound.sphere_count))

pub plan-keys : (s : SceneValue) (g : GridValue) (cs : List Vec3) (bs : List Block) (es : List ℕ) → IsPlan s g cs bs es → AreKeys s bs es
plan-keys s g cs bs es p =
    let good = plan-blocks s g cs bs p.sound p.grid p.inside p.blocks in
    record {
      count = ap length p.blocks ∙ blocks_of-count s g cs;
      blocks = good.0;
      keys = All-permutation (IsKey bs) (keys_of bs) es p.moved (λ k d l. keys_of-key bs (get_or (keys_of bs) k d) good.0 good.1 (Contains-get_or (keys_of bs) k d l));
      order = p.order;
    }

pub plan-boxes : (s : SceneValue) (g : GridValue) (drift : ℕ) (cs : List Vec3) (bs : List Block) (es : List ℕ) → IsPlan s g cs bs es → drift ≡ g.drift → AreBoxes s drift cs bs
plan-boxes s g drift cs bs es p same =
    subst (λ (n : ℕ). AreBoxes s n cs bs) (sym same)
    (subst (λ (xs : List Block). AreBoxes s g.drift cs xs) (sym p.blocks) (blocks_of-boxes s g cs p.grid (λ i l. inside-place s cs i p.sound p.inside l)))

-- a walk finds fewer pairs than a list has room for
pub plan-room : (s : SceneValue) (g : GridValue) (drift : ℕ) (cs : List Vec3) (bs : List Block) (es : List ℕ) → IsPlan s g cs bs es → length (rows_of s drift cs bs es) ≤ 2 ^ 30
plan-room s g drift cs bs es p =
    let good = plan-blocks s g cs bs p.sound p.grid p.inside p.blocks in
    omega (arith, rows_of-le s drift cs bs es good.0 good.1 p.moved, mul-le (length bs) (length bs) SPHERES SPHERES good.1 good.1)

-- a walk and the walls take no more tests than they may
pub plan-counted : (s : SceneValue) (g : GridValue) (cs : List Vec3) (bs : List Block) (es : List ℕ) → IsPlan s g cs bs es → rows_visits bs es + sphere_count s * length s.walls ≤ most_tests s g cs
plan-counted s g cs bs es p =
    let good = plan-blocks s g cs bs p.sound p.grid p.inside p.blocks in
    omega (arith, rows_visits-le g.bin bs es p.grid.some good.0 (subst (λ xs. AreWide g.bin xs) (sym p.blocks) (blocks_of-wide s g cs)) good.1 p.moved, ap (all_shared g.bin) p.blocks, all_shared-is s g cs p.grid (λ i l. inside-place s cs i p.sound p.inside l))

-- a walk and the walls find exactly the near pairs
pub plan-found : (s : SceneValue) (g : GridValue) (drift : ℕ) (cs : List Vec3) (bs : List Block) (es : List ℕ) (ps : List Pair) → IsPlan s g cs bs es → drift ≡ g.drift →
    ps ≡ rows_of s drift cs bs es ++ walls_found s drift cs → HasSamePairs ps (near_of s g.drift cs)
plan-found s g drift cs bs es ps p same e =
    let keys : AreKeys s bs es = plan-keys s g cs bs es p in
    let few : sphere_count s ≤ SPHERES = omega (arith, (plan-blocks s g cs bs p.sound p.grid p.inside p.blocks).1, keys.count) in
    subst (λ xs. HasSamePairs xs (near_of s g.drift cs))
    (sym (e ∙ ap₂ (λ (n : ℕ) (xs : List Block). rows_of s n cs xs es ++ walls_found s n cs) same p.blocks))
    (found-same s g cs es p.grid few (λ i l. inside-place s cs i p.sound p.inside l) (subst (λ xs. AreKeys s xs es) p.blocks keys) (subst (λ xs. IsPermutation (keys_of xs) es) p.blocks p.moved))

-- the same of lists that are read twice
pub plan-read : (s : SceneValue) (g : GridValue) (cs : List Vec3) (bs items again : List Block) (ks es : List ℕ) → IsSound s → IsGridOf s g → AreInside s cs →
    bs ≡ items → items ≡ blocks_of s g cs → again ≡ items → es ≡ ks → IsPermutation (keys_of bs) ks → IsNonDecreasing ks → IsPlan s g cs again es
plan-read s g cs bs items again ks es sound grid inside p q r t moved order = record {
  sound = sound;
  grid = grid;
  inside = inside;
  blocks = r ∙ q;
  moved = subst (λ ys. IsPermutation (keys_of again) ys) (sym t) (subst (λ xs. IsPermutation (keys_of xs) ks) (p ∙ sym r) moved);
  order = subst IsNonDecreasing (sym t) order;
}
