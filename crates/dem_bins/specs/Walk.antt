-- The walk over sorted keys: which two keys meet, in which column a pair is added, and what the walk finds.
use Rattle.std.specs.Prelude.{ℕ, ◌≡◌, ◌+◌, ◌==◌, ◌<◌, Bool, true, not, ◌&&◌, All, List, [], length, max, min, nat_lt, if◌then◌else◌}
use Rattle.std.specs.List.{flat_map, range_with_len, sum_by}
use Rattle.std.specs.List.Sorted.{IsNonDecreasing}
use Rattle.dem_num.specs.declared.vector.Vec3.{Vec3}
use Rattle.dem_model.specs.SceneValue.{SceneValue}
use Rattle.dem_model.specs.Near.{near}
use Rattle.dem_model.specs.Pairs.{sphere_count, pair_of}
use Rattle.dem_model.specs.declared.state.Pair.{Pair}
use Rattle.dem_margin.specs.NearList.{pair_if_near}
use Rattle.dem_bins.specs.Blocks.{block_at, meet_on, beside, IsBlock}
use Rattle.dem_bins.specs.Keys.{column_of, column_in, key_of, sphere_in, IsKey}
use Rattle.dem_bins.specs.declared.blocks.Block.{Block}

-- the least key of the same column that lies above the highest cell of a key's sphere
unfoldable pub end_of : List Block → ℕ → ℕ
end_of bs e = key_of (column_in e) ((block_at bs (sphere_in e)).z.high + 1) 0

-- whether a key comes after another, in its column and no higher than its sphere, is of another sphere, and their boxes meet there
unfoldable pub meets : List Block → ℕ → ℕ → Bool
meets bs e d = nat_lt e d && nat_lt d (end_of bs e) && not (sphere_in e == sphere_in d) && beside (block_at bs (sphere_in e)) (block_at bs (sphere_in d))

-- of two spheres whose boxes are beside each other, the boxes meet on the third axis exactly where the spheres are near
abbrev pub AreBoxes : SceneValue → ℕ → List Vec3 → List Block → Type 0
AreBoxes s drift centers bs =
    (i j : ℕ) → i < length bs → j < length bs → beside (block_at bs i) (block_at bs j) ≡ true →
    near s drift centers (pair_of (min i j) (max i j)) ≡ meet_on (block_at bs i).upright (block_at bs j).upright

-- the first of the columns that two blocks both meet
unfoldable pub first_column : Block → Block → ℕ
first_column a b = column_of (max a.x.low b.x.low) (max a.y.low b.y.low)

-- the pair of the spheres of two keys
unfoldable pub pair_in : ℕ → ℕ → Pair
pair_in e d = pair_of (min (sphere_in e) (sphere_in d)) (max (sphere_in e) (sphere_in d))

-- what a visit of two keys finds: their pair, in the first column that both spheres meet, if it is apart and near
unfoldable pub visited : SceneValue → ℕ → List Vec3 → List Block → ℕ → ℕ → List Pair
visited s drift centers bs e d =
    if first_column (block_at bs (sphere_in e)) (block_at bs (sphere_in d)) == column_in e then pair_if_near s drift centers (pair_in e d) else []

-- what a key finds with another
unfoldable pub met : SceneValue → ℕ → List Vec3 → List Block → ℕ → ℕ → List Pair
met s drift centers bs e d = if meets bs e d then visited s drift centers bs e d else []

-- what a key finds with these keys
unfoldable pub row_of : SceneValue → ℕ → List Vec3 → List Block → List ℕ → ℕ → List Pair
row_of s drift centers bs es e = flat_map (met s drift centers bs e) es

-- how many visits a key has with these keys
unfoldable pub row_visits : List Block → List ℕ → ℕ → ℕ
row_visits bs es e = sum_by (λ d. if meets bs e d then 1 else 0) es

-- what all keys find with these keys
unfoldable pub rows_of : SceneValue → ℕ → List Vec3 → List Block → List ℕ → List Pair
rows_of s drift centers bs es = flat_map (row_of s drift centers bs es) es

-- how many visits all keys have
unfoldable pub rows_visits : List Block → List ℕ → ℕ
rows_visits bs es = sum_by (row_visits bs es) es

-- each sphere has its block, each key is one of them, and the keys ascend
pub record AreKeys (s : SceneValue) (bs : List Block) (es : List ℕ) : Type 0 where
  pub count : length bs ≡ sphere_count s
  pub blocks : All IsBlock bs
  pub keys : All (IsKey bs) es
  pub order : IsNonDecreasing es

-- the near pairs of one wall with all spheres
unfoldable pub wall_found : SceneValue → ℕ → List Vec3 → ℕ → List Pair
wall_found s drift centers b = flat_map (λ a. pair_if_near s drift centers (pair_of a b)) (range_with_len 0 (sphere_count s))

-- the near pairs of all walls
unfoldable pub walls_found : SceneValue → ℕ → List Vec3 → List Pair
walls_found s drift centers = flat_map (wall_found s drift centers) (range_with_len (sphere_count s) (length s.walls))
