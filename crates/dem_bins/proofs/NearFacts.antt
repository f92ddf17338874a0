-- What a walk and the walls find is exactly the near pairs.
use Rattle.std.proofs.Common.{◌≡◌, ℕ, ◌+◌, ◌*◌, ◌<◌, ◌≤◌, List, [], ◌++◌, length, map, refl, sym, ap₂, ◌∙◌, arith, subst, inl, inr, Bool, true, false, ℤ, pos, ◌-ℤ◌, unsigned_abs, ◌-◌}
use Rattle.std.specs.Prelude.{◌&&◌, ◌==◌, not, nat_lt, All, min, max}
use Rattle.std.specs.List.{Contains, range_with_len}
use Rattle.std.specs.List.Sorted.{IsPermutation}
use Rattle.std.proofs.lemmas.Bool.{and_parts, and_from, cases_Bool, cases_lt, ltb-false, lt-ltb, le-ltb, not-true, not_from_false, eq-eqb}
use Rattle.std.proofs.lemmas.Int.{ints}
use Rattle.std.proofs.lemmas.List.Elements.{All-contains, Contains-append_left, Contains-append_right, Contains-append_cases}
use Rattle.std.proofs.lemmas.List.Sorted.{Contains-permutation}
use Rattle.dem_num.specs.declared.vector.Vec3.{Vec3}
use Rattle.dem_num.specs.declared.vector.Wide3.{Wide3}
use Rattle.dem_num.specs.Vectors.{widened, difference_of}
use Rattle.dem_model.specs.SceneValue.{SceneValue}
use Rattle.dem_model.specs.Centers.{center_at}
use Rattle.dem_model.specs.Motion.{IsPair}
use Rattle.dem_model.specs.Near.{reach_of, spheres_near, near, near_of}
use Rattle.dem_model.specs.Pairs.{sphere_count, limit_of, pair_of, apart, row_below, pairs_below, all_pairs}
use Rattle.dem_model.specs.declared.state.Pair.{Pair}
use Rattle.dem_margin.specs.NearList.{pair_if_near}
use Rattle.dem_margin.proofs.PairsFacts.{all_pairs-pairs}
use Rattle.dem_bins.specs.Bins.{GridValue, IsGridOf}
use Rattle.dem_bins.specs.Blocks.{interval_of, cells_of, block_of, blocks_of, block_at, meet_on, beside, IsBlock}
use Rattle.dem_bins.specs.Keys.{column_of, key_of, sphere_in, column_in, cells_in, row_keys, own_keys, keys_of, IsKey}
use Rattle.dem_bins.specs.Walk.{meets, first_column, pair_in, visited, met, row_of, rows_of, AreBoxes, AreKeys, wall_found, walls_found}
use Rattle.dem_bins.specs.declared.blocks.Block.{Block}
use Rattle.dem_bins.specs.declared.blocks.Span.{Span}
use Rattle.dem_bins.specs.declared.blocks.TheConstants.{WIDE}
use Rattle.dem_bins.specs.declared.keys.TheConstants.{SPHERES}
use Rattle.dem_bins.proofs.ListFacts.{none-has, first-has, has-cases, flat-has, flat-from, map-has, filter-has, filter-from, range-has, range-from}
use Rattle.dem_bins.proofs.KeyFacts.{AreSmall, meets-from, sphere_in-key, column_in-key}
use Rattle.dem_bins.proofs.CountFacts.{width, block-small, block_at-good}
use Rattle.dem_list.specs.Ascending.{HasSamePairs}
use Rattle.dem_model.proofs.PairFacts.{apart-order}
use Rattle.dem_bins.proofs.BlockFacts.{div-le, blocks_of-at, blocks_of-count, reach_of-bins}
use Rattle.dem_bins.proofs.WalkFacts.{met-none, met-visited}

-- ---- near pairs

-- a pair is near: of a sphere with what is apart from it
pub record IsNearPair (s : SceneValue) (drift : ℕ) (cs : List Vec3) (p : Pair) : Type 0 where
  pub pair : IsPair s p
  pub is_near : near s drift cs p ≡ true

pub near_of-has : (s : SceneValue) (drift : ℕ) (cs : List Vec3) (p : Pair) → IsNearPair s drift cs p → Contains (near_of s drift cs) p
unfolding near_of all_pairs pairs_below row_below
near_of-has s drift cs p h =
    filter-has (near s drift cs) (all_pairs s) p
    (flat-has (λ i. row_below s i (limit_of s)) (range_with_len 0 (sphere_count s)) p.a p
    (range-has 0 (sphere_count s) p.a (omega arith) (omega (arith, h.pair.first)))
    (filter-has (apart s) (map (pair_of p.a) (range_with_len 0 (limit_of s))) p
    (map-has (pair_of p.a) (range_with_len 0 (limit_of s)) p.b (range-has 0 (limit_of s) p.b (omega arith) (omega (arith, h.pair.second)))) h.pair.is_apart))
    h.is_near

pub near_of-from : (s : SceneValue) (drift : ℕ) (cs : List Vec3) (p : Pair) → Contains (near_of s drift cs) p → IsNearPair s drift cs p
unfolding near_of
near_of-from s drift cs p c =
    let r = filter-from (near s drift cs) (all_pairs s) p c in
    record { pair = All-contains (IsPair s) (all_pairs s) p (all_pairs-pairs s) r.there; is_near = r.passes }

-- a pair that is added alone
one-has : (s : SceneValue) (drift : ℕ) (cs : List Vec3) (p : Pair) → IsNearPair s drift cs p → Contains (pair_if_near s drift cs p) p
one-has s drift cs p h = rw (and_from (apart s p) (near s drift cs p) h.pair.is_apart h.is_near) (first-has p [])

-- what is added alone is that pair, apart and near
record IsOne (s : SceneValue) (drift : ℕ) (cs : List Vec3) (p q : Pair) : Type 0 where
  same : p ≡ q
  is_apart : apart s p ≡ true
  is_near : near s drift cs p ≡ true

one-cases : (s : SceneValue) (drift : ℕ) (cs : List Vec3) (p q : Pair) (b : Bool) → (apart s p && near s drift cs p) ≡ b → Contains (pair_if_near s drift cs p) q → IsOne s drift cs p q
one-cases s drift cs p q true e c =
    let parts = and_parts (apart s p) (near s drift cs p) e in
    elim (has-cases p q [] (rw e at c)) [
      | inl same ↦ record { same = same; is_apart = parts.0; is_near = parts.1 }
      | inr none ↦ absurd (none-has q none)
    ]
one-cases s drift cs p q false e c = absurd (none-has q (rw e at c))

one-from : (s : SceneValue) (drift : ℕ) (cs : List Vec3) (p q : Pair) → Contains (pair_if_near s drift cs p) q → IsOne s drift cs p q
one-from s drift cs p q c = one-cases s drift cs p q (apart s p && near s drift cs p) refl c

one-near : (s : SceneValue) (drift : ℕ) (cs : List Vec3) (p q : Pair) → p.a < sphere_count s → p.b < limit_of s → Contains (pair_if_near s drift cs p) q → Contains (near_of s drift cs) q
one-near s drift cs p q first second c =
    let one = one-from s drift cs p q c in
    subst (λ x. Contains (near_of s drift cs) x) one.same
    (near_of-has s drift cs p (record { pair = record { first = first; second = second; is_apart = one.is_apart }; is_near = one.is_near }))

-- ---- what is found is near

visited-from : (s : SceneValue) (drift : ℕ) (cs : List Vec3) (bs : List Block) (e d : ℕ) (p : Pair) → Contains (visited s drift cs bs e d) p → Contains (pair_if_near s drift cs (pair_in e d)) p
unfolding visited
visited-from s drift cs bs e d p c =
    elim (cases_Bool (first_column (block_at bs (sphere_in e)) (block_at bs (sphere_in d)) == column_in e)) [
      | inl t ↦ rw t at c
      | inr t ↦ absurd (none-has p (rw t at c))
    ]

met-from : (s : SceneValue) (drift : ℕ) (cs : List Vec3) (bs : List Block) (e d : ℕ) (p : Pair) → Contains (met s drift cs bs e d) p → Contains (pair_if_near s drift cs (pair_in e d)) p
met-from s drift cs bs e d p c =
    elim (cases_Bool (meets bs e d)) [
      | inl t ↦ visited-from s drift cs bs e d p (subst (λ xs. Contains xs p) (met-visited s drift cs bs e d t) c)
      | inr t ↦ absurd (none-has p (subst (λ xs. Contains xs p) (met-none s drift cs bs e d t) c))
    ]

pub rows_of-near : (s : SceneValue) (drift : ℕ) (cs : List Vec3) (bs : List Block) (es : List ℕ) (p : Pair) → AreKeys s bs es → Contains (rows_of s drift cs bs es) p → Contains (near_of s drift cs) p
unfolding rows_of row_of pair_in limit_of
rows_of-near s drift cs bs es p keys c =
    let r = flat-from (row_of s drift cs bs es) es p c in
    let t = flat-from (met s drift cs bs r.it) es p r.has in
    let first : sphere_in r.it < length bs = (All-contains (IsKey bs) es r.it keys.keys r.there).sphere in
    let second : sphere_in t.it < length bs = (All-contains (IsKey bs) es t.it keys.keys t.there).sphere in
    one-near s drift cs (pair_in r.it t.it) p (omega (arith, keys.count)) (omega (arith, keys.count)) (met-from s drift cs bs r.it t.it p t.has)

pub walls_found-near : (s : SceneValue) (drift : ℕ) (cs : List Vec3) (p : Pair) → Contains (walls_found s drift cs) p → Contains (near_of s drift cs) p
unfolding walls_found wall_found limit_of
walls_found-near s drift cs p c =
    let r = flat-from (wall_found s drift cs) (range_with_len (sphere_count s) (length s.walls)) p c in
    let t = flat-from (λ a. pair_if_near s drift cs (pair_of a r.it)) (range_with_len 0 (sphere_count s)) p r.has in
    let b = range-from (sphere_count s) (length s.walls) r.it r.there in
    let a = range-from 0 (sphere_count s) t.it t.there in
    one-near s drift cs (pair_of t.it r.it) p (omega (arith, a.high)) (omega (arith, b.high)) t.has

-- ---- what is near is found

pub walls_found-has : (s : SceneValue) (drift : ℕ) (cs : List Vec3) (p : Pair) → IsNearPair s drift cs p → sphere_count s ≤ p.b → Contains (walls_found s drift cs) p
unfolding walls_found wall_found limit_of
walls_found-has s drift cs p h later =
    let second : p.b < sphere_count s + length s.walls = h.pair.second in
    flat-has (wall_found s drift cs) (range_with_len (sphere_count s) (length s.walls)) p.b p (range-has (sphere_count s) (length s.walls) p.b later (omega arith))
    (flat-has (λ a. pair_if_near s drift cs (pair_of a p.b)) (range_with_len 0 (sphere_count s)) p.a p
    (range-has 0 (sphere_count s) p.a (omega arith) (omega (arith, h.pair.first)))
    (one-has s drift cs p h))

-- each of two spans begins no later than the other ends
pub record Shares (a b : Span) : Type 0 where
  pub first : a.low ≤ b.high
  pub second : b.low ≤ a.high

interval_of-shares : (bin r q : ℕ) (c d : ℤ) → pos (unsigned_abs c) ≡ c → pos (unsigned_abs d) ≡ d → unsigned_abs (c -ℤ d) ≤ r + q →
    Shares (interval_of bin r (unsigned_abs c)) (interval_of bin q (unsigned_abs d))
unfolding interval_of
interval_of-shares bin r q c d cp dp close = record { first = omega (arith, ints); second = omega (arith, ints) }

cells_of-shares : (side : ℕ) (a b : Span) → 0 < side → Shares a b → Shares (cells_of side a) (cells_of side b)
unfolding cells_of
cells_of-shares side a b some h = record { first = div-le a.low b.high side some h.first; second = div-le b.low a.high side some h.second }

shares-meet : (a b : Span) → Shares a b → meet_on a b ≡ true
unfolding meet_on
shares-meet a b h =
    and_from (not (nat_lt b.high a.low)) (not (nat_lt a.high b.low))
    (not_from_false (nat_lt b.high a.low) (le-ltb b.high a.low h.first)) (not_from_false (nat_lt a.high b.low) (le-ltb a.high b.low h.second))

-- the blocks share cells on each axis, and the boxes are beside each other
pub record ShareBlocks (a b : Block) : Type 0 where
  pub x : Shares a.x b.x
  pub y : Shares a.y b.y
  pub z : Shares a.z b.z
  pub across : Shares a.across b.across
  pub along : Shares a.along b.along

pub share-beside : (a b : Block) → ShareBlocks a b → beside a b ≡ true
unfolding beside
share-beside a b h =
    and_from (meet_on a.across b.across) (meet_on a.along b.along) (shares-meet a.across b.across h.across) (shares-meet a.along b.along h.along)

-- a component isn't negative
abbrev pub IsPlace : Vec3 → Type 0
IsPlace c = (pos (unsigned_abs c.x) ≡ c.x) × (pos (unsigned_abs c.y) ≡ c.y) × (pos (unsigned_abs c.z) ≡ c.z)

axis-close : (reach n : ℕ) → not (nat_lt reach n) ≡ true → n ≤ reach
axis-close reach n h = ltb-false reach n (not-true (nat_lt reach n) h)

-- two tests that pass together are the same
same-tests : (b c : Bool) → (b ≡ true → c ≡ true) → (c ≡ true → b ≡ true) → b ≡ c
same-tests true c f g = sym (f refl)
same-tests false true f g = g refl
same-tests false false f g = refl

and-turned : (b c : Bool) → (b && c) ≡ (c && b)
and-turned true true = refl
and-turned true false = refl
and-turned false true = refl
and-turned false false = refl

close-meet : (bin r q : ℕ) (c d : ℤ) → pos (unsigned_abs c) ≡ c → pos (unsigned_abs d) ≡ d → r ≤ 4 * bin → q ≤ 4 * bin →
    meet_on (interval_of bin r (unsigned_abs c)) (interval_of bin q (unsigned_abs d)) ≡ true → unsigned_abs (c -ℤ d) ≤ r + q
unfolding meet_on interval_of
close-meet bin r q c d cp dp rl ql h =
    let parts = and_parts (not (nat_lt (unsigned_abs d + 4 * bin + q) (unsigned_abs c + 4 * bin - r))) (not (nat_lt (unsigned_abs c + 4 * bin + r) (unsigned_abs d + 4 * bin - q))) h in
    let first : unsigned_abs c + 4 * bin - r ≤ unsigned_abs d + 4 * bin + q = ltb-false (unsigned_abs d + 4 * bin + q) (unsigned_abs c + 4 * bin - r) (not-true (nat_lt (unsigned_abs d + 4 * bin + q) (unsigned_abs c + 4 * bin - r)) parts.0) in
    let second : unsigned_abs d + 4 * bin - q ≤ unsigned_abs c + 4 * bin + r = ltb-false (unsigned_abs c + 4 * bin + r) (unsigned_abs d + 4 * bin - q) (not-true (nat_lt (unsigned_abs c + 4 * bin + r) (unsigned_abs d + 4 * bin - q)) parts.1) in
    omega (arith, ints)

-- near spheres share cells
near-shares : (s : SceneValue) (g : GridValue) (cs : List Vec3) (i j : ℕ) → 0 < g.bin → j < sphere_count s → IsPlace (center_at cs i) → IsPlace (center_at cs j) →
    near s g.drift cs (pair_of i j) ≡ true → ShareBlocks (block_of s g cs i) (block_of s g cs j)
unfolding near spheres_near block_of
near-shares s g cs i j some there ip jp h =
    let close : spheres_near (difference_of (widened (center_at cs i)) (widened (center_at cs j))) (reach_of s g.drift i + reach_of s g.drift j) ≡ true = rw (lt-ltb j (sphere_count s) there) at h in
    let reach : ℕ = reach_of s g.drift i + reach_of s g.drift j in
    let d : Wide3 = difference_of (widened (center_at cs i)) (widened (center_at cs j)) in
    let two = and_parts
    (not (nat_lt (reach_of s g.drift i + reach_of s g.drift j) (unsigned_abs ((center_at cs i).x -ℤ (center_at cs j).x))) && not (nat_lt (reach_of s g.drift i + reach_of s g.drift j) (unsigned_abs ((center_at cs i).y -ℤ (center_at cs j).y))))
    (not (nat_lt (reach_of s g.drift i + reach_of s g.drift j) (unsigned_abs ((center_at cs i).z -ℤ (center_at cs j).z)))) close in
    let one = and_parts
    (not (nat_lt (reach_of s g.drift i + reach_of s g.drift j) (unsigned_abs ((center_at cs i).x -ℤ (center_at cs j).x))))
    (not (nat_lt (reach_of s g.drift i + reach_of s g.drift j) (unsigned_abs ((center_at cs i).y -ℤ (center_at cs j).y)))) two.0 in
    let xs : Shares (interval_of g.bin (reach_of s g.drift i) (unsigned_abs (center_at cs i).x)) (interval_of g.bin (reach_of s g.drift j) (unsigned_abs (center_at cs j).x)) =
    interval_of-shares g.bin (reach_of s g.drift i) (reach_of s g.drift j) (center_at cs i).x (center_at cs j).x ip.0 jp.0 (axis-close (reach_of s g.drift i + reach_of s g.drift j) (unsigned_abs ((center_at cs i).x -ℤ (center_at cs j).x)) one.0) in
    let ys : Shares (interval_of g.bin (reach_of s g.drift i) (unsigned_abs (center_at cs i).y)) (interval_of g.bin (reach_of s g.drift j) (unsigned_abs (center_at cs j).y)) =
    interval_of-shares g.bin (reach_of s g.drift i) (reach_of s g.drift j) (center_at cs i).y (center_at cs j).y ip.1 jp.1 (axis-close (reach_of s g.drift i + reach_of s g.drift j) (unsigned_abs ((center_at cs i).y -ℤ (center_at cs j).y)) one.1) in
    let zs : Shares (interval_of g.bin (reach_of s g.drift i) (unsigned_abs (center_at cs i).z)) (interval_of g.bin (reach_of s g.drift j) (unsigned_abs (center_at cs j).z)) =
    interval_of-shares g.bin (reach_of s g.drift i) (reach_of s g.drift j) (center_at cs i).z (center_at cs j).z ip.2 jp.2 (axis-close (reach_of s g.drift i + reach_of s g.drift j) (unsigned_abs ((center_at cs i).z -ℤ (center_at cs j).z)) two.1) in
    record {
      x = cells_of-shares (g.bin * WIDE) _ _ (omega (arith, some)) xs;
      y = cells_of-shares (g.bin * WIDE) _ _ (omega (arith, some)) ys;
      z = cells_of-shares g.bin _ _ some zs;
      across = xs;
      along = ys;
    }

-- two intervals meet exactly where their middles are no farther apart than both reach
meet-close : (bin r q : ℕ) (c d : ℤ) → pos (unsigned_abs c) ≡ c → pos (unsigned_abs d) ≡ d → r ≤ 4 * bin → q ≤ 4 * bin →
    not (nat_lt (r + q) (unsigned_abs (c -ℤ d))) ≡ meet_on (interval_of bin r (unsigned_abs c)) (interval_of bin q (unsigned_abs d))
meet-close bin r q c d cp dp rl ql =
    same-tests (not (nat_lt (r + q) (unsigned_abs (c -ℤ d)))) (meet_on (interval_of bin r (unsigned_abs c)) (interval_of bin q (unsigned_abs d)))
    (λ h. shares-meet (interval_of bin r (unsigned_abs c)) (interval_of bin q (unsigned_abs d)) (interval_of-shares bin r q c d cp dp (axis-close (r + q) (unsigned_abs (c -ℤ d)) h)))
    (λ h. not_from_false (nat_lt (r + q) (unsigned_abs (c -ℤ d))) (le-ltb (r + q) (unsigned_abs (c -ℤ d)) (close-meet bin r q c d cp dp rl ql h)))

-- of two spheres whose boxes are beside each other the boxes meet on the third axis exactly where they are near
near-upright : (s : SceneValue) (g : GridValue) (cs : List Vec3) (i j : ℕ) → IsGridOf s g → i < sphere_count s → j < sphere_count s → IsPlace (center_at cs i) → IsPlace (center_at cs j) →
    beside (block_of s g cs i) (block_of s g cs j) ≡ true → near s g.drift cs (pair_of i j) ≡ meet_on (block_of s g cs i).upright (block_of s g cs j).upright
unfolding near spheres_near block_of beside
near-upright s g cs i j grid il jl ip jp h =
    let ri : reach_of s g.drift i ≤ 4 * g.bin = reach_of-bins s g i grid il in
    let rj : reach_of s g.drift j ≤ 4 * g.bin = reach_of-bins s g j grid jl in
    let xs = meet-close g.bin (reach_of s g.drift i) (reach_of s g.drift j) (center_at cs i).x (center_at cs j).x ip.0 jp.0 ri rj in
    let ys = meet-close g.bin (reach_of s g.drift i) (reach_of s g.drift j) (center_at cs i).y (center_at cs j).y ip.1 jp.1 ri rj in
    let zs = meet-close g.bin (reach_of s g.drift i) (reach_of s g.drift j) (center_at cs i).z (center_at cs j).z ip.2 jp.2 ri rj in
    let parts = and_parts
    (meet_on (interval_of g.bin (reach_of s g.drift i) (unsigned_abs (center_at cs i).x)) (interval_of g.bin (reach_of s g.drift j) (unsigned_abs (center_at cs j).x)))
    (meet_on (interval_of g.bin (reach_of s g.drift i) (unsigned_abs (center_at cs i).y)) (interval_of g.bin (reach_of s g.drift j) (unsigned_abs (center_at cs j).y))) h in
    rw (lt-ltb j (sphere_count s) jl, xs ∙ parts.0, ys ∙ parts.1) zs

meet_on-turned : (a b : Span) → meet_on a b ≡ meet_on b a
unfolding meet_on
meet_on-turned a b = and-turned (not (nat_lt b.high a.low)) (not (nat_lt a.high b.low))

beside-turned : (a b : Block) → beside a b ≡ beside b a
unfolding beside
beside-turned a b = ap₂ (λ (p q : Bool). p && q) (meet_on-turned a.across b.across) (meet_on-turned a.along b.along)

-- the same of the blocks of all spheres, in either order
pub blocks_of-boxes : (s : SceneValue) (g : GridValue) (cs : List Vec3) → IsGridOf s g → ((i : ℕ) → i < sphere_count s → IsPlace (center_at cs i)) → AreBoxes s g.drift cs (blocks_of s g cs)
blocks_of-boxes s g cs grid inside i j il jl h =
    let ic : i < sphere_count s = omega (arith, blocks_of-count s g cs) in
    let jc : j < sphere_count s = omega (arith, blocks_of-count s g cs) in
    let near' : beside (block_of s g cs i) (block_of s g cs j) ≡ true =
    sym (ap₂ (λ (a b : Block). beside a b) (blocks_of-at s g cs i ic) (blocks_of-at s g cs j jc)) ∙ h in
    let done : near s g.drift cs (pair_of (min i j) (max i j)) ≡ meet_on (block_of s g cs i).upright (block_of s g cs j).upright =
    elim (cases_lt i j) [
      | inl less ↦
          let low : min i j ≡ i = omega arith in
          let high : max i j ≡ j = omega arith in
          ap₂ (λ (a b : ℕ). near s g.drift cs (pair_of a b)) low high ∙ near-upright s g cs i j grid ic jc (inside i ic) (inside j jc) near'
      | inr more ↦
          let low : min i j ≡ j = omega arith in
          let high : max i j ≡ i = omega arith in
          ap₂ (λ (a b : ℕ). near s g.drift cs (pair_of a b)) low high
          ∙ near-upright s g cs j i grid jc ic (inside j jc) (inside i ic) (beside-turned (block_of s g cs j) (block_of s g cs i) ∙ near')
          ∙ meet_on-turned (block_of s g cs j).upright (block_of s g cs i).upright
    ] in
    done ∙ sym (ap₂ (λ (a b : Block). meet_on a.upright b.upright) (blocks_of-at s g cs i ic) (blocks_of-at s g cs j jc))

-- ---- the keys of the first column that two blocks share

own_keys-has : (b : Block) (i x y : ℕ) → b.x.low ≤ x → x ≤ b.x.high → b.y.low ≤ y → y ≤ b.y.high → Contains (own_keys b i) (key_of (column_of x y) b.z.low i)
unfolding own_keys row_keys cells_in
own_keys-has b i x y xl xh yl yh =
    flat-has (row_keys b i) (cells_in b.x) x (key_of (column_of x y) b.z.low i) (range-has b.x.low (width b.x) x xl (omega arith))
    (map-has (λ v. key_of (column_of x v) b.z.low i) (cells_in b.y) y (range-has b.y.low (width b.y) y yl (omega arith)))

keys_of-has : (bs : List Block) (i k : ℕ) → i < length bs → Contains (own_keys (block_at bs i) i) k → Contains (keys_of bs) k
unfolding keys_of
keys_of-has bs i k l c = flat-has (λ n. own_keys (block_at bs n) n) (range_with_len 0 (length bs)) i k (range-has 0 (length bs) i (omega arith) (omega arith)) c

-- the key of a sphere in the first column that it shares with another
abbrev first_key : Block → Block → ℕ → ℕ
first_key a b i = key_of (first_column a b) a.z.low i

first_key-has : (bs : List Block) (i j : ℕ) → i < length bs → IsBlock (block_at bs i) → ShareBlocks (block_at bs i) (block_at bs j) → Contains (keys_of bs) (first_key (block_at bs i) (block_at bs j) i)
unfolding first_column
first_key-has bs i j l good share =
    keys_of-has bs i (first_key (block_at bs i) (block_at bs j) i) l
    (own_keys-has (block_at bs i) i (max (block_at bs i).x.low (block_at bs j).x.low) (max (block_at bs i).y.low (block_at bs j).y.low)
    (omega arith) (omega (arith, good.x.order, share.x.second)) (omega arith) (omega (arith, good.y.order, share.y.second)))

pub first_column-turned : (a b : Block) → first_column a b ≡ first_column b a
unfolding first_column
first_column-turned a b = ap₂ column_of (omega arith) (omega arith)

-- what is visited of two keys in the first column
visited-is : (s : SceneValue) (drift : ℕ) (cs : List Vec3) (bs : List Block) (e d i j : ℕ) → sphere_in e ≡ i → sphere_in d ≡ j → first_column (block_at bs i) (block_at bs j) ≡ column_in e →
    visited s drift cs bs e d ≡ pair_if_near s drift cs (pair_of (min i j) (max i j))
unfolding visited pair_in
visited-is s drift cs bs e d i j ei dj first = rw (ei, dj, eq-eqb (first_column (block_at bs i) (block_at bs j)) (column_in e) first) refl

-- two keys of the first column, the one before the other, find their pair
pub met-has : (s : SceneValue) (drift : ℕ) (cs : List Vec3) (bs : List Block) (i j : ℕ) → i < SPHERES → j < SPHERES → IsBlock (block_at bs i) → IsBlock (block_at bs j) →
    ShareBlocks (block_at bs i) (block_at bs j) → (block_at bs i).z.low * SPHERES + i < (block_at bs j).z.low * SPHERES + j → (i ≡ j → ⊥) →
    met s drift cs bs (first_key (block_at bs i) (block_at bs j) i) (first_key (block_at bs j) (block_at bs i) j) ≡ pair_if_near s drift cs (pair_of (min i j) (max i j))
met-has s drift cs bs i j il jl gi gj share order other =
    let small : AreSmall (block_at bs i).z.low i (block_at bs i).z.high (block_at bs j).z.low j = block-small (block_at bs i) (block_at bs j) i j gi gj il jl in
    let meet : meets bs (first_key (block_at bs i) (block_at bs j) i) (first_key (block_at bs j) (block_at bs i) j) ≡ true =
    meets-from bs (first_column (block_at bs i) (block_at bs j)) (block_at bs i).z.low i (first_column (block_at bs j) (block_at bs i)) (block_at bs j).z.low j small
    (record { column = first_column-turned (block_at bs i) (block_at bs j); order = order; below = share.z.second }) other (share-beside (block_at bs i) (block_at bs j) share) in
    met-visited s drift cs bs (first_key (block_at bs i) (block_at bs j) i) (first_key (block_at bs j) (block_at bs i) j) meet
    ∙ visited-is s drift cs bs (first_key (block_at bs i) (block_at bs j) i) (first_key (block_at bs j) (block_at bs i) j) i j
    (sphere_in-key (first_column (block_at bs i) (block_at bs j)) (block_at bs i).z.low i il)
    (sphere_in-key (first_column (block_at bs j) (block_at bs i)) (block_at bs j).z.low j jl)
    (sym (column_in-key (first_column (block_at bs i) (block_at bs j)) (block_at bs i).z.low i small.low il))

-- a walk finds what two of the keys find
rows_of-has : (s : SceneValue) (drift : ℕ) (cs : List Vec3) (bs : List Block) (es : List ℕ) (e d : ℕ) (p : Pair) → IsPermutation (keys_of bs) es → Contains (keys_of bs) e → Contains (keys_of bs) d →
    Contains (met s drift cs bs e d) p → Contains (rows_of s drift cs bs es) p
unfolding rows_of row_of
rows_of-has s drift cs bs es e d p moved ec dc c =
    flat-has (row_of s drift cs bs es) es e p (Contains-permutation (keys_of bs) es e moved ec)
    (flat-has (met s drift cs bs e) es d p (Contains-permutation (keys_of bs) es d moved dc) c)

turned : (a b : Block) → ShareBlocks a b → ShareBlocks b a
turned a b h = record {
  x = record { first = h.x.second; second = h.x.first };
  y = record { first = h.y.second; second = h.y.first };
  z = record { first = h.z.second; second = h.z.first };
  across = record { first = h.across.second; second = h.across.first };
  along = record { first = h.along.second; second = h.along.first };
}

-- every near pair of two spheres is found, where the blocks are those of the spheres
pub rows_of-whole : (s : SceneValue) (drift : ℕ) (cs : List Vec3) (bs : List Block) (es : List ℕ) (p : Pair) →
    length bs ≡ sphere_count s → length bs ≤ SPHERES → All IsBlock bs → IsPermutation (keys_of bs) es →
    IsNearPair s drift cs p → p.b < sphere_count s → ShareBlocks (block_at bs p.a) (block_at bs p.b) → Contains (rows_of s drift cs bs es) p
rows_of-whole s drift cs bs es p count few good moved h there share =
    let il : p.a < length bs = omega (arith, h.pair.first) in
    let jl : p.b < length bs = omega arith in
    let order : p.a < p.b = apart-order s p h.pair.is_apart in
    let other : p.a ≡ p.b → ⊥ = λ e. omega arith in
    let gi : IsBlock (block_at bs p.a) = block_at-good bs p.a good il in
    let gj : IsBlock (block_at bs p.b) = block_at-good bs p.b good jl in
    let ek : Contains (keys_of bs) (first_key (block_at bs p.a) (block_at bs p.b) p.a) = first_key-has bs p.a p.b il gi share in
    let dk : Contains (keys_of bs) (first_key (block_at bs p.b) (block_at bs p.a) p.b) = first_key-has bs p.b p.a jl gj (turned (block_at bs p.a) (block_at bs p.b) share) in
    let low : min p.a p.b ≡ p.a = omega arith in
    let high : max p.a p.b ≡ p.b = omega arith in
    let low' : min p.b p.a ≡ p.a = omega arith in
    let high' : max p.b p.a ≡ p.b = omega arith in
    elim (cases_lt ((block_at bs p.a).z.low * SPHERES + p.a) ((block_at bs p.b).z.low * SPHERES + p.b)) [
      | inl first ↦
          rows_of-has s drift cs bs es (first_key (block_at bs p.a) (block_at bs p.b) p.a) (first_key (block_at bs p.b) (block_at bs p.a) p.b) p moved ek dk
          (subst (λ ps. Contains ps p)
          (sym (met-has s drift cs bs p.a p.b (omega arith) (omega arith) gi gj share first other ∙ ap₂ (λ (a b : ℕ). pair_if_near s drift cs (pair_of a b)) low high)) (one-has s drift cs p h))
      | inr later ↦
          rows_of-has s drift cs bs es (first_key (block_at bs p.b) (block_at bs p.a) p.b) (first_key (block_at bs p.a) (block_at bs p.b) p.a) p moved dk ek
          (subst (λ ps. Contains ps p)
          (sym (met-has s drift cs bs p.b p.a (omega arith) (omega arith) gj gi (turned (block_at bs p.a) (block_at bs p.b) share) (omega arith) (λ e. other (sym e))
          ∙ ap₂ (λ (a b : ℕ). pair_if_near s drift cs (pair_of a b)) low' high')) (one-has s drift cs p h))
    ]

-- what a walk over the blocks of a grid and the walls find is exactly the near pairs
pub found-same : (s : SceneValue) (g : GridValue) (cs : List Vec3) (es : List ℕ) → IsGridOf s g → sphere_count s ≤ SPHERES → ((i : ℕ) → i < sphere_count s → IsPlace (center_at cs i)) →
    AreKeys s (blocks_of s g cs) es → IsPermutation (keys_of (blocks_of s g cs)) es →
    HasSamePairs (rows_of s g.drift cs (blocks_of s g cs) es ++ walls_found s g.drift cs) (near_of s g.drift cs)
found-same s g cs es grid few inside keys moved = λ p. (
  λ c. elim (Contains-append_cases (rows_of s g.drift cs (blocks_of s g cs) es) (walls_found s g.drift cs) p c) [
    | inl d ↦ rows_of-near s g.drift cs (blocks_of s g cs) es p keys d
    | inr d ↦ walls_found-near s g.drift cs p d
  ],
  λ c.
      let h = near_of-from s g.drift cs p c in
      elim (cases_lt p.b (sphere_count s)) [
        | inl there ↦
            Contains-append_left (rows_of s g.drift cs (blocks_of s g cs) es) (walls_found s g.drift cs) p
            (rows_of-whole s g.drift cs (blocks_of s g cs) es p keys.count (omega (arith, keys.count)) keys.blocks moved h there
            (subst (λ b. ShareBlocks b (block_at (blocks_of s g cs) p.b)) (sym (blocks_of-at s g cs p.a h.pair.first))
            (subst (λ b. ShareBlocks (block_of s g cs p.a) b) (sym (blocks_of-at s g cs p.b there))
            (near-shares s g cs p.a p.b grid.some there (inside p.a h.pair.first) (inside p.b there) h.is_near))))
        | inr later ↦ Contains-append_right (rows_of s g.drift cs (blocks_of s g cs) es) (walls_found s g.drift cs) p (walls_found-has s g.drift cs p h later)
      ],
)
