-- The greatest reach of a scene, the blocks of its spheres, and their sizes.
use Rattle.std.proofs.Common.{◌≡◌, ℕ, ◌+◌, ◌*◌, ◌/◌, ◌%◌, ◌-◌, ◌^◌, ◌<◌, ◌≤◌, List, [], ◌∷◌, length, map, refl, sym, ap, ◌∙◌, arith, subst, zero-add, unsigned_abs, ℤ, pos, ◌≤ℤ◌, inl, inr}
use Rattle.std.specs.Prelude.{max}
use Rattle.std.specs.List.{Contains, fold, range_with_len}
use Rattle.std.proofs.lemmas.Nat.{mul-le, le-div, div_below, div-add-mod', mod_below}
use Rattle.std.proofs.lemmas.Int.{ints}
use Rattle.std.proofs.lemmas.List.{length-append, length-map}
use Rattle.std.proofs.lemmas.List.FromFn.{length-map-range_with_len, get_or-map-range_with_len, map-range_with_len_more}
use Rattle.std.proofs.lemmas.List.Sums.{fold_push}
use Rattle.dem_num.specs.declared.vector.Vec3.{Vec3}
use Rattle.dem_model.specs.SceneValue.{SceneValue}
use Rattle.dem_model.specs.Sound.{IsSound, IsBetween, EachBetween}
use Rattle.dem_model.specs.Spheres.{spheres_of, spheres_from, spheres_of_clump, balls_of, sphere_of}
use Rattle.dem_model.specs.Pairs.{sphere_count}
use Rattle.dem_model.specs.Centers.{center_at}
use Rattle.dem_model.specs.Near.{reach_of}
use Rattle.dem_model.specs.Step.{clump_at}
use Rattle.dem_model.specs.declared.state.Clump.{Clump}
use Rattle.dem_model.proofs.SoundFacts.{sphere_at-sound, has_template, clump_at-sound}
use Rattle.dem_bins.specs.Bins.{GridValue, greatest_reach, cells_across, IsGridOf}
use Rattle.dem_bins.specs.Blocks.{interval_of, cells_of, block_of, blocks_of, block_at, no_block, IsSpan, IsBlock}
use Rattle.dem_bins.specs.declared.blocks.Block.{Block}
use Rattle.dem_bins.specs.declared.blocks.TheConstants.{WIDE}
use Rattle.dem_bins.proofs.ListFacts.{has-cases, none-has, map-has, range-has}

-- ---- the greatest of some numbers

fold-above : (a : ℕ) (ys : List ℕ) → a ≤ fold max a ys
fold-above a [] = omega arith
fold-above a (y ∷ ys) = omega (arith, fold-above (max a y) ys)

fold-has : (a y : ℕ) (ys : List ℕ) → Contains ys y → y ≤ fold max a ys
fold-has a y [] c = absurd (none-has y c)
fold-has a y (z ∷ ys) c =
    elim (has-cases z y ys c) [
      | inl e ↦ omega (arith, e, fold-above (max a z) ys)
      | inr d ↦ fold-has (max a z) y ys d
    ]

-- no sphere reaches farther
pub greatest_reach-le : (s : SceneValue) (drift i : ℕ) → i < sphere_count s → reach_of s drift i ≤ greatest_reach s drift
unfolding greatest_reach
greatest_reach-le s drift i l =
    fold-has 0 (reach_of s drift i) (map (reach_of s drift) (range_with_len 0 (sphere_count s)))
    (map-has (reach_of s drift) (range_with_len 0 (sphere_count s)) i (range-has 0 (sphere_count s) i (omega arith) (omega arith)))

-- one more sphere
pub greatest-more : (f : ℕ → ℕ) (n : ℕ) → fold max 0 (map f (range_with_len 0 (n + 1))) ≡ max (fold max 0 (map f (range_with_len 0 n))) (f n)
greatest-more f n = ap (fold max 0) (map-range_with_len_more f 0 n n (zero-add n)) ∙ fold_push max 0 (map f (range_with_len 0 n)) (f n)

-- a template has a sphere
balls_of-some : (s : SceneValue) (t : ℕ) → IsSound s → t < length s.templates → 1 ≤ length (balls_of s.templates t)
unfolding balls_of
balls_of-some s t sound there = let h = has_template s t sound there in rw h.is_it h.sound.count.low_le

-- a scene has a sphere, and it reaches somewhere
some-spheres : (s : SceneValue) (cs : List Clump) → IsSound s → s.clumps ≡ cs → 0 < length cs → 0 < length (spheres_from s.templates 0 cs)
unfolding spheres_from spheres_of_clump clump_at
some-spheres s [] sound e some = absurd (omega arith)
some-spheres s (c ∷ cs) sound e some =
    let first : clump_at s 0 ≡ c = rw e refl in
    let there : c.t < length s.templates = subst (λ x. x.t < length s.templates) first (clump_at-sound s 0 sound (omega (arith, ap length e))).t in
    let balls : 1 ≤ length (balls_of s.templates c.t) = balls_of-some s c.t sound there in
    omega (arith, length-append (map (sphere_of 0) (balls_of s.templates c.t)) (spheres_from s.templates 1 cs), length-map (balls_of s.templates c.t) (sphere_of 0), balls)

pub sphere_count-some : (s : SceneValue) → IsSound s → 0 < sphere_count s
unfolding sphere_count spheres_of
sphere_count-some s sound = some-spheres s s.clumps sound refl (omega (arith, sound.clump_count.low_le))

pub reach_of-some : (s : SceneValue) (drift i : ℕ) → IsSound s → i < sphere_count s → 0 < reach_of s drift i
unfolding reach_of
reach_of-some s drift i sound l = omega (arith, (sphere_at-sound s i sound l).ball.r.low_le)

pub greatest_reach-some : (s : SceneValue) (drift : ℕ) → IsSound s → 0 < greatest_reach s drift
greatest_reach-some s drift sound =
    omega (arith, reach_of-some s drift 0 sound (sphere_count-some s sound), greatest_reach-le s drift 0 (sphere_count-some s sound))

-- ---- blocks

-- a sphere of the grid's scene reaches no farther than four bins
pub reach_of-bins : (s : SceneValue) (g : GridValue) (i : ℕ) → IsGridOf s g → i < sphere_count s → reach_of s g.drift i ≤ 4 * g.bin
unfolding cells_across
reach_of-bins s g i grid l =
    let few : 2 * greatest_reach s g.drift / g.bin + 2 ≤ 8 = grid.few in
    let parts : 2 * greatest_reach s g.drift / g.bin * g.bin + 2 * greatest_reach s g.drift % g.bin ≡ 2 * greatest_reach s g.drift = div-add-mod' (2 * greatest_reach s g.drift) g.bin in
    let rest : 2 * greatest_reach s g.drift % g.bin < g.bin = mod_below (2 * greatest_reach s g.drift) g.bin grid.some in
    let whole : 2 * greatest_reach s g.drift / g.bin * g.bin ≤ 6 * g.bin = mul-le (2 * greatest_reach s g.drift / g.bin) g.bin 6 g.bin (omega arith) (omega arith) in
    omega (arith, greatest_reach-le s g.drift i l)

pub div-le : (m n k : ℕ) → 0 < k → m ≤ n → m / k ≤ n / k
div-le m n k some le = le-div (m / k) n k some (omega (arith, div-add-mod' m k))

pub cells_of-good : (side bin reach c : ℕ) → 0 < side → bin ≤ side → reach ≤ 4 * bin → c ≤ 2 ^ 36 → IsSpan (cells_of side (interval_of bin reach c))
unfolding cells_of interval_of
cells_of-good side bin reach c some wide near inside = record {
  order = div-le (c + 4 * bin - reach) (c + 4 * bin + reach) side some (omega arith);
  small = omega (arith, div_below (c + 4 * bin + reach) side (2 ^ 36 + 9) some (omega arith));
}

inside-size : (z : ℤ) → IsBetween (pos 0) (pos (2 ^ 36)) z → unsigned_abs z ≤ 2 ^ 36
inside-size z h = let low : pos 0 ≤ℤ z = h.low_le in let high : z ≤ℤ pos (2 ^ 36) = h.le_high in omega (arith, ints)

pub block_of-good : (s : SceneValue) (g : GridValue) (cs : List Vec3) (i : ℕ) → IsGridOf s g → i < sphere_count s → EachBetween (pos 0) (pos (2 ^ 36)) (center_at cs i) → IsBlock (block_of s g cs i)
unfolding block_of
block_of-good s g cs i grid l inside =
    let reach : reach_of s g.drift i ≤ 4 * g.bin = reach_of-bins s g i grid l in
    record {
      x = cells_of-good (g.bin * WIDE) g.bin (reach_of s g.drift i) (unsigned_abs (center_at cs i).x) (omega (arith, grid.some)) (omega arith) reach (inside-size (center_at cs i).x inside.x);
      y = cells_of-good (g.bin * WIDE) g.bin (reach_of s g.drift i) (unsigned_abs (center_at cs i).y) (omega (arith, grid.some)) (omega arith) reach (inside-size (center_at cs i).y inside.y);
      z = cells_of-good g.bin g.bin (reach_of s g.drift i) (unsigned_abs (center_at cs i).z) grid.some (omega arith) reach (inside-size (center_at cs i).z inside.z);
    }

pub blocks_of-count : (s : SceneValue) (g : GridValue) (cs : List Vec3) → length (blocks_of s g cs) ≡ sphere_count s
unfolding blocks_of
blocks_of-count s g cs = length-map-range_with_len (block_of s g cs) 0 (sphere_count s)

pub blocks_of-at : (s : SceneValue) (g : GridValue) (cs : List Vec3) (i : ℕ) → i < sphere_count s → block_at (blocks_of s g cs) i ≡ block_of s g cs i
unfolding blocks_of block_at
blocks_of-at s g cs i l = get_or-map-range_with_len (block_of s g cs) 0 (sphere_count s) i i no_block l (zero-add i)

-- ---- what a block says of its box

-- the columns of a block are those that its box meets
pub record IsWide (bin : ℕ) (b : Block) : Type 0 where
  pub x : b.x ≡ cells_of (bin * WIDE) b.across
  pub y : b.y ≡ cells_of (bin * WIDE) b.along
  pub across : b.across.low ≤ b.across.high
  pub along : b.along.low ≤ b.along.high

interval_of-order : (bin reach c : ℕ) → (interval_of bin reach c).low ≤ (interval_of bin reach c).high
unfolding interval_of
interval_of-order bin reach c = omega arith

pub block_of-wide : (s : SceneValue) (g : GridValue) (cs : List Vec3) (i : ℕ) → IsWide g.bin (block_of s g cs i)
unfolding block_of
block_of-wide s g cs i = record {
  x = refl;
  y = refl;
  across = interval_of-order g.bin (reach_of s g.drift i) (unsigned_abs (center_at cs i).x);
  along = interval_of-order g.bin (reach_of s g.drift i) (unsigned_abs (center_at cs i).y);
}

-- so are those of the blocks of all spheres
abbrev pub AreWide : ℕ → List Block → Type 0
AreWide bin bs = (i : ℕ) → i < length bs → IsWide bin (block_at bs i)

pub blocks_of-wide : (s : SceneValue) (g : GridValue) (cs : List Vec3) → AreWide g.bin (blocks_of s g cs)
blocks_of-wide s g cs i l =
    subst (IsWide g.bin) (sym (blocks_of-at s g cs i (omega (arith, blocks_of-count s g cs)))) (block_of-wide s g cs i)
