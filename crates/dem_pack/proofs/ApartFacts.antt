-- Cells are a pitch apart: on one axis, or in length.
use Rattle.std.proofs.Common.{◌≡◌, ℕ, zero, suc, ◌+◌, ◌-◌, ◌*◌, ◌/◌, ◌%◌, ◌<◌, ◌≤◌, ◌⊎◌, inl, inr, pos, Bool, true, false, nat_le, map, find, unwrap_or, Some, cond, arith, refl, sym, ap, ◌∙◌, ⊎_elim, subst}
use Rattle.std.specs.Prelude.{All, AllPairs, ◌-ℤ◌, unsigned_abs, if◌then◌else◌, ◌==◌}
use Rattle.std.specs.List.{range_with_len}
use Rattle.std.proofs.lemmas.Bool.{cases_lt, le-leb, lt-leb, false≢true}
use Rattle.std.proofs.lemmas.Int.{ints}
use Rattle.std.proofs.lemmas.Nat.{mul-le}
use Rattle.dem_num.specs.declared.vector.Vec3.{Vec3}
use Rattle.dem_num.specs.Vectors.{widened, difference_of, norm2_of}
use Rattle.dem_model.specs.Cells.{Lattice, Region, cells_of, grid, layer_of, layer_count, pitch_of, place_at, rise_of, shift_at, staggered}
use Rattle.dem_pack.specs.Layers.{columns_of, rows_of, grid_cell}
use Rattle.dem_pack.proofs.LayerFacts.{layer-rows}
use Rattle.dem_pack.proofs.ListFacts.{All-range, All-rows, AllPairs-range, AllPairs-rows}

-- two places are so far apart on some axis
abbrev pub AreSplit : ℕ → Vec3 → Vec3 → Type 0
AreSplit d p q = (d ≤ unsigned_abs (p.x -ℤ q.x)) ⊎ ((d ≤ unsigned_abs (p.y -ℤ q.y)) ⊎ (d ≤ unsigned_abs (p.z -ℤ q.z)))

-- two places are so far apart in length
abbrev pub AreFar : ℕ → Vec3 → Vec3 → Type 0
AreFar d p q = d * d ≤ norm2_of (difference_of (widened p) (widened q))

-- ---- numbers

-- what is far apart in ℕ is so in ℤ
far-apart : (a b d : ℕ) → a + d ≤ b → d ≤ unsigned_abs (pos a -ℤ pos b)
far-apart a b d le = omega (arith, ints)

-- two places of a stretch
steps-apart : (extent pitch low i j : ℕ) → i < j → pitch ≤ unsigned_abs (pos (place_at extent pitch low i) -ℤ pos (place_at extent pitch low j))
unfolding place_at
steps-apart extent pitch low i j before =
    let more = mul-le (i + 1) pitch j pitch (omega arith) (omega arith) in
    let next : (i + 1) * pitch ≡ i * pitch + pitch = grind arith in
    far-apart (low + extent + i * pitch) (low + extent + j * pitch) pitch (omega (arith, more, next))

-- two layers that aren't next to each other
layers-apart : (extent rise low k m : ℕ) → k + 2 ≤ m → 2 * rise ≤ unsigned_abs (pos (place_at extent rise low k) -ℤ pos (place_at extent rise low m))
unfolding place_at
layers-apart extent rise low k m before =
    let more = mul-le (k + 2) rise m rise before (omega arith) in
    let next : (k + 2) * rise ≡ k * rise + 2 * rise = grind arith in
    far-apart (low + extent + k * rise) (low + extent + m * rise) (2 * rise) (omega (arith, more, next))

-- places of which one is shifted by at most half a pitch
shift-apart : (a half pitch i j : ℕ) → 2 * half ≤ pitch → half ≤ unsigned_abs (pos (a + i * pitch) -ℤ pos (a + half + j * pitch))
shift-apart a half pitch i j most =
    ⊎_elim
    (λ (before : j < i).
    let more = mul-le (j + 1) pitch i pitch (omega arith) (omega arith) in
    let next : (j + 1) * pitch ≡ j * pitch + pitch = grind arith in
    omega (arith, ints, more, next))
    (λ (after : i ≤ j).
    let more = mul-le i pitch j pitch after (omega arith) in
    omega (arith, ints, more))
    (cases_lt j i)

turned-round : (a b d : ℕ) → d ≤ unsigned_abs (pos a -ℤ pos b) → d ≤ unsigned_abs (pos b -ℤ pos a)
turned-round a b d le = omega (arith, ints)

-- ---- the rise

-- what a search finds passes: the first number, or what it finds behind that
found-either : (test : ℕ → Bool) (a m : ℕ) (b : Bool) → test a ≡ b → test (unwrap_or (find test (range_with_len (a + 1) m)) 0) ≡ true
    → test (unwrap_or (find test (range_with_len a (suc m))) 0) ≡ true
found-either test a m true is rest = ap (λ b. test (unwrap_or (cond b (Some a) (find test (range_with_len (a + 1) m))) 0)) is ∙ is
found-either test a m false is rest = ap (λ b. test (unwrap_or (cond b (Some a) (find test (range_with_len (a + 1) m))) 0)) is ∙ rest

find-passes : (test : ℕ → Bool) (a j m : ℕ) → test (a + j) ≡ true → j < m → test (unwrap_or (find test (range_with_len a m)) 0) ≡ true
find-passes test a j zero passes short = absurd (omega arith)
find-passes test a zero (suc m) passes short =
    let here : a + 0 ≡ a = omega arith in
    let is : test a ≡ true = ap test (sym here) ∙ passes in
    ap (λ b. test (unwrap_or (cond b (Some a) (find test (range_with_len (a + 1) m))) 0)) is ∙ is
find-passes test a (suc j) (suc m) passes short =
    let there : a + suc j ≡ a + 1 + j = omega arith in
    found-either test a m (test a) refl (find-passes test (a + 1) j m (ap test (sym there) ∙ passes) (omega arith))

-- the rise is enough
pub rise-enough : (pitch : ℕ) → pitch * pitch ≤ rise_of pitch * rise_of pitch + 2 * (pitch / 2 * (pitch / 2))
unfolding rise_of
rise-enough pitch =
    let x = pitch * pitch - 2 * (pitch / 2 * (pitch / 2)) in
    let test = λ (p : ℕ). nat_le x (p * p) in
    let whole : 0 + pitch ≡ pitch = omega arith in
    let found = find-passes test 0 pitch (pitch + 1) (ap test whole ∙ le-leb x (pitch * pitch) (omega arith)) (omega arith) in
    let p = unwrap_or (find test (range_with_len 0 (pitch + 1))) 0 in
    let enough : x ≤ p * p =
    ⊎_elim (λ (less : p * p < x). absurd (false≢true (sym (lt-leb x (p * p) less) ∙ found))) (λ (le : x ≤ p * p). le) (cases_lt (p * p) x) in
    omega (arith, enough)

-- two rises are a pitch
pub two-rises : (pitch : ℕ) → pitch ≤ 2 * rise_of pitch
two-rises pitch =
    let r = rise_of pitch in
    let h = pitch / 2 in
    let half : 2 * h ≤ pitch = omega arith in
    let square = mul-le (2 * h) (2 * h) pitch pitch half half in
    let twice : 2 * h * (2 * h) ≡ 4 * (h * h) = grind arith in
    let enough = rise-enough pitch in
    ⊎_elim
    (λ (short : 2 * r < pitch).
    let less = mul-le (2 * r) (2 * r) (pitch - 1) pitch (omega arith) (omega arith) in
    let four : 2 * r * (2 * r) ≡ 4 * (r * r) = grind arith in
    let one : (pitch - 1) * pitch + pitch ≡ pitch * pitch = let is : pitch ≡ pitch - 1 + 1 = omega arith in grind arith in
    absurd (omega (arith, less, four, one, square, twice, enough, short)))
    (λ (le : pitch ≤ 2 * r). le)
    (cases_lt (2 * r) pitch)

-- ---- cells

-- what holds of each two cells of a layer, and of each two of two layers, holds of each two cells
pub cell-pairs : (R : Vec3 → Vec3 → Type 0) (l : Lattice) (region : Region)
    → ((k j i m : ℕ) → i < m → R (grid_cell l region k j i) (grid_cell l region k j m))
    → ((k j n i m : ℕ) → j < n → R (grid_cell l region k j i) (grid_cell l region k n m))
    → ((k h j n i m : ℕ) → k < h → R (grid_cell l region k j i) (grid_cell l region h n m))
    → AllPairs R (cells_of l region)
unfolding cells_of
cell-pairs R l region in-row in-layer in-two =
    let row = λ (k j : ℕ). map (grid_cell l region k j) (range_with_len 0 (columns_of l region k)) in
    AllPairs-rows R (layer_of l region) (layer_count l region)
    (λ k layer. subst (λ xs. AllPairs R xs) (sym (layer-rows l region k))
    (AllPairs-rows R (row k) (rows_of l region k)
    (λ j lt. AllPairs-range R (grid_cell l region k j) (columns_of l region k) (λ i m before last. in-row k j i m before))
    (λ j n before last. All-range (λ x. All (λ y. R x y) (row k n)) (grid_cell l region k j) (columns_of l region k)
    (λ i lt. All-range (R (grid_cell l region k j i)) (grid_cell l region k n) (columns_of l region k) (λ m least. in-layer k j n i m before)))))
    (λ k h before last.
    subst (λ xs. All (λ x. All (λ y. R x y) (layer_of l region h)) xs) (sym (layer-rows l region k))
    (All-rows (λ x. All (λ y. R x y) (layer_of l region h)) (row k) (rows_of l region k)
    (λ j lt. All-range (λ x. All (λ y. R x y) (layer_of l region h)) (grid_cell l region k j) (columns_of l region k)
    (λ i least. subst (λ ys. All (R (grid_cell l region k j i)) ys) (sym (layer-rows l region h))
    (All-rows (R (grid_cell l region k j i)) (row h) (rows_of l region h)
    (λ n few. All-range (R (grid_cell l region k j i)) (grid_cell l region h n) (columns_of l region h) (λ m less. in-two k h j n i m before)))))))

module _ (l : Lattice) (region : Region) where
  split-row : (k j i m : ℕ) → i < m → AreSplit l.pitch (grid_cell l region k j i) (grid_cell l region k j m)
  unfolding grid_cell
  split-row k j i m before = inl (steps-apart l.extent l.pitch (region.x.low + shift_at l k) i m before)

  split-layer : (k j n i m : ℕ) → j < n → AreSplit l.pitch (grid_cell l region k j i) (grid_cell l region k n m)
  unfolding grid_cell
  split-layer k j n i m before = inr (inl (steps-apart l.extent l.pitch (region.y.low + shift_at l k) j n before))

  split-two : (k h j n i m : ℕ) → k < h → AreSplit l.rise (grid_cell l region k j i) (grid_cell l region h n m)
  unfolding grid_cell
  split-two k h j n i m before = inr (inr (steps-apart l.extent l.rise region.z.low k h before))

  split-later : (k h j n i m : ℕ) → k + 2 ≤ h → AreSplit (2 * l.rise) (grid_cell l region k j i) (grid_cell l region h n m)
  unfolding grid_cell
  split-later k h j n i m before = inr (inr (layers-apart l.extent l.rise region.z.low k h before))

-- cells of a grid are a pitch apart on some axis
pub grid-split : (extent gap : ℕ) (region : Region) → AllPairs (AreSplit (pitch_of extent gap)) (cells_of (grid extent gap) region)
unfolding grid
grid-split extent gap region =
    let l = grid extent gap in
    cell-pairs (AreSplit (pitch_of extent gap)) l region (split-row l region) (split-layer l region) (split-two l region)

-- what is so far apart on some axis is so in length
pub split-far : (d : ℕ) (p q : Vec3) → AreSplit d p q → AreFar d p q
unfolding norm2_of
split-far d p q apart =
    let x = unsigned_abs (p.x -ℤ q.x) in
    let y = unsigned_abs (p.y -ℤ q.y) in
    let z = unsigned_abs (p.z -ℤ q.z) in
    ⊎_elim
    (λ (h : d ≤ x). let more = mul-le d d x x h h in omega (arith, more))
    (λ (other : (d ≤ y) ⊎ (d ≤ z)). ⊎_elim
    (λ (h : d ≤ y). let more = mul-le d d y y h h in omega (arith, more))
    (λ (h : d ≤ z). let more = mul-le d d z z h h in omega (arith, more))
    other)
    apart

-- what is farther apart on an axis
split-less : (d e : ℕ) (p q : Vec3) → d ≤ e → AreSplit e p q → AreSplit d p q
split-less d e p q le apart =
    ⊎_elim
    (λ (h : e ≤ unsigned_abs (p.x -ℤ q.x)). inl (omega arith))
    (λ (other : (e ≤ unsigned_abs (p.y -ℤ q.y)) ⊎ (e ≤ unsigned_abs (p.z -ℤ q.z))). inr (⊎_elim
    (λ (h : e ≤ unsigned_abs (p.y -ℤ q.y)). inl (omega arith))
    (λ (h : e ≤ unsigned_abs (p.z -ℤ q.z)). inr (omega arith))
    other))
    apart

-- one of two layers next to each other is shifted
abbrev pub OneShifted : (half a b : ℕ) → Type 0
OneShifted half a b = ((a ≡ 0) × (b ≡ half)) ⊎ ((a ≡ half) × (b ≡ 0))

-- places of two layers next to each other
half-apart : (extent pitch low half a b i j : ℕ) → 2 * half ≤ pitch → OneShifted half a b
    → half ≤ unsigned_abs (pos (place_at extent pitch (low + a) i) -ℤ pos (place_at extent pitch (low + b) j))
unfolding place_at
half-apart extent pitch low half a b i j most one =
    let first = shift-apart (low + extent) half pitch i j most in
    let second = turned-round (low + extent + j * pitch) (low + extent + half + i * pitch) half (shift-apart (low + extent) half pitch j i most) in
    ⊎_elim
    (λ (h : (a ≡ 0) × (b ≡ half)).
    let left : low + extent + i * pitch ≡ low + a + extent + i * pitch = omega (arith, h.0) in
    let right : low + extent + half + j * pitch ≡ low + b + extent + j * pitch = omega (arith, h.1) in
    subst (λ u. half ≤ unsigned_abs (pos u -ℤ pos (low + b + extent + j * pitch))) left (subst (λ v. half ≤ unsigned_abs (pos (low + extent + i * pitch) -ℤ pos v)) right first))
    (λ (h : (a ≡ half) × (b ≡ 0)).
    let left : low + extent + half + i * pitch ≡ low + a + extent + i * pitch = omega (arith, h.0) in
    let right : low + extent + j * pitch ≡ low + b + extent + j * pitch = omega (arith, h.1) in
    subst (λ u. half ≤ unsigned_abs (pos u -ℤ pos (low + b + extent + j * pitch))) left (subst (λ v. half ≤ unsigned_abs (pos (low + extent + half + i * pitch) -ℤ pos v)) right second))
    one

-- layers next to each other are shifted by turns
next-shift : (l : Lattice) (k : ℕ) → OneShifted l.shift (shift_at l k) (shift_at l (k + 1))
unfolding shift_at
next-shift l k =
    ⊎_elim
    (λ (even : k % 2 < 1).
    let this : k % 2 ≡ 0 = omega arith in
    let next : (k + 1) % 2 ≡ 1 = omega arith in
    inl (ap (λ n. if n == 0 then 0 else l.shift) this, ap (λ n. if n == 0 then 0 else l.shift) next))
    (λ (odd : 1 ≤ k % 2).
    let this : k % 2 ≡ 1 = omega arith in
    let next : (k + 1) % 2 ≡ 0 = omega arith in
    inr (ap (λ n. if n == 0 then 0 else l.shift) this, ap (λ n. if n == 0 then 0 else l.shift) next))
    (cases_lt (k % 2) 1)

-- the length of a difference by its axes
norm-from : (p q : Vec3) (d half rise : ℕ) → d * d ≤ rise * rise + 2 * (half * half)
    → half ≤ unsigned_abs (p.x -ℤ q.x) → half ≤ unsigned_abs (p.y -ℤ q.y) → rise ≤ unsigned_abs (p.z -ℤ q.z) → AreFar d p q
unfolding norm2_of
norm-from p q d half rise enough x y z =
    let a = mul-le half half (unsigned_abs (p.x -ℤ q.x)) (unsigned_abs (p.x -ℤ q.x)) x x in
    let b = mul-le half half (unsigned_abs (p.y -ℤ q.y)) (unsigned_abs (p.y -ℤ q.y)) y y in
    let c = mul-le rise rise (unsigned_abs (p.z -ℤ q.z)) (unsigned_abs (p.z -ℤ q.z)) z z in
    omega (arith, enough, a, b, c)

-- cells of layers next to each other
next-far : (extent gap : ℕ) (region : Region) (k j n i m : ℕ) → AreFar (pitch_of extent gap) (grid_cell (staggered extent gap) region k j i) (grid_cell (staggered extent gap) region (k + 1) n m)
unfolding grid_cell staggered
next-far extent gap region k j n i m =
    let l = staggered extent gap in
    let pitch = pitch_of extent gap in
    let half : 2 * (pitch / 2) ≤ pitch = omega arith in
    norm-from (grid_cell l region k j i) (grid_cell l region (k + 1) n m) pitch (pitch / 2) (rise_of pitch) (rise-enough pitch)
    (half-apart extent pitch region.x.low (pitch / 2) (shift_at l k) (shift_at l (k + 1)) i m half (next-shift l k))
    (half-apart extent pitch region.y.low (pitch / 2) (shift_at l k) (shift_at l (k + 1)) j n half (next-shift l k))
    (steps-apart extent (rise_of pitch) region.z.low k (k + 1) (omega arith))

-- cells of layers that aren't next to each other
later-split : (extent gap : ℕ) (region : Region) (k h j n i m : ℕ) → k + 2 ≤ h
    → AreSplit (2 * rise_of (pitch_of extent gap)) (grid_cell (staggered extent gap) region k j i) (grid_cell (staggered extent gap) region h n m)
unfolding staggered
later-split extent gap region k h j n i m later = split-later (staggered extent gap) region k h j n i m later

two-far : (extent gap : ℕ) (region : Region) (k h j n i m : ℕ) → k < h → AreFar (pitch_of extent gap) (grid_cell (staggered extent gap) region k j i) (grid_cell (staggered extent gap) region h n m)
two-far extent gap region k h j n i m before =
    let l = staggered extent gap in
    let pitch = pitch_of extent gap in
    ⊎_elim
    (λ (next : h < k + 2).
    let is : k + 1 ≡ h = omega arith in
    subst (λ g. AreFar pitch (grid_cell l region k j i) (grid_cell l region g n m)) is (next-far extent gap region k j n i m))
    (λ (later : k + 2 ≤ h).
    split-far pitch (grid_cell l region k j i) (grid_cell l region h n m)
    (split-less pitch (2 * rise_of pitch) (grid_cell l region k j i) (grid_cell l region h n m) (two-rises pitch) (later-split extent gap region k h j n i m later)))
    (cases_lt h (k + 2))

-- cells of staggered layers are a pitch apart in length
pub staggered-far : (extent gap : ℕ) (region : Region) → AllPairs (AreFar (pitch_of extent gap)) (cells_of (staggered extent gap) region)
unfolding staggered
staggered-far extent gap region =
    let l = staggered extent gap in
    let pitch = pitch_of extent gap in
    cell-pairs (AreFar pitch) l region
    (λ k j i m before. split-far pitch (grid_cell l region k j i) (grid_cell l region k j m) (split-row l region k j i m before))
    (λ k j n i m before. split-far pitch (grid_cell l region k j i) (grid_cell l region k n m) (split-layer l region k j n i m before))
    (λ k h j n i m before. two-far extent gap region k h j n i m before)
