-- A place in the largest box comes back from its stored form.
use Rattle.std.proofs.Common.{◌≡◌, ℕ, ℤ, pos, negsuc, ◌+◌, ◌*◌, ◌/◌, ◌%◌, ◌^◌, ◌<◌, ◌≤◌, Bool, true, false, ◌&&◌, ap, ◌∙◌, arith, refl, to_z, of_z, w64}
use Rattle.std.specs.Prelude.{not, int_lt}
use Rattle.std.proofs.lemmas.Bool.{and_parts, ltb-true, lt-ltb}
use Rattle.std.proofs.lemmas.Int.{to_z-of_z}
use Rattle.std.proofs.lemmas.Nat.{div-add-mod'}
use Rattle.dem_num.specs.Numbers.{AtMost}
use Rattle.dem_num.specs.declared.vector.Wide3.{Wide3}
use Rattle.dem_model.specs.Position.{in_voxels, voxel_of, voxel_offset_of}
use Rattle.dem_model.specs.declared.limits.TheConstants.{MAX_VOXELS, VOXEL}
use Rattle.dem_voxel.specs.Voxel.{packed, unpacked, component_at, is_packable, in_box_of, voxel_id}
use Rattle.dem_voxel.specs.declared.position.VoxelPos.{VoxelPos}
use Rattle.dem_voxel.specs.declared.position.TheConstants.{ROW, LAYER}

-- each component lies in a box
pub record AreIn (nx ny nz : ℕ) (p : Wide3) : Type 0 where
  pub x : in_voxels nx p.x ≡ true
  pub y : in_voxels ny p.y ≡ true
  pub z : in_voxels nz p.z ≡ true

-- where a place lies in a box, each component does
pub are_in : (nx ny nz : ℕ) (p : Wide3) → in_box_of nx ny nz p ≡ true → AreIn nx ny nz p
unfolding in_box_of
are_in nx ny nz p h =
    let first = and_parts (in_voxels nx p.x && in_voxels ny p.y) (in_voxels nz p.z) h in
    let second = and_parts (in_voxels nx p.x) (in_voxels ny p.y) first.0 in
    record { x = second.0; y = second.1; z = first.1 }

-- where each component lies in a box, the place does
pub in_box_from : (nx ny nz : ℕ) (p : Wide3) → AreIn nx ny nz p → in_box_of nx ny nz p ≡ true
unfolding in_box_of
in_box_from nx ny nz p h = cc (h.x, h.y, h.z)

-- both of two
both : (x y : Bool) → x ≡ true → y ≡ true → (x && y) ≡ true
both x y f g = rw (f, g) refl

-- a component in a smaller box is in the largest
in_largest : (n : ℕ) (z : ℤ) → n ≤ MAX_VOXELS → in_voxels n z ≡ true → in_voxels MAX_VOXELS z ≡ true
unfolding in_voxels
in_largest n (pos m) small h =
    let below : m < n * VOXEL = ltb-true m (n * VOXEL) (and_parts (not (int_lt (pos m) (pos 0))) (int_lt (pos m) (pos (n * VOXEL))) h).1 in
    let parts = and_parts (not (int_lt (pos m) (pos 0))) (int_lt (pos m) (pos (n * VOXEL))) h in
    let top : int_lt (pos m) (pos (MAX_VOXELS * VOXEL)) ≡ true = lt-ltb m (MAX_VOXELS * VOXEL) (omega arith) in
    both (not (int_lt (pos m) (pos 0))) (int_lt (pos m) (pos (MAX_VOXELS * VOXEL))) parts.0 top
in_largest n (negsuc m) small h = h

-- a place in a box is in the largest
pub is_packable_in : (nx ny nz : ℕ) (p : Wide3) → nx ≤ MAX_VOXELS → ny ≤ MAX_VOXELS → nz ≤ MAX_VOXELS → in_box_of nx ny nz p ≡ true → is_packable p ≡ true
is_packable_in nx ny nz p x y z h =
    let each = are_in nx ny nz p h in
    in_box_from MAX_VOXELS MAX_VOXELS MAX_VOXELS p (record { x = in_largest nx p.x x each.x; y = in_largest ny p.y y each.y; z = in_largest nz p.z z each.z })

-- a component lies at its offset past its voxel's beginning
component_back : (x : ℤ) → in_voxels MAX_VOXELS x ≡ true → component_at (voxel_of x) (voxel_offset_of x) ≡ x
unfolding in_voxels component_at voxel_of voxel_offset_of
component_back (pos m) h = ap pos (div-add-mod' m VOXEL)
component_back (negsuc m) h = let no : false ≡ true = h in cc

-- a component's voxel is below the greatest number of voxels
voxel_small : (x : ℤ) → in_voxels MAX_VOXELS x ≡ true → voxel_of x < MAX_VOXELS
unfolding in_voxels voxel_of
voxel_small (pos m) h =
    let below : m < MAX_VOXELS * VOXEL = ltb-true m (MAX_VOXELS * VOXEL) (and_parts (not (int_lt (pos m) (pos 0))) (int_lt (pos m) (pos (MAX_VOXELS * VOXEL))) h).1 in
    omega (arith, div-add-mod' m VOXEL)
voxel_small (negsuc m) h = let no : false ≡ true = h in cc

-- the voxel's number along each axis, from its number
id_x : (a b c : ℕ) → a < MAX_VOXELS → voxel_id a b c % ROW ≡ a
unfolding voxel_id
id_x a b c lt = omega arith

id_y : (a b c : ℕ) → a < MAX_VOXELS → b < MAX_VOXELS → voxel_id a b c / ROW % ROW ≡ b
unfolding voxel_id
id_y a b c lt lt' = omega arith

id_z : (a b c : ℕ) → a < MAX_VOXELS → b < MAX_VOXELS → voxel_id a b c / LAYER ≡ c
unfolding voxel_id
id_z a b c lt lt' = omega arith

-- a place in the largest box comes back
pub unpacked_packed : (p : Wide3) → is_packable p ≡ true → unpacked (packed p) ≡ p
unfolding packed
unpacked_packed p h =
    let each = are_in MAX_VOXELS MAX_VOXELS MAX_VOXELS p h in
    let small_x = voxel_small p.x each.x in
    let small_y = voxel_small p.y each.y in
    let x : component_at (voxel_id (voxel_of p.x) (voxel_of p.y) (voxel_of p.z) % ROW) (voxel_offset_of p.x) ≡ p.x =
    ap (λ n. component_at n (voxel_offset_of p.x)) (id_x (voxel_of p.x) (voxel_of p.y) (voxel_of p.z) small_x) ∙ component_back p.x each.x in
    let y : component_at (voxel_id (voxel_of p.x) (voxel_of p.y) (voxel_of p.z) / ROW % ROW) (voxel_offset_of p.y) ≡ p.y =
    ap (λ n. component_at n (voxel_offset_of p.y)) (id_y (voxel_of p.x) (voxel_of p.y) (voxel_of p.z) small_x small_y) ∙ component_back p.y each.y in
    let z : component_at (voxel_id (voxel_of p.x) (voxel_of p.y) (voxel_of p.z) / LAYER) (voxel_offset_of p.z) ≡ p.z =
    ap (λ n. component_at n (voxel_offset_of p.z)) (id_z (voxel_of p.x) (voxel_of p.y) (voxel_of p.z) small_x small_y) ∙ component_back p.z each.z in
    rw (x, y, z) refl

-- a component in the largest box keeps its value in 64 bits
pub stays : (x : ℤ) → in_voxels MAX_VOXELS x ≡ true → to_z w64 (of_z w64 x) ≡ x
unfolding in_voxels
stays (pos m) h =
    let below : m < MAX_VOXELS * VOXEL = ltb-true m (MAX_VOXELS * VOXEL) (and_parts (not (int_lt (pos m) (pos 0))) (int_lt (pos m) (pos (MAX_VOXELS * VOXEL))) h).1 in
    to_z-of_z w64 (pos m) (omega arith)
stays (negsuc m) h = let no : false ≡ true = h in cc

-- the stored form of a place, from its parts
pub packed_from : (p : Wide3) (a b c ox oy oz : ℕ) → a ≡ voxel_of p.x → b ≡ voxel_of p.y → c ≡ voxel_of p.z →
    ox ≡ voxel_offset_of p.x → oy ≡ voxel_offset_of p.y → oz ≡ voxel_offset_of p.z →
    packed p ≡ record { id = a + b * ROW + c * LAYER; ox = ox; oy = oy; oz = oz }
unfolding packed voxel_id
packed_from p a b c ox oy oz x y z u v w = rw (x, y, z, u, v, w) refl

-- the voxel of a component and its offset there
voxel_back : (n o : ℕ) → o < VOXEL → voxel_of (component_at n o) ≡ n
unfolding voxel_of component_at
voxel_back n o lt = omega arith

offset_back : (n o : ℕ) → o < VOXEL → voxel_offset_of (component_at n o) ≡ o
unfolding voxel_offset_of component_at
offset_back n o lt = omega arith

-- a voxel's number comes back from its numbers along the axes
id_back : (id : ℕ) → voxel_id (id % ROW) (id / ROW % ROW) (id / LAYER) ≡ id
unfolding voxel_id
id_back id = omega arith

-- a stored form comes back from its place
pub packed_unpacked : (v : VoxelPos) → v.ox < VOXEL → v.oy < VOXEL → v.oz < VOXEL → packed (unpacked v) ≡ v
unfolding packed
packed_unpacked v x y z =
    let number : voxel_id (voxel_of (component_at (v.id % ROW) v.ox)) (voxel_of (component_at (v.id / ROW % ROW) v.oy)) (voxel_of (component_at (v.id / LAYER) v.oz)) ≡ v.id =
    rw (voxel_back (v.id % ROW) v.ox x, voxel_back (v.id / ROW % ROW) v.oy y, voxel_back (v.id / LAYER) v.oz z) (id_back v.id) in
    rw (number, offset_back (v.id % ROW) v.ox x, offset_back (v.id / ROW % ROW) v.oy y, offset_back (v.id / LAYER) v.oz z) refl

-- a small component keeps its value in 64 bits
keeps : (x : ℤ) → AtMost x (2 ^ 40) → to_z w64 (of_z w64 x) ≡ x
keeps (pos m) h = let small : m ≤ 2 ^ 40 = h in to_z-of_z w64 (pos m) (omega arith)
keeps (negsuc m) h = let small : m + 1 ≤ 2 ^ 40 = omega (arith, h) in to_z-of_z w64 (negsuc m) (omega arith)

-- a place from its components, each kept in 64 bits
pub unpacked_from : (v : VoxelPos) (x y z : ℤ) → x ≡ component_at (v.id % ROW) v.ox → y ≡ component_at (v.id / ROW % ROW) v.oy → z ≡ component_at (v.id / LAYER) v.oz →
    AtMost x (2 ^ 40) → AtMost y (2 ^ 40) → AtMost z (2 ^ 40) →
    unpacked v ≡ record { x = to_z w64 (of_z w64 x); y = to_z w64 (of_z w64 y); z = to_z w64 (of_z w64 z) }
unpacked_from v x y z f g h k l m = rw (keeps x k, keeps y l, keeps z m, f, g, h) refl
