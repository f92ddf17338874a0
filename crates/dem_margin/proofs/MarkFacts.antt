-- A pair that may not touch doesn't, at centers to which no sphere has moved farther than it may.
use Rattle.std.proofs.Common.{◌≡◌, ℕ, ◌+◌, ◌-◌, ◌*◌, ◌≤◌, arith, ℤ, ◌-ℤ◌, unsigned_abs, true, false, Bool, List, length, inl, inr, Option, Some, None, refl, sym, ◌∙◌}
use Rattle.std.specs.Prelude.{nat_lt, is_some}
use Rattle.std.proofs.lemmas.Bool.{cases_lt, lt-ltb, le-ltb}
use Rattle.std.proofs.lemmas.Int.{ints}
use Rattle.std.proofs.lemmas.Nat.{mul-le}
use Rattle.dem_num.specs.declared.vector.Vec3.{Vec3}
use Rattle.dem_num.specs.Vectors.{widened, difference_of, norm2_of, Within}
use Rattle.dem_model.specs.SceneValue.{SceneValue}
use Rattle.dem_model.specs.Centers.{center_at, touch_of}
use Rattle.dem_model.specs.Motion.{IsPair}
use Rattle.dem_model.specs.Near.{drift_of, HasDrifted}
use Rattle.dem_model.specs.Pairs.{sphere_count, sphere_at, wall_at}
use Rattle.dem_model.specs.Sound.{IsSound}
use Rattle.dem_model.specs.Touch.{spheres_touch}
use Rattle.dem_model.specs.declared.state.Pair.{Pair}
use Rattle.dem_margin.proofs.CoverFacts.{wall_at-sound}
use Rattle.dem_margin.proofs.TouchFacts.{wall_covers}
use Rattle.dem_margin.specs.Marks.{left_of, spheres_may, may_touch}

-- what is left of a distance is no more than the distance later
left_le : (na nb fa fb : ℤ) (da db : ℕ) → unsigned_abs (na -ℤ fa) ≤ da → unsigned_abs (nb -ℤ fb) ≤ db → unsigned_abs (fa -ℤ fb) - (da + db) ≤ unsigned_abs (na -ℤ nb)
left_le na nb fa fb da db a b = omega (arith, ints)

-- and so are the squares
left_of_le : (na nb fa fb : ℤ) (da db : ℕ) → unsigned_abs (na -ℤ fa) ≤ da → unsigned_abs (nb -ℤ fb) ≤ db → left_of (fa -ℤ fb) (da + db) ≤ unsigned_abs (na -ℤ nb) * unsigned_abs (na -ℤ nb)
unfolding left_of
left_of_le na nb fa fb da db a b =
    let le : unsigned_abs (fa -ℤ fb) - (da + db) ≤ unsigned_abs (na -ℤ nb) = left_le na nb fa fb da db a b in
    mul-le (unsigned_abs (fa -ℤ fb) - (da + db)) (unsigned_abs (fa -ℤ fb) - (da + db)) (unsigned_abs (na -ℤ nb)) (unsigned_abs (na -ℤ nb)) le le

-- a number that is no greater than one that isn't below a bound
not_below : (a b m : ℕ) → a ≤ b → nat_lt a m ≡ false → nat_lt b m ≡ false
not_below a b m le far = elim (cases_lt a m) [
  | inl l ↦ let near : nat_lt a m ≡ true = lt-ltb a m l in absurd (cc)
  | inr g ↦ le-ltb b m (omega arith)
]

-- two spheres that may not touch don't
spheres_part : (na nb fa fb : Vec3) (radii da db : ℕ) →
    Within (difference_of (widened na) (widened fa)) da → Within (difference_of (widened nb) (widened fb)) db →
    spheres_may (difference_of (widened fa) (widened fb)) (da + db) radii ≡ false →
    spheres_touch (difference_of (widened na) (widened nb)) radii ≡ None
unfolding spheres_may spheres_touch norm2_of
spheres_part na nb fa fb radii da db a b far =
    let x : left_of (fa.x -ℤ fb.x) (da + db) ≤ unsigned_abs (na.x -ℤ nb.x) * unsigned_abs (na.x -ℤ nb.x) = left_of_le na.x nb.x fa.x fb.x da db a.x b.x in
    let y : left_of (fa.y -ℤ fb.y) (da + db) ≤ unsigned_abs (na.y -ℤ nb.y) * unsigned_abs (na.y -ℤ nb.y) = left_of_le na.y nb.y fa.y fb.y da db a.y b.y in
    let z : left_of (fa.z -ℤ fb.z) (da + db) ≤ unsigned_abs (na.z -ℤ nb.z) * unsigned_abs (na.z -ℤ nb.z) = left_of_le na.z nb.z fa.z fb.z da db a.z b.z in
    let apart : nat_lt (unsigned_abs (na.x -ℤ nb.x) * unsigned_abs (na.x -ℤ nb.x) + unsigned_abs (na.y -ℤ nb.y) * unsigned_abs (na.y -ℤ nb.y) + unsigned_abs (na.z -ℤ nb.z) * unsigned_abs (na.z -ℤ nb.z)) (radii * radii) ≡ false =
    not_below (left_of (fa.x -ℤ fb.x) (da + db) + left_of (fa.y -ℤ fb.y) (da + db) + left_of (fa.z -ℤ fb.z) (da + db)) _ (radii * radii) (omega (arith, x, y, z)) far in
    rw apart refl

none_from : {X : Type 0} (o : Option X) (b : Bool) → (is_some o ≡ true → b ≡ true) → b ≡ false → o ≡ None
none_from None b near far = refl
none_from (Some x) b near far = let no : true ≡ false = sym (near refl) ∙ far in absurd (cc)

-- a pair that may not touch within so many steps doesn't, at centers to which no sphere has moved farther than it may in them
pub parted : (s : SceneValue) (steps : ℕ) (from now : List Vec3) (p : Pair) → IsSound s → HasDrifted s steps from now → IsPair s p → may_touch s steps from p ≡ false → touch_of s now p ≡ None
unfolding may_touch touch_of
parted s steps from now p sound moved is_pair = elim (cases_lt p.b (sphere_count s)) [
  | inl l ↦ rw (lt-ltb p.b (sphere_count s) l) (spheres_part (center_at now p.a) (center_at now p.b) (center_at from p.a) (center_at from p.b) ((sphere_at s p.a).ball.r + (sphere_at s p.b).ball.r) (drift_of s steps p.a) (drift_of s steps p.b) (moved.each p.a is_pair.first) (moved.each p.b l))
  | inr g ↦ rw (le-ltb p.b (sphere_count s) g) (none_from _ _ (wall_covers (length s.materials) s.templates (wall_at s p.b) (center_at now p.a) (center_at from p.a) (sphere_at s p.a).ball.r (drift_of s steps p.a) (wall_at-sound s p.b sound g is_pair.second) (moved.each p.a is_pair.first)))
]
