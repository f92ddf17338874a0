-- What touches a facet after moving was near it before: the box alone says so.
use Rattle.std.proofs.Common.{◌≡◌, ℕ, ◌+◌, ◌≤◌, arith, ℤ, pos, ◌+ℤ◌, ◌-ℤ◌, ◌≤ℤ◌, unsigned_abs, true, false, true≢false, Bool, Option, None, ◌&&◌, sym, if◌then◌else◌}
use Rattle.std.specs.Prelude.{int_le, is_some}
use Rattle.std.proofs.lemmas.Int.{ints}
use Rattle.std.proofs.lemmas.Bool.{and_parts, and_from}
use Rattle.dem_num.specs.declared.vector.Vec3.{Vec3}
use Rattle.dem_num.specs.Vectors.{widened, difference_of, Within}
use Rattle.dem_model.specs.Facet.{least_of, greatest_of, is_beside, facet_reaches, facet_near, facet_touch}
use Rattle.dem_facet.proofs.CloseFacts.{reach_parts}

pub le_from : (x y : ℤ) → int_le x y ≡ true → x ≤ℤ y
le_from x y h = grind (arith, ints)

pub le_to : (x y : ℤ) → x ≤ℤ y → int_le x y ≡ true
le_to x y h = grind (arith, ints)

lower_moved : (l v w : ℤ) (r extra : ℕ) → unsigned_abs (w -ℤ v) ≤ extra → (l -ℤ pos r) ≤ℤ w → (l -ℤ pos (r + extra)) ≤ℤ v
lower_moved l v w r extra m h = omega (arith, ints)

upper_moved : (g v w : ℤ) (r extra : ℕ) → unsigned_abs (w -ℤ v) ≤ extra → w ≤ℤ (g +ℤ pos r) → v ≤ℤ (g +ℤ pos (r + extra))
upper_moved g v w r extra m h = omega (arith, ints)

-- what is beside three numbers after moving was beside them before, within a reach that is longer by so much
beside_before : (x y z v w : ℤ) (r extra : ℕ) → unsigned_abs (w -ℤ v) ≤ extra → is_beside x y z r w ≡ true → is_beside x y z (r + extra) v ≡ true
unfolding is_beside
beside_before x y z v w r extra m h =
    let both = and_parts (int_le (least_of x y z -ℤ pos r) w) (int_le w (greatest_of x y z +ℤ pos r)) h in
    and_from (int_le (least_of x y z -ℤ pos (r + extra)) v) (int_le v (greatest_of x y z +ℤ pos (r + extra)))
    (le_to (least_of x y z -ℤ pos (r + extra)) v (lower_moved (least_of x y z) v w r extra m (le_from (least_of x y z -ℤ pos r) w both.0)))
    (le_to v (greatest_of x y z +ℤ pos (r + extra)) (upper_moved (greatest_of x y z) v w r extra m (le_from w (greatest_of x y z +ℤ pos r) both.1)))

-- a place within reach after moving was within a longer reach before
reaches_before : (a b c now from : Vec3) (r extra : ℕ) → Within (difference_of (widened now) (widened from)) extra → facet_reaches a b c now r ≡ true → facet_reaches a b c from (r + extra) ≡ true
unfolding facet_reaches
reaches_before a b c now from r extra m h =
    let p = reach_parts a b c now r h in
    let x = beside_before a.x b.x c.x from.x now.x r extra m.x p.0 in
    let y = beside_before a.y b.y c.y from.y now.y r extra m.y p.1 in
    let z = beside_before a.z b.z c.z from.z now.z r extra m.z p.2 in
    and_from (is_beside a.x b.x c.x (r + extra) from.x && is_beside a.y b.y c.y (r + extra) from.y) (is_beside a.z b.z c.z (r + extra) from.z)
    (and_from (is_beside a.x b.x c.x (r + extra) from.x) (is_beside a.y b.y c.y (r + extra) from.y) x y)
    z

if_some : {X : Type 0} (t : Bool) (o : Option X) → is_some (if t then o else None) ≡ true → t ≡ true
if_some true o h = λ i. true
if_some false o h = absurd (true≢false (sym h))

-- what touches after moving was near before
pub covers : (a b c now from : Vec3) (r extra : ℕ) → Within (difference_of (widened now) (widened from)) extra → is_some (facet_touch a b c now r) ≡ true → facet_near a b c from r extra ≡ true
unfolding facet_touch facet_near
covers a b c now from r extra m h = reaches_before a b c now from r extra m (if_some (facet_reaches a b c now r) _ h)
