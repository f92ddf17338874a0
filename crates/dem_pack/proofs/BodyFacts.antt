-- Stands in a region of the box are sound clumps, and a scene can have those of an answer.
use Rattle.std.proofs.Common.{◌≡◌, ℕ, zero, suc, ◌+◌, ◌*◌, ◌^◌, ◌<◌, ◌≤◌, ℤ, pos, List, [], ◌∷◌, map, take, get_or, length, length-append, true, sym, ap, ◌∙◌, subst, arith}
use Rattle.std.specs.Prelude.{All, IsTrue, ◌+ℤ◌, ◌-ℤ◌, ◌≤ℤ◌, ◌<ℤ◌, unsigned_abs}
use Rattle.std.proofs.lemmas.Int.{ints}
use Rattle.std.proofs.lemmas.List.{length-map, length-take-le}
use Rattle.std.proofs.lemmas.List.Elements.{All-head, All-map, All-tail, All-weaker}
use Rattle.dem_num.specs.declared.vector.Vec3.{Vec3}
use Rattle.dem_num.specs.declared.vector.Wide3.{Wide3}
use Rattle.dem_num.specs.Rotations.{quat_norm2_of}
use Rattle.dem_num.specs.Vectors.{widened, no_vector, Within}
use Rattle.dem_model.specs.SceneValue.{SceneValue}
use Rattle.dem_model.specs.Cells.{cells_of, extent_of, reach_of, region_between}
use Rattle.dem_model.specs.Centers.{still_body}
use Rattle.dem_model.specs.Packing.{LiesBetween, center_in, first_stands, stand_at}
use Rattle.dem_model.specs.Position.{in_box}
use Rattle.dem_model.specs.Sound.{IsBall, IsBetween, IsClump, IsFrom, IsSound, IsTemplate}
use Rattle.dem_model.specs.Spheres.{balls_of, spheres_from, spheres_of, spheres_of_clump, sphere_of}
use Rattle.dem_model.specs.Stands.{CanStand, standing, with_stands}
use Rattle.dem_model.specs.declared.limits.TheConstants.{MAX_BALLS, MAX_CLUMPS, MAX_SPHERES, MIN_NORM2, MAX_NORM2}
use Rattle.dem_model.specs.declared.shape.Ball.{Ball}
use Rattle.dem_model.specs.declared.shape.Template.{Template}
use Rattle.dem_model.specs.declared.state.Stand.{Stand}
use Rattle.dem_pack.specs.Asks.{IsAsk, fits_box}
use Rattle.dem_pack.specs.Layouts.{IsSized}
use Rattle.dem_pack.specs.declared.ask.Ask.{Ask}
use Rattle.dem_pack.proofs.AnswerFacts.{IsAnswered, lattice_for}
use Rattle.dem_pack.proofs.CanFacts.{deep, in_box-from, stands-count}
use Rattle.dem_pack.proofs.ExtentFacts.{extent-bounds}
use Rattle.dem_pack.proofs.InsideFacts.{IsDeep, IsDeepCell, lies-between}

-- ---- templates

-- a template's spheres: some, not too many, and sized
pub record IsUsable (balls : List Ball) : Type 0 where
  pub some : 1 ≤ length balls
  pub few : length balls ≤ MAX_BALLS
  pub sized : All IsSized balls

pub usable : (n : ℕ) (templates : List Template) (t : ℕ) → t < length templates → All (IsTemplate n) templates → IsUsable (balls_of templates t)
unfolding balls_of
usable n [] t there all = absurd (omega arith)
usable n (x ∷ xs) zero there all =
    let sound = All-head (IsTemplate n) x xs all in
    record {
      some = sound.count.low_le;
      few = sound.count.le_high;
      sized = All-weaker (IsBall n) IsSized (λ b ball. record { at = ball.at; r = ball.r }) x.balls sound.balls;
    }
usable n (x ∷ xs) (suc t) there all = usable n xs t (omega arith) (All-tail (IsTemplate n) x xs all)

-- a template has an extent
some-extent : (balls : List Ball) → IsUsable balls → 1 ≤ extent_of balls
unfolding reach_of
some-extent [] is = absurd (let none = is.some in omega arith)
some-extent (b ∷ bs) is =
    let bound = All-head (λ (x : Ball). reach_of x ≤ extent_of (b ∷ bs)) b bs (extent-bounds (b ∷ bs)) in
    let sized = All-head IsSized b bs is.sized in
    omega (arith, bound, sized.r.low_le)

-- ---- clumps

norm2 : IsFrom MIN_NORM2 MAX_NORM2 (quat_norm2_of still_body.q)
unfolding quat_norm2_of
norm2 = record { low_le = omega arith; le_high = omega arith }

still : (m : ℕ) → Within no_vector m
still m = record { x = omega arith; y = omega arith; z = omega arith }

-- a cell lies between its corners
low-end : (lo hi p : ℤ) (extent : ℕ) → pos 0 ≤ℤ lo → IsDeep extent (record { low = unsigned_abs lo; high = unsigned_abs hi }) p → lo ≤ℤ p
low-end lo hi p extent low deep-in = let a = deep-in.low in omega (arith, ints)

high-end : (lo hi p : ℤ) (extent : ℕ) → 1 ≤ extent → pos 0 ≤ℤ hi → IsDeep extent (record { low = unsigned_abs lo; high = unsigned_abs hi }) p → p <ℤ hi
high-end lo hi p extent some high deep-in = let b = deep-in.high in omega (arith, ints)

-- a center lies between its corners
low-center : (lo hi c : ℤ) (r : ℕ) → IsBetween (lo +ℤ pos r) (hi -ℤ pos r) c → lo ≤ℤ c
low-center lo hi c r is = let a = is.low_le in omega (arith, ints)

high-center : (lo hi c : ℤ) (r : ℕ) → 1 ≤ r → IsBetween (lo +ℤ pos r) (hi -ℤ pos r) c → c <ℤ hi
high-center lo hi c r some is = let b = is.le_high in omega (arith, ints)

module _ (s : SceneValue) (a : Ask) (ask : IsAsk a) (fits : fits_box s a ≡ true) (there : a.t < length s.templates) (good : IsUsable (balls_of s.templates a.t)) where
  abbrev balls : List Ball
  balls = balls_of s.templates a.t

  position-in : (p : Vec3) → IsDeepCell (extent_of balls) (region_between a.lo a.hi) p → IsTrue (in_box s (widened p))
  position-in p cell =
      let some = some-extent balls good in
      in_box-from s a (widened p) ask fits
      (low-end a.lo.x a.hi.x p.x (extent_of balls) ask.lo.x.low_le cell.x) (high-end a.lo.x a.hi.x p.x (extent_of balls) some ask.hi.x.low_le cell.x)
      (low-end a.lo.y a.hi.y p.y (extent_of balls) ask.lo.y.low_le cell.y) (high-end a.lo.y a.hi.y p.y (extent_of balls) some ask.hi.y.low_le cell.y)
      (low-end a.lo.z a.hi.z p.z (extent_of balls) ask.lo.z.low_le cell.z) (high-end a.lo.z a.hi.z p.z (extent_of balls) some ask.hi.z.low_le cell.z)

  center-inside : (c : Wide3) (r : ℕ) → 1 ≤ r → LiesBetween a.lo a.hi c r → IsTrue (in_box s c)
  center-inside c r some lies =
      in_box-from s a c ask fits
      (low-center a.lo.x a.hi.x c.x r lies.x) (high-center a.lo.x a.hi.x c.x r some lies.x)
      (low-center a.lo.y a.hi.y c.y r lies.y) (high-center a.lo.y a.hi.y c.y r some lies.y)
      (low-center a.lo.z a.hi.z c.z r lies.z) (high-center a.lo.z a.hi.z c.z r some lies.z)

  centers-in : (p : Vec3) → IsDeepCell (extent_of balls) (region_between a.lo a.hi) p → All (λ (b : Ball). IsTrue (in_box s (center_in (stand_at a.t p) b))) balls
  centers-in p cell = λ k d lt.
      let b = get_or balls k d in
      let reach = extent-bounds balls k d lt in
      let sized = good.sized k d lt in
      center-inside (center_in (stand_at a.t p) b) b.r sized.r.low_le (lies-between a.lo a.hi (2 ^ 36) (extent_of balls) (stand_at a.t p) b ask.lo ask.hi cell reach)

  sound-clump : (p : Vec3) → IsDeepCell (extent_of balls) (region_between a.lo a.hi) p → IsClump s (standing (stand_at a.t p))
  sound-clump p cell = record {
    t = there;
    family = omega arith;
    body = record {
      body = record { v = still s.speed; w = still s.spin; q = norm2; p = position-in p cell };
      centers = centers-in p cell;
    };
  }

  pub clumps-sound : All (λ (x : Stand). IsClump s (standing x)) (first_stands (lattice_for a balls) a.lo a.hi a.t a.count)
  unfolding first_stands
  clumps-sound =
      let cells = take a.count (cells_of (lattice_for a balls) (region_between a.lo a.hi)) in
      All-map (λ (x : Stand). IsClump s (standing x)) (stand_at a.t) cells
      (All-weaker (IsDeepCell (extent_of balls) (region_between a.lo a.hi)) (λ (p : Vec3). IsClump s (standing (stand_at a.t p))) sound-clump cells (deep s a ask))

-- ---- spheres

-- how many spheres so many stands of a template have
spheres-of-stands : (templates : List Template) (t k : ℕ) (cells : List Vec3) → length (spheres_from templates k (map standing (map (stand_at t) cells))) ≡ length cells * length (balls_of templates t)
unfolding spheres_from spheres_of_clump
spheres-of-stands templates t k [] = let none : 0 ≡ 0 * length (balls_of templates t) = omega arith in none
spheres-of-stands templates t k (p ∷ ps) =
    let n = length (balls_of templates t) in
    let rest = spheres-of-stands templates t (k + 1) ps in
    let own = length-map (balls_of templates t) (sphere_of k) in
    let more : suc (length ps) * n ≡ n + length ps * n = grind arith in
    length-append (map (sphere_of k) (balls_of templates t)) (spheres_from templates (k + 1) (map standing (map (stand_at t) ps)))
    ∙ ap (λ m. m + length (spheres_from templates (k + 1) (map standing (map (stand_at t) ps)))) own ∙ ap (λ m. n + m) rest ∙ sym more

first-spheres : (s : SceneValue) (a : Ask) (stands : List Stand) → IsAnswered s a stands → length (spheres_of (with_stands s stands)) ≡ a.count * length (balls_of s.templates a.t)
unfolding spheres_of first_stands
first-spheres s a stands is =
    let cells = cells_of (lattice_for a (balls_of s.templates a.t)) (region_between a.lo a.hi) in
    ap (λ xs. length (spheres_from s.templates 0 (map standing xs))) is.are ∙ spheres-of-stands s.templates a.t 0 (take a.count cells)
    ∙ ap (λ n. n * length (balls_of s.templates a.t)) (length-take-le a.count cells is.room)

-- a scene can have the stands of an answer
pub stands-can : (s : SceneValue) (a : Ask) (stands : List Stand) → IsSound s → IsAsk a → IsAnswered s a stands → CanStand s stands
stands-can s a stands sound ask is =
    let count = stands-count s a stands is in
    let size = first-spheres s a stands is in
    record {
      count = subst (λ n. IsFrom 1 MAX_CLUMPS n) (sym count) ask.count;
      clumps = subst (λ xs. All (λ (x : Stand). IsClump s (standing x)) xs) (sym is.are)
          (clumps-sound s a ask is.box is.there (usable (length s.materials) s.templates a.t is.there sound.templates));
      spheres = subst (λ n. n ≤ MAX_SPHERES) (sym size) is.few;
    }
