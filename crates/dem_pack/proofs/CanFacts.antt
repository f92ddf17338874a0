-- A scene can have the stands of an answer.
use Rattle.std.proofs.Common.{◌≡◌, ℕ, ◌*◌, ◌^◌, ◌≤◌, ℤ, pos, Bool, true, List, take, get_or, length, refl, sym, ap, ◌∙◌, subst, arith}
use Rattle.std.specs.Prelude.{All, AllPairs, IsTrue, ◌&&◌, ◌≤ℤ◌, ◌<ℤ◌, int_le}
use Rattle.std.proofs.lemmas.Bool.{and_parts}
use Rattle.std.proofs.lemmas.Int.{ints}
use Rattle.std.proofs.lemmas.List.{length-map, length-take-le}
use Rattle.std.proofs.lemmas.List.Elements.{All-map, All-take, All-weaker}
use Rattle.dem_num.specs.declared.vector.Vec3.{Vec3}
use Rattle.dem_num.specs.declared.vector.Wide3.{Wide3}
use Rattle.dem_num.specs.Vectors.{widened, sum_of}
use Rattle.dem_model.specs.SceneValue.{SceneValue}
use Rattle.dem_model.specs.Cells.{Region, cells_of, extent_of, grid, reach_of, region_between, staggered, pitch_of}
use Rattle.dem_model.specs.Packing.{AreClear, IsPacking, LiesBetween, StandClear, StandsBetween, center_in, first_stands, stand_at}
use Rattle.dem_model.specs.Position.{in_box, in_voxels}
use Rattle.dem_model.specs.Spheres.{balls_of}
use Rattle.dem_model.specs.declared.limits.TheConstants.{VOXEL}
use Rattle.dem_model.specs.declared.shape.Ball.{Ball}
use Rattle.dem_model.specs.declared.shape.Template.{Template}
use Rattle.dem_model.specs.declared.state.Stand.{Stand}
use Rattle.dem_pack.specs.Asks.{IsAsk, fits_axis, fits_box, lattice_of, suits}
use Rattle.dem_pack.specs.declared.ask.Ask.{Ask}
use Rattle.dem_pack.specs.declared.ask.Kind.{Kind}
use Rattle.dem_pack.specs.declared.ask.Kind.TheVariants.{Grid, Staggered}
use Rattle.dem_pack.proofs.AnswerFacts.{IsAnswered, lattice_for}
use Rattle.dem_pack.proofs.ApartFacts.{AreSplit, AreFar, grid-split, staggered-far}
use Rattle.dem_pack.proofs.ClearFacts.{clear-on-grid, clear-staggered}
use Rattle.dem_pack.proofs.ExtentFacts.{extent-bounds}
use Rattle.dem_pack.proofs.InsideFacts.{IsDeepCell, deep-cells, lies-between}
use Rattle.dem_pack.proofs.ListFacts.{AllPairs-take, AllPairs-map}
use Rattle.dem_pack.proofs.SpaceFacts.{center-is}

-- ---- the stands lie in the region

-- the extent of a lattice is that of its template
lattice-extent : (kind : Kind) (extent gap : ℕ) → (lattice_of kind extent gap).extent ≡ extent
unfolding lattice_of grid staggered
lattice-extent Grid extent gap = refl
lattice-extent Staggered extent gap = refl

module _ (s : SceneValue) (a : Ask) (is : IsAsk a) where
  abbrev pub balls : List Ball
  balls = balls_of s.templates a.t

  abbrev pub cells : List Vec3
  cells = cells_of (lattice_for a balls) (region_between a.lo a.hi)

  pub deep : All (IsDeepCell (extent_of balls) (region_between a.lo a.hi)) (take a.count cells)
  deep =
      All-take (IsDeepCell (extent_of balls) (region_between a.lo a.hi)) a.count cells
      (subst (λ e. All (IsDeepCell e (region_between a.lo a.hi)) cells) (lattice-extent a.kind (extent_of balls) a.gap) (deep-cells (lattice_for a balls) (region_between a.lo a.hi)))

  pub stands-inside : All (StandsBetween a.lo a.hi s.templates) (first_stands (lattice_for a balls) a.lo a.hi a.t a.count)
  unfolding first_stands
  stands-inside =
      All-map (StandsBetween a.lo a.hi s.templates) (stand_at a.t) (take a.count cells)
      (All-weaker (IsDeepCell (extent_of balls) (region_between a.lo a.hi)) (λ (p : Vec3). StandsBetween a.lo a.hi s.templates (stand_at a.t p))
      (λ p in-cell. All-weaker (λ (b : Ball). reach_of b ≤ extent_of balls) (λ (b : Ball). LiesBetween a.lo a.hi (center_in (stand_at a.t p) b) b.r)
      (λ b reach. lies-between a.lo a.hi (2 ^ 36) (extent_of balls) (stand_at a.t p) b is.lo is.hi in-cell reach) balls (extent-bounds balls))
      (take a.count cells) deep)

-- ---- the stands are clear of each other

-- two stands of a template, by where their spheres are
clear-by-place : (gap t : ℕ) (templates : List Template) (p q : Vec3)
    → All (λ (a : Ball). All (λ (b : Ball). AreClear gap (sum_of (widened p) (widened a.at)) (sum_of (widened q) (widened b.at)) a.r b.r) (balls_of templates t)) (balls_of templates t)
    → StandClear gap templates (stand_at t p) (stand_at t q)
clear-by-place gap t templates p q clear =
    let bs = balls_of templates t in
    All-weaker (λ (a : Ball). All (λ (b : Ball). AreClear gap (sum_of (widened p) (widened a.at)) (sum_of (widened q) (widened b.at)) a.r b.r) bs)
    (λ (a : Ball). All (λ (b : Ball). AreClear gap (center_in (stand_at t p) a) (center_in (stand_at t q) b) a.r b.r) bs)
    (λ a each. All-weaker (λ (b : Ball). AreClear gap (sum_of (widened p) (widened a.at)) (sum_of (widened q) (widened b.at)) a.r b.r)
    (λ (b : Ball). AreClear gap (center_in (stand_at t p) a) (center_in (stand_at t q) b) a.r b.r)
    (λ b one. subst (λ (u : Wide3). AreClear gap u (center_in (stand_at t q) b) a.r b.r) (sym (center-is (stand_at t p) a))
    (subst (λ (v : Wide3). AreClear gap (sum_of (widened p) (widened a.at)) v a.r b.r) (sym (center-is (stand_at t q) b)) one))
    bs each)
    bs clear

pairs-weaker : {X : Type 0} (R S : X → X → Type 0) → ((x y : X) → R x y → S x y) → (xs : List X) → AllPairs R xs → AllPairs S xs
pairs-weaker R S weaker xs each = λ i j d before lt. weaker (get_or xs i d) (get_or xs j d) (each i j d before lt)

grid-clear : (gap t : ℕ) (templates : List Template) (p q : Vec3) → AreSplit (pitch_of (extent_of (balls_of templates t)) gap) p q → StandClear gap templates (stand_at t p) (stand_at t q)
grid-clear gap t templates p q apart =
    let bs = balls_of templates t in
    let extent = extent_of bs in
    clear-by-place gap t templates p q
    (All-weaker (λ (b : Ball). reach_of b ≤ extent)
    (λ (a : Ball). All (λ (b : Ball). AreClear gap (sum_of (widened p) (widened a.at)) (sum_of (widened q) (widened b.at)) a.r b.r) bs)
    (λ a first. All-weaker (λ (b : Ball). reach_of b ≤ extent) (λ (b : Ball). AreClear gap (sum_of (widened p) (widened a.at)) (sum_of (widened q) (widened b.at)) a.r b.r)
    (λ b second. clear-on-grid gap extent p q a b apart first second) bs (extent-bounds bs))
    bs (extent-bounds bs))

-- cells of a kind that suits the template
clear-cells : (kind : Kind) (gap t : ℕ) (templates : List Template) (region : Region) → suits kind (balls_of templates t) ≡ true
    → AllPairs (λ (p q : Vec3). StandClear gap templates (stand_at t p) (stand_at t q)) (cells_of (lattice_of kind (extent_of (balls_of templates t)) gap) region)
unfolding suits lattice_of
clear-cells Grid gap t templates region suited =
    let extent = extent_of (balls_of templates t) in
    pairs-weaker (AreSplit (pitch_of extent gap)) (λ (p q : Vec3). StandClear gap templates (stand_at t p) (stand_at t q)) (grid-clear gap t templates)
    (cells_of (grid extent gap) region) (grid-split extent gap region)
clear-cells Staggered gap t templates region suited =
    let bs = balls_of templates t in
    let extent = extent_of bs in
    pairs-weaker (AreFar (pitch_of extent gap)) (λ (p q : Vec3). StandClear gap templates (stand_at t p) (stand_at t q))
    (λ p q far. clear-by-place gap t templates p q (clear-staggered gap p q bs suited far))
    (cells_of (staggered extent gap) region) (staggered-far extent gap region)

pub stands-clear : (s : SceneValue) (a : Ask) → suits a.kind (balls_of s.templates a.t) ≡ true
    → AllPairs (StandClear a.gap s.templates) (first_stands (lattice_for a (balls_of s.templates a.t)) a.lo a.hi a.t a.count)
unfolding first_stands
stands-clear s a suited =
    let cells = cells_of (lattice_for a (balls_of s.templates a.t)) (region_between a.lo a.hi) in
    let Clear = λ (p q : Vec3). StandClear a.gap s.templates (stand_at a.t p) (stand_at a.t q) in
    AllPairs-map (StandClear a.gap s.templates) (stand_at a.t) (take a.count cells)
    (AllPairs-take Clear a.count cells (clear-cells a.kind a.gap a.t s.templates (region_between a.lo a.hi) suited))

-- ---- the scene can have them

-- how many there are
pub stands-count : (s : SceneValue) (a : Ask) (stands : List Stand) → IsAnswered s a stands → length stands ≡ a.count
unfolding first_stands
stands-count s a stands is =
    let cells = cells_of (lattice_for a (balls_of s.templates a.t)) (region_between a.lo a.hi) in
    ap length is.are ∙ length-map (take a.count cells) (stand_at a.t) ∙ length-take-le a.count cells is.room

pub stands-packed : (s : SceneValue) (a : Ask) (stands : List Stand) → IsAsk a → IsAnswered s a stands → IsPacking a.lo a.hi a.gap s.templates stands
stands-packed s a stands ask is =
    subst (λ xs. IsPacking a.lo a.hi a.gap s.templates xs) (sym is.are) (record { inside = stands-inside s a ask; clear = stands-clear s a is.suited })

-- a component in the region is in the box
in_voxels-from : (n : ℕ) (lo hi z : ℤ) → fits_axis lo hi n ≡ true → pos 0 ≤ℤ lo → lo ≤ℤ z → z <ℤ hi → IsTrue (in_voxels n z)
unfolding in_voxels fits_axis
in_voxels-from n lo hi z fits low above below =
    let parts = and_parts (int_le lo hi) (int_le hi (pos (n * VOXEL))) fits in
    let last = parts.1 in
    grind (arith, ints)

both : (x y z : Bool) → IsTrue x → IsTrue y → IsTrue z → IsTrue (x && y && z)
both x y z a b c = rw (a, b, c) refl

pub in_box-from : (s : SceneValue) (a : Ask) (c : Wide3) → IsAsk a → fits_box s a ≡ true
    → a.lo.x ≤ℤ c.x → c.x <ℤ a.hi.x → a.lo.y ≤ℤ c.y → c.y <ℤ a.hi.y → a.lo.z ≤ℤ c.z → c.z <ℤ a.hi.z → IsTrue (in_box s c)
unfolding in_box fits_box
in_box-from s a c ask fits xl xh yl yh zl zh =
    let parts = and_parts (fits_axis a.lo.x a.hi.x s.nx && fits_axis a.lo.y a.hi.y s.ny) (fits_axis a.lo.z a.hi.z s.nz) fits in
    let two = and_parts (fits_axis a.lo.x a.hi.x s.nx) (fits_axis a.lo.y a.hi.y s.ny) parts.0 in
    both (in_voxels s.nx c.x) (in_voxels s.ny c.y) (in_voxels s.nz c.z)
    (in_voxels-from s.nx a.lo.x a.hi.x c.x two.0 ask.lo.x.low_le xl xh)
    (in_voxels-from s.ny a.lo.y a.hi.y c.y two.1 ask.lo.y.low_le yl yh)
    (in_voxels-from s.nz a.lo.z a.hi.z c.z parts.1 ask.lo.z.low_le zl zh)
