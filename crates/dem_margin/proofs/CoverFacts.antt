-- Every pair that touches at the later centers is near at the earlier ones.
use Rattle.std.proofs.Common.{◌≡◌, ℕ, ◌-◌, ◌<◌, ◌≤◌, arith, true, List, inl, inr}
use Rattle.std.specs.Prelude.{is_some, length}
use Rattle.std.proofs.lemmas.Bool.{cases_lt, lt-ltb, le-ltb}
use Rattle.dem_num.specs.declared.vector.Vec3.{Vec3}
use Rattle.dem_model.specs.SceneValue.{SceneValue}
use Rattle.dem_model.specs.Centers.{center_at, touch_of}
use Rattle.dem_model.specs.Motion.{IsPair}
use Rattle.dem_model.specs.Near.{drift_of, reach_of, near, HasDrifted, Covers}
use Rattle.dem_model.specs.Pairs.{sphere_count, limit_of, sphere_at, wall_at, no_wall}
use Rattle.dem_model.specs.Sound.{IsSound, IsWall}
use Rattle.dem_model.specs.declared.state.Pair.{Pair}
use Rattle.dem_margin.proofs.PairsFacts.{all_pairs-pairs}
use Rattle.dem_margin.proofs.TouchFacts.{spheres_cover, wall_covers}

-- a wall that is there is sound
pub wall_at-sound : (s : SceneValue) (b : ℕ) → IsSound s → sphere_count s ≤ b → b < limit_of s → IsWall (length s.materials) s.templates (wall_at s b)
unfolding wall_at limit_of
wall_at-sound s b sound later there = sound.walls (b - sphere_count s) no_wall (omega arith)

-- a pair that touches was near
pair_covers : (s : SceneValue) (drift : ℕ) (from now : List Vec3) (p : Pair) → IsSound s → HasDrifted s drift from now → IsPair s p →
    is_some (touch_of s now p) ≡ true → near s drift from p ≡ true
unfolding touch_of near reach_of
pair_covers s drift from now p sound moved is_pair = elim (cases_lt p.b (sphere_count s)) [
  | inl l ↦ rw (lt-ltb p.b (sphere_count s) l) (spheres_cover (center_at now p.a) (center_at now p.b) (center_at from p.a) (center_at from p.b) (sphere_at s p.a).ball.r (sphere_at s p.b).ball.r (drift_of s drift p.a) (drift_of s drift p.b) (moved.each p.a is_pair.first) (moved.each p.b l))
  | inr g ↦ rw (le-ltb p.b (sphere_count s) g) (wall_covers (length s.materials) s.templates (wall_at s p.b) (center_at now p.a) (center_at from p.a) (sphere_at s p.a).ball.r (drift_of s drift p.a) (wall_at-sound s p.b sound g is_pair.second) (moved.each p.a is_pair.first))
]

-- every pair that touches is near at centers from which no sphere has moved farther than it may
pub covers : (s : SceneValue) (drift : ℕ) (from now : List Vec3) → IsSound s → HasDrifted s drift from now → Covers s drift from now
covers s drift from now sound moved = λ k d lt. pair_covers s drift from now _ sound moved (all_pairs-pairs s k d lt)
