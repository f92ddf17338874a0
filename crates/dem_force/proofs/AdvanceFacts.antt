-- The step of a clump whose template and motion are known.
use Rattle.std.proofs.Common.{◌≡◌, ℕ, ◌<◌, length, Option, Some, refl}
use Rattle.std.specs.Prelude.{slice_get, IfOk, Result, Ok, Err}
use Rattle.std.proofs.lemmas.Option.{slice_get-get_or}
use Rattle.dem_model.specs.SceneValue.{SceneValue}
use Rattle.dem_model.specs.Spheres.{balls_of}
use Rattle.dem_model.specs.Sound.{IsBodyOf}
use Rattle.dem_model.specs.Advance.{mass_of, moments_of, velocity_after, spin_after, body_torque_of, limited, advance_of}
use Rattle.dem_model.specs.Families.{family_of, motion_for, motion_of, velocity_by, spin_by}
use Rattle.dem_model.specs.Step.{clump_at, no_clump}
use Rattle.dem_model.specs.declared.family.Motion.{Motion}
use Rattle.dem_model.specs.declared.law.Load.{Load}
use Rattle.dem_model.specs.declared.shape.Template.{Template}
use Rattle.dem_model.specs.declared.state.Body.{Body}
use Rattle.dem_model.specs.declared.state.Clump.{Clump}
use Rattle.dem_model.specs.declared.state.EndKind.{EndKind}
use Rattle.dem_force.specs.Placed.{IsPlaced}

-- the step of a clump of this template, whose family has this motion
abbrev pub advanced_by : SceneValue → Template → Body → Load → Option Motion → Result Body EndKind
advanced_by s x b load m =
    limited s x.balls b (velocity_by m (velocity_after s.gravity x.mass b.v load.force)) (spin_by m (spin_after x.moments b.w (body_torque_of b load.torque)))

-- the step, with the template that its number names and the motion of its family
pub advance_of-at : (s : SceneValue) (c : Clump) (x : Template) (b : Body) (load : Load) → slice_get s.templates c.t ≡ Some x
    → advanced_by s x b load (motion_for s.motions c.family) ≡ advance_of s c b load
unfolding advance_of balls_of mass_of moments_of
advance_of-at s c x b load h = rw h refl

-- the motion of a clump, by its number, is that of its family
pub motion_of-at : (s : SceneValue) (k : ℕ) → k < length s.clumps → motion_of s k ≡ motion_for s.motions (clump_at s k).family
unfolding motion_of family_of clump_at
motion_of-at s k lt = rw (slice_get-get_or s.clumps k no_clump lt) refl

-- a placed body is sound for a clump with that template
pub placed-sound : (s : SceneValue) (c : Clump) (x : Template) (r : Result Body EndKind) → slice_get s.templates c.t ≡ Some x → IfOk r (IsPlaced s x.balls) → IfOk r (IsBodyOf s c)
unfolding balls_of
placed-sound s c x (Ok b) h p = record { body = p.body; centers = rw h p.centers }
placed-sound s c x (Err e) h p = tt
