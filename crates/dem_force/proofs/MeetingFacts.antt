-- The meeting of a pair: what it does where it touches, and none where it doesn't.
use Rattle.std.proofs.Common.{◌≡◌, List, refl, ap, Option, Some, None}
use Rattle.std.specs.Option.{unwrap_or}
use Rattle.dem_num.specs.declared.vector.Vec3.{Vec3}
use Rattle.dem_num.specs.Vectors.{narrowed, no_vector}
use Rattle.dem_model.specs.SceneValue.{SceneValue}
use Rattle.dem_model.specs.Centers.{touch_of}
use Rattle.dem_model.specs.Step.{meeting, push_of}
use Rattle.dem_model.specs.declared.law.Push.{Push}
use Rattle.dem_model.specs.declared.law.Touch.{Touch}
use Rattle.dem_model.specs.declared.state.Body.{Body}
use Rattle.dem_model.specs.declared.state.Pair.{Pair}
use Rattle.dem_force.specs.Places.{meeting_with}

-- the meeting of a pair that touches
pub meeting_some : (s : SceneValue) (bodies : List Body) (centers : List Vec3) (p : Pair) (h : Option Vec3) (t : Touch) (push : Push) →
    touch_of s centers p ≡ Some t → push ≡ push_of s bodies p t (unwrap_or h (narrowed no_vector)) → Some (meeting_with p push) ≡ meeting s bodies centers p h
unfolding meeting
meeting_some s bodies centers p h t push e push_is = rw e (ap (λ x. Some (meeting_with p x)) push_is)

-- a pair that doesn't touch has no meeting
pub meeting_none : (s : SceneValue) (bodies : List Body) (centers : List Vec3) (p : Pair) (h : Option Vec3) →
    touch_of s centers p ≡ None → None ≡ meeting s bodies centers p h
unfolding meeting
meeting_none s bodies centers p h e = rw e refl
