-- What was made of the bodies for a step, and what is left of it afterwards.
use Rattle.std.proofs.Common.{◌≡◌, true, false, List, length, sym, ap, ◌∙◌}
use Rattle.dem_model.specs.SceneValue.{SceneValue}
use Rattle.dem_model.specs.Motion.{AreSound}
use Rattle.dem_model.specs.declared.state.Body.{Body}
use Rattle.dem_force.specs.Places.{HasPlaces}
use Rattle.dem_force.specs.declared.pushing.spheres.Spheres.{Spheres}
use Rattle.dem_plain.proofs.RunFacts.{length-centers_of}
use Rattle.dem_step.specs.Prepared.{ArePrepared, CanPrepare, IsUnprepared}
use Rattle.dem_step.specs.declared.prepared.Prepared.{Prepared}

-- what was made has its room
prepared_places : (s : SceneValue) (bodies unpacked : List Body) (spheres : Spheres) → ArePrepared s bodies unpacked spheres → HasPlaces s spheres
prepared_places s bodies unpacked spheres h = record { matrices = h.matrices_are.count; centers = ap length h.centers_are ∙ length-centers_of s bodies; sides = h.sides_are.count }

-- what was made may be used for the same bodies
pub prepared_kept : (s : SceneValue) (bodies : List Body) (p : Prepared) → AreSound s bodies → ArePrepared s bodies p.unpacked p.spheres → CanPrepare s bodies p
prepared_kept s bodies p sound h = record {
  places = prepared_places s bodies p.unpacked p.spheres h;
  each = ap length h.bodies_are ∙ sound.count;
  right = λ ready. h;
}

-- for other bodies it is made anew
pub prepared_past : (s : SceneValue) (bodies next unpacked : List Body) (spheres : Spheres) → AreSound s bodies → ArePrepared s bodies unpacked spheres →
    CanPrepare s next (record { ready = false; unpacked = unpacked; spheres = spheres })
prepared_past s bodies next unpacked spheres sound h = record {
  places = prepared_places s bodies unpacked spheres h;
  each = ap length h.bodies_are ∙ sound.count;
  right = λ (ready : false ≡ true). cc;
}

-- and so it is at first
pub prepared_first : (s : SceneValue) (bodies : List Body) (p : Prepared) → IsUnprepared s p → CanPrepare s bodies p
prepared_first s bodies p h = record {
  places = h.places;
  each = h.each;
  right = λ (ready : p.ready ≡ true). let no : false ≡ true = sym h.not_ready ∙ ready in cc;
}
