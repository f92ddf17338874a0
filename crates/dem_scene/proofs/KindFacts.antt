-- Materials, templates and walls that were read have no fraction and short texts.
use Rattle.std.proofs.Common.{◌≡◌, ℕ, ◌+◌, ◌<◌, ◌^◌, [], ◌∷◌, Option, Some, None, Ok, codes, refl, arith}
use Rattle.json.specs.Print.{escape_byte}
use Rattle.serde_json.specs.Data.{Data}
use Rattle.serde_json.specs.Find.{get}
use Rattle.dem_model.specs.declared.fault.Name.TheVariants as names
use Rattle.dem_model.specs.declared.shape.Material.{Material}
use Rattle.dem_model.specs.declared.shape.Ball.{Ball}
use Rattle.dem_model.specs.declared.shape.Template.{Template}
use Rattle.dem_model.specs.declared.shape.Form.{Form}
use Rattle.dem_model.specs.declared.shape.Wall.{Wall}
use Rattle.dem_model.specs.declared.limits.TheConstants.{MAX_STIFFNESS, MAX_RATIO, MAX_MASS, MAX_MOMENT, MAX_BALLS, MAX_OFFSET, MAX_RADIUS, MAX_POINT, MAX_CYLINDER}
use Rattle.dem_model.specs.Reading.{spot, from_to, at_most, check_object, number_at, number_or, index_at, list_at}
use Rattle.dem_model.specs.ReadingNames.{names_of}
use Rattle.dem_model.specs.ReadingVectors.{vector_at, direction_at}
use Rattle.dem_model.specs.ReadingKinds.{material_of, sphere_of, template_of, plane_of, axis_at, cylinder_of, one_form, form_at, wall_of}
use Rattle.dem_scene.proofs.OrderFacts.{IsOrdered, IfThere}
use Rattle.dem_scene.proofs.FitFacts.{Fits, Rooms}
use Rattle.dem_scene.proofs.ReadFacts.{then_ok, ordered_at, from_to_passes, at_most_passes, number_at_fits, number_or_fits, index_at_fits, vector_at_fits, direction_at_fits, axis_at_fits, list_at_fits, known_fits}

-- the names of each kind, with the room for each value
material_rooms : Rooms
material_rooms = (codes "kn", 20) ∷ (codes "kt", 20) ∷ (codes "bn", 20) ∷ (codes "bt", 20) ∷ (codes "mu", 20) ∷ (codes "mr", 20) ∷ []

sphere_rooms : Rooms
sphere_rooms = (codes "at", 65) ∷ (codes "r", 20) ∷ (codes "mat", 20) ∷ []

template_rooms : Rooms
template_rooms = (codes "mass", 20) ∷ (codes "moments", 65) ∷ (codes "spheres", 2018) ∷ []

plane_rooms : Rooms
plane_rooms = (codes "at", 65) ∷ (codes "dir", 65) ∷ []

cylinder_rooms : Rooms
cylinder_rooms = (codes "axis", 3) ∷ (codes "at", 65) ∷ (codes "r", 20) ∷ []

wall_rooms : Rooms
wall_rooms = (codes "plane", 145) ∷ (codes "cylinder", 109) ∷ (codes "mat", 20) ∷ []

pub material_fits : (i : ℕ) (d : Data) (m : Material) → IsOrdered d → material_of i d ≡ Ok m → Fits 158 d
unfolding material_of material_rooms names_of escape_byte
material_fits i d m o e =
    let a = then_ok (check_object (spot names.Materials i 0) d) _ m e in
    let kn = then_ok (number_at (codes "kn") 1 MAX_STIFFNESS (spot names.MaterialsKn i 0) d) _ m a.2 in
    let kt = then_ok (number_or (codes "kt") 0 MAX_STIFFNESS (spot names.MaterialsKt i 0) d) _ m kn.2 in
    let bn = then_ok (number_or (codes "bn") 0 MAX_RATIO (spot names.MaterialsBn i 0) d) _ m kt.2 in
    let bt = then_ok (number_or (codes "bt") 0 MAX_RATIO (spot names.MaterialsBt i 0) d) _ m bn.2 in
    let mu = then_ok (number_or (codes "mu") 0 MAX_RATIO (spot names.MaterialsMu i 0) d) _ m bt.2 in
    let mr = then_ok (number_or (codes "mr") 0 MAX_RATIO (spot names.MaterialsMr i 0) d) _ m mu.2 in
    known_fits (spot names.Materials i 0) material_rooms d a.0 refl o a.1 (
      number_at_fits (codes "kn") 1 MAX_STIFFNESS (spot names.MaterialsKn i 0) d kn.0 (omega arith) o kn.1,
      (
        number_or_fits (codes "kt") 0 MAX_STIFFNESS (spot names.MaterialsKt i 0) d kt.0 (omega arith) o kt.1,
        (
          number_or_fits (codes "bn") 0 MAX_RATIO (spot names.MaterialsBn i 0) d bn.0 (omega arith) o bn.1,
          (
            number_or_fits (codes "bt") 0 MAX_RATIO (spot names.MaterialsBt i 0) d bt.0 (omega arith) o bt.1,
            (
              number_or_fits (codes "mu") 0 MAX_RATIO (spot names.MaterialsMu i 0) d mu.0 (omega arith) o mu.1,
              (
                number_or_fits (codes "mr") 0 MAX_RATIO (spot names.MaterialsMr i 0) d mr.0 (omega arith) o mr.1,
                tt,
              ),
            ),
          ),
        ),
      ),
    )

pub sphere_fits : (materials i j : ℕ) (d : Data) (b : Ball) → materials < 2 ^ 63 → IsOrdered d → sphere_of materials i j d ≡ Ok b → Fits 125 d
unfolding sphere_of sphere_rooms names_of escape_byte
sphere_fits materials i j d b few o e =
    let a = then_ok (check_object (spot names.TemplatesSpheres i j) d) _ b e in
    let at = then_ok (vector_at (codes "at") (at_most MAX_OFFSET) (spot names.TemplatesSpheresAt i j) d) _ b a.2 in
    let r = then_ok (number_at (codes "r") 1 MAX_RADIUS (spot names.TemplatesSpheresR i j) d) _ b at.2 in
    let mat = then_ok (index_at (codes "mat") materials (spot names.TemplatesSpheresMat i j) d) _ b r.2 in
    known_fits (spot names.TemplatesSpheres i j) sphere_rooms d a.0 refl o a.1 (
      vector_at_fits (codes "at") (at_most MAX_OFFSET) (spot names.TemplatesSpheresAt i j) d at.0 (at_most_passes MAX_OFFSET (omega arith)) o at.1,
      (
        number_at_fits (codes "r") 1 MAX_RADIUS (spot names.TemplatesSpheresR i j) d r.0 (omega arith) o r.1,
        (
          index_at_fits (codes "mat") materials (spot names.TemplatesSpheresMat i j) d mat.0 few o mat.1,
          tt,
        ),
      ),
    )

pub template_fits : (materials i : ℕ) (d : Data) (t : Template) → materials < 2 ^ 63 → IsOrdered d → template_of materials i d ≡ Ok t → Fits 2135 d
unfolding template_of template_rooms names_of escape_byte
template_fits materials i d t few o e =
    let a = then_ok (check_object (spot names.Templates i 0) d) _ t e in
    let mass = then_ok (number_at (codes "mass") 1 MAX_MASS (spot names.TemplatesMass i 0) d) _ t a.2 in
    let moments = then_ok (vector_at (codes "moments") (from_to 1 MAX_MOMENT) (spot names.TemplatesMoments i 0) d) _ t mass.2 in
    let balls = then_ok (list_at (codes "spheres") 1 MAX_BALLS (spot names.TemplatesSpheres i 0) (sphere_of materials i) d) _ t moments.2 in
    known_fits (spot names.Templates i 0) template_rooms d a.0 refl o a.1 (
      number_at_fits (codes "mass") 1 MAX_MASS (spot names.TemplatesMass i 0) d mass.0 (omega arith) o mass.1,
      (
        vector_at_fits (codes "moments") (from_to 1 MAX_MOMENT) (spot names.TemplatesMoments i 0) d moments.0 (from_to_passes 1 MAX_MOMENT (omega arith)) o moments.1,
        (
          list_at_fits 125 (codes "spheres") 1 MAX_BALLS (spot names.TemplatesSpheres i 0) (sphere_of materials i) d balls.0 (λ j x b. sphere_fits materials i j x b few) o balls.1,
          tt,
        ),
      ),
    )

pub plane_fits : (i : ℕ) (d : Data) (f : Form) → IsOrdered d → plane_of i d ≡ Ok f → Fits 145 d
unfolding plane_of plane_rooms names_of escape_byte
plane_fits i d f o e =
    let a = then_ok (check_object (spot names.WallsPlane i 0) d) _ f e in
    let at = then_ok (vector_at (codes "at") (from_to 0 MAX_POINT) (spot names.WallsPlaneAt i 0) d) _ f a.2 in
    let dir = then_ok (direction_at (codes "dir") (spot names.WallsPlaneDir i 0) d) _ f at.2 in
    known_fits (spot names.WallsPlane i 0) plane_rooms d a.0 refl o a.1 (
      vector_at_fits (codes "at") (from_to 0 MAX_POINT) (spot names.WallsPlaneAt i 0) d at.0 (from_to_passes 0 MAX_POINT (omega arith)) o at.1,
      (
        direction_at_fits (codes "dir") (spot names.WallsPlaneDir i 0) d dir.0 o dir.1,
        tt,
      ),
    )

pub cylinder_fits : (widest i : ℕ) (d : Data) (f : Form) → IsOrdered d → cylinder_of widest i d ≡ Ok f → Fits 109 d
unfolding cylinder_of cylinder_rooms names_of escape_byte
cylinder_fits widest i d f o e =
    let a = then_ok (check_object (spot names.WallsCylinder i 0) d) _ f e in
    let axis = then_ok (axis_at (codes "axis") (spot names.WallsCylinderAxis i 0) d) _ f a.2 in
    let at = then_ok (vector_at (codes "at") (from_to 0 MAX_POINT) (spot names.WallsCylinderAt i 0) d) _ f axis.2 in
    let r = then_ok (number_at (codes "r") (widest + 1) MAX_CYLINDER (spot names.WallsCylinderR i 0) d) _ f at.2 in
    known_fits (spot names.WallsCylinder i 0) cylinder_rooms d a.0 refl o a.1 (
      axis_at_fits (codes "axis") (spot names.WallsCylinderAxis i 0) d axis.0 o axis.1,
      (
        vector_at_fits (codes "at") (from_to 0 MAX_POINT) (spot names.WallsCylinderAt i 0) d at.0 (from_to_passes 0 MAX_POINT (omega arith)) o at.1,
        (
          number_at_fits (codes "r") (widest + 1) MAX_CYLINDER (spot names.WallsCylinderR i 0) d r.0 (omega arith) o r.1,
          tt,
        ),
      ),
    )

one_fits : (widest i : ℕ) (plane cylinder : Option Data) (f : Form) → IfThere IsOrdered plane → IfThere IsOrdered cylinder → one_form widest i plane cylinder ≡ Ok f → IfThere (Fits 145) plane × IfThere (Fits 109) cylinder
one_fits widest i (Some p) None f op oc e = (plane_fits i p f op e, tt)
one_fits widest i None (Some c) f op oc e = (tt, cylinder_fits widest i c f oc e)
one_fits widest i None None f op oc e = (tt, tt)
one_fits widest i (Some p) (Some c) f op oc e = absurd cc

pub wall_fits : (materials widest i : ℕ) (d : Data) (w : Wall) → materials < 2 ^ 63 → IsOrdered d → wall_of materials widest i d ≡ Ok w → Fits 304 d
unfolding wall_of form_at wall_rooms names_of escape_byte
wall_fits materials widest i d w few o e =
    let a = then_ok (check_object (spot names.Walls i 0) d) _ w e in
    let form = then_ok (form_at widest i d) _ w a.2 in
    let mat = then_ok (index_at (codes "mat") materials (spot names.WallsMat i 0) d) _ w form.2 in
    let one = one_fits widest i (get (codes "plane") d) (get (codes "cylinder") d) form.0 (ordered_at (codes "plane") d o) (ordered_at (codes "cylinder") d o) form.1 in
    known_fits (spot names.Walls i 0) wall_rooms d a.0 refl o a.1 (
      one.0,
      (
        one.1,
        (
          index_at_fits (codes "mat") materials (spot names.WallsMat i 0) d mat.0 few o mat.1,
          tt,
        ),
      ),
    )
