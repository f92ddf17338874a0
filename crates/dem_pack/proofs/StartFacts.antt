-- A scene with the stands of a packing begins without a touch of two spheres.
use Rattle.std.proofs.Common.{◌≡◌, ℕ, zero, suc, ◌+◌, ◌<◌, List, [], ◌∷◌, map, length, get_or, None, refl, sym, ap, ◌∙◌, subst, arith}
use Rattle.std.specs.Prelude.{All, AllPairs}
use Rattle.std.proofs.lemmas.Bool.{lt-ltb}
use Rattle.std.proofs.lemmas.List.{get_or-map, length-map}
use Rattle.std.proofs.lemmas.List.Elements.{All-nil, All-append, All-map}
use Rattle.dem_num.specs.declared.vector.Vec3.{Vec3}
use Rattle.dem_num.specs.Vectors.{widened, narrowed, no_vector, difference_of}
use Rattle.dem_model.specs.SceneValue.{SceneValue}
use Rattle.dem_model.specs.Centers.{body_at, center_at, centers_of, placed, still_body, touch_of}
use Rattle.dem_model.specs.Packing.{AreClear, StandClear, center_in}
use Rattle.dem_model.specs.Pairs.{no_sphere, sphere_at, sphere_count}
use Rattle.dem_model.specs.Plain.{first_state}
use Rattle.dem_model.specs.Spheres.{Sphere, balls_of, center_of, sphere_of, spheres_from, spheres_of, spheres_of_clump}
use Rattle.dem_model.specs.Stands.{standing, standing_body, with_stands}
use Rattle.dem_model.specs.Touch.{spheres_touch}
use Rattle.dem_model.specs.declared.shape.Ball.{Ball}
use Rattle.dem_model.specs.declared.shape.Template.{Template}
use Rattle.dem_model.specs.declared.state.Body.{Body}
use Rattle.dem_model.specs.declared.state.Clump.{Clump}
use Rattle.dem_model.specs.declared.state.Pair.{Pair}
use Rattle.dem_model.specs.declared.state.Stand.{Stand}
use Rattle.dem_pack.specs.Starts.{BeginsApart}
use Rattle.dem_pack.proofs.ListFacts.{AllPairs-append}

-- where the spheres of two stands are of different clumps, they don't touch
abbrev Untouched : List Body → Sphere → Sphere → Type 0
Untouched bodies x y = (x.clump ≡ y.clump → ⊥) → spheres_touch (difference_of (widened (placed bodies x)) (widened (placed bodies y))) (x.ball.r + y.ball.r) ≡ None

-- each sphere of some stands
All-spheres : (Q : Sphere → Type 0) (templates : List Template) (k : ℕ) (stands : List Stand)
    → ((j : ℕ) (d : Stand) → j < length stands → All (λ (b : Ball). Q (sphere_of (k + j) b)) (balls_of templates (get_or stands j d).t))
    → All Q (spheres_from templates k (map standing stands))
unfolding spheres_from spheres_of_clump
All-spheres Q templates k [] each = All-nil Q
All-spheres Q templates k (x ∷ xs) each =
    let here : k + 0 ≡ k = omega arith in
    All-append Q (map (sphere_of k) (balls_of templates x.t)) (spheres_from templates (k + 1) (map standing xs))
    (All-map Q (sphere_of k) (balls_of templates x.t) (subst (λ n. All (λ (b : Ball). Q (sphere_of n b)) (balls_of templates x.t)) here (each 0 x (omega arith))))
    (All-spheres Q templates (k + 1) xs
    (λ j d lt. let next : k + suc j ≡ k + 1 + j = omega arith in
    subst (λ n. All (λ (b : Ball). Q (sphere_of n b)) (balls_of templates (get_or xs j d).t)) next (each (suc j) d (omega arith))))

-- spheres of one clump
same-clump : (bodies : List Body) (k : ℕ) (bs : List Ball) → AllPairs (Untouched bodies) (map (sphere_of k) bs)
same-clump bodies k bs = λ i j d before lt differ.
    let within : j < length bs = omega (arith, length-map bs (sphere_of k), lt) in
    absurd (differ (clump-at bs i d (omega arith) ∙ sym (clump-at bs j d within)))
  where
    clump-at : (bs : List Ball) (i : ℕ) (d : Sphere) → i < length bs → (get_or (map (sphere_of k) bs) i d).clump ≡ k
    clump-at [] i d there = absurd (omega arith)
    clump-at (b ∷ cs) zero d there = refl
    clump-at (b ∷ cs) (suc i) d there = clump-at cs i d (omega arith)

-- two spheres of two stands that are clear of each other
clear-untouched : (gap : ℕ) (bodies : List Body) (x y : Stand) (k m : ℕ) (a b : Ball) → body_at bodies k ≡ standing_body x → body_at bodies m ≡ standing_body y
    → AreClear gap (center_in x a) (center_in y b) a.r b.r → Untouched bodies (sphere_of k a) (sphere_of m b)
unfolding placed
clear-untouched gap bodies x y k m a b first second clear = λ differ.
    ap (λ (body : Body). spheres_touch (difference_of (widened (narrowed (center_of body a))) (widened (narrowed (center_of (body_at bodies m) b)))) (a.r + b.r)) first
    ∙ ap (λ (body : Body). spheres_touch (difference_of (widened (narrowed (center_in x a))) (widened (narrowed (center_of body b)))) (a.r + b.r)) second
    ∙ clear.untouched

-- all spheres of stands that are clear of each other
spheres-untouched : (gap : ℕ) (templates : List Template) (bodies : List Body) (k : ℕ) (stands : List Stand)
    → ((j : ℕ) (d : Stand) → j < length stands → body_at bodies (k + j) ≡ standing_body (get_or stands j d))
    → AllPairs (StandClear gap templates) stands → AllPairs (Untouched bodies) (spheres_from templates k (map standing stands))
unfolding spheres_from spheres_of_clump
spheres-untouched gap templates bodies k [] at clear = λ i j d before lt. absurd (omega arith)
spheres-untouched gap templates bodies k (x ∷ xs) at clear =
    let here : k + 0 ≡ k = omega arith in
    let own : body_at bodies k ≡ standing_body x = subst (λ n. body_at bodies n ≡ standing_body x) here (at 0 x (omega arith)) in
    let rest : (j : ℕ) (d : Stand) → j < length xs → body_at bodies (k + 1 + j) ≡ standing_body (get_or xs j d) =
    λ j d lt. let next : k + suc j ≡ k + 1 + j = omega arith in subst (λ n. body_at bodies n ≡ standing_body (get_or xs j d)) next (at (suc j) d (omega arith)) in
    AllPairs-append (Untouched bodies) (map (sphere_of k) (balls_of templates x.t)) (spheres_from templates (k + 1) (map standing xs))
    (same-clump bodies k (balls_of templates x.t))
    (spheres-untouched gap templates bodies (k + 1) xs rest (λ i j d before lt. clear (suc i) (suc j) d (omega arith) (omega arith)))
    (All-map (λ (u : Sphere). All (Untouched bodies u) (spheres_from templates (k + 1) (map standing xs))) (sphere_of k) (balls_of templates x.t)
    (λ i d lt. All-spheres (Untouched bodies (sphere_of k (get_or (balls_of templates x.t) i d))) templates (k + 1) xs
    (λ j e there. λ n f last.
    clear-untouched gap bodies x (get_or xs j e) k (k + 1 + j) (get_or (balls_of templates x.t) i d) (get_or (balls_of templates (get_or xs j e).t) n f) own (rest j e there)
    (clear 0 (suc j) e (omega arith) (omega arith) i d lt n f last))))

-- the bodies of a scene with stands
stand-body : (s : SceneValue) (stands : List Stand) (j : ℕ) (d : Stand) → j < length stands → body_at (first_state (with_stands s stands)).bodies (0 + j) ≡ standing_body (get_or stands j d)
unfolding body_at first_state
stand-body s stands j d there =
    let from-start : 0 + j ≡ j = omega arith in
    ap (λ n. get_or (map (λ (c : Clump). c.body) (map standing stands)) n still_body) from-start
    ∙ get_or-map (λ (c : Clump). c.body) (map standing stands) j (standing d) still_body (omega (arith, length-map stands standing))
    ∙ ap (λ (c : Clump). c.body) (get_or-map standing stands j d (standing d) there)

-- a pair of spheres of different clumps
pair-untouched : (s : SceneValue) (p : Pair) (bodies : List Body) → AllPairs (Untouched bodies) (spheres_of s) → p.a < p.b → p.b < sphere_count s → ((sphere_at s p.a).clump ≡ (sphere_at s p.b).clump → ⊥)
    → touch_of s (centers_of s bodies) p ≡ None
unfolding touch_of center_at centers_of sphere_at sphere_count
pair-untouched s p bodies clear before there differ =
    let spheres = spheres_of s in
    let first : center_at (centers_of s bodies) p.a ≡ placed bodies (get_or spheres p.a no_sphere) = get_or-map (placed bodies) spheres p.a no_sphere (narrowed no_vector) (omega arith) in
    let second : center_at (centers_of s bodies) p.b ≡ placed bodies (get_or spheres p.b no_sphere) = get_or-map (placed bodies) spheres p.b no_sphere (narrowed no_vector) there in
    rw (lt-ltb p.b (length spheres) there)
    (ap (λ (c : Vec3). spheres_touch (difference_of (widened c) (widened (center_at (centers_of s bodies) p.b))) ((get_or spheres p.a no_sphere).ball.r + (get_or spheres p.b no_sphere).ball.r)) first
    ∙ ap (λ (c : Vec3). spheres_touch (difference_of (widened (placed bodies (get_or spheres p.a no_sphere))) (widened c)) ((get_or spheres p.a no_sphere).ball.r + (get_or spheres p.b no_sphere).ball.r)) second
    ∙ clear p.a p.b no_sphere before there differ)

-- all spheres of the scene
of-scene : (gap : ℕ) (s : SceneValue) (stands : List Stand) → AllPairs (StandClear gap s.templates) stands → AllPairs (Untouched (first_state (with_stands s stands)).bodies) (spheres_of (with_stands s stands))
unfolding spheres_of
of-scene gap s stands clear = spheres-untouched gap s.templates (first_state (with_stands s stands)).bodies 0 stands (stand-body s stands) clear

-- no two spheres touch where a scene with the stands begins
pub begins-apart : (gap : ℕ) (s : SceneValue) (stands : List Stand) → AllPairs (StandClear gap s.templates) stands → BeginsApart (with_stands s stands)
begins-apart gap s stands clear = λ p before there differ.
    let w = with_stands s stands in
    pair-untouched w p (first_state w).bodies (of-scene gap s stands clear) before there differ
