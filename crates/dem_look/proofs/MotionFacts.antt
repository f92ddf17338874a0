-- What is read of a clump: its mass and its speed.
use Rattle.std.proofs.Common.{◌≡◌, ℕ, ◌+◌, ◌*◌, ◌^◌, ◌<◌, ◌≤◌, List, length, get_or, Some, refl, sym, ap, ap₂, ◌∙◌, arith, subst}
use Rattle.std.specs.Prelude.{slice_get}
use Rattle.std.specs.List.{range_with_len, sum_by}
use Rattle.std.proofs.lemmas.List.Sums.{sum_by_push}
use Rattle.std.proofs.lemmas.Option.{get_or_from_slice_get}
use Rattle.dem_num.specs.Vectors.{widened, Within, norm2_of}
use Rattle.dem_num.proofs.VectorSizes.{within_wider, norm2_le}
use Rattle.dem_model.specs.SceneValue.{SceneValue}
use Rattle.dem_model.specs.Advance.{mass_of}
use Rattle.dem_model.specs.Centers.{body_at, still_body}
use Rattle.dem_model.specs.Motion.{AreSound}
use Rattle.dem_model.specs.Sound.{IsSound}
use Rattle.dem_model.specs.Step.{clump_at, no_clump}
use Rattle.dem_model.specs.declared.shape.Template.{Template}
use Rattle.dem_model.specs.declared.state.Body.{Body}
use Rattle.dem_model.specs.declared.state.Clump.{Clump}
use Rattle.dem_model.proofs.PairFacts.{range-more}

-- the mass that is read through a clump and its template
pub mass-read : (s : SceneValue) (k : ℕ) (c : Clump) (x : Template) → slice_get s.clumps k ≡ Some c → slice_get s.templates c.t ≡ Some x → x.mass ≡ mass_of s.templates (clump_at s k).t
unfolding mass_of clump_at
mass-read s k c x clump template =
    let here : get_or s.clumps k no_clump ≡ c = get_or_from_slice_get s.clumps k c no_clump clump in
    rw (here, template) refl

-- the body that is read is that of the clump
pub body-read : (bodies : List Body) (k : ℕ) (b : Body) → slice_get bodies k ≡ Some b → body_at bodies k ≡ b
unfolding body_at
body-read bodies k b there = get_or_from_slice_get bodies k b still_body there

-- its speed is within the scene's limit
pub speed-within : (s : SceneValue) (bodies : List Body) (k : ℕ) (b : Body) → IsSound s → AreSound s bodies → k < length s.clumps → slice_get bodies k ≡ Some b → Within (widened b.v) (2 ^ 40)
speed-within s bodies k b scene sound lt there =
    within_wider (widened b.v) s.speed (2 ^ 40) (subst (λ (x : Body). Within (widened x.v) s.speed) (body-read bodies k b there) (sound.each k lt).body.v) (omega (arith, scene.speed.le_high))

pub speed-size : (s : SceneValue) (bodies : List Body) (k : ℕ) (b : Body) → IsSound s → AreSound s bodies → k < length s.clumps → slice_get bodies k ≡ Some b
    → norm2_of (widened b.v) ≤ 3 * 2 ^ 80
speed-size s bodies k b scene sound lt there = omega (arith, norm2_le (widened b.v) (2 ^ 40) (speed-within s bodies k b scene sound lt there))

-- one more number in a sum
pub sum-more : (f : ℕ → ℕ) (k sum more : ℕ) → sum ≡ sum_by f (range_with_len 0 k) → more ≡ f k → sum + more ≡ sum_by f (range_with_len 0 (k + 1))
sum-more f k sum more before next =
    ap₂ (λ (m n : ℕ). m + n) before next ∙ sym (sum_by_push f (range_with_len 0 k) k) ∙ ap (sum_by f) (sym (range-more k))
