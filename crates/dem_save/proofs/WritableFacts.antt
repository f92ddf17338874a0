-- A frame can hold each fit state, so that it loads as that state.
use Rattle.std.proofs.Common.{◌≡◌, ◌∙◌, ◌^◌, ◌<◌, ◌≤◌, true, List, [], ◌∷◌, length, get_or, Some, None, Ok, All, sym, ap, refl, subst, arith, ℕ}
use Rattle.std.specs.Prelude.{nat_lt}
use Rattle.std.specs.List.Sorted.{IsStrictlySortedBy}
use Rattle.std.specs.declared.cmp.Ordering.TheVariants.{Less}
use Rattle.std.proofs.lemmas.Bool.{and_parts, ltb-true}
use Rattle.std.proofs.lemmas.Bool.Decides.{nat_tests}
use Rattle.std.proofs.lemmas.List.{get_or_default}
use Rattle.dem_num.specs.Vectors.{widened, Within}
use Rattle.dem_num.specs.Rotations.{QuatWithin}
use Rattle.dem_num.proofs.QuatSizes.{quat_within}
use Rattle.dem_num.proofs.VectorSizes.{within_wider}
use Rattle.dem_model.specs.SceneValue.{SceneValue}
use Rattle.dem_model.specs.Centers.{body_at, still_body}
use Rattle.dem_model.specs.Fit.{held_pairs, IsFit}
use Rattle.dem_model.specs.Frames.{state_text}
use Rattle.dem_model.specs.Motion.{IsPair}
use Rattle.dem_model.specs.Pairs.{sphere_count, limit_of, apart, pair_cmp}
use Rattle.dem_model.specs.Sound.{IsBody, IsSound}
use Rattle.dem_model.specs.declared.state.Body.{Body}
use Rattle.dem_model.specs.declared.state.Held.{Held}
use Rattle.dem_model.specs.declared.state.Pair.{Pair}
use Rattle.dem_model.specs.declared.state.State.{State}
use Rattle.dem_shape.proofs.PoseFacts.{in_box-small}
use Rattle.dem_frame.specs.PartialFrames.{frame_of}
use Rattle.dem_frame.specs.Records.{continues, comes_after}
use Rattle.dem_frame.specs.ReadBack.{BodyFits, IsOrdered, Ascends, IsWritable}
use Rattle.dem_frame.proofs.ReadOnFacts.{fits_stored}
use Rattle.dem_frame.proofs.ReadBackFacts.{state_frame}
use Rattle.dem_save.specs.Loaded.{then_checked, loaded_of}
use Rattle.dem_save.proofs.CheckFacts.{fit-checked}

-- the numbers of a body within the limits fit
body-fits : (s : SceneValue) (b : Body) → IsSound s → IsBody s b → BodyFits b
body-fits s b sound h =
    let p : Within (widened b.p) (2 ^ 40) = within_wider (widened b.p) (2 ^ 36) (2 ^ 40) (in_box-small s (widened b.p) sound h.p) (omega arith) in
    let v : Within (widened b.v) (2 ^ 40) = within_wider (widened b.v) s.speed (2 ^ 40) h.v sound.speed.le_high in
    let spin : s.spin ≤ 2 ^ 40 = let most : s.spin ≤ 2 ^ 28 = sound.spin.le_high in omega arith in
    let w : Within (widened b.w) (2 ^ 40) = within_wider (widened b.w) s.spin (2 ^ 40) h.w spin in
    let q : QuatWithin b.q (2 ^ 31) = quat_within b.q (2 ^ 31) h.q.le_high in
    let qa = q.a in
    let qb = q.b in
    let qc = q.c in
    let qd = q.d in (
      fits_stored b.p.x p.x,
      (
        fits_stored b.p.y p.y,
        (
          fits_stored b.p.z p.z,
          (
            fits_stored b.v.x v.x,
            (
              fits_stored b.v.y v.y,
              (
                fits_stored b.v.z v.z,
                (
                  fits_stored b.q.a (omega arith),
                  (
                    fits_stored b.q.b (omega arith),
                    (
                      fits_stored b.q.c (omega arith),
                      (
                        fits_stored b.q.d (omega arith),
                        (fits_stored b.w.x w.x, (fits_stored b.w.y w.y, (fits_stored b.w.z w.z, tt))),
                      ),
                    ),
                  ),
                ),
              ),
            ),
          ),
        ),
      ),
    )

-- the bodies of a fit state fit
bodies-fit : (s : SceneValue) (st : State) → IsSound s → IsFit s st → All BodyFits st.bodies
unfolding body_at
bodies-fit s st sound fit k d lt =
    let sounds = fit.bodies in
    let there : k < length s.clumps = omega (arith, sounds.count) in
    subst BodyFits (sym (get_or_default st.bodies k d still_body lt)) (body-fits s (get_or st.bodies k still_body) sound (sounds.each k there).body)

-- a pair that may touch is ordered, and its numbers are small
pair-ordered : (s : SceneValue) (e : Held) → IsSound s → IsPair s e.pair → IsOrdered e
unfolding apart limit_of sphere_count
pair-ordered s e sound h =
    let later = (and_parts (nat_lt e.pair.a e.pair.b) _ h.is_apart).0 in
    let second = h.second in
    (ltb-true e.pair.a e.pair.b later, omega (arith, sound.sphere_count, sound.wall_count))

-- a pair that is less comes before
less-after : (p q : Pair) → pair_cmp p q ≡ Less → comes_after p q ≡ true
unfolding comes_after
less-after p q h = grind (arith, nat_tests)

-- pairs that ascend come one after the other
ascends-behind : (e : Held) (es : List Held) → IsStrictlySortedBy pair_cmp (held_pairs (e ∷ es)) → Ascends (Some e) es
unfolding Ascends continues IsStrictlySortedBy
ascends-behind e [] h = tt
ascends-behind e (f ∷ fs) h = (less-after e.pair f.pair h.0.0, ascends-behind f fs h.1)

ascends-all : (es : List Held) → IsStrictlySortedBy pair_cmp (held_pairs es) → Ascends None es
unfolding Ascends continues
ascends-all [] h = tt
ascends-all (e ∷ es) h = (refl, ascends-behind e es h)

-- a frame can hold a fit state
fit-writable : (s : SceneValue) (st : State) → IsSound s → IsFit s st → IsWritable st
fit-writable s st sound fit =
    let count = fit.bodies.count in
    let few = sound.clump_count.le_high in
    let step = fit.step in
    let steps = sound.steps in
    record {
      few = omega arith;
      step = omega arith;
      bodies = bodies-fit s st sound fit;
      ordered = λ k d lt. pair-ordered s (get_or st.held k d) sound (fit.pairs k d lt);
      stored = fit.stored;
      ascending = ascends-all st.held fit.ascending;
    }

-- the frame of a fit state loads as that state
pub frame-loads : (s : SceneValue) → IsSound s → (st : State) → IsFit s st → loaded_of s (state_text st) ≡ Ok st
unfolding loaded_of
frame-loads s sound st fit =
    ap (then_checked s) (state_frame st (length s.clumps) (fit-writable s st sound fit) (sym fit.bodies.count))
    ∙ fit-checked s st fit

-- the rows of a fit state load as that state
pub rows-load : (s : SceneValue) (bytes : List ℕ) (st : State) → frame_of (length s.clumps) bytes ≡ Ok st → IsFit s st → loaded_of s bytes ≡ Ok st
unfolding loaded_of
rows-load s bytes st rows fit = ap (then_checked s) rows ∙ fit-checked s st fit
