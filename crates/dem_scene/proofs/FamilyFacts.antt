-- Reading the motions one after the other, each of a later family than the one before.
use Rattle.std.proofs.Common.{◌≡◌, ℕ, suc, ◌+◌, ◌<◌, ◌≤◌, List, [], ◌∷◌, ◌++◌, length, get_or, drop, Result, Ok, Err, refl, ap, sym, ◌∙◌, append-nil, add-one, drop-cons}
use Rattle.std.proofs.Math.Seq.{drop-length}
use Rattle.serde_json.specs.declared.value.Value.{Value}
use Rattle.serde_json.specs.View.{view, items_view}
use Rattle.dem_model.specs.declared.fault.SceneFault.{SceneFault}
use Rattle.dem_model.specs.declared.family.Motion.{Motion}
use Rattle.dem_model.specs.Sound.{AreAscending}
use Rattle.dem_model.specs.Reading.{◌>>=◌}
use Rattle.dem_model.specs.ReadingKinds.{motion_of, motions_from}
use Rattle.dem_scene.proofs.Elements.{put_before, push_before}

-- what is still to be read, from place i on, of families from a least one on
unfoldable pub motions_rest : List Motion → ℕ → ℕ → List Value → Result (List Motion) SceneFault
motions_rest found least i vs = put_before found (motions_from least i (items_view (drop i vs)))

-- nothing was read yet
pub motions_start : (vs : List Value) → motions_rest [] 0 0 vs ≡ motions_from 0 0 (items_view vs)
unfolding motions_rest
motions_start vs = elim (motions_from 0 0 (items_view vs)) as (λ r. put_before [] r ≡ r) [ Ok xs ↦ refl | Err e ↦ refl ]

-- what is read at a place, and then the others
motions_step : (found : List Motion) (least i : ℕ) (vs : List Value) (v : Value) → i < length vs → v ≡ get_or vs i v → motions_rest found least i vs ≡ put_before found (motion_of least i (view v) >>= λ m. motions_from (m.id + 1) (i + 1) (items_view (drop (i + 1) vs)) >>= λ ms. Ok (m ∷ ms))
unfolding motions_rest motions_from
motions_step found least i vs v h e =
    let d : drop i vs ≡ v ∷ drop (i + 1) vs = rw add-one (drop-cons vs i v h ∙ ap (λ w. w ∷ drop (suc i) vs) (sym e)) in
    ap (λ ws. put_before found (motions_from least i (items_view ws))) d

-- one more was read
pub motions_go_on : (found : List Motion) (least i : ℕ) (vs : List Value) (v : Value) (m : Motion) → i < length vs → v ≡ get_or vs i v → motion_of least i (view v) ≡ Ok m → motions_rest found least i vs ≡ motions_rest (found ++ m ∷ []) (m.id + 1) (i + 1) vs
unfolding motions_rest
motions_go_on found least i vs v m h e r =
    motions_step found least i vs v h e ∙ ap (λ s. put_before found (s >>= λ (x : Motion). motions_from (x.id + 1) (i + 1) (items_view (drop (i + 1) vs)) >>= λ ms. Ok (x ∷ ms))) r ∙ push_before found m _

-- a fault ends the reading
pub motions_end : (found : List Motion) (least i : ℕ) (vs : List Value) (v : Value) (fault : SceneFault) → i < length vs → v ≡ get_or vs i v → motion_of least i (view v) ≡ Err fault → motions_rest found least i vs ≡ Err fault
motions_end found least i vs v fault h e r =
    motions_step found least i vs v h e ∙ ap (λ s. put_before found (s >>= λ (x : Motion). motions_from (x.id + 1) (i + 1) (items_view (drop (i + 1) vs)) >>= λ ms. Ok (x ∷ ms))) r

-- all were read
pub motions_done : (found : List Motion) (least i : ℕ) (vs : List Value) → i ≡ length vs → motions_rest found least i vs ≡ Ok found
unfolding motions_rest motions_from
motions_done found least i vs e =
    let d : drop i vs ≡ [] = rw e (drop-length vs) in
    ap (λ ws. put_before found (motions_from least i (items_view ws))) d ∙ ap Ok (append-nil found)

-- the families ascend from one on, and the next may be the last one given, or later
abbrev pub AscendTo : ℕ → List Motion → ℕ → Type 0
AscendTo from [] least = from ≡ least
AscendTo from (m ∷ ms) least = (from ≤ m.id) × AscendTo (m.id + 1) ms least

-- one more family, which may be the next
pub ascend_more : (from : ℕ) (ms : List Motion) (least : ℕ) (m : Motion) → AscendTo from ms least → least ≤ m.id → AscendTo from (ms ++ m ∷ []) (m.id + 1)
ascend_more from [] least m h le = (rw h le, refl)
ascend_more from (x ∷ xs) least m h le = (h.0, ascend_more (x.id + 1) xs least m h.1 le)

-- they ascend
pub ascend_all : (from : ℕ) (ms : List Motion) (least : ℕ) → AscendTo from ms least → AreAscending from ms
ascend_all from [] least h = tt
ascend_all from (m ∷ ms) least h = (h.0, ascend_all (m.id + 1) ms least h.1)
