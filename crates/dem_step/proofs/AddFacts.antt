-- Loads that are added place by place.
use Rattle.std.proofs.Common.{◌≡◌, ℕ, ◌+◌, ◌<◌, List, length, get_or, ap, ◌∙◌, subst, arith, inl, inr}
use Rattle.std.specs.Prelude.{slice_set}
use Rattle.std.proofs.lemmas.Bool.{cases_lt}
use Rattle.std.proofs.lemmas.List.{get_or-set_other, get_or-set_same, length-set}
use Rattle.dem_model.specs.Step.{no_load}
use Rattle.dem_model.specs.declared.law.Load.{Load}
use Rattle.dem_step.specs.Split.{both_loads, AreAdded}

-- one more load is added
pub added-more : (old others now : List Load) (i : ℕ) → i < length old → AreAdded old others now i →
    AreAdded old others (slice_set now i (both_loads (get_or now i no_load) (get_or others i no_load))) (i + 1)
added-more old others now i lt added =
    let more : Load = both_loads (get_or now i no_load) (get_or others i no_load) in
    record {
      size = length-set now i more ∙ added.size;
      done = λ c before below. elim (cases_lt c i) [
        | inl earlier ↦ get_or-set_other now i c more no_load (λ e. omega (arith, e, earlier)) ∙ added.done c earlier below
        | inr last ↦
            let here : i ≡ c = omega (arith, before, last) in
            subst (λ k. get_or (slice_set now i more) k no_load ≡ both_loads (get_or old k no_load) (get_or others k no_load)) here
            (get_or-set_same now i more no_load (omega (arith, lt, added.size)) ∙ ap (λ w. both_loads w (get_or others i no_load)) (added.rest i (omega arith)))
      ];
      rest = λ c le. get_or-set_other now i c more no_load (λ e. omega (arith, e, le)) ∙ added.rest c (omega (arith, le));
    }
