-- How the sides fill, sphere by sphere.
use Rattle.std.proofs.Common.{◌≡◌, ℕ, ◌+◌, ◌<◌, List, length, get_or, set, sym, ap, ◌∙◌, subst, arith, inl, inr}
use Rattle.std.proofs.lemmas.Bool.{cases_lt}
use Rattle.std.proofs.lemmas.List.{length-set, get_or-set_other}
use Rattle.std.proofs.lemmas.Grind.{get_or-set_at}
use Rattle.dem_model.specs.SceneValue.{SceneValue}
use Rattle.dem_model.specs.Pairs.{sphere_count}
use Rattle.dem_model.specs.Ranges.{IsFirst, wall_side_of}
use Rattle.dem_model.specs.Step.{side_at}
use Rattle.dem_model.specs.declared.law.Side.{Side}
use Rattle.dem_model.specs.declared.state.Body.{Body}

-- the sides below i are made
pub record AreMade (s : SceneValue) (bodies : List Body) (i : ℕ) (sides : List Side) : Type 0 where
  pub count : length sides ≡ sphere_count s
  pub each : (j : ℕ) → j < i → get_or sides j wall_side_of ≡ side_at s bodies j
  pub ranges : (j : ℕ) → j < i → IsFirst (get_or sides j wall_side_of)

-- the sides before the new one stay
before_stays : (i j : ℕ) (sides : List Side) (x : Side) → j < i → get_or (set sides i x) j wall_side_of ≡ get_or sides j wall_side_of
before_stays i j sides x lt = get_or-set_other sides i j x wall_side_of (λ (e : j ≡ i). omega arith)

-- one more side is made
pub AreMade-more : (s : SceneValue) (bodies : List Body) (i : ℕ) (sides : List Side) (x : Side) → i < sphere_count s →
    x ≡ side_at s bodies i → IsFirst x → AreMade s bodies i sides → AreMade s bodies (i + 1) (set sides i x)
AreMade-more s bodies i sides x lt e r h = record {
  count = length-set sides i x ∙ h.count;
  each = λ j below. elim (cases_lt j i) [
    | inl l ↦ before_stays i j sides x l ∙ h.each j l
    | inr g ↦
        let same : j ≡ i = omega arith in
        get_or-set_at sides i j x wall_side_of same (omega (arith, h.count)) ∙ e ∙ ap (side_at s bodies) (sym same)
  ];
  ranges = λ j below. elim (cases_lt j i) [
    | inl l ↦ subst IsFirst (sym (before_stays i j sides x l)) (h.ranges j l)
    | inr g ↦ subst IsFirst (sym (get_or-set_at sides i j x wall_side_of (omega arith) (omega (arith, h.count)))) r
  ];
}
