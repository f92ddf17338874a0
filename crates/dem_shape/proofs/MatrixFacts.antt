-- How the matrices of the bodies are made, clump by clump.
use Rattle.std.proofs.Common.{◌≡◌, ℕ, ◌+◌, ◌<◌, ◌≤◌, List, length, get_or, set, sym, ap, ◌∙◌, arith, inl, inr}
use Rattle.std.specs.Prelude.{All}
use Rattle.std.proofs.lemmas.Bool.{cases_lt}
use Rattle.std.proofs.lemmas.List.{length-set, get_or-set_other, get_or_default}
use Rattle.std.proofs.lemmas.List.Elements.{All-set, All-get_or}
use Rattle.std.proofs.lemmas.Grind.{get_or-set_at}
use Rattle.dem_num.specs.declared.vector.Quat.{Quat}
use Rattle.dem_num.specs.Rotations.{matrix_of}
use Rattle.dem_model.specs.SceneValue.{SceneValue}
use Rattle.dem_model.specs.Centers.{body_at}
use Rattle.dem_model.specs.declared.state.Body.{Body}
use Rattle.dem_shape.specs.declared.matrices.Turn.{Turn}
use Rattle.dem_shape.specs.Matrices.{no_turn, IsTurn, AreMatrices}

-- each of these is a quaternion and its matrix, and those below i are of the bodies
pub record MatricesBelow (s : SceneValue) (bodies : List Body) (i : ℕ) (turns : List Turn) : Type 0 where
  pub count : length turns ≡ length s.clumps
  pub turns_are : All IsTurn turns
  pub each : (k : ℕ) → k < i → (get_or turns k no_turn).q ≡ (body_at bodies k).q

-- one more is of the bodies as it is
pub MatricesBelow-kept : (s : SceneValue) (bodies : List Body) (i : ℕ) (turns : List Turn) (d : Turn) (q : Quat) → i < length s.clumps →
    (get_or turns i d).q ≡ q → q ≡ (body_at bodies i).q → MatricesBelow s bodies i turns → MatricesBelow s bodies (i + 1) turns
MatricesBelow-kept s bodies i turns d q lt here e h = record {
  count = h.count;
  turns_are = h.turns_are;
  each = λ k below. elim (cases_lt k i) [
    | inl l ↦ h.each k l
    | inr g ↦
        let same : k ≡ i = omega arith in
        ap (λ n. (get_or turns n no_turn).q) same ∙ ap (λ (t : Turn). t.q) (get_or_default turns i no_turn d (omega (arith, h.count))) ∙ here ∙ e ∙ ap (λ n. (body_at bodies n).q) (sym same)
  ];
}

-- one more is put
pub MatricesBelow-more : (s : SceneValue) (bodies : List Body) (i : ℕ) (turns : List Turn) (x : Turn) (q : Quat) → i < length s.clumps →
    IsTurn x → x.q ≡ q → q ≡ (body_at bodies i).q → MatricesBelow s bodies i turns → MatricesBelow s bodies (i + 1) (set turns i x)
MatricesBelow-more s bodies i turns x q lt turn is e h = record {
  count = length-set turns i x ∙ h.count;
  turns_are = All-set IsTurn turns i x turn h.turns_are;
  each = λ k below. elim (cases_lt k i) [
    | inl l ↦ ap (λ (t : Turn). t.q) (get_or-set_other turns i k x no_turn (λ (e : k ≡ i). omega arith)) ∙ h.each k l
    | inr g ↦
        let same : k ≡ i = omega arith in
        ap (λ (t : Turn). t.q) (get_or-set_at turns i k x no_turn same (omega (arith, h.count))) ∙ is ∙ e ∙ ap (λ n. (body_at bodies n).q) (sym same)
  ];
}

-- all are of the bodies
pub MatricesBelow-all : (s : SceneValue) (bodies : List Body) (i : ℕ) (turns : List Turn) → length s.clumps ≤ i → MatricesBelow s bodies i turns → AreMatrices s bodies turns
MatricesBelow-all s bodies i turns le h = record {
  count = h.count;
  each = λ k lt. (All-get_or IsTurn turns k no_turn (omega (arith, h.count)) h.turns_are).rows ∙ ap matrix_of (h.each k (omega arith));
  small = λ k lt. (All-get_or IsTurn turns k no_turn (omega (arith, h.count)) h.turns_are).entries;
}
