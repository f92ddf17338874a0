-- The advance of a step, shared among threads: what it is made from, and what a part of the clumps comes to.
use Rattle.std.specs.Prelude.{ℕ, ◌-◌, ◌≡◌, ◌<◌, ◌≤◌, List, length, slice_index_or, Result, Ok, Err}
use Rattle.dem_model.specs.SceneValue.{SceneValue}
use Rattle.dem_model.specs.Advance.{advance_of}
use Rattle.dem_model.specs.Centers.{body_at}
use Rattle.dem_model.specs.Motion.{AreSound}
use Rattle.dem_model.specs.Sound.{IsBodyOf}
use Rattle.dem_model.specs.Step.{clump_at, no_load}
use Rattle.dem_model.specs.declared.law.Load.{Load}
use Rattle.dem_model.specs.declared.state.Body.{Body}
use Rattle.dem_model.specs.declared.state.End.{End}
use Rattle.dem_model.specs.declared.state.EndKind.{EndKind}
use Rattle.dem_shape.specs.Matrices.{AreMatrices}
use Rattle.dem_shape.specs.declared.matrices.Turn.{Turn}
use Rattle.dem_force.specs.Loads.{AreLoads}

-- what an advance is made from: the bodies, sound and as they are stored, their matrices, and loads within the bounds
pub record CanAdvance (s : SceneValue) (stored bodies : List Body) (turns : List Turn) (loads : List Load) : Type 0 where
  pub sound : AreSound s bodies
  pub same : stored ≡ bodies
  pub matrices : AreMatrices s bodies turns
  pub within : AreLoads s loads

-- the body of a clump after the step, or the limit that it passes
abbrev pub advanced_at : SceneValue → List Body → List Load → ℕ → Result Body EndKind
advanced_at s bodies loads k = advance_of s (clump_at s k) (body_at bodies k) (slice_index_or loads k no_load)

-- this is the body of a clump after the step, and sound for it
pub record IsAdvanced (s : SceneValue) (bodies : List Body) (loads : List Load) (k : ℕ) (b : Body) : Type 0 where
  pub value : advanced_at s bodies loads k ≡ Ok b
  pub sound : IsBodyOf s (clump_at s k) b

-- the bodies of a part are those after the step, from one clump to before another
abbrev pub AreAdvancedBetween : SceneValue → List Body → List Load → ℕ → ℕ → List Body → Type 0
AreAdvancedBetween s bodies loads from to next = (k : ℕ) → from ≤ k → k < to → IsAdvanced s bodies loads k (body_at next (k - from))

-- a clump of a part ends the step, and those before it in the part have these bodies after it
pub record EndsBetween (s : SceneValue) (step : ℕ) (bodies : List Body) (loads : List Load) (from to : ℕ) (end : End) : Type 0 where
  pub before : List Body
  pub count : length before ≡ end.clump - from
  pub advanced : AreAdvancedBetween s bodies loads from end.clump before
  pub past : from ≤ end.clump
  pub below : end.clump < to
  pub number : end.step ≡ step
  pub kind : advanced_at s bodies loads end.clump ≡ Err end.kind

-- what a part comes to: its bodies after the step, or the first of its clumps that ends it
abbrev pub AdvancesBetween : {A : Type 0} → SceneValue → ℕ → List Body → List Load → ℕ → ℕ → List Body → Result A End → Type 0
AdvancesBetween s step bodies loads from to next (Ok _) = AreAdvancedBetween s bodies loads from to next
AdvancesBetween s step bodies loads from to next (Err e) = EndsBetween s step bodies loads from to e

-- the first end of two parts, where one ends
abbrev pub first_end : {A : Type 0} → Result A End → Result A End → Result A End
first_end (Ok _) there = there
first_end (Err e) there = Err e
