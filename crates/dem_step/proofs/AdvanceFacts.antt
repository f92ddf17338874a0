-- Parts of an advance: one clump more, two parts put together, and the whole.
use Rattle.std.proofs.Common.{◌≡◌, ℕ, zero, suc, ◌+◌, ◌-◌, ◌<◌, ◌≤◌, List, ◌++◌, length, get_or, take, map, refl, sym, ap, ◌∙◌, arith, subst, inl, inr, Result, Ok, Err, add-one}
use Rattle.std.specs.Prelude.{IfErr, OnOk, slice_set}
use Rattle.std.proofs.lemmas.Bool.{cases_lt}
use Rattle.std.proofs.lemmas.List.{get_or_default, get_or_append_left, get_or-append_right, get_or-set_same, get_or-set_other, get_or-take, length-append, length-map, length-take-le}
use Rattle.std.proofs.lemmas.Option.{slice_get-get_or}
use Rattle.dem_model.specs.SceneValue.{SceneValue}
use Rattle.dem_model.specs.Advance.{advance_of}
use Rattle.dem_model.specs.Centers.{body_at, still_body}
use Rattle.dem_model.specs.Motion.{AreSound}
use Rattle.dem_model.specs.Step.{advanced_from, clump_at, no_load}
use Rattle.dem_model.specs.declared.law.Load.{Load}
use Rattle.dem_model.specs.declared.state.Body.{Body}
use Rattle.dem_model.specs.declared.state.End.{End}
use Rattle.dem_model.specs.declared.state.EndKind.{EndKind}
use Rattle.dem_plain.proofs.RunFacts.{AreAdvanced, AreAdvanced-none, AreAdvanced-more, advanced_ends, advanced_all}
use Rattle.dem_step.specs.Advancing.{advanced_at, IsAdvanced, AreAdvancedBetween, EndsBetween, AdvancesBetween, first_end}
use Rattle.dem_step.specs.Stored.{body_of}
use Rattle.dem_step.specs.declared.stored.Stored.{Stored}
use Rattle.dem_step.proofs.RoomFacts.{take-next, take-whole}

-- the body of a clump after the step is what the body and the load that were read for it come to
pub advanced-read : (s : SceneValue) (bodies : List Body) (loads : List Load) (k : ℕ) (d : Body) (e : Load) (r : Result Body EndKind) → k < length bodies → k < length loads →
    r ≡ advance_of s (clump_at s k) (get_or bodies k d) (get_or loads k e) → advanced_at s bodies loads k ≡ r
unfolding body_at
advanced-read s bodies loads k d e r there loaded is =
    sym (is
    ∙ ap (λ (b : Body). advance_of s (clump_at s k) b (get_or loads k e)) (get_or_default bodies k d still_body there)
    ∙ ap (λ (w : Load). advance_of s (clump_at s k) (get_or bodies k still_body) w) (get_or_default loads k e no_load loaded))

-- no clump of a part has advanced yet
pub advanced-none : (s : SceneValue) (bodies : List Body) (loads : List Load) (from : ℕ) (next : List Body) → AreAdvancedBetween s bodies loads from from next
advanced-none s bodies loads from next k le lt = absurd (omega (arith, le, lt))

-- one more clump of a part has advanced
pub advanced-more : (s : SceneValue) (bodies : List Body) (loads : List Load) (from i : ℕ) (next : List Body) (b : Body) → from ≤ i → i - from < length next →
    IsAdvanced s bodies loads i b → AreAdvancedBetween s bodies loads from i next → AreAdvancedBetween s bodies loads from (i + 1) (slice_set next (i - from) b)
unfolding body_at
advanced-more s bodies loads from i next b order room one before k le lt =
    elim (cases_lt k i) [
      | inl earlier ↦ subst (IsAdvanced s bodies loads k) (sym (get_or-set_other next (i - from) (k - from) b still_body (λ e. omega (arith, e, earlier, le)))) (before k le earlier)
      | inr last ↦
          let here : i ≡ k = omega (arith, lt, last) in
          subst (λ n. IsAdvanced s bodies loads n (get_or (slice_set next (i - from) b) (n - from) still_body)) here
          (subst (IsAdvanced s bodies loads i) (sym (get_or-set_same next (i - from) b still_body room)) one)
    ]

-- a clump of a part passes a limit, after those before it have advanced
pub ends-here : (s : SceneValue) (step : ℕ) (bodies : List Body) (loads : List Load) (from to i : ℕ) (next : List Body) (kind : EndKind) → from ≤ i → i < to → i - from ≤ length next →
    advanced_at s bodies loads i ≡ Err kind → AreAdvancedBetween s bodies loads from i next → EndsBetween s step bodies loads from to (record { step = step; kind = kind; clump = i })
unfolding body_at
ends-here s step bodies loads from to i next kind order below room fails before = record {
  before = take (i - from) next;
  count = length-take-le (i - from) next room;
  advanced = λ k le lt. subst (IsAdvanced s bodies loads k) (sym (get_or-take (i - from) next (k - from) still_body (omega (arith, le, lt)))) (before k le lt);
  past = order;
  below = below;
  number = refl;
  kind = fails;
}

-- two parts, of which the first has advanced
advanced-both : (s : SceneValue) (bodies : List Body) (loads : List Load) (from middle to : ℕ) (front back : List Body) → length front + from ≡ middle →
    AreAdvancedBetween s bodies loads from middle front → AreAdvancedBetween s bodies loads middle to back → AreAdvancedBetween s bodies loads from to (front ++ back)
unfolding body_at
advanced-both s bodies loads from middle to front back count first second k le lt =
    elim (cases_lt k middle) [
      | inl earlier ↦ subst (IsAdvanced s bodies loads k) (sym (get_or_append_left front back still_body (k - from) (omega (arith, le, earlier, count)))) (first k le earlier)
      | inr later ↦
          let place : (k - from) - length front ≡ k - middle = omega (arith, le, later, count) in
          let read : get_or (front ++ back) (k - from) still_body ≡ get_or back (k - middle) still_body =
          get_or-append_right front back (length front) (k - from) still_body refl (omega (arith, le, later, count)) ∙ ap (λ n. get_or back n still_body) place in
          subst (IsAdvanced s bodies loads k) (sym read) (second k later lt)
    ]

-- what two parts come to is what their clumps together come to
pub advances-join : {A : Type 0} (s : SceneValue) (step : ℕ) (bodies : List Body) (loads : List Load) (from middle to : ℕ) (front back : List Body) (here there : Result A End) →
    from ≤ middle → middle ≤ to → length front + from ≡ middle →
    AdvancesBetween s step bodies loads from middle front here → AdvancesBetween s step bodies loads middle to back there →
    AdvancesBetween s step bodies loads from to (front ++ back) (first_end here there)
advances-join s step bodies loads from middle to front back (Ok x) (Ok y) order rest count first second = advanced-both s bodies loads from middle to front back count first second
advances-join s step bodies loads from middle to front back (Ok x) (Err e) order rest count first second = record {
  before = front ++ second.before;
  count = length-append front second.before ∙ omega (arith, count, second.count, second.past);
  advanced = advanced-both s bodies loads from middle e.clump front second.before count first second.advanced;
  past = omega (arith, order, second.past);
  below = second.below;
  number = second.number;
  kind = second.kind;
}
advances-join s step bodies loads from middle to front back (Err e) there order rest count first second = record {
  before = first.before;
  count = first.count;
  advanced = first.advanced;
  past = first.past;
  below = omega (arith, rest, first.below);
  number = first.number;
  kind = first.kind;
}

-- the first clumps of a step, in the words of the plain run
advanced-first : (s : SceneValue) (step : ℕ) (bodies : List Body) (loads : List Load) (next : List Body) (n : ℕ) → n ≤ length s.clumps → n ≤ length next →
    length bodies ≡ length s.clumps → length loads ≡ length s.clumps → AreAdvancedBetween s bodies loads 0 n next → AreAdvanced s step bodies loads n (take n next)
unfolding body_at
advanced-first s step bodies loads next zero there room lb lw each = AreAdvanced-none s step bodies loads (take zero next) refl
advanced-first s step bodies loads next (suc n) there room lb lw each =
    let lt : n < length next = omega (arith, room) in
    let place : n - 0 ≡ n = omega arith in
    let one : IsAdvanced s bodies loads n (get_or next n still_body) = subst (λ k. IsAdvanced s bodies loads n (get_or next k still_body)) place (each n (omega arith) (omega arith)) in
    subst (λ k. AreAdvanced s step bodies loads k (take k next)) (add-one n)
    (AreAdvanced-more s step bodies loads n (take n next) (take (n + 1) next) still_body no_load (get_or next n still_body) (omega (arith, there)) lb lw one.value one.sound
    (take-next next n (get_or next n still_body) (slice_get-get_or next n still_body lt))
    (advanced-first s step bodies loads next n (omega (arith, there)) (omega (arith, room)) lb lw (λ k le below. each k le (omega (arith, below)))))

-- what the whole comes to: the bodies of the plain step, each sound for its clump, or its end
abbrev pub IsWhole : {A : Type 0} → SceneValue → ℕ → List Body → List Load → List Body → Result A End → Type 0
IsWhole s step bodies loads next r =
    OnOk r (advanced_from s step 0 s.clumps bodies loads ≡ Ok next)
    × OnOk r (AreSound s next)
    × IfErr r (λ end. advanced_from s step 0 s.clumps bodies loads ≡ Err end)

-- all clumps as one part
advances-whole : {A : Type 0} (s : SceneValue) (step : ℕ) (bodies : List Body) (loads : List Load) (n : ℕ) (next : List Body) (r : Result A End) →
    n ≡ length s.clumps → length next ≡ n → length bodies ≡ length s.clumps → length loads ≡ length s.clumps →
    AdvancesBetween s step bodies loads 0 n next r → IsWhole s step bodies loads next r
advances-whole s step bodies loads n next (Ok x) e room lb lw each =
    let plain = advanced-first s step bodies loads next n (omega (arith, e)) (omega (arith, room)) lb lw each in
    let all = advanced_all s step bodies loads n (take n next) e plain in
    let whole : take n next ≡ next = take-whole next n (omega (arith, room)) in
    (all.0 ∙ ap Ok whole, subst (AreSound s) whole all.1, tt)
advances-whole s step bodies loads n next (Err end) e room lb lw ends =
    let size : length ends.before ≡ end.clump = omega (arith, ends.count) in
    let plain = advanced-first s step bodies loads ends.before end.clump (omega (arith, ends.below, e)) (omega (arith, size)) lb lw ends.advanced in
    let fails = advanced_ends s step bodies loads end.clump (take end.clump ends.before) still_body no_load end.kind (omega (arith, ends.below, e)) lb lw (unfold body_at in ends.kind) plain in
    (tt, tt, fails ∙ ap (λ (k : ℕ). let x : End = record { step = k; kind = end.kind; clump = end.clump } in Err x) (sym ends.number))

-- all clumps as one part, whose bodies are stored in these places
pub advances-all : {A : Type 0} (s : SceneValue) (step : ℕ) (bodies : List Body) (loads : List Load) (n : ℕ) (next room : List Stored) (r : Result A End) →
    n ≡ length s.clumps → length next ≡ n → length bodies ≡ length s.clumps → length loads ≡ length s.clumps → room ≡ next →
    AdvancesBetween s step bodies loads 0 n (map body_of next) r → IsWhole s step bodies loads (map body_of room) r
advances-all s step bodies loads n next room r e size lb lw same part =
    subst (λ xs. IsWhole s step bodies loads (map body_of xs) r) (sym same) (advances-whole s step bodies loads n (map body_of next) r e (length-map next body_of ∙ size) lb lw part)
