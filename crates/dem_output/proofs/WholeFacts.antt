-- The output of a scene, cut at a state of the plain run: the frames up to there, and what follows.
use Rattle.std.proofs.Common.{◌≡◌, ℕ, zero, suc, ◌+◌, ◌-◌, ◌<◌, ◌≤◌, true, inl, inr, List, [], ◌∷◌, ◌++◌, Some, Result, Ok, Err, refl, sym, ap, ◌∙◌, subst, add-one, zero-add, suc-add, append_assoc, append-nil, arith}
use Rattle.std.specs.Prelude.{nat_lt, option_and_then}
use Rattle.std.specs.List.{flat_map, range_with_len}
use Rattle.std.specs.Result.{result_ok}
use Rattle.std.proofs.lemmas.Bool.{ltb-true, cases_Bool}
use Rattle.std.proofs.lemmas.Grind.{flat_map-append}
use Rattle.std.proofs.lemmas.List.Elements.{filter_map-append}
use Rattle.std.proofs.lemmas.Option.{option_and_then_some, same_Some, none-some}
use Rattle.dem_model.specs.SceneValue.{SceneValue}
use Rattle.dem_model.specs.Step.{step_of}
use Rattle.dem_model.specs.Plain.{first_state, state_after, run_after, last_after, plain_at, last_of}
use Rattle.dem_model.specs.Frames.{state_text, last_text}
use Rattle.dem_model.specs.Output.{due_text, due_state, due_states, is_due, run_text, output_of, rest_of}
use Rattle.dem_model.specs.declared.state.State.{State}
use Rattle.dem_output.proofs.RunLaw.{step_of-step, begins-at, frames_at, frames-more}
use Rattle.dem_output.proofs.RunFacts.{rest-next, last-next}

-- ---- numbers in a row

pub range-split : (a n k : ℕ) → range_with_len a (n + k) ≡ range_with_len a n ++ range_with_len (a + n) k
range-split a zero k = ap (range_with_len a) (zero-add k) ∙ ap (λ b. range_with_len b k) (sym (omega arith))
range-split a (suc n) k =
    ap (range_with_len a) (suc-add n k)
    ∙ ap (λ l. a ∷ l) (range-split (a + 1) n k)
    ∙ ap (λ b. a ∷ (range_with_len (a + 1) n ++ range_with_len b k)) (omega arith)

-- ---- the state before one that is reached

result_ok-some : {T E : Type 0} (r : Result T E) (x : T) → result_ok r ≡ Some x → r ≡ Ok x
result_ok-some (Ok y) x h = ap Ok (same_Some y x h)
result_ok-some (Err e) x h = absurd (none-some x h)

after-step : (s : SceneValue) (st next : State) → state_after s st ≡ Some next → (st.step < s.steps) × (step_of s st ≡ Ok next)
unfolding state_after
after-step s st next h = elim (cases_Bool (nat_lt st.step s.steps)) [
  | inl t ↦ (ltb-true st.step s.steps t, result_ok-some (step_of s st) next (rw t at h))
  | inr f ↦ absurd (none-some next (rw f at h))
]

-- a state of a run has one before it, whose step leads to it
pub record HasBefore (s : SceneValue) (beginning : State) (n : ℕ) (late : State) : Type 0 where
  pub before : State
  pub reached : run_after s beginning n ≡ Some before
  pub below : before.step < s.steps
  pub step : step_of s before ≡ Ok late

pub has-before : (s : SceneValue) (beginning : State) (n : ℕ) (late : State) → run_after s beginning (suc n) ≡ Some late → HasBefore s beginning n late
unfolding run_after
has-before s beginning n late h =
    option_and_then_some (state_after s) (run_after s beginning n) late h
    (λ (st : State) (is : run_after s beginning n ≡ Some st) (after : state_after s st ≡ Some late).
    let p = after-step s st late after in record { before = st; reached = is; below = p.0; step = p.1 })

-- ---- the frames up to a state

frames-append : (s : SceneValue) (beginning : State) (ns ms : List ℕ) → frames_at s beginning (ns ++ ms) ≡ frames_at s beginning ns ++ frames_at s beginning ms
unfolding due_states
frames-append s beginning ns ms =
    ap (flat_map state_text) (filter_map-append (λ n. option_and_then (due_state s) (run_after s beginning n)) ns ms)
    ∙ flat_map-append state_text (due_states s beginning ns) (due_states s beginning ms)

frames-no : (s : SceneValue) (beginning : State) → frames_at s beginning [] ≡ []
unfolding due_states
frames-no s beginning = refl

-- the frames up to a state that is reached: those before, and its own
pub frames-push : (s : SceneValue) (beginning : State) (n : ℕ) (st : State) → run_after s beginning n ≡ Some st
    → frames_at s beginning (range_with_len 0 (n + 1)) ≡ frames_at s beginning (range_with_len 0 n) ++ due_text s st
frames-push s beginning n st here =
    ap (frames_at s beginning) (range-split 0 n 1)
    ∙ frames-append s beginning (range_with_len 0 n) (range_with_len (0 + n) 1)
    ∙ ap (λ m. frames_at s beginning (range_with_len 0 n) ++ frames_at s beginning (m ∷ [])) (zero-add n)
    ∙ ap (λ l. frames_at s beginning (range_with_len 0 n) ++ l)
    (frames-more s beginning n [] st here ∙ ap (λ l. due_text s st ++ l) (frames-no s beginning) ∙ append-nil (due_text s st))

-- ---- the whole

pub first-step : (s : SceneValue) → (first_state s).step ≡ 0
unfolding first_state
first-step s = refl

-- the plain run is that from the first state
pub plain-is : (s : SceneValue) (n : ℕ) → plain_at s n ≡ run_after s (first_state s) n
unfolding plain_at
plain-is s n = refl

pub last_of-first : (s : SceneValue) → last_of s ≡ last_after s (first_state s)
unfolding last_of
last_of-first s = refl

-- the output of a whole run: the first frame, and what follows it
pub output_of-first : (s : SceneValue) → output_of s ≡ due_text s (first_state s) ++ rest_of s (first_state s)
unfolding output_of rest_of run_text
output_of-first s =
    let left : s.steps ≡ s.steps - (first_state s).step = omega (arith, first-step s) in
    ap (λ k. frames_at s (first_state s) (range_with_len 0 k) ++ last_text (last_after s (first_state s))) (add-one s.steps)
    ∙ ap (λ l. l ++ last_text (last_after s (first_state s))) (frames-more s (first_state s) 0 (range_with_len 1 s.steps) (first_state s) (begins-at s (first_state s)))
    ∙ append_assoc (due_text s (first_state s)) (frames_at s (first_state s) (range_with_len 1 s.steps)) (last_text (last_after s (first_state s)))
    ∙ ap (λ k. due_text s (first_state s) ++ (frames_at s (first_state s) (range_with_len 1 k) ++ last_text (last_after s (first_state s)))) left

-- the output cut at a state of the plain run, which ends as the run from there does
pub record IsCut (s : SceneValue) (n : ℕ) (st : State) : Type 0 where
  pub number : st.step ≡ n
  pub in_range : n ≤ s.steps
  pub ends : last_after s st ≡ last_of s
  pub output : output_of s ≡ frames_at s (first_state s) (range_with_len 0 (n + 1)) ++ rest_of s st

cut-first : (s : SceneValue) → IsCut s 0 (first_state s)
cut-first s = record {
  number = first-step s;
  in_range = omega arith;
  ends = sym (last_of-first s);
  output = output_of-first s
      ∙ ap (λ l. (l ++ due_text s (first_state s)) ++ rest_of s (first_state s)) (sym (frames-no s (first_state s)))
      ∙ ap (λ l. l ++ rest_of s (first_state s)) (sym (frames-push s (first_state s) 0 (first_state s) (begins-at s (first_state s))));
}

cut-next : (s : SceneValue) (n : ℕ) (st next : State) → IsCut s n st → st.step < s.steps → step_of s st ≡ Ok next → run_after s (first_state s) (n + 1) ≡ Some next → IsCut s (n + 1) next
cut-next s n st next cut below e there =
    let first : State = first_state s in
    let front : List ℕ = frames_at s first (range_with_len 0 (n + 1)) in
    record {
      number = step_of-step s st next e ∙ ap (λ m. m + 1) cut.number;
      in_range = omega (arith, cut.number, below);
      ends = sym (last-next s st next below e) ∙ cut.ends;
      output = cut.output
          ∙ ap (λ l. front ++ l) (rest-next s st next below e)
          ∙ sym (append_assoc front (due_text s next) (rest_of s next))
          ∙ ap (λ l. l ++ rest_of s next) (sym (frames-push s first (n + 1) next there));
    }

cut-reached : (s : SceneValue) (n : ℕ) (st : State) → run_after s (first_state s) n ≡ Some st → IsCut s n st
cut-reached s zero st h = subst (IsCut s 0) (same_Some (first_state s) st (sym (begins-at s (first_state s)) ∙ h)) (cut-first s)
cut-reached s (suc n) st h =
    let p = has-before s (first_state s) n st h in
    let there : run_after s (first_state s) (n + 1) ≡ Some st = subst (λ m. run_after s (first_state s) m ≡ Some st) (sym (add-one n)) h in
    subst (λ m. IsCut s m st) (add-one n) (cut-next s n p.before st (cut-reached s n p.before p.reached) p.below p.step there)

-- each state of the plain run cuts the output
pub cut : (s : SceneValue) (n : ℕ) (st : State) → plain_at s n ≡ Some st → IsCut s n st
cut s n st h = cut-reached s n st (sym (plain-is s n) ∙ h)

-- a frame that is due is the text of its state
due-is : (s : SceneValue) (st : State) → is_due s st.step ≡ true → due_text s st ≡ state_text st
unfolding due_text
due-is s st due = rw due refl

-- the output cut before the frame of a state that is due
pub output-due : (s : SceneValue) (n : ℕ) (st : State) → plain_at s n ≡ Some st → is_due s n ≡ true
    → output_of s ≡ frames_at s (first_state s) (range_with_len 0 n) ++ (state_text st ++ rest_of s st)
output-due s n st h due =
    let c = cut s n st h in
    let front : List ℕ = frames_at s (first_state s) (range_with_len 0 n) in
    c.output
    ∙ ap (λ l. l ++ rest_of s st) (frames-push s (first_state s) n st (sym (plain-is s n) ∙ h))
    ∙ append_assoc front (due_text s st) (rest_of s st)
    ∙ ap (λ l. front ++ (l ++ rest_of s st)) (due-is s st (ap (is_due s) c.number ∙ due))
