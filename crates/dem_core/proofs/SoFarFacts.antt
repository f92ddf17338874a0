-- What a run on lists has written so far: after each call, as a prefix of the output, and at its end.
use Rattle.std.proofs.Common.{◌≡◌, ℕ, true, List, [], ◌++◌, None, Some, Option, Result, Ok, Err, refl, sym, ap, ◌∙◌, subst, append_assoc, append-nil}
use Rattle.dem_model.specs.SceneValue.{SceneValue}
use Rattle.dem_model.specs.Step.{step_of}
use Rattle.dem_model.specs.Plain.{first_state, plain_at, last_of}
use Rattle.dem_model.specs.Frames.{last_text}
use Rattle.dem_model.specs.declared.state.Pair.{Pair}
use Rattle.dem_model.specs.declared.state.State.{State}
use Rattle.dem_model.specs.declared.state.End.{End}
use Rattle.dem_model.specs.declared.state.Last.{Last}
use Rattle.dem_model.specs.declared.state.Last.TheVariants.{Done, Passed}
use Rattle.dem_plain.proofs.RunFacts.{plain_first}
use Rattle.dem_step.proofs.StepFacts.{plain-after}
use Rattle.dem_model.specs.Output.{due_text, rest_of, output_of}
use Rattle.dem_output.proofs.RunLaw.{step_of-step}
use Rattle.dem_model.specs.World.{Course, may_step, done_at, end_text, reached_text, step_text, after_step, stepped, with_list, first_course}
use Rattle.dem_core.specs.Courses.{IsOnCourse, HasEnd}
use Rattle.dem_core.specs.SoFar.{frames_to, text_so_far}
use Rattle.dem_core.proofs.OutputFacts.{frames_to-next, frames_to-first, output-cut, output-done, output-passed}
use Rattle.dem_core.proofs.CourseFacts.{GoesOn, may-goes_on, first-number}

-- at its start
pub text-first : (s : SceneValue) → text_so_far s (first_course s) ≡ reached_text s (first_state s)
unfolding text_so_far first_course reached_text
text-first s =
    let number = first-number s in
    ap (λ n. frames_to s n ++ end_text (done_at s 0)) number
    ∙ ap (λ l. l ++ end_text (done_at s 0)) (frames_to-first s (first_state s) (plain_first s))
    ∙ ap (λ n. due_text s (first_state s) ++ end_text (done_at s n)) (sym number)

text-after : (s : SceneValue) (drift : ℕ) (c : Course) (r : Result State End) → IsOnCourse s drift c → GoesOn s drift c → step_of s c.state ≡ r
    → text_so_far s (after_step s c r) ≡ frames_to s c.state.step ++ step_text s r
unfolding text_so_far after_step step_text reached_text
text-after s drift c (Ok next) h g is =
    let number = step_of-step s c.state next is in
    ap (λ n. frames_to s n ++ end_text (done_at s next.step)) number
    ∙ ap (λ l. l ++ end_text (done_at s next.step)) (frames_to-next s c.state.step next (plain-after s c.state.step c.state next h.plain g.left is))
    ∙ append_assoc (frames_to s c.state.step) (due_text s next) (end_text (done_at s next.step))
text-after s drift c (Err e) h g is = unfold end_text in refl

text-open : (s : SceneValue) (c : Course) → c.last ≡ None → text_so_far s c ≡ frames_to s c.state.step
unfolding text_so_far end_text
text-open s c none = ap (λ o. frames_to s c.state.step ++ end_text o) none ∙ append-nil (frames_to s c.state.step)

-- after a step
pub text-stepped : (s : SceneValue) (drift : ℕ) (c : Course) → IsOnCourse s drift c → may_step s drift c ≡ true → text_so_far s (stepped s c) ≡ text_so_far s c ++ step_text s (step_of s c.state)
unfolding stepped
text-stepped s drift c h may =
    let g = may-goes_on s drift c may in
    text-after s drift c (step_of s c.state) h g refl ∙ ap (λ l. l ++ step_text s (step_of s c.state)) (sym (text-open s c g.no_end))

-- a list changes nothing of it
pub text-with_list : (s : SceneValue) (c : Course) (from : ℕ) (pairs : List Pair) → text_so_far s (with_list c from pairs) ≡ text_so_far s c
unfolding text_so_far with_list
text-with_list s c from pairs = refl

whole : (s : SceneValue) (drift : ℕ) (c : Course) (last : Last) → IsOnCourse s drift c → HasEnd s c (Some last) → (frames_to s c.state.step ++ last_text last ≡ output_of s) × (last ≡ last_of s)
whole s drift c (Done n) h end =
    let there : plain_at s s.steps ≡ Some c.state = subst (λ m. plain_at s m ≡ Some c.state) (sym end.1 ∙ end.2) h.plain in
    let number : c.state.step ≡ s.steps = sym end.1 ∙ end.2 in
    (ap (λ m. frames_to s m ++ last_text (Done n)) number ∙ ap (λ l. frames_to s s.steps ++ last_text l) end.0 ∙ sym (output-done s c.state there), end.0)
whole s drift c (Passed e) h end =
    (ap (λ l. frames_to s c.state.step ++ last_text l) end.0 ∙ sym (output-passed s c.state.step c.state e h.plain end.2 end.1), end.0)

-- at its end: the whole output, and the end of the plain run
pub text-ended : (s : SceneValue) (drift : ℕ) (c : Course) (last : Last) → IsOnCourse s drift c → c.last ≡ Some last → (text_so_far s c ≡ output_of s) × (last ≡ last_of s)
unfolding text_so_far end_text
text-ended s drift c last h is =
    let all = whole s drift c last h (subst (HasEnd s c) is h.end) in
    (ap (λ o. frames_to s c.state.step ++ end_text o) is ∙ all.0, all.1)

-- always: a prefix of the output
prefix : (s : SceneValue) (drift : ℕ) (c : Course) (o : Option Last) → IsOnCourse s drift c → c.last ≡ o → HasEnd s c o → (rest : List ℕ) × (text_so_far s c ++ rest ≡ output_of s)
prefix s drift c None h is end = (
  rest_of s c.state,
  ap (λ l. l ++ rest_of s c.state) (text-open s c is) ∙ sym (output-cut s c.state.step c.state h.plain),
)
prefix s drift c (Some last) h is end = ([], append-nil (text_so_far s c) ∙ (text-ended s drift c last h is).0)

pub text-prefix : (s : SceneValue) (drift : ℕ) (c : Course) → IsOnCourse s drift c → (rest : List ℕ) × (text_so_far s c ++ rest ≡ output_of s)
text-prefix s drift c h = prefix s drift c c.last h refl h.end
