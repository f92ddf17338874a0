-- A run on lists as it is stored: what its calls make of what contracts see.
use Rattle.std.proofs.Common.{◌≡◌, ℕ, ◌+◌, ◌*◌, ◌^◌, ◌<◌, ◌≤◌, Bool, true, false, not, ◌&&◌, List, length, map, Option, None, Some, Err, is_some, nat_lt, refl, sym, ap, ap₂, ◌∙◌, subst, arith}
use Rattle.dem_num.specs.declared.vector.Vec3.{Vec3}
use Rattle.dem_model.specs.SceneValue.{SceneValue}
use Rattle.dem_model.specs.Sound.{IsSound}
use Rattle.dem_model.specs.Carry.{kept_of}
use Rattle.dem_model.specs.Plain.{first_state}
use Rattle.dem_model.specs.Frames.{last_text, taken_text}
use Rattle.dem_model.specs.Step.{held_at, step_of}
use Rattle.dem_model.specs.declared.state.End.{End}
use Rattle.dem_model.specs.declared.state.Last.{Last}
use Rattle.dem_model.specs.declared.state.Last.TheVariants.{Passed}
use Rattle.dem_model.specs.declared.state.Pair.{Pair}
use Rattle.dem_model.specs.declared.state.State.{State}
use Rattle.dem_list.specs.Ascending.{Pairs}
use Rattle.dem_step.specs.Contacts.{AreContacts}
use Rattle.dem_step.specs.Stepper.{Stepper, IsListOfRun, Begins, TakesList, MakesStep, IsInTime}
use Rattle.dem_model.specs.World.{Course, is_open, is_past, may_post, may_step, done_at, after_step, stepped, with_list, first_course, reached_text, step_text, row_with}
use Rattle.dem_core.specs.Courses.{Running, IsOnCourse, MayCollect, course_of, IsCounted}
use Rattle.dem_core.proofs.CourseFacts.{in-time, may-goes_on, IsOnCourse-first, IsOnCourse-stepped, IsOnCourse-with_list, list-near, IsCounted-stepped, entries-back}

-- ---- when a snapshot may be posted

pub may_post-some : (c : Course) (from now : ℕ) → c.from ≡ Some from → now ≡ c.state.step → is_some c.last ≡ false → nat_lt from now ≡ may_post c
unfolding may_post is_open is_past
may_post-some c from now listed here going =
    ap (nat_lt from) here ∙ sym (ap (λ o. is_past o c.state.step) listed) ∙ sym (ap (λ b. not b && is_past c.from c.state.step) going)

pub may_post-none : (c : Course) (told : Bool) → c.from ≡ None → is_some c.last ≡ not told → told ≡ may_post c
unfolding may_post is_open is_past
may_post-none c true none going = sym (ap (λ b. not b && is_past c.from c.state.step) going ∙ ap (λ o. is_past o c.state.step) none)
may_post-none c false none going = sym (ap (λ b. not b && is_past c.from c.state.step) going)

pub may_post-ended : (c : Course) → is_some c.last ≡ true → false ≡ may_post c
unfolding may_post is_open
may_post-ended c ended = sym (ap (λ b. not b && is_past c.from c.state.step) ended)

-- ---- a list is taken into use

pub collect-in_time : (run : Stepper) (taken_at tests from : ℕ) (last : Option Last) → IsOnCourse run.scene run.drift (course_of run taken_at tests last) → MayCollect (course_of run taken_at tests last) from → IsInTime run from
collect-in_time run taken_at tests from last h may = record { past = may.past; young = in-time run.scene run.drift (course_of run taken_at tests last) from h may }

same-course : (st st' : State) (f f' : Option ℕ) (ps ps' : List Pair) (es es' : List (Option Vec3)) (at at' tests tests' : ℕ) (last last' : Option Last) → st ≡ st' → f ≡ f' → ps ≡ ps' → es ≡ es' → at ≡ at' → tests ≡ tests' → last ≡ last'
    → (let c : Course = record { state = st; from = f; pairs = ps; entries = es; taken_at = at; tests = tests; last = last } in c) ≡ record { state = st'; from = f'; pairs = ps'; entries = es'; taken_at = at'; tests = tests'; last = last' }
same-course st st' f f' ps ps' es es' at at' tests tests' last last' a b c d e h i = cc

pub takes-course : (old new : Stepper) (list : Pairs) (taken_at at tests : ℕ) (last : Option Last) → TakesList old list new → at ≡ old.state.step
    → course_of new at tests last ≡ with_list (course_of old taken_at tests last) list.from list.pairs
unfolding with_list
takes-course old new list taken_at at tests last t here =
    same-course _ _ _ _ _ _ _ _ _ _ tests tests last last t.state t.from (ap (λ (l : Pairs). l.pairs) t.list_is) t.entries here refl refl

pub takes-kept : (old new : Stepper) (list : Pairs) (taken_at at tests : ℕ) (last : Option Last) → IsOnCourse old.scene old.drift (course_of old taken_at tests last) → IsCounted (course_of old taken_at tests last)
    → MayCollect (course_of old taken_at tests last) list.from → IsListOfRun old.scene old.drift list → TakesList old list new → at ≡ old.state.step
    → IsOnCourse new.scene new.drift (course_of new at tests last) × IsCounted (course_of new at tests last)
takes-kept old new list taken_at at tests last h counted may near t here =
    let on : IsOnCourse old.scene old.drift (with_list (course_of old taken_at tests last) list.from list.pairs) =
    IsOnCourse-with_list old.scene old.drift (course_of old taken_at tests last) list.from list.pairs h may (list-near old.scene old.drift list.from list.pairs near) in
    let on' : IsOnCourse old.scene old.drift (course_of new at tests last) = subst (IsOnCourse old.scene old.drift) (sym (takes-course old new list taken_at at tests last t here)) on in (
      subst (λ d. IsOnCourse new.scene d (course_of new at tests last)) (sym t.drift) (subst (λ s. IsOnCourse s old.drift (course_of new at tests last)) (sym t.scene) on'),
      λ none. subst (λ (st : State). tests ≤ 2 ^ 32 * st.step) (sym t.state) (counted none),
    )

-- ---- a step is made

pub steps-course : (old new : Stepper) (taken_at tests tests' : ℕ) (last last' : Option Last) → MakesStep old new → AreContacts new.scene new.contacts → tests' ≡ tests + length old.contacts.list.pairs
    → last' ≡ done_at old.scene new.state.step → course_of new taken_at tests' last' ≡ stepped old.scene (course_of old taken_at tests last)
unfolding stepped after_step
steps-course old new taken_at tests tests' last last' m held count end =
    let pairs : new.contacts.list.pairs ≡ old.contacts.list.pairs = ap (λ (l : Pairs). l.pairs) m.list in
    let entries : new.contacts.entries ≡ map (held_at new.state.held) old.contacts.list.pairs =
    sym (entries-back new.contacts.list.pairs new.contacts.entries held.ascends held.as_many)
    ∙ ap (λ es. map (held_at es) new.contacts.list.pairs) m.held
    ∙ ap (map (held_at new.state.held)) pairs in
    same-course _ _ _ _ _ _ _ _ taken_at taken_at _ _ _ _ refl m.from pairs entries refl count end
    ∙ sym (ap (after_step old.scene (course_of old taken_at tests last)) m.step)

pub ends-course : (old new : Stepper) (taken_at tests tests' : ℕ) (last : Option Last) (e : End) → step_of old.scene old.state ≡ Err e → new ≡ old → tests' ≡ tests + length old.contacts.list.pairs
    → course_of new taken_at tests' (Some (Passed e)) ≡ stepped old.scene (course_of old taken_at tests last)
unfolding stepped after_step
ends-course old new taken_at tests tests' last e passed same count =
    ap (λ (r : Stepper). course_of r taken_at tests' (Some (Passed e))) same
    ∙ ap (λ n. course_of old taken_at n (Some (Passed e))) count
    ∙ sym (ap (after_step old.scene (course_of old taken_at tests last)) passed)

-- what is kept after a step, whatever it came to
pub step-kept : (old new : Stepper) (taken_at tests tests' : ℕ) (last last' : Option Last) → IsOnCourse old.scene old.drift (course_of old taken_at tests last) → IsCounted (course_of old taken_at tests last)
    → may_step old.scene old.drift (course_of old taken_at tests last) ≡ true → length old.contacts.list.pairs < 2 ^ 32 → new.scene ≡ old.scene → new.drift ≡ old.drift
    → course_of new taken_at tests' last' ≡ stepped old.scene (course_of old taken_at tests last)
    → IsOnCourse new.scene new.drift (course_of new taken_at tests' last') × IsCounted (course_of new taken_at tests' last')
step-kept old new taken_at tests tests' last last' h counted may few scene drift is =
    let on : IsOnCourse old.scene old.drift (course_of new taken_at tests' last') =
    subst (IsOnCourse old.scene old.drift) (sym is) (IsOnCourse-stepped old.scene old.drift (course_of old taken_at tests last) h may) in (
      subst (λ d. IsOnCourse new.scene d (course_of new taken_at tests' last')) (sym drift) (subst (λ s. IsOnCourse s old.drift (course_of new taken_at tests' last')) (sym scene) on),
      subst IsCounted (sym is)
          (IsCounted-stepped old.scene (course_of old taken_at tests last) counted (may-goes_on old.scene old.drift (course_of old taken_at tests last) may).no_end few),
    )

-- the tests fit 64 bits
pub tests-fit : (s : SceneValue) (drift : ℕ) (c : Course) → IsSound s → IsCounted c → may_step s drift c ≡ true → length c.pairs < 2 ^ 32 → c.tests + length c.pairs < 2 ^ 64
tests-fit s drift c sound counted may few =
    let g = may-goes_on s drift c may in
    omega (arith, counted g.no_end, g.left, sound.steps)

-- ---- what contracts see of it

same-running : (s s' : SceneValue) (d d' : ℕ) (c c' : Course) → s ≡ s' → d ≡ d' → c ≡ c' → (let r : Running = record { scene = s; drift = d; course = c } in r) ≡ record { scene = s'; drift = d'; course = c' }
same-running s s' d d' c c' a b e = cc

-- after a step
pub stepped-view : (old new : Stepper) (taken_at tests : ℕ) (last : Option Last) (c : Course) (r : Running) → record { scene = old.scene; drift = old.drift; course = course_of old taken_at tests last } ≡ r
    → new.scene ≡ old.scene → new.drift ≡ old.drift → c ≡ stepped old.scene (course_of old taken_at tests last)
    → (let seen : Running = record { scene = new.scene; drift = new.drift; course = c } in seen) ≡ record { scene = r.scene; drift = r.drift; course = stepped r.scene r.course }
stepped-view old new taken_at tests last c r view scene drift is =
    same-running _ _ _ _ _ _ scene drift is ∙ ap (λ (x : Running). record { scene = x.scene; drift = x.drift; course = stepped x.scene x.course }) view

-- after a list was taken
pub listed-view : (old new : Stepper) (taken_at tests from : ℕ) (last : Option Last) (pairs : List Pair) (c : Course) (r : Running) → record { scene = old.scene; drift = old.drift; course = course_of old taken_at tests last } ≡ r
    → new.scene ≡ old.scene → new.drift ≡ old.drift → c ≡ with_list (course_of old taken_at tests last) from pairs
    → (let seen : Running = record { scene = new.scene; drift = new.drift; course = c } in seen) ≡ record { scene = r.scene; drift = r.drift; course = with_list r.course from pairs }
listed-view old new taken_at tests from last pairs c r view scene drift is =
    same-running _ _ _ _ _ _ scene drift is ∙ ap (λ (x : Running). record { scene = x.scene; drift = x.drift; course = with_list x.course from pairs }) view

-- after a refusal
pub kept-view : (old new : Stepper) (taken_at tests : ℕ) (last : Option Last) (r : Running) → record { scene = old.scene; drift = old.drift; course = course_of old taken_at tests last } ≡ r → new ≡ old
    → (let seen : Running = record { scene = new.scene; drift = new.drift; course = course_of new taken_at tests last } in seen) ≡ r
kept-view old new taken_at tests last r view same =
    ap (λ (x : Stepper). record { scene = x.scene; drift = x.drift; course = course_of x taken_at tests last }) same ∙ view

-- what a step writes
pub step-writes : (old new : Stepper) (taken_at tests : ℕ) (last : Option Last) (r : Running) → record { scene = old.scene; drift = old.drift; course = course_of old taken_at tests last } ≡ r → MakesStep old new
    → reached_text new.scene new.state ≡ step_text r.scene (step_of r.scene r.course.state)
unfolding step_text
step-writes old new taken_at tests last r view m =
    ap (λ s. reached_text s new.state) m.scene
    ∙ sym (ap (step_text old.scene) m.step)
    ∙ ap (λ (x : Running). step_text x.scene (step_of x.scene x.course.state)) view

pub end-writes : (old : Stepper) (taken_at tests : ℕ) (last : Option Last) (r : Running) (e : End) → record { scene = old.scene; drift = old.drift; course = course_of old taken_at tests last } ≡ r → step_of old.scene old.state ≡ Err e
    → last_text (Passed e) ≡ step_text r.scene (step_of r.scene r.course.state)
unfolding step_text
end-writes old taken_at tests last r e view passed =
    sym (ap (step_text old.scene) passed) ∙ ap (λ (x : Running). step_text x.scene (step_of x.scene x.course.state)) view

-- the row of a list
pub row-writes : (old : Stepper) (taken_at tests from at count : ℕ) (list : Pairs) (last : Option Last) (r : Running) → record { scene = old.scene; drift = old.drift; course = course_of old taken_at tests last } ≡ r → from ≡ list.from
    → at ≡ old.state.step → count ≡ length list.pairs → taken_text (record { from = from; at = at; pairs = count }) ≡ taken_text (row_with r.course list.from list.pairs)
unfolding row_with
row-writes old taken_at tests from at count list last r view same here size =
    ap (λ f. taken_text (record { from = f; at = at; pairs = count })) same
    ∙ ap₂ (λ a n. taken_text (record { from = list.from; at = a; pairs = n })) here size
    ∙ ap (λ (x : Running). taken_text (record { from = list.from; at = x.course.state.step; pairs = length list.pairs })) view

-- ---- a run that begins

-- nothing is held at the start
pub begins-held : (s : SceneValue) (drift : ℕ) (run : Stepper) → Begins s drift run → kept_of run.contacts.list.pairs run.contacts.entries ≡ run.state.held
unfolding kept_of first_state
begins-held s drift run b = ap₂ kept_of b.pairs b.entries ∙ sym (ap (λ (st : State). st.held) b.state)

pub begins-course : (s : SceneValue) (drift : ℕ) (run : Stepper) (told : Option Last) → Begins s drift run → told ≡ done_at s 0 → course_of run 0 0 told ≡ first_course s
unfolding first_course
begins-course s drift run told b end = same-course _ _ _ _ _ _ _ _ 0 0 0 0 _ _ b.state b.from b.pairs b.entries refl refl end

pub begins-kept : (s : SceneValue) (drift : ℕ) (run : Stepper) (told : Option Last) → Begins s drift run → told ≡ done_at s 0
    → IsOnCourse run.scene run.drift (course_of run 0 0 told) × IsCounted (course_of run 0 0 told)
begins-kept s drift run told b end =
    let on : IsOnCourse run.scene run.drift (first_course s) = subst (λ x. IsOnCourse x run.drift (first_course s)) (sym b.scene) (IsOnCourse-first s run.drift) in
    (subst (IsOnCourse run.scene run.drift) (sym (begins-course s drift run told b end)) on, λ none. omega arith)

pub begins-view : (s : SceneValue) (drift : ℕ) (run : Stepper) (told : Option Last) → Begins s drift run → told ≡ done_at s 0
    → (let seen : Running = record { scene = run.scene; drift = run.drift; course = course_of run 0 0 told } in seen) ≡ record { scene = s; drift = drift; course = first_course s }
begins-view s drift run told b end = same-running _ _ _ _ _ _ b.scene b.drift_is (begins-course s drift run told b end)

pub begins-writes : (s : SceneValue) (drift : ℕ) (run : Stepper) → Begins s drift run → reached_text run.scene run.state ≡ reached_text s (first_state s)
begins-writes s drift run b = ap₂ reached_text b.scene b.state
