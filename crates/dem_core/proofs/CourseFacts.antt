-- When a run on lists may take a list and make a step, and that it stays on its course.
use Rattle.std.proofs.Common.{◌≡◌, ℕ, ◌+◌, ◌^◌, ◌<◌, ◌≤◌, ◌↔◌, inl, inr, Bool, true, false, not, ◌&&◌, List, [], ◌∷◌, length, map, get_or, drop, Option, None, Some, Result, Ok, Err, is_some, IsSomeAnd, nat_lt, refl, sym, ap, ap₂, ◌∙◌, subst, arith, true≢false}
use Rattle.std.specs.Prelude.{IfErr, if◌then◌else◌}
use Rattle.std.proofs.lemmas.Bool.{and_parts, ltb-true, lt-ltb, leb-true, le-leb, eq-eqb, ne_eqb, cases_lt}
use Rattle.std.proofs.lemmas.List.{ext_get_or, length-map, get_or-map, get_or_default}
use Rattle.std.proofs.lemmas.Option.{none-some}
use Rattle.dem_num.specs.declared.vector.Vec3.{Vec3}
use Rattle.dem_model.specs.SceneValue.{SceneValue}
use Rattle.dem_model.specs.Carry.{kept_of}
use Rattle.dem_model.specs.Centers.{centers_of}
use Rattle.dem_model.specs.Near.{near_of}
use Rattle.dem_model.specs.Plain.{first_state, plain_at}
use Rattle.dem_model.specs.Step.{Meeting, advanced_from, held_at, step_of, step_with, state_with, ended, joined}
use Rattle.dem_model.specs.declared.law.Load.{Load}
use Rattle.dem_model.specs.declared.state.Body.{Body}
use Rattle.dem_model.specs.declared.state.Clump.{Clump}
use Rattle.dem_model.specs.declared.state.End.{End}
use Rattle.dem_model.specs.declared.state.EndKind.{EndKind}
use Rattle.dem_model.specs.declared.state.Last.{Last}
use Rattle.dem_model.specs.declared.state.Last.TheVariants.{Done, Passed}
use Rattle.dem_model.specs.declared.state.Pair.{Pair}
use Rattle.dem_model.specs.declared.state.State.{State}
use Rattle.dem_list.specs.Ascending.{IsAscending}
use Rattle.dem_hist.proofs.CarryFacts.{entry-here}
use Rattle.dem_plain.proofs.RunFacts.{plain_first}
use Rattle.dem_output.proofs.RunLaw.{step_of-step}
use Rattle.dem_step.specs.Stepper.{Stepper, CanStep, IsListOfRun}
use Rattle.dem_step.proofs.StepFacts.{plain-after}
use Rattle.dem_model.specs.World.{Course, is_open, is_past, is_young, may_step, done_at, end_text, after_step, stepped, with_list, first_course}
use Rattle.dem_core.specs.Courses.{IsOnCourse, HasList, HasEnd, MayCollect, course_of, IsCounted}
use Rattle.dem_core.proofs.OutputFacts.{last-done, last-passed}

-- ---- open and ended

not-some : (o : Option Last) → not (is_some o) ≡ true → o ≡ None
not-some None h = refl
not-some (Some last) h = absurd (true≢false (sym h))

-- an open run has no end, and one without an end is open
pub open-none : (c : Course) → is_open c ≡ true → c.last ≡ None
unfolding is_open
open-none c h = not-some c.last h

pub none-open : (c : Course) → c.last ≡ None → is_open c ≡ true
unfolding is_open
none-open c h = ap (λ o. not (is_some o)) h

pub some-closed : (c : Course) (last : Last) → c.last ≡ Some last → is_open c ≡ false
unfolding is_open
some-closed c last h = ap (λ o. not (is_some o)) h

-- ---- when a step may be made

young-some : (drift : ℕ) (o : Option ℕ) (n : ℕ) → is_young drift o n ≡ true → IsSomeAnd o (λ from. n ≤ from + drift)
unfolding is_young
young-some drift None n h = absurd (true≢false (sym h))
young-some drift (Some from) n h = leb-true n (from + drift) h

some-young : (drift : ℕ) (o : Option ℕ) (n : ℕ) → IsSomeAnd o (λ from. n ≤ from + drift) → is_young drift o n ≡ true
unfolding is_young
some-young drift None n h = absurd h
some-young drift (Some from) n h = le-leb n (from + drift) h

-- a run that may make a step: it is open, its list isn't too old, and steps are left
pub record GoesOn (s : SceneValue) (drift : ℕ) (c : Course) : Type 0 where
  pub no_end : c.last ≡ None
  pub young : IsSomeAnd c.from (λ from. c.state.step ≤ from + drift)
  pub left : c.state.step < s.steps

pub may-goes_on : (s : SceneValue) (drift : ℕ) (c : Course) → may_step s drift c ≡ true → GoesOn s drift c
unfolding may_step
may-goes_on s drift c h =
    let a = and_parts (is_open c && is_young drift c.from c.state.step) (nat_lt c.state.step s.steps) h in
    let b = and_parts (is_open c) (is_young drift c.from c.state.step) a.0 in
    record { no_end = open-none c b.0; young = young-some drift c.from c.state.step b.1; left = ltb-true c.state.step s.steps a.1 }

pub goes_on-may : (s : SceneValue) (drift : ℕ) (c : Course) → GoesOn s drift c → may_step s drift c ≡ true
unfolding may_step
goes_on-may s drift c h = rw (none-open c h.no_end, some-young drift c.from c.state.step h.young, lt-ltb c.state.step s.steps h.left) refl

same-bool : (a b : Bool) → (a ≡ true → b ≡ true) → (b ≡ true → a ≡ true) → a ≡ b
same-bool true b f g = sym (f refl)
same-bool false true f g = g refl
same-bool false false f g = refl

-- the run tells whether a step may be made
pub may_step-told : (run : Stepper) (taken_at tests : ℕ) (last : Option Last) (told : Bool) → last ≡ None → ((told ≡ true) ↔ CanStep run) → told ≡ may_step run.scene run.drift (course_of run taken_at tests last)
may_step-told run taken_at tests last told none iff =
    let c : Course = course_of run taken_at tests last in
    same-bool told (may_step run.scene run.drift (course_of run taken_at tests last))
    (λ e. let can = iff.0 e in goes_on-may run.scene run.drift (course_of run taken_at tests last) (record { no_end = none; young = can.listed; left = can.goes_on }))
    (λ e. let g = may-goes_on run.scene run.drift (course_of run taken_at tests last) e in iff.1 (record { listed = g.young; goes_on = g.left }))

pub may_step-closed : (s : SceneValue) (drift : ℕ) (c : Course) → is_some c.last ≡ true → may_step s drift c ≡ false
unfolding may_step is_open
may_step-closed s drift c h = ap (λ b. not b && is_young drift c.from c.state.step && nat_lt c.state.step s.steps) h

-- no end is there where none is told
pub none-of : (o : Option Last) → is_some o ≡ false → o ≡ None
none-of None h = refl
none-of (Some last) h = absurd (true≢false h)

-- ---- a step that passes a limit has its number

joined-number : (n : ℕ) (r : Result Body End) (rest : Result (List Body) End) → IfErr r (λ (e : End). e.step ≡ n) → IfErr rest (λ (e : End). e.step ≡ n) → IfErr (joined r rest) (λ (e : End). e.step ≡ n)
unfolding joined
joined-number n (Err e) rest h k = h
joined-number n (Ok b) (Err e) h k = k
joined-number n (Ok b) (Ok bs) h k = tt

ended-number : (n k : ℕ) (r : Result Body EndKind) → IfErr (ended n k r) (λ (e : End). e.step ≡ n)
unfolding ended
ended-number n k (Ok b) = tt
ended-number n k (Err kind) = refl

advanced-number : (s : SceneValue) (n k : ℕ) (cs : List Clump) (bs : List Body) (ws : List Load) → IfErr (advanced_from s n k cs bs ws) (λ (e : End). e.step ≡ n)
unfolding advanced_from
advanced-number s n k [] bs ws = tt
advanced-number s n k (c ∷ cs) bs ws = joined-number n _ _ (ended-number n k _) (advanced-number s n (k + 1) cs (drop 1 bs) (drop 1 ws))

state_with-number : (n : ℕ) (ms : List Meeting) (r : Result (List Body) End) → IfErr r (λ (e : End). e.step ≡ n) → IfErr (state_with n ms r) (λ (e : End). e.step ≡ n)
unfolding state_with
state_with-number n ms (Ok bodies) h = tt
state_with-number n ms (Err e) h = h

if-err : {A : Type 0} (r : Result A End) (P : End → Type 0) (e : End) → IfErr r P → r ≡ Err e → P e
if-err r P e h is = subst (λ x. IfErr x P) is h

pub end-number : (s : SceneValue) (st : State) (e : End) → step_of s st ≡ Err e → e.step ≡ st.step + 1
unfolding step_of step_with
end-number s st e is = if-err _ (λ (x : End). x.step ≡ st.step + 1) e (state_with-number (st.step + 1) _ _ (advanced-number s (st.step + 1) 0 s.clumps st.bodies _)) is

-- ---- it stays on its course

young-list : (s : SceneValue) (drift : ℕ) (c : Course) (from : ℕ) (o : Option ℕ) → HasList s drift c o → is_past o from ≡ true → from ≤ c.state.step → c.state.step ≤ from + drift
unfolding is_past
young-list s drift c from None h newer past = omega (arith, h.0)
young-list s drift c from (Some f) h newer past = omega (arith, h.3, ltb-true f from newer)

-- a list that is newer than the one in use isn't too old
pub in-time : (s : SceneValue) (drift : ℕ) (c : Course) (from : ℕ) → IsOnCourse s drift c → MayCollect c from → c.state.step ≤ from + drift
in-time s drift c from h may = young-list s drift c from c.from h.list may.newer may.past

-- the end where a state is reached
end-at : (s : SceneValue) (c : Course) (n : ℕ) → n ≡ c.state.step → n ≤ s.steps → plain_at s c.state.step ≡ Some c.state → HasEnd s c (done_at s n)
unfolding done_at
end-at s c n is le plain =
    elim (cases_lt n s.steps) [
      | inl lt ↦ subst (λ b. HasEnd s c (if b then Some (Done n) else None)) (sym (ne_eqb n s.steps (λ (e : n ≡ s.steps). absurd (omega arith)))) (omega arith)
      | inr ge ↦
          let same : n ≡ s.steps = omega arith in
          let there : plain_at s s.steps ≡ Some c.state = subst (λ m. plain_at s m ≡ Some c.state) (sym is ∙ same) plain in
          subst (λ b. HasEnd s c (if b then Some (Done n) else None)) (sym (eq-eqb n s.steps same))
          (ap Done same ∙ sym (last-done s c.state there), is, same)
    ]

-- at its start
pub first-number : (s : SceneValue) → (first_state s).step ≡ 0
unfolding first_state
first-number s = refl

pub IsOnCourse-first : (s : SceneValue) (drift : ℕ) → IsOnCourse s drift (first_course s)
unfolding first_course
IsOnCourse-first s drift =
    let plain : plain_at s (first_state s).step ≡ Some (first_state s) = subst (λ n. plain_at s n ≡ Some (first_state s)) (sym (first-number s)) (plain_first s) in
    record {
      plain = plain;
      list = (first-number s, refl, refl, refl, refl, refl);
      end = end-at s (first_course s) 0 (sym (first-number s)) (omega arith) plain;
    }

list-next : (s : SceneValue) (drift : ℕ) (c : Course) (next : State) (o : Option ℕ) → HasList s drift c o → IsSomeAnd o (λ from. c.state.step ≤ from + drift) → next.step ≡ c.state.step + 1
    → HasList s drift (after_step s c (Ok next)) o
unfolding after_step
list-next s drift c next None h young step = absurd young
list-next s drift c next (Some from) h young step = (h.0, h.1, omega (arith, h.2), omega (arith, young), h.4)

list-ended : (s : SceneValue) (drift : ℕ) (c : Course) (e : End) (o : Option ℕ) → HasList s drift c o → IsSomeAnd o (λ from. c.state.step ≤ from + drift)
    → HasList s drift (after_step s c (Err e)) o
unfolding after_step
list-ended s drift c e None h young = absurd young
list-ended s drift c e (Some from) h young = h

after-step : (s : SceneValue) (drift : ℕ) (c : Course) (r : Result State End) → IsOnCourse s drift c → GoesOn s drift c → step_of s c.state ≡ r → IsOnCourse s drift (after_step s c r)
unfolding after_step
after-step s drift c (Ok next) h g is =
    let number = step_of-step s c.state next is in
    let plain : plain_at s next.step ≡ Some next = subst (λ n. plain_at s n ≡ Some next) (sym number) (plain-after s c.state.step c.state next h.plain g.left is) in
    record {
      plain = plain;
      list = list-next s drift c next c.from h.list g.young number;
      end = end-at s (after_step s c (Ok next)) next.step refl (omega (arith, g.left)) plain;
    }
after-step s drift c (Err e) h g is = record {
  plain = h.plain;
  list = list-ended s drift c e c.from h.list g.young;
  end = (sym (last-passed s c.state.step c.state e h.plain g.left is), is, g.left, end-number s c.state e is);
}

-- by a step
pub IsOnCourse-stepped : (s : SceneValue) (drift : ℕ) (c : Course) → IsOnCourse s drift c → may_step s drift c ≡ true → IsOnCourse s drift (stepped s c)
unfolding stepped
IsOnCourse-stepped s drift c h may = after-step s drift c (step_of s c.state) h (may-goes_on s drift c may) refl

-- by a list that is taken into use
pub IsOnCourse-with_list : (s : SceneValue) (drift : ℕ) (c : Course) (from : ℕ) (pairs : List Pair) → IsOnCourse s drift c → MayCollect c from
    → IsSomeAnd (plain_at s from) (λ st. pairs ≡ near_of s drift (centers_of s st.bodies)) → IsOnCourse s drift (with_list c from pairs)
unfolding with_list
IsOnCourse-with_list s drift c from pairs h may near =
    let none = open-none c may.goes_on in
    let end : HasEnd s c None = subst (HasEnd s c) none h.end in
    record {
      plain = h.plain;
      list = (near, may.past, omega arith, omega (arith, young-list s drift c from c.from h.list may.newer may.past), omega (arith, end));
      end = subst (HasEnd s (with_list c from pairs)) (sym none) end;
    }

-- the near pairs of a list of the run
pub list-near : (s : SceneValue) (drift from : ℕ) (pairs : List Pair) → IsListOfRun s drift (record { from = from; pairs = pairs }) → IsSomeAnd (plain_at s from) (λ st. pairs ≡ near_of s drift (centers_of s st.bodies))
list-near s drift from pairs h = subst (λ o. IsSomeAnd o (λ st. pairs ≡ near_of s drift (centers_of s st.bodies))) (sym h.there) h.pairs

-- ---- the tests fit 64 bits

counted-after : (s : SceneValue) (c : Course) (r : Result State End) → IsCounted c → c.last ≡ None → length c.pairs < 2 ^ 32 → step_of s c.state ≡ r → IsCounted (after_step s c r)
unfolding after_step
counted-after s c (Ok next) h none few is = λ going. omega (arith, h none, step_of-step s c.state next is)
counted-after s c (Err e) h none few is = λ going. absurd (none-some (Passed e) (sym going))

pub IsCounted-stepped : (s : SceneValue) (c : Course) → IsCounted c → c.last ≡ None → length c.pairs < 2 ^ 32 → IsCounted (stepped s c)
unfolding stepped
IsCounted-stepped s c h none few = counted-after s c (step_of s c.state) h none few refl

-- ---- what is held of the pairs in use, by place

-- of strictly ascending pairs with an entry each, what is held of each is its entry
pub entries-back : (ps : List Pair) (es : List (Option Vec3)) → IsAscending ps → length es ≡ length ps → map (held_at (kept_of ps es)) ps ≡ es
entries-back ps es ascends as_many =
    let none : Pair = record { a = 0; b = 0 } in
    ext_get_or None (map (held_at (kept_of ps es)) ps) es (length-map ps (held_at (kept_of ps es)) ∙ sym as_many)
    (λ i lt. let within : i < length ps = omega (arith, length-map ps (held_at (kept_of ps es))) in
    get_or-map (held_at (kept_of ps es)) ps i none None within
    ∙ entry-here ps es i (get_or ps i none) ascends as_many within (λ d. get_or_default ps i d none within))

-- ---- the end row of a state

-- the end row of a state, from what was answered
pub end_text-told : (s s' : SceneValue) (n n' : ℕ) (told is : Option Last) → s' ≡ s → n' ≡ n → told ≡ done_at s' n' → told ≡ is → end_text (done_at s n) ≡ end_text is
end_text-told s s' n n' told is same number answer e = ap end_text (sym (ap₂ done_at same number) ∙ sym answer ∙ e)
