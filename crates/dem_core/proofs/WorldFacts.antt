-- What holds of every world of turns: after each turn, and what the turns have written.
use Rattle.std.proofs.Common.{◌≡◌, ℕ, ◌≤◌, true, false, List, [], ◌++◌, Option, None, Some, Result, Ok, Err, IsSomeAnd, refl, sym, ap, ◌∙◌, subst, arith, append-nil, inl, inr, true≢false}
use Rattle.std.specs.Prelude.{if◌then◌else◌}
use Rattle.std.proofs.lemmas.Bool.{and_parts, cases_Bool}
use Rattle.dem_model.specs.SceneValue.{SceneValue}
use Rattle.dem_model.specs.Centers.{centers_of}
use Rattle.dem_model.specs.Near.{near_of}
use Rattle.dem_model.specs.Plain.{first_state, plain_at}
use Rattle.dem_model.specs.Step.{step_of}
use Rattle.dem_model.specs.World.{Snap, Parcel, Home, Posted, Taken, Delivered, Course, World, is_home, is_posted, is_taken, is_delivered, is_past, is_open, may_post, may_step, enabled, snap_of, carried_by, list_of, collected, after_step, stepped, with_parcel, made, turned, first_world, reached_text, made_text, turn_text, row_of, made_rows, turn_rows}
use Rattle.dem_model.specs.declared.state.End.{End}
use Rattle.dem_model.specs.declared.state.State.{State}
use Rattle.dem_model.specs.declared.state.TakenRow.{TakenRow}
use Rattle.dem_model.specs.declared.state.Turn.{Turn}
use Rattle.dem_model.specs.declared.state.Turn.TheVariants.{Post, Take, Deliver, Collect, Step}
use Rattle.dem_output.proofs.RunLaw.{step_of-step}
use Rattle.dem_step.specs.Stepper.{state_at}
use Rattle.dem_step.proofs.StepFacts.{state_at-is}
use Rattle.dem_core.specs.Courses.{IsOnCourse, HasList, MayCollect}
use Rattle.dem_core.specs.SoFar.{text_so_far, HasTaken}
use Rattle.dem_core.specs.Worlds.{IsOut, HasParcel}
use Rattle.dem_core.proofs.CourseFacts.{IsOnCourse-first, IsOnCourse-stepped, IsOnCourse-with_list}
use Rattle.dem_core.proofs.SoFarFacts.{text-first, text-stepped, text-with_list}
use Rattle.dem_core.proofs.TakenFacts.{HasTaken-first, HasTaken-stepped, HasTaken-with_list}

-- what holds of every world
pub record Kept (s : SceneValue) (drift : ℕ) (w : World) : Type 0 where
  pub course : IsOnCourse s drift w.course
  pub parcel : HasParcel s w.course w.parcel

-- ---- enabled or not

pub turned-on : (s : SceneValue) (drift : ℕ) (w : World) (turn : Turn) → enabled s drift w turn ≡ true → turned s drift w turn ≡ made s drift w turn
unfolding turned
turned-on s drift w turn on = ap (λ b. if b then made s drift w turn else w) on

pub turned-off : (s : SceneValue) (drift : ℕ) (w : World) (turn : Turn) → enabled s drift w turn ≡ false → turned s drift w turn ≡ w
unfolding turned
turned-off s drift w turn off = ap (λ b. if b then made s drift w turn else w) off

pub text-on : (s : SceneValue) (drift : ℕ) (w : World) (turn : Turn) → enabled s drift w turn ≡ true → turn_text s drift w turn ≡ made_text s w turn
unfolding turn_text
text-on s drift w turn on = ap (λ b. if b then made_text s w turn else []) on

pub text-off : (s : SceneValue) (drift : ℕ) (w : World) (turn : Turn) → enabled s drift w turn ≡ false → turn_text s drift w turn ≡ []
unfolding turn_text
text-off s drift w turn off = ap (λ b. if b then made_text s w turn else []) off

pub rows-on : (s : SceneValue) (drift : ℕ) (w : World) (turn : Turn) → enabled s drift w turn ≡ true → turn_rows s drift w turn ≡ made_rows s drift w turn
unfolding turn_rows
rows-on s drift w turn on = ap (λ b. if b then made_rows s drift w turn else []) on

pub rows-off : (s : SceneValue) (drift : ℕ) (w : World) (turn : Turn) → enabled s drift w turn ≡ false → turn_rows s drift w turn ≡ []
unfolding turn_rows
rows-off s drift w turn off = ap (λ b. if b then made_rows s drift w turn else []) off

-- what a turn that may be taken asks of the world
pub post-may : (s : SceneValue) (drift : ℕ) (w : World) → enabled s drift w Post ≡ true → (may_post w.course ≡ true) × (is_home w.parcel ≡ true)
unfolding enabled
post-may s drift w on = and_parts (may_post w.course) (is_home w.parcel) on

pub take-may : (s : SceneValue) (drift : ℕ) (w : World) → enabled s drift w Take ≡ true → (is_open w.course ≡ true) × (is_posted w.parcel ≡ true)
unfolding enabled
take-may s drift w on = and_parts (is_open w.course) (is_posted w.parcel) on

pub deliver-may : (s : SceneValue) (drift : ℕ) (w : World) → enabled s drift w Deliver ≡ true → (is_open w.course ≡ true) × (is_taken w.parcel ≡ true)
unfolding enabled
deliver-may s drift w on = and_parts (is_open w.course) (is_taken w.parcel) on

pub collect-may : (s : SceneValue) (drift : ℕ) (w : World) → enabled s drift w Collect ≡ true → (is_open w.course ≡ true) × (is_delivered w.parcel ≡ true)
unfolding enabled
collect-may s drift w on = and_parts (is_open w.course) (is_delivered w.parcel) on

pub step-may : (s : SceneValue) (drift : ℕ) (w : World) → enabled s drift w Step ≡ true → may_step s drift w.course ≡ true
unfolding enabled
step-may s drift w on = on

-- ---- the parcel

-- the state of an open run may be posted
out-list : (c : Course) (s : SceneValue) (drift : ℕ) (o : Option ℕ) → HasList s drift c o → c.taken_at ≤ c.state.step
out-list c s drift None h = omega (arith, h.3)
out-list c s drift (Some from) h = h.2

pub IsOut-posted : (s : SceneValue) (drift : ℕ) (c : Course) → IsOnCourse s drift c → may_post c ≡ true → IsOut s c (snap_of c.state)
unfolding snap_of may_post
IsOut-posted s drift c on may =
    let at : state_at s c.state.step ≡ c.state = state_at-is s c.state.step c.state on.plain in
    record {
      there = on.plain ∙ ap Some (sym at);
      bodies = sym (ap (λ (st : State). st.bodies) at);
      past = omega arith;
      newer = (and_parts (is_open c) (is_past c.from c.state.step) may).1;
      since = out-list c s drift c.from on.list;
    }

pub out-posted : (s : SceneValue) (c : Course) (p : Parcel) → HasParcel s c p → is_posted p ≡ true → IsOut s c (carried_by p)
unfolding is_posted carried_by
out-posted s c Home h is = absurd (true≢false (sym is))
out-posted s c (Posted snap) h is = h
out-posted s c (Taken snap) h is = absurd (true≢false (sym is))
out-posted s c (Delivered snap) h is = absurd (true≢false (sym is))

pub out-taken : (s : SceneValue) (c : Course) (p : Parcel) → HasParcel s c p → is_taken p ≡ true → IsOut s c (carried_by p)
unfolding is_taken carried_by
out-taken s c Home h is = absurd (true≢false (sym is))
out-taken s c (Posted snap) h is = absurd (true≢false (sym is))
out-taken s c (Taken snap) h is = h
out-taken s c (Delivered snap) h is = absurd (true≢false (sym is))

pub out-delivered : (s : SceneValue) (c : Course) (p : Parcel) → HasParcel s c p → is_delivered p ≡ true → IsOut s c (carried_by p)
unfolding is_delivered carried_by
out-delivered s c Home h is = absurd (true≢false (sym is))
out-delivered s c (Posted snap) h is = absurd (true≢false (sym is))
out-delivered s c (Taken snap) h is = absurd (true≢false (sym is))
out-delivered s c (Delivered snap) h is = h

-- a snapshot that is out may be collected
pub IsOut-collect : (s : SceneValue) (c : Course) (snap : Snap) → is_open c ≡ true → IsOut s c snap → MayCollect c snap.step
IsOut-collect s c snap going h = record { goes_on = going; newer = h.newer; since = h.since; past = h.past }

pub IsOut-near : (s : SceneValue) (drift : ℕ) (c : Course) (snap : Snap) → IsOut s c snap → IsSomeAnd (plain_at s snap.step) (λ st. list_of s drift snap ≡ near_of s drift (centers_of s st.bodies))
unfolding list_of
IsOut-near s drift c snap h =
    subst (λ o. IsSomeAnd o (λ st. near_of s drift (centers_of s snap.bodies) ≡ near_of s drift (centers_of s st.bodies))) (sym h.there) (ap (λ bs. near_of s drift (centers_of s bs)) h.bodies)

-- a step leaves it out
later : (s : SceneValue) (c : Course) (snap : Snap) (r : Result State End) → step_of s c.state ≡ r → IsOut s c snap → IsOut s (after_step s c r) snap
unfolding after_step
later s c snap (Ok next) is h = record { there = h.there; bodies = h.bodies; past = omega (arith, h.past, step_of-step s c.state next is); newer = h.newer; since = h.since }
later s c snap (Err e) is h = record { there = h.there; bodies = h.bodies; past = h.past; newer = h.newer; since = h.since }

pub IsOut-stepped : (s : SceneValue) (c : Course) (snap : Snap) → IsOut s c snap → IsOut s (stepped s c) snap
unfolding stepped
IsOut-stepped s c snap h = later s c snap (step_of s c.state) refl h

parcel-stepped : (s : SceneValue) (c : Course) (p : Parcel) → HasParcel s c p → HasParcel s (stepped s c) p
parcel-stepped s c Home h = tt
parcel-stepped s c (Posted snap) h = IsOut-stepped s c snap h
parcel-stepped s c (Taken snap) h = IsOut-stepped s c snap h
parcel-stepped s c (Delivered snap) h = IsOut-stepped s c snap h

-- ---- every world

pub Kept-first : (s : SceneValue) (drift : ℕ) → Kept s drift (first_world s)
unfolding first_world
Kept-first s drift = record { course = IsOnCourse-first s drift; parcel = tt }

pub Kept-made : (s : SceneValue) (drift : ℕ) (w : World) (turn : Turn) → Kept s drift w → enabled s drift w turn ≡ true → Kept s drift (made s drift w turn)
unfolding made with_parcel collected
Kept-made s drift w Post k on = record { course = k.course; parcel = IsOut-posted s drift w.course k.course (post-may s drift w on).0 }
Kept-made s drift w Take k on = record { course = k.course; parcel = out-posted s w.course w.parcel k.parcel (take-may s drift w on).1 }
Kept-made s drift w Deliver k on = record { course = k.course; parcel = out-taken s w.course w.parcel k.parcel (deliver-may s drift w on).1 }
Kept-made s drift w Collect k on =
    let may = collect-may s drift w on in
    let out = out-delivered s w.course w.parcel k.parcel may.1 in
    record {
      course = IsOnCourse-with_list s drift w.course (carried_by w.parcel).step (list_of s drift (carried_by w.parcel)) k.course (IsOut-collect s w.course (carried_by w.parcel) may.0 out)
          (IsOut-near s drift w.course (carried_by w.parcel) out);
      parcel = tt;
    }
Kept-made s drift w Step k on = record { course = IsOnCourse-stepped s drift w.course k.course (step-may s drift w on); parcel = parcel-stepped s w.course w.parcel k.parcel }

pub Kept-turned : (s : SceneValue) (drift : ℕ) (w : World) (turn : Turn) → Kept s drift w → Kept s drift (turned s drift w turn)
Kept-turned s drift w turn k =
    elim (cases_Bool (enabled s drift w turn)) [
      | inl on ↦ subst (Kept s drift) (sym (turned-on s drift w turn on)) (Kept-made s drift w turn k on)
      | inr off ↦ subst (Kept s drift) (sym (turned-off s drift w turn off)) k
    ]

-- ---- what was written

pub so_far-first : (s : SceneValue) → text_so_far s (first_world s).course ≡ reached_text s (first_state s)
unfolding first_world
so_far-first s = text-first s

so_far-made : (s : SceneValue) (drift : ℕ) (w : World) (turn : Turn) → Kept s drift w → enabled s drift w turn ≡ true → text_so_far s (made s drift w turn).course ≡ text_so_far s w.course ++ made_text s w turn
unfolding made with_parcel collected made_text
so_far-made s drift w Post k on = sym (append-nil (text_so_far s w.course))
so_far-made s drift w Take k on = sym (append-nil (text_so_far s w.course))
so_far-made s drift w Deliver k on = sym (append-nil (text_so_far s w.course))
so_far-made s drift w Collect k on = text-with_list s w.course _ _ ∙ sym (append-nil (text_so_far s w.course))
so_far-made s drift w Step k on = text-stepped s drift w.course k.course (step-may s drift w on)

-- a turn's text follows what was written
pub so_far-turned : (s : SceneValue) (drift : ℕ) (w : World) (turn : Turn) → Kept s drift w → text_so_far s (turned s drift w turn).course ≡ text_so_far s w.course ++ turn_text s drift w turn
so_far-turned s drift w turn k =
    elim (cases_Bool (enabled s drift w turn)) [
      | inl on ↦
          ap (λ (x : World). text_so_far s x.course) (turned-on s drift w turn on)
          ∙ so_far-made s drift w turn k on
          ∙ sym (ap (λ l. text_so_far s w.course ++ l) (text-on s drift w turn on))
      | inr off ↦
          ap (λ (x : World). text_so_far s x.course) (turned-off s drift w turn off)
          ∙ sym (append-nil (text_so_far s w.course))
          ∙ sym (ap (λ l. text_so_far s w.course ++ l) (text-off s drift w turn off))
    ]

-- ---- the taken rows

pub taken-first : (s : SceneValue) (drift : ℕ) → HasTaken s drift [] (first_world s).course
unfolding first_world
taken-first s drift = HasTaken-first s drift

taken-made : (s : SceneValue) (drift : ℕ) (rows : List TakenRow) (w : World) (turn : Turn) → Kept s drift w → enabled s drift w turn ≡ true → HasTaken s drift rows w.course
    → HasTaken s drift (rows ++ made_rows s drift w turn) (made s drift w turn).course
unfolding made with_parcel collected made_rows row_of
taken-made s drift rows w Post k on h = subst (λ l. HasTaken s drift l w.course) (sym (append-nil rows)) h
taken-made s drift rows w Take k on h = subst (λ l. HasTaken s drift l w.course) (sym (append-nil rows)) h
taken-made s drift rows w Deliver k on h = subst (λ l. HasTaken s drift l w.course) (sym (append-nil rows)) h
taken-made s drift rows w Collect k on h =
    let may = collect-may s drift w on in
    let out = out-delivered s w.course w.parcel k.parcel may.1 in
    HasTaken-with_list s drift rows w.course (carried_by w.parcel).step (list_of s drift (carried_by w.parcel)) k.course (IsOut-collect s w.course (carried_by w.parcel) may.0 out)
    (IsOut-near s drift w.course (carried_by w.parcel) out) h
taken-made s drift rows w Step k on h = subst (λ l. HasTaken s drift l (stepped s w.course)) (sym (append-nil rows)) (HasTaken-stepped s drift rows w.course k.course (step-may s drift w on) h)

-- a turn's rows follow those that were taken
pub HasTaken-turned : (s : SceneValue) (drift : ℕ) (rows : List TakenRow) (w : World) (turn : Turn) → Kept s drift w → HasTaken s drift rows w.course
    → HasTaken s drift (rows ++ turn_rows s drift w turn) (turned s drift w turn).course
HasTaken-turned s drift rows w turn k h =
    elim (cases_Bool (enabled s drift w turn)) [
      | inl on ↦
          subst (λ (x : World). HasTaken s drift (rows ++ turn_rows s drift w turn) x.course) (sym (turned-on s drift w turn on))
          (subst (λ l. HasTaken s drift (rows ++ l) (made s drift w turn).course) (sym (rows-on s drift w turn on)) (taken-made s drift rows w turn k on h))
      | inr off ↦
          subst (λ (x : World). HasTaken s drift (rows ++ turn_rows s drift w turn) x.course) (sym (turned-off s drift w turn off))
          (subst (λ l. HasTaken s drift (rows ++ l) w.course) (sym (rows-off s drift w turn off)) (subst (λ l. HasTaken s drift l w.course) (sym (append-nil rows)) h))
    ]
