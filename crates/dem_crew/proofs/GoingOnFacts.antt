-- The rows of a run so far go on to rows that a whole run may have, and so what was noted of them is a prefix.
use Rattle.std.proofs.Common.{◌≡◌, ℕ, zero, suc, ◌+◌, ◌<◌, ◌≤◌, ◌⊎◌, inl, inr, true, false, List, [], ◌∷◌, ◌++◌, Option, None, Some, Result, Ok, Err, IsSomeAnd, refl, sym, ap, ◌∙◌, subst, append_assoc, append-nil, flat_map, arith, true≢false}
use Rattle.std.proofs.lemmas.Bool.{cases_lt, cases_Bool, lt-ltb}
use Rattle.std.proofs.lemmas.Grind.{flat_map-append}
use Rattle.dem_outside.specs.Known.{AppendsPrefix}
use Rattle.dem_outside.proofs.Prefixes.{AppendsPrefix-nil, AppendsPrefix-longer}
use Rattle.dem_model.specs.SceneValue.{SceneValue}
use Rattle.dem_model.specs.Frames.{taken_text, tests_text}
use Rattle.dem_model.specs.Plain.{last_of}
use Rattle.dem_model.specs.Step.{step_of}
use Rattle.dem_model.specs.TakenRows.{IsLegal, tests_of}
use Rattle.dem_model.specs.World.{Snap, Course, is_past, may_post, may_step, first_course, after_step, stepped, with_list, row_with, rows_text, snap_of, list_of}
use Rattle.dem_model.specs.declared.state.End.{End}
use Rattle.dem_model.specs.declared.state.Last.{Last}
use Rattle.dem_model.specs.declared.state.Last.TheVariants.{Passed}
use Rattle.dem_model.specs.declared.state.Pair.{Pair}
use Rattle.dem_model.specs.declared.state.State.{State}
use Rattle.dem_model.specs.declared.state.TakenRow.{TakenRow}
use Rattle.dem_output.proofs.RunLaw.{step_of-step}
use Rattle.dem_core.specs.Courses.{IsOnCourse, HasEnd, MayCollect}
use Rattle.dem_core.specs.SoFar.{HasTaken}
use Rattle.dem_core.specs.Worlds.{IsOut}
use Rattle.dem_core.proofs.CourseFacts.{goes_on-may, none-open, IsOnCourse-first, IsOnCourse-stepped, IsOnCourse-with_list}
use Rattle.dem_core.proofs.SoFarFacts.{text-ended}
use Rattle.dem_core.proofs.TakenFacts.{HasTaken-first, HasTaken-stepped, HasTaken-with_list, HasTaken-ended}
use Rattle.dem_core.proofs.WorldFacts.{IsOut-posted, IsOut-collect, IsOut-near}
use Rattle.dem_crew.specs.Running.{HasNoted}

-- rows that a whole run may have begin with these
pub record GoOn (s : SceneValue) (drift : ℕ) (rows : List TakenRow) : Type 0 where
  pub more : List TakenRow
  pub legal : IsLegal s drift (last_of s) (rows ++ more)

-- where the run has ended, these are all
all-taken : (s : SceneValue) (drift : ℕ) (rows : List TakenRow) (c : Course) (last : Last) → IsOnCourse s drift c → c.last ≡ Some last → HasTaken s drift rows c → GoOn s drift rows
all-taken s drift rows c last on is taken = record {
  more = [];
  legal = subst (IsLegal s drift (last_of s)) (sym (append-nil rows)) (subst (λ l. IsLegal s drift l rows) (text-ended s drift c last on is).1 (HasTaken-ended s drift rows c last on is taken).0);
}

unless-ended : (s : SceneValue) (drift : ℕ) (rows : List TakenRow) (c : Course) (o : Option Last) → c.last ≡ o → IsOnCourse s drift c → HasTaken s drift rows c → (c.last ≡ None → GoOn s drift rows) → GoOn s drift rows
unless-ended s drift rows c None is on taken going = going is
unless-ended s drift rows c (Some last) is on taken going = all-taken s drift rows c last on is taken

one-less : (s : SceneValue) (drift : ℕ) (rows : List TakenRow) (r : TakenRow) → GoOn s drift (rows ++ r ∷ []) → GoOn s drift rows
one-less s drift rows r h = record { more = r ∷ h.more; legal = subst (IsLegal s drift (last_of s)) (append_assoc rows (r ∷ []) h.more) h.legal }

open-left : (s : SceneValue) (drift : ℕ) (c : Course) → IsOnCourse s drift c → c.last ≡ None → c.state.step < s.steps
open-left s drift c on none = subst (HasEnd s c) none on.end

-- ---- a step

-- a step leads to the next state or ends the run
reaches : (s : SceneValue) (c : Course) (r : Result State End) → step_of s c.state ≡ r → ((last : Last) × ((after_step s c r).last ≡ Some last)) ⊎ ((after_step s c r).state.step ≡ c.state.step + 1)
unfolding after_step
reaches s c (Ok next) is = inr (step_of-step s c.state next is)
reaches s c (Err e) is = inl (Passed e, refl)

reached : (s : SceneValue) (c : Course) → ((last : Last) × ((stepped s c).last ≡ Some last)) ⊎ ((stepped s c).state.step ≡ c.state.step + 1)
unfolding stepped
reached s c = reaches s c (step_of s c.state) refl

-- what holds of each run with so many steps left
abbrev GoesOnIn : ℕ → SceneValue → ℕ → Type 0
GoesOnIn n s drift = (rows : List TakenRow) (c : Course) → IsOnCourse s drift c → HasTaken s drift rows c → s.steps ≤ c.state.step + n → GoOn s drift rows

by-step : (n : ℕ) (s : SceneValue) (drift : ℕ) → GoesOnIn n s drift → (rows : List TakenRow) (c : Course) → IsOnCourse s drift c → may_step s drift c ≡ true → HasTaken s drift rows c → s.steps ≤ c.state.step + suc n → GoOn s drift rows
by-step n s drift later rows c on may taken left =
    let on' = IsOnCourse-stepped s drift c on may in
    let taken' = HasTaken-stepped s drift rows c on may taken in
    elim (reached s c) [
      | inl e ↦ all-taken s drift rows (stepped s c) e.0 on' e.1 taken'
      | inr one ↦ later rows (stepped s c) on' taken' (omega (arith, left, one))
    ]

-- ---- a list

-- a run that is open and may not step is past the state of its list
newer-now : (s : SceneValue) (drift : ℕ) (c : Course) (o : Option ℕ) → c.from ≡ o → c.last ≡ None → c.state.step < s.steps → may_step s drift c ≡ false → is_past o c.state.step ≡ true
unfolding is_past
newer-now s drift c None is none left off = refl
newer-now s drift c (Some from) is none left off =
    elim (cases_lt from c.state.step) [
      | inl lt ↦ lt-ltb from c.state.step lt
      | inr ge ↦
          let at : IsSomeAnd (Some from) (λ f. c.state.step ≤ f + drift) = omega (arith, ge) in
          let young : IsSomeAnd c.from (λ f. c.state.step ≤ f + drift) = subst (λ o. IsSomeAnd o (λ f. c.state.step ≤ f + drift)) (sym is) at in
          absurd (true≢false (sym (goes_on-may s drift c (record { no_end = none; young = young; left = left })) ∙ off))
    ]

may-post : (c : Course) → c.last ≡ None → is_past c.from c.state.step ≡ true → may_post c ≡ true
unfolding may_post
may-post c none newer = rw (none-open c none, newer) refl

with_list-may : (s : SceneValue) (drift : ℕ) (c : Course) (pairs : List Pair) → c.last ≡ None → c.state.step < s.steps → may_step s drift (with_list c (snap_of c.state).step pairs) ≡ true
unfolding with_list snap_of
with_list-may s drift c pairs none left = goes_on-may s drift (with_list c (snap_of c.state).step pairs) (record { no_end = none; young = omega arith; left = left })

with_list-state : (c : Course) (from : ℕ) (pairs : List Pair) → (with_list c from pairs).state ≡ c.state
unfolding with_list
with_list-state c from pairs = refl

by-list : (n : ℕ) (s : SceneValue) (drift : ℕ) → GoesOnIn n s drift → (rows : List TakenRow) (c : Course) → IsOnCourse s drift c → c.last ≡ None → may_step s drift c ≡ false → HasTaken s drift rows c → s.steps ≤ c.state.step + suc n → GoOn s drift rows
by-list n s drift later rows c on none off taken steps =
    let snap : Snap = snap_of c.state in
    let pairs : List Pair = list_of s drift snap in
    let left = open-left s drift c on none in
    let out : IsOut s c snap = IsOut-posted s drift c on (may-post c none (newer-now s drift c c.from refl none left off)) in
    let may : MayCollect c snap.step = IsOut-collect s c snap (none-open c none) out in
    let near = IsOut-near s drift c snap out in
    one-less s drift rows (row_with c snap.step pairs)
    (by-step n s drift later (rows ++ row_with c snap.step pairs ∷ []) (with_list c snap.step pairs) (IsOnCourse-with_list s drift c snap.step pairs on may near) (with_list-may s drift c pairs none left)
    (HasTaken-with_list s drift rows c snap.step pairs on may near taken) (subst (λ (st : State). s.steps ≤ st.step + suc n) (sym (with_list-state c snap.step pairs)) steps))

-- ---- the law

goes-on : (n : ℕ) (s : SceneValue) (drift : ℕ) → GoesOnIn n s drift
goes-on zero s drift rows c on taken left =
    unless-ended s drift rows c c.last refl on taken (λ (none : c.last ≡ None). let h = open-left s drift c on none in absurd (omega (arith, h, left)))
goes-on (suc n) s drift rows c on taken left =
    unless-ended s drift rows c c.last refl on taken (λ (none : c.last ≡ None).
    elim (cases_Bool (may_step s drift c)) [
      | inl may ↦ by-step n s drift (goes-on n s drift) rows c on may taken left
      | inr off ↦ by-list n s drift (goes-on n s drift) rows c on none off taken left
    ])

-- the rows of a run so far go on to rows of a whole run: where it goes on by itself, with a list of its state whenever it may not step
pub rows-go-on : (s : SceneValue) (drift : ℕ) (rows : List TakenRow) (c : Course) → IsOnCourse s drift c → HasTaken s drift rows c → GoOn s drift rows
rows-go-on s drift rows c on taken = goes-on s.steps s drift rows c on taken (omega arith)

-- ---- what was noted

rows-after : (rows more : List TakenRow) (text : List ℕ) → rows_text (rows ++ more) ++ text ≡ rows_text rows ++ (rows_text more ++ text)
unfolding rows_text
rows-after rows more text = ap (λ l. l ++ text) (flat_map-append taken_text rows more) ∙ append_assoc (flat_map taken_text rows) (flat_map taken_text more) text

-- a prefix of the rows so far is one of rows of a whole run
pub noted-of : (s : SceneValue) (drift : ℕ) (rows : List TakenRow) (c : Course) (n m : Option (List ℕ)) → IsOnCourse s drift c → HasTaken s drift rows c → AppendsPrefix n m (rows_text rows) → HasNoted s drift n m
noted-of s drift rows c n m on taken prefix =
    let h = rows-go-on s drift rows c on taken in
    let text : List ℕ = tests_text (tests_of (rows ++ h.more) (last_of s)) in
    record {
      rows = rows ++ h.more;
      legal = h.legal;
      noted = subst (AppendsPrefix n m) (sym (rows-after rows h.more text)) (AppendsPrefix-longer n m (rows_text rows) (rows_text h.more ++ text) prefix);
    }

-- nothing was noted
pub noted-none : (s : SceneValue) (drift : ℕ) (n : Option (List ℕ)) → HasNoted s drift n n
noted-none s drift n = noted-of s drift [] (first_course s) n n (IsOnCourse-first s drift) (HasTaken-first s drift) (AppendsPrefix-nil n (rows_text []))
