-- Along the turns of legal rows a world may take every turn, and ends as the plain run does, with these rows.
use Rattle.std.proofs.Common.{◌≡◌, ℕ, zero, suc, ◌+◌, ◌-◌, ◌<◌, ◌≤◌, true, List, [], ◌∷◌, ◌++◌, length, replicate, Option, None, Some, Result, Ok, Err, IsSomeAnd, option_and_then, refl, sym, ap, ap₂, ◌∙◌, subst, arith, append_assoc, append-nil}
use Rattle.std.specs.Prelude.{if◌then◌else◌}
use Rattle.std.specs.List.{AllByRecursion}
use Rattle.std.proofs.lemmas.Bool.{lt-ltb, ne_eqb, eq-eqb}
use Rattle.dem_model.specs.SceneValue.{SceneValue}
use Rattle.dem_model.specs.Plain.{plain_at, last_of, first_state}
use Rattle.dem_model.specs.Step.{step_of}
use Rattle.dem_model.specs.World.{Snap, Parcel, Home, Posted, Taken, Delivered, Course, World, is_home, is_posted, is_taken, is_delivered, is_past, may_post, enabled, snap_of, carried_by, list_of, with_list, collected, done_at, stepped, with_parcel, made, turned, first_course, first_world, text_after, rows_after, world_after, row_of, row_with, made_rows, turn_rows, turn_text, goes, along, reached_text}
use Rattle.dem_model.specs.TakenRows.{begun, used_until, IsFollowed, AreRows, IsLegal, steps, spell_from, spell}
use Rattle.dem_model.specs.declared.state.End.{End}
use Rattle.dem_model.specs.declared.state.Last.{Last}
use Rattle.dem_model.specs.declared.state.Last.TheVariants.{Done, Passed}
use Rattle.dem_model.specs.declared.state.State.{State}
use Rattle.dem_model.specs.declared.state.TakenRow.{TakenRow}
use Rattle.dem_model.specs.declared.state.Turn.{Turn}
use Rattle.dem_model.specs.declared.state.Turn.TheVariants.{Post, Take, Deliver, Collect, Step}
use Rattle.dem_output.proofs.RunLaw.{by_step, last_from, step_of-step}
use Rattle.dem_step.proofs.StepFacts.{plain-after}
use Rattle.dem_core.specs.Courses.{IsOnCourse, HasEnd}
use Rattle.dem_core.specs.SoFar.{begun_by, text_so_far, HasTaken}
use Rattle.dem_core.specs.Playing.{Plays, ComesBy}
use Rattle.dem_core.proofs.OutputFacts.{last-here}
use Rattle.dem_core.proofs.CourseFacts.{goes_on-may, none-open, end-number, first-number}
use Rattle.dem_core.proofs.SoFarFacts.{text-ended}
use Rattle.dem_core.proofs.TakenFacts.{one-more, HasTaken-ended}
use Rattle.dem_core.proofs.WorldFacts.{Kept, Kept-first, Kept-made, Kept-turned, turned-on, rows-on, so_far-first, so_far-turned, taken-first, HasTaken-turned}

-- ---- turns in order

-- from a world these turns lead to another, with these rows, and each may be taken
record Gets (s : SceneValue) (drift : ℕ) (w : World) (turns : List Turn) (w' : World) (rows : List TakenRow) : Type 0 where
  along_is : along s drift (Some w) turns ≡ Some w'
  after : world_after s drift w turns ≡ w'
  rows_are : rows_after s drift w turns ≡ rows

gets-none : (s : SceneValue) (drift : ℕ) (w : World) → Gets s drift w [] w []
gets-none s drift w = record { along_is = unfold along in refl; after = unfold world_after in refl; rows_are = unfold rows_after in refl }

goes-on : (s : SceneValue) (drift : ℕ) (w : World) (turn : Turn) → enabled s drift w turn ≡ true → goes s drift turn w ≡ Some (made s drift w turn)
unfolding goes
goes-on s drift w turn on = ap (λ b. if b then Some (turned s drift w turn) else None) on ∙ ap Some (turned-on s drift w turn on)

-- one turn, and then others
gets-turn : (s : SceneValue) (drift : ℕ) (w w' : World) (turn : Turn) (turns : List Turn) (rows : List TakenRow) → enabled s drift w turn ≡ true → Gets s drift (made s drift w turn) turns w' rows
    → Gets s drift w (turn ∷ turns) w' (made_rows s drift w turn ++ rows)
gets-turn s drift w w' turn turns rows on h = record {
  along_is = unfold along in ap (λ o. along s drift o turns) (goes-on s drift w turn on) ∙ h.along_is;
  after = unfold world_after in ap (λ x. world_after s drift x turns) (turned-on s drift w turn on) ∙ h.after;
  rows_are =
      unfold rows_after in
      ap₂ (λ l x. l ++ rows_after s drift x turns) (rows-on s drift w turn on) (turned-on s drift w turn on)
      ∙ ap (λ l. made_rows s drift w turn ++ l) h.rows_are;
}

along-append : (s : SceneValue) (drift : ℕ) (o : Option World) (xs ys : List Turn) → along s drift o (xs ++ ys) ≡ along s drift (along s drift o xs) ys
unfolding along
along-append s drift o [] ys = refl
along-append s drift o (x ∷ xs) ys = along-append s drift (option_and_then (goes s drift x) o) xs ys

pub after-append : (s : SceneValue) (drift : ℕ) (w : World) (xs ys : List Turn) → world_after s drift w (xs ++ ys) ≡ world_after s drift (world_after s drift w xs) ys
unfolding world_after
after-append s drift w [] ys = refl
after-append s drift w (x ∷ xs) ys = after-append s drift (turned s drift w x) xs ys

pub rows-append : (s : SceneValue) (drift : ℕ) (w : World) (xs ys : List Turn) → rows_after s drift w (xs ++ ys) ≡ rows_after s drift w xs ++ rows_after s drift (world_after s drift w xs) ys
unfolding rows_after world_after
rows-append s drift w [] ys = refl
rows-append s drift w (x ∷ xs) ys =
    ap (λ l. turn_rows s drift w x ++ l) (rows-append s drift (turned s drift w x) xs ys)
    ∙ sym (append_assoc (turn_rows s drift w x) (rows_after s drift (turned s drift w x) xs) (rows_after s drift (world_after s drift (turned s drift w x) xs) ys))

-- some turns, and then others
gets-turns : (s : SceneValue) (drift : ℕ) (w w' w'' : World) (xs ys : List Turn) (rows : List TakenRow) → Gets s drift w xs w' [] → Gets s drift w' ys w'' rows → Gets s drift w (xs ++ ys) w'' rows
gets-turns s drift w w' w'' xs ys rows a b = record {
  along_is = along-append s drift (Some w) xs ys ∙ ap (λ o. along s drift o ys) a.along_is ∙ b.along_is;
  after = after-append s drift w xs ys ∙ ap (λ x. world_after s drift x ys) a.after ∙ b.after;
  rows_are = rows-append s drift w xs ys ∙ ap₂ (λ l x. l ++ rows_after s drift x ys) a.rows_are a.after ∙ b.rows_are;
}

-- ---- where a world stands

-- an open world at this step, with a list from that step, taken then, and the parcel there
record Stands (s : SceneValue) (drift : ℕ) (w : World) (n : ℕ) (from : Option ℕ) (parcel : Parcel) : Type 0 where
  kept : Kept s drift w
  going : w.course.last ≡ None
  at : w.course.state.step ≡ n
  from_is : w.course.from ≡ from
  parcel_is : w.parcel ≡ parcel

-- a list serves until this step; without one none can be made
abbrev Serves : ℕ → Option ℕ → ℕ → ℕ → Type 0
Serves drift None now until = until ≤ now
Serves drift (Some from) now until = until ≤ from + drift + 1

-- the states of an open run come before the end of the plain run
before-step : (s : SceneValue) (k n : ℕ) (st : State) → plain_at s n ≡ Some st → st.step ≡ n → n + suc k ≡ s.steps → (r : Result State End) → step_of s st ≡ r
    → ((next : State) → plain_at s (n + 1) ≡ Some next → next.step ≡ n + 1 → n + 1 + k ≡ s.steps → (n + 1 ≤ begun (last_from s k next)) × (0 < k → n + 1 < begun (last_from s k next)))
    → (n ≤ begun (by_step (λ next. last_from s k next) Passed r)) × (0 < suc k → n < begun (by_step (λ next. last_from s k next) Passed r))
unfolding begun
before-step s k n st here step left (Ok next) is rest =
    let later = rest next (plain-after s n st next here (omega arith) is) (step_of-step s st next is ∙ ap (λ m. m + 1) step) (omega arith) in
    (omega (arith, later.0), λ _. omega (arith, later.0))
before-step s k n st here step left (Err e) is rest =
    let number = end-number s st e is in
    (omega arith, λ _. omega arith)

before-end : (s : SceneValue) (k n : ℕ) (st : State) → plain_at s n ≡ Some st → st.step ≡ n → n + k ≡ s.steps → (n ≤ begun (last_from s k st)) × (0 < k → n < begun (last_from s k st))
unfolding last_from begun
before-end s zero n st here step left = (omega arith, λ (lt : 0 < 0). absurd (omega arith))
before-end s (suc k) n st here step left =
    before-step s k n st here step left (step_of s st) refl (λ next there number rest. before-end s k (n + 1) next there number rest)

pub open-before : (s : SceneValue) (drift : ℕ) (c : Course) → IsOnCourse s drift c → c.last ≡ None → c.state.step < begun (last_of s)
open-before s drift c on none =
    let left : c.state.step < s.steps = subst (HasEnd s c) none on.end in
    let whole = last-here s c.state.step (s.steps - c.state.step) c.state on.plain (omega arith) in
    subst (λ l. c.state.step < begun l) (sym whole) ((before-end s (s.steps - c.state.step) c.state.step c.state on.plain refl (omega arith)).1 (omega arith))

-- ---- one turn

-- what a step leads to: the world goes on, or the run has ended as the plain run does
step-on : (s : SceneValue) (drift : ℕ) (w : World) (n : ℕ) (from : ℕ) (parcel : Parcel) → Stands s drift w n (Some from) parcel → n ≤ from + drift → enabled s drift w Step ≡ true
unfolding enabled
step-on s drift w n from parcel h young =
    goes_on-may s drift w.course (record {
      no_end = h.going;
      young = subst (λ o. IsSomeAnd o (λ f. w.course.state.step ≤ f + drift)) (sym h.from_is) (omega (arith, h.at));
      left = subst (HasEnd s w.course) h.going h.kept.course.end;
    })

-- the world after a step
record IsStepped (s : SceneValue) (drift : ℕ) (w : World) (n : ℕ) (from : ℕ) (parcel : Parcel) : Type 0 where
  on : enabled s drift w Step ≡ true
  kept : Kept s drift (made s drift w Step)
  begun_is : begun_by (made s drift w Step).course (made s drift w Step).course.last ≡ n + 1
  from_is : (made s drift w Step).course.from ≡ Some from
  parcel_is : (made s drift w Step).parcel ≡ parcel
  none : made_rows s drift w Step ≡ []

is-stepped : (s : SceneValue) (drift : ℕ) (w : World) (n : ℕ) (from : ℕ) (parcel : Parcel) → Stands s drift w n (Some from) parcel → n ≤ from + drift → IsStepped s drift w n from parcel
unfolding made stepped made_rows
is-stepped s drift w n from parcel h young =
    let on = step-on s drift w n from parcel h young in
    let more = one-more s w.course (step_of s w.course.state) refl in
    record {
      on = on;
      kept = Kept-made s drift w Step h.kept on;
      begun_is = more.begun ∙ ap (λ m. m + 1) h.at;
      from_is = more.from ∙ h.from_is;
      parcel_is = h.parcel_is;
      none = refl;
    }

-- a course that has begun fewer steps than the plain run is open
still-open : (s : SceneValue) (drift : ℕ) (c : Course) (n : ℕ) (o : Option Last) → IsOnCourse s drift c → c.last ≡ o → HasEnd s c o → begun_by c o ≡ n → n < begun (last_of s) → (c.last ≡ None) × (c.state.step ≡ n)
unfolding begun_by
still-open s drift c n None on is end here before = (is, here)
still-open s drift c n (Some (Done m)) on is end here before =
    let same : begun (last_of s) ≡ n = sym (ap begun end.0) ∙ here in absurd (omega arith)
still-open s drift c n (Some (Passed e)) on is end here before =
    let same : begun (last_of s) ≡ n = sym (ap begun end.0) ∙ here in absurd (omega arith)

-- and one that has begun as many has ended
then-ended : (s : SceneValue) (drift : ℕ) (c : Course) (n : ℕ) (o : Option Last) → IsOnCourse s drift c → c.last ≡ o → HasEnd s c o → begun_by c o ≡ n → n ≡ begun (last_of s) → c.last ≡ Some (last_of s)
unfolding begun_by
then-ended s drift c n None on is end here all =
    let before = open-before s drift c on is in absurd (omega (arith, here))
then-ended s drift c n (Some (Done m)) on is end here all = is ∙ ap Some end.0
then-ended s drift c n (Some (Passed e)) on is end here all = is ∙ ap Some end.0

-- some turns lead to an open world that stands there
record Arrives (s : SceneValue) (drift : ℕ) (w : World) (turns : List Turn) (n : ℕ) (from : Option ℕ) (parcel : Parcel) : Type 0 where
  world : World
  gets : Gets s drift w turns world []
  stands : Stands s drift world n from parcel

-- some turns lead to the end
record Ends (s : SceneValue) (drift : ℕ) (w : World) (turns : List Turn) (rows : List TakenRow) : Type 0 where
  world : World
  gets : Gets s drift w turns world rows
  ended : world.course.last ≡ Some (last_of s)

-- ---- steps

steps-arrive : (s : SceneValue) (drift : ℕ) (k : ℕ) (w : World) (n : ℕ) (from : Option ℕ) (parcel : Parcel) → Stands s drift w n from parcel → Serves drift from n (n + k) → n + k < begun (last_of s)
    → Arrives s drift w (steps k) (n + k) from parcel
unfolding steps
steps-arrive s drift zero w n from parcel h serves before =
    record { world = w; gets = gets-none s drift w; stands = subst (λ m. Stands s drift w m from parcel) (sym (omega arith)) h }
steps-arrive s drift (suc k) w n None parcel h serves before = absurd (omega (arith, serves))
steps-arrive s drift (suc k) w n (Some from) parcel h serves before =
    let one = is-stepped s drift w n from parcel h (omega (arith, serves)) in
    let w' : World = made s drift w Step in
    let going = still-open s drift (made s drift w Step).course (n + 1) (made s drift w Step).course.last one.kept.course refl one.kept.course.end one.begun_is (omega arith) in
    let there : Stands s drift (made s drift w Step) (n + 1) (Some from) parcel = record { kept = one.kept; going = going.0; at = going.1; from_is = one.from_is; parcel_is = one.parcel_is } in
    let rest = steps-arrive s drift k (made s drift w Step) (n + 1) (Some from) parcel there (omega (arith, serves)) (omega arith) in
    record {
      world = rest.world;
      gets = subst (λ l. Gets s drift w (Step ∷ replicate k Step) rest.world (l ++ [])) one.none (gets-turn s drift w rest.world Step (replicate k Step) [] one.on rest.gets);
      stands = subst (λ m. Stands s drift rest.world m (Some from) parcel) (omega arith) rest.stands;
    }

steps-end : (s : SceneValue) (drift : ℕ) (k : ℕ) (w : World) (n : ℕ) (from : ℕ) (parcel : Parcel) → Stands s drift w n (Some from) parcel → n + suc k ≤ from + drift + 1 → n + suc k ≡ begun (last_of s)
    → Ends s drift w (steps (suc k)) []
unfolding steps
steps-end s drift zero w n from parcel h serves all =
    let one = is-stepped s drift w n from parcel h (omega arith) in
    record {
      world = made s drift w Step;
      gets = subst (λ l. Gets s drift w (Step ∷ []) (made s drift w Step) (l ++ [])) one.none (gets-turn s drift w (made s drift w Step) Step [] [] one.on (gets-none s drift (made s drift w Step)));
      ended = then-ended s drift (made s drift w Step).course (n + 1) (made s drift w Step).course.last one.kept.course refl one.kept.course.end one.begun_is (omega arith);
    }
steps-end s drift (suc k) w n from parcel h serves all =
    let one = is-stepped s drift w n from parcel h (omega arith) in
    let going = still-open s drift (made s drift w Step).course (n + 1) (made s drift w Step).course.last one.kept.course refl one.kept.course.end one.begun_is (omega arith) in
    let there : Stands s drift (made s drift w Step) (n + 1) (Some from) parcel = record { kept = one.kept; going = going.0; at = going.1; from_is = one.from_is; parcel_is = one.parcel_is } in
    let rest = steps-end s drift k (made s drift w Step) (n + 1) from parcel there (omega arith) (omega arith) in
    record {
      world = rest.world;
      gets = subst (λ l. Gets s drift w (Step ∷ replicate (suc k) Step) rest.world (l ++ [])) one.none (gets-turn s drift w rest.world Step (replicate (suc k) Step) [] one.on rest.gets);
      ended = rest.ended;
    }

-- ---- the exchange

parcel-home : (s : SceneValue) (drift : ℕ) (w : World) (n : ℕ) (from : Option ℕ) → Stands s drift w n from Home → is_past from n ≡ true → enabled s drift w Post ≡ true
unfolding enabled may_post is_home
parcel-home s drift w n from h past = rw (none-open w.course h.going, h.from_is, h.at, past, h.parcel_is) refl

-- a world in which the parcel went on
moved : (s : SceneValue) (drift : ℕ) (w : World) (n : ℕ) (from : Option ℕ) (old new : Parcel) (turn : Turn) → Stands s drift w n from old → enabled s drift w turn ≡ true → made s drift w turn ≡ with_parcel w new
    → Stands s drift (made s drift w turn) n from new
unfolding with_parcel
moved s drift w n from old new turn h on is = record {
  kept = Kept-made s drift w turn h.kept on;
  going = ap (λ (x : World). x.course.last) is ∙ h.going;
  at = ap (λ (x : World). x.course.state.step) is ∙ h.at;
  from_is = ap (λ (x : World). x.course.from) is ∙ h.from_is;
  parcel_is = ap (λ (x : World). x.parcel) is;
}

-- one turn, and then to the end
ends-turn : (s : SceneValue) (drift : ℕ) (w : World) (turn : Turn) (turns : List Turn) (rows : List TakenRow) → enabled s drift w turn ≡ true → Ends s drift (made s drift w turn) turns rows
    → Ends s drift w (turn ∷ turns) (made_rows s drift w turn ++ rows)
ends-turn s drift w turn turns rows on e = record { world = e.world; gets = gets-turn s drift w e.world turn turns rows on e.gets; ended = e.ended }

-- some turns, and then to the end
ends-turns : (s : SceneValue) (drift : ℕ) (w : World) (xs ys : List Turn) (n : ℕ) (from : Option ℕ) (parcel : Parcel) (rows : List TakenRow) (a : Arrives s drift w xs n from parcel) → Ends s drift a.world ys rows → Ends s drift w (xs ++ ys) rows
ends-turns s drift w xs ys n from parcel rows a e = record { world = e.world; gets = gets-turns s drift w a.world e.world xs ys rows a.gets e.gets; ended = e.ended }

-- the turns of the exchange, each where the parcel is there
post-stands : (s : SceneValue) (drift : ℕ) (w : World) (n : ℕ) (from : Option ℕ) → Stands s drift w n from Home → enabled s drift w Post ≡ true → Stands s drift (made s drift w Post) n from (Posted (snap_of w.course.state))
unfolding made
post-stands s drift w n from h on = moved s drift w n from Home (Posted (snap_of w.course.state)) Post h on refl

take-on : (s : SceneValue) (drift : ℕ) (w : World) (n : ℕ) (from : Option ℕ) (snap : Snap) → Stands s drift w n from (Posted snap) → enabled s drift w Take ≡ true
unfolding enabled is_posted
take-on s drift w n from snap h = rw (none-open w.course h.going, h.parcel_is) refl

take-stands : (s : SceneValue) (drift : ℕ) (w : World) (n : ℕ) (from : Option ℕ) (snap : Snap) → Stands s drift w n from (Posted snap) → Stands s drift (made s drift w Take) n from (Taken snap)
unfolding made carried_by
take-stands s drift w n from snap h =
    moved s drift w n from (Posted snap) (Taken snap) Take h (take-on s drift w n from snap h) (ap (λ p. with_parcel w (Taken (carried_by p))) h.parcel_is)

deliver-on : (s : SceneValue) (drift : ℕ) (w : World) (n : ℕ) (from : Option ℕ) (snap : Snap) → Stands s drift w n from (Taken snap) → enabled s drift w Deliver ≡ true
unfolding enabled is_taken
deliver-on s drift w n from snap h = rw (none-open w.course h.going, h.parcel_is) refl

deliver-stands : (s : SceneValue) (drift : ℕ) (w : World) (n : ℕ) (from : Option ℕ) (snap : Snap) → Stands s drift w n from (Taken snap) → Stands s drift (made s drift w Deliver) n from (Delivered snap)
unfolding made carried_by
deliver-stands s drift w n from snap h =
    moved s drift w n from (Taken snap) (Delivered snap) Deliver h (deliver-on s drift w n from snap h) (ap (λ p. with_parcel w (Delivered (carried_by p))) h.parcel_is)

-- with the parcel at home: it is posted, taken and delivered
exchange : (s : SceneValue) (drift : ℕ) (w : World) (n : ℕ) (from : Option ℕ) (turns : List Turn) (rows : List TakenRow) → Stands s drift w n from Home → is_past from n ≡ true
    → ((v : World) → Stands s drift v n from (Delivered (snap_of w.course.state)) → Ends s drift v turns rows) → Ends s drift w (Post ∷ Take ∷ Deliver ∷ turns) rows
unfolding made_rows
exchange s drift w n from turns rows h past rest =
    let snap : Snap = snap_of w.course.state in
    let w1 : World = made s drift w Post in
    let w2 : World = made s drift (made s drift w Post) Take in
    let on = parcel-home s drift w n from h past in
    let h1 = post-stands s drift w n from h on in
    let h2 = take-stands s drift (made s drift w Post) n from (snap_of w.course.state) h1 in
    let h3 = deliver-stands s drift (made s drift (made s drift w Post) Take) n from (snap_of w.course.state) h2 in
    ends-turn s drift w Post (Take ∷ Deliver ∷ turns) rows on
    (ends-turn s drift (made s drift w Post) Take (Deliver ∷ turns) rows (take-on s drift (made s drift w Post) n from (snap_of w.course.state) h1)
    (ends-turn s drift (made s drift (made s drift w Post) Take) Deliver turns rows (deliver-on s drift (made s drift (made s drift w Post) Take) n from (snap_of w.course.state) h2)
    (rest (made s drift (made s drift (made s drift w Post) Take) Deliver) h3)))

-- the list is taken into use
record IsCollected (s : SceneValue) (drift : ℕ) (w : World) (n : ℕ) (snap : Snap) : Type 0 where
  on : enabled s drift w Collect ≡ true
  stands : Stands s drift (made s drift w Collect) n (Some snap.step) Home
  rows_are : made_rows s drift w Collect ≡ record { from = snap.step; at = n; pairs = length (list_of s drift snap) } ∷ []

is-collected : (s : SceneValue) (drift : ℕ) (w : World) (n : ℕ) (from : Option ℕ) (snap : Snap) → Stands s drift w n from (Delivered snap) → IsCollected s drift w n snap
unfolding made made_rows collected with_list row_of row_with is_delivered carried_by
is-collected s drift w n from snap h =
    let on : enabled s drift w Collect ≡ true = unfold enabled in rw (none-open w.course h.going, h.parcel_is) refl in
    record {
      on = on;
      stands = record {
        kept = Kept-made s drift w Collect h.kept on;
        going = h.going;
        at = h.at;
        from_is = ap (λ p. Some (carried_by p).step) h.parcel_is;
        parcel_is = refl;
      };
      rows_are = ap₂ (λ p m. (let r : TakenRow = record { from = (carried_by p).step; at = m; pairs = length (list_of s drift (carried_by p)) } in r) ∷ []) h.parcel_is h.at;
    }

-- ---- all rows

-- the next row may come where a world stands; without one steps are left
abbrev MayCome : ℕ → Option ℕ → ℕ → List TakenRow → Type 0
MayCome end from now [] = now < end
MayCome end from now (row ∷ rows) = (is_past from row.from ≡ true) × (now ≤ row.from)

comes-next : (end : ℕ) (row : TakenRow) (rows : List TakenRow) → IsFollowed row rows → row.at < end → MayCome end (Some row.from) row.at rows
unfolding is_past
comes-next end row [] h lt = lt
comes-next end row (next ∷ rows) h lt = (lt-ltb row.from next.from h.0, h.1)

serves-less : (drift : ℕ) (from : Option ℕ) (now m until : ℕ) → Serves drift from now until → now ≤ m → m ≤ until → Serves drift from now m
serves-less drift None now m until h le less = omega (arith, h)
serves-less drift (Some from) now m until h le less = omega (arith, h)

serves-later : (drift : ℕ) (from : Option ℕ) (now m until : ℕ) → Serves drift from now until → now ≤ m → Serves drift from m until
serves-later drift None now m until h le = omega (arith, h)
serves-later drift (Some from) now m until h le = h

size-there : (s : SceneValue) (drift : ℕ) (row : TakenRow) (st : State) → plain_at s row.from ≡ Some st → IsSomeAnd (plain_at s row.from) (λ x. row.pairs ≡ length (list_of s drift (snap_of x))) → row.pairs ≡ length (list_of s drift (snap_of st))
size-there s drift row st here h = subst (λ o. IsSomeAnd o (λ x. row.pairs ≡ length (list_of s drift (snap_of x)))) here h

snap-step : (st : State) (n : ℕ) → st.step ≡ n → (snap_of st).step ≡ n
unfolding snap_of
snap-step st n is = is

rows-end : (s : SceneValue) (drift : ℕ) (rows : List TakenRow) (w : World) (n : ℕ) (from : Option ℕ) → Stands s drift w n from Home → AreRows s drift rows (begun (last_of s)) → AllByRecursion (λ (r : TakenRow). r.at < begun (last_of s)) rows
    → MayCome (begun (last_of s)) from n rows → Serves drift from n (used_until rows (begun (last_of s))) → Ends s drift w (spell_from n rows (begun (last_of s))) rows
unfolding used_until spell_from
rows-end s drift [] w n None h each in_time comes serves = absurd (omega (arith, serves, comes))
rows-end s drift [] w n (Some from) h each in_time comes serves =
    let left : begun (last_of s) - n ≡ suc (begun (last_of s) - n - 1) = omega (arith, comes) in
    subst (λ k. Ends s drift w (steps k) []) (sym left) (steps-end s drift (begun (last_of s) - n - 1) w n from Home h (omega (arith, serves, comes)) (omega (arith, comes)))
rows-end s drift (row ∷ rows) w n from h each in_time comes serves =
    let at1 : n + (row.from - n) ≡ row.from = omega (arith, comes.1) in
    let at2 : row.from + (row.at - row.from) ≡ row.at = omega (arith, each.0.past) in
    let a = steps-arrive s drift (row.from - n) w n from Home h (subst (Serves drift from n) (sym at1) (serves-less drift from n row.from row.at serves comes.1 each.0.past)) (omega (arith, each.0.past, in_time.0, comes.1)) in
    let there : Stands s drift a.world row.from from Home = subst (λ m. Stands s drift a.world m from Home) at1 a.stands in
    let plain : plain_at s row.from ≡ Some a.world.course.state = subst (λ m. plain_at s m ≡ Some a.world.course.state) there.at there.kept.course.plain in
    let size = size-there s drift row a.world.course.state plain each.0.size in
    ends-turns s drift w (steps (row.from - n)) (Post ∷ Take ∷ Deliver ∷ (steps (row.at - row.from) ++ Collect ∷ spell_from row.at rows (begun (last_of s)))) (n + (row.from - n)) from Home (row ∷ rows) a
    (exchange s drift a.world row.from from (steps (row.at - row.from) ++ Collect ∷ spell_from row.at rows (begun (last_of s))) (row ∷ rows) there comes.0
    (λ v stands.
    let b = steps-arrive s drift (row.at - row.from) v row.from from (Delivered (snap_of a.world.course.state)) stands (subst (Serves drift from row.from) (sym at2) (serves-later drift from n row.from row.at serves comes.1)) (omega (arith, each.0.past, in_time.0)) in
    let ready : Stands s drift b.world row.at from (Delivered (snap_of a.world.course.state)) = subst (λ m. Stands s drift b.world m from (Delivered (snap_of a.world.course.state))) at2 b.stands in
    let c = is-collected s drift b.world row.at from (snap_of a.world.course.state) ready in
    let from_is : (snap_of a.world.course.state).step ≡ row.from = snap-step a.world.course.state row.from there.at in
    let stands' : Stands s drift (made s drift b.world Collect) row.at (Some row.from) Home = subst (λ m. Stands s drift (made s drift b.world Collect) row.at (Some m) Home) from_is c.stands in
    let rest = rows-end s drift rows (made s drift b.world Collect) row.at (Some row.from) stands' each.1 in_time.1 (comes-next (begun (last_of s)) row rows each.0.followed in_time.0) each.0.used in
    let noted : made_rows s drift b.world Collect ≡ row ∷ [] =
    c.rows_are
    ∙ ap₂ (λ f m. (let r : TakenRow = record { from = f; at = row.at; pairs = m } in r) ∷ []) from_is (sym size) in
    ends-turns s drift v (steps (row.at - row.from)) (Collect ∷ spell_from row.at rows (begun (last_of s))) (row.from + (row.at - row.from)) from (Delivered (snap_of a.world.course.state)) (row ∷ rows) b
    (subst (λ l. Ends s drift b.world (Collect ∷ spell_from row.at rows (begun (last_of s))) (l ++ rows)) noted (ends-turn s drift b.world Collect (spell_from row.at rows (begun (last_of s))) rows c.on rest))))

-- ---- the law

-- turns in order keep what holds of every world, and what was written and noted
pub Kept-after : (s : SceneValue) (drift : ℕ) (w : World) (turns : List Turn) → Kept s drift w → Kept s drift (world_after s drift w turns)
unfolding world_after
Kept-after s drift w [] k = k
Kept-after s drift w (turn ∷ turns) k = Kept-after s drift (turned s drift w turn) turns (Kept-turned s drift w turn k)

pub so_far-after : (s : SceneValue) (drift : ℕ) (w : World) (turns : List Turn) → Kept s drift w → text_so_far s (world_after s drift w turns).course ≡ text_so_far s w.course ++ text_after s drift w turns
unfolding world_after text_after
so_far-after s drift w [] k = sym (append-nil (text_so_far s w.course))
so_far-after s drift w (turn ∷ turns) k =
    so_far-after s drift (turned s drift w turn) turns (Kept-turned s drift w turn k)
    ∙ ap (λ l. l ++ text_after s drift (turned s drift w turn) turns) (so_far-turned s drift w turn k)
    ∙ append_assoc (text_so_far s w.course) (turn_text s drift w turn) (text_after s drift (turned s drift w turn) turns)

pub HasTaken-after : (s : SceneValue) (drift : ℕ) (rows : List TakenRow) (w : World) (turns : List Turn) → Kept s drift w → HasTaken s drift rows w.course
    → HasTaken s drift (rows ++ rows_after s drift w turns) (world_after s drift w turns).course
unfolding world_after rows_after
HasTaken-after s drift rows w [] k h = subst (λ l. HasTaken s drift l w.course) (sym (append-nil rows)) h
HasTaken-after s drift rows w (turn ∷ turns) k h =
    subst (λ l. HasTaken s drift l (world_after s drift (turned s drift w turn) turns).course) (append_assoc rows (turn_rows s drift w turn) (rows_after s drift (turned s drift w turn) turns))
    (HasTaken-after s drift (rows ++ turn_rows s drift w turn) (turned s drift w turn) turns (Kept-turned s drift w turn k) (HasTaken-turned s drift rows w turn k h))

-- what ends so has written the whole output, and its tests are those of its rows
plays-from : (s : SceneValue) (drift : ℕ) (rows : List TakenRow) → Ends s drift (first_world s) (spell rows (last_of s)) rows → Plays s drift rows (last_of s)
plays-from s drift rows e =
    let k = Kept-first s drift in
    let kept : Kept s drift e.world = subst (Kept s drift) e.gets.after (Kept-after s drift (first_world s) (spell rows (last_of s)) k) in
    let taken : HasTaken s drift rows e.world.course =
    subst (λ (x : World). HasTaken s drift rows x.course) e.gets.after
    (subst (λ l. HasTaken s drift l (world_after s drift (first_world s) (spell rows (last_of s))).course) e.gets.rows_are
    (HasTaken-after s drift [] (first_world s) (spell rows (last_of s)) k (taken-first s drift))) in
    record {
      world = e.world;
      made = e.gets.along_is;
      ended = e.ended;
      written =
          ap (λ l. l ++ text_after s drift (first_world s) (spell rows (last_of s))) (sym (so_far-first s))
          ∙ sym (so_far-after s drift (first_world s) (spell rows (last_of s)) k)
          ∙ ap (λ (x : World). text_so_far s x.course) e.gets.after
          ∙ (text-ended s drift e.world.course (last_of s) kept.course e.ended).0;
      noted = e.gets.rows_are;
      tests = (HasTaken-ended s drift rows e.world.course (last_of s) kept.course e.ended taken).1;
    }

first-open : (s : SceneValue) → 0 < s.steps → done_at s 0 ≡ None
unfolding done_at
first-open s lt = ap (λ b. if b then Some (Done 0) else None) (ne_eqb 0 s.steps (λ (e : 0 ≡ s.steps). absurd (omega arith)))

first-closed : (s : SceneValue) → s.steps ≡ 0 → done_at s 0 ≡ Some (Done 0)
unfolding done_at
first-closed s none = ap (λ b. if b then Some (Done 0) else None) (eq-eqb 0 s.steps (sym none))

no-spell : (last : Last) → last ≡ Done 0 → spell [] last ≡ []
unfolding spell spell_from steps begun
no-spell last is = ap (λ l. replicate (begun l - 0) Step) is

-- without rows a scene has no steps, and the run has ended at its start
no-rows : (s : SceneValue) (drift : ℕ) → s.steps ≡ 0 → Ends s drift (first_world s) (spell [] (last_of s)) []
no-rows s drift none =
    let k = Kept-first s drift in
    let last : (first_world s).course.last ≡ Some (Done 0) = unfold first_world in unfold first_course in first-closed s none in
    let whole : Done 0 ≡ last_of s = (text-ended s drift (first_world s).course (Done 0) k.course last).1 in
    let turns : spell [] (last_of s) ≡ [] = no-spell (last_of s) (sym whole) in
    subst (λ l. Ends s drift (first_world s) l []) (sym turns) (record { world = first_world s; gets = gets-none s drift (first_world s); ended = last ∙ ap Some whole })

cons-none : (row : TakenRow) (rows : List TakenRow) → row ∷ rows ≡ [] → ⊥
cons-none row rows h = cc

legal-ends : (s : SceneValue) (drift : ℕ) (rows : List TakenRow) → IsLegal s drift (last_of s) rows → Ends s drift (first_world s) (spell rows (last_of s)) rows
legal-ends s drift [] legal = no-rows s drift (legal.none.0 refl)
legal-ends s drift (row ∷ rows) legal =
    let k = Kept-first s drift in
    let some : 0 < s.steps = omega (arith, λ (none : s.steps ≡ 0). cons-none row rows (legal.none.1 none)) in
    let stands : Stands s drift (first_world s) 0 None Home =
    unfold first_world in unfold first_course in record { kept = k; going = first-open s some; at = first-number s; from_is = refl; parcel_is = refl } in
    unfold spell in rows-end s drift (row ∷ rows) (first_world s) 0 None stands legal.each legal.in_time (unfold is_past in refl, omega arith) (unfold used_until in omega (arith, legal.first.1))

-- along the spell of legal rows a world may take every turn, and ends with the whole output, these rows, and their tests
pub legal-plays : (s : SceneValue) (drift : ℕ) (rows : List TakenRow) → IsLegal s drift (last_of s) rows → Plays s drift rows (last_of s)
legal-plays s drift rows legal = plays-from s drift rows (legal-ends s drift rows legal)

-- whatever turns a world is given from its start, the text and the rows are what it has come to
pub all-come : (s : SceneValue) (drift : ℕ) (turns : List Turn) → ComesBy s drift turns
all-come s drift turns =
    let first = Kept-first s drift in
    let kept = Kept-after s drift (first_world s) turns first in
    let w : World = world_after s drift (first_world s) turns in
    let text : reached_text s (first_state s) ++ text_after s drift (first_world s) turns ≡ text_so_far s (world_after s drift (first_world s) turns).course =
    ap (λ l. l ++ text_after s drift (first_world s) turns) (sym (so_far-first s)) ∙ sym (so_far-after s drift (first_world s) turns first) in
    let taken = HasTaken-after s drift [] (first_world s) turns first (taken-first s drift) in
    record {
      course = kept.course;
      parcel = kept.parcel;
      written = text;
      taken = taken;
      whole = λ last is.
          let out = text-ended s drift (world_after s drift (first_world s) turns).course last kept.course is in
          let rows = HasTaken-ended s drift (rows_after s drift (first_world s) turns) (world_after s drift (first_world s) turns).course last kept.course is taken in
          record { written = text ∙ out.0; last_is = out.1; legal = rows.0; tests = rows.1 };
    }
