-- What dynamics keeps by each of its turns.
use Rattle.std.proofs.Common.{◌≡◌, ℕ, ◌+◌, ◌≤◌, ◌⊎◌, inl, inr, Bool, true, false, List, [], ◌∷◌, ◌++◌, length, Option, None, Some, Result, Ok, Err, OnErr, refl, sym, ap, ◌∙◌, subst, append-nil, length-append, flat_map, arith, true≢false}
use Rattle.std.specs.Io.KnownBytes.{Appends, Keeps}
use Rattle.std.proofs.KnownBytes.{Appends-nil, Appends-trans}
use Rattle.std.proofs.lemmas.Bool.{ltb-true}
use Rattle.std.proofs.lemmas.Grind.{flat_map-append}
use Rattle.atomic_table.specs.Seated.{TableId}
use Rattle.dem_outside.specs.Known.{AppendsPrefix}
use Rattle.dem_outside.proofs.Prefixes.{AppendsPrefix-nil, AppendsPrefix-whole, AppendsPrefix-longer, AppendsPrefix-after, AppendsPrefix-kept}
use Rattle.dem_model.specs.SceneValue.{SceneValue}
use Rattle.dem_model.specs.Centers.{centers_of}
use Rattle.dem_model.specs.Exchange.{terms_of, IsNearOf}
use Rattle.dem_model.specs.ExchangeKinds.{posting}
use Rattle.dem_model.specs.Near.{near_of}
use Rattle.dem_model.specs.Frames.{taken_text, tests_text}
use Rattle.dem_model.specs.Output.{output_of}
use Rattle.dem_model.specs.Plain.{first_state, plain_at}
use Rattle.dem_model.specs.Step.{step_of}
use Rattle.dem_model.specs.TakenRows.{IsLegal}
use Rattle.dem_model.specs.World.{Snap, Course, is_past, may_post, may_step, first_course, after_step, stepped, with_list, row_with, rows_text, reached_text, step_text, snap_of}
use Rattle.dem_model.specs.declared.state.End.{End}
use Rattle.dem_model.specs.declared.state.Last.{Last}
use Rattle.dem_model.specs.declared.state.State.{State}
use Rattle.dem_list.specs.Ascending.{Pairs}
use Rattle.dem_shape.specs.declared.snapshot.Snapshot.{Snapshot}
use Rattle.dem_step.specs.Stepper.{state_at, IsSnapshotOfRun, IsListOfRun}
use Rattle.dem_swap.specs.Cycle.{snap_of as seen_of}
use Rattle.dem_swap.specs.Seats.{DynSeatValue}
use Rattle.dem_swap.specs.declared.parcel.Parcel.{Parcel}
use Rattle.dem_core.specs.Courses.{Running, IsOnCourse, MayCollect, BeginsCourse}
use Rattle.dem_core.specs.Playing.{Plays}
use Rattle.dem_core.specs.SoFar.{text_so_far, HasWritten}
use Rattle.dem_core.specs.Worlds.{IsOut}
use Rattle.dem_core.specs.declared.did.WorldStop.{WorldStop}
use Rattle.dem_core.specs.declared.did.WorldStop.TheVariants.{WriteFault, OutOfMemory}
use Rattle.dem_core.proofs.CourseFacts.{none-open, list-near, IsOnCourse-first, IsOnCourse-stepped}
use Rattle.dem_core.proofs.SoFarFacts.{text-first, text-stepped, text-with_list, text-ended, text-prefix}
use Rattle.dem_core.proofs.SpellFacts.{legal-plays}
use Rattle.dem_core.proofs.TakenFacts.{HasTaken-first, HasTaken-stepped, HasTaken-with_list, HasTaken-ended}
use Rattle.dem_core.proofs.WorldFacts.{IsOut-posted, IsOut-stepped, IsOut-collect}
use Rattle.dem_crew.specs.declared.work.Work.{Work}
use Rattle.dem_crew.specs.Running.{HasRun}
use Rattle.dem_crew.specs.Working.{lists_by, IsPlaced, IsAtWork, IsKeptUp}

-- what holds anyway holds on a fault
pub on-err : {A E P : Type 0} (r : Result A E) → P → OnErr r P
on-err (Ok x) p = tt
on-err (Err e) p = p

-- what holds on a fault leads to what follows from it
pub on-err-then : {A E P Q : Type 0} (r : Result A E) → (P → Q) → OnErr r P → OnErr r Q
on-err-then (Ok x) f p = tt
on-err-then (Err e) f p = f p

-- what was written follows where the run and its lists stay
pub kept-same : (o a n m : Option (List ℕ)) (old new : Work) → new.course ≡ old.course → new.lists ≡ old.lists → IsKeptUp o a n m old → IsKeptUp o a n m new
kept-same o a n m old new course lists k = record {
  rows = k.rows;
  written = subst (λ (r : Running). HasWritten r.scene r.drift o a n m k.rows r.course) (sym course) k.written;
  lists_are = lists ∙ k.lists_are;
}

-- ---- at the start

first-tests : (s : SceneValue) → (first_course s).tests ≡ 0
unfolding first_course
first-tests s = refl

-- no pair was tested
pub none-tested : (s : SceneValue) (drift : ℕ) (run : Running) → run ≡ record { scene = s; drift = drift; course = first_course s } → run.course.tests ≡ 0
none-tested s drift run is = ap (λ (r : Running). r.course.tests) is ∙ first-tests s

-- the first frame was written, and no list was taken into use
pub kept-first : (o b n : Option (List ℕ)) (s : SceneValue) (drift : ℕ) (run : Running) (home : Option Parcel) → run ≡ record { scene = s; drift = drift; course = first_course s } → Appends o b (reached_text s (first_state s))
    → IsKeptUp o b n n (record { course = run; home = home; lists = 0 })
kept-first o b n s drift run home is add =
    subst (λ (r : Running). IsKeptUp o b n n (record { course = r; home = home; lists = 0 })) (sym is)
    (record {
      rows = [];
      written = record {
        written = subst (Appends o b) (sym (text-first s)) add;
        noted = unfold rows_text in Appends-nil n;
        taken = HasTaken-first s drift;
      };
      lists_are = refl;
    })

-- a text that the output begins with
prefix-of : (a b : Option (List ℕ)) (text rest out : List ℕ) → text ++ rest ≡ out → AppendsPrefix a b text → AppendsPrefix a b out
prefix-of a b text rest out is h = subst (AppendsPrefix a b) is (AppendsPrefix-longer a b text rest h)

-- where the put of the first frame fails, a prefix of the output was written
pub prefix-first : (a b : Option (List ℕ)) (s : SceneValue) → AppendsPrefix a b (reached_text s (first_state s)) → AppendsPrefix a b (output_of s)
prefix-first a b s h =
    let rest = text-prefix s 0 (first_course s) (IsOnCourse-first s 0) in
    prefix-of a b (text_so_far s (first_course s)) rest.0 (output_of s) rest.1 (subst (AppendsPrefix a b) (sym (text-first s)) h)

-- where nothing was written, too
pub prefix-none : (a b : Option (List ℕ)) (s : SceneValue) → Keeps a b → AppendsPrefix a b (output_of s)
prefix-none a b s h = AppendsPrefix-kept a a b (output_of s) (AppendsPrefix-nil a (output_of s)) h

-- where a run couldn't begin, a prefix of the output was written
pub prefix-begun : (a b : Option (List ℕ)) (s : SceneValue) (drift f g : ℕ) (e : WorldStop) → BeginsCourse s drift a b f g (Err e) → AppendsPrefix a b (output_of s)
prefix-begun a b s drift f g WriteFault h = prefix-first a b s h.0
prefix-begun a b s drift f g OutOfMemory h = prefix-none a b s h.0

-- ---- a step

after-tests : (s : SceneValue) (c : Course) (r : Result State End) → (after_step s c r).tests ≡ c.tests + length c.pairs
unfolding after_step
after-tests s c (Ok next) = refl
after-tests s c (Err e) = refl

-- it counts the pairs of the list
stepped-tests : (s : SceneValue) (c : Course) → (stepped s c).tests ≡ c.tests + length c.pairs
unfolding stepped
stepped-tests s c = after-tests s c (step_of s c.state)

pub run-tests : (s : SceneValue) (drift : ℕ) (c : Course) (run : Running) → run ≡ record { scene = s; drift = drift; course = stepped s c } → run.course.tests ≡ c.tests + length c.pairs
run-tests s drift c run is = ap (λ (r : Running). r.course.tests) is ∙ stepped-tests s c

after-from : (s : SceneValue) (c : Course) (r : Result State End) → (after_step s c r).from ≡ c.from
unfolding after_step
after-from s c (Ok next) = refl
after-from s c (Err e) = refl

stepped-from : (s : SceneValue) (c : Course) → (stepped s c).from ≡ c.from
unfolding stepped
stepped-from s c = after-from s c (step_of s c.state)

stepped-placed : (s : SceneValue) (c : Course) (seat : DynSeatValue) (home : Option Parcel) → IsPlaced s c seat.view home → IsPlaced s (stepped s c) seat.view home
stepped-placed s c seat (Some p) h = h
stepped-placed s c seat None h =
    let a = h.1 in
    (h.0, record { step = a.step; bodies = a.bodies; posted_last = a.posted_last; out = IsOut-stepped s c (record { step = a.step; bodies = a.bodies }) a.out; sound = a.sound })

-- its lists stay few
pub few-stepped : (lists : ℕ) (s : SceneValue) (drift : ℕ) (c : Course) (run : Running) → run ≡ record { scene = s; drift = drift; course = stepped s c } → lists ≤ lists_by c.from → lists ≤ lists_by run.course.from
few-stepped lists s drift c run is few = subst (λ (r : Running). lists ≤ lists_by r.course.from) (sym is) (subst (λ o. lists ≤ lists_by o) (sym (stepped-from s c)) few)

-- dynamics is at its work after a step
pub at_work-stepped : (table : TableId) (seat : DynSeatValue) (old : Work) (run : Running) → run ≡ record { scene = old.course.scene; drift = old.course.drift; course = stepped old.course.scene old.course.course }
    → IsAtWork table seat old → IsAtWork table seat (record { course = run; home = old.home; lists = old.lists })
at_work-stepped table seat old run is h =
    subst (λ (r : Running). IsAtWork table seat (record { course = r; home = old.home; lists = old.lists })) (sym is)
    (record {
      seat_at = h.seat_at;
      terms_are = h.terms_are;
      placed = stepped-placed old.course.scene old.course.course seat old.home h.placed;
      few = subst (λ o. old.lists ≤ lists_by o) (sym (stepped-from old.course.scene old.course.course)) h.few;
    })

-- what was written follows by a step
pub kept-stepped : (o a b n m : Option (List ℕ)) (old : Work) (run : Running) → IsOnCourse old.course.scene old.course.drift old.course.course → may_step old.course.scene old.course.drift old.course.course ≡ true
    → run ≡ record { scene = old.course.scene; drift = old.course.drift; course = stepped old.course.scene old.course.course }
    → Appends a b (step_text old.course.scene (step_of old.course.scene old.course.course.state)) → IsKeptUp o a n m old → IsKeptUp o b n m (record { course = run; home = old.home; lists = old.lists })
kept-stepped o a b n m old run on may is add k =
    let s : SceneValue = old.course.scene in
    let c : Course = old.course.course in
    let text : text_so_far s (stepped s c) ≡ text_so_far s c ++ step_text s (step_of s c.state) = text-stepped s old.course.drift c on may in
    subst (λ (r : Running). IsKeptUp o b n m (record { course = r; home = old.home; lists = old.lists })) (sym is)
    (record {
      rows = k.rows;
      written = record {
        written = subst (Appends o b) (sym text) (Appends-trans o a b _ _ k.written.written add);
        noted = k.written.noted;
        taken = HasTaken-stepped s old.course.drift k.rows c on may k.written.taken;
      };
      lists_are = k.lists_are;
    })

-- what was written so far is a prefix of the output
pub prefix-kept : (o a n m : Option (List ℕ)) (work : Work) → IsOnCourse work.course.scene work.course.drift work.course.course → IsKeptUp o a n m work → AppendsPrefix o a (output_of work.course.scene)
prefix-kept o a n m work on k =
    let rest = text-prefix work.course.scene work.course.drift work.course.course on in
    prefix-of o a (text_so_far work.course.scene work.course.course) rest.0 _ rest.1 (AppendsPrefix-whole o a _ k.written.written)

-- and where a put fails in a step
pub prefix-stepped : (o a b n m : Option (List ℕ)) (old : Work) → IsOnCourse old.course.scene old.course.drift old.course.course → may_step old.course.scene old.course.drift old.course.course ≡ true
    → AppendsPrefix a b (step_text old.course.scene (step_of old.course.scene old.course.course.state)) → IsKeptUp o a n m old → AppendsPrefix o b (output_of old.course.scene)
prefix-stepped o a b n m old on may add k =
    let s : SceneValue = old.course.scene in
    let c : Course = old.course.course in
    let rest = text-prefix s old.course.drift (stepped s c) (IsOnCourse-stepped s old.course.drift c on may) in
    let text : text_so_far s (stepped s c) ≡ text_so_far s c ++ step_text s (step_of s c.state) = text-stepped s old.course.drift c on may in
    prefix-of o b (text_so_far s (stepped s c)) rest.0 _ rest.1 (subst (AppendsPrefix o b) (sym text) (AppendsPrefix-after o a b _ _ k.written.written add))

-- ---- a list

-- a snapshot of the state may be posted
pub out-posted : (s : SceneValue) (drift : ℕ) (c : Course) (snap : Snapshot) → IsOnCourse s drift c → may_post c ≡ true → snap ≡ record { step = c.state.step; bodies = c.state.bodies } → IsOut s c (record { step = snap.step; bodies = snap.bodies })
out-posted s drift c snap on may value =
    let first : IsOut s c (record { step = c.state.step; bodies = c.state.bodies }) = unfold snap_of in IsOut-posted s drift c on may in
    subst (λ (q : Snapshot). IsOut s c (record { step = q.step; bodies = q.bodies })) (sym value) first

-- dynamics is at its work after it has posted
pub at_work-posted : (table : TableId) (seat new : DynSeatValue) (old : Work) (p : Parcel) (snap : Snapshot) (home : Option Parcel) → IsOnCourse old.course.scene old.course.drift old.course.course → may_post old.course.course ≡ true
    → old.home ≡ Some p → home ≡ None → IsSnapshotOfRun old.course.scene snap → snap ≡ record { step = old.course.course.state.step; bodies = old.course.course.state.bodies }
    → new ≡ record seat { view = posting seat.view (seen_of snap) } → IsAtWork table seat old → IsAtWork table new (record { course = old.course; home = home; lists = old.lists })
at_work-posted table seat new old p snap home on may was none of_run value is h =
    let s : SceneValue = old.course.scene in
    let c : Course = old.course.course in
    let held = subst (IsPlaced s c seat.view) was h.placed in
    let out = out-posted s old.course.drift c snap on may value in
    let away : IsPlaced s c (posting seat.view (seen_of snap)) None = (
      omega (arith, held.0),
      record { step = snap.step; bodies = snap.bodies; posted_last = refl; out = out; sound = of_run.sound },
    ) in
    subst (λ (x : DynSeatValue). IsAtWork table x (record { course = old.course; home = home; lists = old.lists })) (sym is)
    (record {
      seat_at = h.seat_at;
      terms_are = h.terms_are;
      placed = subst (IsPlaced s c (posting seat.view (seen_of snap))) (sym none) away;
      few = h.few;
    })

-- the list of a snapshot of the run may be taken into use
pub may-collect : (s : SceneValue) (c : Course) (snap : Snap) (from : ℕ) → c.last ≡ None → IsOut s c snap → from ≡ snap.step → MayCollect c from
may-collect s c snap from none h is = subst (MayCollect c) (sym is) (IsOut-collect s c snap (none-open c none) h)

few-by : (o : Option ℕ) (lists from : ℕ) → lists ≤ lists_by o → is_past o from ≡ true → lists + 1 ≤ from + 1
unfolding is_past
few-by None lists from few newer = omega (arith, few)
few-by (Some f) lists from few newer = omega (arith, few, ltb-true f from newer)

-- and is of the run
pub list-of : (s : SceneValue) (drift : ℕ) (c : Course) (snap : Snap) (list : Pairs) → IsOut s c snap → IsNearOf (terms_of s drift) snap list.from list.pairs → IsListOfRun s drift list
list-of s drift c snap list out near = record {
  there = subst (λ n. plain_at s n ≡ Some (state_at s n)) (sym near.from_is) out.there;
  pairs = near.pairs_are ∙ ap (λ bs. near_of s drift (centers_of s bs)) (out.bodies ∙ ap (λ n. (state_at s n).bodies) (sym near.from_is));
}

-- it is one more
pub few-more : (c : Course) (lists from : ℕ) → lists ≤ lists_by c.from → MayCollect c from → lists + 1 ≤ from + 1
few-more c lists from few may = few-by c.from lists from few may.newer

-- an answer that wasn't refused is a near list
pub not-refused : {P : Type 0} (b : Bool) → b ≡ false → ((b ≡ true) ⊎ P) → P
not-refused b isnt (inl is) = absurd (true≢false (sym is ∙ isnt))
not-refused b isnt (inr p) = p

-- what was written follows where a list is taken into use
pub kept-with_list : (o out n a b : Option (List ℕ)) (old : Work) (run : Running) (home : Option Parcel) (list : Pairs) (lists : ℕ) → lists ≡ old.lists + 1 → IsOnCourse old.course.scene old.course.drift old.course.course → MayCollect old.course.course list.from
    → IsListOfRun old.course.scene old.course.drift list → run ≡ record old.course { course = with_list old.course.course list.from list.pairs } → Appends a b (taken_text (row_with old.course.course list.from list.pairs))
    → IsKeptUp o out n a old → IsKeptUp o out n b (record { course = run; home = home; lists = lists })
kept-with_list o out n a b old run home list lists count on may near is add k =
    let s : SceneValue = old.course.scene in
    let c : Course = old.course.course in
    let of_run = list-near s old.course.drift list.from list.pairs near in
    let rows : rows_text (k.rows ++ row_with c list.from list.pairs ∷ []) ≡ rows_text k.rows ++ taken_text (row_with c list.from list.pairs) =
    unfold rows_text in flat_map-append taken_text k.rows (row_with c list.from list.pairs ∷ []) ∙ ap (λ l. flat_map taken_text k.rows ++ l) (append-nil (taken_text (row_with c list.from list.pairs))) in
    subst (λ (r : Running). IsKeptUp o out n b (record { course = r; home = home; lists = lists })) (sym is)
    (record {
      rows = k.rows ++ row_with c list.from list.pairs ∷ [];
      written = record {
        written = subst (Appends o out) (sym (text-with_list s c list.from list.pairs)) k.written.written;
        noted = subst (Appends n b) (sym rows) (Appends-trans n a b _ _ k.written.noted add);
        taken = HasTaken-with_list s old.course.drift k.rows c list.from list.pairs on may of_run k.written.taken;
      };
      lists_are = omega (arith, count, k.lists_are, length-append k.rows (row_with c list.from list.pairs ∷ []));
    })

-- ---- at the end

-- a run that has ended, and the row of whose tests was written, was made
pub has-run : (o out n a b : Option (List ℕ)) (work : Work) (last : Last) (tests : ℕ) → IsOnCourse work.course.scene work.course.drift work.course.course → work.course.course.last ≡ Some last → tests ≡ work.course.course.tests → Appends a b (tests_text tests)
    → IsKeptUp o out n a work → HasRun work.course.scene work.course.drift o out n b (record { last = last; lists = work.lists; tests = tests })
has-run o out n a b work last tests on is counted add k =
    let s : SceneValue = work.course.scene in
    let drift : ℕ = work.course.drift in
    let whole = text-ended s drift work.course.course last on is in
    let ended = HasTaken-ended s drift k.rows work.course.course last on is k.written.taken in
    record {
      rows = k.rows;
      legal = ended.0;
      played = subst (Plays s drift k.rows) (sym whole.1) (legal-plays s drift k.rows (subst (λ l. IsLegal s drift l k.rows) whole.1 ended.0));
      last = whole.1;
      lists = k.lists_are;
      tests = counted ∙ ended.1;
      written = subst (Appends o out) whole.0 k.written.written;
      noted = Appends-trans n a b _ _ k.written.noted add;
    }
