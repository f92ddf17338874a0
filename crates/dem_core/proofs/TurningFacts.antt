-- A world as it is stored: which turns it may take, and what they make of what contracts see.
use Rattle.std.proofs.Common.{◌≡◌, ℕ, inl, inr, Bool, true, false, ◌&&◌, List, [], length, Option, None, Some, Result, Ok, Err, refl, sym, ap, ap₂, ◌∙◌, subst, append-nil, true≢false}
use Rattle.std.specs.Prelude.{if◌then◌else◌}
use Rattle.std.specs.Io.KnownBytes.{Appends, Keeps}
use Rattle.std.proofs.KnownBytes.{Appends-nil}
use Rattle.std.proofs.lemmas.Bool.{and_parts}
use Rattle.dem_model.specs.SceneValue.{SceneValue}
use Rattle.dem_model.specs.Centers.{centers_of}
use Rattle.dem_model.specs.Near.{near_of}
use Rattle.dem_model.specs.Plain.{plain_at}
use Rattle.dem_model.specs.Step.{step_of}
use Rattle.dem_model.specs.Frames.{taken_text}
use Rattle.dem_model.specs.World.{Snap, Parcel, Home, Posted, Taken, Delivered, Course, World, is_posted, is_taken, is_delivered, is_open, is_past, may_post, may_step, enabled, snap_of, carried_by, list_of, with_list, collected, stepped, with_parcel, made, made_text, turn_text, step_text, row_of, row_with, made_rows, turn_rows, rows_text, next_turn, first_course, first_world}
use Rattle.dem_model.specs.declared.state.Pair.{Pair}
use Rattle.dem_model.specs.declared.state.State.{State}
use Rattle.dem_model.specs.declared.state.Turn.{Turn}
use Rattle.dem_model.specs.declared.state.Turn.TheVariants.{Post, Take, Deliver, Collect, Step}
use Rattle.dem_shape.specs.declared.snapshot.Snapshot.{Snapshot}
use Rattle.dem_list.specs.Ascending.{Pairs}
use Rattle.dem_margin.specs.NearList.{IsNearListOf}
use Rattle.dem_bins.specs.Bins.{GridValue, most_tests}
use Rattle.dem_step.specs.Stepper.{IsSnapshotOfRun, IsListOfRun, state_at}
use Rattle.dem_core.specs.Courses.{Running, IsOnCourse, MayCollect}
use Rattle.dem_core.specs.Worlds.{Turning, IsOut, HasParcel, seen, parcel_of, world_of, Carries, IsKept, with_turn, Turns, Gains, HasCount, HasFaults, most_made, most_of_turn}
use Rattle.dem_core.specs.declared.did.Did.{Did}
use Rattle.dem_core.specs.declared.did.Did.TheVariants as did
use Rattle.dem_core.specs.declared.did.WorldStop.{WorldStop}
use Rattle.dem_core.specs.declared.did.WorldStop.TheVariants.{WriteFault, OutOfMemory}
use Rattle.dem_core.specs.declared.parcel.Parcel.{Parcel as Room}
use Rattle.dem_core.specs.declared.parcel.Place.{Place}
use Rattle.dem_core.specs.declared.parcel.Place.TheVariants as place
use Rattle.dem_core.proofs.CourseFacts.{open-none}
use Rattle.dem_core.proofs.WorldFacts.{turned-on, text-on, rows-on, rows-off, post-may, take-may, deliver-may, collect-may, IsOut-posted, IsOut-collect, IsOut-stepped}

-- ---- which turns it may take

pub and-then : (a b told : Bool) → a ≡ true → told ≡ b → told ≡ (a && b)
and-then a b told on is = is ∙ sym (ap (λ x. x && b) on)

pub and-else : (a b told : Bool) → told ≡ a → told ≡ false → told ≡ (a && b)
and-else a b told is off = off ∙ sym (ap (λ x. x && b) (sym is ∙ off))

-- the turn with which an open world goes on by itself
pub next-step : (s : SceneValue) (drift : ℕ) (w : World) → may_step s drift w.course ≡ true → Step ≡ next_turn s drift w
unfolding next_turn enabled
next-step s drift w may = rw may refl

pub next-post : (s : SceneValue) (drift : ℕ) (c : Course) → may_step s drift c ≡ false → is_open c ≡ true → Post ≡ next_turn s drift (record { course = c; parcel = Home })
unfolding next_turn enabled is_posted is_taken is_delivered
next-post s drift c off going = rw (off, going) refl

pub next-take : (s : SceneValue) (drift : ℕ) (c : Course) (snap : Snap) → may_step s drift c ≡ false → is_open c ≡ true → Take ≡ next_turn s drift (record { course = c; parcel = Posted snap })
unfolding next_turn enabled is_posted is_taken is_delivered
next-take s drift c snap off going = rw (off, going) refl

pub next-deliver : (s : SceneValue) (drift : ℕ) (c : Course) (snap : Snap) → may_step s drift c ≡ false → is_open c ≡ true → Deliver ≡ next_turn s drift (record { course = c; parcel = Taken snap })
unfolding next_turn enabled is_posted is_taken is_delivered
next-deliver s drift c snap off going = rw (off, going) refl

pub next-collect : (s : SceneValue) (drift : ℕ) (c : Course) (snap : Snap) → may_step s drift c ≡ false → is_open c ≡ true → Collect ≡ next_turn s drift (record { course = c; parcel = Delivered snap })
unfolding next_turn enabled is_posted is_taken is_delivered
next-collect s drift c snap off going = rw (off, going) refl

-- ---- where the parcel is

-- what the place says of the room, where the parcel is there
pub posted-carries : (s : SceneValue) (drift : ℕ) (c : Course) (p : Place) (snap : Snapshot) (list : Pairs) → is_posted (parcel_of p snap) ≡ true → Carries s drift c p snap list
    → (carried_by (parcel_of p snap) ≡ seen snap) × Carries s drift c place.Taken snap list
unfolding parcel_of is_posted carried_by
posted-carries s drift c place.Home snap list is h = absurd (true≢false (sym is))
posted-carries s drift c place.Posted snap list is h = (refl, h)
posted-carries s drift c place.Taken snap list is h = absurd (true≢false (sym is))
posted-carries s drift c place.Delivered snap list is h = absurd (true≢false (sym is))

pub taken-carries : (s : SceneValue) (drift : ℕ) (c : Course) (p : Place) (snap : Snapshot) (list : Pairs) → is_taken (parcel_of p snap) ≡ true → Carries s drift c p snap list
    → (carried_by (parcel_of p snap) ≡ seen snap) × Carries s drift c place.Taken snap list
unfolding parcel_of is_taken carried_by
taken-carries s drift c place.Home snap list is h = absurd (true≢false (sym is))
taken-carries s drift c place.Posted snap list is h = absurd (true≢false (sym is))
taken-carries s drift c place.Taken snap list is h = (refl, h)
taken-carries s drift c place.Delivered snap list is h = absurd (true≢false (sym is))

pub delivered-carries : (s : SceneValue) (drift : ℕ) (c : Course) (p : Place) (snap : Snapshot) (list : Pairs) → is_delivered (parcel_of p snap) ≡ true → Carries s drift c p snap list
    → (carried_by (parcel_of p snap) ≡ seen snap) × Carries s drift c place.Delivered snap list
unfolding parcel_of is_delivered carried_by
delivered-carries s drift c place.Home snap list is h = absurd (true≢false (sym is))
delivered-carries s drift c place.Posted snap list is h = absurd (true≢false (sym is))
delivered-carries s drift c place.Taken snap list is h = absurd (true≢false (sym is))
delivered-carries s drift c place.Delivered snap list is h = (refl, h)

-- what contracts say of the parcel
pub carries-parcel : (s : SceneValue) (drift : ℕ) (c : Course) (p : Place) (snap : Snapshot) (list : Pairs) → Carries s drift c p snap list → HasParcel s c (parcel_of p snap)
unfolding parcel_of
carries-parcel s drift c place.Home snap list h = tt
carries-parcel s drift c place.Posted snap list h = h.0
carries-parcel s drift c place.Taken snap list h = h.0
carries-parcel s drift c place.Delivered snap list h = h.0

-- a step leaves all of it
pub carries-stepped : (s : SceneValue) (drift : ℕ) (c : Course) (p : Place) (snap : Snapshot) (list : Pairs) → Carries s drift c p snap list → Carries s drift (stepped s c) p snap list
carries-stepped s drift c place.Home snap list h = tt
carries-stepped s drift c place.Posted snap list h = (IsOut-stepped s c (seen snap) h.0, h.1)
carries-stepped s drift c place.Taken snap list h = (IsOut-stepped s c (seen snap) h.0, h.1)
carries-stepped s drift c place.Delivered snap list h = (IsOut-stepped s c (seen snap) h.0, h.1, h.2)

-- the near list of a snapshot of the run is a list of the run
pub near-of-run : (s : SceneValue) (drift : ℕ) (snap : Snapshot) (list : Pairs) → IsSnapshotOfRun s snap → IsNearListOf s drift snap list → IsListOfRun s drift list
near-of-run s drift snap list h near = record {
  there = subst (λ n. plain_at s n ≡ Some (state_at s n)) (sym near.from) h.there;
  pairs =
      near.pairs
      ∙ ap (λ bs. near_of s drift (centers_of s bs)) h.bodies
      ∙ ap (λ n. near_of s drift (centers_of s (state_at s n).bodies)) (sym near.from);
}

-- ---- what a turn makes of it

-- the world after a turn that it may take
pub turned-view : (old : Turning) (turn : Turn) (w : World) (stop : Bool) → enabled old.scene old.drift old.world turn ≡ true → w ≡ made old.scene old.drift old.world turn
    → (let new : Turning = record { scene = old.scene; drift = old.drift; bin = old.bin; world = w; stopped = stop } in new) ≡ with_turn old turn stop
turned-view old turn w stop on is =
    ap (λ x. record { scene = old.scene; drift = old.drift; bin = old.bin; world = x; stopped = stop }) (is ∙ sym (turned-on old.scene old.drift old.world turn on))

seen-state : (snap : Snapshot) (st : State) → snap ≡ record { step = st.step; bodies = st.bodies } → seen snap ≡ snap_of st
unfolding snap_of
seen-state snap st is = ap seen is

post-open : (c : Course) → may_post c ≡ true → is_open c ≡ true
unfolding may_post
post-open c may = (and_parts (is_open c) (is_past c.from c.state.step) may).0

-- Post
pub post-turns : (run : Running) (bin : ℕ) (p : Place) (snap snap' : Snapshot) → enabled run.scene run.drift (record { course = run.course; parcel = parcel_of p snap }) Post ≡ true
    → snap' ≡ record { step = run.course.state.step; bodies = run.course.state.bodies } → Turns (world_of run bin p snap false) (world_of run bin place.Posted snap' false) Post (Ok did.Moved)
unfolding made with_parcel parcel_of
post-turns run bin p snap snap' on is =
    let may = post-may run.scene run.drift (record { course = run.course; parcel = parcel_of p snap }) on in
    let w : World = record { course = run.course; parcel = Posted (seen snap') } in (
      on,
      turned-view (world_of run bin p snap false) Post (record { course = run.course; parcel = Posted (seen snap') }) false on
          (ap (λ x. record { course = run.course; parcel = Posted x }) (seen-state snap' run.course.state is)),
      open-none run.course (post-open run.course may.0),
    )

-- Take
pub take-turns : (run : Running) (bin : ℕ) (p : Place) (snap : Snapshot) (list : Pairs) → enabled run.scene run.drift (record { course = run.course; parcel = parcel_of p snap }) Take ≡ true
    → Carries run.scene run.drift run.course p snap list → Turns (world_of run bin p snap false) (world_of run bin place.Taken snap false) Take (Ok did.Moved)
unfolding made with_parcel
take-turns run bin p snap list on h =
    let may = take-may run.scene run.drift (record { course = run.course; parcel = parcel_of p snap }) on in
    let is = posted-carries run.scene run.drift run.course p snap list may.1 h in
    let there : parcel_of place.Taken snap ≡ Taken (seen snap) = unfold parcel_of in refl in (
      on,
      turned-view (world_of run bin p snap false) Take (record { course = run.course; parcel = parcel_of place.Taken snap }) false on
          (ap (λ x. record { course = run.course; parcel = x }) (there ∙ ap Taken (sym is.0))),
      open-none run.course may.0,
    )

-- Deliver
pub deliver-turns : (run : Running) (bin : ℕ) (p : Place) (snap : Snapshot) (list : Pairs) → enabled run.scene run.drift (record { course = run.course; parcel = parcel_of p snap }) Deliver ≡ true
    → Carries run.scene run.drift run.course p snap list → Turns (world_of run bin p snap false) (world_of run bin place.Delivered snap false) Deliver (Ok did.Moved)
unfolding made with_parcel
deliver-turns run bin p snap list on h =
    let may = deliver-may run.scene run.drift (record { course = run.course; parcel = parcel_of p snap }) on in
    let is = taken-carries run.scene run.drift run.course p snap list may.1 h in
    let there : parcel_of place.Delivered snap ≡ Delivered (seen snap) = unfold parcel_of in refl in (
      on,
      turned-view (world_of run bin p snap false) Deliver (record { course = run.course; parcel = parcel_of place.Delivered snap }) false on
          (ap (λ x. record { course = run.course; parcel = x }) (there ∙ ap Delivered (sym is.0))),
      open-none run.course may.0,
    )

-- the list of a parcel is that of its snapshot
pub list-is : (s : SceneValue) (drift : ℕ) (c : Course) (p : Parcel) (snap : Snapshot) (list : Pairs) → carried_by p ≡ seen snap → IsNearListOf s drift snap list
    → (with_list c list.from list.pairs ≡ collected s drift c (carried_by p)) × (row_with c list.from list.pairs ≡ row_of s drift c (carried_by p))
unfolding collected row_of list_of
list-is s drift c p snap list is near = (
  ap₂ (with_list c) near.from near.pairs ∙ sym (ap (λ (x : Snap). with_list c x.step (near_of s drift (centers_of s x.bodies))) is),
  ap₂ (row_with c) near.from near.pairs ∙ sym (ap (λ (x : Snap). row_with c x.step (near_of s drift (centers_of s x.bodies))) is),
)

-- Collect
pub collect-view : (run : Running) (new : Running) (bin : ℕ) (p : Place) (snap : Snapshot) (list : Pairs) (stop : Bool) → enabled run.scene run.drift (record { course = run.course; parcel = parcel_of p snap }) Collect ≡ true
    → Carries run.scene run.drift run.course p snap list → new ≡ record { scene = run.scene; drift = run.drift; course = with_list run.course list.from list.pairs }
    → world_of new bin place.Home snap stop ≡ with_turn (world_of run bin p snap false) Collect stop
unfolding made
collect-view run new bin p snap list stop on h is =
    let may = collect-may run.scene run.drift (record { course = run.course; parcel = parcel_of p snap }) on in
    let carries = delivered-carries run.scene run.drift run.course p snap list may.1 h in
    let there : parcel_of place.Home snap ≡ Home = unfold parcel_of in refl in
    let w : World = record { course = with_list run.course list.from list.pairs; parcel = parcel_of place.Home snap } in
    ap (λ (r : Running). world_of r bin place.Home snap stop) is
    ∙ turned-view (world_of run bin p snap false) Collect (record { course = with_list run.course list.from list.pairs; parcel = parcel_of place.Home snap }) stop on
    (ap₂ (λ c x. record { course = c; parcel = x }) (list-is run.scene run.drift run.course (parcel_of p snap) snap list carries.0 carries.1.2).0 there)

pub collect-open : (run : Running) (p : Place) (snap : Snapshot) (from : ℕ) (pairs : List Pair) → enabled run.scene run.drift (record { course = run.course; parcel = parcel_of p snap }) Collect ≡ true
    → (with_list run.course from pairs).last ≡ None
unfolding with_list
collect-open run p snap from pairs on = open-none run.course (collect-may run.scene run.drift (record { course = run.course; parcel = parcel_of p snap }) on).0

-- the rows of a Collect
pub collect-rows : (run : Running) (p : Place) (snap : Snapshot) (list : Pairs) → enabled run.scene run.drift (record { course = run.course; parcel = parcel_of p snap }) Collect ≡ true → Carries run.scene run.drift run.course p snap list
    → taken_text (row_with run.course list.from list.pairs) ≡ rows_text (turn_rows run.scene run.drift (record { course = run.course; parcel = parcel_of p snap }) Collect)
unfolding made_rows rows_text
collect-rows run p snap list on h =
    let may = collect-may run.scene run.drift (record { course = run.course; parcel = parcel_of p snap }) on in
    let carries = delivered-carries run.scene run.drift run.course p snap list may.1 h in
    ap taken_text (list-is run.scene run.drift run.course (parcel_of p snap) snap list carries.0 carries.1.2).1
    ∙ sym (append-nil (taken_text (row_of run.scene run.drift run.course (carried_by (parcel_of p snap)))))
    ∙ sym (ap rows_text (rows-on run.scene run.drift (record { course = run.course; parcel = parcel_of p snap }) Collect on))

-- Step
pub step-view : (run new : Running) (bin : ℕ) (p : Place) (snap : Snapshot) (stop : Bool) → enabled run.scene run.drift (record { course = run.course; parcel = parcel_of p snap }) Step ≡ true
    → new ≡ record { scene = run.scene; drift = run.drift; course = stepped run.scene run.course } → world_of new bin p snap stop ≡ with_turn (world_of run bin p snap false) Step stop
unfolding made
step-view run new bin p snap stop on is =
    ap (λ (r : Running). world_of r bin p snap stop) is
    ∙ turned-view (world_of run bin p snap false) Step (record { course = stepped run.scene run.course; parcel = parcel_of p snap }) stop on refl

pub step-text : (s : SceneValue) (drift : ℕ) (w : World) → enabled s drift w Step ≡ true → step_text s (step_of s w.course.state) ≡ turn_text s drift w Step
unfolding made_text
step-text s drift w on = sym (text-on s drift w Step on)

-- ---- what a turn leaves alone

pub post-quiet : (s : SceneValue) (drift : ℕ) (w : World) → enabled s drift w Post ≡ true → (turn_text s drift w Post ≡ []) × (rows_text (turn_rows s drift w Post) ≡ [])
unfolding made_text made_rows rows_text
post-quiet s drift w on = (text-on s drift w Post on, ap rows_text (rows-on s drift w Post on))

pub take-quiet : (s : SceneValue) (drift : ℕ) (w : World) → enabled s drift w Take ≡ true → (turn_text s drift w Take ≡ []) × (rows_text (turn_rows s drift w Take) ≡ [])
unfolding made_text made_rows rows_text
take-quiet s drift w on = (text-on s drift w Take on, ap rows_text (rows-on s drift w Take on))

pub deliver-quiet : (s : SceneValue) (drift : ℕ) (w : World) → enabled s drift w Deliver ≡ true → (turn_text s drift w Deliver ≡ []) × (rows_text (turn_rows s drift w Deliver) ≡ [])
unfolding made_text made_rows rows_text
deliver-quiet s drift w on = (text-on s drift w Deliver on, ap rows_text (rows-on s drift w Deliver on))

pub collect-quiet : (s : SceneValue) (drift : ℕ) (w : World) → enabled s drift w Collect ≡ true → turn_text s drift w Collect ≡ []
unfolding made_text
collect-quiet s drift w on = text-on s drift w Collect on

pub step-quiet : (s : SceneValue) (drift : ℕ) (w : World) → enabled s drift w Step ≡ true → rows_text (turn_rows s drift w Step) ≡ []
unfolding made_rows rows_text
step-quiet s drift w on = ap rows_text (rows-on s drift w Step on)

-- a sink keeps what it holds where it was left alone
pub Keeps-same : (held : Option (List ℕ)) → Keeps held held
Keeps-same None = tt
Keeps-same (Some bytes) = refl

-- a sink that was left alone gained what is empty
pub gains-none : {A : Type 0} (text : List ℕ) (held : Option (List ℕ)) (r : Result A WorldStop) → text ≡ [] → Gains text held held r
gains-none text held (Ok x) is = subst (Appends held held) (sym is) (Appends-nil held)
gains-none text held (Err WriteFault) is = ([], text, refl, Appends-nil held)
gains-none text held (Err OutOfMemory) is = Keeps-same held

-- the counts, where one sink was left alone
pub count-out : {A : Type 0} (out out' note : ℕ) (r : Result A WorldStop) → HasCount out out' r → HasFaults out out' note note r
count-out out out' note (Ok x) h = (h, refl)
count-out out out' note (Err WriteFault) h = inl (h, refl)
count-out out out' note (Err OutOfMemory) h = (h, refl)

pub count-note : {A : Type 0} (out note note' : ℕ) (r : Result A WorldStop) → HasCount note note' r → HasFaults out out note note' r
count-note out note note' (Ok x) h = (refl, h)
count-note out note note' (Err WriteFault) h = inr (h, refl)
count-note out note note' (Err OutOfMemory) h = (refl, h)

-- the most tests of a turn that may be taken
pub most-on : (old : Turning) (turn : Turn) → enabled old.scene old.drift old.world turn ≡ true → most_of_turn old turn ≡ most_made old.scene (record { drift = old.drift; bin = old.bin }) old.world turn
unfolding most_of_turn
most-on old turn on = ap (λ b. if b then most_made old.scene (record { drift = old.drift; bin = old.bin }) old.world turn else 0) on

-- ---- a world that isn't stopped, as it is seen

-- it is seen with no stop
pub going-view : (now : Turning) (run : Running) (bin : ℕ) (p : Place) (snap : Snapshot) (st : Bool) → world_of run bin p snap st ≡ now → now.stopped ≡ false → (st ≡ false) × (world_of run bin p snap false ≡ now)
going-view now run bin p snap st view going =
    let stopped : st ≡ false = ap (λ (t : Turning). t.stopped) view ∙ going in
    (stopped, ap (λ b. world_of run bin p snap b) (sym stopped) ∙ view)

-- it may take the turn that it is seen to may take
pub going-on : (now : Turning) (run : Running) (bin : ℕ) (p : Place) (snap : Snapshot) (st : Bool) (turn : Turn) → world_of run bin p snap st ≡ now → enabled now.scene now.drift now.world turn ≡ true
    → enabled run.scene run.drift (record { course = run.course; parcel = parcel_of p snap }) turn ≡ true
going-on now run bin p snap st turn view on = subst (λ (t : Turning). enabled t.scene t.drift t.world turn ≡ true) (sym view) on

-- and so it is seen after a turn
pub going-turns : (now : Turning) (run : Running) (bin : ℕ) (p : Place) (snap : Snapshot) (st : Bool) (turn : Turn) (new : Bool → Turning) (r : Result Did WorldStop) → world_of run bin p snap st ≡ now → now.stopped ≡ false
    → Turns (world_of run bin p snap false) (new false) turn r → Turns now (new st) turn r
going-turns now run bin p snap st turn new r view going turns =
    let v = going-view now run bin p snap st view going in
    subst (λ (t : Turning). Turns t (new st) turn r) v.1 (subst (λ b. Turns (world_of run bin p snap false) (new b) turn r) (sym v.0) turns)

pub going-stops : (now : Turning) (run : Running) (bin : ℕ) (p : Place) (snap : Snapshot) (st : Bool) (turn : Turn) (new : Turning) (r : Result Did WorldStop) → world_of run bin p snap st ≡ now → now.stopped ≡ false
    → Turns (world_of run bin p snap false) new turn r → Turns now new turn r
going-stops now run bin p snap st turn new r view going turns =
    subst (λ (t : Turning). Turns t new turn r) (going-view now run bin p snap st view going).1 turns

-- ---- what is kept

-- what the room holds, as the course sees it
pub kept-carries : (s : SceneValue) (grid : GridValue) (run : Running) (room : Room) → IsKept s grid run room → Carries run.scene run.drift run.course room.place room.snap room.list
kept-carries s grid run room k =
    subst (λ d. Carries run.scene d run.course room.place room.snap room.list) (sym k.drift) (subst (λ x. Carries x grid.drift run.course room.place room.snap room.list) (sym k.scene) k.carries)

pub kept-posted : (s : SceneValue) (grid : GridValue) (run : Running) (room : Room) (snap' : Snapshot) → IsKept s grid run room → IsOnCourse run.scene run.drift run.course
    → enabled run.scene run.drift (record { course = run.course; parcel = parcel_of room.place room.snap }) Post ≡ true
    → snap' ≡ record { step = run.course.state.step; bodies = run.course.state.bodies } → IsSnapshotOfRun run.scene snap' → IsKept s grid run (record { place = place.Posted; snap = snap'; list = room.list })
kept-posted s grid run room snap' k on may is of_run =
    let post = post-may run.scene run.drift (record { course = run.course; parcel = parcel_of room.place room.snap }) may in
    let out : IsOut run.scene run.course (seen snap') = subst (IsOut run.scene run.course) (sym (seen-state snap' run.course.state is)) (IsOut-posted run.scene run.drift run.course on post.0) in
    record {
      grid_is = k.grid_is;
      scene = k.scene;
      drift = k.drift;
      room = subst (λ (x : SceneValue). length snap'.bodies ≡ length x.clumps) k.scene of_run.sound.count;
      carries = subst (λ (x : SceneValue). IsOut x run.course (seen snap') × IsSnapshotOfRun x snap') k.scene (out, of_run);
    }

pub kept-taken : (s : SceneValue) (grid : GridValue) (run : Running) (room : Room) → IsKept s grid run room
    → enabled run.scene run.drift (record { course = run.course; parcel = parcel_of room.place room.snap }) Take ≡ true → IsKept s grid run (record { place = place.Taken; snap = room.snap; list = room.list })
kept-taken s grid run room k may = record {
  grid_is = k.grid_is;
  scene = k.scene;
  drift = k.drift;
  room = k.room;
  carries = (posted-carries s grid.drift run.course room.place room.snap room.list (take-may run.scene run.drift (record { course = run.course; parcel = parcel_of room.place room.snap }) may).1 k.carries).1;
}

-- the room of a parcel that kinematics has
pub taken-room : (s : SceneValue) (grid : GridValue) (run : Running) (room : Room) → IsKept s grid run room
    → enabled run.scene run.drift (record { course = run.course; parcel = parcel_of room.place room.snap }) Deliver ≡ true
    → (carried_by (parcel_of room.place room.snap) ≡ seen room.snap) × Carries s grid.drift run.course place.Taken room.snap room.list
taken-room s grid run room k may =
    taken-carries s grid.drift run.course room.place room.snap room.list (deliver-may run.scene run.drift (record { course = run.course; parcel = parcel_of room.place room.snap }) may).1 k.carries

pub kept-delivered : (s : SceneValue) (grid : GridValue) (run : Running) (room : Room) (list : Pairs) → IsKept s grid run room
    → enabled run.scene run.drift (record { course = run.course; parcel = parcel_of room.place room.snap }) Deliver ≡ true → IsNearListOf s grid.drift room.snap list
    → IsKept s grid run (record { place = place.Delivered; snap = room.snap; list = list })
kept-delivered s grid run room list k may near =
    let taken = (taken-room s grid run room k may).1 in
    record { grid_is = k.grid_is; scene = k.scene; drift = k.drift; room = k.room; carries = (taken.0, taken.1, near) }

-- while kinematics has the parcel any buffer may lie in it
taken-any : (s : SceneValue) (drift : ℕ) (c : Course) (p : Place) (snap : Snapshot) (list other : Pairs) → is_taken (parcel_of p snap) ≡ true → Carries s drift c p snap list → Carries s drift c p snap other
unfolding parcel_of is_taken
taken-any s drift c place.Home snap list other is h = absurd (true≢false (sym is))
taken-any s drift c place.Posted snap list other is h = absurd (true≢false (sym is))
taken-any s drift c place.Taken snap list other is h = h
taken-any s drift c place.Delivered snap list other is h = absurd (true≢false (sym is))

pub kept-refused : (s : SceneValue) (grid : GridValue) (run : Running) (room : Room) (buffer : Pairs) → IsKept s grid run room
    → enabled run.scene run.drift (record { course = run.course; parcel = parcel_of room.place room.snap }) Deliver ≡ true → IsKept s grid run (record { place = room.place; snap = room.snap; list = buffer })
kept-refused s grid run room buffer k may = record {
  grid_is = k.grid_is;
  scene = k.scene;
  drift = k.drift;
  room = k.room;
  carries = taken-any s grid.drift run.course room.place room.snap room.list buffer (deliver-may run.scene run.drift (record { course = run.course; parcel = parcel_of room.place room.snap }) may).1 k.carries;
}

pub kept-stepped : (s : SceneValue) (grid : GridValue) (run new : Running) (room : Room) → IsKept s grid run room → new ≡ record { scene = run.scene; drift = run.drift; course = stepped run.scene run.course } → IsKept s grid new room
kept-stepped s grid run new room k is =
    let carries : Carries s grid.drift (stepped run.scene run.course) room.place room.snap room.list =
    subst (λ x. Carries s grid.drift (stepped x run.course) room.place room.snap room.list) (sym k.scene) (carries-stepped s grid.drift run.course room.place room.snap room.list k.carries) in
    record {
      grid_is = k.grid_is;
      scene = ap (λ (r : Running). r.scene) is ∙ k.scene;
      drift = ap (λ (r : Running). r.drift) is ∙ k.drift;
      room = k.room;
      carries = subst (λ (r : Running). Carries s grid.drift r.course room.place room.snap room.list) (sym is) carries;
    }

-- ---- Collect

-- what Collect asks of the course
pub collect-asks : (s : SceneValue) (grid : GridValue) (run : Running) (room : Room) (list : Pairs) → IsKept s grid run room → list ≡ room.list
    → enabled run.scene run.drift (record { course = run.course; parcel = parcel_of room.place room.snap }) Collect ≡ true → IsListOfRun run.scene run.drift list × MayCollect run.course list.from
collect-asks s grid run room list k same may =
    let on = collect-may run.scene run.drift (record { course = run.course; parcel = parcel_of room.place room.snap }) may in
    let carries = (delivered-carries run.scene run.drift run.course room.place room.snap room.list on.1 (kept-carries s grid run room k)).1 in
    subst (λ (l : Pairs). IsListOfRun run.scene run.drift l × MayCollect run.course l.from) (sym same) (
      near-of-run run.scene run.drift room.snap room.list carries.1 carries.2,
      subst (MayCollect run.course) (sym carries.2.from) (IsOut-collect run.scene run.course (seen room.snap) on.0 carries.0),
    )

pub collect-turns : (s : SceneValue) (grid : GridValue) (run new : Running) (bin : ℕ) (room : Room) (list : Pairs) → IsKept s grid run room → list ≡ room.list
    → enabled run.scene run.drift (record { course = run.course; parcel = parcel_of room.place room.snap }) Collect ≡ true → new ≡ record { scene = run.scene; drift = run.drift; course = with_list run.course list.from list.pairs }
    → Turns (world_of run bin room.place room.snap false) (world_of new bin place.Home room.snap false) Collect (Ok did.Moved)
collect-turns s grid run new bin room list k same may is =
    let carries = subst (Carries run.scene run.drift run.course room.place room.snap) (sym same) (kept-carries s grid run room k) in (
      may,
      collect-view run new bin room.place room.snap list false may carries is,
      ap (λ (r : Running). r.course.last) is ∙ collect-open run room.place room.snap list.from list.pairs may,
    )

pub collect-stops : (s : SceneValue) (grid : GridValue) (run new : Running) (bin : ℕ) (room : Room) (list : Pairs) → IsKept s grid run room → list ≡ room.list
    → enabled run.scene run.drift (record { course = run.course; parcel = parcel_of room.place room.snap }) Collect ≡ true → new ≡ record { scene = run.scene; drift = run.drift; course = with_list run.course list.from list.pairs }
    → Turns (world_of run bin room.place room.snap false) (world_of new bin place.Home room.snap true) Collect (Err WriteFault)
collect-stops s grid run new bin room list k same may is =
    (may, collect-view run new bin room.place room.snap list true may (subst (Carries run.scene run.drift run.course room.place room.snap) (sym same) (kept-carries s grid run room k)) is)

pub collect-notes : (s : SceneValue) (grid : GridValue) (run : Running) (bin : ℕ) (room : Room) (list : Pairs) (st : Bool) (now : Turning) → IsKept s grid run room → list ≡ room.list → world_of run bin room.place room.snap st ≡ now
    → enabled run.scene run.drift (record { course = run.course; parcel = parcel_of room.place room.snap }) Collect ≡ true
    → taken_text (row_with run.course list.from list.pairs) ≡ rows_text (turn_rows now.scene now.drift now.world Collect)
collect-notes s grid run bin room list st now k same view may =
    collect-rows run room.place room.snap list may (subst (Carries run.scene run.drift run.course room.place room.snap) (sym same) (kept-carries s grid run room k))
    ∙ ap (λ (t : Turning). rows_text (turn_rows t.scene t.drift t.world Collect)) view

-- ---- Step

pub step-writes : (run : Running) (bin : ℕ) (p : Place) (snap : Snapshot) (st : Bool) (now : Turning) → world_of run bin p snap st ≡ now
    → enabled run.scene run.drift (record { course = run.course; parcel = parcel_of p snap }) Step ≡ true → step_text run.scene (step_of run.scene run.course.state) ≡ turn_text now.scene now.drift now.world Step
step-writes run bin p snap st now view may =
    step-text run.scene run.drift (record { course = run.course; parcel = parcel_of p snap }) may ∙ ap (λ (t : Turning). turn_text t.scene t.drift t.world Step) view

-- ---- Deliver

pub deliver-most : (s : SceneValue) (grid : GridValue) (run : Running) (room : Room) (st : Bool) (now : Turning) → IsKept s grid run room → world_of run grid.bin room.place room.snap st ≡ now
    → enabled run.scene run.drift (record { course = run.course; parcel = parcel_of room.place room.snap }) Deliver ≡ true → most_tests s grid (centers_of s room.snap.bodies) ≡ most_of_turn now Deliver
deliver-most s grid run room st now k view may =
    let taken = taken-room s grid run room k may in
    let world : World = record { course = run.course; parcel = parcel_of room.place room.snap } in
    sym (ap (λ (x : Snap). most_tests s grid (centers_of s x.bodies)) taken.0)
    ∙ sym (ap₂ (λ x d. most_tests x (record { drift = d; bin = grid.bin }) (centers_of x (carried_by (parcel_of room.place room.snap)).bodies)) k.scene k.drift)
    ∙ sym (most-on (world_of run grid.bin room.place room.snap st) Deliver may)
    ∙ ap (λ (t : Turning). most_of_turn t Deliver) view

-- ---- a turn that may not be taken, and a world that begins

pub rows-quiet : (s : SceneValue) (drift : ℕ) (w : World) (turn : Turn) → enabled s drift w turn ≡ false → rows_text (turn_rows s drift w turn) ≡ []
unfolding rows_text
rows-quiet s drift w turn off = ap rows_text (rows-off s drift w turn off)

pub new-view : (s : SceneValue) (grid : GridValue) (run : Running) (room : Room) → run ≡ record { scene = s; drift = grid.drift; course = first_course s } → room.place ≡ place.Home
    → world_of run grid.bin room.place room.snap false ≡ record { scene = s; drift = grid.drift; bin = grid.bin; world = first_world s; stopped = false }
unfolding first_world parcel_of
new-view s grid run room is home =
    ap (λ (r : Running). world_of r grid.bin room.place room.snap false) is
    ∙ ap (λ p. record { scene = s; drift = grid.drift; bin = grid.bin; world = record { course = first_course s; parcel = parcel_of p room.snap }; stopped = false }) home
