-- The turns with which a world goes on by itself: each may be taken, each brings it nearer to its end, and what they come to.
use Rattle.std.proofs.Common.{◌≡◌, ℕ, ◌+◌, ◌-◌, ◌*◌, ◌<◌, ◌≤◌, inl, inr, Bool, true, false, List, [], ◌∷◌, ◌++◌, Option, None, Some, Result, Ok, Err, refl, sym, ap, ap₂, ◌∙◌, subst, arith, append_assoc, append-nil, true≢false}
use Rattle.std.specs.Prelude.{if◌then◌else◌, IsSomeAnd}
use Rattle.std.specs.Io.KnownBytes.{Appends, Keeps}
use Rattle.std.proofs.KnownBytes.{Appends-nil, Appends-trans, Appends-kept}
use Rattle.std.proofs.lemmas.Grind.{flat_map-append}
use Rattle.std.proofs.lemmas.Bool.{cases_Bool, cases_lt, lt-ltb}
use Rattle.dem_outside.specs.Known.{AppendsPrefix}
use Rattle.dem_outside.proofs.Prefixes.{AppendsPrefix-after}
use Rattle.dem_model.specs.SceneValue.{SceneValue}
use Rattle.dem_model.specs.Step.{step_of}
use Rattle.dem_model.specs.Frames.{taken_text}
use Rattle.dem_model.specs.World.{Snap, Parcel, Home, Posted, Taken, Delivered, Course, World, is_home, is_posted, is_taken, is_delivered, is_past, is_open, may_post, may_step, enabled, snap_of, carried_by, with_list, collected, after_step, stepped, with_parcel, made, turned, turn_text, turn_rows, rows_text, world_after, text_after, rows_after, next_turn, GoesOnBy}
use Rattle.dem_model.specs.declared.state.End.{End}
use Rattle.dem_model.specs.declared.state.Last.{Last}
use Rattle.dem_model.specs.declared.state.State.{State}
use Rattle.dem_model.specs.declared.state.TakenRow.{TakenRow}
use Rattle.dem_model.specs.declared.state.Turn.{Turn}
use Rattle.dem_model.specs.declared.state.Turn.TheVariants.{Post, Take, Deliver, Collect, Step}
use Rattle.dem_output.proofs.RunLaw.{step_of-step}
use Rattle.dem_core.specs.Courses.{IsOnCourse, HasEnd}
use Rattle.dem_core.specs.Worlds.{Turning, IsOut, with_turn, with_turns, Turns, TakesMemory, Gains, HasEnded, GoesOn, most_of_turn, most_of_turns}
use Rattle.dem_core.specs.declared.did.Did.{Did}
use Rattle.dem_core.specs.declared.did.Did.TheVariants as did
use Rattle.dem_core.specs.declared.did.WorldStop.{WorldStop}
use Rattle.dem_core.specs.declared.did.WorldStop.TheVariants.{WriteFault, OutOfMemory}
use Rattle.dem_core.proofs.CourseFacts.{GoesOn as CanGoOn, may-goes_on, goes_on-may, open-none, none-open, in-time}
use Rattle.dem_core.proofs.SoFarFacts.{text-ended}
use Rattle.dem_core.proofs.WorldFacts.{Kept, turned-on, IsOut-collect}
use Rattle.dem_core.proofs.SpellFacts.{rows-append}
use Rattle.dem_core.proofs.TurningFacts.{next-step, next-post, next-take, next-deliver, next-collect}

-- ---- the next turn of an open world

-- a list that is too old for a step is older than the state
too-old : (s : SceneValue) (drift : ℕ) (c : Course) (o : Option ℕ) → c.from ≡ o → c.last ≡ None → c.state.step < s.steps → may_step s drift c ≡ false → is_past o c.state.step ≡ true
unfolding is_past
too-old s drift c None is none left off = refl
too-old s drift c (Some from) is none left off =
    elim (cases_lt from c.state.step) [
      | inl lt ↦ lt-ltb from c.state.step lt
      | inr ge ↦
          absurd (true≢false (sym (goes_on-may s drift c (record { no_end = none; young = subst (λ o. IsSomeAnd o (λ f. c.state.step ≤ f + drift)) (sym is) (omega arith); left = left })) ∙ off))
    ]

post-on : (s : SceneValue) (drift : ℕ) (c : Course) → is_open c ≡ true → is_past c.from c.state.step ≡ true → enabled s drift (record { course = c; parcel = Home }) Post ≡ true
unfolding enabled may_post is_home
post-on s drift c going past = rw (going, past) refl

take-on : (s : SceneValue) (drift : ℕ) (c : Course) (snap : Snap) → is_open c ≡ true → enabled s drift (record { course = c; parcel = Posted snap }) Take ≡ true
unfolding enabled is_posted
take-on s drift c snap going = rw going refl

deliver-on : (s : SceneValue) (drift : ℕ) (c : Course) (snap : Snap) → is_open c ≡ true → enabled s drift (record { course = c; parcel = Taken snap }) Deliver ≡ true
unfolding enabled is_taken
deliver-on s drift c snap going = rw going refl

collect-on : (s : SceneValue) (drift : ℕ) (c : Course) (snap : Snap) → is_open c ≡ true → enabled s drift (record { course = c; parcel = Delivered snap }) Collect ≡ true
unfolding enabled is_delivered
collect-on s drift c snap going = rw going refl

next-by : (s : SceneValue) (drift : ℕ) (c : Course) (p : Parcel) → IsOnCourse s drift c → is_open c ≡ true → may_step s drift c ≡ false
    → enabled s drift (record { course = c; parcel = p }) (next_turn s drift (record { course = c; parcel = p })) ≡ true
next-by s drift c Home on going off =
    let past = too-old s drift c c.from refl (open-none c going) (subst (HasEnd s c) (open-none c going) on.end) off in
    subst (λ t. enabled s drift (record { course = c; parcel = Home }) t ≡ true) (next-post s drift c off going) (post-on s drift c going past)
next-by s drift c (Posted snap) on going off =
    subst (λ t. enabled s drift (record { course = c; parcel = Posted snap }) t ≡ true) (next-take s drift c snap off going) (take-on s drift c snap going)
next-by s drift c (Taken snap) on going off =
    subst (λ t. enabled s drift (record { course = c; parcel = Taken snap }) t ≡ true) (next-deliver s drift c snap off going) (deliver-on s drift c snap going)
next-by s drift c (Delivered snap) on going off =
    subst (λ t. enabled s drift (record { course = c; parcel = Delivered snap }) t ≡ true) (next-collect s drift c snap off going) (collect-on s drift c snap going)

next-step-on : (s : SceneValue) (drift : ℕ) (w : World) → may_step s drift w.course ≡ true → enabled s drift w (next_turn s drift w) ≡ true
unfolding next_turn enabled
next-step-on s drift w may = rw (may, may) refl

-- an open world may take its next turn
pub next-enabled : (s : SceneValue) (drift : ℕ) (w : World) → IsOnCourse s drift w.course → is_open w.course ≡ true → enabled s drift w (next_turn s drift w) ≡ true
next-enabled s drift w on going =
    elim (cases_Bool (may_step s drift w.course)) [
      | inl may ↦ next-step-on s drift w may
      | inr off ↦ next-by s drift w.course w.parcel on going off
    ]

-- ---- nearer to the end

-- how far the parcel is from being collected
place_rank : Parcel → ℕ
place_rank Home = 4
place_rank (Posted snap) = 3
place_rank (Taken snap) = 2
place_rank (Delivered snap) = 1

-- how far an open world is from its end: the steps that are left, and the exchange where no step may be made
unfoldable pub rank : SceneValue → ℕ → World → ℕ
unfolding place_rank
rank s drift w =
    if is_open w.course
    then 1 + 10 * (s.steps - w.course.state.step) + (if may_step s drift w.course then 0 else 1 + place_rank w.parcel)
    else 0

few : (p : Parcel) → place_rank p ≤ 4
unfolding place_rank
few Home = omega arith
few (Posted snap) = omega arith
few (Taken snap) = omega arith
few (Delivered snap) = omega arith

rank-open : (s : SceneValue) (drift : ℕ) (w : World) (going may : Bool) → is_open w.course ≡ going → may_step s drift w.course ≡ may
    → rank s drift w ≡ (if going then 1 + 10 * (s.steps - w.course.state.step) + (if may then 0 else 1 + place_rank w.parcel) else 0)
unfolding rank
rank-open s drift w going may e f = ap₂ (λ a b. if a then 1 + 10 * (s.steps - w.course.state.step) + (if b then 0 else 1 + place_rank w.parcel) else 0) e f

rank-most : (s : SceneValue) (drift : ℕ) (w : World) → rank s drift w ≤ 6 + 10 * (s.steps - w.course.state.step)
rank-most s drift w =
    elim (cases_Bool (is_open w.course)) [
      | inl going ↦
          elim (cases_Bool (may_step s drift w.course)) [
            | inl may ↦ omega (arith, rank-open s drift w true true going may)
            | inr off ↦ omega (arith, rank-open s drift w true false going off, few w.parcel)
          ]
      | inr ended ↦ omega (arith, rank-open s drift w false (may_step s drift w.course) ended refl)
    ]

rank-stepped : (s : SceneValue) (drift : ℕ) (w : World) (r : Result State End) → step_of s w.course.state ≡ r → CanGoOn s drift w.course → is_open w.course ≡ true → may_step s drift w.course ≡ true
    → rank s drift (record { course = after_step s w.course r; parcel = w.parcel }) < rank s drift w
unfolding after_step
rank-stepped s drift w (Ok next) is g going may =
    let number = step_of-step s w.course.state next is in
    omega (arith, g.left, number, rank-open s drift w true true going may, rank-most s drift (record { course = after_step s w.course (Ok next); parcel = w.parcel }))
rank-stepped s drift w (Err e) is g going may =
    let ended : is_open (after_step s w.course (Err e)) ≡ false = unfold is_open in refl in
    omega (arith, rank-open s drift w true true going may, rank-open s drift (record { course = after_step s w.course (Err e); parcel = w.parcel }) false (may_step s drift (after_step s w.course (Err e))) ended refl)

-- the turns of the exchange, where no step may be made
rank-post : (s : SceneValue) (drift : ℕ) (c : Course) → is_open c ≡ true → may_step s drift c ≡ false
    → rank s drift (made s drift (record { course = c; parcel = Home }) Post) < rank s drift (record { course = c; parcel = Home })
unfolding made with_parcel place_rank
rank-post s drift c going off =
    omega (arith, rank-open s drift (record { course = c; parcel = Home }) true false going off, rank-open s drift (record { course = c; parcel = Posted (snap_of c.state) }) true false going off)

rank-take : (s : SceneValue) (drift : ℕ) (c : Course) (snap : Snap) → is_open c ≡ true → may_step s drift c ≡ false
    → rank s drift (made s drift (record { course = c; parcel = Posted snap }) Take) < rank s drift (record { course = c; parcel = Posted snap })
unfolding made with_parcel place_rank carried_by
rank-take s drift c snap going off =
    omega (arith, rank-open s drift (record { course = c; parcel = Posted snap }) true false going off, rank-open s drift (record { course = c; parcel = Taken snap }) true false going off)

rank-deliver : (s : SceneValue) (drift : ℕ) (c : Course) (snap : Snap) → is_open c ≡ true → may_step s drift c ≡ false
    → rank s drift (made s drift (record { course = c; parcel = Taken snap }) Deliver) < rank s drift (record { course = c; parcel = Taken snap })
unfolding made with_parcel place_rank carried_by
rank-deliver s drift c snap going off =
    omega (arith, rank-open s drift (record { course = c; parcel = Taken snap }) true false going off, rank-open s drift (record { course = c; parcel = Delivered snap }) true false going off)

-- a run that has taken a list may make a step
collected-goes : (s : SceneValue) (drift : ℕ) (c : Course) (snap : Snap) → IsOnCourse s drift c → IsOut s c snap → is_open c ≡ true → (is_open (collected s drift c snap) ≡ true) × (may_step s drift (collected s drift c snap) ≡ true)
unfolding collected with_list
collected-goes s drift c snap on out going =
    let none = open-none c going in
    let goes : CanGoOn s drift (collected s drift c snap) = record { no_end = none; young = in-time s drift c snap.step on (IsOut-collect s c snap going out); left = subst (HasEnd s c) none on.end } in
    (none-open (collected s drift c snap) none, goes_on-may s drift (collected s drift c snap) goes)

collected-step : (s : SceneValue) (drift : ℕ) (c : Course) (snap : Snap) → (collected s drift c snap).state.step ≡ c.state.step
unfolding collected with_list
collected-step s drift c snap = refl

rank-collect : (s : SceneValue) (drift : ℕ) (c : Course) (snap : Snap) → IsOnCourse s drift c → IsOut s c snap → is_open c ≡ true → may_step s drift c ≡ false
    → rank s drift (made s drift (record { course = c; parcel = Delivered snap }) Collect) < rank s drift (record { course = c; parcel = Delivered snap })
unfolding made place_rank carried_by
rank-collect s drift c snap on out going off =
    let new = collected-goes s drift c snap on out going in
    omega (
      arith,
      collected-step s drift c snap,
      rank-open s drift (record { course = c; parcel = Delivered snap }) true false going off,
      rank-open s drift (record { course = collected s drift c snap; parcel = Home }) true true new.0 new.1,
    )

rank-exchange : (s : SceneValue) (drift : ℕ) (c : Course) (p : Parcel) → Kept s drift (record { course = c; parcel = p }) → is_open c ≡ true → may_step s drift c ≡ false
    → rank s drift (made s drift (record { course = c; parcel = p }) (next_turn s drift (record { course = c; parcel = p }))) < rank s drift (record { course = c; parcel = p })
rank-exchange s drift c Home k going off =
    subst (λ t. rank s drift (made s drift (record { course = c; parcel = Home }) t) < rank s drift (record { course = c; parcel = Home })) (next-post s drift c off going) (rank-post s drift c going off)
rank-exchange s drift c (Posted snap) k going off =
    subst (λ t. rank s drift (made s drift (record { course = c; parcel = Posted snap }) t) < rank s drift (record { course = c; parcel = Posted snap })) (next-take s drift c snap off going)
    (rank-take s drift c snap going off)
rank-exchange s drift c (Taken snap) k going off =
    subst (λ t. rank s drift (made s drift (record { course = c; parcel = Taken snap }) t) < rank s drift (record { course = c; parcel = Taken snap })) (next-deliver s drift c snap off going)
    (rank-deliver s drift c snap going off)
rank-exchange s drift c (Delivered snap) k going off =
    subst (λ t. rank s drift (made s drift (record { course = c; parcel = Delivered snap }) t) < rank s drift (record { course = c; parcel = Delivered snap })) (next-collect s drift c snap off going)
    (rank-collect s drift c snap k.course k.parcel going off)

rank-step : (s : SceneValue) (drift : ℕ) (w : World) → is_open w.course ≡ true → may_step s drift w.course ≡ true → rank s drift (made s drift w Step) < rank s drift w
unfolding made stepped
rank-step s drift w going may = rank-stepped s drift w (step_of s w.course.state) refl (may-goes_on s drift w.course may) going may

-- the next turn of an open world brings it nearer to its end
pub rank-less : (s : SceneValue) (drift : ℕ) (w : World) (turn : Turn) → Kept s drift w → is_open w.course ≡ true → turn ≡ next_turn s drift w → rank s drift (turned s drift w turn) < rank s drift w
rank-less s drift w turn k going is =
    let on : enabled s drift w (next_turn s drift w) ≡ true = next-enabled s drift w k.course going in
    subst (λ t. rank s drift (turned s drift w t) < rank s drift w) (sym is)
    (subst (λ x. rank s drift x < rank s drift w) (sym (turned-on s drift w (next_turn s drift w) on))
    (elim (cases_Bool (may_step s drift w.course)) [
      | inl may ↦ subst (λ t. rank s drift (made s drift w t) < rank s drift w) (next-step s drift w may) (rank-step s drift w going may)
      | inr off ↦ rank-exchange s drift w.course w.parcel k going off
    ]))

-- ---- the turns so far

-- from one world these turns, with which it goes on by itself, led to another; what the sinks gained is their text and their rows
pub record Under (old now : Turning) (out out_now note note_now : Option (List ℕ)) (tests tests_now : ℕ) : Type 0 where
  pub turns : List Turn
  pub by_itself : GoesOnBy old.scene old.drift old.world turns
  pub is : now ≡ with_turns old turns false
  pub written : Appends out out_now (text_after old.scene old.drift old.world turns)
  pub noted : Appends note note_now (rows_text (rows_after old.scene old.drift old.world turns))
  pub counted : tests_now ≤ tests + most_of_turns old turns

text-append : (s : SceneValue) (drift : ℕ) (w : World) (xs : List Turn) (turn : Turn) → text_after s drift w (xs ++ turn ∷ []) ≡ text_after s drift w xs ++ turn_text s drift (world_after s drift w xs) turn
unfolding text_after world_after
text-append s drift w [] turn = append-nil (turn_text s drift w turn)
text-append s drift w (x ∷ xs) turn =
    ap (λ l. turn_text s drift w x ++ l) (text-append s drift (turned s drift w x) xs turn)
    ∙ sym (append_assoc (turn_text s drift w x) (text_after s drift (turned s drift w x) xs) (turn_text s drift (world_after s drift (turned s drift w x) xs) turn))

by-more : (s : SceneValue) (drift : ℕ) (w : World) (xs : List Turn) (turn : Turn) → GoesOnBy s drift w xs → is_open (world_after s drift w xs).course ≡ true → turn ≡ next_turn s drift (world_after s drift w xs) → GoesOnBy s drift w (xs ++ turn ∷ [])
unfolding world_after
by-more s drift w [] turn h going is = (going, is, tt)
by-more s drift w (x ∷ xs) turn h going is = (h.0, h.1, by-more s drift (turned s drift w x) xs turn h.2 going is)

most-more : (old : Turning) (xs : List Turn) (turn : Turn) → most_of_turns old (xs ++ turn ∷ []) ≡ most_of_turns old xs + most_of_turn (with_turns old xs false) turn
unfolding most_of_turns most_of_turn world_after
most-more old [] turn = omega arith
most-more old (x ∷ xs) turn = ap (λ n. most_of_turn old x + n) (most-more (with_turn old x false) xs turn) ∙ omega arith

rows_text-append : (xs ys : List TakenRow) → rows_text (xs ++ ys) ≡ rows_text xs ++ rows_text ys
unfolding rows_text
rows_text-append xs ys = flat_map-append taken_text xs ys

world-last : (s : SceneValue) (drift : ℕ) (w : World) (xs : List Turn) (turn : Turn) → turned s drift (world_after s drift w xs) turn ≡ world_after s drift w (xs ++ turn ∷ [])
unfolding world_after
world-last s drift w [] turn = refl
world-last s drift w (x ∷ xs) turn = world-last s drift (turned s drift w x) xs turn

rows-one : (s : SceneValue) (drift : ℕ) (w : World) (turn : Turn) → rows_after s drift w (turn ∷ []) ≡ turn_rows s drift w turn
unfolding rows_after
rows-one s drift w turn = append-nil (turn_rows s drift w turn)

-- nothing was done yet
pub Under-none : (old : Turning) (out note : Option (List ℕ)) (tests : ℕ) → old.stopped ≡ false → Under old old out out note note tests tests
unfolding world_after text_after rows_after rows_text most_of_turns
Under-none old out note tests going = record {
  turns = [];
  by_itself = tt;
  is = ap (λ b. record { scene = old.scene; drift = old.drift; bin = old.bin; world = old.world; stopped = b }) going;
  written = Appends-nil out;
  noted = Appends-nil note;
  counted = omega arith;
}

-- one turn more
module _ (old mid new : Turning) (out out_mid out_now note note_mid note_now : Option (List ℕ)) (tests tests_mid tests_now : ℕ) (turn : Turn)
    (u : Under old mid out out_mid note note_mid tests tests_mid) (going : is_open mid.world.course ≡ true) (next : turn ≡ next_turn mid.scene mid.drift mid.world) where
  -- the world before it
  before : mid.world ≡ world_after old.scene old.drift old.world u.turns
  before = ap (λ (t : Turning). t.world) u.is

  by-next : GoesOnBy old.scene old.drift old.world (u.turns ++ turn ∷ [])
  by-next =
      by-more old.scene old.drift old.world u.turns turn u.by_itself (subst (λ (x : World). is_open x.course ≡ true) before going)
      (next ∙ ap (λ (t : Turning). next_turn t.scene t.drift t.world) u.is)

  world-next : (stop : Bool) → with_turn mid turn stop ≡ with_turns old (u.turns ++ turn ∷ []) stop
  world-next stop =
      ap (λ (t : Turning). with_turn t turn stop) u.is
      ∙ ap (λ (x : World). record { scene = old.scene; drift = old.drift; bin = old.bin; world = x; stopped = stop }) (world-last old.scene old.drift old.world u.turns turn)

  text-next : text_after old.scene old.drift old.world (u.turns ++ turn ∷ []) ≡ text_after old.scene old.drift old.world u.turns ++ turn_text mid.scene mid.drift mid.world turn
  text-next =
      text-append old.scene old.drift old.world u.turns turn
      ∙ sym (ap (λ (t : Turning). text_after old.scene old.drift old.world u.turns ++ turn_text t.scene t.drift t.world turn) u.is)

  rows-next : rows_text (rows_after old.scene old.drift old.world (u.turns ++ turn ∷ [])) ≡ rows_text (rows_after old.scene old.drift old.world u.turns) ++ rows_text (turn_rows mid.scene mid.drift mid.world turn)
  rows-next =
      ap rows_text (rows-append old.scene old.drift old.world u.turns (turn ∷ []))
      ∙ rows_text-append (rows_after old.scene old.drift old.world u.turns) (rows_after old.scene old.drift (world_after old.scene old.drift old.world u.turns) (turn ∷ []))
      ∙ ap (λ l. rows_text (rows_after old.scene old.drift old.world u.turns) ++ rows_text l) (rows-one old.scene old.drift (world_after old.scene old.drift old.world u.turns) turn)
      ∙ sym (ap (λ (t : Turning). rows_text (rows_after old.scene old.drift old.world u.turns) ++ rows_text (turn_rows t.scene t.drift t.world turn)) u.is)

  most-next : tests_now ≤ tests_mid + most_of_turn mid turn → tests_now ≤ tests + most_of_turns old (u.turns ++ turn ∷ [])
  most-next le = omega (arith, u.counted, most-more old u.turns turn, ap (λ (t : Turning). most_of_turn t turn) u.is)

  -- it was made
  pub Under-more : new ≡ with_turn mid turn false → Appends out_mid out_now (turn_text mid.scene mid.drift mid.world turn) → Appends note_mid note_now (rows_text (turn_rows mid.scene mid.drift mid.world turn))
      → tests_now ≤ tests_mid + most_of_turn mid turn → Under old new out out_now note note_now tests tests_now
  Under-more is text rows le = record {
    turns = u.turns ++ turn ∷ [];
    by_itself = by-next;
    is = is ∙ world-next false;
    written = subst (Appends out out_now) (sym text-next) (Appends-trans out out_mid out_now _ _ u.written text);
    noted = subst (Appends note note_now) (sym rows-next) (Appends-trans note note_mid note_now _ _ u.noted rows);
    counted = most-next le;
  }

  -- a put failed
  failed : new ≡ with_turn mid turn true → AppendsPrefix out_mid out_now (turn_text mid.scene mid.drift mid.world turn) → AppendsPrefix note_mid note_now (rows_text (turn_rows mid.scene mid.drift mid.world turn))
      → tests_now ≤ tests_mid + most_of_turn mid turn → GoesOn old new out out_now note note_now tests tests_now (Err WriteFault)
  failed is text rows le = record {
    turns = u.turns ++ turn ∷ [];
    by_itself = by-next;
    ends = is ∙ world-next true;
    written = subst (AppendsPrefix out out_now) (sym text-next) (AppendsPrefix-after out out_mid out_now _ _ u.written text);
    noted = subst (AppendsPrefix note note_now) (sym rows-next) (AppendsPrefix-after note note_mid note_now _ _ u.noted rows);
    counted = omega (arith, most-next le);
  }

  -- memory was refused
  refused : TakesMemory turn → new ≡ mid → Keeps out_mid out_now → Keeps note_mid note_now → tests_now ≤ tests_mid + most_of_turn mid turn → GoesOn old new out out_now note note_now tests tests_now (Err OutOfMemory)
  refused takes is kept kept_note le =
      let there : turn ≡ next_turn new.scene new.drift new.world = next ∙ sym (ap (λ (t : Turning). next_turn t.scene t.drift t.world) is) in
      let most : most_of_turn mid turn ≡ most_of_turn new (next_turn new.scene new.drift new.world) = sym (ap (λ (t : Turning). most_of_turn t turn) is) ∙ ap (most_of_turn new) there in
      record {
        turns = u.turns;
        by_itself = u.by_itself;
        ends = (is ∙ u.is, subst TakesMemory there takes);
        written = Appends-kept out out_mid out_now _ u.written kept;
        noted = Appends-kept note note_mid note_now _ u.noted kept_note;
        counted = omega (arith, u.counted, most);
      }

  -- the turn wasn't made, or not to its end
  pub GoesOn-stopped : (stop : WorldStop) → Turns mid new turn (Err stop) → Gains {A = Did} (turn_text mid.scene mid.drift mid.world turn) out_mid out_now (Err stop)
      → Gains {A = Did} (rows_text (turn_rows mid.scene mid.drift mid.world turn)) note_mid note_now (Err stop) → tests_now ≤ tests_mid + most_of_turn mid turn
      → GoesOn old new out out_now note note_now tests tests_now (Err stop)
  GoesOn-stopped WriteFault turns text rows le = failed turns.1 text rows le
  GoesOn-stopped OutOfMemory turns text rows le = refused turns.1 turns.2 text rows le

-- it was made, and the world goes on or has ended
pub Under-did : (old mid new : Turning) (out out_mid out_now note note_mid note_now : Option (List ℕ)) (tests tests_mid tests_now : ℕ) (turn : Turn) (did : Did) → Under old mid out out_mid note note_mid tests tests_mid
    → Kept mid.scene mid.drift mid.world → is_open mid.world.course ≡ true → turn ≡ next_turn mid.scene mid.drift mid.world → Turns mid new turn (Ok did)
    → Appends out_mid out_now (turn_text mid.scene mid.drift mid.world turn) → Appends note_mid note_now (rows_text (turn_rows mid.scene mid.drift mid.world turn))
    → tests_now ≤ tests_mid + most_of_turn mid turn → Under old new out out_now note note_now tests tests_now
Under-did old mid new out out_mid out_now note note_mid note_now tests tests_mid tests_now turn did.Moved u k going next turns text rows le =
    Under-more old mid new out out_mid out_now note note_mid note_now tests tests_mid tests_now turn u going next turns.1 text rows le
Under-did old mid new out out_mid out_now note note_mid note_now tests tests_mid tests_now turn (did.Closed last) u k going next turns text rows le =
    Under-more old mid new out out_mid out_now note note_mid note_now tests tests_mid tests_now turn u going next turns.1 text rows le
Under-did old mid new out out_mid out_now note note_mid note_now tests tests_mid tests_now turn did.Idle u k going next turns text rows le =
    let on : enabled mid.scene mid.drift mid.world turn ≡ true = subst (λ t. enabled mid.scene mid.drift mid.world t ≡ true) (sym next) (next-enabled mid.scene mid.drift mid.world k.course going) in
    absurd (true≢false (sym on ∙ turns.0))

-- the world has ended
pub GoesOn-ended : (old now : Turning) (out out_now note note_now : Option (List ℕ)) (tests tests_now : ℕ) (last : Last) → Under old now out out_now note note_now tests tests_now → now.world.course.last ≡ Some last
    → GoesOn old now out out_now note note_now tests tests_now (Ok last)
GoesOn-ended old now out out_now note note_now tests tests_now last u is =
    record { turns = u.turns; by_itself = u.by_itself; ends = (u.is, is); written = u.written; noted = u.noted; counted = omega (arith, u.counted) }

-- a turn that was made brings the world nearer to its end
pub rank-did : (mid new : Turning) (turn : Turn) (did : Did) → Kept mid.scene mid.drift mid.world → is_open mid.world.course ≡ true → turn ≡ next_turn mid.scene mid.drift mid.world → Turns mid new turn (Ok did)
    → rank new.scene new.drift new.world < rank mid.scene mid.drift mid.world
rank-did mid new turn did.Moved k going next turns =
    subst (λ (t : Turning). rank t.scene t.drift t.world < rank mid.scene mid.drift mid.world) (sym turns.1) (rank-less mid.scene mid.drift mid.world turn k going next)
rank-did mid new turn (did.Closed last) k going next turns =
    subst (λ (t : Turning). rank t.scene t.drift t.world < rank mid.scene mid.drift mid.world) (sym turns.1) (rank-less mid.scene mid.drift mid.world turn k going next)
rank-did mid new turn did.Idle k going next turns =
    let on : enabled mid.scene mid.drift mid.world turn ≡ true = subst (λ t. enabled mid.scene mid.drift mid.world t ≡ true) (sym next) (next-enabled mid.scene mid.drift mid.world k.course going) in
    absurd (true≢false (sym on ∙ turns.0))

-- a world that has ended has written the whole output
pub ended-whole : (now : Turning) (last : Last) → IsOnCourse now.scene now.drift now.world.course → now.world.course.last ≡ Some last → HasEnded now last
ended-whole now last on is =
    let all = text-ended now.scene now.drift now.world.course last on is in
    record { ended = is; last_is = all.1; whole = all.0 }
