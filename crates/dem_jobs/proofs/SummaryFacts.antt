-- The run of a made scene: its last state, what that comes to, and what `gen` promises of it.
use Rattle.std.proofs.Common.{◌≡◌, ℕ, ◌+◌, ◌*◌, ◌^◌, ◌<◌, ◌≤◌, arith, Bool, true, List, [], ◌∷◌, length, get_or, take, inl, inr, refl, sym, ap, ◌∙◌, subst, Option, None, Some, Result, Ok, Err}
use Rattle.std.specs.Prelude.{All, IsTrue, cond, filter, is_some, slice_get, unwrap_or}
use Rattle.std.proofs.KnownBytes.{Keeps-refl, Appends-nil}
use Rattle.std.proofs.lemmas.Bool.{cases_Bool, lt-ltb, le-ltb}
use Rattle.std.proofs.lemmas.List.{get_or_default, take_all}
use Rattle.std.proofs.lemmas.List.Elements.{All-head, All-tail}
use Rattle.std.proofs.lemmas.List.Filters.{length-filter_more}
use Rattle.std.proofs.lemmas.List.Sums.{fold_more}
use Rattle.std.proofs.lemmas.Option.{get_or_from_slice_get, slice_get_within}
use Rattle.dem_num.specs.declared.vector.Vec3.{Vec3}
use Rattle.dem_num.specs.Vectors.{widened, sum_of, no_vector, Within}
use Rattle.dem_num.proofs.VectorSizes.{within_wider, sum_within}
use Rattle.dem_model.specs.SceneValue.{SceneValue}
use Rattle.dem_model.specs.Centers.{body_at, still_body, centers_of, touch_of}
use Rattle.dem_model.specs.Made.{made_of}
use Rattle.dem_model.specs.Motion.{AreSound, IsPair}
use Rattle.dem_model.specs.Near.{near, near_of, Covers}
use Rattle.dem_model.specs.Pairs.{all_pairs}
use Rattle.dem_model.specs.Plain.{plain_at, first_state, last_of}
use Rattle.dem_model.specs.Position.{in_box}
use Rattle.dem_model.specs.Sound.{IsSound}
use Rattle.dem_model.specs.World.{Course}
use Rattle.dem_model.specs.declared.state.Body.{Body}
use Rattle.dem_model.specs.declared.state.Last.{Last}
use Rattle.dem_model.specs.declared.state.Last.TheVariants.{Done, Passed}
use Rattle.dem_model.specs.declared.state.Pair.{Pair}
use Rattle.dem_model.specs.declared.state.State.{State}
use Rattle.dem_model.specs.declared.state.Turn.{Turn}
use Rattle.dem_shape.specs.declared.snapshot.Snapshot.{Snapshot}
use Rattle.dem_shape.proofs.PoseFacts.{in_box-small}
use Rattle.dem_list.specs.Ascending.{Pairs}
use Rattle.dem_margin.specs.NearList.{IsNearListOf}
use Rattle.dem_margin.proofs.CoverFacts.{covers}
use Rattle.dem_bins.specs.Bins.{GridValue, grid_of, cells_across, IsGridOf}
use Rattle.dem_bins.specs.declared.grid.BinTooSmall.{BinTooSmall}
use Rattle.dem_bins.specs.declared.grid.TheConstants.{MAX_CELLS}
use Rattle.dem_step.specs.Stepper.{state_at, IsSnapshotOfRun}
use Rattle.dem_step.proofs.DriftFacts.{drifts-none, drifts-wider}
use Rattle.dem_step.proofs.ListFacts.{near-pairs}
use Rattle.dem_core.specs.Courses.{IsOnCourse, HasEnd}
use Rattle.dem_core.specs.Worlds.{Turning, HasEnded, LeadTo}
use Rattle.dem_outside.specs.Change.{Stream, Change, IsCalm, Fails, Gains, GainsPrefix}
use Rattle.dem_outside.proofs.Prefixes.{AppendsPrefix-nil}
use Rattle.dem_words.specs.Orders.{OrderValue}
use Rattle.dem_words.specs.declared.order.Mode.TheVariants as modes
use Rattle.dem_jobs.specs.declared.outcome.Outcome.{Outcome}
use Rattle.dem_jobs.specs.declared.outcome.NotDone.{NotDone}
use Rattle.dem_jobs.specs.declared.outcome.NotDone.TheVariants as stops
use Rattle.dem_jobs.specs.declared.summary.Summary.{Summary}
use Rattle.dem_jobs.specs.Verdicts.{Verdict, Refused, Written, no_rows, bin_text, run_status}
use Rattle.dem_jobs.specs.Jobs.{job_in, job_of}
use Rattle.dem_jobs.specs.Answers.{Fulfils, Begins}
use Rattle.dem_jobs.specs.Refusals.{outcome_status, refusal_status, refusal_text}
use Rattle.dem_jobs.specs.Parts.{bin_stop, run_outcome, Comes, Does, idle}
use Rattle.dem_jobs.specs.Summaries.{last_number, last_bodies, position_sum, touches, touch_count, gen_text, gen_of, gen_verdict, summary_text, IsLastState, IsSummaryOf}
use Rattle.dem_jobs.proofs.JobFacts.{same_status}
use Rattle.dem_jobs.proofs.LeftFacts.{ForTold-all}

-- ---- the last state

-- a run that has ended stands at the last state that it reaches
number-is : (s : SceneValue) (c : Course) (last : Last) → HasEnd s c (Some last) → last_number last ≡ c.state.step
unfolding last_number
number-is s c (Done step) end = end.1
number-is s c (Passed e) end = omega (arith, end.3)

pub ended-bodies : (s : SceneValue) (t : Turning) (last : Last) → t.scene ≡ s → HasEnded t last → IsOnCourse t.scene t.drift t.world.course → t.world.course.state.bodies ≡ last_bodies s
unfolding last_bodies state_at
ended-bodies s t last same has on =
    let c : Course = t.world.course in
    let end : HasEnd t.scene c (Some last) = subst (HasEnd t.scene c) has.ended on.end in
    let number : last_number (last_of t.scene) ≡ c.state.step = ap last_number (sym has.last_is) ∙ number-is t.scene c last end in
    let there : unwrap_or (plain_at t.scene (last_number (last_of t.scene))) (first_state t.scene) ≡ c.state =
    ap (λ n. unwrap_or (plain_at t.scene n) (first_state t.scene)) number ∙ ap (λ (o : Option State). unwrap_or o (first_state t.scene)) on.plain in
    subst (λ x. c.state.bodies ≡ (unwrap_or (plain_at x (last_number (last_of x))) (first_state x)).bodies) same (sym (ap (λ (x : State). x.bodies) there))

-- a world that began with this scene and has gone on to its end, copied
pub is-last-state : (s : SceneValue) (old new : Turning) (turns : List Turn) (last : Last) (snap : Snapshot) → old.scene ≡ s → LeadTo old turns new (Ok last) → HasEnded new last
    → IsOnCourse new.scene new.drift new.world.course → snap ≡ record { step = new.world.course.state.step; bodies = new.world.course.state.bodies } → IsSnapshotOfRun new.scene snap
    → IsLastState s last snap
is-last-state s old new turns last snap began leads has on is of_run =
    let scene : new.scene ≡ s = ap (λ (t : Turning). t.scene) leads.0 ∙ began in
    record {
      last_is = has.last_is ∙ ap last_of scene;
      bodies = ap (λ (x : Snapshot). x.bodies) is ∙ ended-bodies s new last scene has on;
      sound = subst (λ x. AreSound x snap.bodies) scene of_run.sound;
    }

-- ---- the pairs that touch

-- a test that lets through what another does first takes nothing away from it
filter-filtered : {X : Type 0} (p q : X → Bool) (xs : List X) → All (λ x. p x ≡ true → q x ≡ true) xs → filter p (filter q xs) ≡ filter p xs
filter-filtered p q [] all = refl
filter-filtered {X} p q (x ∷ xs) all =
    let rest : filter p (filter q xs) ≡ filter p xs = filter-filtered p q xs (All-tail (λ (y : X). p y ≡ true → q y ≡ true) x xs all) in
    elim (cases_Bool (q x)) [
      | inl t ↦
          elim (cases_Bool (p x)) [
            | inl h ↦ rw (t, h) (ap (λ l. x ∷ l) rest)
            | inr k ↦ rw (t, k) rest
          ]
      | inr f ↦
          elim (cases_Bool (p x)) [
            | inl h ↦ let passes : q x ≡ true = All-head (λ (y : X). p y ≡ true → q y ≡ true) x xs all h in absurd (cc)
            | inr k ↦ rw (f, k) rest
          ]
    ]

-- the near pairs have all that touch where the centers are
covered : (s : SceneValue) (drift : ℕ) (centers : List Vec3) → IsSound s → Covers s drift centers centers
covered s drift centers sound = covers s drift centers centers sound (drifts-wider s 0 drift centers centers (drifts-none s centers) (omega arith))

pub touching-near : (s : SceneValue) (drift : ℕ) (centers : List Vec3) → IsSound s → filter (touches s centers) (near_of s drift centers) ≡ filter (touches s centers) (all_pairs s)
unfolding near_of touches
touching-near s drift centers sound = filter-filtered (λ p. is_some (touch_of s centers p)) (near s drift centers) (all_pairs s) (covered s drift centers sound)

-- the pairs of the near list of a state are pairs
pub near-are : (s : SceneValue) (drift : ℕ) (snap : Snapshot) (list : Pairs) → IsSound s → IsNearListOf s drift snap list → All (IsPair s) list.pairs
near-are s drift snap list sound near = subst (All (IsPair s)) (sym near.pairs) (near-pairs s drift (centers_of s snap.bodies) sound).each

-- as many of them touch as of all pairs
pub near-count : (s : SceneValue) (drift : ℕ) (snap : Snapshot) (list : Pairs) (centers : List Vec3) → IsSound s → IsNearListOf s drift snap list → centers ≡ centers_of s snap.bodies
    → length (filter (touches s centers) list.pairs) ≡ touch_count s snap.bodies
unfolding touch_count
near-count s drift snap list centers sound near is =
    ap (λ cs. length (filter (touches s cs) list.pairs)) is
    ∙ ap (λ (ps : List Pair). length (filter (touches s (centers_of s snap.bodies)) ps)) near.pairs
    ∙ ap length (touching-near s drift (centers_of s snap.bodies) sound)

-- the pair at a place touches, or not: so many touch with it
pub count-more : (s : SceneValue) (centers : List Vec3) (ps : List Pair) (i : ℕ) (p : Pair) (n m : ℕ) (b : Bool) → slice_get ps i ≡ Some p → is_some (touch_of s centers p) ≡ b
    → n ≡ length (filter (touches s centers) (take i ps)) → m ≡ n + cond b 1 0 → m ≡ length (filter (touches s centers) (take (i + 1) ps))
unfolding touches
count-more s centers ps i p n m b there is so more =
    let here : get_or ps i p ≡ p = get_or_from_slice_get ps i p p there in
    let lt : i < length ps = slice_get_within ps i p there in
    let one : cond (is_some (touch_of s centers (get_or ps i p))) 1 0 ≡ cond b 1 0 = ap (λ q. cond (is_some (touch_of s centers q)) 1 0) here ∙ ap (λ x. cond x 1 0) is in
    more ∙ ap (λ k. k + cond b 1 0) so ∙ ap (λ k. length (filter (λ q. is_some (touch_of s centers q)) (take i ps)) + k) (sym one)
    ∙ sym (length-filter_more (λ q. is_some (touch_of s centers q)) ps i p lt)

pub count-ends : (s : SceneValue) (centers : List Vec3) (ps : List Pair) (i n : ℕ) → length ps ≤ i → n ≡ length (filter (touches s centers) (take i ps)) → n ≡ length (filter (touches s centers) ps)
count-ends s centers ps i n le so = so ∙ ap (λ (qs : List Pair). length (filter (touches s centers) qs)) (take_all i ps le)

-- ---- the sum of the positions

-- the sum of the bodies before a place, and how large it may be
pub record SumsSoFar (bodies : List Body) (i : ℕ) (sum : Vec3) : Type 0 where
  pub sum_is : widened sum ≡ position_sum (take i bodies)
  pub size : Within (widened sum) (i * 2 ^ 36)

pub sums-none : (bodies : List Body) (sum : Vec3) → widened sum ≡ no_vector → SumsSoFar bodies 0 sum
unfolding position_sum
sums-none bodies sum is = record { sum_is = is; size = subst (λ w. Within w (0 * 2 ^ 36)) (sym is) (record { x = omega arith; y = omega arith; z = omega arith }) }

-- a body that is read has its position in the box
pub place-small : (s : SceneValue) (bodies : List Body) (i : ℕ) (d : Body) → IsSound s → AreSound s bodies → i < length bodies → Within (widened (get_or bodies i d).p) (2 ^ 36)
unfolding body_at
place-small s bodies i d sound all lt =
    let here = all.each i (omega (arith, all.count)) in
    let same : get_or bodies i still_body ≡ get_or bodies i d = get_or_default bodies i still_body d lt in
    in_box-small s (widened (get_or bodies i d).p) sound (subst (λ (b : Body). IsTrue (in_box s (widened b.p))) same here.body.p)

pub place-fits : (s : SceneValue) (bodies : List Body) (i : ℕ) (d : Body) → IsSound s → AreSound s bodies → i < length bodies → Within (widened (get_or bodies i d).p) (2 ^ 61)
place-fits s bodies i d sound all lt = within_wider _ (2 ^ 36) (2 ^ 61) (place-small s bodies i d sound all lt) (omega arith)

pub sums-more : (bodies : List Body) (i : ℕ) (d : Body) (sum next : Vec3) → i < length bodies → Within (widened (get_or bodies i d).p) (2 ^ 36)
    → widened next ≡ sum_of (widened sum) (widened (get_or bodies i d).p) → SumsSoFar bodies i sum → SumsSoFar bodies (i + 1) next
unfolding position_sum
sums-more bodies i d sum next lt small is so = record {
  sum_is = is ∙ ap (λ w. sum_of w (widened (get_or bodies i d).p)) so.sum_is ∙ sym (fold_more (λ w (b : Body). sum_of w (widened b.p)) no_vector bodies i d lt);
  size = subst (λ w. Within w ((i + 1) * 2 ^ 36)) (sym is)
      (within_wider _ (i * 2 ^ 36 + 2 ^ 36) ((i + 1) * 2 ^ 36) (sum_within (widened sum) (widened (get_or bodies i d).p) (i * 2 ^ 36) (2 ^ 36) so.size small) (omega arith));
}

-- the sum has room for one more
pub sums-small : (s : SceneValue) (bodies : List Body) (i : ℕ) (sum : Vec3) → IsSound s → AreSound s bodies → i < length bodies → SumsSoFar bodies i sum → Within (widened sum) (2 ^ 61)
sums-small s bodies i sum sound all lt so = within_wider _ (i * 2 ^ 36) (2 ^ 61) so.size (omega (arith, all.count, sound.clump_count.le_high))

pub sums-all : (bodies : List Body) (i : ℕ) (sum : Vec3) → length bodies ≤ i → SumsSoFar bodies i sum → widened sum ≡ position_sum bodies
sums-all bodies i sum le so = so.sum_is ∙ ap position_sum (take_all i bodies le)

-- ---- what `gen` promises

-- the four rows of a summary are those of the scene
pub text-is : (seed count : ℕ) (s : SceneValue) (x : Summary) → IsSummaryOf s x → summary_text seed count x ≡ gen_text seed count s
unfolding gen_text
text-is seed count s x of = rw (of.sum, of.touching, of.last_is) refl

pub gen-made : (o : OrderValue) (s : SceneValue) → s ≡ made_of o.seed o.count → gen_verdict o ≡ gen_of o s
unfolding gen_verdict
gen-made o s is = ap (gen_of o) (sym is)

module _ (o : OrderValue) (s shapes : SceneValue) (same : shapes ≡ s) where
  refuses : (e : BinTooSmall) → e ≡ record { cells = cells_across shapes (grid_of shapes o.drift o.bin); limit = MAX_CELLS } → MAX_CELLS < e.cells → gen_of o shapes ≡ Refused 2 (bin_text e.cells)
  unfolding gen_of
  refuses e is many =
      let cells : e.cells ≡ cells_across shapes (grid_of shapes o.drift o.bin) = ap (λ (x : BinTooSmall). x.cells) is in
      rw (← cells, lt-ltb MAX_CELLS e.cells many) refl

  -- the bins are too small
  pub made-refused : (e : BinTooSmall) (out note : Stream) → e ≡ record { cells = cells_across shapes (grid_of shapes o.drift o.bin); limit = MAX_CELLS } → MAX_CELLS < e.cells
      → Comes (gen_of o s) (idle out) (idle note) (Err (bin_stop e))
  made-refused e out note is many =
      subst (λ x. Comes (gen_of o x) (idle out) (idle note) (Err (bin_stop e))) same (refuses e is many, Keeps-refl out.bytes, Keeps-refl note.bytes, refl, refl)

  module _ (g : GridValue) (is : g ≡ grid_of shapes o.drift o.bin) (fits : IsGridOf shapes g) (out : Change) (note : Stream) (x : Summary) (of : IsSummaryOf shapes x) where
    -- the grid is taken, and the four rows are what is left
    taken : gen_of o shapes ≡ Written (run_status (last_of shapes)) (gen_text o.seed o.count shapes) no_rows
    unfolding gen_of
    taken = let few = le-ltb MAX_CELLS (cells_across shapes g) fits.few in rw (← is, few) refl

    -- the four rows were written
    pub made-written : (outcome : Outcome) → outcome ≡ run_outcome x.last → Gains out (summary_text o.seed o.count x) → IsCalm out → Comes (gen_of o s) out (idle note) (Ok outcome)
    made-written outcome ends written calm =
        subst (λ y. Comes (gen_of o y) out (idle note) (Ok outcome)) same
        (subst (λ v. Comes v out (idle note) (Ok outcome)) (sym taken) (
          record {
            status_is = ap outcome_status ends ∙ same_status x.last ∙ ap run_status of.last_is;
            written = subst (Gains out) (text-is o.seed o.count shapes x of) written;
            rows = [];
            may_be = refl;
            noted = Appends-nil note.bytes;
          },
          calm,
          refl,
        ))

    -- a put failed
    pub made-cut : GainsPrefix out (summary_text o.seed o.count x) → Fails out → Comes (gen_of o s) out (idle note) (Err stops.WriteFailed)
    made-cut written failed =
        subst (λ y. Comes (gen_of o y) out (idle note) (Err stops.WriteFailed)) same
        (subst (λ v. Comes v out (idle note) (Err stops.WriteFailed)) (sym taken)
        (record { written = subst (GainsPrefix out) (text-is o.seed o.count shapes x of) written; rows = []; may_be = refl; noted = AppendsPrefix-nil note.bytes [] }, inl failed))

-- nothing is read: what the order comes to is what each input comes to
pub reads-nothing : (v : Verdict) (source : Stream) (out note : Change) (result : Result Outcome NotDone) → Comes v out note result → Does (record { limit = None; verdict = λ _. v }) (idle source) out note result
reads-nothing v source out note (Ok outcome) comes = (ForTold-all source.bytes (λ _. Fulfils v out note (outcome_status outcome)) (λ _. comes.0), tt, refl, comes.1, comes.2)
reads-nothing v source out note (Err (stops.Refused refusal)) comes =
    (ForTold-all source.bytes (λ _. v ≡ Refused (refusal_status refusal) (refusal_text refusal)) (λ _. comes.0), comes.1, comes.2, refl, comes.3, comes.4)
reads-nothing v source out note (Err stops.ReadFailed) comes = absurd comes
reads-nothing v source out note (Err stops.WriteFailed) comes = (ForTold-all source.bytes (λ _. Begins v out note) (λ _. comes.0), refl, comes.1)
reads-nothing v source out note (Err stops.OutOfMemory) comes = (ForTold-all source.bytes (λ _. Begins v out note) (λ _. comes.0), refl, comes.1, comes.2)

-- an order of `gen` is obeyed
pub gen-does : (o : OrderValue) (source : Stream) (out note : Change) (result : Result Outcome NotDone) → o.mode ≡ modes.Gen → Comes (gen_verdict o) out note result → Does (job_of o) (idle source) out note result
gen-does o source out note result is comes = subst (λ m. Does (job_in m o) (idle source) out note result) (sym is) (reads-nothing (gen_verdict o) source out note result comes)
