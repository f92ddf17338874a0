-- What the run of a scene on lists comes to, by its grid and by whether it is to be noted.
use Rattle.std.proofs.Common.{◌≡◌, ℕ, ◌<◌, arith, true, false, List, [], Result, Ok, Err, inl, ⊎_elim, refl, sym, ap, ◌∙◌, subst}
use Rattle.std.proofs.lemmas.Bool.{lt-ltb, le-ltb}
use Rattle.std.proofs.KnownBytes.{Keeps-refl, Appends-nil}
use Rattle.dem_outside.specs.Faults.{Rose}
use Rattle.dem_outside.specs.Change.{Stream, Change, Fails}
use Rattle.dem_outside.proofs.Prefixes.{AppendsPrefix-nil}
use Rattle.dem_model.specs.SceneValue.{SceneValue}
use Rattle.dem_model.specs.ReadingScene.{scene_from}
use Rattle.dem_model.specs.declared.state.Last.{Last}
use Rattle.dem_model.specs.declared.state.Turn.{Turn}
use Rattle.dem_bins.specs.Bins.{GridValue, grid_of, cells_across, IsGridOf}
use Rattle.dem_bins.specs.declared.grid.BinTooSmall.{BinTooSmall}
use Rattle.dem_bins.specs.declared.grid.TheConstants.{MAX_CELLS}
use Rattle.dem_core.specs.declared.did.WorldStop.{WorldStop}
use Rattle.dem_core.specs.declared.did.WorldStop.TheVariants as worlds
use Rattle.dem_words.specs.Orders.{OrderValue}
use Rattle.dem_jobs.specs.Verdicts.{Refused, Notes, OfTurns, OfThreads, no_rows, bin_text, run_verdict, run_status, where_asked, lists_of, sched_of, sched_verdict, threads_of, threads_verdict, on_scene}
use Rattle.dem_jobs.specs.Parts.{bin_stop, world_stop, run_outcome, RunsOn, RunsTurns, RunsThreads, Comes, idle}
use Rattle.dem_jobs.proofs.JobFacts.{same_status}

pub sched-each : (o : OrderValue) (bytes : List ℕ) → sched_verdict o bytes ≡ on_scene (sched_of o) (scene_from bytes)
unfolding sched_verdict
sched-each o bytes = refl

pub threads-each : (o : OrderValue) (bytes : List ℕ) → threads_verdict o bytes ≡ on_scene (threads_of o) (scene_from bytes)
unfolding threads_verdict
threads-each o bytes = refl

-- a count that stays at nothing doesn't rise
pub zero-calm : Rose 0 0 → ⊥
zero-calm rose = absurd (omega (arith, rose.more))

-- ---- the grid

module _ (o : OrderValue) (s : SceneValue) (notes : Notes) where
  refuses : (e : BinTooSmall) → e ≡ record { cells = cells_across s (grid_of s o.drift o.bin); limit = MAX_CELLS } → MAX_CELLS < e.cells → lists_of o notes s ≡ Refused 2 (bin_text e.cells)
  unfolding lists_of
  refuses e is many =
      let same : e.cells ≡ cells_across s (grid_of s o.drift o.bin) = ap (λ (x : BinTooSmall). x.cells) is in
      rw (← same, lt-ltb MAX_CELLS e.cells many) refl

  -- the bins are too small
  grid-refused : (e : BinTooSmall) (out note : Stream) → e ≡ record { cells = cells_across s (grid_of s o.drift o.bin); limit = MAX_CELLS } → MAX_CELLS < e.cells
      → Comes (lists_of o notes s) (idle out) (idle note) (Err (bin_stop e))
  grid-refused e out note is many = (refuses e is many, Keeps-refl out.bytes, Keeps-refl note.bytes, refl, refl)

  -- the grid is taken, and the run is what is left
  grid-taken : (g : GridValue) → g ≡ grid_of s o.drift o.bin → IsGridOf s g → lists_of o notes s ≡ run_verdict (where_asked o notes) s
  unfolding lists_of
  grid-taken g is fits = let few = le-ltb MAX_CELLS (cells_across s g) fits.few in rw (← is, few) refl

  -- the run is to be noted, or not
  noted-run : o.report ≡ true → where_asked o notes ≡ notes
  noted-run asked = rw asked refl

  silent-run : o.report ≡ false → where_asked o notes ≡ no_rows
  silent-run unasked = rw unasked refl

-- ---- the run

module _ (s : SceneValue) (notes : Notes) where
  -- the run was made and noted
  noted-done : (out note : Change) (last : Last) → RunsOn s notes out note (Ok last) → Comes (run_verdict notes s) out note (Ok (run_outcome last))
  noted-done out note last run = (
    record { status_is = same_status last ∙ ap run_status run.last_is; written = run.written; rows = run.rows; may_be = run.may_be; noted = run.noted },
    run.calm.0,
    run.calm.1,
  )

  noted-stopped : (out note : Change) (stop : WorldStop) → RunsOn s notes out note (Err stop) → Comes (run_verdict notes s) out note (Err (world_stop stop))
  noted-stopped out note worlds.WriteFault run = (record { written = run.0.written; rows = run.0.rows; may_be = run.0.may_be; noted = run.0.noted }, run.1)
  noted-stopped out note worlds.OutOfMemory run = (record { written = run.0.written; rows = run.0.rows; may_be = run.0.may_be; noted = run.0.noted }, run.1, run.2)

  -- the run was made, and its notes went to a sink that never fails
  silent-done : (out blank : Change) (note : Stream) (last : Last) → RunsOn s notes out blank (Ok last) → Comes (run_verdict no_rows s) out (idle note) (Ok (run_outcome last))
  silent-done out blank note last run = (
    record { status_is = same_status last ∙ ap run_status run.last_is; written = run.written; rows = []; may_be = refl; noted = Appends-nil note.bytes },
    run.calm.0,
    refl,
  )

  silent-stopped : (out blank : Change) (note : Stream) (stop : WorldStop) → ¬ Fails blank → RunsOn s notes out blank (Err stop)
      → Comes (run_verdict no_rows s) out (idle note) (Err (world_stop stop))
  silent-stopped out blank note worlds.WriteFault calm run = (
    record { written = run.0.written; rows = []; may_be = refl; noted = AppendsPrefix-nil note.bytes [] },
    ⊎_elim (λ (f : Fails out). inl f) (λ (f : Fails blank). absurd (calm f)) run.1,
  )
  silent-stopped out blank note worlds.OutOfMemory calm run = (record { written = run.0.written; rows = []; may_be = refl; noted = AppendsPrefix-nil note.bytes [] }, run.1, refl)

-- ---- of a scene, by its shapes, its grid and what it may note

module _ (o : OrderValue) (s shapes : SceneValue) (same : shapes ≡ s) (notes : Notes) where
  pub scene-refused : (e : BinTooSmall) (out note : Stream) → e ≡ record { cells = cells_across shapes (grid_of shapes o.drift o.bin); limit = MAX_CELLS } → MAX_CELLS < e.cells
      → Comes (lists_of o notes s) (idle out) (idle note) (Err (bin_stop e))
  scene-refused e out note is many = subst (λ x. Comes (lists_of o notes x) (idle out) (idle note) (Err (bin_stop e))) same (grid-refused o shapes notes e out note is many)

  module _ (g : GridValue) (is : g ≡ grid_of shapes o.drift o.bin) (fits : IsGridOf shapes g) where
    verdict-is : lists_of o notes s ≡ run_verdict (where_asked o notes) s
    verdict-is = subst (λ x. lists_of o notes x ≡ run_verdict (where_asked o notes) x) same (grid-taken o shapes notes g is fits)

    noted-is : o.report ≡ true → lists_of o notes s ≡ run_verdict notes s
    noted-is asked = verdict-is ∙ ap (λ n. run_verdict n s) (noted-run o s notes asked)

    silent-is : o.report ≡ false → lists_of o notes s ≡ run_verdict no_rows s
    silent-is unasked = verdict-is ∙ ap (λ n. run_verdict n s) (silent-run o s notes unasked)

    pub scene-noted : (out note : Change) (last : Last) → o.report ≡ true → RunsOn s notes out note (Ok last) → Comes (lists_of o notes s) out note (Ok (run_outcome last))
    scene-noted out note last asked run = subst (λ v. Comes v out note (Ok (run_outcome last))) (sym (noted-is asked)) (noted-done s notes out note last run)

    pub scene-cut : (out note : Change) (stop : WorldStop) → o.report ≡ true → RunsOn s notes out note (Err stop) → Comes (lists_of o notes s) out note (Err (world_stop stop))
    scene-cut out note stop asked run = subst (λ v. Comes v out note (Err (world_stop stop))) (sym (noted-is asked)) (noted-stopped s notes out note stop run)

    pub scene-silent : (out blank : Change) (note : Stream) (last : Last) → o.report ≡ false → RunsOn s notes out blank (Ok last)
        → Comes (lists_of o notes s) out (idle note) (Ok (run_outcome last))
    scene-silent out blank note last unasked run =
        subst (λ v. Comes v out (idle note) (Ok (run_outcome last))) (sym (silent-is unasked)) (silent-done s notes out blank note last run)

    pub scene-silent-cut : (out blank : Change) (note : Stream) (stop : WorldStop) → ¬ Fails blank → o.report ≡ false → RunsOn s notes out blank (Err stop)
        → Comes (lists_of o notes s) out (idle note) (Err (world_stop stop))
    scene-silent-cut out blank note stop calm unasked run =
        subst (λ v. Comes v out (idle note) (Err (world_stop stop))) (sym (silent-is unasked)) (silent-stopped s notes out blank note stop calm run)

-- ---- the run as the order has it: of its scene, under its drift limit, and with its turns

module _ (s shapes : SceneValue) (same : shapes ≡ s) (drift bin : ℕ) (g : GridValue) (is : g ≡ grid_of shapes drift bin) where
  drift-is : g.drift ≡ drift
  unfolding grid_of
  drift-is = ap (λ (x : GridValue). x.drift) is

  pub by-turns : (turns given : List Turn) (out note : Change) (result : Result Last WorldStop) → turns ≡ given → RunsTurns shapes g.drift turns out note result
      → RunsOn s (OfTurns s drift given) out note result
  by-turns turns given out note result are run =
      subst (λ x. RunsTurns x drift given out note result) same
      (subst (λ n. RunsTurns shapes n given out note result) drift-is (subst (λ l. RunsTurns shapes g.drift l out note result) are run))

  pub by-threads : (out note : Change) (result : Result Last WorldStop) → RunsThreads shapes g.drift out note result → RunsOn s (OfThreads s drift) out note result
  by-threads out note result run =
      subst (λ x. RunsThreads x drift out note result) same (subst (λ n. RunsThreads shapes n out note result) drift-is run)
