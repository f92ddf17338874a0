-- Where a run on lists stands after some turns: what it has written and noted, and what is left where it is cut short.
use Rattle.std.proofs.Common.{◌<◌, ◌≤◌, ◌+◌, add-one, length, get_or, take, drop, take-append-drop, ◌≡◌, ℕ, Bool, false, List, [], ◌∷◌, ◌++◌, Option, Some, Result, Ok, Err, inl, inr, ⊎_elim, refl, sym, ap, ◌∙◌, subst, append_assoc}
use Rattle.std.proofs.lemmas.List.{take_all}
use Rattle.std.proofs.Math.Seq.{take-suc}
use Rattle.std.specs.Io.KnownBytes.{Appends}
use Rattle.std.proofs.KnownBytes.{Appends-nil, Appends-trans}
use Rattle.dem_outside.specs.Faults.{Rose}
use Rattle.dem_outside.specs.Known.{AppendsPrefix}
use Rattle.dem_outside.specs.Change.{Stream, Change, IsCalm, Gains, GainsPrefix}
use Rattle.dem_outside.proofs.Prefixes.{AppendsPrefix-nil, AppendsPrefix-whole, AppendsPrefix-longer, AppendsPrefix-after, AppendsPrefix-kept}
use Rattle.dem_model.specs.SceneValue.{SceneValue}
use Rattle.dem_model.specs.Plain.{last_of}
use Rattle.dem_model.specs.Frames.{tests_text}
use Rattle.dem_model.specs.Output.{output_of}
use Rattle.dem_model.specs.World.{World, is_open, enabled, first_world, turned, turn_text, turn_rows, world_after, text_after, rows_after, rows_text, GoesOnBy}
use Rattle.dem_model.specs.TakenRows.{IsLegal, tests_of}
use Rattle.dem_model.specs.declared.state.Last.{Last}
use Rattle.dem_model.specs.declared.state.Turn.{Turn}
use Rattle.dem_core.specs.SoFar.{text_so_far, HasTaken}
use Rattle.dem_core.specs.Worlds.{Turning, Turns, Gains as GainsBy, HasFaults, BeginsWorld, GainsAll, GoesOn, with_turn, with_turns}
use Rattle.dem_core.specs.declared.did.Did.{Did}
use Rattle.dem_core.specs.declared.did.Did.TheVariants as did
use Rattle.dem_core.specs.declared.did.WorldStop.{WorldStop}
use Rattle.dem_core.specs.declared.did.WorldStop.TheVariants.{WriteFault, OutOfMemory}
use Rattle.dem_core.proofs.WorldFacts.{Kept, Kept-first, Kept-turned, so_far-first, so_far-turned, taken-first, HasTaken-turned}
use Rattle.dem_core.proofs.SoFarFacts.{text-prefix, text-ended}
use Rattle.dem_core.proofs.TakenFacts.{HasTaken-ended}
use Rattle.dem_jobs.specs.TurnNotes.{reached, taken, NotesWhole}
use Rattle.dem_jobs.specs.Verdicts.{OfTurns}
use Rattle.dem_jobs.specs.Parts.{HasBegun, RunsTurns, RunsFrom}
use Rattle.dem_jobs.proofs.AnswerFacts.{between}
use Rattle.dem_jobs.proofs.TurnFacts.{rows_text-append, world_after-append, world_after-one, rows_after-append, rows_after-one, kept-after, text-after, rows-after}

-- a run stands where these turns lead, has written what they write, and has noted their rows
pub record Standing (s : SceneValue) (drift bin : ℕ) (turns : List Turn) (out note : Change) (t : Turning) : Type 0 where
  pub here : t ≡ record { scene = s; drift = drift; bin = bin; world = reached s drift turns; stopped = false }
  pub kept : Kept s drift (reached s drift turns)
  pub written : Gains out (text_so_far s (reached s drift turns).course)
  pub noted : Gains note (rows_text (taken s drift turns))
  pub rows : HasTaken s drift (taken s drift turns) (reached s drift turns).course
  pub calm_out : IsCalm out
  pub calm_note : IsCalm note

-- where a run stands after these turns of a world, since any moment before the world's first frame
abbrev pub StandsSince : (old : Turning) → List Turn → (begun now note note_now : Stream) → Turning → Type 0
StandsSince old turns begun now note note_now t =
    (first : Stream) → BeginsWorld old.scene (record { drift = old.drift; bin = old.bin }) first.bytes begun.bytes first.faults begun.faults (Ok old)
    → Standing old.scene old.drift old.bin turns (between first now) (between note note_now) t

-- a turn that was made, or may not be made, doesn't stop the world
pub not-stopped : (old new : Turning) (turn : Turn) (d : Did) → Turns old new turn (Ok d) → old.stopped ≡ false → new.stopped ≡ false
not-stopped old new turn did.Idle turned going = ap (λ (t : Turning). t.stopped) turned.1 ∙ going
not-stopped old new turn did.Moved turned going = ap (λ (t : Turning). t.stopped) turned.1
not-stopped old new turn (did.Closed last) turned going = ap (λ (t : Turning). t.stopped) turned.1

module _ (s : SceneValue) (drift bin : ℕ) where
  -- ---- the beginning

  start-empty : reached s drift [] ≡ first_world s
  unfolding world_after
  start-empty = refl

  none-empty : taken s drift [] ≡ []
  unfolding rows_after
  none-empty = refl

  no-text : rows_text [] ≡ []
  unfolding rows_text
  no-text = refl

  -- the world was made
  pub stands-first : (a b note : Stream) (new : Turning) → BeginsWorld s (record { drift = drift; bin = bin }) a.bytes b.bytes a.faults b.faults (Ok new)
      → Standing s drift bin [] (between a b) (between note note) new
  stands-first a b note new begins = record {
    here = begins.0 ∙ ap (λ (w : World). record { scene = s; drift = drift; bin = bin; world = w; stopped = false }) (sym start-empty);
    kept = subst (Kept s drift) (sym start-empty) (Kept-first s drift);
    written = subst (Appends a.bytes b.bytes) (sym (so_far-first s) ∙ ap (λ (w : World). text_so_far s w.course) (sym start-empty)) begins.1;
    noted = subst (Appends note.bytes note.bytes) (sym (ap rows_text none-empty ∙ no-text)) (Appends-nil note.bytes);
    rows = rw (none-empty, start-empty) (taken-first s drift);
    calm_out = begins.2;
    calm_note = refl;
  }

  -- a world that was made goes on: that is a run by these turns since before it was made
  pub runs-from : (turns : List Turn) (a b c : Stream) (note : Change) (world : Turning) (r : Result Last WorldStop) → BeginsWorld s (record { drift = drift; bin = bin }) a.bytes b.bytes a.faults b.faults (Ok world)
      → RunsFrom world turns (between b c) note r → RunsTurns s drift turns (between a c) note r
  runs-from turns a b c note world r begins from =
      subst (λ (w : Turning). RunsTurns w.scene w.drift turns (between a c) note r) begins.0
      (from a (subst (λ (w : Turning). BeginsWorld w.scene (record { drift = w.drift; bin = w.bin }) a.bytes b.bytes a.faults b.faults (Ok world)) (sym begins.0) begins))

  -- ---- prefixes

  -- of rows of some turns, those of more turns are a continuation
  more-rows : (ts us : List Turn) → rows_text (taken s drift (ts ++ us)) ≡ rows_text (taken s drift ts) ++ rows_text (rows_after s drift (reached s drift ts) us)
  more-rows ts us = ap rows_text (rows_after-append s drift (first_world s) ts us) ∙ rows_text-append (taken s drift ts) (rows_after s drift (reached s drift ts) us)

  -- a prefix of what a kept world has written is one of the output
  part : (w : World) (a b : Option (List ℕ)) → Kept s drift w → AppendsPrefix a b (text_so_far s w.course) → AppendsPrefix a b (output_of s)
  part w a b k prefix = let rest = text-prefix s drift w.course k.course in subst (AppendsPrefix a b) rest.1 (AppendsPrefix-longer a b (text_so_far s w.course) rest.0 prefix)

  -- a prefix of the rows of some turns is one of what a run with these turns first may have noted on the way
  on-the-way : (ts us more : List Turn) (out note : Change) → GoesOnBy s drift (reached s drift (ts ++ us)) more → GainsPrefix out (output_of s)
      → GainsPrefix note (rows_text (taken s drift ts)) → HasBegun s (OfTurns s drift (ts ++ us)) out note
  on-the-way ts us more out note by written prefix = record {
    written = written;
    rows = rows_text (taken s drift ((ts ++ us) ++ more));
    may_be = inl (record { more = more; by_itself = by; text = refl });
    noted = subst (GainsPrefix note) (sym (ap (λ l. rows_text (taken s drift l)) (append_assoc ts us more) ∙ more-rows ts (us ++ more)))
        (AppendsPrefix-longer note.before.bytes note.after.bytes (rows_text (taken s drift ts)) (rows_text (rows_after s drift (reached s drift ts) (us ++ more))) prefix);
  }

  -- a prefix, by what the sink gained
  gained-prefix : {A : Type 0} (result : Result A WorldStop) (a b : Option (List ℕ)) (text : List ℕ) → GainsBy text a b result → AppendsPrefix a b text
  gained-prefix (Ok x) a b text g = AppendsPrefix-whole a b text g
  gained-prefix (Err WriteFault) a b text g = g
  gained-prefix (Err OutOfMemory) a b text g = AppendsPrefix-kept a a b text (AppendsPrefix-nil a text) g

  -- the world wasn't made
  pub never-began : (turns : List Turn) (a b note : Stream) (stop : WorldStop)
      → BeginsWorld s (record { drift = drift; bin = bin }) a.bytes b.bytes a.faults b.faults (Err stop) → RunsTurns s drift turns (between a b) (between note note) (Err stop)
  never-began turns a b note WriteFault begins = (
    on-the-way [] turns [] (between a b) (between note note) tt
        (part (first_world s) a.bytes b.bytes (Kept-first s drift) (subst (AppendsPrefix a.bytes b.bytes) (sym (so_far-first s)) begins.0))
        (AppendsPrefix-nil note.bytes (rows_text (taken s drift []))),
    inl begins.1,
  )
  never-began turns a b note OutOfMemory begins = (
    on-the-way [] turns [] (between a b) (between note note) tt
        (part (first_world s) a.bytes b.bytes (Kept-first s drift)
        (AppendsPrefix-kept a.bytes a.bytes b.bytes (text_so_far s (first_world s).course) (AppendsPrefix-nil a.bytes (text_so_far s (first_world s).course)) begins.0))
        (AppendsPrefix-nil note.bytes (rows_text (taken s drift []))),
    begins.1,
    refl,
  )

  -- ---- a turn

  module _ (turns : List Turn) (first second third from mid to : Stream) (old new : Turning) (t : Turn) (stands : Standing s drift bin turns (between first second) (between from mid) old) where
    abbrev w : World
    w = reached s drift turns

    next-world : reached s drift (turns ++ t ∷ []) ≡ turned s drift w t
    next-world = world_after-append s drift (first_world s) turns (t ∷ []) ∙ world_after-one s drift w t

    next-rows : taken s drift (turns ++ t ∷ []) ≡ taken s drift turns ++ turn_rows s drift w t
    next-rows = rows_after-append s drift (first_world s) turns (t ∷ []) ∙ ap (λ l. taken s drift turns ++ l) (rows_after-one s drift w t)

    next-text : text_so_far s (reached s drift (turns ++ t ∷ [])).course ≡ text_so_far s w.course ++ turn_text s drift w t
    next-text = ap (λ (x : World). text_so_far s x.course) next-world ∙ so_far-turned s drift w t stands.kept

    next-kept : Kept s drift (reached s drift (turns ++ t ∷ []))
    next-kept = subst (Kept s drift) (sym next-world) (Kept-turned s drift w t stands.kept)

    -- the turn's text and rows, of the world that stands there
    same-text : turn_text old.scene old.drift old.world t ≡ turn_text s drift w t
    same-text = ap (λ (x : Turning). turn_text x.scene x.drift x.world t) stands.here

    same-rows : turn_rows old.scene old.drift old.world t ≡ turn_rows s drift w t
    same-rows = ap (λ (x : Turning). turn_rows x.scene x.drift x.world t) stands.here

    idle-turn : enabled s drift w t ≡ false → turned s drift w t ≡ w
    unfolding turned
    idle-turn off = rw off

    same-enabled : (b : Bool) → enabled old.scene old.drift old.world t ≡ b → enabled s drift w t ≡ b
    same-enabled b e = ap (λ (x : Turning). enabled x.scene x.drift x.world t) (sym stands.here) ∙ e

    moved-to : new ≡ with_turn old t false → new ≡ record { scene = s; drift = drift; bin = bin; world = reached s drift (turns ++ t ∷ []); stopped = false }
    moved-to is =
        is ∙ ap (λ (x : Turning). with_turn x t false) stands.here ∙ ap (λ (x : World). record { scene = s; drift = drift; bin = bin; world = x; stopped = false }) (sym next-world)

    new-is : (d : Did) → Turns old new t (Ok d) → new ≡ record { scene = s; drift = drift; bin = bin; world = reached s drift (turns ++ t ∷ []); stopped = false }
    new-is did.Idle turn =
        turn.1 ∙ stands.here
        ∙ ap (λ (x : World). record { scene = s; drift = drift; bin = bin; world = x; stopped = false }) (sym (next-world ∙ idle-turn (same-enabled false turn.0)))
    new-is did.Moved turn = moved-to turn.1
    new-is (did.Closed last) turn = moved-to turn.1

    -- the turn was made
    pub stands-next : (d : Did) → Turns old new t (Ok d) → GainsBy {A = Did} (turn_text old.scene old.drift old.world t) second.bytes third.bytes (Ok d)
        → GainsBy {A = Did} (rows_text (turn_rows old.scene old.drift old.world t)) mid.bytes to.bytes (Ok d) → HasFaults {A = Did} second.faults third.faults mid.faults to.faults (Ok d)
        → Standing s drift bin (turns ++ t ∷ []) (between first third) (between from to) new
    stands-next d turn written noted faults = record {
      here = new-is d turn;
      kept = next-kept;
      written = subst (Appends first.bytes third.bytes) (sym next-text)
          (Appends-trans first.bytes second.bytes third.bytes (text_so_far s w.course) (turn_text s drift w t) stands.written (subst (Appends second.bytes third.bytes) same-text written));
      noted = subst (Appends from.bytes to.bytes) (sym (ap rows_text next-rows ∙ rows_text-append (taken s drift turns) (turn_rows s drift w t)))
          (Appends-trans from.bytes mid.bytes to.bytes (rows_text (taken s drift turns)) (rows_text (turn_rows s drift w t)) stands.noted
          (subst (λ l. Appends mid.bytes to.bytes (rows_text l)) same-rows noted));
      rows = rw (next-rows, next-world) (HasTaken-turned s drift (taken s drift turns) w t stands.kept stands.rows);
      calm_out = faults.0 ∙ stands.calm_out;
      calm_note = faults.1 ∙ stands.calm_note;
    }

    begun-by : (result : Result Did WorldStop) (us : List Turn) → GainsBy {A = Did} (turn_text old.scene old.drift old.world t) second.bytes third.bytes result
        → GainsBy {A = Did} (rows_text (turn_rows old.scene old.drift old.world t)) mid.bytes to.bytes result
        → HasBegun s (OfTurns s drift ((turns ++ t ∷ []) ++ us)) (between first third) (between from to)
    begun-by result us written noted =
        on-the-way (turns ++ t ∷ []) us [] (between first third) (between from to) tt
        (part (reached s drift (turns ++ t ∷ [])) first.bytes third.bytes next-kept
        (subst (AppendsPrefix first.bytes third.bytes) (sym next-text)
        (AppendsPrefix-after first.bytes second.bytes third.bytes (text_so_far s w.course) (turn_text s drift w t) stands.written
        (gained-prefix result second.bytes third.bytes (turn_text s drift w t) (subst (λ x. GainsBy x second.bytes third.bytes result) same-text written)))))
        (subst (AppendsPrefix from.bytes to.bytes) (sym (ap rows_text next-rows ∙ rows_text-append (taken s drift turns) (turn_rows s drift w t)))
        (AppendsPrefix-after from.bytes mid.bytes to.bytes (rows_text (taken s drift turns)) (rows_text (turn_rows s drift w t)) stands.noted
        (gained-prefix result mid.bytes to.bytes (rows_text (turn_rows s drift w t)) (subst (λ x. GainsBy (rows_text x) mid.bytes to.bytes result) same-rows noted))))

    -- the turn wasn't made, or not to its end
    pub stands-cut : (stop : WorldStop) (us : List Turn) → GainsBy {A = Did} (turn_text old.scene old.drift old.world t) second.bytes third.bytes (Err stop)
        → GainsBy {A = Did} (rows_text (turn_rows old.scene old.drift old.world t)) mid.bytes to.bytes (Err stop)
        → HasFaults {A = Did} second.faults third.faults mid.faults to.faults (Err stop)
        → RunsTurns s drift ((turns ++ t ∷ []) ++ us) (between first third) (between from to) (Err stop)
    stands-cut WriteFault us written noted faults = (
      begun-by (Err WriteFault) us written noted,
      ⊎_elim (λ (f : Rose second.faults third.faults × (to.faults ≡ mid.faults)). inl (subst (λ n. Rose n third.faults) stands.calm_out f.0))
          (λ (f : Rose mid.faults to.faults × (third.faults ≡ second.faults)). inr (subst (λ n. Rose n to.faults) stands.calm_note f.0)) faults,
    )
    stands-cut OutOfMemory us written noted faults = (begun-by (Err OutOfMemory) us written noted, faults.0 ∙ stands.calm_out, faults.1 ∙ stands.calm_note)

-- ---- to the end

-- the tests of a course, of the world that stands there
module _ (s : SceneValue) (drift bin : ℕ) (turns : List Turn) (first second third from mid to : Stream) (old new : Turning) (stands : Standing s drift bin turns (between first second) (between from mid) old) where
  abbrev start : World
  start = reached s drift turns

  -- the world goes on from where the run stands
  goes-by : (more : List Turn) → GoesOnBy old.scene old.drift old.world more → GoesOnBy s drift start more
  goes-by more by = subst (λ (x : Turning). GoesOnBy x.scene x.drift x.world more) stands.here by

  end-text : (more : List Turn) → text_after old.scene old.drift old.world more ≡ text_after s drift start more
  end-text more = ap (λ (x : Turning). text_after x.scene x.drift x.world more) stands.here

  end-rows : (more : List Turn) → rows_after old.scene old.drift old.world more ≡ rows_after s drift start more
  end-rows more = ap (λ (x : Turning). rows_after x.scene x.drift x.world more) stands.here

  end-world : (more : List Turn) → reached s drift (turns ++ more) ≡ world_after s drift start more
  end-world more = world_after-append s drift (first_world s) turns more

  end-taken : (more : List Turn) → taken s drift (turns ++ more) ≡ taken s drift turns ++ rows_after s drift start more
  end-taken more = rows_after-append s drift (first_world s) turns more

  end-kept : (more : List Turn) → Kept s drift (reached s drift (turns ++ more))
  end-kept more = subst (Kept s drift) (sym (end-world more)) (kept-after s drift start more stands.kept)

  all-text : (more : List Turn) → text_so_far s (reached s drift (turns ++ more)).course ≡ text_so_far s start.course ++ text_after s drift start more
  all-text more = ap (λ (x : World). text_so_far s x.course) (end-world more) ∙ text-after s drift start more stands.kept

  -- what a sink gains by these turns, whole or a prefix
  gained-all : (result : Result Last WorldStop) (a b : Option (List ℕ)) (text : List ℕ) → GainsAll {A = Last} text a b result → AppendsPrefix a b text
  gained-all (Ok x) a b text g = AppendsPrefix-whole a b text g
  gained-all (Err WriteFault) a b text g = g
  gained-all (Err OutOfMemory) a b text g = AppendsPrefix-whole a b text g

  -- what was written and noted on the way to the end
  begun-end : (result : Result Last WorldStop) (more : List Turn) → GoesOnBy old.scene old.drift old.world more
      → GainsAll {A = Last} (text_after old.scene old.drift old.world more) second.bytes third.bytes result
      → GainsAll {A = Last} (rows_text (rows_after old.scene old.drift old.world more)) mid.bytes to.bytes result
      → HasBegun s (OfTurns s drift turns) (between first third) (between from to)
  begun-end result more by written noted = record {
    written =
        part s drift bin (reached s drift (turns ++ more)) first.bytes third.bytes (end-kept more)
        (subst (AppendsPrefix first.bytes third.bytes) (sym (all-text more))
        (AppendsPrefix-after first.bytes second.bytes third.bytes (text_so_far s start.course) (text_after s drift start more) stands.written
        (gained-all result second.bytes third.bytes (text_after s drift start more) (subst (λ x. GainsAll {A = Last} x second.bytes third.bytes result) (end-text more) written))));
    rows = rows_text (taken s drift (turns ++ more));
    may_be = inl (record { more = more; by_itself = goes-by more by; text = refl });
    noted =
        subst (AppendsPrefix from.bytes to.bytes) (sym (ap rows_text (end-taken more) ∙ rows_text-append (taken s drift turns) (rows_after s drift start more)))
        (AppendsPrefix-after from.bytes mid.bytes to.bytes (rows_text (taken s drift turns)) (rows_text (rows_after s drift start more)) stands.noted
        (gained-all result mid.bytes to.bytes (rows_text (rows_after s drift start more)) (subst (λ x. GainsAll {A = Last} (rows_text x) mid.bytes to.bytes result) (end-rows more) noted)));
  }

  -- it was cut short
  pub ends-cut : (stop : WorldStop) (counts counts_now : ℕ) → GoesOn old new second.bytes third.bytes mid.bytes to.bytes counts counts_now (Err stop) → HasFaults {A = Last} second.faults third.faults mid.faults to.faults (Err stop)
      → RunsTurns s drift turns (between first third) (between from to) (Err stop)
  ends-cut WriteFault counts counts_now goes faults = (
    begun-end (Err WriteFault) goes.turns goes.by_itself goes.written goes.noted,
    ⊎_elim (λ (f : Rose second.faults third.faults × (to.faults ≡ mid.faults)). inl (subst (λ n. Rose n third.faults) stands.calm_out f.0))
        (λ (f : Rose mid.faults to.faults × (third.faults ≡ second.faults)). inr (subst (λ n. Rose n to.faults) stands.calm_note f.0)) faults,
  )
  ends-cut OutOfMemory counts counts_now goes faults =
      (begun-end (Err OutOfMemory) goes.turns goes.by_itself goes.written goes.noted, faults.0 ∙ stands.calm_out, faults.1 ∙ stands.calm_note)

  -- all was written but the row of the tests
  module _ (last : Last) (counts counts_now : ℕ) (goes : GoesOn old new second.bytes third.bytes mid.bytes to.bytes counts counts_now (Ok last)) (faults : HasFaults {A = Last} second.faults third.faults mid.faults to.faults (Ok last)) where
    abbrev more : List Turn
    more = goes.turns

    abbrev whole : World
    whole = reached s drift (turns ++ more)

    new-world : new.world ≡ whole
    new-world =
        ap (λ (x : Turning). x.world) (goes.ends.0 ∙ ap (λ (x : Turning). with_turns x more false) stands.here) ∙ sym (end-world more)

    has-ended : whole.course.last ≡ Some last
    has-ended = ap (λ (x : World). x.course.last) (sym new-world) ∙ goes.ends.1

    is-closed : is_open whole.course ≡ false
    unfolding is_open
    is-closed = rw has-ended refl

    whole-rows : HasTaken s drift (taken s drift (turns ++ more)) whole.course
    whole-rows = rw (end-taken more, end-world more) (rows-after s drift start more (taken s drift turns) stands.kept stands.rows)

    as-plain : last ≡ last_of s
    as-plain = (text-ended s drift whole.course last (end-kept more).course has-ended).1

    legal : IsLegal s drift (last_of s) (taken s drift (turns ++ more)) × (whole.course.tests ≡ tests_of (taken s drift (turns ++ more)) (last_of s))
    legal =
        subst (λ l. IsLegal s drift l (taken s drift (turns ++ more)) × (whole.course.tests ≡ tests_of (taken s drift (turns ++ more)) l)) as-plain
        (HasTaken-ended s drift (taken s drift (turns ++ more)) whole.course last (end-kept more).course has-ended whole-rows)

    pub output : Gains (between first third) (output_of s)
    output =
        subst (Appends first.bytes third.bytes) (sym (all-text more) ∙ (text-ended s drift whole.course last (end-kept more).course has-ended).0)
        (Appends-trans first.bytes second.bytes third.bytes (text_so_far s start.course) (text_after s drift start more) stands.written
        (subst (Appends second.bytes third.bytes) (end-text more) goes.written))

    all-rows : Appends from.bytes to.bytes (rows_text (taken s drift (turns ++ more)))
    all-rows =
        subst (Appends from.bytes to.bytes) (sym (ap rows_text (end-taken more) ∙ rows_text-append (taken s drift turns) (rows_after s drift start more)))
        (Appends-trans from.bytes mid.bytes to.bytes (rows_text (taken s drift turns)) (rows_text (rows_after s drift start more)) stands.noted
        (subst (λ x. Appends mid.bytes to.bytes (rows_text x)) (end-rows more) goes.noted))

    abbrev noted_whole : List ℕ
    noted_whole = rows_text (taken s drift (turns ++ more)) ++ tests_text (tests_of (taken s drift (turns ++ more)) (last_of s))

    whole-notes : NotesWhole s drift turns noted_whole
    whole-notes = record { more = more; by_itself = goes-by more goes.by_itself; ended = is-closed; legal = legal.0; text = refl }

    tests-are : (n : ℕ) → n ≡ new.world.course.tests → tests_text n ≡ tests_text (tests_of (taken s drift (turns ++ more)) (last_of s))
    tests-are n is = ap tests_text (is ∙ ap (λ (x : World). x.course.tests) new-world ∙ legal.1)

    -- the row of the tests was put
    pub ends-written : (n : ℕ) (fin : Stream) → n ≡ new.world.course.tests → Appends to.bytes fin.bytes (tests_text n) → fin.faults ≡ to.faults
        → RunsTurns s drift turns (between first third) (between from fin) (Ok last)
    ends-written n fin is row calm = record {
      last_is = (text-ended s drift whole.course last (end-kept more).course has-ended).1;
      written = output;
      rows = noted_whole;
      may_be = whole-notes;
      noted = Appends-trans from.bytes to.bytes fin.bytes (rows_text (taken s drift (turns ++ more))) (tests_text (tests_of (taken s drift (turns ++ more)) (last_of s))) all-rows
          (subst (Appends to.bytes fin.bytes) (tests-are n is) row);
      calm = (faults.0 ∙ stands.calm_out, calm ∙ faults.1 ∙ stands.calm_note);
    }

    -- the put of the row of the tests failed
    pub ends-unwritten : (n : ℕ) (fin : Stream) → n ≡ new.world.course.tests → AppendsPrefix to.bytes fin.bytes (tests_text n) → Rose to.faults fin.faults
        → RunsTurns s drift turns (between first third) (between from fin) (Err WriteFault)
    ends-unwritten n fin is row rose = (
      record {
        written = AppendsPrefix-whole first.bytes third.bytes (output_of s) output;
        rows = noted_whole;
        may_be = inr whole-notes;
        noted = AppendsPrefix-after from.bytes to.bytes fin.bytes (rows_text (taken s drift (turns ++ more))) (tests_text (tests_of (taken s drift (turns ++ more)) (last_of s))) all-rows
            (subst (AppendsPrefix to.bytes fin.bytes) (tests-are n is) row);
      },
      inr (subst (λ n. Rose n fin.faults) (faults.1 ∙ stands.calm_note) rose),
    )

-- ---- turns by place

take-next : (xs : List Turn) (i : ℕ) (d : Turn) → i < length xs → take (i + 1) xs ≡ take i xs ++ get_or xs i d ∷ []
take-next xs i d lt = rw add-one (take-suc xs i d lt)

-- the turns before a place, the one there, and those behind it are all turns
place-parts : (xs : List Turn) (i : ℕ) (d : Turn) → i < length xs → (take i xs ++ get_or xs i d ∷ []) ++ drop (i + 1) xs ≡ xs
place-parts xs i d lt = ap (λ l. l ++ drop (i + 1) xs) (sym (take-next xs i d lt)) ∙ take-append-drop (i + 1) xs

module _ (s : SceneValue) (drift bin : ℕ) (xs : List Turn) (i : ℕ) (d : Turn) (lt : i < length xs) (first second third from mid to : Stream) (old new : Turning)
    (stands : Standing s drift bin (take i xs) (between first second) (between from mid) old) where
  -- the turn at this place was made
  pub stands-at : (did : Did) → Turns old new (get_or xs i d) (Ok did) → GainsBy {A = Did} (turn_text old.scene old.drift old.world (get_or xs i d)) second.bytes third.bytes (Ok did)
      → GainsBy {A = Did} (rows_text (turn_rows old.scene old.drift old.world (get_or xs i d))) mid.bytes to.bytes (Ok did)
      → HasFaults {A = Did} second.faults third.faults mid.faults to.faults (Ok did) → Standing s drift bin (take (i + 1) xs) (between first third) (between from to) new
  stands-at did turn written noted faults =
      subst (λ l. Standing s drift bin l (between first third) (between from to) new) (sym (take-next xs i d lt))
      (stands-next s drift bin (take i xs) first second third from mid to old new (get_or xs i d) stands did turn written noted faults)

  -- it wasn't
  pub cut-at : (stop : WorldStop) → Turns old new (get_or xs i d) (Err stop) → GainsBy {A = Did} (turn_text old.scene old.drift old.world (get_or xs i d)) second.bytes third.bytes (Err stop)
      → GainsBy {A = Did} (rows_text (turn_rows old.scene old.drift old.world (get_or xs i d))) mid.bytes to.bytes (Err stop)
      → HasFaults {A = Did} second.faults third.faults mid.faults to.faults (Err stop) → RunsTurns s drift xs (between first third) (between from to) (Err stop)
  cut-at stop turn written noted faults =
      subst (λ l. RunsTurns s drift l (between first third) (between from to) (Err stop)) (place-parts xs i d lt)
      (stands-cut s drift bin (take i xs) first second third from mid to old new (get_or xs i d) stands stop (drop (i + 1) xs) written noted faults)

-- all turns were made
pub stands-all : (s : SceneValue) (drift bin : ℕ) (xs : List Turn) (i : ℕ) (out note : Change) (t : Turning) → length xs ≤ i → Standing s drift bin (take i xs) out note t → Standing s drift bin xs out note t
stands-all s drift bin xs i out note t le stands = subst (λ l. Standing s drift bin l out note t) (take_all i xs le) stands
