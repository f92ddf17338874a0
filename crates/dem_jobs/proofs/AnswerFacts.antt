-- What a call promises, from what its job did and what was then put on `note`.
use Rattle.std.proofs.Common.{◌≡◌, ◌≤◌, ℕ, List, [], Option, None, Some, Result, Ok, Err, inl, inr, ◌⊎◌, ⊎_elim, refl, sym, ap, ◌∙◌, subst, append-nil, arith}
use Rattle.std.specs.Io.KnownBytes.{Appends, Keeps}
use Rattle.std.proofs.KnownBytes.{Appends-kept, Appends-trans, Keeps-refl, Consumes-nil}
use Rattle.dem_outside.specs.Faults.{Rose}
use Rattle.dem_outside.specs.Known.{AppendsPrefix}
use Rattle.dem_outside.specs.Change.{Stream, Change, IsKept, IsCalm, Fails, Gains, GainsPrefix}
use Rattle.dem_outside.proofs.Prefixes.{AppendsPrefix-whole, AppendsPrefix-after, AppendsPrefix-kept}
use Rattle.dem_jobs.specs.declared.outcome.Outcome.{Outcome}
use Rattle.dem_jobs.specs.declared.outcome.Outcome.TheVariants as outcomes
use Rattle.dem_jobs.specs.declared.outcome.NotDone.{NotDone}
use Rattle.dem_jobs.specs.declared.outcome.NotDone.TheVariants as stops
use Rattle.dem_jobs.specs.declared.refusal.Refusal.{Refusal}
use Rattle.dem_jobs.specs.declared.refusal.Refusal.TheVariants as refusals
use Rattle.dem_jobs.specs.Verdicts.{Refused, out_text, MayGain, MayStart, verdict_status, read_failed_text, usage_text}
use Rattle.dem_jobs.specs.Jobs.{Job, usage_job, Takes, ReadsWhole, ForTold, ForAllTold, ForLeft, ForAnyLeft}
use Rattle.dem_jobs.specs.Answers.{Fulfils, Begins, FailsToRead, IsDone, IsVerdict, IsCutShort, IsUnwritten, Answers}
use Rattle.dem_jobs.specs.Refusals.{outcome_status, refusal_status, refusal_text}
use Rattle.dem_jobs.specs.Parts.{Does, Tells, idle}
use Rattle.dem_jobs.proofs.LeftFacts.{ForTold-weaker, ForTold-all}
use Rattle.dem_jobs.proofs.JobFacts.{begins-nothing}

-- a stream before one call and after the next
abbrev pub both : (first second third : Stream) → Change
both first second third = record { before = first; after = third }

abbrev pub between : Stream → Stream → Change
between a b = record { before = a; after = b }

-- ---- keeping

kept-gains : (old new : Option (List ℕ)) → Keeps old new → Appends old new []
kept-gains None new kept = kept
kept-gains (Some xs) None kept = kept
kept-gains (Some xs) (Some ys) kept = kept ∙ sym (append-nil xs)

gains-kept : (old new : Option (List ℕ)) → Appends old new [] → Keeps old new
gains-kept None new gains = gains
gains-kept (Some xs) None gains = gains
gains-kept (Some xs) (Some ys) gains = gains ∙ append-nil xs

-- a sink kept what it held, and then gained a text
kept-then : (a b c : Option (List ℕ)) (text : List ℕ) → Keeps a b → Appends b c text → Appends a c text
kept-then a b c text kept gains = Appends-trans a b c [] text (kept-gains a b kept) gains

kept-then-prefix : (a b c : Option (List ℕ)) (text : List ℕ) → Keeps a b → AppendsPrefix b c text → AppendsPrefix a c text
kept-then-prefix a b c text kept gains = AppendsPrefix-after a b c [] text (kept-gains a b kept) gains

-- ---- statuses

module _ (job : Job) (source out note : Change) (taken : Takes job.limit source) where
  -- what some bytes come to that were left is what all of them come to
  comes-to : (status answer : ℕ) → ForLeft source (λ bytes. Fulfils (job.verdict bytes) out note status) → ForAnyLeft source (λ bytes. verdict_status (job.verdict bytes) ≡ answer) → status ≡ answer
  comes-to status answer fulfils comes = by source.before.bytes fulfils comes where
    by : (left : Option (List ℕ)) → ForTold left (λ bytes. Fulfils (job.verdict bytes) out note status) → ForAllTold left (λ bytes. verdict_status (job.verdict bytes) ≡ answer) → status ≡ answer
    by None f c = f.1.status_is ∙ c f.0
    by (Some bytes) f c = f.status_is ∙ c

  -- the job was done
  pub answer-done : (outcome : Outcome) → ForLeft source (λ bytes. Fulfils (job.verdict bytes) out note (outcome_status outcome)) → ReadsWhole job.limit source → IsCalm source → IsCalm out → IsCalm note
      → Answers job source out note (outcome_status outcome)
  answer-done outcome fulfils whole calm_source calm_out calm_note = record {
    fulfilled = λ _. fulfils;
    read_whole = λ _. whole;
    read_failed = λ four. absurd (not_four outcome four);
    nothing_written = λ un. absurd (not_unwritten outcome un);
    put_failed = λ five. absurd (not_five outcome five);
    cut_short = λ cut. absurd (not_cut outcome cut);
    calm_sinks = inr (calm_out, calm_note);
    calm_source = inl calm_source;
    taken = taken;
    complete = λ answer comes _. inl (comes-to (outcome_status outcome) answer fulfils comes);
    known = few outcome;
  } where
    not_four : (o : Outcome) → outcome_status o ≡ 4 → ⊥
    not_four outcomes.Reached e = cc
    not_four outcomes.Passed e = cc
    not_four outcomes.Differs e = cc

    not_five : (o : Outcome) → outcome_status o ≡ 5 → ⊥
    not_five outcomes.Reached e = cc
    not_five outcomes.Passed e = cc
    not_five outcomes.Differs e = cc

    not_unwritten : (o : Outcome) → IsUnwritten (outcome_status o) → ⊥
    not_unwritten outcomes.Reached e = cc
    not_unwritten outcomes.Passed e = cc
    not_unwritten outcomes.Differs e = cc

    not_cut : (o : Outcome) → IsCutShort (outcome_status o) → ⊥
    not_cut outcomes.Reached e = cc
    not_cut outcomes.Passed e = cc
    not_cut outcomes.Differs e = cc

    few : (o : Outcome) → outcome_status o ≤ 7
    few outcomes.Reached = omega arith
    few outcomes.Passed = omega arith
    few outcomes.Differs = omega arith

  -- the words or the input are refused, and the line was put
  pub answer-refused : (refusal : Refusal) → ForLeft source (λ bytes. Fulfils (job.verdict bytes) out note (refusal_status refusal)) → IsKept out → IsCalm source → IsCalm out → IsCalm note
      → Answers job source out note (refusal_status refusal)
  answer-refused refusal fulfils kept calm_source calm_out calm_note = record {
    fulfilled = λ _. fulfils;
    read_whole = λ done. absurd (not_done refusal done);
    read_failed = λ four. absurd (not_four refusal four);
    nothing_written = λ _. kept;
    put_failed = λ five. absurd (not_five refusal five);
    cut_short = λ cut. absurd (not_cut refusal cut);
    calm_sinks = inr (calm_out, calm_note);
    calm_source = inl calm_source;
    taken = taken;
    complete = λ answer comes _. inl (comes-to (refusal_status refusal) answer fulfils comes);
    known = few refusal;
  } where
    not_done : (r : Refusal) → IsDone (refusal_status r) → ⊥
    not_done refusals.Usage e = cc
    not_done (refusals.Scene fault) e = cc
    not_done (refusals.Bin cells) e = cc
    not_done refusals.TooLong e = cc
    not_done refusals.NoFrames e = cc
    not_done refusals.NoPack e = cc
    not_done refusals.NoRow e = cc
    not_done (refusals.Pack fault) e = cc
    not_done refusals.NoFrame e = cc
    not_done (refusals.Frame fault) e = cc

    not_four : (r : Refusal) → refusal_status r ≡ 4 → ⊥
    not_four refusals.Usage e = cc
    not_four (refusals.Scene fault) e = cc
    not_four (refusals.Bin cells) e = cc
    not_four refusals.TooLong e = cc
    not_four refusals.NoFrames e = cc
    not_four refusals.NoPack e = cc
    not_four refusals.NoRow e = cc
    not_four (refusals.Pack fault) e = cc
    not_four refusals.NoFrame e = cc
    not_four (refusals.Frame fault) e = cc

    not_five : (r : Refusal) → refusal_status r ≡ 5 → ⊥
    not_five refusals.Usage e = cc
    not_five (refusals.Scene fault) e = cc
    not_five (refusals.Bin cells) e = cc
    not_five refusals.TooLong e = cc
    not_five refusals.NoFrames e = cc
    not_five refusals.NoPack e = cc
    not_five refusals.NoRow e = cc
    not_five (refusals.Pack fault) e = cc
    not_five refusals.NoFrame e = cc
    not_five (refusals.Frame fault) e = cc

    not_cut : (r : Refusal) → IsCutShort (refusal_status r) → ⊥
    not_cut refusals.Usage e = cc
    not_cut (refusals.Scene fault) e = cc
    not_cut (refusals.Bin cells) e = cc
    not_cut refusals.TooLong e = cc
    not_cut refusals.NoFrames e = cc
    not_cut refusals.NoPack e = cc
    not_cut refusals.NoRow e = cc
    not_cut (refusals.Pack fault) e = cc
    not_cut refusals.NoFrame e = cc
    not_cut (refusals.Frame fault) e = cc

    few : (r : Refusal) → refusal_status r ≤ 7
    few refusals.Usage = omega arith
    few (refusals.Scene fault) = omega arith
    few (refusals.Bin cells) = omega arith
    few refusals.TooLong = omega arith
    few refusals.NoFrames = omega arith
    few refusals.NoPack = omega arith
    few refusals.NoRow = omega arith
    few (refusals.Pack fault) = omega arith
    few refusals.NoFrame = omega arith
    few (refusals.Frame fault) = omega arith

  -- a read failed, and its line was put
  pub answer-unread : Fails source → IsKept out → Gains note read_failed_text → IsCalm out → IsCalm note → Answers job source out note 4
  answer-unread failed kept line calm_out calm_note = record {
    fulfilled = λ is. absurd (not_verdict is);
    read_whole = λ is. absurd (not_done is);
    read_failed = λ _. (failed, line);
    nothing_written = λ _. kept;
    put_failed = λ is. absurd (not_five is);
    cut_short = λ is. absurd (not_cut is);
    calm_sinks = inr (calm_out, calm_note);
    calm_source = inr (kept, inl refl);
    taken = taken;
    complete = λ answer comes calm. absurd (calm failed);
    known = omega arith;
  } where
    not_verdict : IsVerdict 4 → ⊥
    not_verdict e = cc

    not_done : IsDone 4 → ⊥
    not_done e = cc

    not_five : ◌≡◌ {A = ℕ} 4 5 → ⊥
    not_five e = cc

    not_cut : IsCutShort 4 → ⊥
    not_cut e = cc

  -- a put failed
  pub answer-unput : (Fails out ⊎ Fails note) → (IsCalm source ⊎ IsKept out) → ForLeft source (λ bytes. Begins (job.verdict bytes) out note) ⊎ FailsToRead source out note → Answers job source out note 5
  answer-unput failed reading begins = record {
    fulfilled = λ is. absurd (not_verdict is);
    read_whole = λ is. absurd (not_done is);
    read_failed = λ is. absurd (not_four is);
    nothing_written = λ is. absurd (not_unwritten is);
    put_failed = λ _. failed;
    cut_short = λ _. begins;
    calm_sinks = inl refl;
    calm_source = ⊎_elim (λ (calm : IsCalm source). inl calm) (λ (kept : IsKept out). inr (kept, inr refl)) reading;
    taken = taken;
    complete = λ answer comes _. inr (inl (refl, failed));
    known = omega arith;
  } where
    not_verdict : IsVerdict 5 → ⊥
    not_verdict e = cc

    not_done : IsDone 5 → ⊥
    not_done e = cc

    not_four : ◌≡◌ {A = ℕ} 5 4 → ⊥
    not_four e = cc

    not_unwritten : IsUnwritten 5 → ⊥
    not_unwritten e = cc

  -- there was no memory
  pub answer-no_memory : ForLeft source (λ bytes. Begins (job.verdict bytes) out note) → IsCalm source → IsCalm out → IsCalm note → Answers job source out note 6
  answer-no_memory begins calm_source calm_out calm_note = record {
    fulfilled = λ is. absurd (not_verdict is);
    read_whole = λ is. absurd (not_done is);
    read_failed = λ is. absurd (not_four is);
    nothing_written = λ is. absurd (not_unwritten is);
    put_failed = λ is. absurd (not_five is);
    cut_short = λ _. inl begins;
    calm_sinks = inr (calm_out, calm_note);
    calm_source = inl calm_source;
    taken = taken;
    complete = λ answer comes _. inr (inr refl);
    known = omega arith;
  } where
    not_verdict : IsVerdict 6 → ⊥
    not_verdict e = cc

    not_done : IsDone 6 → ⊥
    not_done e = cc

    not_four : ◌≡◌ {A = ℕ} 6 4 → ⊥
    not_four e = cc

    not_five : ◌≡◌ {A = ℕ} 6 5 → ⊥
    not_five e = cc

    not_unwritten : IsUnwritten 6 → ⊥
    not_unwritten e = cc

-- ---- the job, and then the line

module _ (job : Job) (source out : Change) (first second third : Stream) where
  abbrev noted : Change
  noted = between first second

  abbrev told : Change
  told = between second third

  abbrev whole : Change
  whole = both first second third

  -- what was noted stays so
  fulfils-kept : (status : ℕ) (bytes : List ℕ) → Keeps second.bytes third.bytes → Fulfils (job.verdict bytes) out noted status → Fulfils (job.verdict bytes) out whole status
  fulfils-kept status bytes kept f = record {
    status_is = f.status_is;
    written = f.written;
    rows = f.rows;
    may_be = f.may_be;
    noted = Appends-kept first.bytes second.bytes third.bytes f.rows f.noted kept;
  }

  begins-kept : (bytes : List ℕ) → Keeps second.bytes third.bytes → Begins (job.verdict bytes) out noted → Begins (job.verdict bytes) out whole
  begins-kept bytes kept b = record {
    written = b.written;
    rows = b.rows;
    may_be = b.may_be;
    noted = AppendsPrefix-kept first.bytes second.bytes third.bytes b.rows b.noted kept;
  }

  -- an input is refused, and its line was put where nothing was noted
  refused-fulfils : (refusal : Refusal) (bytes : List ℕ) → IsKept out → Keeps first.bytes second.bytes → Appends second.bytes third.bytes (refusal_text refusal)
      → job.verdict bytes ≡ Refused (refusal_status refusal) (refusal_text refusal) → Fulfils (job.verdict bytes) out whole (refusal_status refusal)
  refused-fulfils refusal bytes kept quiet line is = record {
    status_is = ap verdict_status (sym is);
    written = subst (λ v. Gains out (out_text v)) (sym is) (kept-gains out.before.bytes out.after.bytes kept);
    rows = refusal_text refusal;
    may_be = subst (λ v. MayGain v (refusal_text refusal)) (sym is) refl;
    noted = kept-then first.bytes second.bytes third.bytes (refusal_text refusal) quiet line;
  }

  -- an input is refused, and the put of its line failed
  refused-begins : (refusal : Refusal) (bytes : List ℕ) → IsKept out → Keeps first.bytes second.bytes → GainsPrefix told (refusal_text refusal)
      → job.verdict bytes ≡ Refused (refusal_status refusal) (refusal_text refusal) → Begins (job.verdict bytes) out whole
  refused-begins refusal bytes kept quiet line is = record {
    written = subst (λ v. GainsPrefix out (out_text v)) (sym is) (AppendsPrefix-whole out.before.bytes out.after.bytes [] (kept-gains out.before.bytes out.after.bytes kept));
    rows = refusal_text refusal;
    may_be = subst (λ v. MayStart v (refusal_text refusal)) (sym is) refl;
    noted = kept-then-prefix first.bytes second.bytes third.bytes (refusal_text refusal) quiet line;
  }

  -- the job and its line make the answer
  pub answered : (done : Result Outcome NotDone) (status : ℕ) → Does job source out noted done → Tells done told status → Takes job.limit source → Answers job source out whole status
  answered (Ok outcome) status does tells taken =
      subst (Answers job source out whole) (sym tells.0)
      (answer-done job source out whole taken outcome
      (ForTold-weaker source.before.bytes (λ bytes. Fulfils (job.verdict bytes) out noted (outcome_status outcome)) (λ bytes. Fulfils (job.verdict bytes) out whole (outcome_status outcome))
      (λ bytes f. fulfils-kept (outcome_status outcome) bytes tells.1 f) does.0) does.1 does.2 does.3 (tells.2 ∙ does.4))
  answered (Err (stops.Refused refusal)) status does tells taken =
      ⊎_elim
      (λ (put : (status ≡ refusal_status refusal) × Gains told (refusal_text refusal) × IsCalm told).
      subst (Answers job source out whole) (sym put.0)
      (answer-refused job source out whole taken refusal
      (ForTold-weaker source.before.bytes (λ bytes. job.verdict bytes ≡ Refused (refusal_status refusal) (refusal_text refusal)) (λ bytes. Fulfils (job.verdict bytes) out whole (refusal_status refusal))
      (λ bytes is. refused-fulfils refusal bytes does.1 does.2 put.1 is) does.0) does.1 does.3 does.4 (put.2 ∙ does.5)))
      (λ (failed : (status ≡ 5) × GainsPrefix told (refusal_text refusal) × Fails told).
      subst (Answers job source out whole) (sym failed.0)
      (answer-unput job source out whole taken (inr (subst (λ n. Rose n third.faults) does.5 failed.2)) (inl does.3)
      (inl
      (ForTold-weaker source.before.bytes (λ bytes. job.verdict bytes ≡ Refused (refusal_status refusal) (refusal_text refusal)) (λ bytes. Begins (job.verdict bytes) out whole)
      (λ bytes is. refused-begins refusal bytes does.1 does.2 failed.1 is) does.0)))) tells
  answered (Err stops.ReadFailed) status does tells taken =
      ⊎_elim
      (λ (put : (status ≡ 4) × Gains told read_failed_text × IsCalm told).
      subst (Answers job source out whole) (sym put.0)
      (answer-unread job source out whole taken does.0 does.1 (kept-then first.bytes second.bytes third.bytes read_failed_text does.2 put.1) does.3 (put.2 ∙ does.4)))
      (λ (failed : (status ≡ 5) × GainsPrefix told read_failed_text × Fails told).
      subst (Answers job source out whole) (sym failed.0)
      (answer-unput job source out whole taken (inr (subst (λ n. Rose n third.faults) does.4 failed.2)) (inr does.1)
      (inr (record { failed = does.0; unwritten = does.1; noted = kept-then-prefix first.bytes second.bytes third.bytes read_failed_text does.2 failed.1 })))) tells
  answered (Err stops.WriteFailed) status does tells taken =
      subst (Answers job source out whole) (sym tells.0)
      (answer-unput job source out whole taken
      (⊎_elim (λ (f : Fails out). inl f) (λ (f : Fails noted). inr (subst (λ n. Rose first.faults n) (sym tells.2) f)) does.2) (inl does.1)
      (inl (ForTold-weaker source.before.bytes (λ bytes. Begins (job.verdict bytes) out noted) (λ bytes. Begins (job.verdict bytes) out whole) (λ bytes b. begins-kept bytes tells.1 b) does.0)))
  answered (Err stops.OutOfMemory) status does tells taken =
      subst (Answers job source out whole) (sym tells.0)
      (answer-no_memory job source out whole taken
      (ForTold-weaker source.before.bytes (λ bytes. Begins (job.verdict bytes) out noted) (λ bytes. Begins (job.verdict bytes) out whole) (λ bytes b. begins-kept bytes tells.1 b) does.0) does.1 does.2 (tells.2 ∙ does.3))

-- ---- words that are no good, and no memory for them

-- nothing was read
still-takes : (limit : Option ℕ) (source : Stream) → Takes limit (idle source)
still-takes None source = Keeps-refl source.bytes
still-takes (Some limit) source = ([], Consumes-nil source.bytes, omega arith)

-- bad words are refused with the usage line
pub usage-told : (source out before after : Stream) (status : ℕ) → Tells (Err (stops.Refused refusals.Usage)) (between before after) status
    → Answers usage_job (idle source) (idle out) (between before after) status
usage-told source out before after status tells =
    answered usage_job (idle source) (idle out) before before after (Err (stops.Refused refusals.Usage)) status
    (ForTold-all source.bytes (λ bytes. usage_job.verdict bytes ≡ Refused 1 usage_text) (λ bytes. refl), Keeps-refl out.bytes, Keeps-refl before.bytes, refl, refl, refl) tells
    (Keeps-refl source.bytes)

-- there was no memory before anything was done
pub no-words : (job : Job) (source out note : Stream) → Answers job (idle source) (idle out) (idle note) 6
no-words job source out note =
    answer-no_memory job (idle source) (idle out) (idle note) (still-takes job.limit source)
    (ForTold-all source.bytes (λ bytes. Begins (job.verdict bytes) (idle out) (idle note)) (λ bytes. begins-nothing (job.verdict bytes) out note)) refl refl refl
