-- What a call over streams promises, from what the top call did with its sinks and what the buffer passed on.
use Rattle.std.proofs.Common.{◌≡◌, ◌≤◌, ℕ, zero, suc, List, [], Option, None, Some, inl, inr, ◌⊎◌, ⊎_elim, refl, sym, ap, ◌∙◌, subst, append-nil, arith}
use Rattle.std.specs.Io.KnownBytes.{Appends, Keeps, append_known}
use Rattle.std.proofs.KnownBytes.{Appends-kept, Keeps-trans}
use Rattle.dem_outside.specs.Known.{AppendsPrefix}
use Rattle.dem_outside.specs.Change.{Change, IsKept, Gains, GainsPrefix}
use Rattle.dem_outside.proofs.Prefixes.{AppendsPrefix-kept, AppendsPrefix-whole}
use Rattle.dem_jobs.specs.Verdicts.{Verdict, read_failed_text, out_text}
use Rattle.dem_jobs.specs.Jobs.{Job, ForTold}
use Rattle.dem_jobs.specs.Answers.{Fulfils, Begins, FailsToRead, IsVerdict, IsCutShort, IsUnwritten, Answers}
use Rattle.dem_top.specs.Streams.{passed, with_rest, Serves}
use Rattle.dem_jobs.proofs.LeftFacts.{ForTold-weaker}
use Rattle.dem_jobs.proofs.JobFacts.{gain-starts}

-- ---- a buffer before a writer

-- an empty buffer holds what the writer holds
unbuffered : (a : Option (List ℕ)) → append_known a [] ≡ a
unbuffered None = refl
unbuffered (Some xs) = ap Some (append-nil xs)

-- ---- statuses

-- a status is what an input comes to, or that of a read that failed, or of a call that was cut short
kinds : (n : ℕ) → n ≤ 7 → IsVerdict n ⊎ ((n ≡ 4) ⊎ IsCutShort n)
kinds zero le = inl refl
kinds (suc zero) le = inl refl
kinds (suc (suc zero)) le = inl refl
kinds (suc (suc (suc zero))) le = inl refl
kinds (suc (suc (suc (suc zero)))) le = inr (inl refl)
kinds (suc (suc (suc (suc (suc zero))))) le = inr (inr refl)
kinds (suc (suc (suc (suc (suc (suc zero)))))) le = inr (inr refl)
kinds (suc (suc (suc (suc (suc (suc (suc zero))))))) le = inl refl
kinds (suc (suc (suc (suc (suc (suc (suc (suc n)))))))) le = absurd (omega arith)

module _ (job : Job) (source out note : Change) (answer : ℕ) (call : Answers job source out note answer) (a b c d : Option (List ℕ)) (rest : List ℕ) (begins : out.before.bytes ≡ append_known a [])
    (passes : Keeps out.after.bytes (append_known b rest)) (starts : note.before.bytes ≡ c) (ends : d ≡ note.after.bytes) where
  abbrev output : Change
  output = with_rest rest (passed a b)

  abbrev errors : Change
  errors = passed c d

  before_is : out.before.bytes ≡ a
  before_is = begins ∙ unbuffered a

  -- what the sink gained, the writer gained with its rest
  gains : (text : List ℕ) → Gains out text → Gains output text
  gains text g = Appends-kept a out.after.bytes (append_known b rest) text (subst (λ x. Appends x out.after.bytes text) before_is g) passes

  gains-prefix : (text : List ℕ) → GainsPrefix out text → GainsPrefix output text
  gains-prefix text g = AppendsPrefix-kept a out.after.bytes (append_known b rest) text (subst (λ x. AppendsPrefix x out.after.bytes text) before_is g) passes

  keeps : IsKept out → IsKept output
  keeps k = Keeps-trans a out.after.bytes (append_known b rest) (subst (λ x. Keeps x out.after.bytes) before_is k) passes

  noted : (text : List ℕ) → Gains note text → Gains errors text
  noted text g = subst (λ x. Appends c x text) (sym ends) (subst (λ x. Appends x note.after.bytes text) starts g)

  noted-prefix : (text : List ℕ) → GainsPrefix note text → GainsPrefix errors text
  noted-prefix text g = subst (λ x. AppendsPrefix c x text) (sym ends) (subst (λ x. AppendsPrefix x note.after.bytes text) starts g)

  fulfils : (v : Verdict) → Fulfils v out note answer → Fulfils v output errors answer
  fulfils v f = record { status_is = f.status_is; written = gains (out_text v) f.written; rows = f.rows; may_be = f.may_be; noted = noted f.rows f.noted }

  begun : (v : Verdict) → Begins v out note → Begins v output errors
  begun v f = record { written = gains-prefix (out_text v) f.written; rows = f.rows; may_be = f.may_be; noted = noted-prefix f.rows f.noted }

  -- the whole is a prefix
  begun-whole : (v : Verdict) → Fulfils v output errors answer → Begins v output errors
  begun-whole v f = record {
    written = AppendsPrefix-whole a (append_known b rest) (out_text v) f.written;
    rows = f.rows;
    may_be = gain-starts v f.rows f.may_be;
    noted = AppendsPrefix-whole c d f.rows f.noted;
  }

  abbrev Cut : Type 0
  Cut = ForTold source.before.bytes (λ bytes. Begins (job.verdict bytes) output errors) ⊎ (IsKept output × GainsPrefix errors read_failed_text)

  fulfilled : IsVerdict answer → ForTold source.before.bytes (λ bytes. Fulfils (job.verdict bytes) output errors answer)
  fulfilled is = ForTold-weaker source.before.bytes (λ bytes. Fulfils (job.verdict bytes) out note answer) (λ bytes. Fulfils (job.verdict bytes) output errors answer) (λ bytes. fulfils (job.verdict bytes)) (call.fulfilled is)

  unread : answer ≡ 4 → IsKept output × Gains errors read_failed_text
  unread is = (keeps (call.nothing_written (subst IsUnwritten (sym is) refl)), noted read_failed_text (call.read_failed is).1)

  cut : IsCutShort answer → Cut
  cut is =
      ⊎_elim
      (λ (b : ForTold source.before.bytes (λ bytes. Begins (job.verdict bytes) out note)). inl (ForTold-weaker source.before.bytes (λ bytes. Begins (job.verdict bytes) out note) (λ bytes. Begins (job.verdict bytes) output errors) (λ bytes. begun (job.verdict bytes)) b))
      (λ (f : FailsToRead source out note). inr (keeps f.unwritten, noted-prefix read_failed_text f.noted))
      (call.cut_short is)

  -- at any status there are prefixes
  any-cut : Cut
  any-cut =
      ⊎_elim
      (λ (is : IsVerdict answer). inl (ForTold-weaker source.before.bytes (λ bytes. Fulfils (job.verdict bytes) output errors answer) (λ bytes. Begins (job.verdict bytes) output errors) (λ bytes. begun-whole (job.verdict bytes)) (fulfilled is)))
      (λ (others : (answer ≡ 4) ⊎ IsCutShort answer).
      ⊎_elim (λ (is : answer ≡ 4). let un = unread is in inr (un.0, AppendsPrefix-whole c d read_failed_text un.1)) (λ (is : IsCutShort answer). cut is) others)
      (kinds answer call.known)

  -- the buffer couldn't pass on what it holds
  pub unserved : Serves job source.before.bytes (passed a b) (passed c d) 5
  unserved = record { fulfilled = λ is. absurd (not_verdict is); read_failed = λ is. absurd (not_four is); cut_short = λ _. (rest, any-cut); known = omega arith } where
    not_verdict : IsVerdict 5 → ⊥
    not_verdict e = cc

    not_four : ◌≡◌ {A = ℕ} 5 4 → ⊥
    not_four e = cc

  -- the buffer passed on all that it held
  pub served : rest ≡ [] → Serves job source.before.bytes (passed a b) (passed c d) answer
  served none = record {
    fulfilled = λ is. ForTold-weaker source.before.bytes (λ bytes. Fulfils (job.verdict bytes) output errors answer) (λ bytes. Fulfils (job.verdict bytes) (passed a b) (passed c d) answer) (λ bytes. without (job.verdict bytes)) (fulfilled is);
    read_failed = λ is. let un = unread is in (subst (λ x. Keeps a x) all_passed un.0, un.1);
    cut_short = λ is. (rest, cut is);
    known = call.known;
  } where
    all_passed : append_known b rest ≡ b
    all_passed = ap (append_known b) none ∙ unbuffered b

    without : (v : Verdict) → Fulfils v output errors answer → Fulfils v (passed a b) (passed c d) answer
    without v f = record {
      status_is = f.status_is;
      written = subst (λ x. Appends a x (out_text v)) all_passed f.written;
      rows = f.rows;
      may_be = f.may_be;
      noted = f.noted;
    }
