use Rattle.std.proofs.Common.{Bor, List, Ok, Err, ℕ, ◌+◌, ◌≡◌, ◌∙◌, sym, ap, refl, inl, inr, arith, Option, None, Some, ◌∷◌, [], ◌++◌, length, length-append}
use Rattle.std.specs.Prelude.{ok_or}
use Rattle.csv.specs.Reading.{Reached, default_config, strip_bom}
use Rattle.csv.specs.Records.{fields_of}
use Rattle.csv.specs.declared.parser.State.TheVariants as st
use Rattle.csv.proofs.ReadFacts.{rows-more, rows-end}
use Rattle.dem_frame.specs.declared.partial.FrameFault.TheVariants.{Bad, Short}
use Rattle.dem_model.specs.declared.state.State.{State}
use Rattle.dem_frame.specs.PartialFrames.{with_record, nothing_read}
use Rattle.dem_frame.proofs.PartialFacts.{read_on, read_on-more}
use Rattle.dem_frame.proofs.FrameFacts.{frame-all, frame-bad}
use Rattle.dem_frame.proofs.ReadBackFacts.{reads_back}
use Rattle.dem_frame.proofs.read.read_frame.Goals as goal

pub loop-row-init : goal.loop-row-init
unfolding Reached read_on
loop-row-init c =
    let fr = c.from_reader-reader.ensures in
    let e = c.has_headers.ensures in
    let f = c.flexible.ensures in
    let start = c.into_iter-row-iterator.ensures.into_iter_gives ∙ refl in
    let rdr = c.into_byte_records-row-items.ensures.rdr in
    let left = c.into_byte_records-row-items.ensures.left in
    rw (start, rdr, c.new-frame.ensures) (
      rw (f, e) at fr.trim ∙ c.new.ensures.trim,
      inr (inr (rw (f, e) at fr.has_headers, fr.headers)),
      left,
      rw (f, e) at fr.config ∙ c.new.ensures.config,
      strip_bom c.args.bytes.now,
      fr.source,
      [],
      (sym fr.state, refl),
      refl,
      refl,
    )

pub loop-row-preserved : goal.loop-row-preserved
loop-row-preserved c =
    let inv = c.loop-row.invariant in
    let s = rw (c.in-Some.is, c.in-Ok.is) at ((c.next.ensures.steps inv.2 inv.0).0 inv.1) in
    let m = rows-more (λ (s : Bor (List ℕ)). Some s.now) c.loop-row.row-iterator.rdr c.next.new.self.rdr (fields_of c.in-Ok.row) default_config st.StartRecord (strip_bom c.args.bytes.now) inv.4 inv.6 inv.3 inv.5 inv.7 s.0 in
    let good : with_record c.args.clumps c.loop-row.frame (fields_of c.in-Ok.row) ≡ Some c.take.new.self = rw c.in-Ok-true.field-0-test at c.in-Ok-true.ensures in (
      s.0.3 ∙ inv.0,
      inl s.1,
      s.2,
      s.0.2 ∙ inv.3,
      m.0,
      m.1,
      inv.6 ++ fields_of c.in-Ok.row ∷ [],
      m.2,
      read_on-more c.args.clumps nothing_read c.loop-row.frame c.take.new.self inv.6 (fields_of c.in-Ok.row) inv.8 good,
      omega (arith, inv.9, length-append inv.6 (fields_of c.in-Ok.row ∷ [])),
    )

pub returns-in-Ok-false-clause-value : goal.returns-in-Ok-false-clause-value
returns-in-Ok-false-clause-value c =
    let inv = c.loop-row.invariant in
    let s = rw (c.in-Some.is, c.in-Ok.is) at ((c.next.ensures.steps inv.2 inv.0).0 inv.1) in
    let m = rows-more (λ (s : Bor (List ℕ)). Some s.now) c.loop-row.row-iterator.rdr c.next.new.self.rdr (fields_of c.in-Ok.row) default_config st.StartRecord (strip_bom c.args.bytes.now) inv.4 inv.6 inv.3 inv.5 inv.7 s.0 in
    let bad : with_record c.args.clumps c.loop-row.frame (fields_of c.in-Ok.row) ≡ None = rw c.in-Ok-false.field-0-test at c.in-Ok-false.ensures in
    let number : length inv.6 + 1 ≡ c.in-Some-checked_add.number = omega (arith, inv.9) in
    frame-bad c.args.clumps c.args.bytes.now c.loop-row.frame inv.6 (fields_of c.in-Ok.row) c.next.new.self.rdr.state m.0 m.2 inv.8 bad ∙ ap (λ (k : ℕ). Err (Bad k)) number

pub returns-in-Ok-false-clause-back : goal.returns-in-Ok-false-clause-back
returns-in-Ok-false-clause-back c = reads_back c.args.clumps c.args.bytes.now (Err (Bad c.in-Some-checked_add.number)) (returns-in-Ok-false-clause-value c)

pub returns-in-Some-finish-clause-value : goal.returns-in-Some-finish-clause-value
returns-in-Some-finish-clause-value c =
    let inv = c.loop-row.invariant in
    let s = rw c.in-None.is at ((c.next.ensures.steps inv.2 inv.0).0 inv.1) in
    let ends = rows-end (λ (s : Bor (List ℕ)). Some s.now) c.loop-row.row-iterator.rdr c.next.new.self.rdr [] default_config inv.4 inv.3 inv.5 s in
    frame-all c.args.clumps c.args.bytes.now c.loop-row.frame inv.6 (c.loop-row.row-iterator.rdr.state, inv.4, inv.7, ends) inv.8
    ∙ ap (λ (o : Option State). ok_or o (Short (length inv.6))) (sym c.finish.ensures ∙ c.in-Some-finish.is)

pub returns-in-Some-finish-clause-back : goal.returns-in-Some-finish-clause-back
returns-in-Some-finish-clause-back c = reads_back c.args.clumps c.args.bytes.now (Ok c.in-Some-finish.state) (returns-in-Some-finish-clause-value c)

pub returns-in-None-finish-clause-value : goal.returns-in-None-finish-clause-value
returns-in-None-finish-clause-value c =
    let inv = c.loop-row.invariant in
    let s = rw c.in-None.is at ((c.next.ensures.steps inv.2 inv.0).0 inv.1) in
    let ends = rows-end (λ (s : Bor (List ℕ)). Some s.now) c.loop-row.row-iterator.rdr c.next.new.self.rdr [] default_config inv.4 inv.3 inv.5 s in
    frame-all c.args.clumps c.args.bytes.now c.loop-row.frame inv.6 (c.loop-row.row-iterator.rdr.state, inv.4, inv.7, ends) inv.8
    ∙ ap (λ (o : Option State). ok_or o (Short (length inv.6))) (sym c.finish.ensures ∙ c.in-None-finish.is)
    ∙ ap (λ (k : ℕ). Err (Short k)) (sym inv.9)

pub returns-in-None-finish-clause-back : goal.returns-in-None-finish-clause-back
returns-in-None-finish-clause-back c = reads_back c.args.clumps c.args.bytes.now (Err (Short c.loop-row.rows)) (returns-in-None-finish-clause-value c)
