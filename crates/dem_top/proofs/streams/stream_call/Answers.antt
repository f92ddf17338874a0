use Rattle.std.proofs.Common.{◌≡◌, List, ℕ, [], ⊎_elim, sym, subst}
use Rattle.dem_words.specs.Meaning.{words_of}
use Rattle.dem_jobs.specs.Jobs.{job_meant}
use Rattle.dem_top.specs.Streams.{passed, Serves}
use Rattle.dem_top.proofs.StreamFacts.{served, unserved}
use Rattle.dem_top.proofs.streams.stream_call.Goals as goal

pub returns-clause-serves : goal.returns-clause-serves
returns-clause-serves g c =
    let a = g.W.Write.contents c.args.output in
    let b = g.W.Write.contents c.pass_on-status.result.1 in
    let from = g.E.Write.contents c.args.errors in
    let to = g.E.Write.contents c.into_writer-errors.result in
    let rest : List ℕ = c.pass_on-status.result.2.items in
    let status : ℕ = c.pass_on-status.result.0 in
    let P : ℕ → Type 0 = Serves (job_meant (words_of c.args.words.now)) (g.R.Read.remaining c.args.input) (passed a b) (passed from to) in
    let Q : _ → ℕ → Type 0 = λ l. Serves (job_meant (words_of c.args.words.now)) l (passed a b) (passed from to) in
    let begins = rw (c.in-Ok.ensures.inner, c.in-Ok.ensures.empty) at c.new-out.ensures.held in
    let flushed = rw c.into_writer.ensures at c.pass_on-status.ensures.passed in
    ⊎_elim
    (λ (failed : status ≡ 5).
    subst P (sym failed)
    (subst (λ l. Q l 5) c.new-source.ensures.left
    (unserved _ _ _ _ _ c.main_call-answer.ensures a b from to rest begins flushed c.new-note.ensures.held c.into_writer-errors.ensures)))
    (λ (whole : (status ≡ c.main_call-answer.result) × (rest ≡ [])).
    subst P (sym whole.0)
    (subst (λ l. Q l c.main_call-answer.result) c.new-source.ensures.left
    (served _ _ _ _ _ c.main_call-answer.ensures a b from to rest begins flushed c.new-note.ensures.held c.into_writer-errors.ensures whole.1)))
    c.pass_on-status.ensures.whole
