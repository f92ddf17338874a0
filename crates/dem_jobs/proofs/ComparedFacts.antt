-- Rows compared with an output: the first difference, and what a comparison comes to.
use Rattle.std.proofs.Common.{◌≡◌, ℕ, zero, suc, List, [], ◌∷◌, take, None, Some, Ok, Err, inl, refl, sym, ap, ◌∙◌, subst}
use Rattle.std.proofs.KnownBytes.{Appends-nil}
use Rattle.dem_outside.specs.Change.{Stream, Change, IsCalm, Gains, GainsPrefix, Fails}
use Rattle.dem_outside.proofs.Prefixes.{AppendsPrefix-nil}
use Rattle.dem_model.specs.SceneValue.{SceneValue}
use Rattle.dem_model.specs.ReadingScene.{scene_from}
use Rattle.dem_model.specs.Output.{output_of}
use Rattle.dem_check.specs.Rows.{rows_of}
use Rattle.dem_check.specs.Verdicts.{DiffersFirst, Checks}
use Rattle.dem_check.specs.declared.verdict.Verdict.{Verdict as Compares}
use Rattle.dem_check.specs.declared.verdict.Verdict.TheVariants as compares
use Rattle.dem_jobs.specs.declared.outcome.Outcome.{Outcome}
use Rattle.dem_jobs.specs.declared.outcome.NotDone.TheVariants as stops
use Rattle.dem_jobs.specs.Verdicts.{Written, no_rows, on_scene}
use Rattle.dem_jobs.specs.Compared.{difference_of, difference_text, compared, verdict_text, verdict_outcome}
use Rattle.dem_jobs.specs.Refusals.{outcome_status}
use Rattle.dem_jobs.specs.Parts.{Comes, idle}
use Rattle.dem_jobs.proofs.MarkFacts.{same_bytes, other_bytes}

-- a list of rows differs nowhere from itself
pub difference-none : (xs : List (List ℕ)) → difference_of xs xs ≡ None
unfolding difference_of
difference-none [] = refl
difference-none (x ∷ xs) = rw (same_bytes x x refl, difference-none xs) refl

-- the first place at which two lists of rows differ
pub difference-first : (kept found : List (List ℕ)) (i : ℕ) → DiffersFirst kept found i → difference_of kept found ≡ Some i
unfolding difference_of
difference-first [] [] i d = absurd (d.here refl)
difference-first (k ∷ ks) [] zero d = refl
difference-first (k ∷ ks) [] (suc i) d = absurd (let e = d.before in cc)
difference-first [] (f ∷ fs) zero d = refl
difference-first [] (f ∷ fs) (suc i) d = absurd (let e = d.before in cc)
difference-first (k ∷ ks) (f ∷ fs) zero d = rw (other_bytes k f (λ same. d.here (ap Some same))) refl
difference-first (k ∷ ks) (f ∷ fs) (suc i) d =
    let e = d.before in
    let same : k ≡ f = cc in
    let others : take i ks ≡ take i fs = cc in
    rw (same_bytes k f same, difference-first ks fs i (record { before = others; here = d.here })) refl

-- what a comparison says is what the rows come to
pub compared-is : (rows : List ℕ) (s : SceneValue) (v : Compares) → Checks rows (output_of s) v → compared rows s ≡ Written (outcome_status (verdict_outcome v)) (verdict_text v) no_rows
unfolding compared difference_text
compared-is rows s compares.Same same = rw (same, difference-none (rows_of (output_of s))) refl
compared-is rows s (compares.Differs row kept found) differs =
    rw (difference-first (rows_of rows) (rows_of (output_of s)) differs.0 differs.2, differs.1, differs.3, differs.4) refl

-- the rows were compared, and the verdict was written, or its put failed
module _ (text rows : List ℕ) (s : SceneValue) (v : Compares) (is : scene_from text ≡ Ok s) (checks : Checks rows (output_of s) v) where
  verdict-is : on_scene (compared rows) (scene_from text) ≡ Written (outcome_status (verdict_outcome v)) (verdict_text v) no_rows
  verdict-is = ap (on_scene (compared rows)) is ∙ compared-is rows s v checks

  pub judged : (out : Change) (note : Stream) (o : Outcome) → o ≡ verdict_outcome v → Gains out (verdict_text v) → IsCalm out → Comes (on_scene (compared rows) (scene_from text)) out (idle note) (Ok o)
  judged out note o same written calm =
      subst (λ w. Comes w out (idle note) (Ok o)) (sym verdict-is)
      (record { status_is = ap outcome_status same; written = written; rows = []; may_be = refl; noted = Appends-nil note.bytes }, calm, refl)

  pub judged-cut : (out : Change) (note : Stream) → GainsPrefix out (verdict_text v) → Fails out → Comes (on_scene (compared rows) (scene_from text)) out (idle note) (Err stops.WriteFailed)
  judged-cut out note written failed =
      subst (λ w. Comes w out (idle note) (Err stops.WriteFailed)) (sym verdict-is)
      (record { written = written; rows = []; may_be = refl; noted = AppendsPrefix-nil note.bytes [] }, inl failed)
