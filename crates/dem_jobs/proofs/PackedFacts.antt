-- What the job `pack` comes to once its scene was read.
use Rattle.std.proofs.Common.{◌≡◌, ℕ, List, [], ◌++◌, codes, Option, None, Some, Ok, Err, Result, inl, refl, sym, ap, ◌∙◌, subst, ⊎_elim, ◌⊎◌}
use Rattle.std.proofs.KnownBytes.{Keeps-refl, Appends-nil}
use Rattle.dem_outside.specs.Change.{Stream, Change, IsCalm, Fails, Gains, GainsPrefix}
use Rattle.dem_outside.proofs.Prefixes.{AppendsPrefix-nil}
use Rattle.dem_model.specs.SceneValue.{SceneValue}
use Rattle.dem_model.specs.ReadingScene.{json_of, scene_from}
use Rattle.dem_model.specs.declared.state.Stand.{Stand}
use Rattle.dem_scene.specs.Stands.{IsWithClumps}
use Rattle.dem_words.specs.Orders.{OrderValue}
use Rattle.dem_words.specs.declared.order.Mode.TheVariants as modes
use Rattle.dem_pack.specs.Rows.{ask_of}
use Rattle.dem_pack.specs.Asks.{answer_of}
use Rattle.dem_pack.specs.declared.ask.Ask.{Ask}
use Rattle.dem_pack.specs.declared.ask.PackFault.{PackFault}
use Rattle.dem_pack.specs.declared.ask.PackFault.TheVariants as faults
use Rattle.dem_jobs.specs.declared.outcome.Outcome.{Outcome}
use Rattle.dem_jobs.specs.declared.outcome.Outcome.TheVariants.{Reached}
use Rattle.dem_jobs.specs.declared.outcome.NotDone.{NotDone}
use Rattle.dem_jobs.specs.declared.outcome.NotDone.TheVariants as stops
use Rattle.dem_jobs.specs.declared.refusal.Refusal.TheVariants as refusals
use Rattle.dem_jobs.specs.Verdicts.{Verdict, on_scene}
use Rattle.dem_jobs.specs.Packed.{text_with, by_stands, by_ask, packed}
use Rattle.dem_jobs.specs.Jobs.{job_in, job_of, pack_job}
use Rattle.dem_jobs.specs.Parts.{pack_stop, Comes, Does, DoesQuietly, idle}
use Rattle.dem_jobs.proofs.JobFacts.{begins-nothing}

-- an order of this mode asks for a packing
pub pack-does : (o : OrderValue) (source out : Change) (note : Stream) (result : Result Outcome NotDone) → o.mode ≡ modes.Pack → DoesQuietly (pack_job o) source out result → Does (job_of o) source out (idle note) result
pack-does o source out note result is does = subst (λ m. Does (job_in m o) source out (idle note) result) (sym is) (does note)

-- ---- the row

module _ (count : ℕ) (text row : List ℕ) (s : SceneValue) (is : scene_from text ≡ Ok s) where
  abbrev verdict : Verdict
  verdict = on_scene (packed count text row) (scene_from text)

  -- what the scene and the row come to
  by-row : (o : Option Ask) → ask_of count row ≡ o → verdict ≡ by_ask text s o
  unfolding packed
  by-row o asks = ap (on_scene (packed count text row)) is ∙ ap (by_ask text s) asks

  -- the row is none
  pub no-row : (out note : Stream) → ask_of count row ≡ None → Comes verdict (idle out) (idle note) (Err (stops.Refused refusals.NoRow))
  no-row out note none = (by-row None none, Keeps-refl out.bytes, Keeps-refl note.bytes, refl, refl)

  -- it is one, and this came of it
  pub asked : (out : Change) (note : Stream) (ask : Ask) (result : Result Outcome NotDone) → ask_of count row ≡ Some ask → Comes (by_stands text (answer_of s ask)) out (idle note) result → Comes verdict out (idle note) result
  asked out note ask result asks comes = subst (λ v. Comes v out (idle note) result) (sym (by-row (Some ask) asks)) comes

-- ---- the packing

-- the text that was made is that of the value tree
pub text-is : (stands : List Stand) (bytes text : List ℕ) → IsWithClumps stands bytes text → text ≡ text_with stands (json_of bytes)
text-is stands bytes text is = is.2 ∙ ap (text_with stands) (sym is.1)

module _ (text : List ℕ) (answer : Result (List Stand) PackFault) where
  -- it is refused, or there was no memory for it
  pub pack-bad : (out note : Stream) (fault : PackFault) → (fault ≡ faults.OutOfMemory) ⊎ (answer ≡ Err fault) → Comes (by_stands text answer) (idle out) (idle note) (Err (pack_stop fault))
  pack-bad out note fault why =
      ⊎_elim
      (λ (e : fault ≡ faults.OutOfMemory). subst (λ x. Comes (by_stands text answer) (idle out) (idle note) (Err (pack_stop x))) (sym e) (begins-nothing (by_stands text answer) out note, refl, refl))
      (λ (e : answer ≡ Err fault). subst (λ a. Comes (by_stands text a) (idle out) (idle note) (Err (pack_stop fault))) (sym e) (refused fault)) why where
        refused : (fault : PackFault) → Comes (by_stands text (Err fault)) (idle out) (idle note) (Err (pack_stop fault))
        refused faults.OutOfMemory = (begins-nothing (by_stands text (Err faults.OutOfMemory)) out note, refl, refl)
        refused fault = (refl, Keeps-refl out.bytes, Keeps-refl note.bytes, refl, refl)

  module _ (stands : List Stand) (is : answer ≡ Ok stands) (out : Change) (note : Stream) where
    -- the scene was written
    pub filled : Gains out (text_with stands (json_of text) ++ codes "\n") → IsCalm out → Comes (by_stands text answer) out (idle note) (Ok Reached)
    filled written calm =
        subst (λ a. Comes (by_stands text a) out (idle note) (Ok Reached)) (sym is)
        (record { status_is = refl; written = written; rows = []; may_be = refl; noted = Appends-nil note.bytes }, calm, refl)

    -- the put of it failed
    pub filled-cut : GainsPrefix out (text_with stands (json_of text) ++ codes "\n") → Fails out → Comes (by_stands text answer) out (idle note) (Err stops.WriteFailed)
    filled-cut written failed =
        subst (λ a. Comes (by_stands text a) out (idle note) (Err stops.WriteFailed)) (sym is)
        (record { written = written; rows = []; may_be = refl; noted = AppendsPrefix-nil note.bytes [] }, inl failed)
