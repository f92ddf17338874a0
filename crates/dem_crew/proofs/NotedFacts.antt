-- What was noted of a run where a call of it refuses.
use Rattle.std.proofs.Common.{◌≡◌, ℕ, List, [], ◌∷◌, ◌++◌, Option, Some, ap, ◌∙◌, subst, sym, append-nil, flat_map}
use Rattle.std.proofs.lemmas.Grind.{flat_map-append}
use Rattle.dem_outside.specs.Known.{AppendsPrefix}
use Rattle.dem_outside.proofs.Prefixes.{AppendsPrefix-whole, AppendsPrefix-after, AppendsPrefix-kept}
use Rattle.dem_model.specs.SceneValue.{SceneValue}
use Rattle.dem_model.specs.Frames.{taken_text, tests_text}
use Rattle.dem_model.specs.TakenRows.{IsLegal, tests_of}
use Rattle.dem_model.specs.World.{Course, with_list, row_with, rows_text}
use Rattle.dem_model.specs.declared.state.Last.{Last}
use Rattle.dem_model.specs.declared.state.TakenRow.{TakenRow}
use Rattle.dem_list.specs.Ascending.{Pairs}
use Rattle.dem_step.specs.Stepper.{IsListOfRun}
use Rattle.dem_core.specs.Courses.{Running, IsOnCourse, MayCollect, Refuses}
use Rattle.dem_core.specs.declared.did.WorldStop.{WorldStop}
use Rattle.dem_core.specs.declared.did.WorldStop.TheVariants.{WriteFault, OutOfMemory}
use Rattle.dem_core.proofs.CourseFacts.{list-near, IsOnCourse-with_list}
use Rattle.dem_core.proofs.SoFarFacts.{text-ended}
use Rattle.dem_core.proofs.TakenFacts.{HasTaken-with_list, HasTaken-ended}
use Rattle.dem_crew.specs.declared.work.Work.{Work}
use Rattle.dem_crew.specs.Running.{HasNoted}
use Rattle.dem_crew.specs.Working.{IsKeptUp}
use Rattle.dem_crew.proofs.GoingOnFacts.{noted-of}

-- what was noted so far
pub noted-kept : (o out n m : Option (List ℕ)) (work : Work) → IsOnCourse work.course.scene work.course.drift work.course.course → IsKeptUp o out n m work → HasNoted work.course.scene work.course.drift n m
noted-kept o out n m work on k =
    noted-of work.course.scene work.course.drift k.rows work.course.course n m on k.written.taken (AppendsPrefix-whole n m (rows_text k.rows) k.written.noted)

-- and where the put of a row fails
noted-part : (o out n a b : Option (List ℕ)) (old : Work) (list : Pairs) → IsOnCourse old.course.scene old.course.drift old.course.course → MayCollect old.course.course list.from → IsListOfRun old.course.scene old.course.drift list
    → AppendsPrefix a b (taken_text (row_with old.course.course list.from list.pairs)) → IsKeptUp o out n a old → HasNoted old.course.scene old.course.drift n b
unfolding rows_text
noted-part o out n a b old list on may near part k =
    let s : SceneValue = old.course.scene in
    let c : Course = old.course.course in
    let row : TakenRow = row_with c list.from list.pairs in
    let of_run = list-near s old.course.drift list.from list.pairs near in
    let rows : rows_text (k.rows ++ row ∷ []) ≡ rows_text k.rows ++ taken_text row = flat_map-append taken_text k.rows (row ∷ []) ∙ ap (λ l. flat_map taken_text k.rows ++ l) (append-nil (taken_text row)) in
    noted-of s old.course.drift (k.rows ++ row ∷ []) (with_list c list.from list.pairs) n b (IsOnCourse-with_list s old.course.drift c list.from list.pairs on may of_run)
    (HasTaken-with_list s old.course.drift k.rows c list.from list.pairs on may of_run k.written.taken)
    (subst (AppendsPrefix n b) (sym rows) (AppendsPrefix-after n a b (rows_text k.rows) (taken_text row) k.written.noted part))

-- where a list isn't taken into use with its row
pub noted-refused : (o out n a b : Option (List ℕ)) (f g : ℕ) (old : Work) (run : Running) (list back : Pairs) (stop : WorldStop) → IsOnCourse old.course.scene old.course.drift old.course.course → MayCollect old.course.course list.from
    → IsListOfRun old.course.scene old.course.drift list → Refuses old.course run list a b f g back stop → IsKeptUp o out n a old → HasNoted old.course.scene old.course.drift n b
noted-refused o out n a b f g old run list back WriteFault on may near h k = noted-part o out n a b old list on may near h.1 k
noted-refused o out n a b f g old run list back OutOfMemory on may near h k =
    noted-of old.course.scene old.course.drift k.rows old.course.course n b on k.written.taken (AppendsPrefix-kept n a b (rows_text k.rows) (AppendsPrefix-whole n a (rows_text k.rows) k.written.noted) h.2)

-- where the put of the row of the tests fails
pub noted-tests : (o out n a b : Option (List ℕ)) (work : Work) (last : Last) (tests : ℕ) → IsOnCourse work.course.scene work.course.drift work.course.course → work.course.course.last ≡ Some last → tests ≡ work.course.course.tests
    → AppendsPrefix a b (tests_text tests) → IsKeptUp o out n a work → HasNoted work.course.scene work.course.drift n b
noted-tests o out n a b work last tests on is counted part k =
    let s : SceneValue = work.course.scene in
    let drift : ℕ = work.course.drift in
    let whole = text-ended s drift work.course.course last on is in
    let ended = HasTaken-ended s drift k.rows work.course.course last on is k.written.taken in
    record {
      rows = k.rows;
      legal = subst (λ l. IsLegal s drift l k.rows) whole.1 ended.0;
      noted = subst (λ t. AppendsPrefix n b (rows_text k.rows ++ tests_text t)) (counted ∙ ended.1 ∙ ap (tests_of k.rows) whole.1) (AppendsPrefix-after n a b (rows_text k.rows) (tests_text tests) k.written.noted part);
    }

-- the same of the same scene and drift limit
pub noted-same : (s t : SceneValue) (d e : ℕ) (n m : Option (List ℕ)) → s ≡ t → d ≡ e → HasNoted s d n m → HasNoted t e n m
noted-same s t d e n m scene drift h = subst (λ (x : SceneValue). HasNoted x e n m) scene (subst (λ (x : ℕ). HasNoted s x n m) drift h)
