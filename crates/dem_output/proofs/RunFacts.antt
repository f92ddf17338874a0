-- What the loop of a run keeps: what it wrote, what it has still to write, and how the run ends.
use Rattle.std.proofs.Common.{◌≡◌, ℕ, zero, suc, ◌+◌, ◌-◌, ◌<◌, ◌≤◌, List, [], ◌++◌, Option, Ok, Err, refl, sym, ap, ◌∙◌, append_assoc, append-nil, arith, subst}
use Rattle.std.specs.Io.KnownBytes.{Appends, Keeps}
use Rattle.std.proofs.KnownBytes.{Appends-kept}
use Rattle.dem_outside.specs.Known.{AppendsPrefix}
use Rattle.dem_outside.proofs.Written.{Written, Written-start, Written-piece, Written-prefix, Written-failed, Written-all}
use Rattle.dem_model.specs.SceneValue.{SceneValue}
use Rattle.dem_model.specs.Step.{step_of}
use Rattle.dem_model.specs.Plain.{last_after}
use Rattle.dem_model.specs.Frames.{last_text}
use Rattle.dem_model.specs.Output.{due_text, rest_of}
use Rattle.dem_model.specs.declared.state.State.{State}
use Rattle.dem_model.specs.declared.state.End.{End}
use Rattle.dem_model.specs.declared.state.Last.{Last}
use Rattle.dem_model.specs.declared.state.Last.TheVariants.{Done, Passed}
use Rattle.dem_output.proofs.RunLaw.{by_step, frames_from, last_from, step_of-step, last_after-left, rest_of-left}

-- ---- the steps that are left

frames_from-next : (s : SceneValue) (k : ℕ) (st next : State) → step_of s st ≡ Ok next → frames_from s (suc k) st ≡ due_text s next ++ frames_from s k next
unfolding frames_from
frames_from-next s k st next e = ap (by_step (λ (st' : State). due_text s st' ++ frames_from s k st') (λ _. [])) e

frames_from-end : (s : SceneValue) (k : ℕ) (st : State) (e : End) → step_of s st ≡ Err e → frames_from s (suc k) st ≡ []
unfolding frames_from
frames_from-end s k st e passed = ap (by_step (λ (st' : State). due_text s st' ++ frames_from s k st') (λ _. [])) passed

frames_from-none : (s : SceneValue) (st : State) → frames_from s zero st ≡ []
unfolding frames_from
frames_from-none s st = refl

pub last_from-next : (s : SceneValue) (k : ℕ) (st next : State) → step_of s st ≡ Ok next → last_from s (suc k) st ≡ last_from s k next
unfolding last_from
last_from-next s k st next e = ap (by_step (λ (st' : State). last_from s k st') Passed) e

pub last_from-end : (s : SceneValue) (k : ℕ) (st : State) (e : End) → step_of s st ≡ Err e → last_from s (suc k) st ≡ Passed e
unfolding last_from
last_from-end s k st e passed = ap (by_step (λ (st' : State). last_from s k st') Passed) passed

pub last_from-none : (s : SceneValue) (st : State) → last_from s zero st ≡ Done s.steps
unfolding last_from
last_from-none s st = refl

-- one step fewer is left
pub left-suc : (s : SceneValue) (st next : State) → st.step < s.steps → next.step ≡ st.step + 1 → s.steps - st.step ≡ suc (s.steps - next.step)
left-suc s st next below step = omega arith

-- ---- the rest behind a state, by its next step

-- how a run ends is how it ends from its next state
pub last-next : (s : SceneValue) (st next : State) → st.step < s.steps → step_of s st ≡ Ok next → last_after s st ≡ last_after s next
last-next s st next below e =
    let step = step_of-step s st next e in
    last_after-left s st (omega arith)
    ∙ ap (λ k. last_from s k st) (left-suc s st next below step)
    ∙ last_from-next s (s.steps - next.step) st next e
    ∙ sym (last_after-left s next (omega arith))

-- behind a frame come that of the next state, where it is due, and what follows that
pub rest-next : (s : SceneValue) (st next : State) → st.step < s.steps → step_of s st ≡ Ok next → rest_of s st ≡ due_text s next ++ rest_of s next
rest-next s st next below e =
    let step = step_of-step s st next e in
    rest_of-left s st (omega arith)
    ∙ ap (λ k. frames_from s k st ++ last_text (last_after s st)) (left-suc s st next below step)
    ∙ ap (λ l. l ++ last_text (last_after s st)) (frames_from-next s (s.steps - next.step) st next e)
    ∙ append_assoc (due_text s next) (frames_from s (s.steps - next.step) next) (last_text (last_after s st))
    ∙ ap (λ x. due_text s next ++ (frames_from s (s.steps - next.step) next ++ last_text x)) (last-next s st next below e)
    ∙ ap (λ l. due_text s next ++ l) (sym (rest_of-left s next (omega arith)))

-- only the end row is left
record HasOnlyEnd (s : SceneValue) (st : State) (last : Last) : Type 0 where
  rest : rest_of s st ≡ last_text last
  ends : last_after s st ≡ last

only-end : (s : SceneValue) (st : State) (k : ℕ) (last : Last) → st.step ≤ s.steps → s.steps - st.step ≡ k → frames_from s k st ≡ [] → last_from s k st ≡ last → HasOnlyEnd s st last
only-end s st k last le left none ends =
    let is : last_after s st ≡ last = last_after-left s st le ∙ ap (λ n. last_from s n st) left ∙ ends in
    record {
      rest = rest_of-left s st le ∙ ap (λ n. frames_from s n st ++ last_text (last_after s st)) left ∙ ap (λ l. l ++ last_text (last_after s st)) none ∙ ap last_text is;
      ends = is;
    }

-- where the next step passes a limit
end-passed : (s : SceneValue) (st : State) (e : End) → st.step < s.steps → step_of s st ≡ Err e → HasOnlyEnd s st (Passed e)
end-passed s st e below passed =
    only-end s st (suc (s.steps - (st.step + 1))) (Passed e) (omega arith) (omega arith) (frames_from-end s _ st e passed) (last_from-end s _ st e passed)

-- where all steps are done
end-done : (s : SceneValue) (st : State) → st.step ≤ s.steps → s.steps ≤ st.step → HasOnlyEnd s st (Done s.steps)
end-done s st le above = only-end s st zero (Done s.steps) le (omega arith) (frames_from-none s st) (last_from-none s st)

-- ---- what the loop keeps

-- a run that began at one state stands at another: so much was written, so much is left, and it ends alike
pub record StandsAt (old now : Option (List ℕ)) (s : SceneValue) (beginning st : State) : Type 0 where
  pub in_range : st.step ≤ s.steps
  pub written : Written old now (rest_of s st) (rest_of s beginning)
  pub ends : last_after s st ≡ last_after s beginning

-- at its beginning
pub StandsAt-start : (held : Option (List ℕ)) (s : SceneValue) (st : State) → st.step ≤ s.steps → StandsAt held held s st st
StandsAt-start held s st le = record { in_range = le; written = Written-start held (rest_of s st); ends = refl }

-- one step more was made, and its frame written where it is due
pub StandsAt-more : (old mid now : Option (List ℕ)) (s : SceneValue) (beginning st next : State) → StandsAt old mid s beginning st → st.step < s.steps → step_of s st ≡ Ok next
    → Appends mid now (due_text s next) → StandsAt old now s beginning next
StandsAt-more old mid now s beginning st next stands below e frame =
    let step = step_of-step s st next e in
    record {
      in_range = omega arith;
      written = Written-piece old mid now (due_text s next) (rest_of s next) (rest_of s beginning)
          (subst (λ l. Written old mid l (rest_of s beginning)) (rest-next s st next below e) stands.written) frame;
      ends = sym (last-next s st next below e) ∙ stands.ends;
    }

-- the frame of the next state failed
pub StandsAt-failed : (old mid now : Option (List ℕ)) (s : SceneValue) (beginning st next : State) → StandsAt old mid s beginning st → st.step < s.steps → step_of s st ≡ Ok next
    → AppendsPrefix mid now (due_text s next) → AppendsPrefix old now (rest_of s beginning)
StandsAt-failed old mid now s beginning st next stands below e front =
    Written-failed old mid now (due_text s next) (rest_of s next) (rest_of s beginning)
    (subst (λ l. Written old mid l (rest_of s beginning)) (rest-next s st next below e) stands.written) front

-- what was written is a prefix of the whole
pub StandsAt-front : (old now : Option (List ℕ)) (s : SceneValue) (beginning st : State) → StandsAt old now s beginning st → AppendsPrefix old now (rest_of s beginning)
StandsAt-front old now s beginning st stands = Written-prefix old now (rest_of s st) (rest_of s beginning) stands.written

-- all but the end row was written of a run that ends so
pub record LacksEnd (old now : Option (List ℕ)) (s : SceneValue) (beginning : State) (last : Last) : Type 0 where
  pub written : Written old now (last_text last) (rest_of s beginning)
  pub ends : last ≡ last_after s beginning

lacks-end : (old now : Option (List ℕ)) (s : SceneValue) (beginning st : State) (last : Last) → StandsAt old now s beginning st → HasOnlyEnd s st last → LacksEnd old now s beginning last
lacks-end old now s beginning st last stands only = record {
  written = subst (λ l. Written old now l (rest_of s beginning)) only.rest stands.written;
  ends = sym only.ends ∙ stands.ends;
}

-- the next step passes a limit
pub StandsAt-end : (old now : Option (List ℕ)) (s : SceneValue) (beginning st : State) (e : End) → StandsAt old now s beginning st → st.step < s.steps → step_of s st ≡ Err e
    → LacksEnd old now s beginning (Passed e)
StandsAt-end old now s beginning st e stands below passed = lacks-end old now s beginning st (Passed e) stands (end-passed s st e below passed)

-- all steps are done, as many as the scene has
pub StandsAt-done : (old now : Option (List ℕ)) (s : SceneValue) (beginning st : State) (steps : ℕ) → StandsAt old now s beginning st → steps ≡ s.steps → steps ≤ st.step
    → LacksEnd old now s beginning (Done steps)
StandsAt-done old now s beginning st steps stands same above =
    subst (λ n. LacksEnd old now s beginning (Done n)) (sym same) (lacks-end old now s beginning st (Done s.steps) stands (end-done s st stands.in_range (omega arith)))

-- the end row was written
pub LacksEnd-closed : (old mid now : Option (List ℕ)) (s : SceneValue) (beginning : State) (last : Last) → LacksEnd old mid s beginning last → Appends mid now (last_text last)
    → Appends old now (rest_of s beginning)
LacksEnd-closed old mid now s beginning last lacks row =
    Written-all old now (rest_of s beginning)
    (Written-piece old mid now (last_text last) [] (rest_of s beginning) (subst (λ l. Written old mid l (rest_of s beginning)) (sym (append-nil (last_text last))) lacks.written) row)

-- the put of the end row failed
pub LacksEnd-failed : (old mid now : Option (List ℕ)) (s : SceneValue) (beginning : State) (last : Last) → LacksEnd old mid s beginning last → AppendsPrefix mid now (last_text last)
    → AppendsPrefix old now (rest_of s beginning)
LacksEnd-failed old mid now s beginning last lacks front =
    Written-failed old mid now (last_text last) [] (rest_of s beginning) (subst (λ l. Written old mid l (rest_of s beginning)) (sym (append-nil (last_text last))) lacks.written) front

-- the sink kept what it held
pub LacksEnd-kept : (old mid now : Option (List ℕ)) (s : SceneValue) (beginning : State) (last : Last) → LacksEnd old mid s beginning last → Keeps mid now → LacksEnd old now s beginning last
LacksEnd-kept old mid now s beginning last lacks kept = record {
  written = record { so_far = lacks.written.so_far; whole = lacks.written.whole; appended = Appends-kept old mid now lacks.written.so_far lacks.written.appended kept };
  ends = lacks.ends;
}
