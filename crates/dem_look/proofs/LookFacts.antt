-- What the loop of a run that is looked at keeps: the rows it wrote, those it has still to write, and how the run ends.
use Rattle.std.proofs.Common.{◌≡◌, ℕ, zero, suc, ◌+◌, ◌-◌, ◌<◌, ◌≤◌, true, false, List, [], ◌++◌, Option, None, Some, Ok, Err, refl, sym, ap, ◌∙◌, append_assoc, append-nil, arith, subst}
use Rattle.std.specs.Prelude.{if◌then◌else◌}
use Rattle.std.specs.List.{cons_option}
use Rattle.std.specs.Io.KnownBytes.{Appends, Keeps}
use Rattle.std.proofs.KnownBytes.{Appends-kept}
use Rattle.dem_outside.specs.Known.{AppendsPrefix}
use Rattle.dem_outside.proofs.Prefixes.{AppendsPrefix-longer}
use Rattle.dem_outside.proofs.Written.{Written, Written-start, Written-piece, Written-prefix, Written-failed, Written-all}
use Rattle.dem_model.specs.SceneValue.{SceneValue}
use Rattle.dem_model.specs.Step.{step_of}
use Rattle.dem_model.specs.Plain.{first_state, last_of}
use Rattle.dem_model.specs.Frames.{last_text}
use Rattle.dem_model.specs.Look.{look_of, look_text, looks_text, looked_at}
use Rattle.dem_model.specs.Output.{is_due, due_state}
use Rattle.dem_model.specs.declared.state.State.{State}
use Rattle.dem_model.specs.declared.state.End.{End}
use Rattle.dem_model.specs.declared.state.Last.{Last}
use Rattle.dem_model.specs.declared.state.Last.TheVariants.{Done, Passed}
use Rattle.dem_output.proofs.RunFacts.{last_from-next, last_from-end, last_from-none, left-suc}
use Rattle.dem_output.proofs.RunLaw.{last_from, last_after-left, step_of-step}
use Rattle.dem_output.proofs.WholeFacts.{first-step}
use Rattle.dem_look.specs.Looking.{due_look, shown_after}
use Rattle.dem_look.proofs.DueFacts.{dues_from, dues-first, dues-next, dues-end, dues-done}

-- what is still to be written behind a state, where this one was shown last
abbrev pub looks_left : SceneValue → Option State → State → List ℕ
looks_left s before st = looks_text s before (dues_from s (s.steps - st.step) st) ++ last_text (last_of s)

-- the row of a state, where it is due, and those of the states behind it
looks-cons : (s : SceneValue) (before : Option State) (st : State) (rest : List State)
    → looks_text s before (cons_option (due_state s st) rest) ≡ due_look s before st ++ looks_text s (shown_after s before st) rest
unfolding looks_text due_state due_look shown_after
looks-cons s before st rest =
    elim (is_due s st.step) as (λ b. looks_text s before (cons_option (if b then Some st else None) rest) ≡ (if b then look_text (look_of s before st) else []) ++ looks_text s (if b then Some st else before) rest)
    [ true ↦ refl | false ↦ refl ]

looks-none : (s : SceneValue) (before : Option State) → looks_text s before [] ≡ []
unfolding looks_text
looks-none s before = refl

-- all rows of a run: that of the first state, where it is due, and those behind it
looked-first : (s : SceneValue) → due_look s None (first_state s) ++ looks_left s (shown_after s None (first_state s)) (first_state s) ≡ looked_at s
unfolding looked_at
looked-first s =
    let zero_left : s.steps - (first_state s).step ≡ s.steps = omega (arith, first-step s) in
    ap (λ k. due_look s None (first_state s) ++ (looks_text s (shown_after s None (first_state s)) (dues_from s k (first_state s)) ++ last_text (last_of s))) zero_left
    ∙ sym (append_assoc (due_look s None (first_state s)) (looks_text s (shown_after s None (first_state s)) (dues_from s s.steps (first_state s))) (last_text (last_of s)))
    ∙ ap (λ l. l ++ last_text (last_of s))
    (sym (looks-cons s None (first_state s) (dues_from s s.steps (first_state s))) ∙ ap (looks_text s None) (sym (dues-first s)))

-- how a whole run ends
last-first : (s : SceneValue) → last_from s (s.steps - (first_state s).step) (first_state s) ≡ last_of s
unfolding last_of
last-first s = sym (last_after-left s (first_state s) (omega (arith, first-step s)))

-- a run that is looked at stands at this state, where that one was shown last
pub record StandsLooking (old now : Option (List ℕ)) (s : SceneValue) (before : Option State) (st : State) : Type 0 where
  pub in_range : st.step ≤ s.steps
  pub written : Written old now (looks_left s before st) (looked_at s)
  pub ends : last_from s (s.steps - st.step) st ≡ last_of s

-- the row of the first state was written, where it is due
pub StandsLooking-start : (old now : Option (List ℕ)) (s : SceneValue) → Appends old now (due_look s None (first_state s)) → StandsLooking old now s (shown_after s None (first_state s)) (first_state s)
StandsLooking-start old now s first =
    record {
      in_range = omega (arith, first-step s);
      written = Written-piece old old now (due_look s None (first_state s)) (looks_left s (shown_after s None (first_state s)) (first_state s)) (looked_at s)
          (subst (λ l. Written old old l (looked_at s)) (sym (looked-first s)) (Written-start old (looked_at s))) first;
      ends = last-first s;
    }

-- its put failed
pub first-failed : (old now : Option (List ℕ)) (s : SceneValue) → AppendsPrefix old now (due_look s None (first_state s)) → AppendsPrefix old now (looked_at s)
first-failed old now s front =
    subst (AppendsPrefix old now) (looked-first s) (AppendsPrefix-longer old now (due_look s None (first_state s)) _ front)

looks_left-next : (s : SceneValue) (before : Option State) (st next : State) → st.step < s.steps → step_of s st ≡ Ok next
    → looks_left s before st ≡ due_look s before next ++ looks_left s (shown_after s before next) next
looks_left-next s before st next below e =
    ap (λ k. looks_text s before (dues_from s k st) ++ last_text (last_of s)) (left-suc s st next below (step_of-step s st next e))
    ∙ ap (λ l. looks_text s before l ++ last_text (last_of s)) (dues-next s (s.steps - next.step) st next e)
    ∙ ap (λ l. l ++ last_text (last_of s)) (looks-cons s before next (dues_from s (s.steps - next.step) next))
    ∙ append_assoc (due_look s before next) (looks_text s (shown_after s before next) (dues_from s (s.steps - next.step) next)) (last_text (last_of s))

-- one step more was made, and the row of its state written, where it is due
pub StandsLooking-more : (old mid now : Option (List ℕ)) (s : SceneValue) (before : Option State) (st next : State) → StandsLooking old mid s before st → st.step < s.steps → step_of s st ≡ Ok next
    → Appends mid now (due_look s before next) → StandsLooking old now s (shown_after s before next) next
StandsLooking-more old mid now s before st next stands below e row =
    let step = step_of-step s st next e in
    record {
      in_range = omega arith;
      written = Written-piece old mid now (due_look s before next) (looks_left s (shown_after s before next) next) (looked_at s)
          (subst (λ l. Written old mid l (looked_at s)) (looks_left-next s before st next below e) stands.written) row;
      ends = sym (last_from-next s (s.steps - next.step) st next e) ∙ ap (λ k. last_from s k st) (sym (left-suc s st next below step)) ∙ stands.ends;
    }

-- the row of the next state failed
pub StandsLooking-failed : (old mid now : Option (List ℕ)) (s : SceneValue) (before : Option State) (st next : State) → StandsLooking old mid s before st → st.step < s.steps
    → step_of s st ≡ Ok next → AppendsPrefix mid now (due_look s before next) → AppendsPrefix old now (looked_at s)
StandsLooking-failed old mid now s before st next stands below e front =
    Written-failed old mid now (due_look s before next) (looks_left s (shown_after s before next) next) (looked_at s)
    (subst (λ l. Written old mid l (looked_at s)) (looks_left-next s before st next below e) stands.written) front

-- what was written is a prefix of the rows
pub StandsLooking-front : (old now : Option (List ℕ)) (s : SceneValue) (before : Option State) (st : State) → StandsLooking old now s before st → AppendsPrefix old now (looked_at s)
StandsLooking-front old now s before st stands = Written-prefix old now (looks_left s before st) (looked_at s) stands.written

-- all but the end row was written of a run that ends so
pub record LacksEnd (old now : Option (List ℕ)) (s : SceneValue) (last : Last) : Type 0 where
  pub written : Written old now (last_text last) (looked_at s)
  pub ends : last ≡ last_of s

lacks-end : (old now : Option (List ℕ)) (s : SceneValue) (before : Option State) (st : State) (k : ℕ) (last : Last) → StandsLooking old now s before st → s.steps - st.step ≡ k
    → dues_from s k st ≡ [] → last_from s k st ≡ last → LacksEnd old now s last
lacks-end old now s before st k last stands left none ends =
    let is : last ≡ last_of s = sym ends ∙ ap (λ n. last_from s n st) (sym left) ∙ stands.ends in
    record {
      written = subst (λ l. Written old now l (looked_at s))
          (ap (λ n. looks_text s before (dues_from s n st) ++ last_text (last_of s)) left ∙ ap (λ l. looks_text s before l ++ last_text (last_of s)) none
          ∙ ap (λ l. l ++ last_text (last_of s)) (looks-none s before) ∙ ap last_text (sym is)) stands.written;
      ends = is;
    }

-- the next step passes a limit
pub StandsLooking-end : (old now : Option (List ℕ)) (s : SceneValue) (before : Option State) (st : State) (e : End) → StandsLooking old now s before st → st.step < s.steps
    → step_of s st ≡ Err e → LacksEnd old now s (Passed e)
StandsLooking-end old now s before st e stands below passed =
    lacks-end old now s before st (suc (s.steps - (st.step + 1))) (Passed e) stands (omega arith) (dues-end s _ st e passed) (last_from-end s _ st e passed)

-- all steps are done
pub StandsLooking-done : (old now : Option (List ℕ)) (s : SceneValue) (before : Option State) (st : State) (steps : ℕ) → StandsLooking old now s before st → steps ≡ s.steps → steps ≤ st.step
    → LacksEnd old now s (Done steps)
StandsLooking-done old now s before st steps stands same above =
    subst (λ n. LacksEnd old now s (Done n)) (sym same)
    (lacks-end old now s before st zero (Done s.steps) stands (omega arith) (dues-done s st) (last_from-none s st))

-- the end row was written
pub LacksEnd-closed : (old mid now : Option (List ℕ)) (s : SceneValue) (last : Last) → LacksEnd old mid s last → Appends mid now (last_text last) → Appends old now (looked_at s)
LacksEnd-closed old mid now s last lacks row =
    Written-all old now (looked_at s)
    (Written-piece old mid now (last_text last) [] (looked_at s) (subst (λ l. Written old mid l (looked_at s)) (sym (append-nil (last_text last))) lacks.written) row)

-- its put failed
pub LacksEnd-failed : (old mid now : Option (List ℕ)) (s : SceneValue) (last : Last) → LacksEnd old mid s last → AppendsPrefix mid now (last_text last) → AppendsPrefix old now (looked_at s)
LacksEnd-failed old mid now s last lacks front =
    Written-failed old mid now (last_text last) [] (looked_at s) (subst (λ l. Written old mid l (looked_at s)) (sym (append-nil (last_text last))) lacks.written) front

-- the sink kept what it held
pub LacksEnd-kept : (old mid now : Option (List ℕ)) (s : SceneValue) (last : Last) → LacksEnd old mid s last → Keeps mid now → LacksEnd old now s last
LacksEnd-kept old mid now s last lacks kept = record {
  written = record { so_far = lacks.written.so_far; whole = lacks.written.whole; appended = Appends-kept old mid now lacks.written.so_far lacks.written.appended kept };
  ends = lacks.ends;
}
