-- What is known of the pairs that a step doesn't look at: in this state, in the next, and once marks are made anew.
use Rattle.std.proofs.Common.{◌≡◌, ℕ, ◌+◌, ◌-◌, ◌<◌, ◌≤◌, ◌⊎◌, inl, inr, arith, Bool, true, false, List, [], ◌∷◌, ◌++◌, length, map, take, refl, sym, ap, ◌∙◌, subst, Some}
use Rattle.std.specs.Prelude.{All, slice_get, slice_set, slice_index_or}
use Rattle.std.proofs.lemmas.List.{get_or-map, get_or-take, map-append}
use Rattle.std.proofs.lemmas.Option.{get_or_from_slice_get, slice_get_within}
use Rattle.dem_num.specs.declared.vector.Vec3.{Vec3}
use Rattle.dem_model.specs.SceneValue.{SceneValue}
use Rattle.dem_model.specs.Centers.{centers_of}
use Rattle.dem_model.specs.Motion.{IsPair}
use Rattle.dem_model.specs.Plain.{plain_at}
use Rattle.dem_model.specs.Sound.{IsSound}
use Rattle.dem_model.specs.declared.state.Body.{Body}
use Rattle.dem_model.specs.declared.state.Pair.{Pair}
use Rattle.dem_model.specs.declared.state.State.{State}
use Rattle.dem_margin.specs.Marks.{may_touch}
use Rattle.dem_margin.proofs.MarkFacts.{parted}
use Rattle.dem_step.specs.Stepper.{state_at}
use Rattle.dem_step.specs.Marks.{is_met, AreMarked, StayMarked}
use Rattle.dem_step.specs.declared.marks.Marks.{Marks}
use Rattle.dem_step.proofs.DriftFacts.{run-moves, drifts-wider}
use Rattle.dem_step.proofs.RoomFacts.{all-read, take-set, take-next, take-whole}

-- where no marks are made each pair is looked at
pub marks_none : (s : SceneValue) (step last : ℕ) (ps : List Pair) (marks : Marks) → marks.made ≡ false → length ps ≤ length marks.may.items → StayMarked s step last ps marks
marks_none s step last ps marks none room = record {
  room = room;
  each = λ n st late early plain i p there (unmet : is_met marks i ≡ false). let met : is_met marks i ≡ true = rw none refl in cc;
}

-- in the state where the run stands
pub marks_now : (s : SceneValue) (step last : ℕ) (ps : List Pair) (marks : Marks) (bodies : List Body) (centers : List Vec3) → StayMarked s step last ps marks → step ≤ last →
    plain_at s step ≡ Some (state_at s step) → bodies ≡ (state_at s step).bodies → centers ≡ centers_of s bodies → AreMarked s centers ps marks
marks_now s step last ps marks bodies centers h late plain bodies_are centers_are =
    subst (λ cs. AreMarked s cs ps marks) (sym (centers_are ∙ ap (centers_of s) bodies_are)) (h.each step (state_at s step) (omega arith) late plain)

-- in the next state
pub marks_next : (s : SceneValue) (step last : ℕ) (ps : List Pair) (marks : Marks) → StayMarked s step last ps marks → StayMarked s (step + 1) last ps marks
marks_next s step last ps marks h = record {
  room = h.room;
  each = λ n st (late : step + 1 ≤ n) early plain. h.each n st (omega arith) early plain;
}

-- a pair that isn't looked at was not before, or may not touch within so many steps
abbrev pub AreRenewed : SceneValue → ℕ → List Vec3 → List Pair → Marks → Marks → Type 0
AreRenewed s left centers ps old new = (i : ℕ) (p : Pair) → slice_get ps i ≡ Some p → is_met new i ≡ false → (is_met old i ≡ false) ⊎ (may_touch s left centers p ≡ false)

-- once marks are made anew, for as many steps as the list is used yet
pub marks_renewed : (s : SceneValue) (step left last : ℕ) (ps : List Pair) (old new : Marks) (bodies : List Body) (centers : List Vec3) → IsSound s → StayMarked s step last ps old → step + left ≡ last →
    plain_at s step ≡ Some (state_at s step) → bodies ≡ (state_at s step).bodies → centers ≡ centers_of s bodies → All (IsPair s) ps →
    length new.may.items ≡ length old.may.items → AreRenewed s left centers ps old new → StayMarked s step last ps new
marks_renewed s step left last ps old new bodies centers sound h until plain bodies_are centers_are pairs same renewed = record {
  room = omega (arith, h.room, same);
  each = λ (n : ℕ) (st : State) (late : step ≤ n) (early : n ≤ last) (there : plain_at s n ≡ Some st) (i : ℕ) (p : Pair) (is : slice_get ps i ≡ Some p) (unmet : is_met new i ≡ false).
      elim (renewed i p is unmet) [
        | inl before ↦ h.each n st late early there i p is before
        | inr far ↦
            let e : step + (n - step) ≡ n = omega arith in
            let there' : plain_at s (step + (n - step)) ≡ Some st = subst (λ m. plain_at s m ≡ Some st) (sym e) there in
            let moved = drifts-wider s (n - step) left _ _ (run-moves s step (n - step) (state_at s step) st plain there') (omega arith) in
            let here : may_touch s left (centers_of s (state_at s step).bodies) p ≡ false = subst (λ cs. may_touch s left cs p ≡ false) (centers_are ∙ ap (centers_of s) bodies_are) far in
            parted s left (centers_of s (state_at s step).bodies) (centers_of s st.bodies) p sound moved (all-read (IsPair s) ps i p pairs is) here
      ];
}

-- marks that were put place by place are read by place
pub marked-read : (f : Pair → Bool) (ps : List Pair) (marks : List Bool) (k i : ℕ) (p : Pair) → take k marks ≡ map f (take k ps) → length ps ≤ k → slice_get ps i ≡ Some p →
    slice_index_or marks i true ≡ f p
marked-read f ps marks k i p put whole there =
    let lt : i < length ps = slice_get_within ps i p there in
    let before : i < k = omega arith in
    sym (get_or-take k marks i true before)
    ∙ ap (λ bs. slice_index_or bs i true) (put ∙ ap (map f) (take-whole ps k whole))
    ∙ get_or-map f ps i p true lt
    ∙ ap f (get_or_from_slice_get ps i p p there)

-- one more mark is put
pub marked-more : (f : Pair → Bool) (ps : List Pair) (marks : List Bool) (i : ℕ) (p : Pair) (b : Bool) → take i marks ≡ map f (take i ps) → slice_get ps i ≡ Some p → b ≡ f p → i < length marks →
    take (i + 1) (slice_set marks i b) ≡ map f (take (i + 1) ps)
marked-more f ps marks i p b put there is room =
    take-set marks i b room
    ∙ ap (λ bs. bs ++ b ∷ []) put
    ∙ ap (λ x. map f (take i ps) ++ x ∷ []) is
    ∙ sym (map-append f (take i ps) (p ∷ []))
    ∙ ap (map f) (sym (take-next ps i p there))
