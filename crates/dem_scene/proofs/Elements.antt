-- Reading the elements of a list one after the other.
use Rattle.std.proofs.Common.{◌≡◌, ℕ, suc, ◌+◌, ◌<◌, List, [], ◌∷◌, ◌++◌, length, get_or, drop, Result, Ok, Err, refl, ap, sym, ◌∙◌, append_assoc, append-nil, add-one, drop-cons}
use Rattle.std.proofs.Math.Seq.{drop-length}
use Rattle.serde_json.specs.Data.{Data}
use Rattle.serde_json.specs.declared.value.Value.{Value}
use Rattle.serde_json.specs.View.{view, items_view}
use Rattle.dem_model.specs.declared.fault.SceneFault.{SceneFault}
use Rattle.dem_model.specs.Reading.{◌>>=◌, each_from}
use Rattle.dem_scene.specs.Gives.{Fails}
use Rattle.dem_scene.proofs.GivesFacts.{fails_then}

-- the elements that were read, and then what is read of the others
abbrev pub put_before : {A : Type 0} → List A → Result (List A) SceneFault → Result (List A) SceneFault
put_before xs rest = rest >>= λ ys. Ok (xs ++ ys)

-- an element that was read, and then those after it
pub push_before : {A : Type 0} (found : List A) (x : A) (rest : Result (List A) SceneFault) → put_before found (rest >>= λ xs. Ok (x ∷ xs)) ≡ put_before (found ++ x ∷ []) rest
push_before found x (Ok ys) = ap Ok (sym (append_assoc found (x ∷ []) ys))
push_before found x (Err e) = refl

module _ {A : Type 0} (read : ℕ → Data → Result A SceneFault) where
  -- what is still to be read, from place i on
  unfoldable pub rest_from : List A → ℕ → List Value → Result (List A) SceneFault
  rest_from found i vs = put_before found (each_from read i (items_view (drop i vs)))

  -- nothing was read yet
  pub starts : (vs : List Value) → rest_from [] 0 vs ≡ each_from read 0 (items_view vs)
  unfolding rest_from
  starts vs = elim (each_from read 0 (items_view vs)) as (λ r. put_before [] r ≡ r) [ Ok xs ↦ refl | Err e ↦ refl ]

  -- what is read at a place, and then the others
  step : (found : List A) (i : ℕ) (vs : List Value) (v : Value) → i < length vs → v ≡ get_or vs i v → rest_from found i vs ≡ put_before found (read i (view v) >>= λ x. each_from read (i + 1) (items_view (drop (i + 1) vs)) >>= λ xs. Ok (x ∷ xs))
  unfolding rest_from each_from
  step found i vs v h e =
      let d : drop i vs ≡ v ∷ drop (i + 1) vs = rw add-one (drop-cons vs i v h ∙ ap (λ w. w ∷ drop (suc i) vs) (sym e)) in
      ap (λ ws. put_before found (each_from read i (items_view ws))) d

  -- one more was read
  pub goes_on : (found : List A) (i : ℕ) (vs : List Value) (v : Value) (x : A) → i < length vs → v ≡ get_or vs i v → read i (view v) ≡ Ok x → rest_from found i vs ≡ rest_from (found ++ x ∷ []) (i + 1) vs
  unfolding rest_from
  goes_on found i vs v x h e r =
      step found i vs v h e ∙ ap (λ s. put_before found (s >>= λ y. each_from read (i + 1) (items_view (drop (i + 1) vs)) >>= λ xs. Ok (y ∷ xs))) r ∙ push_before found x _

  -- a fault ends the reading
  pub ends : (found : List A) (i : ℕ) (vs : List Value) (v : Value) (fault : SceneFault) → i < length vs → v ≡ get_or vs i v → Fails fault (read i (view v)) → Fails fault (rest_from found i vs)
  ends found i vs v fault h e r = rw (step found i vs v h e) (fails_then fault _ _ (fails_then fault _ _ r))

  -- all were read
  pub is_done : (found : List A) (i : ℕ) (vs : List Value) → i ≡ length vs → rest_from found i vs ≡ Ok found
  unfolding rest_from each_from
  is_done found i vs e =
      let d : drop i vs ≡ [] = rw e (drop-length vs) in
      ap (λ ws. put_before found (each_from read i (items_view ws))) d ∙ ap Ok (append-nil found)
