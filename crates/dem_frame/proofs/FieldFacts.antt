-- A record read field by field.
use Rattle.std.proofs.Common.{◌≡◌, ℕ, ◌+◌, ◌≤◌, ℤ, List, [], ◌∷◌, ◌++◌, Bool, true, false, Option, Some, None, length, drop, suc, zero, sym, ap, ◌∙◌, refl, append_assoc, add-one, option_map}
use Rattle.std.specs.Prelude.{◌&&◌}
use Rattle.std.proofs.lemmas.List.{drop_all, append-nil}
use Rattle.std.proofs.lemmas.Bool.{eqb-true}
use Rattle.csv.specs.Records.{field_at}
use Rattle.dem_frame.specs.Records.{number_of, numbers_of, is_row}

-- the field at a place, and those behind it
field_at-drop : (fields : List (List ℕ)) (i : ℕ) (f : List ℕ) → field_at fields i ≡ Some f → drop i fields ≡ f ∷ drop (suc i) fields
unfolding field_at
field_at-drop [] i f there = cc
field_at-drop (g ∷ fs) zero f there = cc
field_at-drop (g ∷ fs) (suc i) f there = field_at-drop fs i f there

-- the numbers before a place, and those from there on, where they can be read
pub record Reads (frame : List ℤ) (rest fields : List (List ℕ)) : Type 0 where
  pub same : option_map (λ zs. frame ++ zs) (numbers_of rest) ≡ numbers_of fields

option_map-id : (o : Option (List ℤ)) → option_map (λ zs. [] ++ zs) o ≡ o
option_map-id None = refl
option_map-id (Some zs) = refl

option_map-more : (frame : List ℤ) (z : ℤ) (o : Option (List ℤ))
    → option_map (λ zs. (frame ++ z ∷ []) ++ zs) o ≡ option_map (λ zs. frame ++ zs) (option_map (λ zs. z ∷ zs) o)
option_map-more frame z None = refl
option_map-more frame z (Some zs) = ap (λ (l : List ℤ). Some l) (append_assoc frame (z ∷ []) zs)

pub Reads-start : (fields : List (List ℕ)) → Reads [] fields fields
Reads-start fields = record { same = option_map-id (numbers_of fields) }

pub Reads-more : (frame : List ℤ) (fields row : List (List ℕ)) (i : ℕ) (f : List ℕ) (z : ℤ) → Reads frame (drop i row) fields → field_at row i ≡ Some f → number_of f ≡ Some z
    → Reads (frame ++ z ∷ []) (drop (i + 1) row) fields
unfolding numbers_of
Reads-more frame fields row i f z before there is =
    let e = field_at-drop row i f there in
    record { same = rw add-one (option_map-more frame z (numbers_of (drop (suc i) row)) ∙ (let b = rw (e, is) at before.same in b)) }

pub Reads-none : (frame : List ℤ) (fields row : List (List ℕ)) (i : ℕ) (f : List ℕ) → Reads frame (drop i row) fields → field_at row i ≡ Some f → number_of f ≡ None → numbers_of fields ≡ None
unfolding numbers_of
Reads-none frame fields row i f before there is =
    let e = field_at-drop row i f there in
    let b = rw (e, is) at before.same in sym b

pub Reads-all : (frame : List ℤ) (fields row : List (List ℕ)) (i : ℕ) → length row ≤ i → Reads frame (drop i row) fields → numbers_of fields ≡ Some frame
unfolding numbers_of
Reads-all frame fields row i past before =
    let b = rw (drop_all i row past) at before.same in sym b ∙ ap (λ (l : List ℤ). Some l) (append-nil frame)

and_second : (a b : Bool) → (a && b) ≡ true → b ≡ true
and_second true b e = e
and_second false b e = cc

-- a row has its name and its numbers
pub is_row-length : (name : List ℕ) (count : ℕ) (fields : List (List ℕ)) → is_row name count fields ≡ true → length fields ≡ count + 1
unfolding is_row
is_row-length name count fields is = eqb-true (length fields) (count + 1) (and_second _ _ is)
