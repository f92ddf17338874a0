-- A text that is put piece after piece: what was written, and the rest that is still to come.
use Rattle.std.proofs.Common.{◌≡◌, ℕ, List, [], ◌++◌, Option, sym, ap, ◌∙◌, refl, append_assoc, append-nil, take, drop, take-append-drop}
use Rattle.std.specs.Io.KnownBytes.{Appends}
use Rattle.std.proofs.KnownBytes.{Appends-nil, Appends-trans}
use Rattle.dem_outside.specs.Known.{AppendsPrefix}
use Rattle.dem_outside.proofs.Prefixes.{AppendsPrefix-after}

-- all of the text but this rest was written
pub record Written (old now : Option (List ℕ)) (rest text : List ℕ) : Type 0 where
  pub so_far : List ℕ
  pub whole : so_far ++ rest ≡ text
  pub appended : Appends old now so_far

-- nothing was written yet
pub Written-start : (old : Option (List ℕ)) (text : List ℕ) → Written old old text text
Written-start old text = record { so_far = []; whole = refl; appended = Appends-nil old }

-- the next piece was written
pub Written-piece : (old mid now : Option (List ℕ)) (piece rest text : List ℕ) → Written old mid (piece ++ rest) text → Appends mid now piece → Written old now rest text
Written-piece old mid now piece rest text before more = record {
  so_far = before.so_far ++ piece;
  whole = append_assoc before.so_far piece rest ∙ before.whole;
  appended = Appends-trans old mid now before.so_far piece before.appended more;
}

-- the first n bytes of the rest were written
pub Written-take : (old mid now : Option (List ℕ)) (rest text : List ℕ) (n : ℕ) → Written old mid rest text → Appends mid now (take n rest) → Written old now (drop n rest) text
Written-take old mid now rest text n before more = record {
  so_far = before.so_far ++ take n rest;
  whole = append_assoc before.so_far (take n rest) (drop n rest) ∙ ap (λ l. before.so_far ++ l) (take-append-drop n rest) ∙ before.whole;
  appended = Appends-trans old mid now before.so_far (take n rest) before.appended more;
}

-- what was written is a prefix of the text
pub Written-prefix : (old now : Option (List ℕ)) (rest text : List ℕ) → Written old now rest text → AppendsPrefix old now text
Written-prefix old now rest text before = (before.so_far, rest, before.whole, before.appended)

-- the put of the next piece failed
pub Written-failed : (old mid now : Option (List ℕ)) (piece rest text : List ℕ) → Written old mid (piece ++ rest) text → AppendsPrefix mid now piece → AppendsPrefix old now text
Written-failed old mid now piece rest text before prefix =
    let all : (before.so_far ++ prefix.0) ++ (prefix.1 ++ rest) ≡ text =
    append_assoc before.so_far prefix.0 (prefix.1 ++ rest)
    ∙ ap (λ (l : List ℕ). before.so_far ++ l) (sym (append_assoc prefix.0 prefix.1 rest) ∙ ap (λ (l : List ℕ). l ++ rest) prefix.2)
    ∙ before.whole in
    (before.so_far ++ prefix.0, prefix.1 ++ rest, all, Appends-trans old mid now before.so_far prefix.0 before.appended prefix.3)

-- all of the text was written
pub Written-all : (old now : Option (List ℕ)) (text : List ℕ) → Written old now [] text → Appends old now text
Written-all old now text before =
    let same : before.so_far ≡ text = sym (append-nil before.so_far) ∙ before.whole in
    rw (← same) before.appended
