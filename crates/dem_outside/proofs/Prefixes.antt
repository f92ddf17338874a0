-- What puts, one after another, do to the bytes that a sink holds.
use Rattle.std.proofs.Common.{◌≡◌, ℕ, List, [], ◌∷◌, ◌++◌, Option, None, Some, Result, Ok, Err, sym, ap, ◌∙◌, refl, append_assoc, append-nil, take, drop, take-append-drop}
use Rattle.std.specs.Io.KnownBytes.{Appends, Keeps}
use Rattle.std.proofs.KnownBytes.{Appends-nil, Appends-trans, Appends-kept}
use Rattle.dem_outside.specs.Known.{AppendsPrefix, PutAppends}

-- ---- a prefix of a text

-- nothing of the text was appended
pub AppendsPrefix-nil : (old : Option (List ℕ)) (text : List ℕ) → AppendsPrefix old old text
AppendsPrefix-nil old text = ([], text, refl, Appends-nil old)

-- the whole of a text is a prefix of it
pub AppendsPrefix-whole : (old new : Option (List ℕ)) (text : List ℕ) → Appends old new text → AppendsPrefix old new text
AppendsPrefix-whole old new text whole = (text, [], append-nil text, whole)

-- a prefix of a text is one of the text with more behind it
pub AppendsPrefix-longer : (old new : Option (List ℕ)) (text more : List ℕ) → AppendsPrefix old new text → AppendsPrefix old new (text ++ more)
AppendsPrefix-longer old new text more prefix =
    (prefix.0, prefix.1 ++ more, sym (append_assoc prefix.0 prefix.1 more) ∙ ap (λ (l : List ℕ). l ++ more) prefix.2, prefix.3)

-- one text, and then a prefix of the next
pub AppendsPrefix-after : (old mid new : Option (List ℕ)) (text more : List ℕ) → Appends old mid text → AppendsPrefix mid new more → AppendsPrefix old new (text ++ more)
AppendsPrefix-after old mid new text more whole prefix =
    (text ++ prefix.0, prefix.1, append_assoc text prefix.0 prefix.1 ∙ ap (λ (l : List ℕ). text ++ l) prefix.2, Appends-trans old mid new text prefix.0 whole prefix.3)

-- a prefix stays one where the sink kept what it held
pub AppendsPrefix-kept : (old mid new : Option (List ℕ)) (text : List ℕ) → AppendsPrefix old mid text → Keeps mid new → AppendsPrefix old new text
AppendsPrefix-kept old mid new text prefix kept = (prefix.0, prefix.1, prefix.2, Appends-kept old mid new prefix.0 prefix.3 kept)

-- one text was put, and then another call put the next
pub PutAppends-after : {T E : Type 0} (old mid now : Option (List ℕ)) (r : Result T E) (text more : List ℕ) → Appends old mid text → PutAppends mid now r more
    → PutAppends old now r (text ++ more)
PutAppends-after old mid now (Ok x) text more whole put = Appends-trans old mid now text more whole put
PutAppends-after old mid now (Err e) text more whole put = AppendsPrefix-after old mid now text more whole put

-- the first n bytes of a piece are a prefix of it
pub AppendsPrefix-take : (old new piece : List ℕ) (n : ℕ) → new ≡ old ++ take n piece → AppendsPrefix (Some old) (Some new) piece
AppendsPrefix-take old new piece n same = (take n piece, drop n piece, take-append-drop n piece, same)
