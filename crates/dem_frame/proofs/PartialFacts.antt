-- Records read one after the other.
use Rattle.std.proofs.Common.{◌≡◌, ℕ, List, [], ◌∷◌, ◌++◌, Option, Some, None, refl, option_and_then}
use Rattle.std.proofs.lemmas.Option.{same_Some}
use Rattle.dem_frame.specs.PartialFrames.{with_record}
use Rattle.dem_frame.specs.declared.partial.PartialFrame.{PartialFrame}

-- what was read of these records, from what was read before
unfoldable pub read_on : ℕ → PartialFrame → List (List (List ℕ)) → Option PartialFrame
read_on clumps frame [] = Some frame
read_on clumps frame (row ∷ rows) = option_and_then (λ next. read_on clumps next rows) (with_record clumps frame row)

-- the same of the records behind the first
read_on-behind : (clumps : ℕ) (frame next : PartialFrame) (rows more : List (List (List ℕ))) (o : Option PartialFrame)
    → ((n : PartialFrame) → read_on clumps n rows ≡ Some frame → read_on clumps n more ≡ Some next)
    → option_and_then (λ n. read_on clumps n rows) o ≡ Some frame → option_and_then (λ n. read_on clumps n more) o ≡ Some next
read_on-behind clumps frame next rows more None each before = cc
read_on-behind clumps frame next rows more (Some n) each before = each n before

-- one more record was read
pub read_on-more : (clumps : ℕ) (first frame next : PartialFrame) (rows : List (List (List ℕ))) (fields : List (List ℕ)) → read_on clumps first rows ≡ Some frame
    → with_record clumps frame fields ≡ Some next → read_on clumps first (rows ++ fields ∷ []) ≡ Some next
unfolding read_on
read_on-more clumps first frame next [] fields before more = rw (same_Some first frame before, more) refl
read_on-more clumps first frame next (row ∷ rows) fields before more =
    read_on-behind clumps frame next rows (rows ++ fields ∷ []) (with_record clumps first row) (λ n b. read_on-more clumps n frame next rows fields b more) before
