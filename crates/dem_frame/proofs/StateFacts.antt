-- The rows of a state, one after the other.
use Rattle.std.proofs.Common.{◌≡◌, ℕ, ◌+◌, ◌<◌, ◌≤◌, List, [], ◌∷◌, ◌++◌, Option, length, drop, get_or, refl, add-one, drop-cons}
use Rattle.std.proofs.lemmas.List.{drop_all}
use Rattle.std.specs.Io.KnownBytes.{Appends}
use Rattle.dem_model.specs.declared.state.Body.{Body}
use Rattle.dem_model.specs.declared.state.Held.{Held}
use Rattle.dem_model.specs.Frames.{clump_text, clumps_text, pair_text, pairs_text}
use Rattle.dem_outside.specs.Known.{AppendsPrefix}
use Rattle.dem_outside.proofs.Written.{Written, Written-piece, Written-failed, Written-all}

-- ---- clumps

-- the rows of the clumps from i on are the row of clump i and those from i + 1 on
clumps_text-drop : (bodies : List Body) (i : ℕ) (d : Body) → i < length bodies
    → clumps_text i (drop i bodies) ≡ clump_text i (get_or bodies i d) ++ clumps_text (i + 1) (drop (i + 1) bodies)
unfolding clumps_text
clumps_text-drop bodies i d within =
    let e : drop i bodies ≡ get_or bodies i d ∷ drop (i + 1) bodies = rw add-one (drop-cons bodies i d within) in rw e refl

-- past the last clump no row is left
clumps_text-end : (bodies : List Body) (i : ℕ) → length bodies ≤ i → clumps_text i (drop i bodies) ≡ []
unfolding clumps_text
clumps_text-end bodies i past = rw (drop_all i bodies past) refl

-- the row of clump i was written
pub clumps-more : (old mid now : Option (List ℕ)) (bodies : List Body) (i k : ℕ) (d : Body) → i < length bodies → k ≡ i
    → Written old mid (clumps_text i (drop i bodies)) (clumps_text 0 bodies) → Appends mid now (clump_text k (get_or bodies i d))
    → Written old now (clumps_text (i + 1) (drop (i + 1) bodies)) (clumps_text 0 bodies)
clumps-more old mid now bodies i k d within same before more =
    Written-piece old mid now (clump_text i (get_or bodies i d)) _ _ (rw (clumps_text-drop bodies i d within) at before) (rw same at more)

-- the row of clump i failed
pub clumps-failed : (old mid now : Option (List ℕ)) (bodies : List Body) (i k : ℕ) (d : Body) → i < length bodies → k ≡ i
    → Written old mid (clumps_text i (drop i bodies)) (clumps_text 0 bodies) → AppendsPrefix mid now (clump_text k (get_or bodies i d))
    → AppendsPrefix old now (clumps_text 0 bodies)
clumps-failed old mid now bodies i k d within same before frame =
    Written-failed old mid now (clump_text i (get_or bodies i d)) _ _ (rw (clumps_text-drop bodies i d within) at before) (rw same at frame)

-- all rows were written
pub clumps-all : (old now : Option (List ℕ)) (bodies : List Body) (i : ℕ) → length bodies ≤ i
    → Written old now (clumps_text i (drop i bodies)) (clumps_text 0 bodies) → Appends old now (clumps_text 0 bodies)
clumps-all old now bodies i past before = Written-all old now _ (rw (clumps_text-end bodies i past) at before)

-- ---- pairs

-- the rows of the pairs from i on are the row of pair i and those from i + 1 on
pairs_text-drop : (held : List Held) (i : ℕ) (d : Held) → i < length held
    → pairs_text (drop i held) ≡ pair_text (get_or held i d).pair (get_or held i d).h ++ pairs_text (drop (i + 1) held)
unfolding pairs_text
pairs_text-drop held i d within =
    let e : drop i held ≡ get_or held i d ∷ drop (i + 1) held = rw add-one (drop-cons held i d within) in rw e refl

-- past the last pair no row is left
pairs_text-end : (held : List Held) (i : ℕ) → length held ≤ i → pairs_text (drop i held) ≡ []
unfolding pairs_text
pairs_text-end held i past = rw (drop_all i held past) refl

-- the row of pair i was written
pub pairs-more : (old mid now : Option (List ℕ)) (held : List Held) (i : ℕ) (d : Held) → i < length held
    → Written old mid (pairs_text (drop i held)) (pairs_text held) → Appends mid now (pair_text (get_or held i d).pair (get_or held i d).h)
    → Written old now (pairs_text (drop (i + 1) held)) (pairs_text held)
pairs-more old mid now held i d within before more =
    Written-piece old mid now (pair_text (get_or held i d).pair (get_or held i d).h) _ _ (rw (pairs_text-drop held i d within) at before) more

-- the row of pair i failed
pub pairs-failed : (old mid now : Option (List ℕ)) (held : List Held) (i : ℕ) (d : Held) → i < length held
    → Written old mid (pairs_text (drop i held)) (pairs_text held) → AppendsPrefix mid now (pair_text (get_or held i d).pair (get_or held i d).h)
    → AppendsPrefix old now (pairs_text held)
pairs-failed old mid now held i d within before frame =
    Written-failed old mid now (pair_text (get_or held i d).pair (get_or held i d).h) _ _ (rw (pairs_text-drop held i d within) at before) frame

-- all rows were written
pub pairs-all : (old now : Option (List ℕ)) (held : List Held) (i : ℕ) → length held ≤ i
    → Written old now (pairs_text (drop i held)) (pairs_text held) → Appends old now (pairs_text held)
pairs-all old now held i past before = Written-all old now _ (rw (pairs_text-end held i past) at before)
