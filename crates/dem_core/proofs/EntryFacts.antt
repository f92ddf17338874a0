-- The rows of the pairs of a list, place by place.
use Rattle.std.proofs.Common.{◌≡◌, ℕ, ◌+◌, ◌≤◌, List, [], ◌∷◌, ◌++◌, Option, None, Some, length, drop, refl, sym, ap, ◌∙◌, subst, add-one, drop-cons}
use Rattle.std.proofs.lemmas.List.{drop_all}
use Rattle.std.proofs.lemmas.Option.{slice_get_within, get_or_from_slice_get}
use Rattle.std.specs.Prelude.{slice_get}
use Rattle.std.specs.Io.KnownBytes.{Appends}
use Rattle.dem_num.specs.declared.vector.Vec3.{Vec3}
use Rattle.dem_model.specs.Carry.{kept_of}
use Rattle.dem_model.specs.Frames.{clump_text, clumps_text, pairs_text}
use Rattle.dem_model.specs.declared.state.Body.{Body}
use Rattle.dem_model.specs.declared.state.Pair.{Pair}
use Rattle.dem_outside.specs.Known.{AppendsPrefix}
use Rattle.dem_outside.proofs.Written.{Written, Written-piece, Written-failed, Written-all}
use Rattle.dem_frame.proofs.StateFacts.{clumps-more, clumps-failed}
use Rattle.dem_core.specs.Rows.{entry_text}

-- the rows of the pairs from place i on
abbrev pub rows_from : List Pair → List (Option Vec3) → ℕ → List ℕ
rows_from ps es i = pairs_text (kept_of (drop i ps) (drop i es))

one-more : (p : Pair) (ps : List Pair) (e : Option Vec3) (es : List (Option Vec3)) → pairs_text (kept_of (p ∷ ps) (e ∷ es)) ≡ entry_text p e ++ pairs_text (kept_of ps es)
unfolding kept_of pairs_text
one-more p ps None es = refl
one-more p ps (Some h) es = refl

rows_from-next : (ps : List Pair) (es : List (Option Vec3)) (i : ℕ) (p : Pair) (e : Option Vec3) → slice_get ps i ≡ Some p → slice_get es i ≡ Some e
    → rows_from ps es i ≡ entry_text p e ++ rows_from ps es (i + 1)
rows_from-next ps es i p e here entry =
    let first : drop i ps ≡ p ∷ drop (i + 1) ps = rw add-one (drop-cons ps i p (slice_get_within ps i p here)) ∙ ap (λ q. q ∷ drop (i + 1) ps) (get_or_from_slice_get ps i p p here) in
    let held : drop i es ≡ e ∷ drop (i + 1) es = rw add-one (drop-cons es i e (slice_get_within es i e entry)) ∙ ap (λ q. q ∷ drop (i + 1) es) (get_or_from_slice_get es i e e entry) in
    ap (λ l. pairs_text (kept_of l (drop i es))) first ∙ ap (λ l. pairs_text (kept_of (p ∷ drop (i + 1) ps) l)) held ∙ one-more p (drop (i + 1) ps) e (drop (i + 1) es)

-- past the last place no row is left
rows_from-end : (ps : List Pair) (es : List (Option Vec3)) (i : ℕ) → length ps ≤ i → rows_from ps es i ≡ []
unfolding kept_of pairs_text
rows_from-end ps es i past = rw (drop_all i ps past) refl

-- the row of place i was written, where the pair there has one
pub entries-more : (old mid now : Option (List ℕ)) (ps : List Pair) (es : List (Option Vec3)) (i : ℕ) (p : Pair) (e : Option Vec3) → slice_get ps i ≡ Some p → slice_get es i ≡ Some e
    → Written old mid (rows_from ps es i) (pairs_text (kept_of ps es)) → Appends mid now (entry_text p e) → Written old now (rows_from ps es (i + 1)) (pairs_text (kept_of ps es))
entries-more old mid now ps es i p e here entry before more =
    Written-piece old mid now (entry_text p e) _ _ (rw (rows_from-next ps es i p e here entry) at before) more

-- the row of place i failed
pub entries-failed : (old mid now : Option (List ℕ)) (ps : List Pair) (es : List (Option Vec3)) (i : ℕ) (p : Pair) (e : Option Vec3) → slice_get ps i ≡ Some p → slice_get es i ≡ Some e
    → Written old mid (rows_from ps es i) (pairs_text (kept_of ps es)) → AppendsPrefix mid now (entry_text p e) → AppendsPrefix old now (pairs_text (kept_of ps es))
entries-failed old mid now ps es i p e here entry before front =
    Written-failed old mid now (entry_text p e) _ _ (rw (rows_from-next ps es i p e here entry) at before) front

-- all rows were written
pub entries-all : (old now : Option (List ℕ)) (ps : List Pair) (es : List (Option Vec3)) (i : ℕ) → length ps ≤ i
    → Written old now (rows_from ps es i) (pairs_text (kept_of ps es)) → Appends old now (pairs_text (kept_of ps es))
entries-all old now ps es i past before = Written-all old now _ (rw (rows_from-end ps es i past) at before)

-- ---- clumps

-- the row of a clump was written
pub bodies-more : (old mid now : Option (List ℕ)) (bodies : List Body) (i : ℕ) (b : Body) → slice_get bodies i ≡ Some b
    → Written old mid (clumps_text i (drop i bodies)) (clumps_text 0 bodies) → Appends mid now (clump_text i b) → Written old now (clumps_text (i + 1) (drop (i + 1) bodies)) (clumps_text 0 bodies)
bodies-more old mid now bodies i b here before more =
    clumps-more old mid now bodies i i b (slice_get_within bodies i b here) refl before (subst (λ x. Appends mid now (clump_text i x)) (sym (get_or_from_slice_get bodies i b b here)) more)

-- the row of a clump failed
pub bodies-failed : (old mid now : Option (List ℕ)) (bodies : List Body) (i : ℕ) (b : Body) → slice_get bodies i ≡ Some b
    → Written old mid (clumps_text i (drop i bodies)) (clumps_text 0 bodies) → AppendsPrefix mid now (clump_text i b) → AppendsPrefix old now (clumps_text 0 bodies)
bodies-failed old mid now bodies i b here before front =
    clumps-failed old mid now bodies i i b (slice_get_within bodies i b here) refl before (subst (λ x. AppendsPrefix mid now (clump_text i x)) (sym (get_or_from_slice_get bodies i b b here)) front)
