-- The table of spheres, clump by clump.
use Rattle.std.proofs.Common.{◌≡◌, ℕ, ◌+◌, List, [], ◌∷◌, ◌++◌, length, sym, ap, ◌∙◌, arith, add-zero}
use Rattle.std.proofs.lemmas.List.{append-nil, append_assoc}
use Rattle.dem_model.specs.Spheres.{spheres_of_clump, spheres_from}
use Rattle.dem_model.specs.declared.shape.Template.{Template}
use Rattle.dem_model.specs.declared.state.Clump.{Clump}

-- the spheres of some clumps and one more
pub spheres_from-push : (ts : List Template) (k : ℕ) (cs : List Clump) (c : Clump) →
    spheres_from ts k (cs ++ c ∷ []) ≡ spheres_from ts k cs ++ spheres_of_clump ts (k + length cs) c.t
unfolding spheres_from
spheres_from-push ts k [] c = simp (append-nil, add-zero)
spheres_from-push ts k (d ∷ cs) c =
    let e : (k + 1) + length cs ≡ k + length (d ∷ cs) = omega arith in
    ap (λ xs. spheres_of_clump ts k d.t ++ xs) (spheres_from-push ts (k + 1) cs c)
    ∙ sym (append_assoc (spheres_of_clump ts k d.t) (spheres_from ts (k + 1) cs) (spheres_of_clump ts ((k + 1) + length cs) c.t))
    ∙ ap (λ n. (spheres_of_clump ts k d.t ++ spheres_from ts (k + 1) cs) ++ spheres_of_clump ts n c.t) e
