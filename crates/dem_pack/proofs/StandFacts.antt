-- The stands at the first cells, one stand more.
use Rattle.std.proofs.Common.{◌≡◌, ℕ, zero, suc, ◌+◌, List, [], ◌∷◌, ◌++◌, map, take, Option, Some, unwrap_or, sym, ap, ◌∙◌, arith}
use Rattle.std.specs.Prelude.{slice_get, is_some}
use Rattle.std.proofs.lemmas.Bool.{false≢true}
use Rattle.dem_num.specs.declared.vector.Vec3.{Vec3}
use Rattle.dem_model.specs.Packing.{stand_at}
use Rattle.dem_model.specs.declared.state.Stand.{Stand}

stands-next : (t : ℕ) (cells : List Vec3) (n : ℕ) (p : Vec3) → slice_get cells n ≡ Some p → map (stand_at t) (take (suc n) cells) ≡ map (stand_at t) (take n cells) ++ stand_at t p ∷ []
stands-next t [] n p is = absurd (false≢true (ap (λ (o : Option Vec3). is_some o) is))
stands-next t (x ∷ xs) zero p is = ap (λ (o : Option Vec3). stand_at t (unwrap_or o x) ∷ []) is
stands-next t (x ∷ xs) (suc n) p is = ap (λ ys. stand_at t x ∷ ys) (stands-next t xs n p is)

-- so many stands, and the next
pub stands-more : (t : ℕ) (cells : List Vec3) (n : ℕ) (p : Vec3) (stands : List Stand) → stands ≡ map (stand_at t) (take n cells) → slice_get cells n ≡ Some p
    → stands ++ stand_at t p ∷ [] ≡ map (stand_at t) (take (n + 1) cells)
stands-more t cells n p stands so_far is =
    let next : suc n ≡ n + 1 = omega arith in
    ap (λ xs. xs ++ stand_at t p ∷ []) so_far ∙ sym (stands-next t cells n p is) ∙ ap (λ m. map (stand_at t) (take m cells)) next
