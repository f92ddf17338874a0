-- The row of what is seen, number after number.
use Rattle.std.proofs.Common.{◌≡◌, ℕ, ℤ, pos, List, [], ◌∷◌, ◌++◌, codes, refl, arith}
use Rattle.std.specs.Fmt.{signed_decimal, decimal}
use Rattle.dem_model.specs.Look.{look_text}
use Rattle.dem_model.specs.declared.look.LookRow.{LookRow}
use Rattle.dem_frame.proofs.RowFacts.{Builds, Builds-more, Builds-all}

-- the name alone
begins : (start row : List ℕ) (numbers : List ℤ) → start ≡ [] → row ≡ start ++ codes "look" → Builds row (codes "look") numbers numbers
begins start row numbers empty named =
    let is : row ≡ codes "look" = rw empty at named in
    record { same = rw is refl }

-- the name, seven numbers and a newline are the row
pub look-built : (start named a b c d e f g : List ℕ) (r : LookRow) → start ≡ [] → named ≡ start ++ codes "look"
    → a ≡ (named ++ codes ",") ++ decimal r.step → b ≡ (a ++ codes ",") ++ signed_decimal r.top → c ≡ (b ++ codes ",") ++ decimal r.kin → d ≡ (c ++ codes ",") ++ decimal r.up
    → e ≡ (d ++ codes ",") ++ decimal r.down → f ≡ (e ++ codes ",") ++ decimal r.most → g ≡ (f ++ codes ",") ++ decimal r.clump → g ++ codes "\n" ≡ look_text r
unfolding look_text
look-built start named a b c d e f g r empty name step top kin up down most clump =
    let numbers : List ℤ = pos r.step ∷ r.top ∷ pos r.kin ∷ pos r.up ∷ pos r.down ∷ pos r.most ∷ pos r.clump ∷ [] in
    Builds-all g (codes "look") numbers 7 (omega arith)
    (Builds-more f g (codes "look") numbers 6 (pos 0) (omega arith)
    (Builds-more e f (codes "look") numbers 5 (pos 0) (omega arith)
    (Builds-more d e (codes "look") numbers 4 (pos 0) (omega arith)
    (Builds-more c d (codes "look") numbers 3 (pos 0) (omega arith)
    (Builds-more b c (codes "look") numbers 2 (pos 0) (omega arith)
    (Builds-more a b (codes "look") numbers 1 (pos 0) (omega arith)
    (Builds-more named a (codes "look") numbers 0 (pos 0) (omega arith) (begins start named numbers empty name) step)
    top) kin) up) down) most) clump)
