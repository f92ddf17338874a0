-- What a walk over all pairs finds: place by place, row by row, and how much at most.
use Rattle.std.proofs.Common.{◌≡◌, ℕ, zero, suc, ◌+◌, ◌*◌, ◌^◌, ◌<◌, ◌≤◌, List, [], ◌∷◌, ◌++◌, length, refl, sym, ap, ◌∙◌, arith, add-one, inl, inr, Bool}
use Rattle.std.specs.Prelude.{if◌then◌else◌, filter}
use Rattle.std.proofs.lemmas.Bool.{cases_Bool}
use Rattle.std.proofs.lemmas.Nat.{mul-le}
use Rattle.std.proofs.lemmas.List.{append-nil, append_assoc, length-append}
use Rattle.std.proofs.lemmas.List.Elements.{filter-append}
use Rattle.dem_num.specs.declared.vector.Vec3.{Vec3}
use Rattle.dem_model.specs.SceneValue.{SceneValue}
use Rattle.dem_model.specs.Sound.{IsSound}
use Rattle.dem_model.specs.Spheres.{spheres_of}
use Rattle.dem_model.specs.Pairs.{sphere_count, limit_of, pair_of, apart, row_below, pairs_below, all_pairs}
use Rattle.dem_model.specs.Near.{near, near_of}
use Rattle.dem_model.specs.declared.state.Pair.{Pair}
use Rattle.dem_model.proofs.PairFacts.{row_below-more, row_below-start, pairs_below-more, pairs_below-none}
use Rattle.dem_margin.specs.NearList.{pair_if_near}

-- the near pairs of the spheres numbered below a
abbrev pub found_below : SceneValue → ℕ → List Vec3 → ℕ → List Pair
found_below s drift centers a = filter (near s drift centers) (pairs_below s a)

-- those, and the near pairs of sphere a with what is numbered below b
abbrev pub found_in_row : SceneValue → ℕ → List Vec3 → ℕ → ℕ → List Pair
found_in_row s drift centers a b = filter (near s drift centers) (pairs_below s a ++ row_below s a b)

-- a pair alone, filtered
pair_if_near-is : (s : SceneValue) (drift : ℕ) (centers : List Vec3) (p : Pair) →
    filter (near s drift centers) (if apart s p then p ∷ [] else []) ≡ pair_if_near s drift centers p
pair_if_near-is s drift centers p =
    elim (cases_Bool (apart s p)) [
      | inl e ↦ rw e refl
      | inr e ↦ rw e refl
    ]

-- a row begins empty
pub found-row : (s : SceneValue) (drift : ℕ) (centers : List Vec3) (a : ℕ) → found_below s drift centers a ≡ found_in_row s drift centers a (a + 1)
found-row s drift centers a =
    ap (filter (near s drift centers)) (sym (append-nil (pairs_below s a)) ∙ ap (λ xs. pairs_below s a ++ xs) (sym (row_below-start s a (a + 1) (omega arith))))

-- a row goes on
pub found-place : (s : SceneValue) (drift : ℕ) (centers : List Vec3) (a b : ℕ) →
    found_in_row s drift centers a b ++ pair_if_near s drift centers (pair_of a b) ≡ found_in_row s drift centers a (b + 1)
found-place s drift centers a b =
    let one : List Pair = if apart s (pair_of a b) then pair_of a b ∷ [] else [] in
    ap (λ xs. found_in_row s drift centers a b ++ xs) (sym (pair_if_near-is s drift centers (pair_of a b)))
    ∙ sym (filter-append (near s drift centers) (pairs_below s a ++ row_below s a b) (if apart s (pair_of a b) then pair_of a b ∷ [] else []))
    ∙ ap (filter (near s drift centers)) (append_assoc (pairs_below s a) (row_below s a b) (if apart s (pair_of a b) then pair_of a b ∷ [] else []) ∙ ap (λ xs. pairs_below s a ++ xs) (sym (row_below-more s a b)))

-- a row ends
pub found-rows : (s : SceneValue) (drift : ℕ) (centers : List Vec3) (a b : ℕ) → b ≡ limit_of s → found_in_row s drift centers a b ≡ found_below s drift centers (a + 1)
found-rows s drift centers a b e =
    ap (filter (near s drift centers)) (ap (λ n. pairs_below s a ++ row_below s a n) e ∙ sym (pairs_below-more s a))

-- all rows are all pairs
pub found-whole : (s : SceneValue) (drift : ℕ) (centers : List Vec3) (a : ℕ) → a ≡ sphere_count s → found_below s drift centers a ≡ near_of s drift centers
unfolding near_of all_pairs
found-whole s drift centers a e = ap (λ n. filter (near s drift centers) (pairs_below s n)) e

pub found-none : (s : SceneValue) (drift : ℕ) (centers : List Vec3) → found_below s drift centers 0 ≡ []
found-none s drift centers = rw (pairs_below-none s) refl

-- ---- how much is found

filter-le : (p : Pair → Bool) (xs : List Pair) → length (filter p xs) ≤ length xs
filter-le p [] = omega arith
filter-le p (x ∷ xs) =
    elim (cases_Bool (p x)) [
      | inl e ↦ rw e (omega (arith, filter-le p xs))
      | inr e ↦ rw e (omega (arith, filter-le p xs))
    ]

one-le : (s : SceneValue) (p : Pair) → length (if apart s p then p ∷ [] else []) ≤ 1
one-le s p =
    elim (cases_Bool (apart s p)) [
      | inl e ↦ rw e (omega arith)
      | inr e ↦ rw e (omega arith)
    ]

row-le : (s : SceneValue) (a b : ℕ) → length (row_below s a b) ≤ b
row-le s a zero = rw (row_below-start s a 0 (omega arith)) (omega arith)
row-le s a (suc b) =
    let one : List Pair = if apart s (pair_of a b) then pair_of a b ∷ [] else [] in
    let more : length (row_below s a (b + 1)) ≡ length (row_below s a b) + length (if apart s (pair_of a b) then pair_of a b ∷ [] else []) =
    ap length (row_below-more s a b) ∙ length-append (row_below s a b) (if apart s (pair_of a b) then pair_of a b ∷ [] else []) in
    rw (← add-one) (omega (arith, more, row-le s a b, one-le s (pair_of a b)))

rows-le : (s : SceneValue) (a : ℕ) → length (pairs_below s a) ≤ a * limit_of s
rows-le s zero = rw (pairs_below-none s) (omega arith)
rows-le s (suc a) =
    let more : length (pairs_below s (a + 1)) ≡ length (pairs_below s a) + length (row_below s a (limit_of s)) =
    ap length (pairs_below-more s a) ∙ length-append (pairs_below s a) (row_below s a (limit_of s)) in
    rw (← add-one) (omega (arith, more, rows-le s a, row-le s a (limit_of s)))

-- a list has room for one pair more at any place
pub found-room : (s : SceneValue) (drift : ℕ) (centers : List Vec3) (a b : ℕ) → IsSound s → a < sphere_count s → b ≤ limit_of s → length (found_in_row s drift centers a b) + 1 < 2 ^ 32
unfolding sphere_count limit_of
found-room s drift centers a b sound lt le =
    let count : a < 32768 = omega (arith, sound.sphere_count) in
    let limit : length (spheres_of s) + length s.walls ≤ 32832 = omega (arith, sound.sphere_count, sound.wall_count) in
    let rows : length (pairs_below s a) ≤ a * (length (spheres_of s) + length s.walls) = rows-le s a in
    let most : a * (length (spheres_of s) + length s.walls) ≤ 32768 * 32832 = mul-le a (length (spheres_of s) + length s.walls) 32768 32832 (omega arith) limit in
    omega (arith, filter-le (near s drift centers) (pairs_below s a ++ row_below s a b), length-append (pairs_below s a) (row_below s a b), row-le s a b)
