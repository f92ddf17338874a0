-- How many pairs a clump can have: each of its few spheres with all that is later, and each other sphere with these few.
use Rattle.std.proofs.Common.{◌≡◌, ℕ, zero, suc, ◌+◌, ◌*◌, ◌<◌, ◌≤◌, List, [], ◌∷◌, ◌++◌, length, get_or, take, drop, map, refl, sym, ap, ◌∙◌, arith, subst, zero-add, add-one, Bool, true, false, inl, inr, ◌≢◌, ◌^◌}
use Rattle.std.specs.Prelude.{if◌then◌else◌, ◌==◌}
use Rattle.std.proofs.lemmas.List.{take_more, take_all, take-append-drop}
use Rattle.std.proofs.lemmas.Bool.{cases_lt, cases_eq, cases_Bool, ne_eqb, eq-eqb, lt-ltb, le-ltb}
use Rattle.std.proofs.lemmas.Nat.{mul-le}
use Rattle.std.proofs.lemmas.Bool.Decides.{nat_tests}
use Rattle.dem_model.specs.SceneValue.{SceneValue}
use Rattle.dem_model.specs.Spheres.{Sphere, sphere_of, balls_of, spheres_of_clump, spheres_from, spheres_of}
use Rattle.dem_model.specs.Sound.{IsSound}
use Rattle.dem_model.specs.Pairs.{sphere_count, limit_of, sphere_at, no_sphere, pair_of, apart, row_below, pairs_below, all_pairs}
use Rattle.dem_model.specs.Step.{first_clump, is_second}
use Rattle.dem_model.specs.Counts.{one_if, involves, pair_count, most_pairs}
use Rattle.dem_model.specs.declared.shape.Ball.{Ball}
use Rattle.dem_model.specs.declared.shape.Template.{Template}
use Rattle.dem_model.specs.declared.state.Clump.{Clump}
use Rattle.dem_model.specs.declared.state.Pair.{Pair}
use Rattle.dem_model.proofs.PairFacts.{row_below-more, row_below-start, pairs_below-more, pairs_below-none}
use Rattle.dem_model.proofs.SoundFacts.{balls_of-count}

pub one_if-le : (b : Bool) → one_if b ≤ 1
one_if-le true = omega arith
one_if-le false = omega arith

-- a few times all, and all a few times, is within the bound
bounded : (k n limit x : ℕ) → k ≤ 16 → n ≤ 32768 → limit ≤ 32832 → x ≤ k * limit + n * 16 → x ≤ 2 ^ 21
bounded k n limit x few spheres all h = omega (arith, mul-le k limit 16 32832 few all)

-- ---- a clump's spheres

-- how many of these spheres are of clump c
unfoldable pub own_in : ℕ → List Sphere → ℕ
own_in c [] = 0
own_in c (x ∷ xs) = one_if (x.clump == c) + own_in c xs

own_in-append : (c : ℕ) (xs ys : List Sphere) → own_in c (xs ++ ys) ≡ own_in c xs + own_in c ys
unfolding own_in
own_in-append c [] ys = sym (zero-add (own_in c ys))
own_in-append c (x ∷ xs) ys = omega (arith, own_in-append c xs ys)

-- a clump's own spheres count, another's don't
own_in-same : (c : ℕ) (bs : List Ball) → own_in c (map (sphere_of c) bs) ≤ length bs
unfolding own_in
own_in-same c [] = omega arith
own_in-same c (b ∷ bs) = omega (arith, own_in-same c bs, one_if-le (c == c))

own_in-other : (c k : ℕ) (bs : List Ball) → (k == c) ≡ false → own_in c (map (sphere_of k) bs) ≡ 0
unfolding own_in
own_in-other c k [] e = refl
own_in-other c k (b ∷ bs) e = rw e (zero-add (own_in c (map (sphere_of k) bs)) ∙ own_in-other c k bs e)

-- the clumps after c have none of its spheres
own_in-after : (ts : List Template) (c k : ℕ) (cs : List Clump) → c < k → own_in c (spheres_from ts k cs) ≡ 0
unfolding own_in spheres_from spheres_of_clump
own_in-after ts c k [] h = refl
own_in-after ts c k (d ∷ cs) h =
    let e : (k == c) ≡ false = grind (arith, nat_tests) in
    let here : own_in c (map (sphere_of k) (balls_of ts d.t)) ≡ 0 = own_in-other c k (balls_of ts d.t) e in
    let rest : own_in c (spheres_from ts (k + 1) cs) ≡ 0 = own_in-after ts c (k + 1) cs (omega arith) in
    own_in-append c (map (sphere_of k) (balls_of ts d.t)) (spheres_from ts (k + 1) cs) ∙ omega arith

-- a clump has a few spheres
own_in-clumps : (s : SceneValue) (c k : ℕ) (cs : List Clump) → IsSound s → own_in c (spheres_from s.templates k cs) ≤ 16
unfolding own_in spheres_from spheres_of_clump
own_in-clumps s c k [] sound = omega arith
own_in-clumps s c k (d ∷ cs) sound =
    let split = own_in-append c (map (sphere_of k) (balls_of s.templates d.t)) (spheres_from s.templates (k + 1) cs) in
    elim (cases_eq k c) [
      | inl e ↦
          let rest : own_in c (spheres_from s.templates (k + 1) cs) ≡ 0 = own_in-after s.templates c (k + 1) cs (omega arith) in
          let here : own_in c (map (sphere_of k) (balls_of s.templates d.t)) ≤ length (balls_of s.templates d.t) =
          subst (λ n. own_in c (map (sphere_of n) (balls_of s.templates d.t)) ≤ length (balls_of s.templates d.t)) (sym e) (own_in-same c (balls_of s.templates d.t)) in
          omega (arith, split, balls_of-count s d.t sound)
      | inr ne ↦
          let here : own_in c (map (sphere_of k) (balls_of s.templates d.t)) ≡ 0 = own_in-other c k (balls_of s.templates d.t) (ne_eqb k c ne) in
          omega (arith, split, own_in-clumps s c (k + 1) cs sound)
    ]

-- how many of the spheres below b are of clump c
unfoldable pub own_below : SceneValue → ℕ → ℕ → ℕ
own_below s c b = own_in c (take b (spheres_of s))

-- a clump has a few spheres, below any number
pub own_below-le : (s : SceneValue) (c b : ℕ) → IsSound s → own_below s c b ≤ 16
unfolding own_below spheres_of
own_below-le s c b sound =
    let whole : own_in c (spheres_from s.templates 0 s.clumps) ≤ 16 = own_in-clumps s c 0 s.clumps sound in
    let split : own_in c (take b (spheres_from s.templates 0 s.clumps) ++ drop b (spheres_from s.templates 0 s.clumps)) ≡ own_in c (take b (spheres_from s.templates 0 s.clumps)) + own_in c (drop b (spheres_from s.templates 0 s.clumps)) =
    own_in-append c (take b (spheres_from s.templates 0 s.clumps)) (drop b (spheres_from s.templates 0 s.clumps)) in
    let same : own_in c (take b (spheres_from s.templates 0 s.clumps) ++ drop b (spheres_from s.templates 0 s.clumps)) ≡ own_in c (spheres_from s.templates 0 s.clumps) =
    ap (own_in c) (take-append-drop b (spheres_from s.templates 0 s.clumps)) in
    omega arith

-- none stands before the first
own_below-none : (s : SceneValue) (c : ℕ) → own_below s c 0 ≡ 0
unfolding own_below own_in
own_below-none s c = refl

-- one more sphere counts where it is of clump c
own_below-more : (s : SceneValue) (c b : ℕ) → b < sphere_count s → own_below s c (b + 1) ≡ own_below s c b + one_if ((sphere_at s b).clump == c)
unfolding own_below own_in sphere_count sphere_at
own_below-more s c b h =
    ap (own_in c) (take_more (spheres_of s) b no_sphere h)
    ∙ own_in-append c (take b (spheres_of s)) (get_or (spheres_of s) b no_sphere ∷ [])
    ∙ omega arith

-- past the last sphere none counts
own_below-past : (s : SceneValue) (c b : ℕ) → sphere_count s ≤ b → own_below s c (b + 1) ≡ own_below s c b
unfolding own_below sphere_count
own_below-past s c b h = ap (own_in c) (take_all (b + 1) (spheres_of s) (omega arith) ∙ sym (take_all b (spheres_of s) h))

-- ---- a clump's pairs

pub pair_count-append : (s : SceneValue) (c : ℕ) (ps qs : List Pair) → pair_count s c (ps ++ qs) ≡ pair_count s c ps + pair_count s c qs
unfolding pair_count
pair_count-append s c [] qs = sym (zero-add (pair_count s c qs))
pair_count-append s c (p ∷ ps) qs = omega (arith, pair_count-append s c ps qs)

-- the pair of a and b, where it is apart
abbrev one_apart : SceneValue → ℕ → ℕ → List Pair
one_apart s a b = if apart s (pair_of a b) then pair_of a b ∷ [] else []

one_apart-le : (s : SceneValue) (c a b : ℕ) → pair_count s c (one_apart s a b) ≤ one_if (involves s c (pair_of a b))
unfolding pair_count
one_apart-le s c a b =
    elim (cases_Bool (apart s (pair_of a b))) [
      | inl e ↦ rw e (omega arith)
      | inr e ↦ rw e (omega arith)
    ]

-- a sphere has no more pairs than there are spheres and walls
row_count-le : (s : SceneValue) (c a b : ℕ) → pair_count s c (row_below s a b) ≤ b
row_count-le s c a zero = rw (row_below-start s a 0 (omega arith)) (unfold pair_count in omega arith)
row_count-le s c a (suc b) =
    let more : row_below s a (b + 1) ≡ row_below s a b ++ one_apart s a b = row_below-more s a b in
    rw (← add-one, more, pair_count-append s c (row_below s a b) (one_apart s a b))
    (omega (arith, row_count-le s c a b, one_apart-le s c a b, one_if-le (involves s c (pair_of a b))))

-- a pair of another clump's sphere counts where its second is of clump c
involves-other : (s : SceneValue) (c a b : ℕ) → (sphere_at s a).clump ≢ c → b < sphere_count s →
    one_if (involves s c (pair_of a b)) ≤ one_if ((sphere_at s b).clump == c)
unfolding first_clump is_second
involves-other s c a b ne h = rw (ne_eqb (sphere_at s a).clump c ne, lt-ltb b (sphere_count s) h) (omega arith)

involves-wall : (s : SceneValue) (c a b : ℕ) → (sphere_at s a).clump ≢ c → sphere_count s ≤ b → one_if (involves s c (pair_of a b)) ≤ 0
unfolding first_clump is_second
involves-wall s c a b ne h = rw (ne_eqb (sphere_at s a).clump c ne, le-ltb b (sphere_count s) h) (omega arith)

-- another clump's sphere has pairs with the spheres of clump c alone
row_count-other : (s : SceneValue) (c a b : ℕ) → (sphere_at s a).clump ≢ c → pair_count s c (row_below s a b) ≤ own_below s c b
row_count-other s c a zero ne = rw (row_below-start s a 0 (omega arith)) (unfold pair_count in omega arith)
row_count-other s c a (suc b) ne =
    let more : row_below s a (b + 1) ≡ row_below s a b ++ one_apart s a b = row_below-more s a b in
    rw (← add-one, more, pair_count-append s c (row_below s a b) (one_apart s a b))
    (elim (cases_lt b (sphere_count s)) [
      | inl lt ↦ omega (arith, row_count-other s c a b ne, one_apart-le s c a b, involves-other s c a b ne lt, own_below-more s c b lt)
      | inr ge ↦ omega (arith, row_count-other s c a b ne, one_apart-le s c a b, involves-wall s c a b ne ge, own_below-past s c b ge)
    ])

-- the pairs go on with a part of the next row
row_step : (s : SceneValue) (c a b : ℕ) → IsSound s → a < sphere_count s → b ≤ limit_of s →
    pair_count s c (pairs_below s a) ≤ own_below s c a * limit_of s + a * 16 →
    pair_count s c (pairs_below s a ++ row_below s a b) ≤ own_below s c (a + 1) * limit_of s + (a + 1) * 16
row_step s c a b sound lt le before =
    rw (pair_count-append s c (pairs_below s a) (row_below s a b), own_below-more s c a lt)
    (elim (cases_eq (sphere_at s a).clump c) [
      | inl e ↦ rw (eq-eqb (sphere_at s a).clump c e) (omega (arith, before, row_count-le s c a b))
      | inr ne ↦ rw (ne_eqb (sphere_at s a).clump c ne) (omega (arith, before, row_count-other s c a b ne, own_below-le s c b sound))
    ])

-- the pairs of the spheres below a
rows_count-le : (s : SceneValue) (c a : ℕ) → IsSound s → a ≤ sphere_count s → pair_count s c (pairs_below s a) ≤ own_below s c a * limit_of s + a * 16
rows_count-le s c zero sound h = rw (pairs_below-none s) (unfold pair_count in omega arith)
rows_count-le s c (suc a) sound h =
    let more : pairs_below s (a + 1) ≡ pairs_below s a ++ row_below s a (limit_of s) = pairs_below-more s a in
    let step : pair_count s c (pairs_below s a ++ row_below s a (limit_of s)) ≤ own_below s c (a + 1) * limit_of s + (a + 1) * 16 =
    row_step s c a (limit_of s) sound (omega arith) (omega arith) (rows_count-le s c a sound (omega arith)) in
    let whole : pair_count s c (pairs_below s (a + 1)) ≤ own_below s c (a + 1) * limit_of s + (a + 1) * 16 = rw more step in
    subst (λ n. pair_count s c (pairs_below s n) ≤ own_below s c n * limit_of s + n * 16) (add-one a) whole

few_pairs : (s : SceneValue) (c a x : ℕ) → IsSound s → a ≤ sphere_count s → x ≤ own_below s c a * limit_of s + a * 16 → x ≤ most_pairs
unfolding limit_of sphere_count
few_pairs s c a x sound le h =
    let count : a ≤ 32768 = omega (arith, sound.sphere_count) in
    let limit : length (spheres_of s) + length s.walls ≤ 32832 = omega (arith, sound.sphere_count, sound.wall_count) in
    bounded (own_below s c a) a (length (spheres_of s) + length s.walls) x (own_below-le s c a sound) count limit h

pub pair_count-all : (s : SceneValue) (c : ℕ) → IsSound s → pair_count s c (all_pairs s) ≤ most_pairs
unfolding all_pairs
pair_count-all s c sound =
    few_pairs s c (sphere_count s) (pair_count s c (pairs_below s (sphere_count s))) sound (omega arith) (rows_count-le s c (sphere_count s) sound (omega arith))

-- no clump has more than that among the pairs before some place
pub pair_count-visited : (s : SceneValue) (c a b : ℕ) → IsSound s → a < sphere_count s → b ≤ limit_of s →
    pair_count s c (pairs_below s a ++ row_below s a b) ≤ most_pairs
pair_count-visited s c a b sound lt le =
    let step = row_step s c a b sound lt le (rows_count-le s c a sound (omega arith)) in
    few_pairs s c (a + 1) (pair_count s c (pairs_below s a ++ row_below s a b)) sound (omega arith) step
