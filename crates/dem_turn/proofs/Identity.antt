-- Equations of polynomials over whole numbers, proved by comparing coefficients: state both sides as terms, and `refl` does the rest.
use Rattle.std.proofs.Common.{◌≡◌, ℕ, zero, suc, ◌+◌, ◌*◌, ℤ, pos, negsuc, ◌+ℤ◌, ◌-ℤ◌, ◌*ℤ◌, neg_ℤ, unsigned_abs, Bool, true, false, List, [], ◌∷◌, ◌&&◌, ◌==◌, if◌then◌else◌, nat_le, true≢false, arith, refl, sym, ap, ap₂, ◌∙◌}
use Rattle.std.proofs.lemmas.Int.{ints}
use Rattle.std.proofs.lemmas.Bool.{and_parts, eqb-true}
use borrow.Author.Differences.{up, down}

-- a polynomial as it is written: letters by their places, numbers, opposites, sums, differences and products
pub data Term : Type 0 where
  var : ℕ → Term
  num : ℤ → Term
  negated : Term → Term
  plus : Term → Term → Term
  minus : Term → Term → Term
  times : Term → Term → Term

-- the number that stands at a place
abbrev pub letter : List ℤ → ℕ → ℤ
letter [] i = pos 0
letter (x ∷ ρ) zero = x
letter (x ∷ ρ) (suc i) = letter ρ i

-- the value of a term, where its letters stand for these numbers
abbrev pub value : List ℤ → Term → ℤ
value ρ (var i) = letter ρ i
value ρ (num k) = k
value ρ (negated a) = neg_ℤ (value ρ a)
value ρ (plus a b) = value ρ a +ℤ value ρ b
value ρ (minus a b) = value ρ a -ℤ value ρ b
value ρ (times a b) = value ρ a *ℤ value ρ b

-- a polynomial multiplied out: coefficients, each with the sorted places of its letters
pub data Sum : Type 0 where
  none : Sum
  more : ℤ → List ℕ → Sum → Sum

-- the product of letters
abbrev pub product : List ℤ → List ℕ → ℤ
product ρ [] = pos 1
product ρ (i ∷ ms) = letter ρ i *ℤ product ρ ms

-- the value of a sum
abbrev pub total : List ℤ → Sum → ℤ
total ρ none = pos 0
total ρ (more c ms s) = c *ℤ product ρ ms +ℤ total ρ s

-- one letter more, in its place
abbrev pub insert : ℕ → List ℕ → List ℕ
insert i [] = i ∷ []
insert i (j ∷ js) = if nat_le i j then i ∷ j ∷ js else j ∷ insert i js

-- the letters of two products
abbrev pub merge : List ℕ → List ℕ → List ℕ
merge [] ns = ns
merge (m ∷ ms) ns = insert m (merge ms ns)

-- whether two products have the same letters
abbrev pub same : List ℕ → List ℕ → Bool
same [] [] = true
same [] (n ∷ ns) = false
same (m ∷ ms) [] = false
same (m ∷ ms) (n ∷ ns) = (m == n) && same ms ns

-- one summand more: added to the one with the same letters, else at the end
abbrev pub add_one : ℤ → List ℕ → Sum → Sum
add_one c ms none = more c ms none
add_one c ms (more d ns s) = if same ms ns then more (c +ℤ d) ns s else more d ns (add_one c ms s)

-- the sum of two sums
abbrev pub join : Sum → Sum → Sum
join none t = t
join (more c ms s) t = add_one c ms (join s t)

-- a sum, each summand multiplied
abbrev pub scale : ℤ → List ℕ → Sum → Sum
scale c ms none = none
scale c ms (more d ns s) = more (c *ℤ d) (merge ms ns) (scale c ms s)

-- the product of two sums
abbrev pub multiplied : Sum → Sum → Sum
multiplied none t = none
multiplied (more c ms s) t = join (scale c ms t) (multiplied s t)

-- a term multiplied out
abbrev pub flat : Term → Sum
flat (var i) = more (pos 1) (i ∷ []) none
flat (num k) = more k [] none
flat (negated a) = scale (negsuc 0) [] (flat a)
flat (plus a b) = join (flat a) (flat b)
flat (minus a b) = join (flat a) (scale (negsuc 0) [] (flat b))
flat (times a b) = multiplied (flat a) (flat b)

-- whether each coefficient is zero
abbrev pub is_nothing : Sum → Bool
is_nothing none = true
is_nothing (more c ms s) = (unsigned_abs c == 0) && is_nothing s

-- a product with a sum
pub times_sum : (a b c : ℤ) → a *ℤ (b +ℤ c) ≡ a *ℤ b +ℤ a *ℤ c
times_sum a b c =
    let parts : up (b +ℤ c) + down b + down c ≡ down (b +ℤ c) + up b + up c = omega (arith, ints) in
    let raised : up a * (up (b +ℤ c) + down b + down c) ≡ up a * (down (b +ℤ c) + up b + up c) = ap (λ (n : ℕ). up a * n) parts in
    let lowered : down a * (up (b +ℤ c) + down b + down c) ≡ down a * (down (b +ℤ c) + up b + up c) = ap (λ (n : ℕ). down a * n) parts in
    omega (arith, ints)

-- a sum multiplied
pub sum_times : (a b c : ℤ) → (a +ℤ b) *ℤ c ≡ a *ℤ c +ℤ b *ℤ c
sum_times a b c =
    let parts : up (a +ℤ b) + down a + down b ≡ down (a +ℤ b) + up a + up b = omega (arith, ints) in
    let raised : (up (a +ℤ b) + down a + down b) * up c ≡ (down (a +ℤ b) + up a + up b) * up c = ap (λ (n : ℕ). n * up c) parts in
    let lowered : (up (a +ℤ b) + down a + down b) * down c ≡ (down (a +ℤ b) + up a + up b) * down c = ap (λ (n : ℕ). n * down c) parts in
    omega (arith, ints)

-- a product of three
pub times_assoc : (a b c : ℤ) → a *ℤ (b *ℤ c) ≡ (a *ℤ b) *ℤ c
times_assoc a b c =
    let left : up (a *ℤ b) + (down a * up b + up a * down b) ≡ down (a *ℤ b) + (up a * up b + down a * down b) = omega (arith, ints) in
    let left_up : (up (a *ℤ b) + (down a * up b + up a * down b)) * up c ≡ (down (a *ℤ b) + (up a * up b + down a * down b)) * up c = ap (λ (n : ℕ). n * up c) left in
    let left_down : (up (a *ℤ b) + (down a * up b + up a * down b)) * down c ≡ (down (a *ℤ b) + (up a * up b + down a * down b)) * down c = ap (λ (n : ℕ). n * down c) left in
    let right : up (b *ℤ c) + (down b * up c + up b * down c) ≡ down (b *ℤ c) + (up b * up c + down b * down c) = omega (arith, ints) in
    let right_up : up a * (up (b *ℤ c) + (down b * up c + up b * down c)) ≡ up a * (down (b *ℤ c) + (up b * up c + down b * down c)) = ap (λ (n : ℕ). up a * n) right in
    let right_down : down a * (up (b *ℤ c) + (down b * up c + up b * down c)) ≡ down a * (down (b *ℤ c) + (up b * up c + down b * down c)) = ap (λ (n : ℕ). down a * n) right in
    omega (arith, ints)

-- the factors of a product, the other way round
pub times_turned : (a b : ℤ) → a *ℤ b ≡ b *ℤ a
times_turned a b = omega (arith, ints)

-- the first two of three factors, the other way round
times_swap : (a b c : ℤ) → a *ℤ (b *ℤ c) ≡ b *ℤ (a *ℤ c)
times_swap a b c = times_assoc a b c ∙ ap (λ z. z *ℤ c) (times_turned a b) ∙ sym (times_assoc b a c)

-- two products of two, by the first factors and by the second
times_pairs : (a b c d : ℤ) → (a *ℤ b) *ℤ (c *ℤ d) ≡ (a *ℤ c) *ℤ (b *ℤ d)
times_pairs a b c d = sym (times_assoc a b (c *ℤ d)) ∙ ap (λ z. a *ℤ z) (times_swap b c d) ∙ times_assoc a c (b *ℤ d)

product-insert : (ρ : List ℤ) (i : ℕ) (ms : List ℕ) → product ρ (insert i ms) ≡ letter ρ i *ℤ product ρ ms
product-insert ρ i [] = refl
product-insert ρ i (j ∷ js) = by (nat_le i j) (product-insert ρ i js)
  where
    by : (t : Bool) → product ρ (insert i js) ≡ letter ρ i *ℤ product ρ js → product ρ (if t then i ∷ j ∷ js else j ∷ insert i js) ≡ letter ρ i *ℤ (letter ρ j *ℤ product ρ js)
    by true h = refl
    by false h = ap (λ z. letter ρ j *ℤ z) h ∙ times_swap (letter ρ j) (letter ρ i) (product ρ js)

one_times : (a : ℤ) → a ≡ pos 1 *ℤ a
one_times a = omega (arith, ints)

product-merge : (ρ : List ℤ) (ms ns : List ℕ) → product ρ (merge ms ns) ≡ product ρ ms *ℤ product ρ ns
product-merge ρ [] ns = one_times (product ρ ns)
product-merge ρ (m ∷ ms) ns = product-insert ρ m (merge ms ns) ∙ ap (λ z. letter ρ m *ℤ z) (product-merge ρ ms ns) ∙ times_assoc (letter ρ m) (product ρ ms) (product ρ ns)

same-true : (ms ns : List ℕ) → same ms ns ≡ true → ms ≡ ns
same-true [] [] e = refl
same-true [] (n ∷ ns) e = absurd (true≢false (sym e))
same-true (m ∷ ms) [] e = absurd (true≢false (sym e))
same-true (m ∷ ms) (n ∷ ns) e = let parts = and_parts (m == n) (same ms ns) e in ap₂ (λ x xs. x ∷ xs) (eqb-true m n parts.0) (same-true ms ns parts.1)

together : (c d p t : ℤ) → (c +ℤ d) *ℤ p +ℤ t ≡ c *ℤ p +ℤ (d *ℤ p +ℤ t)
together c d p t = ap (λ z. z +ℤ t) (sum_times c d p) ∙ omega (arith, ints)

behind : (x y z : ℤ) → x +ℤ (y +ℤ z) ≡ y +ℤ (x +ℤ z)
behind x y z = omega (arith, ints)

total-add_one : (ρ : List ℤ) (c : ℤ) (ms : List ℕ) (s : Sum) → total ρ (add_one c ms s) ≡ c *ℤ product ρ ms +ℤ total ρ s
total-add_one ρ c ms none = refl
total-add_one ρ c ms (more d ns s) = by (same ms ns) refl (total-add_one ρ c ms s)
  where
    by : (t : Bool) → same ms ns ≡ t → total ρ (add_one c ms s) ≡ c *ℤ product ρ ms +ℤ total ρ s → total ρ (if t then more (c +ℤ d) ns s else more d ns (add_one c ms s)) ≡ c *ℤ product ρ ms +ℤ (d *ℤ product ρ ns +ℤ total ρ s)
    by true e h = together c d (product ρ ns) (total ρ s) ∙ ap (λ xs. c *ℤ product ρ xs +ℤ (d *ℤ product ρ ns +ℤ total ρ s)) (sym (same-true ms ns e))
    by false e h = ap (λ z. d *ℤ product ρ ns +ℤ z) h ∙ behind (d *ℤ product ρ ns) (c *ℤ product ρ ms) (total ρ s)

nothing_first : (a : ℤ) → a ≡ pos 0 +ℤ a
nothing_first a = omega (arith, ints)

sum_assoc : (a b c : ℤ) → a +ℤ (b +ℤ c) ≡ (a +ℤ b) +ℤ c
sum_assoc a b c = omega (arith, ints)

total-join : (ρ : List ℤ) (s t : Sum) → total ρ (join s t) ≡ total ρ s +ℤ total ρ t
total-join ρ none t = nothing_first (total ρ t)
total-join ρ (more c ms s) t = total-add_one ρ c ms (join s t) ∙ ap (λ z. c *ℤ product ρ ms +ℤ z) (total-join ρ s t) ∙ sum_assoc (c *ℤ product ρ ms) (total ρ s) (total ρ t)

times_nothing : (a : ℤ) → pos 0 ≡ a *ℤ pos 0
times_nothing a = omega (arith, ints)

nothing_times : (a : ℤ) → pos 0 ≡ pos 0 *ℤ a
nothing_times a = omega (arith, ints)

total-scale : (ρ : List ℤ) (c : ℤ) (ms : List ℕ) (s : Sum) → total ρ (scale c ms s) ≡ (c *ℤ product ρ ms) *ℤ total ρ s
total-scale ρ c ms none = times_nothing (c *ℤ product ρ ms)
total-scale ρ c ms (more d ns s) =
    ap₂ (λ x y. (c *ℤ d) *ℤ x +ℤ y) (product-merge ρ ms ns) (total-scale ρ c ms s)
    ∙ ap (λ z. z +ℤ (c *ℤ product ρ ms) *ℤ total ρ s) (times_pairs c d (product ρ ms) (product ρ ns))
    ∙ sym (times_sum (c *ℤ product ρ ms) (d *ℤ product ρ ns) (total ρ s))

total-multiplied : (ρ : List ℤ) (s t : Sum) → total ρ (multiplied s t) ≡ total ρ s *ℤ total ρ t
total-multiplied ρ none t = nothing_times (total ρ t)
total-multiplied ρ (more c ms s) t =
    total-join ρ (scale c ms t) (multiplied s t)
    ∙ ap₂ (λ x y. x +ℤ y) (total-scale ρ c ms t) (total-multiplied ρ s t)
    ∙ sym (sum_times (c *ℤ product ρ ms) (total ρ s) (total ρ t))

alone : (a : ℤ) → a ≡ pos 1 *ℤ (a *ℤ pos 1) +ℤ pos 0
alone a = omega (arith, ints)

number_alone : (k : ℤ) → k ≡ k *ℤ pos 1 +ℤ pos 0
number_alone k = omega (arith, ints)

turned_over : (a : ℤ) → neg_ℤ a ≡ (negsuc 0 *ℤ pos 1) *ℤ a
turned_over a = omega (arith, ints)

less : (a b : ℤ) → a -ℤ b ≡ a +ℤ (negsuc 0 *ℤ pos 1) *ℤ b
less a b = omega (arith, ints)

flat_sound : (ρ : List ℤ) (e : Term) → value ρ e ≡ total ρ (flat e)
flat_sound ρ (var i) = alone (letter ρ i)
flat_sound ρ (num k) = number_alone k
flat_sound ρ (negated a) = ap (λ z. neg_ℤ z) (flat_sound ρ a) ∙ turned_over (total ρ (flat a)) ∙ sym (total-scale ρ (negsuc 0) [] (flat a))
flat_sound ρ (plus a b) = ap₂ (λ x y. x +ℤ y) (flat_sound ρ a) (flat_sound ρ b) ∙ sym (total-join ρ (flat a) (flat b))
flat_sound ρ (minus a b) =
    ap₂ (λ x y. x -ℤ y) (flat_sound ρ a) (flat_sound ρ b)
    ∙ less (total ρ (flat a)) (total ρ (flat b))
    ∙ ap (λ z. total ρ (flat a) +ℤ z) (sym (total-scale ρ (negsuc 0) [] (flat b)))
    ∙ sym (total-join ρ (flat a) (scale (negsuc 0) [] (flat b)))
flat_sound ρ (times a b) = ap₂ (λ x y. x *ℤ y) (flat_sound ρ a) (flat_sound ρ b) ∙ sym (total-multiplied ρ (flat a) (flat b))

no_size : (c : ℤ) → unsigned_abs c ≡ 0 → c ≡ pos 0
no_size c e = omega (arith, ints)

no_product : (c p t : ℤ) → c ≡ pos 0 → t ≡ pos 0 → c *ℤ p +ℤ t ≡ pos 0
no_product c p t e f = ap₂ (λ x y. x *ℤ p +ℤ y) e f ∙ omega (arith, ints)

total-nothing : (ρ : List ℤ) (s : Sum) → is_nothing s ≡ true → total ρ s ≡ pos 0
total-nothing ρ none e = refl
total-nothing ρ (more c ms s) e =
    let parts = and_parts (unsigned_abs c == 0) (is_nothing s) e in
    no_product c (product ρ ms) (total ρ s) (no_size c (eqb-true (unsigned_abs c) 0 parts.0)) (total-nothing ρ s parts.1)

no_difference : (a b : ℤ) → a -ℤ b ≡ pos 0 → a ≡ b
no_difference a b e = omega (arith, ints)

-- two polynomials are equal where their difference, multiplied out, has no coefficient but zero
pub identity : (ρ : List ℤ) (e f : Term) → is_nothing (flat (minus e f)) ≡ true → value ρ e ≡ value ρ f
identity ρ e f h = no_difference (value ρ e) (value ρ f) (flat_sound ρ (minus e f) ∙ total-nothing ρ (flat (minus e f)) h)
