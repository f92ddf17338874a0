-- What the families of clumps are, and what the digits of those that are off say.
use Rattle.std.proofs.Common.{ℕ, zero, suc, ◌≡◌, ◌<◌, ◌≤◌, ◌+◌, ◌*◌, ◌/◌, ◌%◌, ◌^◌, ◌==◌, List, [], ◌∷◌, length, get_or, drop, sym, ap, ◌∙◌, arith, subst, ◌-◌, Bool, true, false, Option, Some, None, if◌then◌else◌, not, ◌&&◌, All, IfSome, refl}
use Rattle.std.specs.Prelude.{slice_get, find}
use Rattle.std.specs.Option.{option_map_or}
use Rattle.std.proofs.Math.Nat.{pow-succ', pow-le-pow_right, div-div-eq-div-mul}
use Rattle.std.proofs.lemmas.List.{drop_more}
use Rattle.std.proofs.lemmas.List.Elements.{All-head, All-tail}
use Rattle.std.proofs.lemmas.Option.{slice_get_within, get_or_from_slice_get}
use Rattle.dem_model.specs.SceneValue.{SceneValue}
use Rattle.dem_model.specs.Pairs.{clumps_meet}
use Rattle.dem_model.specs.Sound.{IsSound, IsMotion}
use Rattle.dem_model.specs.Families.{family_of, is_off, motion_for}
use Rattle.dem_model.specs.declared.family.Motion.{Motion}
use Rattle.dem_model.specs.declared.family.Off.{Off}
use Rattle.dem_model.specs.declared.state.Clump.{Clump}
use Rattle.dem_model.specs.declared.limits.TheConstants.{MAX_FAMILY}
use Rattle.dem_shape.specs.Offs.{one_off, offs_from, offs_of}

-- ---- the family of a clump

-- the family of a clump that is there
pub family_of-at : (s : SceneValue) (k : ℕ) (c : Clump) → slice_get s.clumps k ≡ Some c → family_of s k ≡ c.family
unfolding family_of
family_of-at s k c at = ap (λ o. option_map_or (λ (x : Clump). x.family) o 0) at

family_within : (o : Option Clump) → ((c : Clump) → o ≡ Some c → c.family ≤ MAX_FAMILY) → option_map_or (λ (x : Clump). x.family) o 0 ≤ MAX_FAMILY
family_within None each = omega arith
family_within (Some c) each = each c refl

-- each family is one of the sixteen
pub family_of-small : (s : SceneValue) (k : ℕ) → IsSound s → family_of s k ≤ MAX_FAMILY
unfolding family_of
family_of-small s k sound = family_within (slice_get s.clumps k)
    (λ c at. subst (λ (x : Clump). x.family ≤ MAX_FAMILY) (get_or_from_slice_get s.clumps k c c at) (sound.clumps k c (slice_get_within s.clumps k c at)).family)

-- ---- the digits

digit_le : (b : Bool) → (if b then 1 else 0) ≤ 1
digit_le true = omega arith
digit_le false = omega arith

pub one_le : (off : List Off) (f g : ℕ) → one_off off f g ≤ 1
unfolding one_off
one_le off f g = digit_le (is_off off f g)

-- so many digits are below that power of two
pub offs_from-size : (off : List Off) (f k n : ℕ) → offs_from off f k n + 1 ≤ 2 ^ n
unfolding offs_from
offs_from-size off f k zero = omega arith
offs_from-size off f k (suc n) =
    let rest : offs_from off f (k + 1) n + 1 ≤ 2 ^ n = offs_from-size off f (k + 1) n in
    let power : 2 ^ suc n ≡ 2 * 2 ^ n = pow-succ' 2 n in
    omega (arith, rest, power, one_le off f k)

-- at most fifteen digits are below 2^15
pub offs_from-small : (off : List Off) (f k n : ℕ) → n < 16 → offs_from off f k n < 2 ^ 15
offs_from-small off f k n lt =
    let power : 2 ^ n ≤ 2 ^ 15 = pow-le-pow_right {n = 2} (omega arith) {i = n} {j = 15} (omega (arith, lt)) in
    omega (arith, power, offs_from-size off f k n)

digits : (off : List Off) (f k n : ℕ) → offs_from off f k (suc n) ≡ offs_from off f (k + 1) n * 2 + one_off off f k
unfolding offs_from
digits off f k n = omega arith

-- one digit more in front
pub offs_from-front : (off : List Off) (f n : ℕ) → n < 16 → offs_from off f (16 - n) n * 2 + one_off off f (15 - n) ≡ offs_from off f (16 - (n + 1)) (n + 1)
offs_from-front off f n lt =
    let first : 16 - (n + 1) ≡ 15 - n = omega arith in
    let next : (15 - n) + 1 ≡ 16 - n = omega (arith, lt) in
    let more : n + 1 ≡ suc n = omega arith in
    sym (ap (λ k. offs_from off f k (n + 1)) first ∙ ap (offs_from off f (15 - n)) more ∙ digits off f (15 - n) n ∙ ap (λ k. offs_from off f k n * 2 + one_off off f (15 - n)) next)

lowest : (b : Bool) (r : ℕ) → (((if b then 1 else 0) + 2 * r) / 1 % 2 == 1) ≡ b
lowest true r = let e : (1 + 2 * r) / 1 % 2 ≡ 1 = omega arith in ap (λ x. x == 1) e
lowest false r = let e : (0 + 2 * r) / 1 % 2 ≡ 0 = omega arith in ap (λ x. x == 1) e

-- digit g says whether the family g places after k is off with f
pub offs_from-digit : (off : List Off) (f k n g : ℕ) → g < n → (offs_from off f k n / 2 ^ g % 2 == 1) ≡ is_off off f (k + g)
unfolding offs_from one_off
offs_from-digit off f k zero g lt = absurd (omega (arith, lt))
offs_from-digit off f k (suc n) zero lt =
    let place : k + 0 ≡ k = omega arith in
    lowest (is_off off f k) (offs_from off f (k + 1) n) ∙ ap (is_off off f) (sym place)
offs_from-digit off f k (suc n) (suc g) lt =
    let rest : (offs_from off f (k + 1) n / 2 ^ g % 2 == 1) ≡ is_off off f (k + 1 + g) = offs_from-digit off f (k + 1) n g (omega (arith, lt)) in
    let place : k + 1 + g ≡ k + suc g = omega arith in
    let half : (one_off off f k + 2 * offs_from off f (k + 1) n) / 2 ≡ offs_from off f (k + 1) n = omega (arith, one_le off f k) in
    let split : (one_off off f k + 2 * offs_from off f (k + 1) n) / 2 ^ suc g ≡ (one_off off f k + 2 * offs_from off f (k + 1) n) / 2 / 2 ^ g =
    ap (λ p. (one_off off f k + 2 * offs_from off f (k + 1) n) / p) (pow-succ' 2 g) ∙ sym (div-div-eq-div-mul (one_off off f k + 2 * offs_from off f (k + 1) n) 2 (2 ^ g)) in
    ap (λ x. x % 2 == 1) (split ∙ ap (λ x. x / 2 ^ g) half) ∙ rest ∙ ap (is_off off f) place

-- ---- the motion of a family

-- the first motion left is that of the family
pub motion_found : (ms : List Motion) (f i : ℕ) (d : Motion) → i < length ms → ((get_or ms i d).id == f) ≡ true → motion_for (drop i ms) f ≡ Some (get_or ms i d)
unfolding motion_for
motion_found ms f i d lt e =
    ap (find (λ (m : Motion). m.id == f)) (drop_more ms i d lt)
    ∙ ap (λ b. if b then Some (get_or ms i d) else find (λ (m : Motion). m.id == f) (drop (i + 1) ms)) e

-- the first motion left is of another family
pub motion_later : (ms : List Motion) (f i : ℕ) (d : Motion) → i < length ms → ((get_or ms i d).id == f) ≡ false → motion_for (drop i ms) f ≡ motion_for (drop (i + 1) ms) f
unfolding motion_for
motion_later ms f i d lt e =
    ap (find (λ (m : Motion). m.id == f)) (drop_more ms i d lt)
    ∙ ap (λ b. if b then Some (get_or ms i d) else find (λ (m : Motion). m.id == f) (drop (i + 1) ms)) e

-- ---- clumps that meet

-- two clumps meet where the digit of the second's family isn't set
pub meet-differ : (s : SceneValue) (c d : ℕ) → IsSound s → (c == d) ≡ false → not (offs_of s.off (family_of s c) / 2 ^ family_of s d % 2 == 1) ≡ clumps_meet s c d
unfolding clumps_meet offs_of
meet-differ s c d sound e =
    let place : 0 + family_of s d ≡ family_of s d = omega arith in
    ap not (offs_from-digit s.off (family_of s c) 0 16 (family_of s d) (omega (arith, family_of-small s d sound)) ∙ ap (is_off s.off (family_of s c)) place)
    ∙ sym (ap (λ b. not b && not (is_off s.off (family_of s c) (family_of s d))) e)

-- a clump doesn't meet itself
pub meet-same : (s : SceneValue) (c d : ℕ) → (c == d) ≡ true → false ≡ clumps_meet s c d
unfolding clumps_meet
meet-same s c d e = sym (ap (λ b. not b && not (is_off s.off (family_of s c) (family_of s d))) e)

-- ---- motions within their ranges

found-sound : (b : Bool) (m : Motion) (rest : Option Motion) → IsMotion m → IfSome rest IsMotion → IfSome (if b then Some m else rest) IsMotion
found-sound true m rest sound others = sound
found-sound false m rest sound others = others

-- the motion of a family is within its ranges
pub motion-sound : (ms : List Motion) (f : ℕ) → All IsMotion ms → IfSome (motion_for ms f) IsMotion
unfolding motion_for
motion-sound [] f sound = tt
motion-sound (m ∷ ms) f sound =
    found-sound (m.id == f) m (find (λ (x : Motion). x.id == f) ms) (All-head IsMotion m ms sound) (motion-sound ms f (All-tail IsMotion m ms sound))
