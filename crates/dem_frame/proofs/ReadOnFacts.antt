-- The records of a state's frame, and what they read as.
use Rattle.std.proofs.Common.{◌≡◌, ℕ, ◌<◌, ◌≤◌, ◌^◌, All, ℤ, pos, negsuc, List, [], ◌∷◌, codes, true, Option, Some, FitsSigned, w64, suc, zero, refl, arith, unsigned_abs}
use Rattle.std.proofs.lemmas.Bool.{lt-ltb, le-leb, eq-eqb}
use Rattle.dem_num.specs.declared.vector.Vec3.{Vec3}
use Rattle.dem_num.specs.Vectors.{widened, Within}
use Rattle.dem_model.specs.declared.state.Body.{Body}
use Rattle.dem_model.specs.declared.state.Held.{Held}
use Rattle.dem_frame.specs.Records.{row_of, is_row, whole_of, top, head_of, clump_of, body_of_clump, body_of, pair_of, held_of, held_from, is_small, continues}
use Rattle.csv.specs.Records.{field_at}
use Rattle.dem_frame.specs.ReadBack.{FitEach, BodyFits, body_numbers, IsOrdered, IsStored}
use Rattle.dem_frame.proofs.DecimalFacts.{numbers_of-decimals}
use Rattle.dem_frame.proofs.LineFacts.{row_fields}

-- a number of 32 bits fits
pub fits_small : (n : ℕ) → n < 2 ^ 32 → FitsSigned w64 (pos n)
fits_small n small = record { sfits = omega arith }

-- a component of a displacement fits
pub fits_stored : (z : ℤ) → unsigned_abs z ≤ 2 ^ 40 → FitsSigned w64 z
fits_stored (pos n) small = record { sfits = omega arith }
fits_stored (negsuc n) small = record { sfits = omega arith }

-- what holds of each element holds of the first, and of each behind it
pub all_first : {X : Type 0} (P : X → Type 0) (x : X) (xs : List X) → All P (x ∷ xs) → P x
all_first P x xs each = each zero x (omega arith)

pub all_behind : {X : Type 0} (P : X → Type 0) (x : X) (xs : List X) → All P (x ∷ xs) → All P xs
all_behind P x xs each k d within = each (suc k) d (omega arith)

-- ---- one record

-- the numbers of a row, where its name and length are right
row_of-row : (name : List ℕ) (count : ℕ) (numbers : List ℤ) → is_row name count (row_fields name numbers) ≡ true → FitEach numbers
    → row_of name count (row_fields name numbers) ≡ Some numbers
unfolding row_of
row_of-row name count numbers is fit = rw (is, numbers_of-decimals numbers fit) refl

-- a whole number in range
whole_of-pos : (high n : ℕ) → n ≤ high → whole_of high (pos n) ≡ Some n
unfolding whole_of
whole_of-pos high n within = rw (le-leb n high within) refl

-- the fields of a frame's rows
abbrev pub head_fields : ℕ → List (List ℕ)
head_fields step = row_fields (codes "frame") (pos step ∷ [])

abbrev pub clump_fields : ℕ → Body → List (List ℕ)
clump_fields i b = row_fields (codes "clump") (pos i ∷ body_numbers b)

abbrev pub pair_numbers : Held → List ℤ
pair_numbers e = pos e.pair.a ∷ pos e.pair.b ∷ e.h.x ∷ e.h.y ∷ e.h.z ∷ []

abbrev pub pair_fields : Held → List (List ℕ)
pair_fields e = row_fields (codes "pair") (pair_numbers e)

-- the head's row has its name and its number
head_is : (step : ℕ) → is_row (codes "frame") 1 (head_fields step) ≡ true
unfolding is_row field_at
head_is step = refl

clump_is : (i : ℕ) (b : Body) → is_row (codes "clump") 14 (clump_fields i b) ≡ true
unfolding is_row field_at
clump_is i b = refl

pair_is : (e : Held) → is_row (codes "pair") 5 (pair_fields e) ≡ true
unfolding is_row field_at
pair_is e = refl

-- the head reads as its number
pub head_reads : (step : ℕ) → step ≤ 1000000000 → head_of (head_fields step) ≡ Some step
unfolding head_of
head_reads step within =
    rw (row_of-row (codes "frame") 1 (pos step ∷ []) (head_is step) (fits_small step (omega arith), tt)) (whole_of-pos 1000000000 step within)

-- the body of clump i, from its own number
body_reads : (i : ℕ) (b : Body) → i < 2 ^ 32 → body_of_clump i (pos i ∷ body_numbers b) ≡ Some b
unfolding body_of_clump body_of
body_reads i b within = rw (whole_of-pos top i (omega arith), eq-eqb i i refl) refl

-- a clump's row reads as its body
pub clump_reads : (i : ℕ) (b : Body) → i < 2 ^ 32 → BodyFits b → clump_of i (clump_fields i b) ≡ Some b
unfolding clump_of
clump_reads i b within fit =
    rw (row_of-row (codes "clump") 14 (pos i ∷ body_numbers b) (clump_is i b) (fits_small i within, fit)) (body_reads i b within)

-- a displacement in range
small_reads : (h : Vec3) → Within (widened h) (2 ^ 40) → is_small h ≡ true
unfolding is_small
small_reads h small = rw (le-leb (unsigned_abs h.x) (2 ^ 40) small.x, le-leb (unsigned_abs h.y) (2 ^ 40) small.y, le-leb (unsigned_abs h.z) (2 ^ 40) small.z) refl

pub pair_fit : (e : Held) → IsOrdered e → IsStored e → FitEach (pair_numbers e)
pair_fit e order small =
    (fits_small e.pair.a (omega (arith, order.0, order.1)), (fits_small e.pair.b order.1, (fits_stored e.h.x small.x, (fits_stored e.h.y small.y, (fits_stored e.h.z small.z, tt)))))

held_reads : (last : Option Held) (e : Held) → IsOrdered e → IsStored e → continues last e.pair ≡ true → held_of last (pair_numbers e) ≡ Some e
unfolding held_of held_from
held_reads last e order small after =
    rw (whole_of-pos top e.pair.a (omega (arith, order.0, order.1)), whole_of-pos top e.pair.b (omega (arith, order.1)), lt-ltb e.pair.a e.pair.b order.0, small_reads e.h small, after) refl

-- a pair's row reads as the pair
pub pair_reads : (last : Option Held) (e : Held) → IsOrdered e → IsStored e → continues last e.pair ≡ true → pair_of last (pair_fields e) ≡ Some e
unfolding pair_of
pair_reads last e order small after =
    rw (row_of-row (codes "pair") 5 (pair_numbers e) (pair_is e) (pair_fit e order small)) (held_reads last e order small after)
