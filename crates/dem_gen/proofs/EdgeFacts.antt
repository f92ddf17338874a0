-- The search for the edge of the cube.
use Rattle.std.proofs.Common.{◌≡◌, ℕ, zero, suc, ◌+◌, ◌-◌, ◌*◌, ◌<◌, ◌≤◌, Bool, true, false, Some, find, nat_le, unwrap_or, refl, sym, ap, ◌∙◌, ⊎_elim, subst, arith}
use Rattle.std.specs.List.{range_with_len}
use Rattle.std.proofs.lemmas.Bool.{le-leb, lt-leb, cases_lt}
use Rattle.std.proofs.Math.Nat.{le-mul_of_pos_right}
use Rattle.dem_model.specs.Made.{edge_of}

-- a cube of this edge has a cell for each of so many clumps
abbrev pub holds : ℕ → ℕ → Bool
holds count s = nat_le count (s * s * s)

-- the search has come as far as this edge
pub record Searched (count edge : ℕ) : Type 0 where
  pub few : edge ≤ 26
  pub within : edge ≤ count
  pub left : find (holds count) (range_with_len edge (count + 1 - edge)) ≡ find (holds count) (range_with_len 0 (count + 1))

all-left : (count : ℕ) → count + 1 - 0 ≡ count + 1
all-left count = omega arith

pub Searched-start : (count : ℕ) → Searched count 0
Searched-start count = record { few = omega arith; within = omega arith; left = ap (λ n. find (holds count) (range_with_len 0 n)) (all-left count) }

cube-ge : (s : ℕ) → s ≤ s * s * s
cube-ge zero = omega arith
cube-ge (suc n) = omega (arith, le-mul_of_pos_right {m = suc n} (suc n) (omega arith), le-mul_of_pos_right {m = suc n} (suc n * suc n) (omega arith))

-- an edge of 26 is enough
below-26 : (s count : ℕ) → s ≤ 26 → s * s * s < count → count ≤ 16384 → s + 1 ≤ 26
below-26 s count few short many =
    ⊎_elim
    (λ (lt : s < 26). omega arith)
    (λ (le : 26 ≤ s). let is : s ≡ 26 = omega arith in absurd (let cube : 26 * 26 * 26 < count = subst (λ n. n * n * n < count) is short in omega arith))
    (cases_lt s 26)

skip : (count s m : ℕ) → holds count s ≡ false → find (holds count) (range_with_len s (suc m)) ≡ find (holds count) (range_with_len (s + 1) m)
skip count s m no-room = rw no-room refl

pub Searched-more : (count s : ℕ) → count ≤ 16384 → s * s * s < count → Searched count s → Searched count (s + 1)
Searched-more count s many short so_far =
    let size : count + 1 - s ≡ suc (count + 1 - (s + 1)) = omega (arith, so_far.within) in
    record {
      few = below-26 s count so_far.few short many;
      within = omega (arith, cube-ge s);
      left = sym (skip count s (count + 1 - (s + 1)) (lt-leb count (s * s * s) short)) ∙ ap (λ n. find (holds count) (range_with_len s n)) (sym size) ∙ so_far.left;
    }

found : (count s m : ℕ) → holds count s ≡ true → find (holds count) (range_with_len s (suc m)) ≡ Some s
found count s m room = rw room refl

pub Searched-done : (count s : ℕ) → count ≤ s * s * s → Searched count s → s ≡ edge_of count
unfolding edge_of
Searched-done count s enough so_far =
    let size : count + 1 - s ≡ suc (count - s) = omega (arith, so_far.within) in
    ap (λ o. unwrap_or o 0)
    (sym (found count s (count - s) (le-leb count (s * s * s) enough)) ∙ ap (λ n. find (holds count) (range_with_len s n)) (sym size) ∙ so_far.left)
