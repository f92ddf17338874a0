-- Keys as numbers: what a key says of its column, its cell and its sphere, and when two keys meet.
use Rattle.std.proofs.Common.{◌≡◌, ℕ, ◌+◌, ◌*◌, ◌/◌, ◌-◌, ◌<◌, ◌≤◌, List, refl, sym, ap, ap₂, ◌∙◌, arith, subst, Bool, true}
use Rattle.std.specs.Prelude.{◌==◌, ◌&&◌, not, nat_lt, min, max}
use Rattle.std.proofs.lemmas.Bool.{and_parts, and_from, ltb-true, lt-ltb, not-true, not_from_false, eqb-false, ne_eqb}
use Rattle.std.proofs.lemmas.Bool.Decides.{nat_tests}
use Rattle.std.proofs.lemmas.Nat.{mod-mul-add, div-mul-add, div_below, same_from_place}
use Rattle.dem_bins.specs.Blocks.{block_at, beside}
use Rattle.dem_bins.specs.Keys.{column_of, key_of, sphere_in, column_in}
use Rattle.dem_bins.specs.Walk.{end_of, meets}
use Rattle.dem_bins.specs.declared.blocks.Block.{Block}
use Rattle.dem_bins.specs.declared.blocks.Span.{Span}
use Rattle.dem_bins.specs.declared.keys.TheConstants.{CELLS, SPHERES}
use Rattle.dem_bins.proofs.SumFacts.{mark}

pub sphere_in-key : (c l i : ℕ) → i < SPHERES → sphere_in (key_of c l i) ≡ i
unfolding sphere_in key_of
sphere_in-key c l i h = mod-mul-add (c * CELLS + l) SPHERES i h

pub column_in-key : (c l i : ℕ) → l < CELLS → i < SPHERES → column_in (key_of c l i) ≡ c
unfolding column_in key_of
column_in-key c l i low sphere =
    ap (λ (n : ℕ). n / CELLS) (div-mul-add (c * CELLS + l) SPHERES i sphere) ∙ div-mul-add c CELLS l low

-- what it takes that a key comes after another, in its column and no higher than its sphere
pub record AreMet (c l i high d m j : ℕ) : Type 0 where
  pub column : c ≡ d
  pub order : l * SPHERES + i < m * SPHERES + j
  pub below : m ≤ high

-- keys between a key and its end
between-keys : (c l i high d m j : ℕ) → l < CELLS → i < SPHERES → high + 1 < CELLS → m < CELLS → j < SPHERES →
    key_of c l i < key_of d m j → key_of d m j < key_of c (high + 1) 0 → AreMet c l i high d m j
unfolding key_of
between-keys c l i high d m j ll il hl ml jl first second =
    let low : c * CELLS + l ≤ d * CELLS + m = omega arith in
    let up : d * CELLS + m < c * CELLS + high + 1 = omega arith in
    let same : c ≡ d = omega arith in
    record { column = same; order = omega arith; below = omega arith }

keys-between : (c l i high d m j : ℕ) → l < CELLS → i < SPHERES → high + 1 < CELLS → m < CELLS → j < SPHERES →
    AreMet c l i high d m j → (key_of c l i < key_of d m j) × (key_of d m j < key_of c (high + 1) 0)
unfolding key_of
keys-between c l i high d m j ll il hl ml jl h =
    let same : c ≡ d = h.column in
    let order : l * SPHERES + i < m * SPHERES + j = h.order in
    let below : m ≤ high = h.below in
    (omega arith, omega arith)

end_of-key : (bs : List Block) (c l i : ℕ) → l < CELLS → i < SPHERES → end_of bs (key_of c l i) ≡ key_of c ((block_at bs i).z.high + 1) 0
unfolding end_of
end_of-key bs c l i low sphere = rw (column_in-key c l i low sphere, sphere_in-key c l i sphere) refl

-- two keys are small: their cells, their spheres, and the highest cell of the first one's sphere
pub record AreSmall (l i high m j : ℕ) : Type 0 where
  pub low : l < CELLS
  pub sphere : i < SPHERES
  pub up : high + 1 < CELLS
  pub low_second : m < CELLS
  pub sphere_second : j < SPHERES

-- two keys that meet
pub meets-parts : (bs : List Block) (c l i d m j : ℕ) → AreSmall l i (block_at bs i).z.high m j →
    meets bs (key_of c l i) (key_of d m j) ≡ true → AreMet c l i (block_at bs i).z.high d m j × (i ≡ j → ⊥) × (beside (block_at bs i) (block_at bs j) ≡ true)
unfolding meets
meets-parts bs c l i d m j small h =
    let all = and_parts (nat_lt (key_of c l i) (key_of d m j) && nat_lt (key_of d m j) (end_of bs (key_of c l i)) && not (sphere_in (key_of c l i) == sphere_in (key_of d m j))) (beside (block_at bs (sphere_in (key_of c l i))) (block_at bs (sphere_in (key_of d m j)))) h in
    let both = and_parts (nat_lt (key_of c l i) (key_of d m j) && nat_lt (key_of d m j) (end_of bs (key_of c l i))) (not (sphere_in (key_of c l i) == sphere_in (key_of d m j))) all.0 in
    let two = and_parts (nat_lt (key_of c l i) (key_of d m j)) (nat_lt (key_of d m j) (end_of bs (key_of c l i))) both.0 in
    let below : key_of d m j < key_of c ((block_at bs i).z.high + 1) 0 =
    subst (λ (n : ℕ). key_of d m j < n) (end_of-key bs c l i small.low small.sphere) (ltb-true (key_of d m j) (end_of bs (key_of c l i)) two.1) in (
      between-keys c l i (block_at bs i).z.high d m j small.low small.sphere small.up small.low_second small.sphere_second (ltb-true (key_of c l i) (key_of d m j) two.0) below,
      λ e. eqb-false (sphere_in (key_of c l i)) (sphere_in (key_of d m j)) (not-true (sphere_in (key_of c l i) == sphere_in (key_of d m j)) both.1)
          (sphere_in-key c l i small.sphere ∙ e ∙ sym (sphere_in-key d m j small.sphere_second)),
      sym (ap₂ (λ (a b : ℕ). beside (block_at bs a) (block_at bs b)) (sphere_in-key c l i small.sphere) (sphere_in-key d m j small.sphere_second)) ∙ all.1,
    )

-- and what it takes
pub meets-from : (bs : List Block) (c l i d m j : ℕ) → AreSmall l i (block_at bs i).z.high m j →
    AreMet c l i (block_at bs i).z.high d m j → (i ≡ j → ⊥) → beside (block_at bs i) (block_at bs j) ≡ true → meets bs (key_of c l i) (key_of d m j) ≡ true
unfolding meets
meets-from bs c l i d m j small met other near =
    let at = keys-between c l i (block_at bs i).z.high d m j small.low small.sphere small.up small.low_second small.sphere_second met in
    let below : key_of d m j < end_of bs (key_of c l i) =
    subst (λ (n : ℕ). key_of d m j < n) (sym (end_of-key bs c l i small.low small.sphere)) at.1 in
    and_from (nat_lt (key_of c l i) (key_of d m j) && nat_lt (key_of d m j) (end_of bs (key_of c l i)) && not (sphere_in (key_of c l i) == sphere_in (key_of d m j))) (beside (block_at bs (sphere_in (key_of c l i))) (block_at bs (sphere_in (key_of d m j))))
    (and_from (nat_lt (key_of c l i) (key_of d m j) && nat_lt (key_of d m j) (end_of bs (key_of c l i))) (not (sphere_in (key_of c l i) == sphere_in (key_of d m j)))
    (and_from (nat_lt (key_of c l i) (key_of d m j)) (nat_lt (key_of d m j) (end_of bs (key_of c l i))) (lt-ltb (key_of c l i) (key_of d m j) at.0) (lt-ltb (key_of d m j) (end_of bs (key_of c l i)) below))
    (not_from_false (sphere_in (key_of c l i) == sphere_in (key_of d m j))
    (ne_eqb (sphere_in (key_of c l i)) (sphere_in (key_of d m j)) (λ e. other (sym (sphere_in-key c l i small.sphere) ∙ e ∙ sphere_in-key d m j small.sphere_second)))))
    (ap₂ (λ (a b : ℕ). beside (block_at bs a) (block_at bs b)) (sphere_in-key c l i small.sphere) (sphere_in-key d m j small.sphere_second) ∙ near)

-- a column says its cells
pub column_of-same : (x y u v : ℕ) → y < CELLS → v < CELLS → column_of x y ≡ column_of u v → (x ≡ u) × (y ≡ v)
unfolding column_of
column_of-same x y u v yl vl e = same_from_place x y u v CELLS yl vl e

pub column_of-small : (x y : ℕ) → x < CELLS → y < CELLS → column_of x y < CELLS * CELLS
unfolding column_of
column_of-small x y xl yl = omega arith

pub key_of-small : (c l i : ℕ) → c < CELLS * CELLS → l < CELLS → i < SPHERES → key_of c l i < CELLS * CELLS * CELLS * SPHERES
unfolding key_of
key_of-small c l i cl ll il = omega arith

-- the first of two spheres on the last axis is the one with the lower cell, then with the lower number, if it reaches the other's lowest cell
unfoldable pub before : Span → Span → ℕ → ℕ → Bool
before a b i j = nat_lt (a.low * SPHERES + i) (b.low * SPHERES + j) && not (nat_lt a.high b.low)

-- how many cells two spans share
unfoldable pub shared_on : Span → Span → ℕ
shared_on a b = min (a.high + 1) (b.high + 1) - max a.low b.low

pub shared_on-turned : (a b : Span) → shared_on a b ≡ shared_on b a
unfolding shared_on
shared_on-turned a b = omega arith

-- of two spheres one is before the other at most, and then they share a cell
pub before-both : (a b : Span) (i j : ℕ) → i < SPHERES → j < SPHERES → a.low ≤ a.high → b.low ≤ b.high → mark (before a b i j) + mark (before b a j i) ≤ shared_on a b
unfolding before shared_on
before-both a b i j il jl p q = grind (arith, nat_tests)

pub before-itself : (a : Span) (i : ℕ) → mark (before a a i i) ≡ 0
unfolding before
before-itself a i = grind (arith, nat_tests)

-- what two keys that meet say of their spheres' spans
pub before-met : (a b : Span) (c i d j : ℕ) → AreMet c a.low i a.high d b.low j → before a b i j ≡ true
unfolding before
before-met a b c i d j h = let order : a.low * SPHERES + i < b.low * SPHERES + j = h.order in let below : b.low ≤ a.high = h.below in grind (arith, nat_tests)

-- the column of a small key is small
pub column_in-small : (k : ℕ) → k < CELLS * CELLS * CELLS * SPHERES → column_in k < CELLS * CELLS
unfolding column_in
column_in-small k h = div_below (k / SPHERES) CELLS (CELLS * CELLS) (omega arith) (div_below k SPHERES (CELLS * CELLS * CELLS) (omega arith) h)
