-- How many pairs a fit state can hold: no two are the same, and each is one of those that may touch.
use Rattle.std.proofs.Common.{◌≡◌, ℕ, ◌+◌, ◌*◌, ◌^◌, ◌<◌, ◌≤◌, List, length, get_or, map, arith}
use Rattle.std.specs.Prelude.{All}
use Rattle.std.specs.Ordering.{nat_cmp}
use Rattle.std.specs.List.Sorted.{IsStrictlySortedBy}
use Rattle.std.specs.declared.cmp.Ordering.TheVariants.{Less}
use Rattle.std.proofs.lemmas.Bool.Decides.{nat_tests}
use Rattle.std.proofs.lemmas.Cmp.{nat_cmp_total}
use Rattle.std.proofs.lemmas.List.{get_or-map, length-map}
use Rattle.std.proofs.lemmas.Map.Keys.{Less-from_sorted, sorted_from_all_adjacent}
use Rattle.std.proofs.lemmas.Map.Views.{length-le_from_below}
use Rattle.dem_num.specs.Vectors.{narrowed, no_vector}
use Rattle.dem_model.specs.SceneValue.{SceneValue}
use Rattle.dem_model.specs.Fit.{IsFit, held_pairs}
use Rattle.dem_model.specs.Motion.{IsPair}
use Rattle.dem_model.specs.Pairs.{sphere_count, limit_of, pair_of, pair_cmp}
use Rattle.dem_model.specs.Sound.{IsSound}
use Rattle.dem_model.specs.declared.state.Held.{Held}
use Rattle.dem_model.specs.declared.state.Pair.{Pair}
use Rattle.dem_model.specs.declared.state.State.{State}

-- a pair as one number: its second has less than 16 bits
abbrev pub number_of : Pair → ℕ
number_of p = p.a * 65536 + p.b

-- the order of pairs is that of these numbers
number_of-less : (p q : Pair) → p.b < 65536 → pair_cmp p q ≡ Less → nat_cmp (number_of p) (number_of q) ≡ Less
number_of-less p q small less = grind (arith, nat_tests)

-- the pair that stands where a place holds none
abbrev no_held : Held
no_held = record { pair = pair_of 0 0; h = narrowed no_vector }

-- the second of a pair has less than 16 bits
second-small : (s : SceneValue) (p : Pair) → IsSound s → IsPair s p → p.b < 65536
unfolding sphere_count limit_of
second-small s p sound pair = omega (arith, pair.second, sound.sphere_count, sound.wall_count)

number_of-small : (s : SceneValue) (p : Pair) → IsSound s → IsPair s p → number_of p < 2 ^ 31
unfolding sphere_count limit_of
number_of-small s p sound pair = omega (arith, pair.first, pair.second, sound.sphere_count, sound.wall_count)

-- the numbers of what is held ascend
numbers-ascend : (s : SceneValue) (held : List Held) → IsSound s → All (λ (e : Held). IsPair s e.pair) held → IsStrictlySortedBy pair_cmp (held_pairs held)
    → IsStrictlySortedBy nat_cmp (map (λ (e : Held). number_of e.pair) held)
numbers-ascend s held sound pairs ascends =
    sorted_from_all_adjacent nat_cmp_total (map (λ (e : Held). number_of e.pair) held) 0 (λ k lt.
    let size : length (map (λ (e : Held). number_of e.pair) held) ≡ length held = length-map held (λ (e : Held). number_of e.pair) in
    let pair_size : length (held_pairs held) ≡ length held = length-map held (λ (e : Held). e.pair) in
    let here : k < length held = omega arith in
    let next : k + 1 < length held = omega arith in
    let less : pair_cmp (get_or (held_pairs held) k (pair_of 0 0)) (get_or (held_pairs held) (k + 1) (pair_of 0 0)) ≡ Less =
    Less-from_sorted {K = Pair} pair_cmp (held_pairs held) k (k + 1) (pair_of 0 0) ascends (omega arith) (omega arith) in
    let less_held : pair_cmp (get_or held k no_held).pair (get_or held (k + 1) no_held).pair ≡ Less =
    rw (get_or-map (λ (e : Held). e.pair) held k no_held (pair_of 0 0) here, get_or-map (λ (e : Held). e.pair) held (k + 1) no_held (pair_of 0 0) next) at less in
    rw (get_or-map (λ (e : Held). number_of e.pair) held k no_held 0 here, get_or-map (λ (e : Held). number_of e.pair) held (k + 1) no_held 0 next)
    (number_of-less (get_or held k no_held).pair (get_or held (k + 1) no_held).pair (second-small s (get_or held k no_held).pair sound (pairs k no_held here)) less_held))

-- each is below 2^31
numbers-small : (s : SceneValue) (held : List Held) → IsSound s → All (λ (e : Held). IsPair s e.pair) held
    → All (λ n. n < 2 ^ 31) (map (λ (e : Held). number_of e.pair) held)
numbers-small s held sound pairs k d lt =
    let here : k < length held = omega (arith, length-map held (λ (e : Held). number_of e.pair)) in
    rw (get_or-map (λ (e : Held). number_of e.pair) held k no_held d here) (number_of-small s (get_or held k no_held).pair sound (pairs k no_held here))

-- so there are at most that many
pub held-few : (s : SceneValue) (st : State) → IsSound s → IsFit s st → length st.held ≤ 2 ^ 31
held-few s st sound fit =
    omega (
      arith,
      length-map st.held (λ (e : Held). number_of e.pair),
      length-le_from_below (2 ^ 31) (map (λ (e : Held). number_of e.pair) st.held) (numbers-ascend s st.held sound fit.pairs fit.ascending) (numbers-small s st.held sound fit.pairs),
    )
