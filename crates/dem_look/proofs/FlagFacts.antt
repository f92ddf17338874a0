-- Flags of who is low: who passed the middle height, counted by flags, is who passed it.
use Rattle.std.proofs.Common.{◌≡◌, ℕ, zero, suc, ◌+◌, ◌<◌, Bool, true, false, cond, not, ◌&&◌, List, [], ◌∷◌, ◌++◌, length, set, map, take, Option, None, Some, refl, sym, ap, ap₂, ◌∙◌, arith, zero-add, add-zero}
use Rattle.std.specs.Prelude.{if◌then◌else◌, option_map}
use Rattle.std.specs.List.{range_with_len, count_by}
use Rattle.std.proofs.lemmas.List.{take_more_set, take_all}
use Rattle.std.proofs.lemmas.List.FromFn.{length-map-range_with_len, get_or-map-range_with_len, map-range_with_len_more}
use Rattle.std.proofs.lemmas.List.Sums.{sum_by-cons}
use Rattle.dem_model.specs.SceneValue.{SceneValue}
use Rattle.dem_model.specs.Look.{is_low, count_left, up_of, down_of}
use Rattle.dem_model.specs.declared.state.State.{State}
use Rattle.dem_look.specs.Looker.{lows_of}
use Rattle.dem_look.specs.Inside.{flag_at, left_count}
use Rattle.dem_look.proofs.MotionFacts.{sum-more}

-- tests that answer the same count the same
count-same : (p q : ℕ → Bool) (a n : ℕ) → ((k : ℕ) → k < a + n → p k ≡ q k) → count_by p (range_with_len a n) ≡ count_by q (range_with_len a n)
count-same p q a zero same = refl
count-same p q a (suc n) same =
    sum_by-cons (λ x. cond (p x) 1 0) a (range_with_len (a + 1) n)
    ∙ ap₂ (λ (b : Bool) (m : ℕ). cond b 1 0 + m) (same a (omega arith)) (count-same p q (a + 1) n (λ k lt. same k (omega arith)))
    ∙ sym (sum_by-cons (λ x. cond (q x) 1 0) a (range_with_len (a + 1) n))

-- the flag of a clump in a state
flag-low : (s : SceneValue) (st : State) (k : ℕ) → k < length s.clumps → flag_at (lows_of s st) k ≡ is_low s st k
unfolding lows_of
flag-low s st k lt = get_or-map-range_with_len (is_low s st) 0 (length s.clumps) k k false lt (zero-add k)

pub length-lows_of : (s : SceneValue) (st : State) → length (lows_of s st) ≡ length s.clumps
unfolding lows_of
length-lows_of s st = length-map-range_with_len (is_low s st) 0 (length s.clumps)

-- who is low in the one state and not in the other, by their flags
left-lows : (s : SceneValue) (low high : State) → left_count (lows_of s low) (lows_of s high) ≡ count_left s low high
unfolding left_count count_left
left-lows s low high =
    ap (λ n. count_by (λ k. flag_at (lows_of s low) k && not (flag_at (lows_of s high) k)) (range_with_len 0 n)) (length-lows_of s low)
    ∙ count-same (λ k. flag_at (lows_of s low) k && not (flag_at (lows_of s high) k)) (λ k. is_low s low k && not (is_low s high k)) 0 (length s.clumps)
    (λ k lt. ap₂ (λ (x y : Bool). x && not y) (flag-low s low k (omega arith)) (flag-low s high k (omega arith)))

-- who went up since the state that was seen before
pub up-seen : (s : SceneValue) (seen : Bool) (low now : List Bool) (before : Option State) (st : State) → (if seen then Some low else None) ≡ option_map (lows_of s) before
    → now ≡ lows_of s st → (if seen then left_count low now else 0) ≡ up_of s before st
unfolding up_of
up-seen s true low now None st shows is = cc
up-seen s true low now (Some before) st shows is =
    let was : low ≡ lows_of s before = cc in
    ap₂ left_count was is ∙ left-lows s before st
up-seen s false low now None st shows is = refl
up-seen s false low now (Some before) st shows is = cc

-- and who went down
pub down-seen : (s : SceneValue) (seen : Bool) (low now : List Bool) (before : Option State) (st : State) → (if seen then Some low else None) ≡ option_map (lows_of s) before
    → now ≡ lows_of s st → (if seen then left_count now low else 0) ≡ down_of s before st
unfolding down_of
down-seen s true low now None st shows is = cc
down-seen s true low now (Some before) st shows is =
    let was : low ≡ lows_of s before = cc in
    ap₂ left_count is was ∙ left-lows s st before
down-seen s false low now None st shows is = refl
down-seen s false low now (Some before) st shows is = cc

-- ---- the flags, one after the other

-- one more clump was flagged
pub lows-more : (s : SceneValue) (st : State) (k : ℕ) (flags : List Bool) (b : Bool) → k < length flags → take k flags ≡ map (is_low s st) (range_with_len 0 k) → b ≡ is_low s st k
    → take (k + 1) (set flags k b) ≡ map (is_low s st) (range_with_len 0 (k + 1))
lows-more s st k flags b lt before is =
    take_more_set flags k b lt
    ∙ ap₂ (λ (xs : List Bool) (x : Bool). xs ++ x ∷ []) before is
    ∙ sym (map-range_with_len_more (is_low s st) 0 k k (zero-add k))

-- all clumps were flagged
pub lows-all : (s : SceneValue) (st : State) (k : ℕ) (flags : List Bool) → length flags ≡ length s.clumps → k ≡ length s.clumps → take k flags ≡ map (is_low s st) (range_with_len 0 k)
    → flags ≡ lows_of s st
unfolding lows_of
lows-all s st k flags size all before =
    sym (take_all k flags (omega arith)) ∙ before ∙ ap (λ n. map (is_low s st) (range_with_len 0 n)) all

-- ---- how many flags are left, one after the other

-- a clump with the first flag and not the second
pub left-more : (low high : List Bool) (k count : ℕ) → count ≡ count_by (λ j. flag_at low j && not (flag_at high j)) (range_with_len 0 k) → flag_at low k ≡ true → flag_at high k ≡ false
    → count + 1 ≡ count_by (λ j. flag_at low j && not (flag_at high j)) (range_with_len 0 (k + 1))
left-more low high k count before is isnt =
    sum-more (λ j. cond (flag_at low j && not (flag_at high j)) 1 0) k count 1 before (sym (ap₂ (λ (x y : Bool). cond (x && not y) 1 0) is isnt))

-- a clump with both flags
pub both-kept : (low high : List Bool) (k count : ℕ) → count ≡ count_by (λ j. flag_at low j && not (flag_at high j)) (range_with_len 0 k) → flag_at low k ≡ true → flag_at high k ≡ true
    → count ≡ count_by (λ j. flag_at low j && not (flag_at high j)) (range_with_len 0 (k + 1))
both-kept low high k count before is is_too =
    sym (add-zero count) ∙ sum-more (λ j. cond (flag_at low j && not (flag_at high j)) 1 0) k count 0 before (sym (ap₂ (λ (x y : Bool). cond (x && not y) 1 0) is is_too))

-- a clump without the first
pub other-kept : (low high : List Bool) (k count : ℕ) → count ≡ count_by (λ j. flag_at low j && not (flag_at high j)) (range_with_len 0 k) → flag_at low k ≡ false
    → count ≡ count_by (λ j. flag_at low j && not (flag_at high j)) (range_with_len 0 (k + 1))
other-kept low high k count before isnt =
    sym (add-zero count) ∙ sum-more (λ j. cond (flag_at low j && not (flag_at high j)) 1 0) k count 0 before (sym (ap (λ (x : Bool). cond (x && not (flag_at high k)) 1 0) isnt))
