-- Words by number, from any state on.
use Rattle.std.proofs.Common.{◌≡◌, ℕ, zero, suc, ◌+◌, refl, ap, ◌∙◌, arith}
use Rattle.rand_xoshiro.specs.SplitMix64.{mix_u64}
use Rattle.dem_model.specs.Made.{state_after, word_of}

-- the state after some words and then some more
pub after_more : (words a b : ℕ) → state_after (state_after words a) b ≡ state_after words (a + b)
unfolding state_after
after_more words a zero = ap (state_after words) (omega arith)
after_more words a (suc b) =
    let next : suc (a + b) ≡ a + suc b = omega arith in
    ap (λ x. (mix_u64 x).1) (after_more words a b) ∙ ap (state_after words) next

-- a word after some words
pub word_later : (words a b : ℕ) → word_of (state_after words a) b ≡ word_of words (a + b)
unfolding word_of
word_later words a b = ap (λ x. (mix_u64 x).0) (after_more words a b)

pub ruleset words = (after_more, word_later)

-- no word was drawn
pub none_yet : (words : ℕ) → words ≡ state_after words 0
unfolding state_after
none_yet words = refl
