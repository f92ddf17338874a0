-- Reading letters one by one.
use Rattle.std.proofs.Common.{◌≡◌, ℕ, suc, ◌+◌, ◌<◌, ◌≤◌, List, [], ◌∷◌, ◌++◌, length, drop, slice_index_or, Option, None, Some, refl, sym, ap, ◌∙◌, arith, append_assoc, append-nil, drop-cons, drop_of_length-le}
use Rattle.std.specs.Option.{option_map, option_and_then}
use Rattle.dem_model.specs.declared.state.Turn.{Turn}
use Rattle.dem_words.specs.Values.{turn_from, turns_from}

-- a reading with these turns before it
abbrev pub with_before : List Turn → Option (List Turn) → Option (List Turn)
with_before before = option_map (λ turns. before ++ turns)

none-before : (o : Option (List Turn)) → with_before [] o ≡ o
none-before None = refl
none-before (Some turns) = refl

one-before : (before : List Turn) (turn : Turn) (o : Option (List Turn)) → with_before before (option_and_then (λ turns. Some (turn ∷ turns)) o) ≡ with_before (before ++ turn ∷ []) o
one-before before turn None = refl
one-before before turn (Some turns) = ap Some (sym (append_assoc before (turn ∷ []) turns))

no-letters : turns_from [] ≡ Some []
unfolding turns_from
no-letters = refl

good-letter : (letter : ℕ) (letters : List ℕ) (turn : Turn) → turn_from letter ≡ Some turn → turns_from (letter ∷ letters) ≡ option_and_then (λ turns. Some (turn ∷ turns)) (turns_from letters)
unfolding turns_from
good-letter letter letters turn is = rw is refl

bad-letter : (letter : ℕ) (letters : List ℕ) → turn_from letter ≡ None → turns_from (letter ∷ letters) ≡ None
unfolding turns_from
bad-letter letter letters is = rw is refl

-- no letter was read
pub turns-start : (letters : List ℕ) → with_before [] (turns_from letters) ≡ turns_from letters
turns-start letters = none-before (turns_from letters)

module _ (before : List Turn) (letters : List ℕ) (i letter : ℕ) (below : i < length letters) (at : letter ≡ slice_index_or letters i letter)
    (so_far : with_before before (turns_from (drop i letters)) ≡ turns_from letters) where
  left : drop i letters ≡ letter ∷ drop (i + 1) letters
  left =
      let next : suc i ≡ i + 1 = omega arith in
      drop-cons letters i letter below ∙ ap (λ l. l ∷ drop (suc i) letters) (sym at) ∙ ap (λ k. letter ∷ drop k letters) next

  -- one letter more was read
  pub turns-more : (turn : Turn) → turn_from letter ≡ Some turn → with_before (before ++ turn ∷ []) (turns_from (drop (i + 1) letters)) ≡ turns_from letters
  turns-more turn is =
      sym (one-before before turn (turns_from (drop (i + 1) letters)))
      ∙ ap (with_before before) (sym (ap turns_from left ∙ good-letter letter (drop (i + 1) letters) turn is))
      ∙ so_far

  -- the letter is that of no turn
  pub turns-bad : turn_from letter ≡ None → turns_from letters ≡ None
  turns-bad is = sym so_far ∙ ap (with_before before) (ap turns_from left ∙ bad-letter letter (drop (i + 1) letters) is)

-- all letters were read
pub turns-done : (before : List Turn) (letters : List ℕ) (i : ℕ) → length letters ≤ i → with_before before (turns_from (drop i letters)) ≡ turns_from letters
    → turns_from letters ≡ Some before
turns-done before letters i past so_far =
    sym so_far ∙ ap (λ l. with_before before (turns_from l)) (drop_of_length-le letters past) ∙ ap (with_before before) no-letters ∙ ap Some (append-nil before)
