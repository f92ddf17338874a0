-- The lists of a made scene, one element more.
use Rattle.std.proofs.Common.{◌≡◌, ℕ, ◌+◌, ◌*◌, ◌≤◌, List, [], ◌∷◌, ◌++◌, map, refl, sym, ap, ◌∙◌, arith}
use Rattle.std.specs.List.{range_with_len}
use Rattle.std.proofs.lemmas.List.FromFn.{map-range_with_len_more}
use Rattle.dem_model.specs.declared.shape.Template.{Template}
use Rattle.dem_model.specs.declared.state.Clump.{Clump}
use Rattle.dem_model.specs.Made.{made_clump, made_clumps, made_template, made_templates, state_after}
use Rattle.dem_gen.proofs.WordFacts.{after_more}

-- the first n templates
unfoldable pub first_templates : (words n : ℕ) → List Template
first_templates words n = map (λ j. made_template (state_after words j)) (range_with_len 0 n)

pub no_templates : (words : ℕ) → [] ≡ first_templates words 0
unfolding first_templates
no_templates words = refl

pub all_templates : (words : ℕ) → first_templates words 4 ≡ made_templates words
unfolding first_templates made_templates
all_templates words = refl

pub more_templates : (words now n : ℕ) (made : List Template) (next : Template) → made ≡ first_templates words n → now ≡ state_after words n → next ≡ made_template now
    → made ++ next ∷ [] ≡ first_templates words (n + 1)
unfolding first_templates
more_templates words now n made next so_far at is =
    ap (λ l. l ++ next ∷ []) so_far ∙ ap (λ t. first_templates words n ++ t ∷ []) (is ∙ ap made_template at)
    ∙ sym (map-range_with_len_more (λ j. made_template (state_after words j)) 0 n n (omega arith))

pub no_clumps : (words edge : ℕ) → [] ≡ made_clumps words edge 0
unfolding made_clumps
no_clumps words edge = refl

pub more_clumps : (words edge now n : ℕ) (made : List Clump) (next : Clump) → made ≡ made_clumps words edge n → now ≡ state_after words (7 * n) → next ≡ made_clump now edge n
    → made ++ next ∷ [] ≡ made_clumps words edge (n + 1)
unfolding made_clumps
more_clumps words edge now n made next so_far at is =
    ap (λ l. l ++ next ∷ []) so_far ∙ ap (λ c. made_clumps words edge n ++ c ∷ []) (is ∙ ap (λ w. made_clump w edge n) at)
    ∙ sym (map-range_with_len_more (λ i. made_clump (state_after words (7 * i)) edge i) 0 n n (omega arith))

-- the state after one template more
pub one_later : (words now n next : ℕ) → now ≡ state_after words n → next ≡ state_after now 1 → next ≡ state_after words (n + 1)
one_later words now n next at is = is ∙ ap (λ w. state_after w 1) at ∙ after_more words n 1

-- the state after one clump more
pub seven_later : (words now n next : ℕ) → now ≡ state_after words (7 * n) → next ≡ state_after now 7 → next ≡ state_after words (7 * (n + 1))
seven_later words now n next at is =
    let more : 7 * n + 7 ≡ 7 * (n + 1) = omega arith in
    is ∙ ap (λ w. state_after w 7) at ∙ after_more words (7 * n) 7 ∙ ap (state_after words) more

-- all four templates were made
pub all_made : (words n : ℕ) (made : List Template) → n ≤ 4 → 4 ≤ n → made ≡ first_templates words n → made ≡ made_templates words
all_made words n made most least is =
    let four : n ≡ 4 = omega arith in
    is ∙ ap (first_templates words) four ∙ all_templates words
