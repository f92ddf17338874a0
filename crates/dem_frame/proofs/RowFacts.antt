-- A row while it is built: what stands in it, and the numbers that are still to come.
use Rattle.std.proofs.Common.{◌≡◌, ℕ, ◌+◌, ◌<◌, ◌≤◌, ℤ, pos, List, [], ◌∷◌, ◌++◌, codes, length, drop, get_or, sym, ap, ◌∙◌, append_assoc, append-nil, add-one, drop-cons}
use Rattle.std.specs.Fmt.{signed_decimal, decimal}
use Rattle.std.specs.List.{flat_map}
use Rattle.std.proofs.lemmas.List.{drop_all}
use Rattle.dem_model.specs.Frames.{number_text, row_text}

-- the row and the texts of the numbers to come are the row's name and the texts of all its numbers
pub record Builds (row name : List ℕ) (rest numbers : List ℤ) : Type 0 where
  pub same : row ++ flat_map number_text rest ≡ name ++ flat_map number_text numbers

-- a comma and the next number were added
pub Builds-more : (row now name : List ℕ) (numbers : List ℤ) (i : ℕ) (d : ℤ) → i < length numbers → Builds row name (drop i numbers) numbers
    → now ≡ (row ++ codes ",") ++ signed_decimal (get_or numbers i d) → Builds now name (drop (i + 1) numbers) numbers
unfolding number_text
Builds-more row now name numbers i d within before added = record {
  same = rw added
      (append_assoc (row ++ codes ",") (signed_decimal (get_or numbers i d)) (flat_map number_text (drop (i + 1) numbers))
      ∙ append_assoc row (codes ",") (signed_decimal (get_or numbers i d) ++ flat_map number_text (drop (i + 1) numbers))
      ∙ ap (λ (l : List ℕ). row ++ l) (sym (append_assoc (codes ",") (signed_decimal (get_or numbers i d)) (flat_map number_text (drop (i + 1) numbers))))
      ∙ (let e : drop i numbers ≡ get_or numbers i d ∷ drop (i + 1) numbers = rw add-one (drop-cons numbers i d within) in rw e at before.same));
}

-- no number is to come
pub Builds-all : (row name : List ℕ) (numbers : List ℤ) (i : ℕ) → length numbers ≤ i → Builds row name (drop i numbers) numbers → row ++ codes "\n" ≡ row_text name numbers
unfolding row_text
Builds-all row name numbers i past before =
    let whole : row ++ [] ≡ name ++ flat_map number_text numbers = rw (drop_all i numbers past) at before.same in
    ap (λ (l : List ℕ). l ++ codes "\n") (sym (append-nil row) ∙ whole)

-- a row of one number
pub row_text-one : (start row now name : List ℕ) (n : ℕ) → start ≡ [] → row ≡ start ++ name → now ≡ (row ++ codes ",") ++ decimal n
    → now ++ codes "\n" ≡ row_text name (pos n ∷ [])
unfolding row_text number_text
row_text-one start row now name n empty named added =
    let begins : row ≡ name = rw empty at named in
    rw (added, begins) (ap (λ (l : List ℕ). l ++ codes "\n") (append_assoc name (codes ",") (decimal n) ∙ ap (λ (l : List ℕ). name ++ l) (sym (append-nil (codes "," ++ decimal n)))))
