-- Finding where the last row begins.
use Rattle.std.proofs.Common.{◌≡◌, ℕ, zero, suc, ◌+◌, ◌==◌, ◌≤◌, ◌<◌, Bool, true, false, cond, List, [], ◌∷◌, ◌++◌, length, take, refl, sym, ap, ◌∙◌, arith, append_assoc, append-nil, length-append, get_or}
use Rattle.std.proofs.lemmas.Bool.{ne_eqb}
use Rattle.std.proofs.lemmas.List.{take_more, length-take-le}
use Rattle.dem_check.specs.Rows.{joined, rows_of}
use Rattle.dem_check.specs.Cuts.{HasNoNewline, IsCut}

row-ended : (tail xs : List ℕ) → HasNoNewline tail → rows_of (tail ++ 10 ∷ xs) ≡ (tail ++ 10 ∷ []) ∷ rows_of xs
unfolding rows_of
row-ended [] xs plain = refl
row-ended (c ∷ cs) xs plain = rw (plain.0) (ap (joined c) (row-ended cs xs plain.1))

no-newline-more : (tail : List ℕ) (c : ℕ) → HasNoNewline tail → (c == 10) ≡ false → HasNoNewline (tail ++ c ∷ [])
no-newline-more [] c plain other = (other, tt)
no-newline-more (d ∷ ds) c plain other = (plain.0, no-newline-more ds c plain.1 other)

no-rows : rows_of [] ≡ []
unfolding rows_of
no-rows = refl

pub IsCut-start : (bytes : List ℕ) → IsCut bytes 0 0 0
IsCut-start bytes = record {
  head = [];
  tail = [];
  parts = refl;
  starts = refl;
  count = ap length (sym no-rows);
  whole = λ xs. ap (λ l. l ++ rows_of xs) (sym no-rows);
  plain = tt;
}

module _ (bytes : List ℕ) (start rows p c : ℕ) (cut : IsCut bytes start rows p) (next : take (p + 1) bytes ≡ take p bytes ++ c ∷ []) where
  -- one byte more, which isn't a newline
  pub IsCut-more : (c == 10) ≡ false → IsCut bytes start rows (p + 1)
  IsCut-more other = record {
    head = cut.head;
    tail = cut.tail ++ c ∷ [];
    parts = next ∙ ap (λ l. l ++ c ∷ []) cut.parts ∙ append_assoc cut.head cut.tail (c ∷ []);
    starts = cut.starts;
    count = cut.count;
    whole = cut.whole;
    plain = no-newline-more cut.tail c cut.plain other;
  }

  -- a newline more
  pub IsCut-newline : c ≡ 10 → length (take (p + 1) bytes) ≡ p + 1 → IsCut bytes (p + 1) (rows + 1) (p + 1)
  IsCut-newline is full =
      let head = cut.head ++ (cut.tail ++ 10 ∷ []) in
      let all : take (p + 1) bytes ≡ head = next ∙ ap (λ d. take p bytes ++ d ∷ []) is ∙ ap (λ l. l ++ 10 ∷ []) cut.parts ∙ append_assoc cut.head cut.tail (10 ∷ []) in
      let one : rows_of (cut.tail ++ 10 ∷ []) ≡ (cut.tail ++ 10 ∷ []) ∷ [] = row-ended cut.tail [] cut.plain ∙ ap (λ l. (cut.tail ++ 10 ∷ []) ∷ l) no-rows in
      let rows_are : rows_of head ≡ rows_of cut.head ++ (cut.tail ++ 10 ∷ []) ∷ [] = cut.whole (cut.tail ++ 10 ∷ []) ∙ ap (λ l. rows_of cut.head ++ l) one in
      record {
        head = head;
        tail = [];
        parts = all ∙ sym (append-nil head);
        starts = sym full ∙ ap length all;
        count = omega (arith, cut.count, ap length rows_are, length-append (rows_of cut.head) ((cut.tail ++ 10 ∷ []) ∷ []));
        whole = λ xs.
            ap rows_of (append_assoc cut.head (cut.tail ++ 10 ∷ []) xs ∙ ap (λ l. cut.head ++ l) (append_assoc cut.tail (10 ∷ []) xs))
            ∙ cut.whole (cut.tail ++ 10 ∷ xs)
            ∙ ap (λ l. rows_of cut.head ++ l) (row-ended cut.tail xs cut.plain)
            ∙ sym (append_assoc (rows_of cut.head) ((cut.tail ++ 10 ∷ []) ∷ []) (rows_of xs))
            ∙ ap (λ l. l ++ rows_of xs) (sym rows_are);
        plain = tt;
      }

module _ (bytes : List ℕ) (start rows i d : ℕ) (below : i < length bytes) (so_far : IsCut bytes start rows i × (rows ≤ i)) where
  next : take (i + 1) bytes ≡ take i bytes ++ get_or bytes i d ∷ []
  next = take_more bytes i d below

  -- a newline was read
  pub cut-newline : (start_now rows_now : ℕ) → get_or bytes i d ≡ 10 → start_now ≡ i + 1 → rows_now ≡ rows + 1 → IsCut bytes start_now rows_now (i + 1) × (rows_now ≤ i + 1)
  cut-newline start_now rows_now is starts more = (
    rw (starts, more) (IsCut-newline bytes start rows i (get_or bytes i d) so_far.0 next is (length-take-le (i + 1) bytes (omega arith))),
    omega (arith, so_far.1),
  )

  -- another byte was read
  pub cut-more : (start_now rows_now : ℕ) → (get_or bytes i d ≡ 10 → ⊥) → start_now ≡ start → rows_now ≡ rows → IsCut bytes start_now rows_now (i + 1) × (rows_now ≤ i + 1)
  cut-more start_now rows_now other starts same = (
    rw (starts, same) (IsCut-more bytes start rows i (get_or bytes i d) so_far.0 next (ne_eqb (get_or bytes i d) 10 other)),
    omega (arith, so_far.1),
  )
