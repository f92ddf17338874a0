-- The first row of a text.
use Rattle.std.proofs.Common.{◌≡◌, ℕ, zero, suc, ◌+◌, ◌==◌, ◌≤◌, ◌<◌, Bool, true, false, cond, List, [], ◌∷◌, ◌++◌, length, take, Option, None, Some, slice_get, unwrap_or, option_map, option_and_then, refl, sym, ap, ap₂, ◌∙◌, subst, get_or, arith}
use Rattle.std.proofs.Math.Seq.{take-nil}
use Rattle.std.proofs.lemmas.Bool.{ne_eqb}
use Rattle.std.proofs.lemmas.List.{take_more}
use Rattle.dem_check.specs.Rows.{joined, line_of, rows_of}
use Rattle.dem_check.specs.Cuts.{HasNoNewline}
use Rattle.dem_check.specs.Verdicts.{DiffersFirst, line_at}
use Rattle.dem_check.specs.declared.verdict.Line.{Line}

-- a text up to its first newline, and with it
unfoldable pub row_to : List ℕ → List ℕ
row_to [] = []
row_to (c ∷ cs) = cond (c == 10) (c ∷ []) (c ∷ row_to cs)

abbrev pub first_row : List ℕ → Option (List ℕ)
first_row [] = None
first_row (c ∷ cs) = Some (row_to (c ∷ cs))

joined-first : (c : ℕ) (rows : List (List ℕ)) → slice_get (joined c rows) 0 ≡ Some (c ∷ unwrap_or (slice_get rows 0) [])
joined-first c [] = refl
joined-first c (row ∷ rows) = refl

first-or : (xs : List ℕ) → unwrap_or (first_row xs) [] ≡ row_to xs
unfolding row_to
first-or [] = refl
first-or (c ∷ cs) = refl

pub rows-first : (xs : List ℕ) → slice_get (rows_of xs) 0 ≡ first_row xs
unfolding rows_of row_to
rows-first [] = refl
rows-first (c ∷ cs) = go (c == 10) (rows-first cs)
  where
    go : (b : Bool) → slice_get (rows_of cs) 0 ≡ first_row cs → slice_get (cond b ((c ∷ []) ∷ rows_of cs) (joined c (rows_of cs))) 0 ≡ Some (cond b (c ∷ []) (c ∷ row_to cs))
    go true first = refl
    go false first = joined-first c (rows_of cs) ∙ ap (λ o. Some (c ∷ unwrap_or o [])) first ∙ ap (λ r. Some (c ∷ r)) (first-or cs)

to-first : (ys : List ℕ) → slice_get (row_to ys) 0 ≡ slice_get ys 0
unfolding row_to
to-first [] = refl
to-first (y ∷ ys) = go (y == 10)
  where
    go : (b : Bool) → slice_get (cond b (y ∷ []) (y ∷ row_to ys)) 0 ≡ Some y
    go true = refl
    go false = refl

-- the first row goes on behind a tail without a newline
to-through : (tail ys : List ℕ) → HasNoNewline tail → slice_get (row_to (tail ++ ys)) (length tail) ≡ slice_get ys 0
unfolding row_to
to-through [] ys plain = to-first ys
to-through (c ∷ cs) ys plain = rw (plain.0) (to-through cs ys plain.1)

at-tail : (tail ys : List ℕ) → HasNoNewline tail → option_and_then (λ r. slice_get r (length tail)) (first_row (tail ++ ys)) ≡ slice_get ys 0
at-tail [] [] plain = refl
at-tail [] (y ∷ ys) plain = to-first (y ∷ ys)
at-tail (c ∷ cs) ys plain = to-through (c ∷ cs) ys plain

-- where two texts part behind a tail without a newline, their first rows differ
pub rows-differ : (tail ys zs : List ℕ) → HasNoNewline tail → (slice_get ys 0 ≡ slice_get zs 0 → ⊥) → slice_get (rows_of (tail ++ ys)) 0 ≡ slice_get (rows_of (tail ++ zs)) 0 → ⊥
rows-differ tail ys zs plain parts same =
    parts
    (sym (at-tail tail ys plain)
    ∙ ap (option_and_then (λ r. slice_get r (length tail))) (sym (rows-first (tail ++ ys)) ∙ same ∙ rows-first (tail ++ zs))
    ∙ at-tail tail zs plain)

pub behind : (front back : List (List ℕ)) → slice_get (front ++ back) (length front) ≡ slice_get back 0
behind [] back = refl
behind (r ∷ rs) back = behind rs back

before : (front back : List (List ℕ)) → take (length front) (front ++ back) ≡ front
before [] back = refl
before (r ∷ rs) back = ap (λ l. r ∷ l) (before rs back)

-- rows behind the same rows
pub differs : (front kept found : List (List ℕ)) → (slice_get kept 0 ≡ slice_get found 0 → ⊥) → DiffersFirst (front ++ kept) (front ++ found) (length front)
differs front kept found parts = record {
  before = before front kept ∙ sym (before front found);
  here = λ same. parts (sym (behind front kept) ∙ same ∙ behind front found);
}

-- ---- lines

line-to : (xs : List ℕ) → line_of (row_to xs) ≡ line_of xs
unfolding row_to line_of
line-to [] = refl
line-to (c ∷ cs) = go (c == 10) refl (line-to cs)
  where
    go : (b : Bool) → (c == 10) ≡ b → line_of (row_to cs) ≡ line_of cs → line_of (cond b (c ∷ []) (c ∷ row_to cs)) ≡ cond b [] (c ∷ line_of cs)
    go true e same = rw e refl
    go false e same = rw e (ap (λ l. c ∷ l) same)

pub line-through : (tail ys : List ℕ) → HasNoNewline tail → line_of (tail ++ ys) ≡ tail ++ line_of ys
unfolding line_of
line-through [] ys plain = refl
line-through (c ∷ cs) ys plain = rw (plain.0) (ap (λ l. c ∷ l) (line-through cs ys plain.1))

abbrev pub as_line : List ℕ → Line
as_line row = record { text = line_of row }

line-first : (xs : List ℕ) → line_at xs 0 ≡ option_map as_line (first_row xs)
line-first xs = ap (option_map as_line) (rows-first xs)

-- a text that isn't empty has a first row
some-row : (c : ℕ) (cs : List ℕ) → line_at (c ∷ cs) 0 ≡ Some (as_line (c ∷ cs))
some-row c cs = line-first (c ∷ cs) ∙ ap (λ l. Some (record { text = l })) (line-to (c ∷ cs))

pub has-row : (xs : List ℕ) → (length xs ≡ 0 → ⊥) → line_at xs 0 ≡ Some (as_line xs)
has-row [] some = absurd (some refl)
has-row (c ∷ cs) some = some-row c cs

-- there is no row
pub no_row : (tail more : List ℕ) → length tail ≡ 0 → length more ≡ 0 → None ≡ line_at (tail ++ more) 0
unfolding rows_of
no_row [] [] a b = refl
no_row (c ∷ cs) more a b = absurd (omega arith)
no_row [] (c ∷ cs) a b = absurd (omega arith)

-- the row of a tail and what follows it
pub one_row : (tail more : List ℕ) (line : Line) → HasNoNewline tail → (length (tail ++ more) ≡ 0 → ⊥) → line.text ≡ tail ++ line_of more → Some line ≡ line_at (tail ++ more) 0
one_row tail more line plain some is =
    ap (λ l. Some (record { text = l })) (is ∙ sym (line-through tail more plain)) ∙ sym (has-row (tail ++ more) some)

-- a line has no newline
pub line-plain : (xs : List ℕ) → HasNoNewline (line_of xs)
unfolding line_of
line-plain [] = tt
line-plain (c ∷ cs) = go (c == 10) refl (line-plain cs)
  where
    go : (b : Bool) → (c == 10) ≡ b → HasNoNewline (line_of cs) → HasNoNewline (cond b [] (c ∷ line_of cs))
    go true e plain = tt
    go false e plain = (e, plain)

-- what stands behind a row that is ended doesn't matter
pub line-ended : (row xs : List ℕ) → HasNoNewline row → line_of (row ++ 10 ∷ xs) ≡ row
unfolding line_of
line-ended [] xs plain = refl
line-ended (c ∷ cs) xs plain = rw (plain.0) (ap (λ l. c ∷ l) (line-ended cs xs plain.1))

pub plain-append : (xs ys : List ℕ) → HasNoNewline xs → HasNoNewline ys → HasNoNewline (xs ++ ys)
plain-append [] ys a b = b
plain-append (c ∷ cs) ys a b = (a.0, plain-append cs ys a.1 b)

-- a text without a newline is its line
pub line-whole : (xs : List ℕ) → HasNoNewline xs → xs ≡ line_of xs
unfolding line_of
line-whole [] plain = refl
line-whole (c ∷ cs) plain = rw (plain.0) (ap (λ l. c ∷ l) (line-whole cs plain.1))

-- the first n bytes are the line, where they have no newline and one or the end follows
pub line-of-take : (xs : List ℕ) (n : ℕ) → HasNoNewline (take n xs) → (n < length xs → slice_get xs n ≡ Some 10) → n ≤ length xs → take n xs ≡ line_of xs
unfolding line_of
line-of-take [] n plain next within = take-nil n
line-of-take (c ∷ cs) zero plain next within =
    let is : c ≡ 10 = ap (λ o. unwrap_or o 0) (next (omega arith)) in
    rw is refl
line-of-take (c ∷ cs) (suc n) plain next within =
    rw (plain.0) (ap (λ l. c ∷ l) (line-of-take cs n plain.1 (λ lt. next (omega arith)) (omega arith)))

-- one byte more, which isn't a newline
pub plain-next : (xs : List ℕ) (n d : ℕ) → n < length xs → (get_or xs n d ≡ 10 → ⊥) → HasNoNewline (take n xs) → HasNoNewline (take (n + 1) xs)
plain-next xs n d below other plain =
    subst HasNoNewline (sym (take_more xs n d below)) (plain-append (take n xs) (get_or xs n d ∷ []) plain (ne_eqb (get_or xs n d) 10 other, tt))
