-- Where the mark is in an input that was put together: a text, the line of the mark, and what stands behind it.
use Rattle.std.proofs.Common.{◌≡◌, ◌≤◌, ◌<◌, ◌+◌, ◌-◌, ◌==◌, ◌&&◌, ◌||◌, ℕ, zero, suc, Bool, true, false, List, [], ◌∷◌, ◌++◌, length, take, drop, get_or, find, nat_le, cond, None, Some, refl, sym, ap, ◌∙◌, ⊎_elim, length-append, length-drop, arith}
use Rattle.std.specs.List.{list_any, range_with_len}
use Rattle.std.specs.Str.{bytes_eq}
use Rattle.std.proofs.Math.Seq.{take-append_seam, drop-append_seam, drop-append-add, get_or-append_seam}
use Rattle.std.proofs.lemmas.Bool.{cases_lt, lt-leb}
use Rattle.std.proofs.lemmas.Bool.Decides.{Decides-eqb}
use Rattle.std.proofs.lemmas.Slice.Eq.{bytes_eq-Decides}
use Rattle.std.proofs.lemmas.List.{get_or-append-add, get_or-drop, get_or-take, get_or_append_left, drop-append-le, take-append-le}
use Rattle.dem_jobs.specs.Marks.{begins_line, ends_line, is_mark_at, mark_in, behind}

-- ---- tests

-- a test of what isn't so says no
says-no : {P : Type 0} → (b : Bool) → (b ≡ true → P) × (P → b ≡ true) → (P → ⊥) → b ≡ false
says-no true decides not_so = absurd (not_so (decides.0 refl))
says-no false decides not_so = refl

-- bytes are the same exactly where their test says so
pub same_bytes : (xs ys : List ℕ) → xs ≡ ys → bytes_eq xs ys ≡ true
same_bytes xs ys same = (bytes_eq-Decides xs ys).1 same

pub other_bytes : (xs ys : List ℕ) → (xs ≡ ys → ⊥) → bytes_eq xs ys ≡ false
other_bytes xs ys other = says-no (bytes_eq xs ys) (bytes_eq-Decides xs ys) other

or_true : (a b : Bool) → b ≡ true → a || b ≡ true
or_true true b is = refl
or_true false b is = is

or_false : (a b : Bool) → a || b ≡ false → (a ≡ false) × (b ≡ false)
or_false true b is = absurd (cc)
or_false false b is = (refl, is)

and_false : (a b c : Bool) → b ≡ false → a && (b && c) ≡ false
and_false true b c is = ap (λ x. x && c) is
and_false false b c is = refl

-- no byte is this one
pub none_is : (x : ℕ) (bytes : List ℕ) → list_any (λ c. c == x) bytes ≡ false → 0 < x → (k : ℕ) → get_or bytes k 0 ≡ x → ⊥
none_is x [] none some k is = omega (arith, is)
none_is x (b ∷ bytes) none some zero is = absurd (let no = (or_false (b == x) (list_any (λ c. c == x) bytes) none).0 in let yes = (Decides-eqb b x).1 is in cc)
none_is x (b ∷ bytes) none some (suc k) is = none_is x bytes (or_false (b == x) (list_any (λ c. c == x) bytes) none).1 some k is

-- ---- the first number that passes

-- the search passes over what fails
find-first : (test : ℕ → Bool) (a j m : ℕ) → ((i : ℕ) → i < j → test (a + i) ≡ false) → test (a + j) ≡ true → j < m → find test (range_with_len a m) ≡ Some (a + j)
find-first test a j zero fails passes short = absurd (omega arith)
find-first test a zero (suc m) fails passes short =
    let here : a + 0 ≡ a = omega arith in
    ap (λ b. cond b (Some a) (find test (range_with_len (a + 1) m))) (ap test (sym here) ∙ passes) ∙ ap Some (sym here)
find-first test a (suc j) (suc m) fails passes short =
    let here : a + 0 ≡ a = omega arith in
    let there : a + suc j ≡ a + 1 + j = omega arith in
    ap (λ b. cond b (Some a) (find test (range_with_len (a + 1) m))) (ap test (sym here) ∙ fails 0 (omega arith))
    ∙ find-first test (a + 1) j m (λ i lt. let next : a + 1 + i ≡ a + suc i = omega arith in ap test next ∙ fails (suc i) (omega arith)) (ap test (sym there) ∙ passes) (omega arith)
    ∙ ap Some (sym there)

-- where it finds nothing, each fails
find-none : (test : ℕ → Bool) (a m : ℕ) → find test (range_with_len a m) ≡ None → (i : ℕ) → i < m → test (a + i) ≡ false
find-none test a zero none i lt = absurd (omega arith)
find-none test a (suc m) none i lt = by (test a) refl none i lt (find-none test (a + 1) m) where
  by : (b : Bool) → test a ≡ b → cond b (Some a) (find test (range_with_len (a + 1) m)) ≡ None → (i : ℕ) → i < suc m
      → (find test (range_with_len (a + 1) m) ≡ None → (i : ℕ) → i < m → test (a + 1 + i) ≡ false) → test (a + i) ≡ false
  by true is none i lt later = absurd (cc)
  by false is none zero lt later = let here : a + 0 ≡ a = omega arith in ap test here ∙ is
  by false is none (suc i) lt later = let next : a + suc i ≡ a + 1 + i = omega arith in ap test next ∙ later none i (omega arith)

-- ---- the mark behind a text

-- a line begins behind a newline
begins-after : (bytes : List ℕ) (i : ℕ) → begins_line bytes (suc i) ≡ (get_or bytes i 0 == 10)
unfolding begins_line
begins-after bytes i =
    let later : (suc i == 0) ≡ false = says-no (suc i == 0) (Decides-eqb (suc i) 0) (λ e. omega (arith, e)) in
    let before : suc i - 1 ≡ i = omega arith in
    rw (later, before) refl

module _ (mark text rows : List ℕ) where
  abbrev more : List ℕ
  more = mark ++ (10 ∷ rows)

  abbrev whole : List ℕ
  whole = text ++ more

  -- the text stands before it, and the rows behind it
  pub before-mark : take (length text) whole ≡ text
  before-mark = take-append_seam text more

  pub behind-mark : behind mark whole (length text) ≡ rows
  behind-mark = drop-append-add text more (length mark + 1) ∙ drop-append-add mark (10 ∷ rows) 1

  -- up to its end lines begin where those of the text do
  begins-same : (i : ℕ) → i ≤ length text → begins_line whole i ≡ begins_line text i
  unfolding begins_line
  begins-same zero le = refl
  begins-same (suc i) le = begins-after whole i ∙ ap (λ (c : ℕ). c == 10) (get_or_append_left text more 0 i (omega arith)) ∙ sym (begins-after text i)

  -- the line of the mark is the mark
  mark-here : begins_line text (length text) ≡ true → is_mark_at mark whole (length text) ≡ true
  unfolding is_mark_at ends_line
  mark-here ended =
      let begins : begins_line whole (length text) ≡ true = begins-same (length text) (omega arith) ∙ ended in
      let is : take (length mark) (drop (length text) whole) ≡ mark = ap (take (length mark)) (drop-append_seam text more) ∙ take-append_seam mark (10 ∷ rows) in
      let same : bytes_eq mark (take (length mark) (drop (length text) whole)) ≡ true = ap (bytes_eq mark) is ∙ same_bytes mark mark refl in
      let next : get_or whole (length text + length mark) 0 ≡ 10 = get_or-append-add text more (length mark) 0 ∙ get_or-append_seam mark 10 rows 0 in
      rw (begins, same, next) (or_true _ true refl)

  -- a text that has bytes and ends with its last line has a newline at its end
  last-newline : (n : ℕ) → 0 < n → begins_line text n ≡ true → get_or text (n - 1) 0 ≡ 10
  last-newline zero some ended = absurd (omega arith)
  last-newline (suc n) some ended =
      let before : suc n - 1 ≡ n = omega arith in
      ap (λ k. get_or text k 0) before ∙ (Decides-eqb (get_or text n 0) 10).0 (sym (begins-after text n) ∙ ended)

  -- a line that ends inside the text is the mark where it is that of the text
  inside-same : (i : ℕ) → i + length mark < length text → is_mark_at mark whole i ≡ is_mark_at mark text i
  unfolding is_mark_at ends_line
  inside-same i lt =
      let at = i + length mark in
      let room : length mark ≤ length (drop i text) = omega (arith, length-drop i text) in
      let more_long = length-append text more in
      let part : take (length mark) (drop i whole) ≡ take (length mark) (drop i text) = ap (take (length mark)) (drop-append-le i text more (omega arith)) ∙ take-append-le (length mark) (drop i text) more room in
      let next : get_or whole at 0 ≡ get_or text at 0 = get_or_append_left text more 0 at lt in
      let within : nat_le (length whole) at ≡ false = lt-leb (length whole) at (omega (arith, more_long)) in
      let inside : nat_le (length text) at ≡ false = lt-leb (length text) at lt in
      rw (begins-same i (omega arith), part, next, within, inside) refl

  -- a line that begins in the text and ends behind it isn't the mark, which is one line
  across-none : ((k : ℕ) → get_or mark k 0 ≡ 10 → ⊥) → begins_line text (length text) ≡ true → (i : ℕ) → i < length text → length text ≤ i + length mark → is_mark_at mark whole i ≡ false
  unfolding is_mark_at
  across-none plain ended i lt le =
      let k = length text - 1 - i in
      let short : k < length mark = omega arith in
      let there : i + k ≡ length text - 1 = omega arith in
      let newline : get_or whole (i + k) 0 ≡ 10 =
      ap (λ n. get_or whole n 0) there ∙ get_or_append_left text more 0 (length text - 1) (omega arith) ∙ last-newline (length text) (omega arith) ended in
      let read : get_or (take (length mark) (drop i whole)) k 0 ≡ 10 = get_or-take (length mark) (drop i whole) k 0 short ∙ get_or-drop i whole k 0 ∙ newline in
      and_false (begins_line whole i) (bytes_eq mark (take (length mark) (drop i whole))) (ends_line whole (i + length mark))
      (other_bytes mark (take (length mark) (drop i whole)) (λ same. plain k (ap (λ bytes. get_or bytes k 0) same ∙ read)))

  -- it is the first mark, where the text has none
  pub marked : begins_line text (length text) ≡ true → ((k : ℕ) → get_or mark k 0 ≡ 10 → ⊥) → mark_in mark text ≡ None → mark_in mark whole ≡ Some (length text)
  unfolding mark_in
  marked ended plain none =
      let more_long = length-append text more in
      let from_zero : (i : ℕ) → 0 + i ≡ i = λ i. omega arith in
      let none-here : (i : ℕ) → i < length text → is_mark_at mark text i ≡ false =
      λ i lt. ap (is_mark_at mark text) (sym (from_zero i)) ∙ find-none (is_mark_at mark text) 0 (length text + 1) none i (omega arith) in
      let none-before : (i : ℕ) → i < length text → is_mark_at mark whole i ≡ false =
      λ i lt.
      ⊎_elim (λ (inside : i + length mark < length text). inside-same i inside ∙ none-here i lt) (λ (across : length text ≤ i + length mark). across-none plain ended i lt across)
      (cases_lt (i + length mark) (length text)) in
      find-first (is_mark_at mark whole) 0 (length text) (length whole + 1) (λ i lt. ap (is_mark_at mark whole) (from_zero i) ∙ none-before i lt)
      (ap (is_mark_at mark whole) (from_zero (length text)) ∙ mark-here ended) (omega (arith, more_long))
      ∙ ap Some (from_zero (length text))
