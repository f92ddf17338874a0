-- What a put does to a comparison, and what a comparison comes to.
use Rattle.std.proofs.Common.{◌≡◌, ℕ, zero, suc, ◌+◌, ◌-◌, ◌≤◌, ◌<◌, ◌==◌, ◌⊎◌, inl, inr, ⊎_elim, Bool, true, false, List, [], ◌∷◌, ◌++◌, length, take, drop, Option, None, Some, slice_get, option_map, refl, sym, ap, ◌∙◌, subst, arith, append_assoc, append-nil, length-append, true≢false, get_or, Result}
use Rattle.std.proofs.Math.Seq.{take-add, take-length}
use Rattle.std.proofs.lemmas.List.{drop-take, drop_at, take-append-drop, take_all, take_more, take_rest, length-take-le}
use Rattle.std.proofs.lemmas.Bool.{eqb-true}
use Rattle.std.proofs.lemmas.Option.{slice_get_within, get_or_from_slice_get}
use Rattle.dem_check.specs.Rows.{line_of, rows_of}
use Rattle.dem_check.specs.Comparisons.{AreBytes, Comparison, IsComparison, held_of, marked}
use Rattle.dem_check.specs.Cuts.{HasNoNewline, IsCut}
use Rattle.dem_check.specs.Verdicts.{Checks, DiffersFirst, line_at}
use Rattle.dem_check.specs.declared.verdict.Line.{Line}
use Rattle.dem_check.specs.declared.verdict.Verdict.{Verdict}
use Rattle.dem_check.specs.declared.verdict.Verdict.TheVariants.{Same, Differs}
use Rattle.dem_model.specs.declared.list.OutOfMemory.{OutOfMemory}
use Rattle.dem_outside.specs.Faults.{Rose}
use Rattle.std.specs.Prelude.{IfOk}
use Rattle.dem_check.proofs.LineFacts.{as_line, behind, differs, has-row, line-ended, line-plain, plain-append, rows-differ}

-- ---- reading a list behind a place

pub slice_get-drop : (n i : ℕ) (xs : List ℕ) → slice_get (drop n xs) i ≡ slice_get xs (n + i)
slice_get-drop zero i xs = let same : i ≡ 0 + i = omega arith in ap (slice_get xs) same
slice_get-drop (suc n) i [] = refl
slice_get-drop (suc n) i (x ∷ xs) =
    let next : suc (n + i) ≡ suc n + i = omega arith in
    slice_get-drop n i xs ∙ ap (slice_get (x ∷ xs)) next

some-left : (n : ℕ) (xs : List ℕ) → n < length xs → slice_get (drop n xs) 0 ≡ None → ⊥
some-left n [] lt none = absurd (omega arith)
some-left zero (x ∷ xs) lt none = cc
some-left (suc n) (x ∷ xs) lt none = some-left n xs (omega arith) none

none-left : (xs : List ℕ) → length xs ≡ 0 → xs ≡ []
none-left [] e = refl
none-left (x ∷ xs) e = absurd (omega arith)

-- ---- passing over bytes that are the text's

pub held-more : (text rest piece : List ℕ) (at n : ℕ) → rest ≡ [] → take n (drop at text) ≡ take n piece → take (at + n) text ++ rest ≡ (take at text ++ rest) ++ take n piece
held-more text rest piece at n none same =
    rw (none)
    (append-nil (take (at + n) text) ∙ take-add at n text ∙ ap (λ l. take at text ++ l) same ∙ ap (λ l. l ++ take n piece) (sym (append-nil (take at text))))

-- ---- keeping a row that differs

never-nil : (row : List ℕ) → [] ≡ row ++ 10 ∷ [] → ⊥
never-nil [] e = cc
never-nil (c ∷ cs) e = cc

head-of : (x : ℕ) (xs ys : List ℕ) → x ∷ xs ≡ ys → slice_get ys 0 ≡ Some x
head-of x xs ys e = ap (λ l. slice_get l 0) (sym e)

first-taken : (end : ℕ) (piece : List ℕ) (x : ℕ) → slice_get (take end piece) 0 ≡ Some x → slice_get piece 0 ≡ Some x
first-taken zero piece x e = cc
first-taken (suc n) [] x e = e
first-taken (suc n) (y ∷ ys) x e = e

module _ (c : Comparison) (is : IsComparison c) (going : c.whole ≡ false) (piece : List ℕ) (end : ℕ) (parts : c.rest ≡ [] → slice_get c.text c.at ≡ slice_get piece 0 → ⊥) where
  parted-more : (rest : List ℕ) → c.rest ≡ rest → (x : ℕ) (xs : List ℕ) → rest ++ take end piece ≡ x ∷ xs → slice_get c.text c.at ≡ Some x → ⊥
  parted-more [] none x xs e at = parts none (at ∙ sym (first-taken end piece x (head-of x xs (take end piece) (sym e))))
  parted-more (y ∷ ys) some x xs e at =
      let same : y ≡ x = some-is (ap (λ l. slice_get l 0) e) in
      is.parted y ys some (at ∙ ap Some (sym same))
    where
      some-is : {a b : ℕ} → Some a ≡ Some b → a ≡ b
      some-is e = cc

  -- a piece without a newline
  pub kept-going : (faults : ℕ) → faults ≡ c.faults → HasNoNewline (take end piece) → IsComparison (record c { rest = c.rest ++ take end piece; faults = faults })
  kept-going faults same plain = record {
    bytes = is.bytes;
    within = is.within;
    parted = parted-more c.rest refl;
    ended = λ whole. absurd (true≢false (sym whole ∙ going));
    going = λ _. plain-append c.rest (take end piece) (is.going going) plain;
    stops = subst (λ n. (n ≡ 0) ⊎ ((c.whole ≡ true) ⊎ (c.short ≡ true))) (sym same) is.stops;
  }

  -- a piece in which the row ends
  pub kept-ended : (n faults : ℕ) → end ≡ n + 1 → n < length piece → take n piece ≡ line_of piece → slice_get piece n ≡ Some 10
      → IsComparison (record c { rest = c.rest ++ take end piece; whole = true; faults = faults })
  kept-ended n faults size below line newline =
      let row : take end piece ≡ line_of piece ++ 10 ∷ [] = ap (λ k. take k piece) size ∙ take-newline n piece newline ∙ ap (λ l. l ++ 10 ∷ []) line in
      record {
        bytes = is.bytes;
        within = is.within;
        parted = parted-more c.rest refl;
        ended = λ _. (
          c.rest ++ line_of piece,
          ap (λ l. c.rest ++ l) row ∙ sym (append_assoc c.rest (line_of piece) (10 ∷ [])),
          plain-append c.rest (line_of piece) (is.going going) (line-plain piece),
        );
        going = λ whole. absurd (true≢false whole);
        stops = inr (inl refl);
      }
    where
      take-newline : (n : ℕ) (xs : List ℕ) → slice_get xs n ≡ Some 10 → take (n + 1) xs ≡ take n xs ++ 10 ∷ []
      take-newline n xs e =
          take_more xs n 0 (slice_get_within xs n 10 e) ∙ ap (λ b. take n xs ++ b ∷ []) (get_or_from_slice_get xs n 10 0 e)

-- what was kept is a prefix of the piece
pub held-kept : (text rest piece : List ℕ) (at end : ℕ) → take at text ++ (rest ++ take end piece) ≡ (take at text ++ rest) ++ take end piece
held-kept text rest piece at end = sym (append_assoc (take at text) rest (take end piece))

-- ---- the verdict

module _ (c : Comparison) (is : IsComparison c) where
  empty-going : c.rest ≡ [] → (more : List ℕ) → (more ≡ []) ⊎ (c.whole ≡ true) → more ≡ []
  empty-going none more (inl nil) = nil
  empty-going none more (inr whole) = let row = is.ended whole in absurd (never-nil row.0 (sym none ∙ row.1))

  -- nothing is left on either side
  pub same : (length c.text - c.at) + length c.rest ≡ 0 → (more : List ℕ) → (more ≡ []) ⊎ (c.whole ≡ true) → c.text ≡ held_of c ++ more
  same nothing more rest_is =
      let none : c.rest ≡ [] = none-left c.rest (omega arith) in
      let all : take c.at c.text ≡ c.text = take_all c.at c.text (omega arith) in
      sym (append-nil (held_of c) ∙ ap (λ l. take c.at c.text ++ l) none ∙ append-nil (take c.at c.text) ∙ all) ∙ ap (λ l. held_of c ++ l) (sym (empty-going none more rest_is))

  -- behind what is the same, the text and the output part
  part : (1 ≤ (length c.text - c.at) + length c.rest) → (more : List ℕ) → (more ≡ []) ⊎ (c.whole ≡ true) → (rest : List ℕ) → c.rest ≡ rest → slice_get (drop c.at c.text) 0 ≡ slice_get (rest ++ more) 0 → ⊥
  part some more rest_is [] none e =
      some-left c.at c.text (omega (arith, ap length none)) (e ∙ ap (λ l. slice_get l 0) (empty-going none more rest_is))
  part some more rest_is (x ∷ xs) is-rest e =
      is.parted x xs is-rest (ap (slice_get c.text) zero-more ∙ sym (slice_get-drop c.at 0 c.text) ∙ e)
    where
      zero-more : c.at ≡ c.at + 0
      zero-more = omega arith

  module _ (start rows : ℕ) (cut : IsCut (take c.at c.text) start rows (length (take c.at c.text))) where
    abbrev tail : List ℕ
    tail = cut.tail

    whole-head : take c.at c.text ≡ cut.head ++ tail
    whole-head = sym (take-length (take c.at c.text)) ∙ cut.parts

    -- the bytes that the code takes for the tail
    pub tail-is : take (c.at - start) (drop start c.text) ≡ tail
    tail-is =
        let size : start + (c.at - start) ≡ c.at = omega (arith, cut.starts, ap length whole-head, length-append cut.head tail, length-take-le c.at c.text is.within) in
        sym (drop-take start (c.at - start) c.text) ∙ ap (λ n. drop start (take n c.text)) size ∙ ap (drop start) whole-head ∙ drop_at cut.head tail start (sym cut.starts)

    -- and it has no newline
    pub tail-plain : HasNoNewline (take (c.at - start) (drop start c.text))
    tail-plain = subst HasNoNewline (sym tail-is) cut.plain

    text-is : c.text ≡ cut.head ++ (tail ++ drop c.at c.text)
    text-is = sym (take-append-drop c.at c.text) ∙ ap (λ l. l ++ drop c.at c.text) whole-head ∙ append_assoc cut.head tail (drop c.at c.text)

    module _ (some : 1 ≤ (length c.text - c.at) + length c.rest) (more : List ℕ) (rest_is : (more ≡ []) ⊎ (c.whole ≡ true)) where
      output-is : held_of c ++ more ≡ cut.head ++ (tail ++ (c.rest ++ more))
      output-is =
          append_assoc (take c.at c.text) c.rest more ∙ ap (λ l. l ++ (c.rest ++ more)) whole-head ∙ append_assoc cut.head tail (c.rest ++ more)

      kept-rows : rows_of c.text ≡ rows_of cut.head ++ rows_of (tail ++ drop c.at c.text)
      kept-rows = ap rows_of text-is ∙ cut.whole (tail ++ drop c.at c.text)

      found-rows : rows_of (held_of c ++ more) ≡ rows_of cut.head ++ rows_of (tail ++ (c.rest ++ more))
      found-rows = ap rows_of output-is ∙ cut.whole (tail ++ (c.rest ++ more))

      differ : DiffersFirst (rows_of c.text) (rows_of (held_of c ++ more)) (length (rows_of cut.head))
      differ =
          subst (λ (p : List (List ℕ) × List (List ℕ)). DiffersFirst p.0 p.1 (length (rows_of cut.head))) (λ j. (sym kept-rows j, sym found-rows j))
          (differs (rows_of cut.head) (rows_of (tail ++ drop c.at c.text)) (rows_of (tail ++ (c.rest ++ more)))
          (rows-differ tail (drop c.at c.text) (c.rest ++ more) cut.plain (part some more rest_is c.rest refl)))

      line-behind : (text rows_behind : List ℕ) → rows_of text ≡ rows_of cut.head ++ rows_of rows_behind → line_at text (length (rows_of cut.head)) ≡ line_at rows_behind 0
      line-behind text rows_behind e = ap (λ rs. option_map as_line (slice_get rs (length (rows_of cut.head)))) e ∙ ap (option_map as_line) (behind (rows_of cut.head) (rows_of rows_behind))

      -- the row ends before what comes after it
      rest-line : (more : List ℕ) → (more ≡ []) ⊎ (c.whole ≡ true) → line_at (tail ++ c.rest) 0 ≡ line_at (tail ++ (c.rest ++ more)) 0
      rest-line more (inl nil) = ap (λ l. line_at (tail ++ l) 0) (sym (append-nil c.rest) ∙ ap (λ l. c.rest ++ l) (sym nil))
      rest-line more (inr whole) =
          let row = is.ended whole in
          let short : tail ++ c.rest ≡ (tail ++ row.0) ++ 10 ∷ [] = ap (λ l. tail ++ l) row.1 ∙ sym (append_assoc tail row.0 (10 ∷ [])) in
          let long : tail ++ (c.rest ++ more) ≡ (tail ++ row.0) ++ 10 ∷ more =
          ap (λ l. tail ++ (l ++ more)) row.1 ∙ ap (λ l. tail ++ l) (append_assoc row.0 (10 ∷ []) more) ∙ sym (append_assoc tail row.0 (10 ∷ more)) in
          let plain = plain-append tail row.0 cut.plain row.2 in
          ap (λ l. line_at l 0) short ∙ ended-line (tail ++ row.0) [] plain ∙ sym (ended-line (tail ++ row.0) more plain) ∙ ap (λ l. line_at l 0) (sym long)
        where
          ended-line : (line xs : List ℕ) → HasNoNewline line → line_at (line ++ 10 ∷ xs) 0 ≡ Some (record { text = line })
          ended-line line xs plain =
              has-row (line ++ 10 ∷ xs) (λ e. absurd (omega (arith, e, length-append line (10 ∷ xs)))) ∙ ap (λ l. Some (record { text = l })) (line-ended line xs plain)

      -- the verdict with these rows
      pub verdict-is : (row : ℕ) (kept found : Option Line) → row ≡ rows + 1 → kept ≡ line_at (take (c.at - start) (drop start c.text) ++ drop c.at c.text) 0
          → found ≡ line_at (take (c.at - start) (drop start c.text) ++ c.rest) 0 → Checks c.text (held_of c ++ more) (Differs row kept found)
      verdict-is row kept found number kept_is found_is = (
        length (rows_of cut.head),
        number ∙ ap (λ n. n + 1) cut.count,
        differ,
        kept_is ∙ ap (λ l. line_at (l ++ drop c.at c.text) 0) tail-is ∙ sym (line-behind c.text (tail ++ drop c.at c.text) kept-rows),
        found_is ∙ ap (λ l. line_at (l ++ c.rest) 0) tail-is ∙ rest-line more rest_is ∙ sym (line-behind (held_of c ++ more) (tail ++ (c.rest ++ more)) found-rows),
      )

-- a list whose length is tested to be 0 is empty
pub is-nil : (xs : List ℕ) → (length xs == 0) ≡ true → xs ≡ []
is-nil xs e = none-left xs (eqb-true (length xs) 0 e)

-- ---- the mark

-- more behind the mark
pub marked-more : (text held more now : List ℕ) → now ≡ held ++ more → text ++ 256 ∷ now ≡ (text ++ 256 ∷ held) ++ more
marked-more text held more now is = ap (λ l. text ++ 256 ∷ l) is ∙ sym (append_assoc text (256 ∷ held) more)

pub bytes-from : (xs : List ℕ) → ((i : ℕ) → get_or xs i 0 < 256) → AreBytes xs
bytes-from [] each = tt
bytes-from (x ∷ xs) each = (each 0, bytes-from xs (λ i. each (suc i)))

tail-of : List ℕ → List ℕ
tail-of [] = []
tail-of (x ∷ xs) = xs

head-or : List ℕ → ℕ
head-or [] = 0
head-or (x ∷ xs) = x

-- what stands before the mark and behind it can be told
pub unmarked : (a b xs ys : List ℕ) → AreBytes a → AreBytes b → a ++ 256 ∷ xs ≡ b ++ 256 ∷ ys → (a ≡ b) × (xs ≡ ys)
unfolding tail-of head-or
unmarked [] [] xs ys p q e = (refl, ap tail-of e)
unmarked [] (y ∷ b) xs ys p q e = absurd (let same : 256 ≡ y = ap head-or e in omega (arith, same, q.0))
unmarked (x ∷ a) [] xs ys p q e = absurd (let same : x ≡ 256 = ap head-or e in omega (arith, same, p.0))
unmarked (x ∷ a) (y ∷ b) xs ys p q e =
    let rest = unmarked a b xs ys p.1 q.1 (ap tail-of e) in
    let same : x ≡ y = ap head-or e in
    (ap (λ z. z ∷ a) same ∙ ap (λ l. y ∷ l) rest.0, rest.1)

-- ---- the run

-- the comparison before the run
abbrev pub nothing_put : List ℕ → Comparison
nothing_put text = record { text = text; at = 0; rest = []; whole = false; short = false; faults = 0 }

module _ (text output : List ℕ) (out : Comparison) (r : Result Verdict OutOfMemory) (mine : AreBytes text) (its : AreBytes out.text)
    (verdict : (more : List ℕ) → (more ≡ []) ⊎ (out.whole ≡ true) → IfOk r (Checks out.text (held_of out ++ more))) where
  -- the whole output was put
  pub finished : marked out ≡ marked (nothing_put text) ++ output → IfOk r (Checks text output)
  finished put =
      let parts = unmarked out.text text (held_of out) output its mine (put ∙ append_assoc text (256 ∷ []) output) in
      subst (λ (p : List ℕ × List ℕ). IfOk r (Checks p.0 p.1)) (λ j. (parts.0 j, (append-nil (held_of out) ∙ parts.1) j)) (verdict [] (inl refl))

  -- the run was stopped at a row that differs
  pub stopped : (faults : ℕ) → faults ≡ 0 → Rose faults out.faults → (out.faults ≡ 0) ⊎ ((out.whole ≡ true) ⊎ (out.short ≡ true)) → out.short ≡ false
      → (prefix rest : List ℕ) → prefix ++ rest ≡ output → marked out ≡ marked (nothing_put text) ++ prefix → IfOk r (Checks text output)
  stopped faults none rose stops long prefix rest all put =
      let parts = unmarked out.text text (held_of out) prefix its mine (put ∙ append_assoc text (256 ∷ []) prefix) in
      let whole : out.whole ≡ true = ended stops in
      subst (λ (p : List ℕ × List ℕ). IfOk r (Checks p.0 p.1)) (λ j. (parts.0 j, (ap (λ l. l ++ rest) parts.1 ∙ all) j)) (verdict rest (inr whole))
    where
      ended : (out.faults ≡ 0) ⊎ ((out.whole ≡ true) ⊎ (out.short ≡ true)) → out.whole ≡ true
      ended (inl zero-faults) = absurd (let more = rose.more in omega (arith, none, zero-faults, more))
      ended (inr (inl whole)) = whole
      ended (inr (inr short)) = absurd (true≢false (sym short ∙ long))
