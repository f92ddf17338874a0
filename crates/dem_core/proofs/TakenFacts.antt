-- The rows of the lists that a run has taken into use: after each call, and at its end.
use Rattle.std.proofs.Common.{◌≡◌, ℕ, suc, ◌+◌, ◌-◌, ◌*◌, ◌<◌, ◌≤◌, true, false, List, [], ◌∷◌, ◌++◌, length, Option, None, Some, Result, Ok, Err, IsSomeAnd, refl, sym, ap, ap₂, ◌∙◌, subst, arith, mul-suc, mul-zero, inl, inr}
use Rattle.std.specs.Prelude.{◌==◌, if◌then◌else◌}
use Rattle.std.specs.List.{AllByRecursion}
use Rattle.std.proofs.lemmas.Bool.{ltb-true, ne_eqb, cases_lt}
use Rattle.std.proofs.lemmas.Option.{none-some}
use Rattle.dem_model.specs.SceneValue.{SceneValue}
use Rattle.dem_model.specs.Centers.{centers_of}
use Rattle.dem_model.specs.Near.{near_of}
use Rattle.dem_model.specs.Plain.{plain_at}
use Rattle.dem_model.specs.Step.{step_of}
use Rattle.dem_model.specs.World.{Course, is_past, may_step, done_at, after_step, stepped, with_list, first_course, row_with, list_of, snap_of}
use Rattle.dem_model.specs.TakenRows.{begun, used_until, IsFollowed, IsRow, AreRows, BeginsAtFirst, IsLegal, tests_until, tests_of}
use Rattle.dem_model.specs.declared.state.End.{End}
use Rattle.dem_model.specs.declared.state.Last.{Last}
use Rattle.dem_model.specs.declared.state.Last.TheVariants.{Done}
use Rattle.dem_model.specs.declared.state.Pair.{Pair}
use Rattle.dem_model.specs.declared.state.State.{State}
use Rattle.dem_model.specs.declared.state.TakenRow.{TakenRow}
use Rattle.dem_output.proofs.RunLaw.{step_of-step}
use Rattle.dem_core.specs.Courses.{IsOnCourse, HasList, MayCollect}
use Rattle.dem_core.specs.SoFar.{begun_by, AreInTime, EndsWithList, HasTaken}
use Rattle.dem_core.proofs.CourseFacts.{GoesOn, may-goes_on, open-none, in-time, end-number}

-- the row of a list
abbrev row : ℕ → ℕ → ℕ → TakenRow
row from at pairs = record { from = from; at = at; pairs = pairs }

-- ---- lists of rows

all-wider : (P Q : TakenRow → Type 0) (rows : List TakenRow) → ((r : TakenRow) → P r → Q r) → AllByRecursion P rows → AllByRecursion Q rows
all-wider P Q [] f h = tt
all-wider P Q (r ∷ rows) f h = (f r h.0, all-wider P Q rows f h.1)

all-more : (P : TakenRow → Type 0) (rows : List TakenRow) (r : TakenRow) → AllByRecursion P rows → P r → AllByRecursion P (rows ++ r ∷ [])
all-more P [] r h p = (p, tt)
all-more P (q ∷ rows) r h p = (h.0, all-more P rows r h.1 p)

-- of rows that have a last one, only the last is used until the end
used-before : (rows : List TakenRow) (r : TakenRow) (m n : ℕ) → used_until (rows ++ r ∷ []) m ≡ used_until (rows ++ r ∷ []) n
unfolding used_until
used-before [] r m n = refl
used-before (q ∷ rows) r m n = refl

used-more : (rows : List TakenRow) (r : TakenRow) → used_until (rows ++ r ∷ []) r.at ≡ used_until rows r.at
unfolding used_until
used-more [] r = refl
used-more (q ∷ rows) r = refl

followed-more : (q : TakenRow) (rows : List TakenRow) (last r : TakenRow) → IsFollowed q (rows ++ last ∷ []) → IsFollowed q ((rows ++ last ∷ []) ++ r ∷ [])
followed-more q [] last r h = h
followed-more q (p ∷ rows) last r h = h

-- the rows go on to a later step
rows-later : (s : SceneValue) (drift : ℕ) (rows : List TakenRow) (r : TakenRow) (m n : ℕ) → AreRows s drift (rows ++ r ∷ []) m → n ≤ r.from + drift + 1 → AreRows s drift (rows ++ r ∷ []) n
rows-later s drift [] r m n h late =
    (record { past = h.0.past; young = h.0.young; size = h.0.size; followed = h.0.followed; used = unfold used_until in late }, tt)
rows-later s drift (q ∷ rows) r m n h late = (
  record { past = h.0.past; young = h.0.young; size = h.0.size; followed = h.0.followed; used = subst (λ k. k ≤ q.from + drift + 1) (used-before rows r m n) h.0.used },
  rows-later s drift rows r m n h.1 late,
)

-- one row more, taken now
rows-more : (s : SceneValue) (drift : ℕ) (rows : List TakenRow) (last r : TakenRow) → AreRows s drift (rows ++ last ∷ []) r.at → last.from < r.from → last.at ≤ r.from → IsRow s drift r [] r.at
    → AreRows s drift ((rows ++ last ∷ []) ++ r ∷ []) r.at
unfolding used_until
rows-more s drift [] last r h newer since one =
    (record { past = h.0.past; young = h.0.young; size = h.0.size; followed = (newer, since); used = h.0.used }, (one, tt))
rows-more s drift (q ∷ rows) last r h newer since one = (
  record {
    past = h.0.past;
    young = h.0.young;
    size = h.0.size;
    followed = followed-more q rows last r h.0.followed;
    used = subst (λ k. k ≤ q.from + drift + 1) (sym (used-more (rows ++ last ∷ []) r)) h.0.used;
  },
  rows-more s drift rows last r h.1 newer since one,
)

-- the tests of one step more
tests-later : (rows : List TakenRow) (r : TakenRow) (n : ℕ) → r.at ≤ n → tests_until (rows ++ r ∷ []) (n + 1) ≡ tests_until (rows ++ r ∷ []) n + r.pairs
unfolding tests_until used_until
tests-later [] r n le =
    let one : n + 1 - r.at ≡ suc (n - r.at) = omega arith in
    ap (λ k. r.pairs * k + 0) one ∙ ap (λ k. k + 0) (mul-suc r.pairs (n - r.at)) ∙ omega arith
tests-later (q ∷ rows) r n le =
    ap₂ (λ a b. q.pairs * (a - q.at) + b) (used-before rows r (n + 1) n) (tests-later rows r n le)
    ∙ omega arith

-- a row that is taken now has no tests yet
tests-more : (rows : List TakenRow) (r : TakenRow) → tests_until (rows ++ r ∷ []) r.at ≡ tests_until rows r.at
unfolding tests_until used_until
tests-more [] r =
    let none : r.at - r.at ≡ 0 = omega arith in
    ap (λ k. r.pairs * k + 0) none ∙ ap (λ k. k + 0) (mul-zero r.pairs)
tests-more (q ∷ rows) r = ap₂ (λ a b. q.pairs * (a - q.at) + b) (used-more rows r) (tests-more rows r)

first-more : (rows : List TakenRow) (last r : TakenRow) → BeginsAtFirst (rows ++ last ∷ []) → BeginsAtFirst ((rows ++ last ∷ []) ++ r ∷ [])
first-more [] last r h = h
first-more (q ∷ rows) last r h = h

-- ---- at the start

in-time-none : (c : Course) (o : Option Last) → AreInTime c o []
in-time-none c None = tt
in-time-none c (Some last) = tt

pub HasTaken-first : (s : SceneValue) (drift : ℕ) → HasTaken s drift [] (first_course s)
unfolding first_course tests_until
HasTaken-first s drift = record { first = tt; each = tt; in_time = in-time-none (first_course s) (first_course s).last; newest = refl; tests = refl }

-- ---- after a step

-- one step more was begun
pub record IsOneMore (c c' : Course) : Type 0 where
  pub from : c'.from ≡ c.from
  pub at : c'.taken_at ≡ c.taken_at
  pub pairs : c'.pairs ≡ c.pairs
  pub tests : c'.tests ≡ c.tests + length c.pairs
  pub begun : begun_by c' c'.last ≡ c.state.step + 1
  pub in_time : (rows : List TakenRow) → AllByRecursion (λ (r : TakenRow). r.at ≤ c.state.step) rows → AreInTime c' c'.last rows

begun-reached : (s : SceneValue) (c : Course) (n : ℕ) → c.state.step ≡ n → begun_by c (done_at s n) ≡ n
unfolding done_at begun_by begun
begun-reached s c n is =
    elim (n == s.steps) as (λ b. begun_by c (if b then Some (Done n) else None) ≡ n) [ true ↦ refl | false ↦ is ]

in-time-reached : (s : SceneValue) (c : Course) (n : ℕ) (rows : List TakenRow) → c.state.step ≡ n + 1 → AllByRecursion (λ (r : TakenRow). r.at ≤ n) rows → AreInTime c (done_at s (n + 1)) rows
unfolding done_at begun
in-time-reached s c n rows is all =
    elim (n + 1 == s.steps) as (λ b. AreInTime c (if b then Some (Done (n + 1)) else None) rows) [
      | true ↦ all-wider (λ (r : TakenRow). r.at ≤ n) (λ (r : TakenRow). r.at < n + 1) rows (λ r le. omega arith) all
      | false ↦ all-wider (λ (r : TakenRow). r.at ≤ n) (λ (r : TakenRow). r.at ≤ c.state.step) rows (λ r le. omega (arith, is)) all
    ]

pub one-more : (s : SceneValue) (c : Course) (r : Result State End) → step_of s c.state ≡ r → IsOneMore c (after_step s c r)
unfolding after_step
one-more s c (Ok next) is =
    let number = step_of-step s c.state next is in
    record {
      from = refl;
      at = refl;
      pairs = refl;
      tests = refl;
      begun = begun-reached s (after_step s c (Ok next)) next.step refl ∙ number;
      in_time = λ rows all. subst (λ n. AreInTime (after_step s c (Ok next)) (done_at s n) rows) (sym number) (in-time-reached s (after_step s c (Ok next)) c.state.step rows number all);
    }
one-more s c (Err e) is =
    let number = end-number s c.state e is in
    record {
      from = refl;
      at = refl;
      pairs = refl;
      tests = refl;
      begun = unfold begun_by in unfold begun in number;
      in_time = λ rows all. unfold begun in all-wider (λ (r : TakenRow). r.at ≤ c.state.step) (λ (r : TakenRow). r.at < e.step) rows (λ r le. omega (arith, number)) all;
    }

ends-same : (c c' : Course) (o : Option ℕ) (rows : List TakenRow) → c'.taken_at ≡ c.taken_at → c'.pairs ≡ c.pairs → EndsWithList c o rows → EndsWithList c' o rows
ends-same c c' None rows at pairs h = h
ends-same c c' (Some from) rows at pairs h = (h.0, h.1 ∙ ap₂ (λ a n. h.0 ++ row from a n ∷ []) (sym at) (sym (ap length pairs)))

taken-after : (s : SceneValue) (drift : ℕ) (c c' : Course) (rows : List TakenRow) (o : Option ℕ) → GoesOn s drift c → IsOneMore c c' → HasTaken s drift rows c → c.from ≡ o → HasList s drift c o → EndsWithList c o rows
    → IsSomeAnd o (λ from. c.state.step ≤ from + drift) → HasTaken s drift rows c'
taken-after s drift c c' rows None g m h is list newest young = absurd young
taken-after s drift c c' rows (Some from) g m h is list newest young =
    let begun : begun_by c c.last ≡ c.state.step = unfold begun_by in ap (begun_by c) g.no_end in
    let last : TakenRow = row from c.taken_at (length c.pairs) in
    let each : AreRows s drift (newest.0 ++ row from c.taken_at (length c.pairs) ∷ []) c.state.step =
    subst (λ l. AreRows s drift l c.state.step) newest.1 (subst (AreRows s drift rows) begun h.each) in
    record {
      first = h.first;
      each = subst (λ l. AreRows s drift l (begun_by c' c'.last)) (sym newest.1)
          (subst (AreRows s drift (newest.0 ++ row from c.taken_at (length c.pairs) ∷ [])) (sym m.begun)
          (rows-later s drift newest.0 (row from c.taken_at (length c.pairs)) c.state.step (c.state.step + 1) each (omega (arith, young))));
      in_time = m.in_time rows (subst (λ o. AreInTime c o rows) g.no_end h.in_time);
      newest = subst (λ o. EndsWithList c' o rows) (sym (m.from ∙ is)) (ends-same c c' (Some from) rows m.at m.pairs newest);
      tests =
          let before : c.tests ≡ tests_until (newest.0 ++ row from c.taken_at (length c.pairs) ∷ []) c.state.step = h.tests ∙ ap₂ tests_until newest.1 begun in
          let more = tests-later newest.0 (row from c.taken_at (length c.pairs)) c.state.step list.2 in
          m.tests ∙ ap (λ n. n + length c.pairs) before ∙ sym more ∙ sym (ap₂ tests_until newest.1 m.begun);
    }

pub HasTaken-stepped : (s : SceneValue) (drift : ℕ) (rows : List TakenRow) (c : Course) → IsOnCourse s drift c → may_step s drift c ≡ true → HasTaken s drift rows c → HasTaken s drift rows (stepped s c)
unfolding stepped
HasTaken-stepped s drift rows c on may h =
    let g = may-goes_on s drift c may in
    taken-after s drift c (after_step s c (step_of s c.state)) rows c.from g (one-more s c (step_of s c.state) refl) h refl on.list h.newest g.young

-- ---- after a list was taken into use

taken-list : (s : SceneValue) (drift : ℕ) (c : Course) (rows : List TakenRow) (from : ℕ) (pairs : List Pair) (o : Option ℕ) → IsOnCourse s drift c → MayCollect c from → HasTaken s drift rows c
    → HasList s drift c o → EndsWithList c o rows → is_past o from ≡ true → IsRow s drift (row from c.state.step (length pairs)) [] c.state.step
    → AreRows s drift (rows ++ row from c.state.step (length pairs) ∷ []) c.state.step × BeginsAtFirst (rows ++ row from c.state.step (length pairs) ∷ [])
unfolding is_past
taken-list s drift c rows from pairs None on may h list newest newer one =
    let first : from ≡ 0 = omega (arith, may.past, list.0) in
    subst (λ l. AreRows s drift (l ++ row from c.state.step (length pairs) ∷ []) c.state.step × BeginsAtFirst (l ++ row from c.state.step (length pairs) ∷ [])) (sym newest) ((one, tt), (first, list.0))
taken-list s drift c rows from pairs (Some f) on may h list newest newer one =
    let begun : begun_by c c.last ≡ c.state.step = unfold begun_by in ap (begun_by c) (open-none c may.goes_on) in
    let each : AreRows s drift (newest.0 ++ row f c.taken_at (length c.pairs) ∷ []) c.state.step =
    subst (λ l. AreRows s drift l c.state.step) newest.1 (subst (AreRows s drift rows) begun h.each) in
    let first : BeginsAtFirst (newest.0 ++ row f c.taken_at (length c.pairs) ∷ []) = subst BeginsAtFirst newest.1 h.first in
    subst (λ l. AreRows s drift (l ++ row from c.state.step (length pairs) ∷ []) c.state.step × BeginsAtFirst (l ++ row from c.state.step (length pairs) ∷ [])) (sym newest.1) (
      rows-more s drift newest.0 (row f c.taken_at (length c.pairs)) (row from c.state.step (length pairs)) each (ltb-true f from newer) may.since one,
      first-more newest.0 (row f c.taken_at (length c.pairs)) (row from c.state.step (length pairs)) first,
    )

size-of : (s : SceneValue) (drift : ℕ) (pairs : List Pair) (o : Option State) → IsSomeAnd o (λ st. pairs ≡ near_of s drift (centers_of s st.bodies)) → IsSomeAnd o (λ st. length pairs ≡ length (list_of s drift (snap_of st)))
unfolding list_of snap_of
size-of s drift pairs None h = absurd h
size-of s drift pairs (Some st) h = ap length h

pub HasTaken-with_list : (s : SceneValue) (drift : ℕ) (rows : List TakenRow) (c : Course) (from : ℕ) (pairs : List Pair) → IsOnCourse s drift c → MayCollect c from
    → IsSomeAnd (plain_at s from) (λ st. pairs ≡ near_of s drift (centers_of s st.bodies)) → HasTaken s drift rows c → HasTaken s drift (rows ++ row_with c from pairs ∷ []) (with_list c from pairs)
unfolding with_list row_with
HasTaken-with_list s drift rows c from pairs on may near h =
    let none = open-none c may.goes_on in
    let begun : begun_by c c.last ≡ c.state.step = unfold begun_by in ap (begun_by c) none in
    let begun' : begun_by (with_list c from pairs) c.last ≡ c.state.step = unfold begun_by in ap (begun_by (with_list c from pairs)) none in
    let young = in-time s drift c from on may in
    let one : IsRow s drift (row from c.state.step (length pairs)) [] c.state.step =
    record { past = may.past; young = young; size = size-of s drift pairs (plain_at s from) near; followed = tt; used = unfold used_until in omega (arith, young) } in
    let both = taken-list s drift c rows from pairs c.from on may h on.list h.newest may.newer one in
    record {
      first = both.1;
      each = subst (AreRows s drift (rows ++ row from c.state.step (length pairs) ∷ [])) (sym begun') both.0;
      in_time = subst (λ o. AreInTime (with_list c from pairs) o (rows ++ row from c.state.step (length pairs) ∷ [])) (sym none)
          (all-more (λ (r : TakenRow). r.at ≤ c.state.step) rows (row from c.state.step (length pairs)) (subst (λ o. AreInTime c o rows) none h.in_time) (omega arith));
      newest = (rows, refl);
      tests = h.tests ∙ ap (tests_until rows) begun ∙ sym (tests-more rows (row from c.state.step (length pairs))) ∙ sym (ap (tests_until (rows ++ row from c.state.step (length pairs) ∷ [])) begun');
    }

-- ---- at its end

snoc-none : (rows : List TakenRow) (r : TakenRow) → rows ++ r ∷ [] ≡ [] → ⊥
snoc-none [] r h = cc
snoc-none (q ∷ rows) r h = cc

no-steps : (s : SceneValue) (last : Last) → done_at s 0 ≡ Some last → s.steps ≡ 0
unfolding done_at
no-steps s last h =
    elim (cases_lt 0 s.steps) [
      | inl lt ↦ absurd (none-some last (subst (λ b. (if b then Some (Done 0) else None) ≡ Some last) (ne_eqb 0 s.steps (λ (e : 0 ≡ s.steps). absurd (omega arith))) h))
      | inr ge ↦ omega arith
    ]

none-iff : (s : SceneValue) (drift : ℕ) (c : Course) (rows : List TakenRow) (o : Option ℕ) (last : Last) → c.last ≡ Some last → HasList s drift c o → EndsWithList c o rows
    → ((rows ≡ []) → (s.steps ≡ 0)) × ((s.steps ≡ 0) → (rows ≡ []))
none-iff s drift c rows None last is list newest = (λ _. no-steps s last (sym list.5 ∙ is), λ _. newest)
none-iff s drift c rows (Some from) last is list newest = (λ none. absurd (snoc-none newest.0 _ (sym newest.1 ∙ none)), λ zero. absurd (omega (arith, list.4)))

pub HasTaken-ended : (s : SceneValue) (drift : ℕ) (rows : List TakenRow) (c : Course) (last : Last) → IsOnCourse s drift c → c.last ≡ Some last → HasTaken s drift rows c
    → IsLegal s drift last rows × (c.tests ≡ tests_of rows last)
unfolding tests_of
HasTaken-ended s drift rows c last on is h =
    let begun : begun_by c c.last ≡ begun last = unfold begun_by in ap (begun_by c) is in (
      record {
        none = none-iff s drift c rows c.from last is on.list h.newest;
        first = h.first;
        each = subst (AreRows s drift rows) begun h.each;
        in_time = subst (λ o. AreInTime c o rows) is h.in_time;
      },
      h.tests ∙ ap (tests_until rows) begun,
    )
