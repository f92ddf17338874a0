-- Values without fractions whose texts are short: lists by their elements, objects by what stands under each name.
use Rattle.std.proofs.Common.{◌≡◌, ℕ, ◌+◌, ◌*◌, ◌≤◌, Bool, true, false, ◌&&◌, ◌||◌, List, [], ◌∷◌, ◌++◌, map, length, Option, Some, Ordering, Less, Equal, Greater, nat_cmp, bytes_eq, is_eq, refl, sym, ap, ◌∙◌, subst, arith}
use Rattle.std.specs.Prelude.{⊤}
use Rattle.std.specs.List.{list_all, list_any}
use Rattle.std.specs.Ordering.{match_ordering, ordering_reverse}
use Rattle.std.specs.Cmp.Lexicographic.{slice_cmp}
use Rattle.std.proofs.lemmas.Bool.{and_parts, or_parts}
use Rattle.std.proofs.lemmas.Cmp.{nat_list_cmp_total}
use Rattle.std.proofs.lemmas.List.{length-append}
use Rattle.std.proofs.lemmas.Map.Text.{is_eq-slice_cmp}
use Rattle.std.proofs.lemmas.Slice.Eq.{bytes_eq-Decides}
use Rattle.json.specs.Print.{quoted}
use Rattle.serde_json.specs.Data.{Data, array, object, Items, no_items, item, Members, no_members, member}
use Rattle.serde_json.specs.Find.{get, get_member}
use Rattle.serde_json.specs.Written.{has_float, items_have_float, members_have_float, compact_text, items_text, members_text}
use Rattle.dem_model.specs.Reading.{is_among, names_in, count_of}
use Rattle.dem_scene.proofs.OrderFacts.{ComesBefore, HasOrder, IfThere, none_before}

-- a value without fractions, whose text has at most n bytes
pub record Fits (n : ℕ) (d : Data) : Type 0 where
  pub whole : has_float d ≡ false
  pub short : length (compact_text d) ≤ n

-- a value fits into more room
pub Fits-more : (m n : ℕ) (d : Data) → m ≤ n → Fits m d → Fits n d
Fits-more m n d le h = record { whole = h.whole; short = omega (arith, le, h.short) }

-- ---- lists

-- each element fits
abbrev pub AllFit : ℕ → Items → Type 0
AllFit n no_items = ⊤
AllFit n (item d ds) = Fits n d × AllFit n ds

neither : (a b : Bool) → a ≡ false → b ≡ false → (a || b) ≡ false
neither true b p q = p
neither false b p q = q

items_whole : (n : ℕ) (ds : Items) → AllFit n ds → items_have_float ds ≡ false
items_whole n no_items h = refl
items_whole n (item d ds) h = neither (has_float d) (items_have_float ds) h.0.whole (items_whole n ds h.1)

items_short : (n : ℕ) (ds : Items) → AllFit n ds → length (items_text true ds) ≤ 1 + count_of ds * (n + 1)
items_short n no_items h = omega arith
items_short n (item d ds) h =
    omega (arith, length-append (compact_text d) (items_text true ds), h.0.short, items_short n ds h.1)

first_short : (ds : Items) → length (items_text false ds) ≤ length (items_text true ds)
first_short no_items = omega arith
first_short (item d ds) = omega arith

-- a list of elements that fit
pub array_fits : (n : ℕ) (ds : Items) → AllFit n ds → Fits (2 + count_of ds * (n + 1)) (array ds)
array_fits n ds h = record {
  whole = items_whole n ds h;
  short = omega (arith, first_short ds, items_short n ds h);
}

-- ---- objects

-- the names of an object, each with the room that its value has
abbrev pub Rooms : Type 0
Rooms = List (List ℕ × ℕ)

-- the room for all of them
abbrev pub room_of : Rooms → ℕ
room_of [] = 0
room_of (r ∷ rs) = length (quoted r.0) + 2 + r.1 + room_of rs

-- what stands under each name fits
abbrev pub AreIn : Rooms → Data → Type 0
AreIn [] d = ⊤
AreIn (r ∷ rs) d = IfThere (Fits r.1) (get r.0 d) × AreIn rs d

-- the members without the one of a name
without : List ℕ → Members → Members
without k no_members = no_members
without k (member l e ms) = match_ordering (slice_cmp nat_cmp k l) (member l e (without k ms)) ms (member l e (without k ms))

-- what both ways of going on have
either_way : (P : Members → Type 0) (o : Ordering) (a b : Members) → ((o ≡ Equal → ⊥) → P a) → (o ≡ Equal → P b) → P (match_ordering o a b a)
either_way P Less a b p q = p (λ e. cc)
either_way P Equal a b p q = q refl
either_way P Greater a b p q = p (λ e. cc)

same_name : (k l : List ℕ) → slice_cmp nat_cmp k l ≡ Equal → k ≡ l
same_name k l e = (bytes_eq-Decides k l).0 (sym (is_eq-slice_cmp k l) ∙ ap is_eq e)

unequal : (o : Ordering) → (o ≡ Equal → ⊥) → is_eq (ordering_reverse o) ≡ false
unequal Less h = refl
unequal Equal h = absurd (h refl)
unequal Greater h = refl

other_name : (k l : List ℕ) → (slice_cmp nat_cmp k l ≡ Equal → ⊥) → bytes_eq l k ≡ false
other_name k l h = sym (is_eq-slice_cmp l k) ∙ ap is_eq (nat_list_cmp_total.antisymm l k) ∙ unequal (slice_cmp nat_cmp k l) h

-- it keeps the order
before_without : (q k : List ℕ) (ms : Members) → ComesBefore q ms → ComesBefore q (without k ms)
unfolding without
before_without q k no_members h = tt
before_without q k (member l e ms) h = either_way (ComesBefore q) (slice_cmp nat_cmp k l) (member l e (without k ms)) ms (λ o. (h.0, before_without q k ms h.1)) (λ o. h.1)

order_without : (k : List ℕ) (ms : Members) → HasOrder ms → HasOrder (without k ms)
unfolding without
order_without k no_members h = tt
order_without k (member l e ms) h = either_way HasOrder (slice_cmp nat_cmp k l) (member l e (without k ms)) ms (λ o. (before_without l k ms h.0, h.1, order_without k ms h.2)) (λ o. h.2)

-- its names are the others
other_among : (known : List (List ℕ)) (k l : List ℕ) → (slice_cmp nat_cmp k l ≡ Equal → ⊥) → is_among (k ∷ known) l ≡ true → is_among known l ≡ true
unfolding is_among
other_among known k l h e = sym (ap (λ b. b || list_any (λ m. bytes_eq l m) known) (other_name k l h)) ∙ e

less_apart : (k l : List ℕ) → slice_cmp nat_cmp k l ≡ Less → slice_cmp nat_cmp k l ≡ Equal → ⊥
less_apart k l h e = let both : Less ≡ Equal = sym h ∙ e in cc

both_true : (a b : Bool) → a ≡ true → b ≡ true → (a && b) ≡ true
both_true true b p q = q
both_true false b p q = p

after_among : (known : List (List ℕ)) (k : List ℕ) (ms : Members) → ComesBefore k ms → list_all (is_among (k ∷ known)) (names_in ms) ≡ true → list_all (is_among known) (names_in ms) ≡ true
after_among known k no_members h e = refl
after_among known k (member l d ms) h e =
    let p = and_parts (is_among (k ∷ known) l) (list_all (is_among (k ∷ known)) (names_in ms)) e in
    both_true (is_among known l) _ (other_among known k l (less_apart k l h.0) p.0) (after_among known k ms h.1 p.1)

names_without : (known : List (List ℕ)) (k : List ℕ) (ms : Members) → HasOrder ms → list_all (is_among (k ∷ known)) (names_in ms) ≡ true → list_all (is_among known) (names_in (without k ms)) ≡ true
unfolding without
names_without known k no_members h e = refl
names_without known k (member l d ms) h e =
    let p = and_parts (is_among (k ∷ known) l) (list_all (is_among (k ∷ known)) (names_in ms)) e in
    either_way (λ x. list_all (is_among known) (names_in x) ≡ true) (slice_cmp nat_cmp k l) (member l d (without k ms)) ms
    (λ o. both_true (is_among known l) _ (other_among known k l o p.0) (names_without known k ms h.2 p.1))
    (λ o. after_among known k ms (subst (λ x. ComesBefore x ms) (sym (same_name k l o)) h.0) p.1)

-- what stands under another name stays
there_by : (P : Data → Type 0) (o : Ordering) (a b : Option Data) (e : Data) → (IfThere P a → IfThere P b) → IfThere P (match_ordering o a (Some e) a) → IfThere P (match_ordering o b (Some e) b)
there_by P Less a b e f h = f h
there_by P Equal a b e f h = h
there_by P Greater a b e f h = f h

there_later_by : (P : Data → Type 0) (o : Ordering) (q l : List ℕ) (e : Data) (ms : Members) → ComesBefore l ms → slice_cmp nat_cmp q l ≡ o → IfThere P (match_ordering o (get_member q ms) (Some e) (get_member q ms)) → IfThere P (get_member q ms)
there_later_by P Less q l e ms before is h = h
there_later_by P Equal q l e ms before is h = subst (IfThere P) (sym (none_before q ms (subst (λ x. ComesBefore x ms) (sym (same_name q l is)) before))) tt
there_later_by P Greater q l e ms before is h = h

there_without : (P : Data → Type 0) (q k : List ℕ) (ms : Members) → HasOrder ms → IfThere P (get_member q ms) → IfThere P (get_member q (without k ms))
unfolding without
there_without P q k no_members h t = t
there_without P q k (member l e ms) h t =
    either_way (λ x. IfThere P (get_member q x)) (slice_cmp nat_cmp k l) (member l e (without k ms)) ms
    (λ o. there_by P (slice_cmp nat_cmp q l) (get_member q ms) (get_member q (without k ms)) e (there_without P q k ms h.2) t)
    (λ o. there_later_by P (slice_cmp nat_cmp q l) q l e ms h.0 refl t)

in_without : (rs : Rooms) (k : List ℕ) (ms : Members) → HasOrder ms → AreIn rs (object ms) → AreIn rs (object (without k ms))
in_without [] k ms h t = tt
in_without (r ∷ rs) k ms h t = (there_without (Fits r.1) r.0 k ms h t.0, in_without rs k ms h t.1)

-- the members are whole and short where they are so without one that fits
record AreSmall (n : ℕ) (ms : Members) : Type 0 where
  whole : members_have_float ms ≡ false
  short : length (members_text true ms) ≤ n

one_small : (m n : ℕ) (l : List ℕ) (e : Data) (ms : Members) → Fits m e → AreSmall n ms → AreSmall (length (quoted l) + 2 + m + n) (member l e ms)
one_small m n l e ms fits small = record {
  whole = neither (has_float e) (members_have_float ms) fits.whole small.whole;
  short = omega (arith, length-append (quoted l) (58 ∷ (compact_text e ++ members_text true ms)), length-append (compact_text e) (members_text true ms), fits.short, small.short);
}

-- room for one member more
abbrev room_for : List ℕ → ℕ → ℕ
room_for k m = length (quoted k) + 2 + m

beside_one : (c : ℕ) (l : List ℕ) (e : Data) (n : ℕ) (xs ms : Members) → ((k : ℕ) → AreSmall k xs → AreSmall (c + k) ms) → AreSmall n (member l e xs) → AreSmall (c + n) (member l e ms)
beside_one c l e n xs ms more small =
    let parts = or_parts (has_float e) (members_have_float xs) small.whole in
    let rest : AreSmall (c + length (members_text true xs)) ms = more (length (members_text true xs)) (record { whole = parts.1; short = omega arith }) in
    let one = λ (ys : Members). length-append (quoted l) (58 ∷ (compact_text e ++ members_text true ys)) in
    let two = λ (ys : Members). length-append (compact_text e) (members_text true ys) in
    record {
      whole = neither (has_float e) (members_have_float ms) parts.0 rest.whole;
      short = omega (arith, small.short, rest.short, one xs, one ms, two xs, two ms);
    }

small_by : (o : Ordering) (k : List ℕ) (m n : ℕ) (l : List ℕ) (e : Data) (xs ms : Members) → slice_cmp nat_cmp k l ≡ o
    → ((j : ℕ) → IfThere (Fits m) (get_member k ms) → AreSmall j xs → AreSmall (room_for k m + j) ms)
    → IfThere (Fits m) (match_ordering o (get_member k ms) (Some e) (get_member k ms))
    → AreSmall n (match_ordering o (member l e xs) ms (member l e xs))
    → AreSmall (room_for k m + n) (member l e ms)
small_by Less k m n l e xs ms is more fits small = beside_one (room_for k m) l e n xs ms (λ j. more j fits) small
small_by Equal k m n l e xs ms is more fits small = subst (λ x. AreSmall (room_for x m + n) (member l e ms)) (sym (same_name k l is)) (one_small m n l e ms fits small)
small_by Greater k m n l e xs ms is more fits small = beside_one (room_for k m) l e n xs ms (λ j. more j fits) small

-- members are small where they are so without one that fits
small_with : (k : List ℕ) (m n : ℕ) (ms : Members) → IfThere (Fits m) (get_member k ms) → AreSmall n (without k ms) → AreSmall (room_for k m + n) ms
unfolding without
small_with k m n no_members fits small = record { whole = refl; short = omega (arith, small.short) }
small_with k m n (member l e ms) fits small =
    small_by (slice_cmp nat_cmp k l) k m n l e (without k ms) ms refl (λ j. small_with k m j ms) fits small

-- no name, no member
none_small : (ms : Members) → list_all (is_among []) (names_in ms) ≡ true → AreSmall 1 ms
unfolding is_among
none_small no_members e = record { whole = refl; short = omega arith }
none_small (member l d ms) e = absurd cc

-- members that stand under names of a table, each with a value that fits
members_small : (rs : Rooms) (ms : Members) → HasOrder ms → list_all (is_among (map (λ r. r.0) rs)) (names_in ms) ≡ true → AreIn rs (object ms) → AreSmall (1 + room_of rs) ms
members_small [] ms h e t = none_small ms e
members_small (r ∷ rs) ms h e t =
    let rest : AreSmall (1 + room_of rs) (without r.0 ms) =
    members_small rs (without r.0 ms) (order_without r.0 ms h) (names_without (map (λ x. x.0) rs) r.0 ms h e) (in_without rs r.0 ms h t.1) in
    let all = small_with r.0 r.1 (1 + room_of rs) ms t.0 rest in
    record { whole = all.whole; short = omega (arith, all.short) }

member_first : (ms : Members) → length (members_text false ms) ≤ length (members_text true ms)
member_first no_members = omega arith
member_first (member k d ms) = omega arith

-- an object whose names are in a table, each with a value that fits
pub object_fits : (rs : Rooms) (ms : Members) → HasOrder ms → list_all (is_among (map (λ r. r.0) rs)) (names_in ms) ≡ true → AreIn rs (object ms) → Fits (2 + room_of rs) (object ms)
object_fits rs ms h e t =
    let small = members_small rs ms h e t in
    record { whole = small.whole; short = omega (arith, member_first ms, small.short) }
