-- Each object of a tree that was read has its names in ascending order, so each name once.
use Rattle.std.proofs.Common.{◌≡◌, ℕ, List, Option, Some, None, option_map, option_and_then, Ordering, Less, Equal, Greater, nat_cmp, refl, ap, ◌∙◌, subst}
use Rattle.std.specs.Prelude.{⊤}
use Rattle.std.specs.Ordering.{match_ordering, ordering_reverse}
use Rattle.std.specs.Cmp.Lexicographic.{slice_cmp}
use Rattle.std.proofs.lemmas.Cmp.{nat_list_cmp_total}
use Rattle.json.specs.Lex.{tokens}
use Rattle.json.specs.Json as json
use Rattle.serde_json.specs.Data.{Data, null, boolean, number, string, array, object, Items, no_items, item, Members, no_members, member, put}
use Rattle.serde_json.specs.Find.{get_member}
use Rattle.serde_json.specs.Read.{number_of, of_json, of_items, of_members, max_depth, read}

-- each name of the members comes after this one
abbrev pub ComesBefore : List ℕ → Members → Type 0
ComesBefore k no_members = ⊤
ComesBefore k (member l e ms) = (slice_cmp nat_cmp k l ≡ Less) × ComesBefore k ms

abbrev mutual
  -- each object in it has its names in ascending order
  pub IsOrdered : Data → Type 0
  IsOrdered null = ⊤
  IsOrdered (boolean b) = ⊤
  IsOrdered (number n) = ⊤
  IsOrdered (string s) = ⊤
  IsOrdered (array ds) = AreOrdered ds
  IsOrdered (object ms) = HasOrder ms

  pub AreOrdered : Items → Type 0
  AreOrdered no_items = ⊤
  AreOrdered (item d ds) = IsOrdered d × AreOrdered ds

  pub HasOrder : Members → Type 0
  HasOrder no_members = ⊤
  HasOrder (member k d ms) = ComesBefore k ms × IsOrdered d × HasOrder ms

-- ---- a member that is put in its place

by_order : (P : Members → Type 0) (o : Ordering) (a b c : Members) → (o ≡ Less → P a) → (o ≡ Equal → P b) → (o ≡ Greater → P c) → P (match_ordering o a b c)
by_order P Less a b c p q r = p refl
by_order P Equal a b c p q r = q refl
by_order P Greater a b c p q r = r refl

before_put : (q k : List ℕ) (d : Data) (ms : Members) → slice_cmp nat_cmp q k ≡ Less → ComesBefore q ms → ComesBefore q (put k d ms)
before_put q k d no_members h t = (h, tt)
before_put q k d (member l e ms) h t =
    by_order (ComesBefore q) (slice_cmp nat_cmp k l) (member k d (member l e ms)) (member l d ms) (member l e (put k d ms)) (λ o. (h, t)) (λ o. t) (λ o. (t.0, before_put q k d ms h t.1))

before_all : (k l : List ℕ) (ms : Members) → slice_cmp nat_cmp k l ≡ Less → ComesBefore l ms → ComesBefore k ms
before_all k l no_members h t = tt
before_all k l (member m e ms) h t = (nat_list_cmp_total.trans k l m h t.0, before_all k l ms h t.1)

pub order_put : (k : List ℕ) (d : Data) (ms : Members) → IsOrdered d → HasOrder ms → HasOrder (put k d ms)
order_put k d no_members p h = (tt, p, tt)
order_put k d (member l e ms) p h =
    by_order HasOrder (slice_cmp nat_cmp k l) (member k d (member l e ms)) (member l d ms) (member l e (put k d ms))
    (λ o. ((o, before_all k l ms o h.0), p, h))
    (λ o. (h.0, p, h.2))
    (λ o. (before_put l k d ms (nat_list_cmp_total.antisymm l k ∙ ap ordering_reverse o) h.0, h.1, order_put k d ms p h.2))

-- ---- a tree that is read

abbrev pub IfThere : {A : Type 0} → (A → Type 0) → Option A → Type 0
IfThere P None = ⊤
IfThere P (Some a) = P a

on_map : {A B : Type 0} (P : A → Type 0) (Q : B → Type 0) (f : A → B) → ((a : A) → P a → Q (f a)) → (o : Option A) → IfThere P o → IfThere Q (option_map f o)
on_map P Q f k None h = tt
on_map P Q f k (Some a) h = k a h

on_then : {A B : Type 0} (P : A → Type 0) (Q : B → Type 0) (f : A → Option B) → ((a : A) → P a → IfThere Q (f a)) → (o : Option A) → IfThere P o → IfThere Q (option_and_then f o)
on_then P Q f k None h = tt
on_then P Q f k (Some a) h = k a h

any_some : {A : Type 0} (o : Option A) → IfThere (λ _. ⊤) o
any_some None = tt
any_some (Some a) = tt

mutual
  order_of_json : (j : json.Json) → IfThere IsOrdered (of_json j)
  order_of_json json.null = tt
  order_of_json (json.boolean b) = tt
  order_of_json (json.number s) = on_map (λ _. ⊤) IsOrdered number (λ a x. tt) (number_of s) (any_some _)
  order_of_json (json.string s) = tt
  order_of_json (json.array js) = on_map AreOrdered IsOrdered array (λ a x. x) (of_items js) (order_of_items js)
  order_of_json (json.object ms) = on_map HasOrder IsOrdered object (λ a x. x) (of_members ms no_members) (order_of_members ms no_members tt)

  order_of_items : (js : json.Items) → IfThere AreOrdered (of_items js)
  order_of_items json.no_items = tt
  order_of_items (json.item j js) =
      on_then IsOrdered AreOrdered _ (λ d x. on_map AreOrdered AreOrdered (item d) (λ ds y. (x, y)) (of_items js) (order_of_items js)) (of_json j) (order_of_json j)

  order_of_members : (ms : json.Members) (found : Members) → HasOrder found → IfThere HasOrder (of_members ms found)
  order_of_members json.no_members found h = h
  order_of_members (json.member k j ms) found h =
      on_then IsOrdered HasOrder _ (λ d x. order_of_members ms (put k d found) (order_put k d found x h)) (of_json j) (order_of_json j)

-- each object of a tree that was read has each name once
pub order_read : (text : List ℕ) (d : Data) → read text ≡ Some d → IsOrdered d
order_read text d e =
    subst (IfThere IsOrdered) e (on_then (λ _. ⊤) IsOrdered of_json (λ j x. order_of_json j) (option_and_then (λ p. json.if_last p.0 p.1) (json.value max_depth (tokens text))) (any_some _))

-- ---- what stands under a name

found_by : (P : Option Data → Type 0) (o : Ordering) (a b : Option Data) → (o ≡ Equal → P b) → P a → P (match_ordering o a b a)
found_by P Less a b q p = p
found_by P Equal a b q p = q refl
found_by P Greater a b q p = p

-- a value under a name is in order
pub order_get : (k : List ℕ) (ms : Members) → HasOrder ms → IfThere IsOrdered (get_member k ms)
order_get k no_members h = tt
order_get k (member l e ms) h = found_by (IfThere IsOrdered) (slice_cmp nat_cmp k l) (get_member k ms) (Some e) (λ o. h.1) (order_get k ms h.2)

-- no name before all stands among the members
pub none_before : (k : List ℕ) (ms : Members) → ComesBefore k ms → get_member k ms ≡ None
none_before k no_members h = refl
none_before k (member l e ms) h = ap (λ o. match_ordering o (get_member k ms) (Some e) (get_member k ms)) h.0 ∙ none_before k ms h.1
