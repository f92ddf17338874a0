-- The records of a text are those that reading it record by record reaches: each takes a byte, so there are no more than bytes.
use Rattle.std.proofs.Common.{◌≡◌, ℕ, zero, suc, ◌+◌, ◌-◌, ◌<◌, ◌≤◌, Bool, true, false, List, [], ◌∷◌, ◌++◌, length, Option, Some, None, if◌then◌else◌, sym, ap, subst, ◌∙◌, refl, append-nil, arith}
use Rattle.std.specs.Prelude.{◌==◌}
use Rattle.std.proofs.lemmas.Option.{same_Some, none-some}
use Rattle.csv.specs.Machine.{Read, step, in_field, start_field, start_record, ends_with, is_end, fields_after, field_after, ends_at_end, next_record}
use Rattle.csv.specs.Reading.{AreRecords, Reached, default_config, is_bom, records, records_from, records_next, strip_bom}
use Rattle.csv.specs.declared.parser.Action.{Action}
use Rattle.csv.specs.declared.parser.State.{State}
use Rattle.csv.specs.declared.parser.State.TheVariants as st
use Rattle.csv.specs.declared.parser.Terminator.TheVariants as term

-- ---- one record

-- where a byte ends a record, the next one begins behind it
abbrev Rests : State × Action → Type 0
Rests p = is_end p.1 ≡ true → ends_at_end p.0 ≡ false

rests_either : (b : Bool) (p q : State × Action) → Rests p → Rests q → Rests (if b then p else q)
rests_either true p q hp hq = hp
rests_either false p q hp hq = hq

not_ended : false ≡ true → (s : State) → ends_at_end s ≡ false
not_ended e s = cc

after_end-rests : (b : Bool) → ends_at_end (if b then st.AfterCr else st.StartRecord) ≡ false
after_end-rests true = refl
after_end-rests false = refl

in_field-rests : (c : ℕ) → Rests (in_field default_config c)
in_field-rests c =
    rests_either (c == 44) _ _ (λ e. not_ended e st.StartField)
    (rests_either (ends_with term.CRLF c) _ _ (λ e. after_end-rests (c == 13)) (λ e. not_ended e st.InField))

start_field-rests : (c : ℕ) → Rests (start_field default_config c)
start_field-rests c = rests_either (c == 34) _ _ (λ e. not_ended e st.InQuoted) (in_field-rests c)

start_record-rests : (c : ℕ) → Rests (start_record default_config c)
start_record-rests c = rests_either (ends_with term.CRLF c) _ _ (λ e. refl) (start_field-rests c)

step-rests : (s : State) (c : ℕ) → Rests (step default_config s c)
step-rests st.StartRecord c = start_record-rests c
step-rests st.StartField c = start_field-rests c
step-rests st.InField c = in_field-rests c
step-rests st.InQuoted c = rests_either (c == 34) _ _ (λ e. not_ended e st.AfterQuote) (λ e. not_ended e st.InQuoted)
step-rests st.InEscape c = λ e. not_ended e st.InQuoted
step-rests st.AfterQuote c = rests_either (c == 34) _ _ (λ e. not_ended e st.InQuoted) (in_field-rests c)
step-rests st.InComment c = rests_either (c == 10) _ _ (λ e. refl) (λ e. not_ended e st.InComment)
step-rests st.AfterCr c = rests_either (c == 10) _ _ (λ e. refl) (start_record-rests c)

-- what was read leaves no more than so many bytes, at the beginning of a record
record Leaves (most : ℕ) (p : Read) : Type 0 where
  rests : ends_at_end p.1 ≡ false
  few : length p.2 ≤ most

leaves-fewer : (m n : ℕ) (p : Read) → m ≤ n → Leaves m p → Leaves n p
leaves-fewer m n p h l = record { rests = l.rests; few = let few = l.few in omega arith }

-- at the end of the bytes
at_end : (b : Bool) (fields : List (List ℕ)) (p : Read) → (if b then Some (fields, st.StartRecord, []) else None) ≡ Some p → Leaves 0 p
at_end true fields p e = subst (Leaves 0) (same_Some (fields, st.StartRecord, []) p e) (record { rests = refl; few = omega arith })
at_end false fields p e = absurd (none-some p e)

-- at a byte that ends the record, or that doesn't
at_byte : (b : Bool) (s : State) (fields : List (List ℕ)) (rest : List ℕ) (more : Option Read) (p : Read) → (b ≡ true → ends_at_end s ≡ false) → (more ≡ Some p → Leaves (length rest) p)
    → (if b then Some (fields, s, rest) else more) ≡ Some p → Leaves (length rest) p
at_byte true s fields rest more p rests behind e = subst (Leaves (length rest)) (same_Some (fields, s, rest) p e) (record { rests = rests refl; few = omega arith })
at_byte false s fields rest more p rests behind e = behind e

-- a record leaves no more bytes than there were
record-leaves : (s : State) (fields : List (List ℕ)) (field xs : List ℕ) (p : Read) → next_record default_config s fields field xs ≡ Some p → Leaves (length xs) p
unfolding next_record
record-leaves s fields field [] p e = at_end (ends_at_end s) (fields ++ (field ∷ [])) p e
record-leaves s fields field (c ∷ rest) p e =
    leaves-fewer (length rest) (length (c ∷ rest)) p (omega arith)
    (at_byte (is_end (step default_config s c).1) (step default_config s c).0 (fields_after (step default_config s c).1 fields field) rest
    (next_record default_config (step default_config s c).0 (fields_after (step default_config s c).1 fields field) (field_after (step default_config s c).1 c field) rest) p
    (step-rests s c)
    (λ m. record-leaves (step default_config s c).0 (fields_after (step default_config s c).1 fields field) (field_after (step default_config s c).1 c field) rest p m)
    e)

-- where no record is at hand, one takes a byte
record-takes : (s : State) (xs : List ℕ) (p : Read) → ends_at_end s ≡ false → next_record default_config s [] [] xs ≡ Some p → length p.2 < length xs
unfolding next_record
record-takes s [] p rests e = absurd (none-some p (rw rests at e))
record-takes s (c ∷ rest) p rests e =
    let few = (at_byte (is_end (step default_config s c).1) (step default_config s c).0 (fields_after (step default_config s c).1 [] []) rest
    (next_record default_config (step default_config s c).0 (fields_after (step default_config s c).1 [] []) (field_after (step default_config s c).1 c []) rest) p
    (step-rests s c)
    (λ m. record-leaves (step default_config s c).0 (fields_after (step default_config s c).1 [] []) (field_after (step default_config s c).1 c []) rest p m)
    e).few in
    omega arith

-- ---- all records

-- there are no more records than bytes were taken
pub reached-few : (s : State) (xs : List ℕ) (rows : List (List (List ℕ))) (s2 : State) (ys : List ℕ) → ends_at_end s ≡ false → Reached default_config s xs rows s2 ys
    → length rows + length ys ≤ length xs
unfolding Reached
reached-few s xs [] s2 ys rests h = let same : length xs ≡ length ys = ap length h.1 in omega arith
reached-few s xs (r ∷ rs) s2 ys rests h =
    let takes : length h.0.2 < length xs = record-takes s xs h.0 rests h.1 in
    let behind : length rs + length ys ≤ length h.0.2 = reached-few h.0.1 h.0.2 rs s2 ys (record-leaves s [] [] xs h.0 h.1).rests h.3 in
    omega arith

-- the records of a text begin with those that were reached
records-behind : (s : State) (xs : List ℕ) (rows : List (List (List ℕ))) (s2 : State) (ys : List ℕ) (n more : ℕ) → Reached default_config s xs rows s2 ys → n ≡ length rows + more
    → records_from default_config n s xs ≡ rows ++ records_from default_config more s2 ys
unfolding Reached records_from
records-behind s xs [] s2 ys n more h e = let same : n ≡ more = omega arith in rw (same, h.0, h.1) refl
records-behind s xs (r ∷ rs) s2 ys zero more h e = absurd (omega arith)
records-behind s xs (r ∷ rs) s2 ys (suc n) more h e =
    ap (λ (o : Option Read). records_next (records_from default_config n) o) h.1
    ∙ ap (λ (x : List (List ℕ)). x ∷ records_from default_config n h.0.1 h.0.2) (sym h.2)
    ∙ ap (λ (l : List (List (List ℕ))). r ∷ l) (records-behind h.0.1 h.0.2 rs s2 ys n more h.3 (omega arith))

-- the records of a text, from those that were reached on
records-reached : (xs : List ℕ) (rows : List (List (List ℕ))) (s2 : State) (ys : List ℕ) → Reached default_config st.StartRecord xs rows s2 ys
    → records default_config xs ≡ rows ++ records_from default_config (length xs + 1 - length rows) s2 ys
records-reached xs rows s2 ys h =
    let few = reached-few st.StartRecord xs rows s2 ys refl h in
    records-behind st.StartRecord xs rows s2 ys (length xs + 1) (length xs + 1 - length rows) h (omega arith)

-- no records are left where none comes
no_records : (n : ℕ) (s : State) (xs : List ℕ) → next_record default_config s [] [] xs ≡ None → records_from default_config n s xs ≡ []
unfolding records_from
no_records zero s xs e = refl
no_records (suc n) s xs e = rw e refl

-- the records of a text are those after which none comes
pub records-all : (xs : List ℕ) (rows : List (List (List ℕ))) → AreRecords default_config st.StartRecord xs rows → records default_config xs ≡ rows
records-all xs rows h =
    records-reached xs rows h.0 h.1 h.2
    ∙ ap (λ (l : List (List (List ℕ))). rows ++ l) (no_records (length xs + 1 - length rows) h.0 h.1 h.3)
    ∙ append-nil rows

-- the records of a text begin with those that were reached
pub record BeginsWith (rows all : List (List (List ℕ))) : Type 0 where
  pub more : List (List (List ℕ))
  pub same : all ≡ rows ++ more

pub records-begin : (xs : List ℕ) (rows : List (List (List ℕ))) (s2 : State) (ys : List ℕ) → Reached default_config st.StartRecord xs rows s2 ys → BeginsWith rows (records default_config xs)
records-begin xs rows s2 ys h = record { more = records_from default_config (length xs + 1 - length rows) s2 ys; same = records-reached xs rows s2 ys h }

-- there are no more records than bytes
records_from-few : (n : ℕ) (s : State) (xs : List ℕ) → ends_at_end s ≡ false → length (records_from default_config n s xs) ≤ length xs
unfolding records_from
records_from-few zero s xs rests = omega arith
records_from-few (suc n) s xs rests = by (next_record default_config s [] [] xs) (record-takes s xs) (λ p e. (record-leaves s [] [] xs p e).rests) (records_from-few n)
  where
    by : (o : Option Read) → ((p : Read) → ends_at_end s ≡ false → o ≡ Some p → length p.2 < length xs) → ((p : Read) → o ≡ Some p → ends_at_end p.1 ≡ false)
        → ((t : State) (ys : List ℕ) → ends_at_end t ≡ false → length (records_from default_config n t ys) ≤ length ys) → length (records_next (records_from default_config n) o) ≤ length xs
    by None takes leaves behind = omega arith
    by (Some p) takes leaves behind = let fewer = takes p rests refl in let few = behind p.1 p.2 (leaves p refl) in omega arith

pub records-few : (xs : List ℕ) → length (records default_config xs) ≤ length xs
records-few xs = records_from-few (length xs + 1) st.StartRecord xs refl

-- a byte order mark takes bytes away
pub strip-few : (text : List ℕ) → length (strip_bom text) ≤ length text
unfolding strip_bom
strip-few [] = omega arith
strip-few (a ∷ []) = omega arith
strip-few (a ∷ b ∷ []) = omega arith
strip-few (a ∷ b ∷ c ∷ rest) = by (is_bom a b c)
  where
    by : (t : Bool) → length (if t then rest else a ∷ b ∷ c ∷ rest) ≤ length (a ∷ b ∷ c ∷ rest)
    by true = omega arith
    by false = omega arith
