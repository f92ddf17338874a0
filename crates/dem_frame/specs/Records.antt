-- What the records of a text read as: the number of a field, and the head, the clump or the pair of a record.
use Rattle.std.specs.Prelude.{ℕ, ◌+◌, ◌-◌, ◌^◌, ◌==◌, ◌&&◌, ◌||◌, ℤ, pos, negsuc, Bool, true, false, List, [], ◌∷◌, length, drop, codes, nat_lt, nat_le, if◌then◌else◌, Option, None, Some, option_map, option_and_then, get_or, unsigned_abs}
use Rattle.std.specs.Fmt.{signed_decimal}
use Rattle.std.specs.Str.{bytes_eq}
use Rattle.std.specs.Str.Parse.{signed_digits_value}
use Rattle.std.specs.Option.{option_map_or}
use Rattle.csv.specs.Records.{field_at}
use Rattle.dem_num.specs.declared.vector.Vec3.{Vec3}
use Rattle.dem_num.specs.declared.vector.Quat.{Quat}
use Rattle.dem_model.specs.declared.state.Body.{Body}
use Rattle.dem_model.specs.declared.state.Pair.{Pair}
use Rattle.dem_model.specs.declared.state.Held.{Held}

-- whether a number fits 64 bits with its sign
abbrev pub fits_64 : ℤ → Bool
fits_64 (pos n) = nat_lt n (2 ^ 63)
fits_64 (negsuc n) = nat_lt n (2 ^ 63)

-- this number, where the field is its decimal form
unfoldable pub read_as : ℤ → List ℕ → Option ℤ
read_as z field = if bytes_eq (signed_decimal z) field && fits_64 z then Some z else None

-- the number that a sign and digits write
unfoldable pub value_of : List ℕ → ℤ
value_of field = signed_digits_value 10 field

-- the number whose decimal form a field is
abbrev pub number_of : List ℕ → Option ℤ
number_of field = read_as (value_of field) field

-- the numbers of some fields, where each is in decimal form
unfoldable pub numbers_of : List (List ℕ) → Option (List ℤ)
numbers_of [] = Some []
numbers_of (f ∷ fs) = option_and_then (λ z. option_map (λ zs. z ∷ zs) (numbers_of fs)) (number_of f)

-- whether a record has this name and so many fields behind it
unfoldable pub is_row : List ℕ → ℕ → List (List ℕ) → Bool
is_row name count fields = option_map_or (λ f. bytes_eq f name) (field_at fields 0) false && (length fields == count + 1)

-- the numbers of a record of this name that has so many of them
unfoldable pub row_of : List ℕ → ℕ → List (List ℕ) → Option (List ℤ)
row_of name count fields = if is_row name count fields then numbers_of (drop 1 fields) else None

-- three numbers of a row from a place on
abbrev pub vector_of : List ℤ → ℕ → Vec3
vector_of ns i = record { x = get_or ns i (pos 0); y = get_or ns (i + 1) (pos 0); z = get_or ns (i + 2) (pos 0) }

-- four numbers of a row from a place on
abbrev pub quaternion_of : List ℤ → ℕ → Quat
quaternion_of ns i = record { a = get_or ns i (pos 0); b = get_or ns (i + 1) (pos 0); c = get_or ns (i + 2) (pos 0); d = get_or ns (i + 3) (pos 0) }

-- a number that is whole, not negative, and at most `high`
unfoldable pub whole_of : ℕ → ℤ → Option ℕ
whole_of high (pos n) = if nat_le n high then Some n else None
whole_of high (negsuc n) = None

-- the greatest number of a clump, a sphere or a wall
abbrev pub top : ℕ
top = 2 ^ 32 - 1

-- the number of the state, from the head of a frame
unfoldable pub head_of : List (List ℕ) → Option ℕ
head_of fields = option_and_then (λ ns. whole_of 1000000000 (get_or ns 0 (pos 0))) (row_of (codes "frame") 1 fields)

-- the body of a clump's row: position, velocity, quaternion, spin
unfoldable pub body_of : List ℤ → Body
body_of ns = record { p = vector_of ns 1; q = quaternion_of ns 7; v = vector_of ns 4; w = vector_of ns 11 }

-- the body, where the row is of clump i
unfoldable pub body_of_clump : ℕ → List ℤ → Option Body
body_of_clump i ns = option_and_then (λ k. if k == i then Some (body_of ns) else None) (whole_of top (get_or ns 0 (pos 0)))

-- the body of clump i, from its row
unfoldable pub clump_of : ℕ → List (List ℕ) → Option Body
clump_of i fields = option_and_then (body_of_clump i) (row_of (codes "clump") 14 fields)

-- each component of a displacement is at most 2^40 in size
unfoldable pub is_small : Vec3 → Bool
is_small h = nat_le (unsigned_abs h.x) (2 ^ 40) && nat_le (unsigned_abs h.y) (2 ^ 40) && nat_le (unsigned_abs h.z) (2 ^ 40)

-- a pair comes after another in the order of their numbers
unfoldable pub comes_after : Pair → Pair → Bool
comes_after p q = nat_lt p.a q.a || ((p.a == q.a) && nat_lt p.b q.b)

-- a pair comes after the last of those before
unfoldable pub continues : Option Held → Pair → Bool
continues None q = true
continues (Some e) q = comes_after e.pair q

-- a pair and its displacement, where both are in range and the pair comes after the last one
unfoldable pub held_from : Option Held → Pair → Vec3 → Option Held
held_from last p h = if nat_lt p.a p.b && is_small h && continues last p then Some (record { pair = p; h = h }) else None

-- the same, from the numbers of a row
unfoldable pub held_of : Option Held → List ℤ → Option Held
held_of last ns = option_and_then (λ a. option_and_then (λ b. held_from last (record { a = a; b = b }) (vector_of ns 2)) (whole_of top (get_or ns 1 (pos 0)))) (whole_of top (get_or ns 0 (pos 0)))

-- a pair after the last one, from its row
unfoldable pub pair_of : Option Held → List (List ℕ) → Option Held
pair_of last fields = option_and_then (held_of last) (row_of (codes "pair") 5 fields)
