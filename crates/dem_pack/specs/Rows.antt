-- Rows that ask for a packing: the kind, the template, the gap, and the components of both corners, with commas between them.
use Rattle.std.specs.Prelude.{ℕ, ℤ, pos, negsuc, ◌-◌, ◌^◌, ◌==◌, List, [], ◌∷◌, length, take, drop, codes, nat_le, Option, Some, None, option_map, if◌then◌else◌}
use Rattle.std.specs.Str.{bytes_eq}
use Rattle.dem_num.specs.declared.vector.Vec3.{Vec3}
use Rattle.dem_frame.specs.Records.{number_of}
use Rattle.dem_pack.specs.declared.ask.Ask.{Ask}
use Rattle.dem_pack.specs.declared.ask.Kind.{Kind}
use Rattle.dem_pack.specs.declared.ask.Kind.TheVariants.{Grid, Staggered}

infixl 10 ◌>>=◌
-- the next step of a reading, made where the one before gave something
abbrev pub ◌>>=◌ : {A B : Type 0} → Option A → (A → Option B) → Option B
Some x >>= next = next x
None >>= next = None

-- ---- fields

-- what the beginning of a row says, and the bytes behind it
pub record Front (A : Type 0) : Type 0 where
  pub says : A
  pub rest : List ℕ

-- a field with one byte more before it
abbrev pub longer : ℕ → Front (List ℕ) → Front (List ℕ)
longer b f = record { says = b ∷ f.says; rest = f.rest }

-- the field before the first comma
unfoldable pub field_before : List ℕ → Option (Front (List ℕ))
field_before [] = None
field_before (b ∷ bs) = if b == 44 then Some (record { says = []; rest = bs }) else option_map (longer b) (field_before bs)

-- a number that isn't negative, and at most so much
abbrev pub at_most : ℕ → ℤ → Option ℕ
at_most high (pos n) = if nat_le n high then Some n else None
at_most high (negsuc n) = None

-- the number that a field is in decimal form, from 0 to the highest
unfoldable pub number_in : ℕ → List ℕ → Option ℕ
number_in high field = number_of field >>= at_most high

-- the number before the first comma
unfoldable pub number_before : ℕ → List ℕ → Option (Front ℕ)
number_before high bytes = do
  field ← field_before bytes
  n ← number_in high field.says
  Some (record { says = n; rest = field.rest })

-- ---- corners

-- a component of a corner is at most 2^36
abbrev pub corner_limit : ℕ
corner_limit = 2 ^ 36

-- the corner of these components
abbrev pub corner : (x y z : ℕ) → Vec3
corner x y z = record { x = pos x; y = pos y; z = pos z }

-- the corner before the third comma
unfoldable pub corner_before : List ℕ → Option (Front Vec3)
corner_before bytes = do
  x ← number_before corner_limit bytes
  y ← number_before corner_limit x.rest
  z ← number_before corner_limit y.rest
  Some (record { says = corner x.says y.says z.says; rest = z.rest })

-- the corner that the rest of a row is
unfoldable pub corner_of : List ℕ → Option Vec3
corner_of bytes = do
  x ← number_before corner_limit bytes
  y ← number_before corner_limit x.rest
  z ← number_in corner_limit y.rest
  Some (corner x.says y.says z)

-- ---- rows

-- the kind of this name
unfoldable pub kind_of : List ℕ → Option Kind
kind_of name = if bytes_eq name (codes "grid") then Some Grid else (if bytes_eq name (codes "staggered") then Some Staggered else None)

-- a row without its newline, where it ends with one
unfoldable pub line_of : List ℕ → List ℕ
line_of bytes = let n = length bytes - 1 in if bytes_eq (drop n bytes) (codes "\n") then take n bytes else bytes

-- what is asked of so many clumps, by the numbers behind the kind
unfoldable pub ask_behind : Kind → ℕ → List ℕ → Option Ask
ask_behind kind count bytes = do
  t ← number_before 255 bytes
  gap ← number_before (2 ^ 26) t.rest
  lo ← corner_before gap.rest
  hi ← corner_of lo.rest
  Some (record { kind = kind; t = t.says; gap = gap.says; lo = lo.says; hi = hi; count = count })

-- what a row asks of so many clumps
unfoldable pub ask_of : ℕ → List ℕ → Option Ask
ask_of count bytes = do
  name ← field_before (line_of bytes)
  kind ← kind_of name.says
  ask_behind kind count name.rest
