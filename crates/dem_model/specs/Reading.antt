-- Reading a scene text step by step: each step gives its value, or the first fault with its place.
use Rattle.std.specs.Prelude.{ℕ, suc, ℤ, pos, negsuc, ◌+◌, Bool, true, false, ◌&&◌, ◌||◌, nat_lt, nat_le, unsigned_abs, List, [], ◌∷◌, Option, Some, None, option_and_then, Result, Ok, Err, ok_or, ⊤}
use Rattle.std.specs.List.{list_any, list_all}
use Rattle.std.specs.Str.{bytes_eq}
use Rattle.serde_json.specs.Data.{Data, Items, no_items, item, Members, no_members, member}
use Rattle.serde_json.specs.Find.{get, as_i64, as_number, as_array, as_object}
use Rattle.dem_model.specs.declared.fault.Name.{Name}
use Rattle.dem_model.specs.declared.fault.Spot.{Spot}
use Rattle.dem_model.specs.declared.fault.SceneFault.{SceneFault}
use Rattle.dem_model.specs.declared.fault.SceneFault.TheVariants.{Field, Unknown, Range, Index, Count}
use Rattle.dem_model.specs.ReadingNames.{names_of, later_names_of}

infixl 10 ◌>>=◌
-- the next step of a reading, made where the one before has no fault
abbrev pub ◌>>=◌ : {A B : Type 0} → Result A SceneFault → (A → Result B SceneFault) → Result B SceneFault
Ok x >>= next = next x
Err fault >>= next = Err fault

-- a place of the scene text
abbrev pub spot : Name → ℕ → ℕ → Spot
spot name i j = record { name = name; i = i; j = j }

-- a step that only tests: nothing where it holds, else the fault
abbrev pub unless : SceneFault → Bool → Result ⊤ SceneFault
unless fault true = Ok tt
unless fault false = Err fault

-- the value where its test holds, else the fault
abbrev pub if_so : {A : Type 0} → SceneFault → Bool → A → Result A SceneFault
if_so fault true x = Ok x
if_so fault false x = Err fault

-- what is read of a value that has to be there
abbrev pub required : {A : Type 0} → Spot → (Data → Result A SceneFault) → Option Data → Result A SceneFault
required at read None = Err (Field at)
required at read (Some d) = read d

-- what is read of a value that may be left out, and what stands for it then
abbrev pub optional : {A : Type 0} → A → (Data → Result A SceneFault) → Option Data → Result A SceneFault
optional default read None = Ok default
optional default read (Some d) = read d

-- ---- objects

-- whether a name is one of the list
unfoldable pub is_among : List (List ℕ) → List ℕ → Bool
is_among known name = list_any (λ k. bytes_eq name k) known

-- the names of an object's members
abbrev pub names_in : Members → List (List ℕ)
names_in no_members = []
names_in (member name d ms) = name ∷ names_in ms

-- an object whose names are all among those of its place
abbrev pub known_object : Spot → Option Members → Result ⊤ SceneFault
known_object at None = Err (Field at)
known_object at (Some ms) = unless (Unknown at) (list_all (is_among (names_of at.name)) (names_in ms))

-- an object, with no name that its table doesn't have
unfoldable pub check_object : Spot → Data → Result ⊤ SceneFault
check_object at d = known_object at (as_object d)

-- whether the object at a place may have a name: in both versions, or in version 2 alone
unfoldable pub is_known_in : Bool → Name → List ℕ → Bool
is_known_in later at name = is_among (names_of at) name || (later && is_among (later_names_of at) name)

-- an object whose names are all among those that its place has in its version
abbrev pub known_members : Bool → Spot → Option Members → Result ⊤ SceneFault
known_members later at None = Err (Field at)
known_members later at (Some ms) = unless (Unknown at) (list_all (is_known_in later at.name) (names_in ms))

-- an object, with no name that its table doesn't have in its version
unfoldable pub check_object_in : Bool → Spot → Data → Result ⊤ SceneFault
check_object_in later at d = known_members later at (as_object d)

-- ---- whole numbers

-- the whole number that a value is
abbrev pub whole : Data → Option ℤ
whole d = option_and_then as_i64 (as_number d)

-- whether a number is from low to high
unfoldable pub from_to : ℕ → ℕ → ℤ → Bool
from_to low high (pos n) = nat_le low n && nat_le n high
from_to low high (negsuc n) = false

-- whether a number is at most m in size
unfoldable pub at_most : ℕ → ℤ → Bool
at_most m z = nat_le (unsigned_abs z) m

-- a whole number
unfoldable pub whole_of : Spot → Data → Result ℤ SceneFault
whole_of at d = ok_or (whole d) (Field at)

-- a whole number from low to high
unfoldable pub number_of : ℕ → ℕ → Spot → Data → Result ℕ SceneFault
number_of low high at d = do
  z ← whole_of at d
  if_so (Range at) (from_to low high z) (unsigned_abs z)

-- a whole number under its name
unfoldable pub number_at : List ℕ → ℕ → ℕ → Spot → Data → Result ℕ SceneFault
number_at name low high at d = required at (number_of low high at) (get name d)

-- a whole number under its name, or 0
unfoldable pub number_or : List ℕ → ℕ → ℕ → Spot → Data → Result ℕ SceneFault
number_or name low high at d = optional 0 (number_of low high at) (get name d)

-- whether a number is a place of a list of that length
unfoldable pub below : ℕ → ℤ → Bool
below count (pos n) = nat_lt n count
below count (negsuc n) = false

-- the number of an element of a list of that length
unfoldable pub index_of : ℕ → Spot → Data → Result ℕ SceneFault
index_of count at d = do
  z ← whole_of at d
  if_so (Index at) (below count z) (unsigned_abs z)

-- the number of an element of a list, under its name
unfoldable pub index_at : List ℕ → ℕ → Spot → Data → Result ℕ SceneFault
index_at name count at d = required at (index_of count at) (get name d)

-- ---- lists

-- how many elements a list has
abbrev pub count_of : Items → ℕ
count_of no_items = 0
count_of (item d ds) = suc (count_of ds)

-- the elements of a list, which are from low to high in number
abbrev pub counted : ℕ → ℕ → Spot → Option Items → Result Items SceneFault
counted low high at None = Err (Field at)
counted low high at (Some ds) = if_so (Count at) (nat_le low (count_of ds) && nat_le (count_of ds) high) ds

-- what is read of each element, numbered from i on, or the fault of the first element that has one
unfoldable pub each_from : {A : Type 0} → (ℕ → Data → Result A SceneFault) → ℕ → Items → Result (List A) SceneFault
each_from read i no_items = Ok []
each_from read i (item d ds) = do
  x ← read i d
  xs ← each_from read (i + 1) ds
  Ok (x ∷ xs)

-- a list from low to high in length, and what is read of each element
unfoldable pub list_of : {A : Type 0} → ℕ → ℕ → Spot → (ℕ → Data → Result A SceneFault) → Data → Result (List A) SceneFault
list_of low high at read d = do
  ds ← counted low high at (as_array d)
  each_from read 0 ds

-- a list under its name, and what is read of each element
unfoldable pub list_at : {A : Type 0} → List ℕ → ℕ → ℕ → Spot → (ℕ → Data → Result A SceneFault) → Data → Result (List A) SceneFault
list_at name low high at read d = required at (list_of low high at read) (get name d)

-- a list that may be left out, and what is read of each element
unfoldable pub list_or : {A : Type 0} → List ℕ → ℕ → ℕ → Spot → (ℕ → Data → Result A SceneFault) → Data → Result (List A) SceneFault
list_or name low high at read d = optional [] (list_of low high at read) (get name d)
