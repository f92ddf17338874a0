-- Stands in a value tree: the objects that they are, and the tree of a scene text with stands in the place of its clumps.
use Rattle.std.specs.Prelude.{◌≡◌, ◌≤◌, ℕ, ℤ, false, List, map, codes, Ok}
use Rattle.serde_json.specs.Data.{Data, unsigned, number, array, object, Items, no_items, item, Members, no_members, member, put, depth}
use Rattle.serde_json.specs.Find.{of_integer}
use Rattle.serde_json.specs.View.{items_of}
use Rattle.serde_json.specs.Read.{max_depth}
use Rattle.serde_json.specs.Written.{has_float, compact_text}
use Rattle.dem_num.specs.declared.vector.Vec3.{Vec3}
use Rattle.dem_model.specs.declared.state.Stand.{Stand}
use Rattle.dem_model.specs.ReadingScene.{json_of}

-- a whole number
abbrev pub whole_data : ℤ → Data
whole_data z = number (of_integer z)

-- a vector: the list of its three components
abbrev pub vector_data : Vec3 → Data
vector_data v = array (item (whole_data v.x) (item (whole_data v.y) (item (whole_data v.z) no_items)))

-- a stand: its position under `p`, the number of its template under `t`, and no other name
abbrev pub stand_data : Stand → Data
stand_data x = object (member (codes "p") (vector_data x.p) (member (codes "t") (number (unsigned x.t)) no_members))

-- some stands, in order
abbrev pub stand_items : List Stand → Items
stand_items stands = items_of (map stand_data stands)

-- the members of a scene text in which the list `clumps` is that of the stands; the others stay as they are
abbrev pub with_clumps_in : List Stand → Members → Members
with_clumps_in stands ms = put (codes "clumps") (array (stand_items stands)) ms

-- the value tree of a scene text with one object per stand as its clumps
abbrev pub with_clumps_of : List Stand → Data → Data
with_clumps_of stands (object ms) = object (with_clumps_in stands ms)
with_clumps_of stands d = d

-- the bytes are the compact text of the tree of some other bytes, with the stands as its clumps
abbrev pub IsWithClumps : List Stand → List ℕ → List ℕ → Type 0
IsWithClumps stands bytes text = (d : Data) × (json_of bytes ≡ Ok d) × (text ≡ compact_text (with_clumps_of stands d))

-- a text that is the compact one of a tree without fractions, and that is read as the tree where it nests no deeper than a text may
pub record IsTextOf (d : Data) (text : List ℕ) : Type 0 where
  pub compact : has_float d ≡ false → text ≡ compact_text d
  pub back : depth d ≤ max_depth → json_of text ≡ Ok d
