-- Lists and objects of a value tree, as the code sees them and as the definitions do.
use Rattle.std.proofs.Common.{◌≡◌, ℕ, suc, ◌<◌, ◌≤◌, Bool, ◌&&◌, List, [], ◌∷◌, length, None, refl, ap, arith, string_bytes}
use Rattle.std.specs.List.{list_all}
use Rattle.std.specs.declared.alloc.Global.{Global}
use Rattle.std.specs.Prelude.{String}
use Rattle.std.specs.Map.{keys_of}
use Rattle.serde_json.specs.declared.value.Value.{Value}
use Rattle.serde_json.specs.View.{items_view, members_view}
use Rattle.dem_model.specs.Reading.{names_in, count_of}
use Rattle.dem_model.specs.ReadingVectors.{three_of, four_of}
use Rattle.dem_model.specs.ReadingKinds.{two_of}

-- the members' names are the map's keys
pub all_names : (test : List ℕ → Bool) (ms : List (String Global × Value)) → list_all test (names_in (members_view ms)) ≡ list_all (λ (k : String Global). test (string_bytes k)) (keys_of ms)
all_names test [] = refl
all_names test (m ∷ ms) = ap (λ b. test (string_bytes m.0) && b) (all_names test ms)

-- a list's elements are counted alike
pub counts_items : (vs : List Value) → count_of (items_view vs) ≡ length vs
counts_items [] = refl
counts_items (v ∷ vs) = ap suc (counts_items vs)

-- a list of fewer than two elements is no entry of two numbers
pub two_short : (vs : List Value) → length vs < 2 → two_of (items_view vs) ≡ None
two_short [] h = refl
two_short (a ∷ []) h = refl
two_short (a ∷ b ∷ vs) h = absurd (omega arith)

-- a list of more than two elements is no entry of two numbers
pub two_long : (vs : List Value) → 3 ≤ length vs → two_of (items_view vs) ≡ None
two_long [] h = refl
two_long (a ∷ []) h = refl
two_long (a ∷ b ∷ []) h = absurd (omega arith)
two_long (a ∷ b ∷ c ∷ vs) h = refl

-- a list of fewer than three elements is no vector
pub three_short : (vs : List Value) → length vs < 3 → three_of (items_view vs) ≡ None
three_short [] h = refl
three_short (a ∷ []) h = refl
three_short (a ∷ b ∷ []) h = refl
three_short (a ∷ b ∷ c ∷ vs) h = absurd (omega arith)

-- a list of more than three elements is no vector
pub three_long : (vs : List Value) → 4 ≤ length vs → three_of (items_view vs) ≡ None
three_long [] h = refl
three_long (a ∷ []) h = refl
three_long (a ∷ b ∷ []) h = refl
three_long (a ∷ b ∷ c ∷ []) h = absurd (omega arith)
three_long (a ∷ b ∷ c ∷ d ∷ vs) h = refl

-- a list of fewer than four elements is no quaternion
pub four_short : (vs : List Value) → length vs < 4 → four_of (items_view vs) ≡ None
four_short [] h = refl
four_short (a ∷ []) h = refl
four_short (a ∷ b ∷ []) h = refl
four_short (a ∷ b ∷ c ∷ []) h = refl
four_short (a ∷ b ∷ c ∷ d ∷ vs) h = absurd (omega arith)

-- a list of more than four elements is no quaternion
pub four_long : (vs : List Value) → 5 ≤ length vs → four_of (items_view vs) ≡ None
four_long [] h = refl
four_long (a ∷ []) h = refl
four_long (a ∷ b ∷ []) h = refl
four_long (a ∷ b ∷ c ∷ []) h = refl
four_long (a ∷ b ∷ c ∷ d ∷ []) h = absurd (omega arith)
four_long (a ∷ b ∷ c ∷ d ∷ e ∷ vs) h = refl
