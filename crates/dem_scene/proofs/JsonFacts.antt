-- When some bytes have a value tree.
use Rattle.std.proofs.Common.{◌≡◌, ℕ, Bool, true, false, cond, List, Some, None, Ok, Err, refl, ap, ◌∙◌}
use Rattle.std.specs.Str.{IsUtf8, is_utf8}
use Rattle.std.proofs.lemmas.Str.{IsUtf8-from_is_utf8, is_utf8-from_IsUtf8}
use Rattle.serde_json.specs.Data.{Data}
use Rattle.serde_json.specs.Read.{read}
use Rattle.dem_model.specs.declared.fault.SceneFault.TheVariants.{NotJson}
use Rattle.dem_model.specs.ReadingScene.{tree_of, json_of}

-- a text that reads as a tree
pub json_ok : (bytes : List ℕ) (d : Data) → IsUtf8 bytes → read bytes ≡ Some d → json_of bytes ≡ Ok d
unfolding json_of
json_ok bytes d text tree = ap (λ b. cond b (tree_of (read bytes)) (Err NotJson)) (is_utf8-from_IsUtf8 bytes text) ∙ ap tree_of tree

-- either way, no tree
no_tree : (bytes : List ℕ) (b : Bool) → is_utf8 bytes ≡ b → (IsUtf8 bytes → read bytes ≡ None) → cond b (tree_of (read bytes)) (Err NotJson) ≡ Err NotJson
no_tree bytes true e none = ap tree_of (none (IsUtf8-from_is_utf8 bytes e))
no_tree bytes false e none = refl

-- bytes that are no text, or a text that reads as no tree
pub json_err : (bytes : List ℕ) → (IsUtf8 bytes → read bytes ≡ None) → json_of bytes ≡ Err NotJson
unfolding json_of
json_err bytes none = no_tree bytes (is_utf8 bytes) refl none
