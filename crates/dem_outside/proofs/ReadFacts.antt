-- What a read from memory takes from the beginning of its bytes.
use Rattle.std.proofs.Common.{◌≡◌, ℕ, ◌<◌, ◌≤◌, ◌+◌, ◌-◌, List, [], ◌++◌, Some, length, take, drop, min, sym, ap, ◌∙◌, take-append-drop, length-drop, arith, subst}
use Rattle.std.proofs.lemmas.List.{take_rest, drop-drop, drop_all}
use Rattle.std.specs.Io.KnownBytes.{Consumes, IsAtEnd}

-- the bytes given are the first of those from `at` on, and what follows them is left
pub Consumes-given : (all bytes buf : List ℕ) (at n : ℕ) → bytes ≡ all → take n buf ≡ take n (take (length bytes - at) (drop at bytes))
    → Consumes (Some (drop at all)) (Some (drop (at + n) all)) (take n buf)
Consumes-given all bytes buf at n same first =
    rw (first, take_rest bytes at, same, ← drop-drop n at all) (sym (take-append-drop n (drop at all)))

-- a read gives none only where none are left
pub IsAtEnd-none : (all bytes : List ℕ) (at n room piece : ℕ) → bytes ≡ all → n ≡ min (min (length (take (length bytes - at) (drop at bytes))) room) piece → 0 < piece
    → n ≡ 0 → 0 < room → IsAtEnd (Some (drop (at + n) all))
IsAtEnd-none all bytes at n room piece same is some none more =
    drop_all (at + n) all (omega (arith, ap length same, ap length (take_rest bytes at), length-drop at bytes))
