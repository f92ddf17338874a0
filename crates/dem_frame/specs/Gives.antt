-- What an answer tells of the definition that it is an answer to.
use Rattle.std.specs.Prelude.{◌≡◌, Bool, true, false, Result, Ok, Err, ⊤}

-- something is so, where this isn't
abbrev pub Unless : Bool → Type 0 → Type 0
Unless true P = ⊤
Unless false P = P

-- the answer is that of the definition, unless its fault is one that tells nothing
abbrev pub GivesUnless : {A E : Type 0} → (E → Bool) → Result A E → Result A E → Type 0
GivesUnless tells_nothing (Ok x) read = read ≡ Ok x
GivesUnless tells_nothing (Err fault) read = Unless (tells_nothing fault) (read ≡ Err fault)
