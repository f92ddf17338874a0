use Rattle.std.proofs.Common.{◌≡◌, ℕ, ◌+◌, ◌-◌, List, length, take, drop, Some, ap, ◌∙◌, arith}
use Rattle.std.specs.Prelude.{◌==◌}
use Rattle.std.proofs.lemmas.List.{length-drop, take_all}
use Rattle.dem_pack.proofs.CommaFacts.{field-found, field-none}
use Rattle.dem_pack.proofs.read.field_before.Goals as goal

pub returns-then-bytes-i-eq44 : goal.returns-then-bytes-i-eq44
returns-then-bytes-i-eq44 c =
    let bytes = c.args.bytes.now in
    let i = c.loop-i.i in
    let whole : take (length bytes - (i + 1)) (drop (i + 1) bytes) ≡ drop (i + 1) bytes = take_all (length bytes - (i + 1)) (drop (i + 1) bytes) (omega (arith, length-drop (i + 1) bytes)) in
    ap (λ (r : List ℕ). Some (record { says = take i bytes; rest = r })) whole ∙ field-found bytes i c.loop-i-test.true c.loop-i.invariant (ap (λ (n : ℕ). n == 44) c.if-bytes-i-eq44.true)

pub returns : goal.returns
returns c = field-none c.args.bytes.now c.loop-i.i (omega arith) c.loop-i.invariant
