use Rattle.std.proofs.Common.{ℕ, ◌≡◌, ◌-◌, ◌+◌, ◌++◌, ◌∷◌, [], ◌∙◌, ap, arith, refl, map, rules}
use Rattle.dem_bins.specs.Keys.{column_of, key_of, row_keys, cells_in}
use Rattle.dem_bins.proofs.WalkFacts.{map-step, range-none, range-end}
use Rattle.dem_bins.proofs.keys.add_row.Goals as goal

pub loop-y-init : goal.loop-y-init
loop-y-init c = range-none (map (λ y. key_of (column_of c.args.x y) c.args.block.now.z.low c.args.i)) c.args.block.now.y.low c.args.keys.now.items refl

pub loop-y-preserved : goal.loop-y-preserved
loop-y-preserved c =
    map-step (λ y. key_of (column_of c.args.x y) c.args.block.now.z.low c.args.i) c.args.block.now.y.low c.loop-y.y c.args.keys.now.items c.loop-y.keys.items c.push.new.self.items
    (omega arith) c.loop-y.invariant
    (let pushed : c.push.new.self.items ≡ c.loop-y.keys.items ++ c.key-key.result ∷ [] = search rules in
    pushed ∙ ap (λ (k : ℕ). c.loop-y.keys.items ++ k ∷ []) (c.key-key.ensures ∙ ap (λ (k : ℕ). key_of k c.args.block.now.z.low c.args.i) c.column.ensures.value))

pub returns : goal.returns
unfolding row_keys cells_in
returns c =
    range-end (map (λ y. key_of (column_of c.args.x y) c.args.block.now.z.low c.args.i)) c.args.block.now.y.low c.loop-y.y (c.args.block.now.y.high + 1 - c.args.block.now.y.low) c.args.keys.now.items c.loop-y.keys.items
    (omega (arith, c.loop-y.auto.y-end (omega (arith, c.requires.block.y.order)))) c.loop-y.invariant
