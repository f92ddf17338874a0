use Rattle.std.proofs.Common.{◌-◌, ◌+◌, arith, refl}
use Rattle.std.specs.List.{flat_map}
use Rattle.dem_bins.specs.Keys.{row_keys, own_keys, cells_in}
use Rattle.dem_bins.proofs.WalkFacts.{flat-step, range-none, range-end}
use Rattle.dem_bins.proofs.keys.add_own.Goals as goal

pub loop-x-init : goal.loop-x-init
loop-x-init c = range-none (flat_map (row_keys c.args.block.now c.args.i)) c.args.block.now.x.low c.args.keys.now.items refl

pub loop-x-preserved : goal.loop-x-preserved
loop-x-preserved c =
    flat-step (row_keys c.args.block.now c.args.i) c.args.block.now.x.low c.loop-x.x c.args.keys.now.items c.loop-x.keys.items c.add_row.new.keys.items
    (omega arith) c.loop-x.invariant c.in_ok-add_row.ensures

pub returns : goal.returns
unfolding own_keys cells_in
returns c =
    range-end (flat_map (row_keys c.args.block.now c.args.i)) c.args.block.now.x.low c.loop-x.x (c.args.block.now.x.high + 1 - c.args.block.now.x.low) c.args.keys.now.items c.loop-x.keys.items
    (omega (arith, c.loop-x.auto.x-end (omega (arith, c.requires.block.x.order)))) c.loop-x.invariant
