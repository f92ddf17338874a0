use Rattle.std.proofs.Common.{◌++◌, ◌∙◌, ap, arith, refl}
use Rattle.dem_bins.specs.Blocks.{block_at}
use Rattle.dem_bins.specs.Keys.{own_keys}
use Rattle.dem_bins.specs.declared.blocks.Block.{Block}
use Rattle.dem_bins.proofs.WalkFacts.{flat-next, block_at-read}
use Rattle.dem_bins.proofs.keys.all_keys.Goals as goal

pub loop-i-preserved : goal.loop-i-preserved
loop-i-preserved c =
    flat-next (λ i. own_keys (block_at c.args.blocks.now i) i) c.loop-i.i c.loop-i.keys.items c.add_own.new.keys.items c.loop-i.invariant
    (c.in_ok-add_own.ensures ∙ ap (λ (b : Block). c.loop-i.keys.items ++ own_keys b c.loop-i.i) (block_at-read c.args.blocks.now c.loop-i.i c.loop-i.i _ refl (omega arith)))
