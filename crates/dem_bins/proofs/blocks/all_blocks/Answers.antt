use Rattle.std.proofs.Common.{◌≡◌, ◌++◌, ◌∷◌, [], ◌∙◌, ap, arith, rules, map}
use Rattle.std.specs.List.{range_with_len}
use Rattle.dem_bins.specs.Blocks.{block_of, blocks_of}
use Rattle.dem_bins.specs.declared.blocks.Block.{Block}
use Rattle.dem_bins.proofs.WalkFacts.{map-next}
use Rattle.dem_bins.proofs.blocks.all_blocks.Goals as goal

pub loop-i-preserved : goal.loop-i-preserved
loop-i-preserved c =
    map-next (block_of c.args.shapes.now c.args.grid.now c.args.centers.now) c.loop-i.i c.loop-i.blocks.items c.push.new.self.items c.loop-i.invariant
    (let pushed : c.push.new.self.items ≡ c.loop-i.blocks.items ++ c.block_around.result ∷ [] = search rules in
    pushed ∙ ap (λ (b : Block). c.loop-i.blocks.items ++ b ∷ []) c.block_around.ensures)

pub returns : goal.returns
unfolding blocks_of
returns c = c.loop-i.invariant ∙ ap (λ n. map (block_of c.args.shapes.now c.args.grid.now c.args.centers.now) (range_with_len 0 n)) (omega arith)
