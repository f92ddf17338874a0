use Rattle.std.proofs.Common.{ℕ, ◌+◌, arith, ap₂, ◌∙◌}
use Rattle.dem_bins.specs.Keys.{key_of, sphere_in}
use Rattle.dem_bins.specs.Walk.{end_of}
use Rattle.dem_bins.specs.declared.blocks.Block.{Block}
use Rattle.dem_bins.proofs.KeyFacts.{column_in-small}
use Rattle.dem_bins.proofs.WalkFacts.{block_at-read}
use Rattle.dem_bins.proofs.walking.end_after.Goals as goal

pub key-requires-clause-column : goal.key-requires-clause-column
key-requires-clause-column c = omega (arith, c.column_of_key.ensures, column_in-small c.args.first c.requires.key.small)

pub returns : goal.returns
unfolding end_of
returns c =
    c.key.ensures
    ∙ ap₂ (λ (k : ℕ) (b : Block). key_of k (b.z.high + 1) 0) c.column_of_key.ensures (block_at-read c.args.blocks.now c.sphere_of.result (sphere_in c.args.first) _ c.sphere_of.ensures c.requires.key.sphere)
