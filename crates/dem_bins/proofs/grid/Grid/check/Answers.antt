use Rattle.std.proofs.Common.{ℕ, ◌≡◌, ◌+◌, ◌*◌, ◌/◌, ◌∙◌, ap, ap₂, arith}
use Rattle.dem_bins.specs.Bins.{GridValue, greatest_reach, side_of, grid_of, cells_across}
use Rattle.dem_bins.specs.declared.grid.BinTooSmall.{BinTooSmall}
use Rattle.dem_bins.proofs.grid.Grid.check.Goals as goal

pub returns-then-cells-gt-MAX_CELLS-clause-refused : goal.returns-then-cells-gt-MAX_CELLS-clause-refused
unfolding cells_across grid_of
returns-then-cells-gt-MAX_CELLS-clause-refused c =
    let most : c.greatest-most.result ≡ greatest_reach c.args.shapes.now c.args.drift = c.greatest-most.ensures.value in
    let bin : c.side-bin.result ≡ side_of c.args.bin (greatest_reach c.args.shapes.now c.args.drift) = c.side-bin.ensures.value ∙ ap (side_of c.args.bin) most in
    let refused : ℕ → BinTooSmall = λ (cells : ℕ). record { cells = cells; limit = 8 } in
    ap refused (ap₂ (λ (m n : ℕ). 2 * m / n + 2) most bin)

pub returns-clause-grid : goal.returns-clause-grid
unfolding grid_of
returns-clause-grid c =
    let grid : ℕ → GridValue = λ (bin : ℕ). record { drift = c.args.drift; bin = bin } in
    ap grid (c.side-bin.ensures.value ∙ ap (side_of c.args.bin) c.greatest-most.ensures.value)

pub returns-clause-fits : goal.returns-clause-fits
unfolding cells_across
returns-clause-fits c = record {
  drift = c.requires.drift;
  some = c.side-bin.ensures.some;
  most = c.side-bin.ensures.size;
  few = (let most : c.greatest-most.result ≡ greatest_reach c.args.shapes.now c.args.drift = c.greatest-most.ensures.value in
      let same : 2 * c.greatest-most.result / c.side-bin.result + 2 ≡ 2 * greatest_reach c.args.shapes.now c.args.drift / c.side-bin.result + 2 = ap (λ (m : ℕ). 2 * m / c.side-bin.result + 2) most in
      omega (arith, same, c.if-cells-gt-MAX_CELLS.false));
}
