use Rattle.std.proofs.Common.{◌≡◌, sym, ◌∙◌}
use Rattle.dem_model.specs.Cells.{cells_of, layer_count}
use Rattle.dem_pack.specs.Layouts.{lattice_in, region_in}
use Rattle.dem_pack.proofs.LayerFacts.{cell-count}
use Rattle.dem_pack.proofs.layout.Layout.cells.Goals as goal

pub returns : goal.returns
unfolding cells_of
returns c =
    let l = lattice_in c.args.self.now in
    let region = region_in c.args.self.now in
    let count = cell-count l region (layer_count l region) in
    let layers : c.from-layers.result ≡ layer_count l region = c.from-layers.ensures ∙ c.layers.ensures.value in
    rw (layers, c.layer.ensures.value, c.layer-2.ensures.value) (sym count)
