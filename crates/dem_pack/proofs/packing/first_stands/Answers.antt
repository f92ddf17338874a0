use Rattle.std.proofs.Common.{◌∙◌, sym, ap}
use Rattle.std.specs.Prelude.{slice_get}
use Rattle.dem_model.specs.Cells.{cells_of}
use Rattle.dem_pack.specs.Layouts.{lattice_in, region_in}
use Rattle.dem_pack.proofs.StandFacts.{stands-more}
use Rattle.dem_pack.proofs.packing.first_stands.Goals as goal

pub loop-n-preserved : goal.loop-n-preserved
loop-n-preserved c =
    let cells = cells_of (lattice_in c.args.layout.now) (region_in c.args.layout.now) in
    c.in_ok-push.ensures.ok
    ∙ stands-more c.args.ask.now.t cells c.loop-n.n c.cell.result c.loop-n.stands c.loop-n.invariant (ap (slice_get cells) (sym c.from.ensures) ∙ c.cell.ensures)
