use Rattle.std.proofs.Common.{◌≡◌, ◌/◌, ◌%◌, ◌<◌, w64, pos, sym, ap, ◌∙◌, subst}
use Rattle.std.proofs.lemmas.Int.{to_z-of_z}
use Rattle.std.proofs.lemmas.Nat.{mod_below}
use Rattle.dem_model.specs.Cells.{Span, layer_count, place_at, shifted_at}
use Rattle.dem_pack.specs.Layers.{cell_in, grid_cell, columns_of}
use Rattle.dem_pack.specs.Layouts.{lattice_in, region_in}
use Rattle.dem_pack.proofs.CellFacts.{has-columns, in-row}
use Rattle.dem_pack.proofs.layout.Layout.cell_in.Goals as goal

pub nonzero_rem-m : goal.nonzero_rem-m
nonzero_rem-m c = subst (λ n. 0 < n) (sym c.across-columns.ensures.value) (has-columns (lattice_in c.args.self.now) (region_in c.args.self.now) c.args.k c.args.m c.requires.there)

pub nonzero_div-m : goal.nonzero_div-m
nonzero_div-m c = subst (λ n. 0 < n) (sym c.across-columns.ensures.value) (has-columns (lattice_in c.args.self.now) (region_in c.args.self.now) c.args.k c.args.m c.requires.there)

pub place-requires-clause-there : goal.place-requires-clause-there
place-requires-clause-there c =
    rw (c.shifted-x.ensures.value, c.across-columns.ensures.value)
    (mod_below c.args.m (columns_of (lattice_in c.args.self.now) (region_in c.args.self.now) c.args.k) (has-columns (lattice_in c.args.self.now) (region_in c.args.self.now) c.args.k c.args.m c.requires.there))

pub place-requires-2-clause-there : goal.place-requires-2-clause-there
place-requires-2-clause-there c =
    rw (c.shifted-y.ensures.value, c.across-columns.ensures.value)
    (in-row (lattice_in c.args.self.now) (region_in c.args.self.now) c.args.k c.args.m c.requires.there)

pub place-requires-3-clause-there : goal.place-requires-3-clause-there
unfolding layer_count
place-requires-3-clause-there c = c.requires.layer

pub returns : goal.returns
unfolding cell_in grid_cell
returns c =
    let self = c.args.self.now in
    let l = lattice_in self in
    let region = region_in self in
    let x-low : c.shifted-x.result.low ≡ (shifted_at l c.args.k region.x).low = ap (λ (s : Span). s.low) c.shifted-x.ensures.value in
    let y-low : c.shifted-y.result.low ≡ (shifted_at l c.args.k region.y).low = ap (λ (s : Span). s.low) c.shifted-y.ensures.value in
    let column : c.args.m % c.across-columns.result ≡ c.args.m % columns_of l region c.args.k = ap (λ n. c.args.m % n) c.across-columns.ensures.value in
    let row : c.args.m / c.across-columns.result ≡ c.args.m / columns_of l region c.args.k = ap (λ n. c.args.m / n) c.across-columns.ensures.value in
    let x = to_z-of_z w64 c.place.result (record { sfits = c.place.type_inv }) ∙ c.place.ensures ∙ ap (λ n. pos (place_at self.extent self.pitch n (c.args.m % c.across-columns.result))) x-low
    ∙ ap (λ n. pos (place_at self.extent self.pitch (shifted_at l c.args.k region.x).low n)) column in
    let y = to_z-of_z w64 c.place-2.result (record { sfits = c.place-2.type_inv }) ∙ c.place-2.ensures ∙ ap (λ n. pos (place_at self.extent self.pitch n (c.args.m / c.across-columns.result))) y-low
    ∙ ap (λ n. pos (place_at self.extent self.pitch (shifted_at l c.args.k region.y).low n)) row in
    let z = to_z-of_z w64 c.place-3.result (record { sfits = c.place-3.type_inv }) ∙ c.place-3.ensures in
    λ i. record { x = x i; y = y i; z = z i }
