use Rattle.dem_model.specs.Facet.{way}
use Rattle.dem_facet.specs.Beside.{AreProducts}
use Rattle.dem_facet.proofs.CloseFacts.{good_close, ab_close, ac_close}
use Rattle.dem_facet.proofs.FitFacts.{are_fit, products_from}
use Rattle.dem_facet.proofs.products.products_at.Goals as goal

pub short_side-requires : goal.short_side-requires
short_side-requires c = record { close = ab_close c.args.a c.args.b c.args.c (good_close c.args.a c.args.b c.args.c c.requires.good) }

pub short_side-requires-2 : goal.short_side-requires-2
short_side-requires-2 c = record { close = ac_close c.args.a c.args.b c.args.c (good_close c.args.a c.args.b c.args.c c.requires.good) }

pub returns-clause-fit : goal.returns-clause-fit
returns-clause-fit c =
    let value : AreProducts (way c.args.a c.args.b) (way c.args.a c.args.c) (way c.args.a c.args.s) (way c.args.b c.args.s) (way c.args.c c.args.s) c.products_of.result =
    products_from _ _ _ _ _ _ _ _ _ _ c.products_of.result
    c.short_side.ensures.value c.short_side-2.ensures.value c.side.ensures.value c.side-2.ensures.value c.side-3.ensures.value
    c.products_of.ensures in
    are_fit c.args.a c.args.b c.args.c c.args.s c.products_of.result c.requires.good c.requires.beside value
