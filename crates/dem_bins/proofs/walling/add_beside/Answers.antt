use Rattle.std.proofs.Common.{◌++◌, List, sym, ap, ◌∙◌}
use Rattle.std.proofs.lemmas.List.{append-nil}
use Rattle.dem_model.specs.declared.state.Pair.{Pair}
use Rattle.dem_bins.proofs.FaceFacts.{far-none}
use Rattle.dem_bins.proofs.walling.add_beside.Goals as goal

pub returns-then-is_beyond-clause-found : goal.returns-then-is_beyond-clause-found
returns-then-is_beyond-clause-found c =
    sym (append-nil c.args.raw.now.pairs)
    ∙ ap (λ (ps : List Pair). c.args.raw.now.pairs ++ ps) (sym (far-none c.args.shapes.now c.args.drift c.args.centers.now c.args.pair (c.is_beyond.ensures c.if-is_beyond.true)))
