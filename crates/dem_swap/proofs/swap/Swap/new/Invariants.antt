use Rattle.dem_model.specs.Exchange.{terms_of}
use Rattle.dem_swap.proofs.swap.Swap.new.Given as goal

abbrev pub ghosts-begin : goal.ghosts-begin
ghosts-begin a = record { terms = terms_of a.shapes.now a.drift }
