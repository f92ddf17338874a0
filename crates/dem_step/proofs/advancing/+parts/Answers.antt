use Rattle.std.proofs.Common.{◌+◌, ◌++◌, map, sym, subst, arith, List, Result}
use Rattle.std.proofs.lemmas.List.{length-map, map-append}
use Rattle.dem_model.specs.declared.state.Body.{Body}
use Rattle.dem_model.specs.declared.state.End.{End}
use Rattle.dem_step.specs.Advancing.{AdvancesBetween}
use Rattle.dem_step.specs.Stored.{body_of}
use Rattle.dem_step.proofs.AdvanceFacts.{advances-join}
use Rattle.dem_step.proofs.advancing.+parts.Goals as goal

pub advance_part-returns-clause-part : goal.advance_part-returns-clause-part
advance_part-returns-clause-part g t c =
    subst (λ (bs : List Body). AdvancesBetween c.args.shapes.now c.args.step c.args.bodies.now c.args.loads.now c.args.from c.args.to bs c.earlier.result)
    (sym (map-append body_of c.advance_both-here.new.front c.advance_both-here.new.back))
    (subst (λ (r : Result (Unit {0}) End). AdvancesBetween c.args.shapes.now c.args.step c.args.bodies.now c.args.loads.now c.args.from c.args.to
    (map body_of c.advance_both-here.new.front ++ map body_of c.advance_both-here.new.back) r)
    (sym c.earlier.ensures)
    (advances-join c.args.shapes.now c.args.step c.args.bodies.now c.args.loads.now c.args.from (c.args.from + c.min-low.result) c.args.to
    (map body_of c.advance_both-here.new.front) (map body_of c.advance_both-here.new.back) c.advance_both-here.result.0 c.advance_both-here.result.1
    (omega arith) (omega (arith, c.requires.order))
    (omega (arith, length-map c.advance_both-here.new.front body_of, c.advance_both-here.ensures.front_room, c.split_at_mut-front.ensures.front_len))
    c.advance_both-here.ensures.front c.advance_both-here.ensures.back))
