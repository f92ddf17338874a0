use Rattle.std.proofs.Common.{◌+◌, ◌-◌, ◌<◌, length, map, refl, sym, ◌∙◌, subst, arith}
use Rattle.std.proofs.lemmas.List.{length-map}
use Rattle.dem_step.specs.Advancing.{AreAdvancedBetween}
use Rattle.dem_step.specs.Stored.{body_of}
use Rattle.dem_step.proofs.AdvanceFacts.{advanced-none, advanced-more, ends-here}
use Rattle.dem_step.proofs.RoomFacts.{length-set}
use Rattle.dem_step.proofs.StoredFacts.{stored_set}
use Rattle.dem_step.proofs.advancing.advance_range.Goals as goal

pub loop-clump-init : goal.loop-clump-init
loop-clump-init c = (advanced-none c.args.shapes.now c.args.bodies.now c.args.loads.now c.args.from (map body_of c.args.next.now), refl, omega arith)

pub returns-in-Err-clause-part : goal.returns-in-Err-clause-part
returns-in-Err-clause-part c =
    ends-here c.args.shapes.now c.args.step c.args.bodies.now c.args.loads.now c.args.from c.args.to c.loop-clump.clump (map body_of c.loop-clump.next) c.in-Err.kind
    c.loop-clump.invariant.2 c.loop-clump-test.true
    (omega (arith, c.loop-clump-test.true, c.requires.room, c.loop-clump.invariant.1, c.loop-clump.invariant.2, length-map c.loop-clump.next body_of))
    c.in-Err.ensures.ended c.loop-clump.invariant.0

pub loop-clump-preserved : goal.loop-clump-preserved
loop-clump-preserved c =
    let room : c.loop-clump.clump - c.args.from < length c.loop-clump.next = omega (arith, c.loop-clump-test.true, c.requires.room, c.loop-clump.invariant.1, c.loop-clump.invariant.2) in (
      subst (AreAdvancedBetween c.args.shapes.now c.args.bodies.now c.args.loads.now c.args.from (c.loop-clump.clump + 1))
          (sym (stored_set c.loop-clump.next (c.loop-clump.clump - c.args.from) c.in-Ok.body (body_of c.in-Ok.body) refl))
          (advanced-more c.args.shapes.now c.args.bodies.now c.args.loads.now c.args.from c.loop-clump.clump (map body_of c.loop-clump.next) (body_of c.in-Ok.body) c.loop-clump.invariant.2
          (omega (arith, room, length-map c.loop-clump.next body_of)) c.in-Ok.ensures.advanced c.loop-clump.invariant.0),
      length-set c.loop-clump.next (c.loop-clump.clump - c.args.from) c.in-Ok.body ∙ c.loop-clump.invariant.1,
      omega (arith, c.loop-clump.invariant.2),
    )
