use Rattle.std.proofs.Common.{◌+◌, ◌*◌, w64, arith}
use Rattle.std.proofs.lemmas.Int.{to_z_pos}
use Rattle.dem_model.specs.Cells.{place_at}
use Rattle.dem_pack.specs.Layouts.{span_of}
use Rattle.dem_pack.proofs.SpanFacts.{place-inside}
use Rattle.dem_pack.proofs.place.place.Goals as goal

pub overflow_mul-result : goal.overflow_mul-result
overflow_mul-result c =
    let inside = place-inside c.args.extent c.args.pitch (span_of c.args.s.now) c.args.i c.requires.there in
    omega (arith, inside, c.requires.high)

pub overflow_add-result-2 : goal.overflow_add-result-2
overflow_add-result-2 c =
    let inside = place-inside c.args.extent c.args.pitch (span_of c.args.s.now) c.args.i c.requires.there in
    omega (arith, inside, c.requires.high)

pub overflow_cast-result : goal.overflow_cast-result
overflow_cast-result c =
    let inside = place-inside c.args.extent c.args.pitch (span_of c.args.s.now) c.args.i c.requires.there in
    omega (arith, inside, c.requires.high)

pub returns : goal.returns
unfolding place_at
returns c =
    let inside = place-inside c.args.extent c.args.pitch (span_of c.args.s.now) c.args.i c.requires.there in
    to_z_pos w64 (c.args.s.now.low + c.args.extent + c.args.i * c.args.pitch) (omega (arith, inside, c.requires.high))
