use Rattle.std.proofs.Common.{length, arith}
use Rattle.dem_outside.proofs.ReadFacts.{Consumes-given, IsAtEnd-none}
use Rattle.dem_outside.proofs.mem_source.MemSourceSource.read.Goals as goal

pub returns-clause-taken : goal.returns-clause-taken
returns-clause-taken c =
    let all = c.self.inside.bytes.items in
    let n = c.give-count.result in
    rw (← c.self.view_is) (
      Consumes-given all _ c.give-count.new.buf c.self.inside.at n c.deref.ensures.value c.give-count.ensures.first,
      λ none some. IsAtEnd-none all _ c.self.inside.at n (length c.args.buf.now) c.self.inside.piece c.deref.ensures.value c.give-count.ensures.count c.self.invariant.1 none (omega arith),
    )
