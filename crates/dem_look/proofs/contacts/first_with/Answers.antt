use Rattle.std.proofs.Common.{sym, ap, length}
use Rattle.std.specs.Prelude.{◌==◌, unwrap_or}
use Rattle.std.proofs.lemmas.Bool.{eq-eqb, ne_eqb}
use Rattle.dem_look.specs.Inside.{count_at}
use Rattle.dem_look.proofs.CountFacts.{found-at, passed-by, found-none}
use Rattle.dem_look.proofs.contacts.first_with.Goals as goal

pub returns-then-counts-k : goal.returns-then-counts-k
returns-then-counts-k c =
    sym (ap (λ o. unwrap_or o 0) (found-at (λ k. count_at c.args.counts.now k == c.args.most) (length c.args.counts.now) c.loop-k.k c.loop-k-test.true (eq-eqb _ _ c.if-counts-k.true) c.loop-k.invariant))

pub loop-k-preserved : goal.loop-k-preserved
loop-k-preserved c =
    passed-by (λ k. count_at c.args.counts.now k == c.args.most) (length c.args.counts.now) c.loop-k.k c.loop-k-test.true (ne_eqb _ _ c.if-counts-k.false) c.loop-k.invariant

pub returns : goal.returns
returns c = sym (ap (λ o. unwrap_or o 0) (found-none (λ k. count_at c.args.counts.now k == c.args.most) (length c.args.counts.now) c.loop-k.k c.loop-k-test.false c.loop-k.invariant))
