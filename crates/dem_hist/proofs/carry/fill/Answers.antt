use Rattle.std.proofs.Common.{subst, ◌∙◌, arith}
use Rattle.dem_hist.specs.Inside.{IsStretch}
use Rattle.dem_hist.proofs.CarryFacts.{AllBefore-all, AllBefore-stretch, entry-none, carried-more, carried-stretch, carried-all}
use Rattle.dem_hist.proofs.carry.fill.Goals as goal

pub loop-j-preserved-then-count-eq0 : goal.loop-j-preserved-then-count-eq0
loop-j-preserved-then-count-eq0 c = record {
  filled =
      let on : IsStretch c.args.old.now.pairs c.reached-at.result c.args.new.now.pairs c.loop-j.j 0 = subst (λ n. IsStretch c.args.old.now.pairs c.reached-at.result c.args.new.now.pairs c.loop-j.j n) c.if-count-eq0.true c.stretch-count.ensures in
      c.in_ok-pushed.ensures ∙ carried-more _ _ _ _ _ _ _ c.loop-j.invariant.filled c.get.ensures (entry-none _ _ _ _ _ _ c.len-pairs.ensures.ascending c.reached-at.ensures on c.get.ensures);
  within = c.reached-at.ensures.within;
  before = λ m d le lt. AllBefore-all _ _ _ _ _ c.len.ensures.ascending c.get.ensures c.reached-at.ensures.before m d (omega (arith, le)) lt;
}

pub loop-j-preserved : goal.loop-j-preserved
loop-j-preserved c = record {
  filled = c.in_ok-appended.ensures ∙ carried-stretch _ _ _ _ _ _ _ c.len-pairs.ensures.ascending c.requires c.stretch-count.ensures c.loop-j.invariant.filled;
  within = c.stretch-count.ensures.old_within;
  before = AllBefore-stretch _ _ _ _ _ c.len.ensures.ascending c.stretch-count.ensures (AllBefore-all _ _ _ _ _ c.len.ensures.ascending c.get.ensures c.reached-at.ensures.before);
}

pub returns : goal.returns
returns c = carried-all _ _ _ _ _ c.loop-j.invariant.filled (omega (arith, c.loop-j-test.false, c.len.ensures.value))
