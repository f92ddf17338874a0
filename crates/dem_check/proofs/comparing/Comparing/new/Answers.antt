use Rattle.std.proofs.Common.{◌≡◌, [], inl, refl, true≢false, subst, sym, rules, arith}
use Rattle.dem_check.specs.Cuts.{HasNoNewline}
use Rattle.dem_check.proofs.ComparisonFacts.{bytes-from}
use Rattle.dem_check.proofs.comparing.Comparing.new.Goals as goal

pub invariant_of-result : goal.invariant_of-result
invariant_of-result c =
    let empty : c.new.result.items ≡ [] = search rules in
    record {
      bytes = bytes-from c.args.text.now (λ i. (c.type_inv.text i).fits);
      within = omega arith;
      parted = λ x xs e. cc;
      ended = λ e. absurd (true≢false (sym e));
      going = λ _. subst HasNoNewline (sym empty) tt;
      stops = inl refl;
    }
