use Rattle.std.proofs.Common.{◌∙◌}
use Rattle.dem_gen.proofs.ListFacts.{no_templates, more_templates, all_made, one_later}
use Rattle.dem_gen.proofs.WordFacts.{none_yet}
use Rattle.dem_gen.proofs.template.templates.Goals as goal

pub loop-j-init : goal.loop-j-init
loop-j-init c = (c.new-templates.ensures ∙ no_templates c.args.words.now, none_yet c.args.words.now)

pub loop-j-preserved : goal.loop-j-preserved
loop-j-preserved c = (
  c.in_ok-push.ensures.ok ∙ more_templates c.args.words.now c.loop-j.words c.loop-j._j _ _ c.loop-j.invariant.0 c.loop-j.invariant.1 c.in_ok-template.ensures.value,
  one_later c.args.words.now c.loop-j.words c.loop-j._j _ c.loop-j.invariant.1 c.in_ok-template.ensures.after,
)

pub returns-clause-value : goal.returns-clause-value
returns-clause-value c = all_made c.args.words.now c.loop-j._j _ c.loop-j.auto._j-end c.loop-j-test.false c.loop-j.invariant.0
