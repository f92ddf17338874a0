use Rattle.std.proofs.Common.{◌≡◌, ◌∙◌, rules, ap, ap₂, codes}
use Rattle.std.proofs.lemmas.Result.{IfOk-weaker}
use Rattle.clap.specs.Words.{App, app_of, rule_of, with_rule}
use Rattle.dem_words.specs.CommandLine.{command_with_mode, command_with_options, flag_rule, mode_rule, option_rule}
use Rattle.dem_words.proofs.command.command.Goals as goal

pub returns : goal.returns
returns c =
    let mode_is : rule_of c.required-mode.result ≡ mode_rule = search rules in
    let first : app_of c.in_ok-dem.dem ≡ command_with_mode = c.in_ok-dem.ensures.shape (search rules) ∙ ap₂ with_rule c.new-2.ensures.app mode_is in
    let options : app_of c.in_ok-dem-6.dem ≡ command_with_options =
    c.in_ok-dem-6.ensures
    ∙ ap (λ (a : App). with_rule a (option_rule (codes "count")))
    (c.in_ok-dem-5.ensures
    ∙ ap (λ (a : App). with_rule a (option_rule (codes "seed")))
    (c.in_ok-dem-4.ensures
    ∙ ap (λ (a : App). with_rule a (option_rule (codes "turns")))
    (c.in_ok-dem-3.ensures
    ∙ ap (λ (a : App). with_rule a (option_rule (codes "bin"))) (c.in_ok-dem-2.ensures ∙ ap (λ (a : App). with_rule a (option_rule (codes "drift"))) first)))) in
    IfOk-weaker c.with_flag-2.result _ _
    (λ r e. e ∙ ap (λ (a : App). with_rule a (flag_rule (codes "split"))) (c.in_ok-dem-7.ensures ∙ ap (λ (a : App). with_rule a (flag_rule (codes "report"))) options))
    c.with_flag-2.ensures
