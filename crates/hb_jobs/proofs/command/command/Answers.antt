use Rattle.std.proofs.Common.{ap₂, ◌∙◌}
use Rattle.std.proofs.lemmas.Result.{IfOk-weaker}
use Rattle.clap.specs.Words.{with_rule}
use Rattle.hb_jobs.proofs.command.command.Goals as goal

pub returns : goal.returns
returns c =
    let one = c.in_ok-command.ensures ∙ ap₂ with_rule c.bare_command.ensures c.command_argument.ensures.rule in
    let two = c.in_ok-command-2.ensures ∙ ap₂ with_rule one c.number_argument.ensures.rule in
    let three = c.in_ok-command-3.ensures ∙ ap₂ with_rule two c.valued.ensures.rule in
    let four = c.in_ok-command-4.ensures ∙ ap₂ with_rule three c.valued-2.ensures.rule in
    let five = c.in_ok-command-5.ensures ∙ ap₂ with_rule four c.valued-3.ensures.rule in
    IfOk-weaker c.with_argument-6.result _ _ (λ r h. h ∙ ap₂ with_rule five c.trace_flag.ensures.rule) c.with_argument-6.ensures
