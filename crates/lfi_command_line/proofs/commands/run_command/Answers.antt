use Rattle.std.proofs.Common.{rules, codes}
use Rattle.clap.specs.Words.{new_app}
use Rattle.lfi_command_line.specs.Apps.{Makes}
use Rattle.lfi_command_line.proofs.commands.run_command.Goals as goal

pub returns : goal.returns
returns c =
    let made : Makes (new_app (codes "run")) c.after_help-run.result = search rules in
    let steps = c.with-steps.ensures _ _ made c.steps_argument.ensures.rule c.steps_argument.ensures.local in
    let image = c.with-image.ensures _ _ steps c.required_argument.ensures.rule c.required_argument.ensures.local in
    c.with.ensures _ _ image c.format_argument.ensures.rule c.format_argument.ensures.local
