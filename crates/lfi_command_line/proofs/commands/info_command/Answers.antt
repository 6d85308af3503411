use Rattle.std.proofs.Common.{rules, codes}
use Rattle.clap.specs.Words.{new_app}
use Rattle.lfi_command_line.specs.Apps.{Makes}
use Rattle.lfi_command_line.proofs.commands.info_command.Goals as goal

pub returns : goal.returns
returns c =
    let made : Makes (new_app (codes "info")) c.after_help-info.result = search rules in
    c.with.ensures _ _ made c.several_arguments.ensures.rule c.several_arguments.ensures.local
