use Rattle.std.proofs.Common.{rules, codes}
use Rattle.clap.specs.Words.{new_app}
use Rattle.lfi_command_line.specs.Apps.{Makes}
use Rattle.lfi_command_line.proofs.commands.unpack_command.Goals as goal

pub returns : goal.returns
returns c =
    let made : Makes (new_app (codes "unpack")) c.after_help-unpack.result = search rules in
    c.with.ensures _ _ made c.required_argument.ensures.rule c.required_argument.ensures.local
