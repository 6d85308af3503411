use Rattle.std.proofs.Common.{rules, codes}
use Rattle.clap.specs.Words.{new_app}
use Rattle.lfi_command_line.specs.Apps.{Makes}
use Rattle.lfi_command_line.proofs.commands.disassemble_command.Goals as goal

pub returns : goal.returns
returns c =
    let made : Makes (new_app (codes "disassemble")) c.after_help-disassemble.result = search rules in
    let check = c.with-check.ensures _ _ made c.flag.ensures.rule c.flag.ensures.local in
    let profile = c.with-profile.ensures _ _ check c.profile_argument.ensures.rule c.profile_argument.ensures.local in
    c.with.ensures _ _ profile c.required_argument.ensures.rule c.required_argument.ensures.local
