use Rattle.std.proofs.Common.{rules, codes}
use Rattle.clap.specs.Words.{new_app}
use Rattle.lfi_command_line.specs.Apps.{Makes}
use Rattle.lfi_command_line.proofs.commands.check_command.Goals as goal

pub returns : goal.returns
returns c =
    let made : Makes (new_app (codes "check")) c.after_help-check.result = search rules in
    let explain = c.with-explain.ensures _ _ made c.flag.ensures.rule c.flag.ensures.local in
    let all = c.with-all.ensures _ _ explain c.flag-2.ensures.rule c.flag-2.ensures.local in
    let profile = c.with-profile.ensures _ _ all c.profile_argument.ensures.rule c.profile_argument.ensures.local in
    let files = c.with-files.ensures _ _ profile c.several_arguments.ensures.rule c.several_arguments.ensures.local in
    c.with.ensures _ _ files c.format_argument.ensures.rule c.format_argument.ensures.local
