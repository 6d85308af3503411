use Rattle.std.proofs.Common.{rules, codes}
use Rattle.clap.specs.Words.{new_app}
use Rattle.lfi_command_line.specs.Apps.{Makes}
use Rattle.lfi_command_line.proofs.commands.pack_command.Goals as goal

pub returns : goal.returns
returns c =
    let made : Makes (new_app (codes "pack")) c.after_help-pack.result = search rules in
    let module' = c.with-module.ensures _ _ made c.number_argument.ensures.rule c.number_argument.ensures.local in
    let entry = c.with-entry.ensures _ _ module' c.number_argument-2.ensures.rule c.number_argument-2.ensures.local in
    let profile = c.with-profile.ensures _ _ entry c.profile_argument.ensures.rule c.profile_argument.ensures.local in
    let pages = c.with-pages.ensures _ _ profile c.option_argument.ensures.rule c.option_argument.ensures.local in
    c.with.ensures _ _ pages c.several_arguments.ensures.rule c.several_arguments.ensures.local
