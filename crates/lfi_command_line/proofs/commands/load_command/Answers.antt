use Rattle.std.proofs.Common.{rules, codes}
use Rattle.clap.specs.Words.{new_app}
use Rattle.lfi_command_line.specs.Apps.{Makes}
use Rattle.lfi_command_line.proofs.commands.load_command.Goals as goal

pub returns : goal.returns
returns c =
    let made : Makes (new_app (codes "load")) c.after_help-load.result = search rules in
    let verifiers = c.with-verifiers.ensures _ _ made c.verifiers_argument.ensures.rule c.verifiers_argument.ensures.local in
    let out = c.with-out.ensures _ _ verifiers c.out_argument.ensures.rule c.out_argument.ensures.local in
    let streams = c.with-streams.ensures _ _ out c.several_arguments.ensures.rule c.several_arguments.ensures.local in
    let explain = c.with-explain.ensures _ _ streams c.explain_modules.ensures.rule c.explain_modules.ensures.local in
    c.with.ensures _ _ explain c.format_argument.ensures.rule c.format_argument.ensures.local
