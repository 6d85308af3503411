use Rattle.std.proofs.Common.{rules, codes}
use Rattle.clap.specs.Words.{new_app}
use Rattle.lfi_command_line.specs.Apps.{Makes}
use Rattle.lfi_command_line.proofs.commands.serve_command.Goals as goal

pub returns : goal.returns
returns c =
    let made : Makes (new_app (codes "serve")) c.after_help-serve.result = search rules in
    let socket = c.with-socket.ensures _ _ made c.socket_argument.ensures.rule c.socket_argument.ensures.local in
    let connections = c.with-connections.ensures _ _ socket c.connections_argument.ensures.rule c.connections_argument.ensures.local in
    let verifiers = c.with-verifiers.ensures _ _ connections c.verifiers_argument.ensures.rule c.verifiers_argument.ensures.local in
    let seconds = c.with-seconds.ensures _ _ verifiers c.number_argument.ensures.rule c.number_argument.ensures.local in
    let out = c.with-out.ensures _ _ seconds c.out_argument.ensures.rule c.out_argument.ensures.local in
    let explain = c.with-explain.ensures _ _ out c.explain_modules.ensures.rule c.explain_modules.ensures.local in
    c.with.ensures _ _ explain c.format_argument.ensures.rule c.format_argument.ensures.local
