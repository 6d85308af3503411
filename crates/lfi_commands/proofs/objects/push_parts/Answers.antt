use Rattle.std.proofs.Common.{◌++◌, codes}
use Rattle.std.specs.Prelude.{string_bytes}
use Rattle.std.proofs.lemmas.Result.{on_ok_weaker}
use Rattle.lfi_file_commands.proofs.Pushed.{more}
use Rattle.lfi_commands.specs.Objects.{connection_items}
use Rattle.lfi_commands.specs.inner.Known.{known_of}
use Rattle.lfi_commands.proofs.objects.push_parts.Goals as goal

pub returns : goal.returns
returns c =
    let did = c.in_ok-push_modules.ensures in
    let old = string_bytes c.args.text.now in
    let first = codes "{\"modules\":[" in
    let second = codes "],\"connections\":[" in
    let items = connection_items c.args.report.now (known_of c.args.sources.now) in
    let one = more old _ _ first did.0 c.in_ok-push_plain.ensures did.2 in
    let two = more old _ _ (first ++ did.0) second one c.in_ok-push_plain-2.ensures in
    on_ok_weaker c.push_each_connection.result (λ last. (did.0, did.1, more old _ _ (first ++ did.0 ++ second) items two last)) c.push_each_connection.ensures
