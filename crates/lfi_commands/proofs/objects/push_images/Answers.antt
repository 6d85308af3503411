use Rattle.std.proofs.Common.{◌++◌, codes, decimal}
use Rattle.std.specs.Prelude.{string_bytes}
use Rattle.std.proofs.lemmas.Result.{on_ok_weaker}
use Rattle.lfi_file_commands.proofs.Pushed.{more}
use Rattle.lfi_commands.proofs.objects.push_images.Goals as goal

pub returns : goal.returns
returns c =
    let old = string_bytes c.args.text.now in
    let first = codes "],\"strays\":" ++ decimal c.args.strays in
    let second = codes ",\"images\":[" in
    let items = c.args.images.now in
    let end = codes "]}\n" in
    let one = more old _ _ first second c.in_ok-push_strays.ensures c.in_ok-push_plain.ensures in
    let two = more old _ _ (first ++ second) items one c.in_ok-push_plain-2.ensures in
    on_ok_weaker c.push_plain-3.result (λ last. more old _ _ (first ++ second ++ items) end two last) c.push_plain-3.ensures
