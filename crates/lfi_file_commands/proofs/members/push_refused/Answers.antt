use Rattle.std.proofs.Common.{◌≡◌, ◌∙◌, ◌++◌, ap, codes}
use Rattle.std.specs.Prelude.{length, string_bytes}
use Rattle.std.proofs.lemmas.Result.{on_ok_weaker}
use Rattle.lfi_explain.specs.Explanations.{mended_among}
use Rattle.lfi_model.specs.Texts.{lines_from}
use Rattle.lfi_file_commands.specs.Json.{counts_members, refused_item}
use Rattle.lfi_file_commands.proofs.Pushed.{more, more_as}
use Rattle.lfi_file_commands.proofs.members.push_refused.Goals as goal

pub returns : goal.returns
returns c =
    let old = string_bytes c.args.text.now in
    let did = c.in_ok-counts.ensures in
    let counts = c.in_ok-counts.counts in
    let first = codes ",\"refused\":[" in
    let items = lines_from refused_item 0 did.0 in
    let same : counts_members counts.refused counts.mended ≡ counts_members (length did.0) (mended_among did.0) =
    ap (λ n. counts_members n counts.mended) did.2 ∙ ap (λ n. counts_members (length did.0) n) did.3 in
    let one = more old _ _ first items c.in_ok-push_plain.ensures did.4 in
    on_ok_weaker c.push_counts.result
    (λ last. (did.0, did.1, more_as old _ _ (first ++ items) (counts_members counts.refused counts.mended) (counts_members (length did.0) (mended_among did.0)) same one last)) c.push_counts.ensures
