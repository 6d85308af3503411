use Rattle.std.proofs.Common.{◌≡◌, ◌∙◌, [], ◌∷◌, ◌++◌, option_map}
use Rattle.std.specs.Prelude.{string_bytes}
use Rattle.std.proofs.lemmas.Result.{on_ok_weaker}
use Rattle.lfi_model.specs.Texts.{lines_from}
use Rattle.lfi_file_commands.specs.Images.{Fate}
use Rattle.lfi_file_commands.specs.Json.{image_item}
use Rattle.lfi_file_commands.proofs.Items.{comma_of, item_more, kept_by, kept_known}
use Rattle.lfi_file_commands.proofs.image_items.ImageItems.keep.Goals as goal

pub returns : goal.returns
returns c = λ fates are.
    let folder = c.args.folder.now in
    let items = c.args.self.now in
    let pushed = c.push_item-pushed in
    let fate : Fate = record { image = c.args.image.now; failure = option_map (λ f. f.now) c.args.failure } in
    let before = c.before_next-before in
    let old = kept_known (λ text. text ≡ lines_from (image_item folder) 0 fates) items.is_kept (string_bytes items.text) c.if-not-self.false are in
    let comma = comma_of folder fates c.as_str.result.now before.result (c.as_str.ensures.value ∙ old) before.ensures.none before.ensures.some in
    kept_by (λ text. text ≡ lines_from (image_item folder) 0 (fates ++ fate ∷ [])) pushed.result c.is_ok-self.result (string_bytes pushed.new.text) c.is_ok-self.ensures.value
    (on_ok_weaker pushed.result (λ same. item_more folder fates fate (string_bytes items.text) (string_bytes pushed.new.text) before.result comma old same) pushed.ensures)
