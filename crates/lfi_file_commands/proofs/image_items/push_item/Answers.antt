use Rattle.std.proofs.lemmas.Result.{on_ok_weaker}
use Rattle.lfi_file_commands.proofs.Pushed.{more}
use Rattle.lfi_file_commands.proofs.image_items.push_item.Goals as goal

pub returns : goal.returns
returns c =
    on_ok_weaker c.push_plain-2.result
    (λ last. more _ _ _ _ _ (more _ _ _ _ _ (more _ _ _ _ _ (more _ _ _ _ _ c.in_ok-push_comma.ensures c.in_ok-push_plain.ensures) c.in_ok-push_path.ensures) c.in_ok-push_error.ensures) last)
    c.push_plain-2.ensures
