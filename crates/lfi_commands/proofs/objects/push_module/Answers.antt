use Rattle.std.proofs.lemmas.Result.{on_ok_weaker}
use Rattle.lfi_file_commands.proofs.Pushed.{more}
use Rattle.lfi_commands.proofs.objects.push_module.Goals as goal

pub returns : goal.returns
returns c =
    on_ok_weaker c.push_holder.result (λ last. more _ _ _ _ _ (more _ _ _ _ _ (more _ _ _ _ _ c.in_ok-push_comma.ensures c.in_ok-push_outcome.ensures) c.in_ok-push_told.ensures) last) c.push_holder.ensures
