use Rattle.std.proofs.lemmas.Result.{on_ok_weaker}
use Rattle.lfi_file_commands.proofs.Pushed.{more}
use Rattle.lfi_commands.proofs.objects.push_connection.Goals as goal

pub returns : goal.returns
returns c =
    on_ok_weaker c.push_members.result (λ last. more _ _ _ _ _ (more _ _ _ _ _ (more _ _ _ _ _ c.in_ok-push_comma.ensures c.in_ok-push_number.ensures) c.in_ok-push_path.ensures) last) c.push_members.ensures
