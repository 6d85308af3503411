use Rattle.std.proofs.lemmas.Result.{on_ok_weaker}
use Rattle.lfi_file_commands.proofs.Pushed.{more}
use Rattle.lfi_file_commands.proofs.objects.push_path.Goals as goal

pub returns : goal.returns
returns c = on_ok_weaker c.push_quoted.result (λ last. more _ _ _ _ _ (more _ _ _ _ _ c.in_ok-push_before.ensures c.in_ok-push_plain.ensures) last) c.push_quoted.ensures
