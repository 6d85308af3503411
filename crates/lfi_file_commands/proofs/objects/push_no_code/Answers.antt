use Rattle.std.proofs.lemmas.Result.{on_ok_weaker}
use Rattle.lfi_file_commands.proofs.Pushed.{more}
use Rattle.lfi_file_commands.proofs.objects.push_no_code.Goals as goal

pub returns : goal.returns
returns c = on_ok_weaker c.push_kind.result (λ last. more _ _ _ _ _ c.in_ok-push_bad_length.ensures last) c.push_kind.ensures
