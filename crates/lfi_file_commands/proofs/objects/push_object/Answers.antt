use Rattle.std.proofs.lemmas.Result.{on_ok_weaker}
use Rattle.lfi_file_commands.proofs.Pushed.{more}
use Rattle.lfi_file_commands.proofs.objects.push_object.Goals as goal

pub returns : goal.returns
returns c =
    let did = c.in_ok-push_finding.ensures in
    on_ok_weaker c.push_plain.result
    (λ last. (did.0, did.1, more _ _ _ _ _ (more _ _ _ _ _ (more _ _ _ _ _ c.in_ok-push_path.ensures c.in_ok-push_profile.ensures) did.2) last)) c.push_plain.ensures
