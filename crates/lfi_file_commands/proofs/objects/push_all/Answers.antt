use Rattle.std.proofs.Common.{refl}
use Rattle.std.proofs.lemmas.Result.{on_ok_weaker}
use Rattle.lfi_file_commands.specs.Json.{refused_members}
use Rattle.lfi_file_commands.proofs.objects.push_all.Goals as goal

pub returns : goal.returns
returns c = on_ok_weaker c.push_refused.result (λ did. (refused_members did.0, (did.0, did.1, refl), did.2)) c.push_refused.ensures
