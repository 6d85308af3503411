use Rattle.std.proofs.Common.{subst}
use Rattle.lfi_commands.specs.Clients.{fate_lines}
use Rattle.lfi_commands.specs.Serving.{IsLimit}
use Rattle.tests_commands.proofs.Told.{not_lost, told_now}
use Rattle.tests_commands.proofs.laws.served_clients_are_told.Goals as goal

pub returns-clause-endless : goal.returns-clause-endless
returns-clause-endless a asked old new ending is none = is.served.endless (subst (λ seconds. IsLimit seconds is.found.clients.limit) none is.limited)

pub returns-clause-told : goal.returns-clause-told
returns-clause-told a connections served asked old new ending is kept =
    (not_lost is.before.is_lost new.is_lost is.lost kept, told_now new.is_lost is.before.errors new.errors (fate_lines served.clients.fates) kept is.told, is.out, is.put)
