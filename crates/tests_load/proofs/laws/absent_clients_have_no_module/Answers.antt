use Rattle.tests_load.proofs.Held.{none_of_nothing, opened_held}
use Rattle.tests_load.proofs.laws.absent_clients_have_no_module.Goals as goal

pub returns-clause-absent : goal.returns-clause-absent
returns-clause-absent a connections verifiers limit served is c m within in_range gone =
    none_of_nothing connections is.is.texts is.is.causes is.is.claims served.report is.is.reports c m within in_range (is.absent c within gone)

pub returns-clause-opened : goal.returns-clause-opened
returns-clause-opened a connections verifiers limit served is c m messages rest within in_range cut opens =
    opened_held connections is.is.texts is.is.causes is.is.claims served.report is.is.reports c m messages rest within in_range cut opens
