use Rattle.lfi_stage.proofs.OneReport.{one_of_modules, one_of_faults, one_of_holders, one_of_starts, one_of_each, one_of_strays}
use Rattle.lfi_stage.proofs.laws.one_report.Goals as goal

pub returns-clause-outcomes : goal.returns-clause-outcomes
returns-clause-outcomes c = one_of_modules

pub returns-clause-faults : goal.returns-clause-faults
returns-clause-faults c = one_of_faults

pub returns-clause-holders : goal.returns-clause-holders
returns-clause-holders c = one_of_holders

pub returns-clause-starts : goal.returns-clause-starts
returns-clause-starts c = one_of_starts

pub returns-clause-each : goal.returns-clause-each
returns-clause-each c = one_of_each

pub returns-clause-strays : goal.returns-clause-strays
returns-clause-strays c = one_of_strays
