use Rattle.lfi_rules.proofs.Following as following
use Rattle.lfi_rules.proofs.laws.fault_stays.Goals as goal

pub returns-clause-within : goal.returns-clause-within
returns-clause-within c = following.fault_within

pub returns-clause-stays : goal.returns-clause-stays
returns-clause-stays c = following.fault_stays

pub returns-clause-less : goal.returns-clause-less
returns-clause-less c = following.faultless_less

pub returns-clause-comes : goal.returns-clause-comes
returns-clause-comes c = following.fault_comes
