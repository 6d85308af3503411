use Rattle.tests_commands.proofs.Told.{lawful_object, lawful_told}
use Rattle.tests_commands.proofs.laws.lawful_code_is_told_lawful.Goals as goal

pub returns-clause-line : goal.returns-clause-line
returns-clause-line a asked path bytes old new is = lawful_told asked.profile asked.explain path bytes old new is.finding is.found is.written is.told is.put is.ends

pub returns-clause-object : goal.returns-clause-object
returns-clause-object a asked before path bytes old new is = lawful_object asked before path bytes old new is.finding is.object is.is is.written is.told is.put is.ends
