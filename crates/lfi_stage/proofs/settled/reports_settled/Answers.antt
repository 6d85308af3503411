use Rattle.lfi_stage.proofs.Told.{claimed_told, nothing_told}
use Rattle.lfi_stage.proofs.settled.reports_settled.Goals as goal

pub returns-clause-claimed : goal.returns-clause-claimed
returns-clause-claimed c = λ count puts takes sequences reports texts causes claimed items faults strays kept settles are makes apart m in_range d within mine.
    claimed_told count puts takes sequences texts causes claimed items faults strays kept settles makes m in_range reports are d apart within mine

pub returns-clause-unclaimed : goal.returns-clause-unclaimed
returns-clause-unclaimed c = λ count puts takes sequences reports texts causes claimed items faults strays kept settles are makes m in_range none.
    nothing_told count puts takes sequences texts causes claimed items faults strays kept settles makes m in_range reports are none
