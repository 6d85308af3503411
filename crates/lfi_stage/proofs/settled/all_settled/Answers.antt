use Rattle.lfi_stage.proofs.Told.{claimed_come, nothing_come}
use Rattle.lfi_stage.proofs.settled.all_settled.Goals as goal

pub returns-clause-claimed : goal.returns-clause-claimed
returns-clause-claimed c = λ count puts takes sequences texts causes claimed items faults strays kept settles makes apart m in_range d within mine.
    claimed_come count puts takes sequences texts causes claimed items faults strays kept settles makes m in_range d apart within mine

pub returns-clause-unclaimed : goal.returns-clause-unclaimed
returns-clause-unclaimed c = nothing_come
