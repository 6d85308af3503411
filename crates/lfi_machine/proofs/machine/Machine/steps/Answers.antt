use Rattle.std.proofs.Common.{sym, subst}
use Rattle.lfi_image.specs.Image.{IsImage}
use Rattle.lfi_machine.proofs.Stepping.{confined_from}
use Rattle.lfi_machine.proofs.machine.Machine.steps.Goals as goal

pub returns-clause-confined : goal.returns-clause-confined
returns-clause-confined g c =
    confined_from (record { registers = c.steps_on.new.registers; owned = c.steps_on.new.slot }) (subst IsImage (sym c.steps_on.ensures.image) c.self.invariant.0) c.steps_on.ensures.safe
