use Rattle.std.proofs.Common.{sym, subst}
use Rattle.lfi_image.specs.Image.{IsImage}
use Rattle.lfi_machine.proofs.Stepping.{confined_from}
use Rattle.lfi_machine.proofs.machine.Machine.step.Goals as goal

pub returns-clause-confined : goal.returns-clause-confined
returns-clause-confined g c =
    confined_from (record { registers = c.step_on.new.registers; owned = c.step_on.new.slot }) (subst IsImage (sym c.step_on.ensures.image) c.self.invariant.0) c.step_on.ensures.safe
