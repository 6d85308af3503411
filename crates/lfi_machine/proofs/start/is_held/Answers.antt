use Rattle.std.proofs.Common.{◌≡◌, Some, None, refl, sym, ◌∙◌}
use Rattle.lfi_machine.proofs.Starting.{held_of, none_of}
use Rattle.lfi_machine.proofs.start.is_held.Goals as goal

pub returns-in-None : goal.returns-in-None
returns-in-None c =
    (λ _. held_of c.args.base c.args.registers.now c.refusal.ensures.all (sym c.refusal.ensures.first ∙ c.in-None.is), λ _. refl)

pub returns-in-Some : goal.returns-in-Some
returns-in-Some c =
    (λ h. cc, λ h. let e : None ≡ Some c.in-Some.field-0 = sym (none_of c.args.base c.args.registers.now h) ∙ sym c.refusal.ensures.first ∙ c.in-Some.is in cc)
