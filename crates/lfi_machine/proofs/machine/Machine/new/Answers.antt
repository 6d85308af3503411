use Rattle.std.proofs.Common.{◌≡◌, ◌≤◌, ℕ, List, length, None, sym, ap, ◌∙◌, subst, arith, vec_capacity}
use Rattle.a64_word.specs.declared.instruction.Instruction.{Instruction}
use Rattle.lfi_module.specs.Numbers.{base_of}
use Rattle.lfi_image.specs.Image.{Image, IsImage}
use Rattle.lfi_confinement.specs.Slots.{base}
use Rattle.lfi_confinement.specs.Lawful.{Held}
use Rattle.lfi_confinement.proofs.Confinement.{safe_start}
use Rattle.lfi_machine.specs.Starts.{refusal_of}
use Rattle.lfi_machine.specs.inner.Decoded.{AreDecoded}
use Rattle.lfi_machine.proofs.Decoding.{decoded_none}
use Rattle.lfi_machine.proofs.Starting.{held_of}
use Rattle.lfi_machine.proofs.Stepping.{confined_from}
use Rattle.lfi_machine.proofs.machine.Machine.new.Goals as goal

pub returns-in-Ok-new-clause-held : goal.returns-in-Ok-new-clause-held
returns-in-Ok-new-clause-held c =
    let from : c.base.result ≡ base_of c.args.image.slot = c.base.ensures ∙ ap base_of c.slot.ensures in
    let none : refusal_of c.base.result c.args.registers ≡ None = sym c.refusal.ensures.first ∙ c.in_default.is in
    subst (λ (b : ℕ). Held b c.args.registers) from (held_of c.base.result c.args.registers c.refusal.ensures.all none)

pub invariant_of-result : goal.invariant_of-result
invariant_of-result c =
    let from : c.base.result ≡ base_of c.args.image.slot = c.base.ensures ∙ ap base_of c.slot.ensures in
    let none : refusal_of c.base.result c.args.registers ≡ None = sym c.refusal.ensures.first ∙ c.in_default.is in
    let held : Held (base c.args.image) c.args.registers = subst (λ (b : ℕ). Held b c.args.registers) from (held_of c.base.result c.args.registers c.refusal.ensures.all none) in
    let same = sym c.in-Ok-new.ensures.image in (
      subst IsImage same c.words.ensures.lawful,
      safe_start c.in-Ok-new.slot.image c.args.registers (subst (λ (m : Image). Held (base m) c.args.registers) same held),
      subst (λ (xs : List Instruction). AreDecoded c.in-Ok-new.slot.image.profile xs c.in-Ok-new.slot.image.words) (sym c.in-Ok.ensures.items) (decoded_none c.in-Ok-new.slot.image.profile c.in-Ok-new.slot.image.words),
      subst (λ (m : Image). length m.words ≤ vec_capacity c.in-Ok.instructions) same (omega (arith, c.in-Ok.ensures.capacity, c.words.ensures.count, c.number-count.ensures.value)),
    )

pub returns-in-Ok-new-clause-confined : goal.returns-in-Ok-new-clause-confined
returns-in-Ok-new-clause-confined c =
    let from : c.base.result ≡ base_of c.args.image.slot = c.base.ensures ∙ ap base_of c.slot.ensures in
    let none : refusal_of c.base.result c.args.registers ≡ None = sym c.refusal.ensures.first ∙ c.in_default.is in
    let held : Held (base c.args.image) c.args.registers = subst (λ (b : ℕ). Held b c.args.registers) from (held_of c.base.result c.args.registers c.refusal.ensures.all none) in
    let same = sym c.in-Ok-new.ensures.image in
    confined_from (record { registers = c.args.registers; owned = c.in-Ok-new.slot }) (subst IsImage same c.words.ensures.lawful)
    (safe_start c.in-Ok-new.slot.image c.args.registers (subst (λ (m : Image). Held (base m) c.args.registers) same held))
