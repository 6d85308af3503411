use Rattle.std.proofs.Common.{arith, ◌-◌}
use Rattle.std.proofs.lemmas.Grind.{common_steps}
use Rattle.sparse_memory.proofs.Numbers.{power_bound, power_step}
use Rattle.lfi_machine.proofs.slot.SlotMemory.+number.Goals as goal

pub overflow_mul-result : goal.overflow_mul-result
overflow_mul-result t c =
    let b = power_bound (c.args.bytes - 1) (omega arith) in
    let s = c.number.ensures.small in
    grind (arith, b, s)

pub overflow_add-result : goal.overflow_add-result
overflow_add-result t c =
    let b = power_bound (c.args.bytes - 1) (omega arith) in
    let s = c.number.ensures.small in
    grind (arith, b, s, common_steps)

pub returns-else-bytes-eq0-clause-small : goal.returns-else-bytes-eq0-clause-small
returns-else-bytes-eq0-clause-small t c =
    let b = power_step c.args.bytes (omega arith) in
    let s = c.number.ensures.small in
    grind (arith, b, s, common_steps)
