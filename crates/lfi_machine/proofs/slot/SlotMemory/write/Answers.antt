use Rattle.std.proofs.Common.{◌≡◌, ℕ, ◌+◌, ◌-◌, arith, subst}
use Rattle.sparse_memory.specs.Kept.{IsKept}
use Rattle.lfi_machine.proofs.slot.SlotMemory.write.Goals as goal

pub put-requires : goal.put-requires
put-requires c =
    let same : c.args.at - c.self.inside.base + 0 ≡ c.args.at - c.self.inside.base = omega arith in
    subst (λ (o : ℕ). IsKept c.keep.new.self o) same (c.in-Ok.ensures.ok 0 (omega arith))
