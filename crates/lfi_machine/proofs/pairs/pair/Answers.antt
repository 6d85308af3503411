use Rattle.std.proofs.Common.{ℕ, ◌+◌, ◌-◌, ◌^◌, ◌<◌, not, refl, sym, subst}
use Rattle.std.specs.Prelude.{if◌then◌else◌}
use Rattle.sparse_memory.specs.Kept.{KeepsOnly}
use Rattle.a64_word.specs.declared.instruction.Instruction.TheVariants.{Pair}
use Rattle.a64_effects.specs.Effects.{pair_bytes}
use Rattle.a64_semantics.specs.Accesses.{touch_at}
use Rattle.lfi_machine.specs.inner.Addresses.{pair_access}
use Rattle.lfi_confinement.specs.Slots.{base}
use Rattle.lfi_machine.proofs.Carried.{access_done, guarded_below}
use Rattle.lfi_machine.proofs.pairs.pair.Goals as goal

pub returns-clause-accesses : goal.returns-clause-accesses
returns-clause-accesses c =
    access_done (Pair c.args.i.now) (pair_access c.args.i.now) c.args.slot.now c.pair_at.new.slot c.args.registers.now c.pair_at.new.registers
    c.pair_address-address.result _ c.pair_at.result refl refl refl c.requires.confined c.pair_address-address.ensures c.pair_base-moved.ensures c.pair_at.ensures.done

pub pair_at-requires : goal.pair_at-requires
pair_at-requires c =
    let i = c.args.i.now in
    subst (λ (a : ℕ). a + pair_bytes i.width < 2 ^ 64) (sym c.pair_address-address.ensures)
    (guarded_below c.args.slot.now (Pair i) c.args.registers.now (touch_at (Pair i) c.args.registers.now (pair_access i)) c.requires.image c.requires.confined)

pub returns-clause-keeps : goal.returns-clause-keeps
returns-clause-keeps c =
    let i = c.args.i.now in
    let old = c.args.slot.now in
    subst (λ (a : ℕ). KeepsOnly old.kept c.pair_at.new.slot.kept (a - base old.image) (if not i.load then pair_bytes i.width else 0)) c.pair_address-address.ensures c.pair_at.ensures.keeps
