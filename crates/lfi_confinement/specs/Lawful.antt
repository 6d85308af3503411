-- Lawful registers. Source: this project's profile, docs/PROFILE.md.
use Rattle.std.specs.Prelude.{◌≡◌, ℕ, ◌+◌, ◌^◌, ◌<◌, ◌≤◌, length}
use Rattle.lfi_rules.specs.Registers as registers
use Rattle.a64_semantics.specs.declared.registers.Registers.{Registers}
use Rattle.a64_semantics.specs.Registers.{x_at}
use Rattle.lfi_rules.specs.Map.{slot_size, stack_reach}
use Rattle.lfi_confinement.specs.Slots.{InSlot}

-- The registers are lawful in the slot that begins at `from`.
pub record Held (from : ℕ) (r : Registers) : Type 0 where
  pub count : length r.x ≡ 31
  pub base : x_at r registers.base ≡ from
  pub first_address : InSlot from (x_at r registers.first_address)
  pub second_address : InSlot from (x_at r registers.second_address)
  pub third_address : InSlot from (x_at r registers.third_address)
  pub link : InSlot from (x_at r registers.link)
  pub offset : x_at r registers.offset < 2 ^ 32
  pub stack_low : from ≤ r.sp + stack_reach
  pub stack_high : r.sp < from + slot_size + stack_reach
  pub pc : InSlot from r.pc
  pub flags : r.nzcv < 16
