-- Why registers are refused at the start, the first reason in the order of their numbers.
use Rattle.std.specs.Prelude.{ℕ, ◌+◌, ◌^◌, Bool, ◌==◌, ◌&&◌, nat_lt, nat_le, if◌then◌else◌, [], ◌∷◌, Option, Some, None}
use Rattle.lfi_module.specs.Numbers.{base_of}
use Rattle.lfi_image.specs.Image.{Image}
use Rattle.lfi_rules.specs.Registers as registers
use Rattle.a64_semantics.specs.declared.registers.Registers.{Registers}
use Rattle.a64_semantics.specs.Registers.{x_at}
use Rattle.lfi_rules.specs.Map.{slot_size, stack_reach}
use Rattle.lfi_confinement.specs.Slots.{is_in_slot, word_address}
use Rattle.lfi_machine.specs.declared.start.StartFault.{StartFault}
use Rattle.lfi_machine.specs.declared.start.StartFault.TheVariants as faults

-- x18, x23, x24 and x30 hold addresses in the slot
abbrev pub addresses_held : (from : ℕ) → Registers → Bool
addresses_held from r =
    is_in_slot from (x_at r registers.first_address) && is_in_slot from (x_at r registers.second_address)
    && is_in_slot from (x_at r registers.third_address) && is_in_slot from (x_at r registers.link)

-- sp lies in the slot, or close to it
abbrev pub stack_held : (from : ℕ) → Registers → Bool
stack_held from r = nat_le from (r.sp + stack_reach) && nat_lt r.sp (from + slot_size + stack_reach)

-- why no run may start with these registers, the first reason in order
abbrev pub refusal_of : (from : ℕ) → Registers → Option StartFault
refusal_of from r =
    if x_at r registers.base == from then
    (if addresses_held from r then
    (if nat_lt (x_at r registers.offset) (2 ^ 32) then
    (if stack_held from r then
    (if is_in_slot from r.pc then
    (if nat_lt r.nzcv 16 then None
    else Some faults.Flags) else Some faults.Pc) else Some faults.Stack) else Some faults.Offset) else Some faults.Address) else Some faults.Base

-- The registers that an image starts from: x18, x21, x23, x24 and x30 hold the slot's base, sp the end of the slot, pc the address
-- of the entry word, and all else is 0.
abbrev pub start_of : Image → Registers
start_of image =
    let from = base_of image.slot in
    record {
      x = 0 ∷ 0 ∷ 0 ∷ 0 ∷ 0 ∷ 0 ∷ 0 ∷ 0 ∷ 0 ∷ 0 ∷ 0 ∷ 0 ∷ 0 ∷ 0 ∷ 0 ∷ 0 ∷ 0 ∷ 0 ∷ from ∷ 0 ∷ 0 ∷ from ∷ 0 ∷ from ∷ from ∷ 0 ∷ 0 ∷ 0 ∷ 0 ∷ 0 ∷ from ∷ [];
      sp = from + slot_size;
      pc = word_address from image.entry;
      nzcv = 0;
    }

-- the number of a refusal
abbrev pub refusal_number : StartFault → ℕ
refusal_number faults.Base = 1
refusal_number faults.Address = 2
refusal_number faults.Offset = 3
refusal_number faults.Stack = 4
refusal_number faults.Pc = 5
refusal_number faults.Flags = 6
refusal_number faults.NoMemory = 7
