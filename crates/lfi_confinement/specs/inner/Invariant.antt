-- What holds of the registers at each word of lawful code: they are lawful, but that a word before it may have left one need
-- open, which the word at pc meets; or that one is calm, and a probe comes after it.
use Rattle.std.specs.Prelude.{◌≡◌, ℕ, zero, suc, ◌+◌, ◌%◌, ◌<◌, ◌≤◌, ◌^◌, ◌⊎◌, length, IsTrue, ⊤}
use Rattle.a64_word.specs.declared.instruction.Instruction.{Instruction}
use Rattle.lfi_rules.specs.declared.needs.Need.{Need}
use Rattle.lfi_rules.specs.declared.needs.Need.TheVariants.{Nothing, Call, Guard, Probe}
use Rattle.lfi_rules.specs.Needs.{probes_stack, meets_of}
use Rattle.lfi_rules.specs.Calm.{is_calm}
use Rattle.lfi_rules.specs.Registers as registers
use Rattle.a64_semantics.specs.declared.registers.Registers.{Registers}
use Rattle.a64_semantics.specs.Registers.{x_at}
use Rattle.lfi_rules.specs.Map.{entry_count, slot_size, stack_reach}
use Rattle.lfi_confinement.specs.Slots.{base, InSlot, entry_address}
use Rattle.lfi_confinement.specs.Moves.{Fetches}
use Rattle.lfi_image.specs.Image.{Image}

-- x30 is an entry before a call of the runtime, anything before its guard, and in the slot elsewhere.
abbrev pub IsLinkFor : (from : ℕ) → Need → (value : ℕ) → Type 0
IsLinkFor from Nothing value = InSlot from value
IsLinkFor from Call value = (j : ℕ) × (j < entry_count) × (value ≡ entry_address j)
IsLinkFor from Guard value = ⊤
IsLinkFor from (Probe count) value = InSlot from value

-- how far sp may be from the slot: before a probe, by an immediate of 12 bits more
abbrev pub reach_for : Need → ℕ
reach_for (Probe count) = 4607
reach_for need = stack_reach

pub record IsStackFor (from : ℕ) (need : Need) (sp : ℕ) : Type 0 where
  pub low : from ≤ sp + reach_for need
  pub high : sp < from + slot_size + reach_for need

-- The registers are lawful but for a need.
pub record HeldFor (from : ℕ) (need : Need) (r : Registers) : Type 0 where
  pub count : length r.x ≡ 31
  pub base : x_at r registers.base ≡ from
  pub first_address : InSlot from (x_at r registers.first_address)
  pub second_address : InSlot from (x_at r registers.second_address)
  pub third_address : InSlot from (x_at r registers.third_address)
  pub link : IsLinkFor from need (x_at r registers.link)
  pub offset : x_at r registers.offset < 2 ^ 32
  pub stack : IsStackFor from need r.sp
  pub pc : InSlot from r.pc
  pub flags : r.nzcv < 16

-- From an address on a probe comes among `count` instructions, and those before it are calm; or the code ends before it.
abbrev pub Awaits : Image → (address count : ℕ) → Type 0
Awaits c address zero = ⊥
Awaits c address (suc count) =
    (i : Instruction) → Fetches c address i
    → IsTrue (probes_stack i) ⊎ (IsTrue (is_calm c.profile i) × Awaits c ((address + 4) % 2 ^ 64) count)

-- The instruction at an address, if there is one, meets a need; for a probe, it or a later one.
abbrev pub IsMet : Image → Need → (address : ℕ) → Type 0
IsMet c Nothing address = ⊤
IsMet c Call address = (i : Instruction) → Fetches c address i → IsTrue (meets_of i Call)
IsMet c Guard address = (i : Instruction) → Fetches c address i → IsTrue (meets_of i Guard)
IsMet c (Probe count) address = Awaits c address count

-- The registers are lawful but for one need, which is met from pc on.
pub record IsSafe (c : Image) (r : Registers) : Type 0 where
  pub need : Need
  pub held : HeldFor (base c) need r
  pub met : IsMet c need r.pc
